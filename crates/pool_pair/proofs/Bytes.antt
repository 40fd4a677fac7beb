-- What is written as bytes is read back: numbers of 32 bits, states, messages, and strips that passed their checks; from how each is written and read. Assumes nothing.
use Prim.Native.Nat.{ℕ, ◌+◌, ◌-◌, ◌*◌, ◌/◌, ◌%◌, ◌<◌, ◌≤◌}
use native.Mathlib.Omega.{arith}
use native.Mathlib.Nat.{div-div-eq-div-mul, div-add-mod'}
use mathlib.Core.Path.{◌≡◌, refl, sym, ap}
use mathlib.Core.List.{List, [], ◌∷◌, ◌++◌}
use mathlib.Core.Bool.{true, false}
use lib.ListN.{length, get_or, drop, replicate, get_or-append}
use lib.Seq.{take_at}
use lib.Dec.{ltb}
use borrow.Author.Tests.{le-ltb, eq-eqb, ne_eqb, eqb-true, not-false}
use Rattle.refusal.specs.Answer.{is_not, passes}
use Rattle.std.specs.Prelude.{Some}
use Rattle.refusal.proofs.First.{neither, passes_first}
use Rattle.strip.specs.Strip.{length_field, bad_framing, own_checks}
use Rattle.strip.proofs.Good.{unspoilt, own_short}
use Rattle.pool_numbers.specs.Numbers.{number_bytes, number_at}
use Rattle.pool_message.specs.Message.{front_bytes, addition, taking, acknowledgement, misframed, is_of, read_of}
use Rattle.pool_message.proofs.Laws.{adds}
use Rattle.pool_message.specs.declared.Message.TheVariants.{Adds, Takes, Acknowledges}
use Rattle.pool_state.specs.declared.State.{State}
use Rattle.pool_mirror.specs.Mirror.{most}
use Rattle.pool_state.specs.State.{state_in, state_bytes}
use Rattle.pool_rooms.specs.Rooms.{padded, strip_in}
use Rattle.pool_pair.specs.Pair.{sent_in}

-- ---- numbers
four : (k q1 q2 q3 r0 r1 r2 r3 : ℕ) → q1 * 256 + r0 ≡ k → q2 * 256 + r1 ≡ q1 → q3 * 256 + r2 ≡ q2 → r3 ≡ q3 → ((r3 * 256 + r2) * 256 + r1) * 256 + r0 ≡ k
four k q1 q2 q3 r0 r1 r2 r3 a b c d = omega arith

joined : (k : ℕ) → k ≤ most → ((k / 16777216 % 256 * 256 + k / 65536 % 256) * 256 + k / 256 % 256) * 256 + k % 256 ≡ k
joined k h =
    let a : k / 256 / 256 ≡ k / 65536 = div-div-eq-div-mul k 256 256 in
    let b : k / 65536 / 256 ≡ k / 16777216 = div-div-eq-div-mul k 65536 256 in
    let c : k / 65536 * 256 + k / 256 % 256 ≡ k / 256 = omega (arith, div-add-mod' (k / 256) 256) in
    let d : k / 16777216 * 256 + k / 65536 % 256 ≡ k / 65536 = omega (arith, div-add-mod' (k / 65536) 256) in
    let e : k / 16777216 < 256 = omega arith in
    four k (k / 256) (k / 65536) (k / 16777216) _ _ _ _ (omega arith) c d (omega arith)

pub number_back : (k : ℕ) → k ≤ most → number_at (number_bytes k) 0 ≡ k
unfolding number_at number_bytes
number_back k h = joined k h

-- ---- states
module _ (m : State) where
  pub state_back : m.added ≤ most → m.taken ≤ most → state_in (state_bytes m) ≡ m
  unfolding state_in state_bytes number_at number_bytes
  state_back a t = rw (joined m.added a, joined m.taken t) refl

-- ---- messages
follows_back : (n : ℕ) → n < 65536 → n / 256 % 256 * 256 + n % 256 ≡ n
follows_back n h = omega arith

-- zeros behind it hide nothing of what is written
field_front : (s t : List ℕ) → 2 ≤ length s → length_field (s ++ t) ≡ length_field s
field_front s t h = rw (get_or-append s t 0 0 (omega arith), get_or-append s t 0 1 (omega arith)) refl

whole_sent : (bytes : List ℕ) → 4 ≤ length bytes → length_field bytes + 2 ≡ length bytes → sent_in (padded 688 bytes) ≡ bytes ∷ []
unfolding sent_in padded
whole_sent bytes h e =
    let field : length_field (bytes ++ replicate (688 - length bytes) 0) ≡ length_field bytes = field_front bytes _ (omega arith) in
    rw (field, ne_eqb (length_field bytes) 0 (λ z. omega arith), take_at bytes (replicate (688 - length bytes) 0) (length_field bytes + 2) (sym e)) refl

module _ (k n : ℕ) (s : List ℕ) where
  addition_version : get_or (addition k n s) 2 0 ≡ 1
  unfolding addition front_bytes
  addition_version = refl

  addition_kind : get_or (addition k n s) 3 0 ≡ 1
  unfolding addition front_bytes
  addition_kind = refl

  addition_sequence : k ≤ most → number_at (addition k n s) 4 ≡ k
  unfolding addition front_bytes number_at number_bytes
  addition_sequence h = joined k h

  addition_number : n ≤ most → number_at (addition k n s) 8 ≡ n
  unfolding addition front_bytes number_at number_bytes
  addition_number h = joined n h

  pub addition_strip : drop 12 (addition k n s) ≡ s
  unfolding addition front_bytes number_bytes
  addition_strip = refl

module _ (k : ℕ) (h : k ≤ most) where
  pub acknowledgement_back : read_of (acknowledgement k) ≡ Some (Acknowledges k)
  unfolding read_of misframed bad_framing is_of acknowledgement front_bytes number_at number_bytes
  acknowledgement_back = ap (λ (n : ℕ). Some (Acknowledges n)) (joined k h)

  module _ (n : ℕ) (i : n ≤ most) where
    pub taking_back : read_of (taking k n) ≡ Some (Takes k n)
    unfolding read_of misframed bad_framing is_of taking front_bytes number_at number_bytes
    taking_back = rw (joined k h, joined n i) refl

    pub taking_sent : sent_in (padded 688 (taking k n)) ≡ taking k n ∷ []
    unfolding taking front_bytes number_bytes
    taking_sent = whole_sent (taking k n) (omega arith) refl

    module _ (s : List ℕ) (short : length s ≤ 676) where
      addition_length : length (addition k n s) ≡ 12 + length s
      unfolding addition front_bytes number_bytes
      addition_length = omega arith

      addition_field : length_field (addition k n s) ≡ 10 + length s
      unfolding addition front_bytes number_bytes
      addition_field = follows_back (10 + length s) (omega arith)

      framed : misframed (addition k n s) ≡ false
      unfolding misframed bad_framing
      framed = rw (le-ltb (length (addition k n s)) 4 (omega (arith, addition_length)), eq-eqb (length_field (addition k n s)) (length (addition k n s) - 2) (omega (arith, addition_length, addition_field))) version where
        version : is_not 1 (get_or (addition k n s) 2 0) ≡ false
        version = rw (addition_version k n s) refl

      pub addition_back : read_of (addition k n s) ≡ Some (Adds k n)
      addition_back =
          sym (adds (addition k n s) k n framed (addition_kind k n s) (omega (arith, addition_length)) (sym (addition_sequence k n s h)) (sym (addition_number k n s i)))

      -- padded, as many bytes as the field says are the message
      pub addition_sent : sent_in (padded 688 (addition k n s)) ≡ addition k n s ∷ []
      addition_sent = whole_sent (addition k n s) (omega (arith, addition_length)) (omega (arith, addition_length, addition_field))

pub none_sent : sent_in (padded 688 []) ≡ []
unfolding sent_in padded
none_sent = refl

-- ---- strips
pub record GoodForm (s : List ℕ) : Type 0 where
  pub long : 4 ≤ length s
  pub short : length s ≤ 676
  pub framed : length_field s + 2 ≡ length s

-- a strip that passed its own checks
pub own_good : (s : List ℕ) → passes (own_checks s) ≡ true → GoodForm s
unfolding bad_framing
own_good s e =
    let p7 = passes_first 7 (bad_framing s) _ e in
    let long : 4 ≤ length s = unspoilt s p7.0 in
    let field : length_field s ≡ length s - 2 = eqb-true (length_field s) (length s - 2) (not-false _ (neither (ltb (length s) 4) _ p7.0).1) in
    record { long = long; short = own_short s e; framed = omega arith }

-- and it is read back from its room
pub strip_back : (s : List ℕ) → GoodForm s → strip_in (padded 676 s) ≡ s
unfolding strip_in padded
strip_back s g =
    let field : length_field (s ++ replicate (676 - length s) 0) ≡ length_field s = field_front s _ (omega (arith, g.long)) in
    rw field (take_at s (replicate (676 - length s) 0) (length_field s + 2) (sym g.framed))
