-- What a strip that passed the check is, for the proofs of calls that use its records. Assumes nothing.
use Prim.Native.Nat.{ℕ, zero, suc, ◌+◌, ◌*◌, ◌≤◌, ◌<◌}
use mathlib.Core.Path.{◌≡◌, refl, sym, ◌∙◌}
use mathlib.Core.List.{List, [], ◌∷◌}
use mathlib.Core.Bool.{Bool, true, false, not, ◌||◌}
use native.Mathlib.Omega.{arith}
use lib.ListN.{length, get_or, take, drop, length-drop}
use lib.Seq.{get_or-drop, drop-drop}
use lib.Dec.{eqb}
use borrow.Author.Tests.{lt-ltb, le-ltb, ltb-false, eqb-true, not-false}
use Rattle.refusal.specs.Answer.{first, above, passes}
use Rattle.refusal.proofs.First.{clash, neither, both_true, passes_first, found}
use Rattle.strip.specs.Strip.{version, key_size, record_bytes, same_form, bad_framing, spent, unknown_version, wrong_record_bytes, bad_third, bad_record, check_list, block_checks, own_checks, whole_record, record_part}

pub record Fit (s : List ℕ) (size : ℕ) : Type 0 where
  pub long : 4 ≤ length s
  pub key : key_size s ≡ size
  -- three for each of 160, 192 or 224 S-boxes
  pub bytes : record_bytes s ≡ 12 * size + 288
  pub there : (i : ℕ) → 4 + 3 * i + 3 ≤ length s → record_part s i ≡ take 3 (drop (4 + 3 * i) s)
  pub small : (i : ℕ) → 4 + 3 * i + 3 ≤ length s → get_or s (4 + 3 * i + 2) 0 ≤ 3

-- the records, one more at a time
third_first : (l : List ℕ) → 3 ≤ length l → bad_third l ≡ (above 3 (get_or l 2 0) || bad_third (drop 3 l))
unfolding bad_third
third_first [] h = absurd (omega arith)
third_first (a ∷ []) h = absurd (omega arith)
third_first (a ∷ b ∷ []) h = absurd (omega arith)
third_first (a ∷ b ∷ third ∷ l) h = refl

pub third_none : (l : List ℕ) → length l < 3 → bad_third l ≡ false
unfolding bad_third
third_none [] h = refl
third_none (a ∷ []) h = refl
third_none (a ∷ b ∷ []) h = refl
third_none (a ∷ b ∷ third ∷ l) h = absurd (omega arith)

pub third_at : (s : List ℕ) (i : ℕ) → 4 + 3 * i + 3 ≤ length s → bad_third (drop (4 + 3 * i) s) ≡ (above 3 (get_or s (4 + 3 * i + 2) 0) || bad_third (drop (4 + 3 * i + 3) s))
third_at s i h = rw (← get_or-drop (4 + 3 * i) s 2 0, ← drop-drop 3 (4 + 3 * i) s) (third_first (drop (4 + 3 * i) s) (omega (arith, length-drop (4 + 3 * i) s)))

-- one of three, where not none
one_of : (a b c : Bool) {P : Type 0} → not (a || (b || (c || false))) ≡ false → (a ≡ true → P) → (b ≡ true → P) → (c ≡ true → P) → P
one_of true b c e f g h = f refl
one_of false true c e f g h = g refl
one_of false false true e f g h = h refl
one_of false false false e f g h = clash cc

bytes_of : (v k n key bytes : ℕ) → same_form (v, (k, n)) (1, (key, bytes)) ≡ true → bytes ≡ 12 * key + 288 → n ≡ 12 * k + 288
bytes_of v k n key bytes e h =
    let rest = (both_true (eqb v 1) _ e).1 in
    let p : k ≡ key = eqb-true k key (both_true (eqb k key) (eqb n bytes) rest).0 in
    let q : n ≡ bytes = eqb-true n bytes (both_true (eqb k key) (eqb n bytes) rest).1 in
    omega arith

module _ (s : List ℕ) where
  pub unspoilt : bad_framing s ≡ false → 4 ≤ length s
  unfolding bad_framing
  unspoilt e = ltb-false (length s) 4 (neither _ _ e).0

  right_bytes : wrong_record_bytes s ≡ false → record_bytes s ≡ 12 * key_size s + 288
  unfolding wrong_record_bytes
  right_bytes e =
      one_of _ _ _ e
      (λ p. bytes_of (version s) (key_size s) (record_bytes s) 16 480 p refl)
      (λ p. bytes_of (version s) (key_size s) (record_bytes s) 24 576 p refl)
      (λ p. bytes_of (version s) (key_size s) (record_bytes s) 32 672 p refl)

  handed_out : (i : ℕ) → bad_framing s ≡ false → spent s ≡ false → unknown_version s ≡ false → 4 + 3 * i + 3 ≤ length s
      → record_part s i ≡ take 3 (drop (4 + 3 * i) s)
  unfolding first whole_record
  handed_out i f v u h = rw (f, u, v, le-ltb _ _ h) refl

  -- no record is bad from any of them on
  still : bad_record s ≡ false → (i : ℕ) → 4 + 3 * i ≤ length s → bad_third (drop (4 + 3 * i) s) ≡ false
  still e zero h = e
  still e (suc i) h =
      let n : 4 + 3 * suc i ≡ 4 + 3 * i + 3 = omega arith in
      rw n (neither (above 3 (get_or s (4 + 3 * i + 2) 0)) _ (sym (third_at s i (omega arith)) ∙ still e i (omega arith))).1

  thirds : bad_record s ≡ false → (i : ℕ) → 4 + 3 * i + 3 ≤ length s → get_or s (4 + 3 * i + 2) 0 ≤ 3
  thirds e i h = ltb-false 3 (get_or s (4 + 3 * i + 2) 0) (neither (above 3 (get_or s (4 + 3 * i + 2) 0)) _ (sym (third_at s i h) ∙ still e i (omega arith))).0

-- past the last record there is none, whatever the checks say
either_way : (checks : List (ℕ × Bool)) (l : List ℕ) → first checks (λ _. l) l ≡ l
unfolding first
either_way [] l = refl
either_way ((n, true) ∷ checks) l = refl
either_way ((n, false) ∷ checks) l = either_way checks l

pub past : (s : List ℕ) (i : ℕ) → length s < 4 + 3 * i + 3 → record_part s i ≡ []
unfolding whole_record
past s i h = rw (lt-ltb (length s) (4 + 3 * i + 3) h) (either_way ((7, bad_framing s) ∷ (8, unknown_version s) ∷ (11, spent s) ∷ []) [])

-- what no refusal of the list leaves
record Unrefused (s : List ℕ) (sized : Bool) : Type 0 where
  framed : bad_framing s ≡ false
  unspent : spent s ≡ false
  known : unknown_version s ≡ false
  right_size : sized ≡ false
  counted : wrong_record_bytes s ≡ false
  thirds_small : bad_record s ≡ false

unrefused : (s : List ℕ) (sized : Bool) → passes (check_list s sized) ≡ true → Unrefused s sized
unrefused s sized e =
    let p7 = passes_first 7 (bad_framing s) _ e in
    let p11 = passes_first 11 (spent s) _ p7.1 in
    let p8 = passes_first 8 (unknown_version s) _ p11.1 in
    let p9 = passes_first 9 sized _ p8.1 in
    let p12 = passes_first 12 (wrong_record_bytes s) _ p9.1 in
    let p10 = passes_first 10 (bad_record s) _ p12.1 in
    record { framed = p7.0; unspent = p11.0; known = p8.0; right_size = p9.0; counted = p12.0; thirds_small = p10.0 }

-- a strip that passed by itself is no longer than those of 32-byte keys
pub own_short : (s : List ℕ) → passes (own_checks s) ≡ true → length s ≤ 676
own_short s e =
    let u = unrefused s _ e in
    let b : record_bytes s ≡ 12 * key_size s + 288 = right_bytes s u.counted in
    found 16 24 32 (key_size s) u.right_size (λ k. omega arith) (λ k. omega arith) (λ k. omega arith)

pub good : (s : List ℕ) (size : ℕ) → passes (block_checks s size) ≡ true → Fit s size
good s size e =
    let u = unrefused s _ e in
    let k : key_size s ≡ size = eqb-true (key_size s) size (not-false _ u.right_size) in
    record {
      long = unspoilt s u.framed;
      key = k;
      bytes = rw (← k) (right_bytes s u.counted);
      there = λ i h. handed_out s i u.framed u.unspent u.known h;
      small = λ i h. thirds s u.thirds_small i h;
    }
