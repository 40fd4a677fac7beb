-- Messages written over zeros, from the room where a strip stands. Assumes nothing.
use Prim.Native.Nat.{ℕ, ◌+◌, ◌-◌, ◌*◌, ◌%◌, ◌≤◌, min}
use native.Mathlib.Omega.{arith}
use mathlib.Core.Path.{◌≡◌, refl, sym, ap, ◌∙◌}
use mathlib.Core.List.{List, [], ◌++◌, append_assoc}
use lib.ListN.{length, take, drop, replicate, length-append}
use Rattle.std.proofs.lemmas.List.{take_min, length-take}
use lib.Seq.{drop-drop, take-take}
use borrow.Rule.Slice.PartMut.{put_mid}
use Rattle.strip.specs.Strip.{length_field}
use Rattle.pool_numbers.specs.Numbers.{number_bytes}
use Rattle.pool_message.specs.Message.{front_bytes, addition, taking}
use Rattle.pool_rooms.specs.Rooms.{room_at, padded, strip_in}
use Rattle.pool_rooms.proofs.Places.{drop_zeros, room_read, room_short}

-- ---- the strip in a room
pub strip_cut : (room : List ℕ) (field size : ℕ) → field ≡ length_field room → size ≡ min (field + 2) (length room) → take size room ≡ strip_in room
unfolding strip_in
strip_cut room field size f e = ap (λ (k : ℕ). take k room) (e ∙ ap (λ (k : ℕ). min (k + 2) (length room)) f) ∙ take_min (length_field room + 2) room

-- so many bytes of the room, however they are counted
pub strip_read : (room : List ℕ) (n : ℕ) → n ≡ length (strip_in room) → take n room ≡ strip_in room
unfolding strip_in
strip_read room n e = ap (λ (k : ℕ). take k room) (e ∙ length-take (length_field room + 2) room) ∙ take_min (length_field room + 2) room

pub strip_short : (room : List ℕ) → length (strip_in room) ≤ length room
unfolding strip_in
strip_short room = omega (arith, length-take (length_field room + 2) room)

-- ---- messages: the first twelve bytes, then what was behind them
front_length : (follows kind k n : ℕ) → length (front_bytes follows kind k ++ number_bytes n) ≡ 12
unfolding front_bytes number_bytes
front_length follows kind k n = refl

pub front_copied : (follows kind k n : ℕ) (f l m : List ℕ) → f ≡ front_bytes follows kind k → l ≡ number_bytes n → put_mid 8 4 (f ++ drop 8 m) l ≡ (front_bytes follows kind k ++ number_bytes n) ++ drop 12 m
unfolding front_bytes number_bytes
front_copied follows kind k n f l m p q = rw (q, p, drop-drop 4 8 m) refl

-- zeros behind what stands in front
behind : (f s : List ℕ) (a b : ℕ) → length f + b ≡ a → f ++ padded b s ≡ padded a (f ++ s)
unfolding padded
behind f s a b e =
    let k : b - length s ≡ a - length (f ++ s) = omega (arith, length-append f s) in
    sym (append_assoc f s (replicate (b - length s) 0)) ∙ rw k refl

-- a strip copied over zeros, behind the place of the first twelve bytes
over_zeros : (s m part : List ℕ) (w : ℕ) → m ≡ replicate 688 0 → part ≡ s → w ≡ length s → drop 12 (put_mid 12 w m part) ≡ padded 676 s
unfolding padded
over_zeros s m part w z f v = rw (z, f, v, drop_zeros (length s) 676) refl

module _ (k n : ℕ) where
  pub addition_is : (s m part new new' : List ℕ) (l w : ℕ) → m ≡ replicate 688 0 → part ≡ s → l ≡ length s → w ≡ length s → new ≡ put_mid 12 w m part
      → new' ≡ (front_bytes (10 + l) 1 k ++ number_bytes n) ++ drop 12 new → new' ≡ padded 688 (addition k n s)
  unfolding addition
  addition_is s m part new new' l w z f g v p r =
      let front : List ℕ = front_bytes (10 + length s) 1 k ++ number_bytes n in
      let b : drop 12 new ≡ padded 676 s = ap (drop 12) p ∙ over_zeros s m part w z f v in
      let w : new' ≡ front ++ padded 676 s = r ∙ rw (b, g) refl in
      w ∙ behind front s 688 676 (omega (arith, front_length (10 + length s) 1 k n)) ∙ ap (padded 688) (append_assoc (front_bytes (10 + length s) 1 k) (number_bytes n) s)

  pub taking_is : (z new : List ℕ) → z ≡ replicate 688 0 → new ≡ (front_bytes 10 2 k ++ number_bytes n) ++ drop 12 z → new ≡ padded 688 (taking k n)
  unfolding taking padded
  taking_is z new e h =
      let l : 688 - length (front_bytes 10 2 k ++ number_bytes n) ≡ 676 = rw (front_length 10 2 k n) refl in
      h ∙ rw (e, l) refl

pub none_is : (z : List ℕ) → z ≡ replicate 688 0 → z ≡ padded 688 []
unfolding padded
none_is z e = e

pub zeros_long : (m : List ℕ) → m ≡ replicate 688 0 → length m ≡ 688
zeros_long m z = ap length z

-- the whole of an addition: the strip copied over zeros from the room where it stands, then what stands before it
pub addition_made : (k number size : ℕ) (room s m part new : List ℕ) → s ≡ strip_in room → size ≡ length s → m ≡ replicate 688 0 → part ≡ s
    → new ≡ (front_bytes (10 + size) 1 k ++ number_bytes number) ++ drop 12 (put_mid 12 (12 + size - 12) m part)
    → new ≡ padded 688 (addition k number (strip_in room))
addition_made k number size room s m part new e f z p q =
    let l : size ≡ length (strip_in room) = f ∙ ap length e in
    addition_is k number (strip_in room) m part (put_mid 12 (12 + size - 12) m part) new size (12 + size - 12) z (p ∙ e) l (omega arith) refl q

-- the same of the bytes that are read off the rooms
pub addition_written : (k number n start size : ℕ) (rooms m part new : List ℕ) → start ≡ 676 * (n % 64) → start + 676 ≤ length rooms
    → size ≡ length (strip_in (take (start + 676 - start) (drop start rooms))) → size ≤ 676 → m ≡ replicate 688 0 → part ≡ take (start + size - start) (drop start rooms)
    → new ≡ (front_bytes (10 + size) 1 k ++ number_bytes number) ++ drop 12 (put_mid 12 (12 + size - 12) m part)
    → new ≡ padded 688 (addition k number (strip_in (room_at rooms n)))
addition_written k number n start size rooms m part new e g s t z p q =
    let room : take (start + 676 - start) (drop start rooms) ≡ room_at rooms n = room_read rooms n start e (start + 676 - start) refl in
    let counted : size ≡ length (strip_in (room_at rooms n)) = s ∙ ap (λ (x : List ℕ). length (strip_in x)) room in
    let cut : start + size - start ≡ size = omega arith in
    let front : take size (room_at rooms n) ≡ take size (drop start rooms) = ap (take size) (sym room) ∙ take-take size (start + 676 - start) (drop start rooms) (omega arith) in
    let strip : take (start + size - start) (drop start rooms) ≡ strip_in (room_at rooms n) = rw cut (sym front ∙ strip_read (room_at rooms n) size counted) in
    addition_made k number size (room_at rooms n) (strip_in (room_at rooms n)) m part new refl counted z (p ∙ strip) q

-- what is copied is no more than a room holds
pub strip_fits : (rooms room s : List ℕ) (n : ℕ) → room ≡ room_at rooms n → s ≡ strip_in room → length s ≤ 676
strip_fits rooms room s n e f = omega (arith, ap length f, strip_short room, ap length e, room_short rooms n)
