-- Parts of the rooms written and read, as the definitions have them. Assumes nothing.
use Prim.Native.Nat.{ℕ, zero, suc, ◌+◌, ◌-◌, ◌*◌, ◌%◌, ◌<◌, ◌≤◌, min}
use native.Mathlib.Omega.{arith}
use mathlib.Core.Path.{◌≡◌, refl, ap, ◌∙◌}
use mathlib.Core.List.{List, [], ◌++◌, append-nil}
use lib.ListN.{length, take, drop, replicate, length-drop, drop_of_length-le}
use lib.Seq.{take-length, length-take-le, drop-drop}
use Rattle.std.proofs.Math.Nat.{min_comm}
use Rattle.std.proofs.lemmas.List.{take_all, take_min, drop_min, length-take}
use borrow.Author.Tests.{le-leb, lt-leb}
use borrow.Rule.Slice.PartMut.{put_mid}
use Rattle.refusal.specs.Part.{on_length}
use Rattle.refusal.proofs.Part.{of_length}
use Rattle.pool_rooms.specs.Rooms.{rooms_size, room_at, with_room, padded, filled, filled_by}

pub drop_zeros : (n m : ℕ) → drop {A = ℕ} n (replicate m 0) ≡ replicate (m - n) 0
drop_zeros zero m = let e : m - 0 ≡ m = omega arith in rw e refl
drop_zeros (suc n) zero = let e : 0 - suc n ≡ 0 = omega arith in rw e refl
drop_zeros (suc n) (suc m) = let e : suc m - suc n ≡ m - n = omega arith in rw e (drop_zeros n m)

-- bytes copied over zeros
pub padded_is : (from part z new : List ℕ) → z ≡ replicate (length part) 0 → new ≡ take (length from) from ++ drop (length from) z → new ≡ padded (length part) from
unfolding padded
padded_is from part z new e h = h ∙ rw (e, take-length from, drop_zeros (length from) (length part)) refl

-- ---- a room, which begins at start
module _ (rooms : List ℕ) (n start : ℕ) (e : start ≡ 676 * (n % 64)) where
  pub room_put : (room : List ℕ) → put_mid start (start + 676 - start) rooms room ≡ with_room rooms n room
  unfolding with_room
  room_put room =
      let k : start + 676 - start ≡ 676 = omega arith in
      let d : drop 676 (drop start rooms) ≡ drop (start + 676) rooms = drop-drop 676 start rooms in
      rw (k, d, e) refl

  -- the part of the rooms that a call is lent
  mid : List ℕ
  mid = take (start + 676 - start) (drop start rooms)

  mid_length : start + 676 ≤ length rooms → length mid ≡ 676
  unfolding mid
  mid_length h = length-take-le (start + 676 - start) (drop start rooms) (omega (arith, length-drop start rooms)) ∙ omega arith

  pub room_filled : (s room : List ℕ) → start + 676 ≤ length rooms → room ≡ padded (length (take (start + 676 - start) (drop start rooms))) s → put_mid start (start + 676 - start) rooms room ≡ filled rooms n s
  unfolding filled mid
  room_filled s room l h = room_put room ∙ ap (with_room rooms n) (h ∙ ap (λ (k : ℕ). padded k s) (mid_length l))

  -- handed out by its bounds, which are held to the length of the rooms
  pub room_whole : (from : List ℕ) (cut size : ℕ) → cut ≡ min start (length rooms) → from ≡ take (length rooms - cut) (drop cut rooms) → size ≡ min (length from) 676 → take size from ≡ room_at rooms n
  unfolding room_at
  room_whole from cut size f w g =
      let all : from ≡ drop start rooms = w ∙ take_all (length rooms - cut) (drop cut rooms) (omega (arith, length-drop cut rooms)) ∙ ap (λ (k : ℕ). drop k rooms) f ∙ drop_min start rooms in
      ap (λ (k : ℕ). take k from) (g ∙ min_comm (length from) 676) ∙ take_min 676 from ∙ ap (take 676) all ∙ ap (λ (k : ℕ). take 676 (drop k rooms)) e

  pub room_read : (k : ℕ) → k ≡ start + 676 - start → take k (drop start rooms) ≡ room_at rooms n
  unfolding room_at
  room_read k h = let i : k ≡ 676 = omega arith in rw (i, e) refl

  -- the room's bytes, copied over the whole of a part as long
  pub room_copied : (k : ℕ) (strip strip' : List ℕ) → k ≡ start + 676 - start → length strip ≡ 676 → start + 676 ≤ length rooms
      → let room = take k (drop start rooms) in strip' ≡ take (length room) room ++ drop (length room) strip → strip' ≡ room_at rooms n
  room_copied k strip strip' h l g p =
      let i : k ≡ 676 = omega arith in
      let room : List ℕ = take k (drop start rooms) in
      let m : length room ≡ 676 = length-take-le k (drop start rooms) (omega (arith, length-drop start rooms)) ∙ i in
      let z : drop (length room) strip ≡ [] = drop_of_length-le strip {i = length room} (omega arith) in
      p ∙ rw (z, take-length room, append-nil room) (room_read k h)

-- a room of rooms that are whole is whole
pub room_length : (rooms : List ℕ) (n : ℕ) → length rooms ≡ rooms_size → length (room_at rooms n) ≡ 676
unfolding room_at
room_length rooms n h = length-take-le 676 (drop (676 * (n % 64)) rooms) (omega (arith, length-drop (676 * (n % 64)) rooms))

-- and no room is longer
pub room_short : (rooms : List ℕ) (n : ℕ) → length (room_at rooms n) ≤ 676
unfolding room_at
room_short rooms n = omega (arith, length-take 676 (drop (676 * (n % 64)) rooms))

-- ---- a strip put in, where a room can hold it
module _ (n : ℕ) (s l x : List ℕ) where
  pub put_in : length s ≤ 676 → x ≡ filled l n s → x ≡ filled_by n s l
  unfolding filled_by
  put_in h e = rw (le-leb (length s) 676 h) e

  pub too_long : 676 < length s → x ≡ l → x ≡ filled_by n s l
  unfolding filled_by
  too_long h e = rw (lt-leb (length s) 676 h) e

  pub put_whole : length l ≡ rooms_size → length s ≤ 676 → x ≡ on_length rooms_size (filled_by n s) l → x ≡ filled l n s
  unfolding filled_by
  put_whole h g e = of_length (filled_by n s) l x h e ∙ rw (le-leb (length s) 676 g) refl
