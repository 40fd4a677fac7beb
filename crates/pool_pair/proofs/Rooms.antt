-- Rooms in one row of bytes: a room that is written is read back, every other is unchanged, and the row stays as long; and what is held in them; from how lists are cut and joined. Assumes nothing.
use Prim.Native.Nat.{ℕ, zero, suc, ◌+◌, ◌-◌, ◌*◌, ◌%◌, ◌<◌, ◌≤◌}
use native.Mathlib.Omega.{arith}
use native.Mathlib.Nat.{add-zero, add-suc, suc-add, add-mod_right}
use mathlib.Core.Path.{◌≡◌, refl, sym, subst, ap, ◌∙◌}
use mathlib.Core.List.{List, [], ◌∷◌, ◌++◌}
use mathlib.Core.Bool.{Bool, true, false}
use lib.ListN.{length, take, drop, replicate, length-append, length-drop, length-replicate, take-append-drop}
use lib.Seq.{length-take-le, take_at, drop_at, take-append-le, drop-append-le, drop-drop}
use lib.Dec.{eqb, ltb}
use borrow.Author.Tests.{eqb-true, eqb-false, ltb-true, ltb-false}
use Rattle.pool_mirror.specs.Mirror.{Strips}
use Rattle.pool_rooms.specs.Rooms.{rooms_size, room_at, with_room, padded, filled, cleared, strip_in}
use Rattle.pool_pair.specs.Pair.{held_in}

-- a truth value decides
pub by_bool : {P : Type 0} (t : Bool) → (t ≡ true → P) → (t ≡ false → P) → P
by_bool true f g = f refl
by_bool false f g = g refl

-- ---- a part of a list is written over
module _ (l part : List ℕ) (i k : ℕ) (fits : i + k ≤ length l) (full : length part ≡ k) where
  over : List ℕ
  over = take i l ++ (part ++ drop (i + k) l)

  front : length (take i l) ≡ i
  front = length-take-le i l (omega arith)

  over_here : take k (drop i over) ≡ part
  unfolding over
  over_here = rw (drop_at (take i l) (part ++ drop (i + k) l) i front) (take_at part (drop (i + k) l) k full)

  over_length : length over ≡ length l
  unfolding over
  over_length = simp (length-append, length-drop, front) (omega arith)

  over_before : (j : ℕ) → j + k ≤ i → take k (drop j over) ≡ take k (drop j l)
  unfolding over
  over_before j h = same (part ++ drop (i + k) l) ∙ sym (same (drop i l)) ∙ ap (λ (x : List ℕ). take k (drop j x)) (take-append-drop i l) where
    same : (rest : List ℕ) → take k (drop j (take i l ++ rest)) ≡ take k (drop j (take i l))
    same rest =
        rw (drop-append-le j (take i l) rest (omega (arith, front)))
        (take-append-le k (drop j (take i l)) rest (omega (arith, length-drop j (take i l), front)))

  over_behind : (j : ℕ) → i + k ≤ j → take k (drop j over) ≡ take k (drop j l)
  unfolding over
  over_behind j h =
      let whole : i + k + (j - (i + k)) ≡ j = omega arith in
      let rest : drop (i + k) over ≡ drop (i + k) l = sym (drop-drop k i over) ∙ rw (drop_at (take i l) (part ++ drop (i + k) l) i front) (drop_at part (drop (i + k) l) k full) in
      let apart : drop j over ≡ drop j l = subst (λ (x : ℕ). drop x over ≡ drop x l) whole (sym (drop-drop (j - (i + k)) (i + k) over) ∙ ap (drop (j - (i + k))) rest ∙ drop-drop (j - (i + k)) (i + k) l) in
      ap (take k) apart

-- ---- the 64 rooms
module _ (rooms : List ℕ) (n : ℕ) (room : List ℕ) (size : length rooms ≡ rooms_size) (full : length room ≡ 676) where
  place : 676 * (n % 64) + 676 ≤ length rooms
  place = omega arith

  pub room_here : room_at (with_room rooms n room) n ≡ room
  unfolding room_at with_room over
  room_here = over_here rooms room (676 * (n % 64)) 676 place full

  pub rooms_length : length (with_room rooms n room) ≡ rooms_size
  unfolding with_room over
  rooms_length = over_length rooms room (676 * (n % 64)) 676 place full ∙ size

  pub room_there : (m : ℕ) → (m % 64 ≡ n % 64 → ⊥) → room_at (with_room rooms n room) m ≡ room_at rooms m
  unfolding room_at with_room over
  room_there m h = by_bool (ltb (m % 64) (n % 64))
      (λ t. over_before rooms room (676 * (n % 64)) 676 place full (676 * (m % 64)) (omega (arith, ltb-true (m % 64) (n % 64) t)))
      (λ f. over_behind rooms room (676 * (n % 64)) 676 place full (676 * (m % 64)) (omega (arith, h, ltb-false (m % 64) (n % 64) f)))

room_mod : (rooms : List ℕ) (m n : ℕ) → m % 64 ≡ n % 64 → room_at rooms m ≡ room_at rooms n
unfolding room_at
room_mod rooms m n e = rw e refl

-- two of 64 numbers in a row have no room in common
apart : (m n : ℕ) → m < n → n < m + 64 → m % 64 ≡ n % 64 → ⊥
apart m n h g e = omega arith

-- ---- all zero at the start
part_of_zeros : (k i n : ℕ) → i + k ≤ n → take {A = ℕ} k (drop i (replicate n 0)) ≡ replicate k 0
part_of_zeros zero i n h = refl
part_of_zeros (suc k) zero (suc n) h = ap (λ (l : List ℕ). 0 ∷ l) (part_of_zeros k zero n (omega arith))
part_of_zeros (suc k) (suc i) (suc n) h = part_of_zeros (suc k) i n (omega arith)
part_of_zeros (suc k) zero zero h = absurd (omega arith)
part_of_zeros (suc k) (suc i) zero h = absurd (omega arith)

pub room_of_zeros : (n : ℕ) → room_at (replicate rooms_size 0) n ≡ replicate 676 0
unfolding room_at
room_of_zeros n = part_of_zeros 676 (676 * (n % 64)) rooms_size (omega arith)

-- ---- what is held
module _ (rooms : List ℕ) where
  pub held_length : (n count : ℕ) → length (held_in rooms n count) ≡ count
  unfolding held_in
  held_length n zero = refl
  held_length n (suc count) = ap suc (held_length (suc n) count)

  pub held_more : (n count : ℕ) → held_in rooms n (suc count) ≡ held_in rooms n count ++ ((suc (n + count), strip_in (room_at rooms (n + count))) ∷ [])
  unfolding held_in
  held_more n zero = rw add-zero refl
  held_more n (suc count) = ap (λ (l : Strips). (suc n, strip_in (room_at rooms n)) ∷ l) (held_more (suc n) count ∙ rw (suc-add, add-suc) refl)

  pub held_same : (rooms' : List ℕ) (n count : ℕ) → ((i : ℕ) → n ≤ i → i < n + count → room_at rooms' i ≡ room_at rooms i) → held_in rooms' n count ≡ held_in rooms n count
  unfolding held_in
  held_same rooms' n zero h = refl
  held_same rooms' n (suc count) h = rw (h n (omega arith) (omega arith), held_same rooms' (suc n) count (λ i p q. h i (omega arith) (omega arith))) refl

-- ---- rooms in use hold the strips from + 1 to added; every other is zero
pub record Filled (from added : ℕ) (rooms : List ℕ) : Type 0 where
  pub ordered : from ≤ added
  pub fits : added ≤ from + 64
  pub size : length rooms ≡ rooms_size
  pub free : (n : ℕ) → added ≤ n → n < from + 64 → room_at rooms n ≡ replicate 676 0

pub none_filled : Filled 0 0 (replicate rooms_size 0)
none_filled = record {
  ordered = omega arith;
  fits = omega arith;
  size = length-replicate {A = ℕ} rooms_size 0;
  free = λ n p q. room_of_zeros n;
}

module _ {from added : ℕ} {rooms : List ℕ} (v : Filled from added rooms) where
  -- the next strip goes into a free room
  module _ (s : List ℕ) (short : length s ≤ 676) (space : added < from + 64) where
    padded_length : length (padded 676 s) ≡ 676
    unfolding padded
    padded_length = simp (length-append, length-replicate) (omega arith)

    pub next_filled : Filled from (added + 1) (filled rooms added s)
    unfolding filled
    next_filled = record {
      ordered = omega (arith, v.ordered);
      fits = omega arith;
      size = rooms_length rooms added (padded 676 s) v.size padded_length;
      free = λ n p q.
          room_there rooms added (padded 676 s) v.size padded_length n (λ e. apart added n (omega arith) (omega (arith, v.ordered)) (sym e))
          ∙ v.free n (omega arith) q;
    }

    pub filled_here : room_at (filled rooms added s) added ≡ padded 676 s
    unfolding filled
    filled_here = room_here rooms added (padded 676 s) v.size padded_length

    pub filled_held : (n count : ℕ) → from ≤ n → n + count ≤ added → held_in (filled rooms added s) n count ≡ held_in rooms n count
    unfolding filled
    filled_held n count p q =
        held_same rooms (with_room rooms added (padded 676 s)) n count
        (λ i a b. room_there rooms added (padded 676 s) v.size padded_length i (λ e. apart i added (omega arith) (omega arith) e))

  -- the lowest strip's room is zeroed
  zeros : length {A = ℕ} (replicate 676 0) ≡ 676
  zeros = length-replicate {A = ℕ} 676 0

  pub first_cleared : from < added → Filled (from + 1) added (cleared rooms from)
  unfolding cleared
  first_cleared h = record {
    ordered = omega arith;
    fits = omega (arith, v.fits);
    size = rooms_length rooms from (replicate 676 0) v.size zeros;
    free = λ n p q. by_bool (eqb n (from + 64))
        (λ t. room_mod (with_room rooms from (replicate 676 0)) n from (ap (λ (x : ℕ). x % 64) (eqb-true n (from + 64) t) ∙ add-mod_right from 64) ∙ room_here rooms from (replicate 676 0) v.size zeros)
        (λ f. room_there rooms from (replicate 676 0) v.size zeros n (λ e. apart from n (omega arith) (omega (arith, eqb-false n (from + 64) f)) (sym e)) ∙ v.free n p (omega (arith, eqb-false n (from + 64) f)));
  }

  pub cleared_held : (n count : ℕ) → from < n → n + count ≤ added → held_in (cleared rooms from) n count ≡ held_in rooms n count
  unfolding cleared
  cleared_held n count p q =
      held_same rooms (with_room rooms from (replicate 676 0)) n count
      (λ i a b. room_there rooms from (replicate 676 0) v.size zeros i (λ e. apart from i (omega arith) (omega (arith, v.fits)) (sym e)))
