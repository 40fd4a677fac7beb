-- What the loop over the sixteen positions of a state keeps: the bytes passed are substituted, the rest as they were. Assumes nothing.
use Prim.Native.Nat.{ℕ, ◌+◌, ◌*◌, ◌/◌, ◌%◌, ◌≤◌, ◌<◌}
use native.Mathlib.Omega.{arith}
use mathlib.Core.Path.{◌≡◌, refl, sym, ap, ap₂, ◌∙◌}
use mathlib.Core.List.{List, [], ◌∷◌}
use lib.ListN.{length, get_or, set, length-set}
use Rattle.fips197.specs.Cipher.{cell, state}
use Rattle.fips197.proofs.State.{length_state}
use Rattle.fips197.proofs.Undo.{cell_of}
use Rattle.std.specs.Prelude.{Err}
use Rattle.refusal.specs.Answer.{Answer, above}
use Rattle.refusal.proofs.First.{first_part}
use Rattle.aes.proofs.Front.{front, front_none, front_step, front_here, front_done}
use Rattle.tower.specs.declared.Record.{Record}
use Rattle.sbox.specs.declared.Direction.{Direction}
use Rattle.sbox.specs.Sbox.{substituted_in_place}
use Rattle.masked_steps.specs.Steps.{record_at, boxed, all_boxed, masked_sub_bytes}
use Rattle.masked_steps.proofs.Parts.{on_states_law, no_data, no_mask}

-- ---- one byte

-- what the S-box leaves of a byte and its mask, whatever it answers
pub left : (dir : Direction) (d m : ℕ) (ρ : Record) (v : Answer (Unit {0})) (x y : ℕ) (points : List ℕ) → (v, (x, (y, points))) ≡ substituted_in_place dir d m ρ [] → ◌≡◌ {A = ℕ × ℕ} (x, y) (boxed dir d m ρ)
unfolding boxed
left dir d m ρ v x y points e =
    let both : Answer (Unit {0}) × (ℕ × (ℕ × List ℕ)) → ℕ × ℕ = λ p. (p.1.0, p.1.1.0) in
    ap both e ∙ first_part both ((2, above 3 ρ.r) ∷ []) (λ r. (Err r, (d, (m, [])))) _

-- ---- the byte at a position of the state

place : (i : ℕ) → i % 4 + 4 * (i / 4) ≡ i
place i = omega arith

get_state : (f : ℕ → ℕ → ℕ) (i : ℕ) → i < 16 → get_or (state f) i 0 ≡ f (i % 4) (i / 4)
unfolding cell
get_state f i h = ap (λ (j : ℕ). get_or (state f) j 0) (sym (place i)) ∙ cell_of f (i % 4) (i / 4) (omega arith) (omega arith)

cell_at : (l : List ℕ) (i : ℕ) → cell l (i % 4) (i / 4) ≡ get_or l i 0
unfolding cell
cell_at l i = ap (λ (j : ℕ). get_or l j 0) (place i)

module _ (dir : Direction) (s : List ℕ) (n : ℕ) (d m : List ℕ) where
  -- where a part is no state, both stay
  pub went_no_data : (length d ≡ 16 → ⊥) → (d, m) ≡ masked_sub_bytes dir s n (d, m)
  unfolding masked_sub_bytes
  went_no_data h = no_data _ d m h

  pub went_no_mask : length d ≡ 16 → (length m ≡ 16 → ⊥) → (d, m) ≡ masked_sub_bytes dir s n (d, m)
  unfolding masked_sub_bytes
  went_no_mask h g = no_mask _ d m h g

  abbrev new_data : List ℕ
  new_data = (all_boxed dir s n (d, m)).0

  abbrev new_masks : List ℕ
  new_masks = (all_boxed dir s n (d, m)).1

  data_long : length new_data ≡ 16
  unfolding all_boxed
  data_long = length_state _

  mask_long : length new_masks ≡ 16
  unfolding all_boxed
  mask_long = length_state _

  abbrev new : ℕ → ℕ × ℕ
  new i = boxed dir (get_or d i 0) (get_or m i 0) (record_at s (16 * n + i))

  data_at : (i : ℕ) → i < 16 → get_or new_data i 0 ≡ (new i).0
  unfolding all_boxed
  data_at i h = get_state _ i h ∙ rw (cell_at d i, cell_at m i, place i) refl

  mask_at : (i : ℕ) → i < 16 → get_or new_masks i 0 ≡ (new i).1
  unfolding all_boxed
  mask_at i h = get_state _ i h ∙ rw (cell_at d i, cell_at m i, place i) refl

  -- what the loop keeps: D and M are the parts so far
  pub record Went (D M : List ℕ) (i : ℕ) : Type 0 where
    pub bound : i ≤ 16
    pub long_d : length D ≡ 16
    pub long_m : length M ≡ 16
    pub is_d : D ≡ front new_data d i
    pub is_m : M ≡ front new_masks m i

  pub went_none : length d ≡ 16 → length m ≡ 16 → Went d m 0
  went_none h g = record { bound = omega arith; long_d = h; long_m = g; is_d = front_none _ _; is_m = front_none _ _ }

  module _ (D M : List ℕ) (i : ℕ) (hd : length d ≡ 16) (hm : length m ≡ 16) (went : Went D M i) where
    -- the two bytes of this position are stored
    went_stored : (x y : ℕ) (ρ : Record) → i < 16 → ρ ≡ record_at s (16 * n + i) → ◌≡◌ {A = ℕ × ℕ} (x, y) (boxed dir (get_or D i 0) (get_or M i 0) ρ) → Went (set D i x) (set M i y) (i + 1)
    went_stored x y ρ h r e =
        let here_d : get_or D i 0 ≡ get_or d i 0 = front_here new_data d D i went.is_d (data_long ∙ sym hd) (omega arith) in
        let here_m : get_or M i 0 ≡ get_or m i 0 = front_here new_masks m M i went.is_m (mask_long ∙ sym hm) (omega arith) in
        let is : ◌≡◌ {A = ℕ × ℕ} (x, y) (new i) = e ∙ rw (here_d, here_m, r) refl in
        let new_x : x ≡ get_or new_data i 0 = ap (λ (a : ℕ × ℕ). a.0) is ∙ sym (data_at i h) in
        let new_y : y ≡ get_or new_masks i 0 = ap (λ (a : ℕ × ℕ). a.1) is ∙ sym (mask_at i h) in
        record {
          bound = omega arith;
          long_d = length-set D i x ∙ went.long_d;
          long_m = length-set M i y ∙ went.long_m;
          is_d = front_step new_data d D i went.is_d (data_long ∙ sym hd) x (omega arith) new_x;
          is_m = front_step new_masks m M i went.is_m (mask_long ∙ sym hm) y (omega arith) new_y;
        }

    -- the next position: x and y are what the S-box left there
    pub went_more : (x y : ℕ) (ρ : Record) (v : Answer (Unit {0})) (points : List ℕ) → i < 16 → ρ ≡ record_at s (16 * n + i)
        → (v, (x, (y, points))) ≡ substituted_in_place dir (get_or D i 0) (get_or M i 0) ρ [] → Went (set D i x) (set M i y) (i + 1)
    went_more x y ρ v points h r e = went_stored x y ρ h r (left dir (get_or D i 0) (get_or M i 0) ρ v x y points e)

    pub went_all : i ≡ 16 → (D, M) ≡ masked_sub_bytes dir s n (d, m)
    unfolding masked_sub_bytes
    went_all h =
        on_states_law (all_boxed dir s n) d m hd hm (D, M)
        (ap₂ (λ (x y : List ℕ). (x, y)) (front_done new_data d D i went.is_d (data_long ∙ sym hd) (omega arith)) (front_done new_masks m M i went.is_m (mask_long ∙ sym hm) (omega arith)))
