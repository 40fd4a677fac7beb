-- The sum of lists, and that the linear steps of the cipher are additive. Assumes nothing.
use mathlib.Core.Path.{◌≡◌, refl, sym, ap, ap₂, ◌∙◌, fun_ext}
use mathlib.Core.List.{List, [], ◌∷◌}
use lib.ListN.{length, get_or, take, drop}
use native.Mathlib.Omega.{arith}
use Prim.Native.Nat.{ℕ, zero, suc, ◌+◌, ◌*◌, ◌%◌, ◌≤◌}
use Rattle.fips197.specs.Field.{◌⊕◌}
use Rattle.fips197.specs.Cipher.{◌⊞◌, cell, state, shift_rows, columns_by, mix_columns, inv_shift_rows, inv_mix_columns}
use Rattle.fips197.proofs.Xor.{sums, assoc, comm, zero_l, zero_r}
use Rattle.fips197.proofs.Field.{product_right}

pub nil_r : (a : List ℕ) → a ⊞ [] ≡ a
unfolding ◌⊞◌
nil_r [] = refl
nil_r (x ∷ a) = refl

pub plus_comm : (a b : List ℕ) → a ⊞ b ≡ b ⊞ a
unfolding ◌⊞◌
plus_comm [] b = sym (nil_r b)
plus_comm (x ∷ a) [] = refl
plus_comm (x ∷ a) (y ∷ b) = ap₂ ◌∷◌ (comm x y) (plus_comm a b)

pub plus_assoc : (a b c : List ℕ) → a ⊞ b ⊞ c ≡ a ⊞ (b ⊞ c)
unfolding ◌⊞◌
plus_assoc [] b c = refl
plus_assoc (x ∷ a) [] c = refl
plus_assoc (x ∷ a) (y ∷ b) [] = refl
plus_assoc (x ∷ a) (y ∷ b) (z ∷ c) = ap₂ ◌∷◌ (assoc x y z) (plus_assoc a b c)

-- a mask is taken off where it is no longer than what it masks
pub plus_off : (a b : List ℕ) → length b ≤ length a → a ⊞ b ⊞ b ≡ a
unfolding ◌⊞◌
plus_off [] [] h = refl
plus_off [] (y ∷ b) h = absurd (omega arith)
plus_off (x ∷ a) [] h = refl
plus_off (x ∷ a) (y ∷ b) h = ap₂ ◌∷◌ (simp sums) (plus_off a b (omega arith))

pub length_plus : (a b : List ℕ) → length b ≤ length a → length (a ⊞ b) ≡ length a
unfolding ◌⊞◌
length_plus [] [] h = refl
length_plus [] (y ∷ b) h = absurd (omega arith)
length_plus (x ∷ a) [] h = refl
length_plus (x ∷ a) (y ∷ b) h = ap suc (length_plus a b (omega arith))

pub take_plus : (n : ℕ) (a b : List ℕ) → take n (a ⊞ b) ≡ take n a ⊞ take n b
unfolding ◌⊞◌
take_plus zero a b = refl
take_plus (suc n) [] b = refl
take_plus (suc n) (x ∷ a) [] = refl
take_plus (suc n) (x ∷ a) (y ∷ b) = ap (λ (t : List ℕ). x ⊕ y ∷ t) (take_plus n a b)

pub drop_plus : (n : ℕ) (a b : List ℕ) → drop n (a ⊞ b) ≡ drop n a ⊞ drop n b
unfolding ◌⊞◌
drop_plus zero a b = refl
drop_plus (suc n) [] b = refl
drop_plus (suc n) (x ∷ a) [] = sym (nil_r (drop n a))
drop_plus (suc n) (x ∷ a) (y ∷ b) = drop_plus n a b

pub get_plus : (a b : List ℕ) (i : ℕ) → get_or (a ⊞ b) i 0 ≡ get_or a i 0 ⊕ get_or b i 0
unfolding ◌⊞◌
get_plus [] b i = sym (zero_l (get_or b i 0))
get_plus (x ∷ a) [] i = sym (zero_r (get_or (x ∷ a) i 0))
get_plus (x ∷ a) (y ∷ b) zero = refl
get_plus (x ∷ a) (y ∷ b) (suc i) = get_plus a b i

pub cell_plus : (a b : List ℕ) (r c : ℕ) → cell (a ⊞ b) r c ≡ cell a r c ⊕ cell b r c
unfolding cell
cell_plus a b r c = get_plus a b (r + 4 * c)

pub state_plus : (f g : ℕ → ℕ → ℕ) → state f ⊞ state g ≡ state (λ r c. f r c ⊕ g r c)
unfolding state ◌⊞◌
state_plus f g = refl

pub state_ext : (f g : ℕ → ℕ → ℕ) → ((r c : ℕ) → f r c ≡ g r c) → state f ≡ state g
state_ext f g e = ap state (fun_ext (λ r. fun_ext (λ c. e r c)))

pub length_state : (f : ℕ → ℕ → ℕ) → length (state f) ≡ 16
unfolding state
length_state f = refl

-- ---- the linear steps
abbrev pub Linear : (List ℕ → List ℕ) → Type 0
Linear f = (a b : List ℕ) → f (a ⊞ b) ≡ f a ⊞ f b

pub shift_linear : Linear shift_rows
unfolding shift_rows
shift_linear a b = state_ext _ _ (λ r c. cell_plus a b r ((c + r) % 4)) ∙ sym (state_plus _ _)

pub inv_shift_linear : Linear inv_shift_rows
unfolding inv_shift_rows
inv_shift_linear a b = state_ext _ _ (λ r c. cell_plus a b r _) ∙ sym (state_plus _ _)

pub columns_linear : (x y z w : ℕ) → Linear (columns_by x y z w)
unfolding columns_by
columns_linear x y z w a b = state_ext _ _ (λ r c. simp (cell_plus, product_right, sums)) ∙ sym (state_plus _ _)

pub mix_linear : Linear mix_columns
unfolding mix_columns
mix_linear = columns_linear 2 3 1 1

pub inv_mix_linear : Linear inv_mix_columns
unfolding inv_mix_columns
inv_mix_linear = columns_linear 0x0e 0x0b 0x0d 0x09
