-- The rows of ShiftRows and of its inverse one after the other: of a list of sixteen, by its elements. Assumes nothing.
use mathlib.Core.Path.{◌≡◌, refl, sym, subst}
use mathlib.Core.List.{List}
use Prim.Native.Nat.{ℕ}
use lib.ListN.{length}
use Rattle.fips197.specs.Cipher.{cell, state, shift_rows, inv_shift_rows}
use Rattle.fips197.proofs.Lists.{eta}
use Rattle.aes.specs.Inner.{row_from}

abbrev three : ℕ → ℕ → ℕ → List ℕ → List ℕ
three i j k l = row_from 3 k (row_from 2 j (row_from 1 i l))

module _ (l x y z : List ℕ) (h : length l ≡ 16) where
  pub rows_shifted : x ≡ row_from 1 5 l → y ≡ row_from 2 10 x → z ≡ row_from 3 15 y → z ≡ shift_rows l
  unfolding row_from shift_rows state cell
  rows_shifted p q r = rw (r, q, p) (subst (λ (t : List ℕ). three 5 10 15 t ≡ shift_rows t) (sym (eta 16 l h)) refl)

  pub rows_shifted_back : x ≡ row_from 1 13 l → y ≡ row_from 2 10 x → z ≡ row_from 3 7 y → z ≡ inv_shift_rows l
  unfolding row_from inv_shift_rows state cell
  rows_shifted_back p q r = rw (r, q, p) (subst (λ (t : List ℕ). three 13 10 7 t ≡ inv_shift_rows t) (sym (eta 16 l h)) refl)
