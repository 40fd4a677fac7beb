-- A column rewritten by four stores, and a state by its four columns one after the other. Assumes nothing.
use mathlib.Core.Path.{◌≡◌, refl, sym, subst, ◌∙◌}
use mathlib.Core.Bool.{Bool, true, false}
use mathlib.Core.List.{List, [], ◌∷◌, ◌++◌}
use Prim.Native.Nat.{ℕ}
use lib.ListN.{length, get_or, take, drop, set}
use Rattle.fips197.specs.Cipher.{cell, state, columns_by, mix_columns, inv_mix_columns}
use Rattle.fips197.proofs.Lists.{eta}
use Rattle.columns.specs.Inner.{mix_byte, inv_mix_byte, byte_by, column_of, columns_of}

stored : (l : List ℕ) (x y z w : ℕ) → length l ≡ 4 → set (set (set (set l 0 x) 1 y) 2 z) 3 w ≡ x ∷ y ∷ z ∷ w ∷ []
stored l x y z w h = subst (λ (t : List ℕ). set (set (set (set t 0 x) 1 y) 2 z) 3 w ≡ x ∷ y ∷ z ∷ w ∷ []) (sym (eta 4 l h)) refl

-- the list l with m in the place of the four at a
abbrev put : ℕ → List ℕ → List ℕ → List ℕ
put a l m = take a l ++ (m ++ drop 4 (drop a l))

module _ (f : ℕ → ℕ → ℕ → ℕ → ℕ) where
  pub column_stored : (l : List ℕ) (x y z w : ℕ) → length l ≡ 4
      → x ≡ f (get_or l 0 0) (get_or l 1 0) (get_or l 2 0) (get_or l 3 0)
      → y ≡ f (get_or l 1 0) (get_or l 2 0) (get_or l 3 0) (get_or l 0 0)
      → z ≡ f (get_or l 2 0) (get_or l 3 0) (get_or l 0 0) (get_or l 1 0)
      → w ≡ f (get_or l 3 0) (get_or l 0 0) (get_or l 1 0) (get_or l 2 0)
      → set (set (set (set l 0 x) 1 y) 2 z) 3 w ≡ column_of f l
  unfolding column_of
  column_stored l x y z w h p q r s = stored l x y z w h ∙ cc

  abbrev column_at : ℕ → List ℕ → List ℕ
  column_at a l = put a l (column_of f (take 4 (drop a l)))

  at_all : (l : List ℕ) → length l ≡ 16 → column_at 12 (column_at 8 (column_at 4 (column_at 0 l))) ≡ columns_of f l
  unfolding column_of columns_of
  at_all l h = subst (λ (x : List ℕ). column_at 12 (column_at 8 (column_at 4 (column_at 0 x))) ≡ columns_of f x) (sym (eta 16 l h)) refl

  pub columns_stored : (l m1 m2 m3 m4 : List ℕ) → length l ≡ 16
      → m1 ≡ column_of f (take 4 l)
      → m2 ≡ column_of f (take 4 (drop 4 (put 0 l m1)))
      → m3 ≡ column_of f (take 4 (drop 8 (put 4 (put 0 l m1) m2)))
      → m4 ≡ column_of f (take 4 (drop 12 (put 8 (put 4 (put 0 l m1) m2) m3)))
      → put 12 (put 8 (put 4 (put 0 l m1) m2) m3) m4 ≡ columns_of f l
  columns_stored l m1 m2 m3 m4 h e1 e2 e3 e4 = rw (e4, e3, e2, e1) (at_all l h)

-- which of the two columns is taken
module _ (inverse : Bool) (l m : List ℕ) where
  pub column_back : inverse ≡ true → m ≡ column_of inv_mix_byte l → m ≡ column_of (byte_by inverse) l
  unfolding byte_by
  column_back h e = rw h e

  pub column_forth : inverse ≡ false → m ≡ column_of mix_byte l → m ≡ column_of (byte_by inverse) l
  unfolding byte_by
  column_forth h e = rw h e

-- the columns are the standard's
pub mixed : (l : List ℕ) → length l ≡ 16 → columns_of (byte_by false) l ≡ mix_columns l
unfolding columns_of column_of byte_by mix_byte mix_columns columns_by cell state
mixed l h = subst (λ (x : List ℕ). columns_of (byte_by false) x ≡ mix_columns x) (sym (eta 16 l h)) refl

pub inverse_mixed : (l : List ℕ) → length l ≡ 16 → columns_of (byte_by true) l ≡ inv_mix_columns l
unfolding columns_of column_of byte_by inv_mix_byte inv_mix_columns columns_by cell state
inverse_mixed l h = subst (λ (x : List ℕ). columns_of (byte_by true) x ≡ inv_mix_columns x) (sym (eta 16 l h)) refl
