-- The claim of specs/Claims.antt, proved: by one computed test against the list of all inverses, carried to all numbers. Assumes nothing.
use mathlib.Core.Path.{◌≡◌, refl, sym, ap, ap₂, ◌∙◌}
use mathlib.Core.List.{List, [], ◌∷◌}
use Prim.Native.Nat.{ℕ, ◌*◌, ◌/◌, ◌%◌, ◌^◌, ◌<◌, ◌≤◌}
use native.Mathlib.Nat.{mod-lt, zero-lt-suc}
use native.Mathlib.Omega.{arith}
use lib.ListN.{length, get_or}
use Rattle.fips197.specs.Field.{field, ◌⊕◌, ◌•◌, inverse}
use Rattle.fips197.proofs.Below.{eq1, Each, none, ◌▸◌, each_at}
use Rattle.fips197.proofs.Inverse.{inverses, listed}
use Rattle.tower.specs.Tower.{tower, added, to_columns, to_tower, from_tower, byte_inverse}
use Rattle.bare_sbox.specs.Claims.{InverseIsField}

on_list : (a : ℕ) → a < 256 → from_tower (byte_inverse (to_tower a)) ≡ get_or inverses a 0
unfolding tower field inverses
on_list = eq1 256 (λ a. from_tower (byte_inverse (to_tower a))) (λ a. get_or inverses a 0) tt

on_bytes : (a : ℕ) → a < 256 → from_tower (byte_inverse (to_tower a)) ≡ inverse a
on_bytes a h = on_list a h ∙ sym (listed a h)

-- the eight bits of a byte are read, and nothing above them
bits_cut : (a : ℕ) → Each (λ i. a % 256 / 2 ^ i % 2 ≡ a / 2 ^ i % 2) 8
bits_cut a = none ▸ omega arith ▸ omega arith ▸ omega arith ▸ omega arith ▸ omega arith ▸ omega arith ▸ omega arith ▸ omega arith

added_cut : (cs : List ℕ) (a : ℕ) → length cs ≤ 8 → added cs (a % 256) ≡ added cs a
unfolding added
added_cut [] a h = refl
added_cut (c ∷ cs) a h =
    ap₂ (λ (x y : ℕ). x * c ⊕ y) (each_at {P = λ i. a % 256 / 2 ^ i % 2 ≡ a / 2 ^ i % 2} (bits_cut a) (length cs) (omega arith)) (added_cut cs a (omega arith))

to_tower_cut : (a : ℕ) → to_tower (a % 256) ≡ to_tower a
unfolding to_tower
to_tower_cut a = added_cut to_columns a (omega arith)

square_cut : (a : ℕ) → a % 256 • (a % 256) ≡ a • a
unfolding ◌•◌
square_cut a = let e : a % 256 % 256 ≡ a % 256 = omega arith in rw e refl

inverse_cut : (a : ℕ) → inverse (a % 256) ≡ inverse a
unfolding inverse
inverse_cut a = rw (square_cut a) refl

pub inverse_is_field : InverseIsField
inverse_is_field a =
    ap (λ (x : ℕ). from_tower (byte_inverse x)) (sym (to_tower_cut a)) ∙ on_bytes (a % 256) (mod-lt a (zero-lt-suc 255)) ∙ inverse_cut a
