-- The claim of specs/Claims.antt, proved: from the masked inversion and the additivity of its ways. Assumes nothing.
use mathlib.Core.Path.{◌≡◌, sym, ap, ◌∙◌}
use Prim.Native.Nat.{ℕ}
use Rattle.fips197.specs.Field.{◌⊕◌, inverse}
use Rattle.fips197.specs.Cipher.{linear, affine, sbox, inv_linear, inv_affine, inv_sbox}
use Rattle.fips197.proofs.Xor.{sums, zero_r}
use Rattle.fips197.proofs.Affine.{linear_additive, inv_linear_additive}
use Rattle.tower.specs.Tower.{to_tower, from_tower, byte_inverse}
use Rattle.points.specs.Points.{masked_inverse}
use Rattle.tower.specs.Claims.{Good}
use Rattle.tower.specs.declared.Record.{Record}
use Rattle.tower.proofs.Basis.{to_additive, from_additive, to_lt}
use Rattle.points.proofs.Claims.{inversion_is_right}
use Rattle.bare_sbox.proofs.Claims.{inverse_is_field}
use Rattle.sbox.specs.declared.Direction.TheVariants.{Encrypt, Decrypt}
use Rattle.sbox.specs.Sbox.{enter, leave, enter_data, enter_mask, new_byte, new_mask}
use Rattle.sbox.specs.Claims as claims

-- the masked inversion between two bytes of the AES field: brought back and without its mask, the inverse of the sum
between : (d m : ℕ) (ρ : Record) → Good ρ → from_tower (masked_inverse (to_tower d) (to_tower m) ρ) ⊕ from_tower ρ.s ≡ inverse (d ⊕ m)
between d m ρ good =
    sym (from_additive _ ρ.s)
    ∙ ap from_tower (inversion_is_right (to_tower d) (to_tower m) ρ (to_lt d) (to_lt m) good ∙ ap byte_inverse (sym (to_additive d m)))
    ∙ inverse_is_field (d ⊕ m)

past : (x y k : ℕ) → x ⊕ k ⊕ y ≡ x ⊕ y ⊕ k
past x y k = simp sums

pub box_is_right : claims.BoxIsRight
unfolding new_byte new_mask enter_data enter_mask enter leave sbox affine inv_sbox inv_affine
box_is_right Encrypt d m ρ good =
    ap (λ (x : ℕ). linear (from_tower (masked_inverse (to_tower d) (to_tower m) ρ)) ⊕ 0x63 ⊕ x) (zero_r _)
    ∙ past _ _ 0x63 ∙ ap (λ (x : ℕ). x ⊕ 0x63) (sym (linear_additive _ _) ∙ ap linear (between d m ρ good))
box_is_right Decrypt d m ρ good =
    ap (λ (x : ℕ). from_tower (masked_inverse (to_tower (inv_linear d ⊕ 0x05)) (to_tower x) ρ) ⊕ from_tower ρ.s) (zero_r _)
    ∙ between (inv_linear d ⊕ 0x05) (inv_linear m) ρ good
    ∙ ap inverse (past _ _ 0x05 ∙ ap (λ (x : ℕ). x ⊕ 0x05) (sym (inv_linear_additive d m)))
