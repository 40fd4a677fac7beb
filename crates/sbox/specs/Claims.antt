-- What is claimed of the masked S-box. Each claim is proved in proofs/Claims.antt.
use Rattle.std.specs.Prelude.{◌≡◌, ℕ}
use Rattle.fips197.specs.Field.{◌⊕◌}
use Rattle.fips197.specs.Cipher.{sbox, inv_sbox}
use Rattle.tower.specs.Claims.{Good}
use Rattle.tower.specs.declared.Record.{Record}
use Rattle.sbox.specs.declared.Direction.{Direction}
use Rattle.sbox.specs.declared.Direction.TheVariants.{Encrypt, Decrypt}
use Rattle.sbox.specs.Sbox.{new_byte, new_mask}

-- what FIPS 197 makes of a bare byte
abbrev pub bare_box : Direction → ℕ → ℕ
bare_box Encrypt b = sbox b
bare_box Decrypt b = inv_sbox b

-- Demand 2 of one S-box: take the outgoing mask off, and it is FIPS 197 of the data without its mask.
abbrev pub BoxIsRight : Type 0
BoxIsRight = (dir : Direction) (d m : ℕ) (ρ : Record) → Good ρ → new_byte dir d m ρ ⊕ new_mask dir ρ ≡ bare_box dir (d ⊕ m)
