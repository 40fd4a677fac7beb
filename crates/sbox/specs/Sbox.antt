-- Rules 4.1 to 4.3: the masked S-box and its inverse.
use Rattle.std.specs.Prelude.{ℕ, List, [], ◌∷◌, length, get_or, Ok, Err}
use Rattle.fips197.specs.Field.{◌⊕◌}
use Rattle.fips197.specs.Cipher.{linear, inv_linear}
use Rattle.refusal.specs.Answer.{Answer, first, above, is_not}
use Rattle.refusal.specs.Part.{on_length}
use Rattle.tower.specs.Tower.{to_tower, from_tower}
use Rattle.points.specs.Points.{masked_inverse, record_points}
use Rattle.tower.specs.declared.Record.{Record}
use Rattle.sbox.specs.declared.Direction.{Direction}
use Rattle.sbox.specs.declared.Direction.TheVariants.{Encrypt, Decrypt}

-- Data byte and mask each go to the tower; decrypting, the inverse affine step comes first, with a constant: 05 on the data, none on the mask.
unfoldable pub enter : Direction → ℕ → ℕ → ℕ
enter Encrypt constant x = to_tower x
enter Decrypt constant x = to_tower (inv_linear x ⊕ constant)

-- Each comes back; encrypting, the affine step follows, with a constant: 63 on the data, none on the mask.
unfoldable pub leave : Direction → ℕ → ℕ → ℕ
leave Encrypt constant x = linear (from_tower x) ⊕ constant
leave Decrypt constant x = from_tower x

unfoldable pub enter_data : Direction → ℕ → ℕ
enter_data dir d = enter dir 0x05 d

unfoldable pub enter_mask : Direction → ℕ → ℕ
enter_mask dir m = enter dir 0x00 m

-- the new data byte and the outgoing mask, which is S brought back
unfoldable pub new_byte : Direction → ℕ → ℕ → Record → ℕ
new_byte dir d m ρ = leave dir 0x63 (masked_inverse (enter_data dir d) (enter_mask dir m) ρ)

unfoldable pub new_mask : Direction → Record → ℕ
new_mask dir ρ = leave dir 0x00 ρ.s

-- one name that opens all of the above where a proof computes
unfoldable pub ways : Unit {0}
unfolding enter leave enter_data enter_mask new_byte new_mask
ways = tt

-- a record's three bytes, as the S-box takes them
abbrev pub record_of : List ℕ → Record
record_of l = record { qt = get_or l 0 0; s = get_or l 1 0; r = get_or l 2 0 }

-- what a call makes of a byte and its mask where they stand, and of a buffer that has room for the inversion's points; or refusal 2, and all as it was
abbrev pub substituted_in_place : Direction → ℕ → ℕ → Record → List ℕ → Answer (Unit {0}) × (ℕ × (ℕ × List ℕ))
substituted_in_place dir d m ρ buffer =
    first ((2, above 3 ρ.r) ∷ []) (λ r. (Err r, (d, (m, buffer))))
    (Ok tt, (new_byte dir d m ρ, (new_mask dir ρ, on_length 62 (λ _. record_points (enter_data dir d) (enter_mask dir m) ρ) buffer)))

-- what a call answers: the two bytes, or refusal 2
abbrev pub substituted : Direction → ℕ → ℕ → Record → Answer (ℕ × ℕ)
substituted dir d m ρ = first ((2, above 3 ρ.r) ∷ []) Err (Ok (new_byte dir d m ρ, new_mask dir ρ))

-- the same with the inversion's points: refusal 3 before 2, and then the points buffer as it was
abbrev pub substituted_with_points : Direction → ℕ → ℕ → Record → List ℕ → Answer (ℕ × ℕ) × List ℕ
substituted_with_points dir d m ρ buffer =
    first ((3, is_not 62 (length buffer)) ∷ (2, above 3 ρ.r) ∷ []) (λ r. (Err r, buffer))
    (Ok (new_byte dir d m ρ, new_mask dir ρ), record_points (enter_data dir d) (enter_mask dir m) ρ)
