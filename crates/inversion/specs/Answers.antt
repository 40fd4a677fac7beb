-- What the calls answer: a masked byte and its mask, or a refusal.
use Rattle.std.specs.Prelude.{ℕ, List, [], ◌∷◌, length, Ok, Err}
use Rattle.refusal.specs.Answer.{Answer, first, above, is_not}
use Rattle.refusal.specs.Part.{on_length}
use Rattle.points.specs.Points.{masked_inverse, record_points}
use Rattle.tower.specs.declared.Record.{Record}

-- the masked inverse, and its points in a buffer that has room for them; or refusal 2
abbrev pub inverted_into : ℕ → ℕ → Record → List ℕ → Answer ℕ × List ℕ
inverted_into a m ρ buffer =
    first ((2, above 3 ρ.r) ∷ []) (λ r. (Err r, buffer)) (Ok (masked_inverse a m ρ), on_length 62 (λ _. record_points a m ρ) buffer)

-- the masked inversion: the masked inverse and its mask S, or refusal 2
abbrev pub inverted : ℕ → ℕ → Record → Answer (ℕ × ℕ)
inverted a m ρ = first ((2, above 3 ρ.r) ∷ []) Err (Ok (masked_inverse a m ρ, ρ.s))

-- the same with its points: refusal 3 before 2, and then the points buffer as it was
abbrev pub inverted_with_points : ℕ → ℕ → Record → List ℕ → Answer (ℕ × ℕ) × List ℕ
inverted_with_points a m ρ buffer =
    first ((3, is_not 62 (length buffer)) ∷ (2, above 3 ρ.r) ∷ []) (λ r. (Err r, buffer)) (Ok (masked_inverse a m ρ, ρ.s), record_points a m ρ)
