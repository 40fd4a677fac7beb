-- What the check of a key's length has shown, and that the key with the words behind it is its expansion. Assumes nothing.
use Prim.Native.Nat.{ℕ, ◌+◌, ◌-◌, ◌*◌, ◌/◌, ◌≤◌}
use mathlib.Core.Path.{◌≡◌, refl, ap, ◌∙◌}
use mathlib.Core.List.{List, [], ◌∷◌, ◌++◌}
use mathlib.Core.Bool.{false}
use native.Mathlib.Omega.{arith}
use lib.ListN.{length, take, drop}
use lib.Seq.{take_at}
use Rattle.fips197.specs.Cipher.{expanded, key_expansion}
use Rattle.refusal.specs.Answer.{none_of}
use Rattle.refusal.proofs.First.{found}

pub record Sized (n : ℕ) : Type 0 where
  pub least : 16 ≤ n
  pub most : n ≤ 32
  pub whole : n ≡ 4 * (n / 4)

sized_of : (n m : ℕ) → n ≡ m → 16 ≤ m → m ≤ 32 → m ≡ 4 * (m / 4) → Sized n
sized_of n m e l h w = record { least = omega arith; most = omega arith; whole = omega arith }

pub sized : (n : ℕ) → none_of (16 ∷ 24 ∷ 32 ∷ []) n ≡ false → Sized n
sized n e =
    found 16 24 32 n e
    (λ q. sized_of n 16 q (omega arith) (omega arith) refl)
    (λ q. sized_of n 24 q (omega arith) (omega arith) refl)
    (λ q. sized_of n 32 q (omega arith) (omega arith) refl)

-- the key copied to the front, and the words behind it
pub key_expanded : (nk nr : ℕ) (key w₀ w₁ w₂ : List ℕ) → length key ≡ 4 * nk → w₁ ≡ key ++ drop (length key) w₀ → w₂ ≡ expanded nk (4 * (nr + 1) - nk) (take (4 * nk) w₁) → w₂ ≡ key_expansion nk nr key
unfolding key_expansion
key_expanded nk nr key w₀ w₁ w₂ h e f =
    f ∙ ap (expanded nk (4 * (nr + 1) - nk)) (ap (take (4 * nk)) e ∙ take_at key (drop (length key) w₀) (4 * nk) h)
