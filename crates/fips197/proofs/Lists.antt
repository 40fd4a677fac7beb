-- A list of known length is its elements. Assumes nothing.
use mathlib.Core.Path.{◌≡◌, refl, ap}
use mathlib.Core.List.{List, [], ◌∷◌}
use Prim.Native.Nat.{ℕ, zero, suc}
use native.Mathlib.Omega.{arith}
use lib.ListN.{get_or, drop, length}

abbrev pub elements : ℕ → List ℕ → List ℕ
elements zero l = []
elements (suc n) l = get_or l 0 0 ∷ elements n (drop 1 l)

pub eta : (n : ℕ) (l : List ℕ) → length l ≡ n → l ≡ elements n l
eta zero [] h = refl
eta zero (x ∷ l) h = absurd (omega arith)
eta (suc n) [] h = absurd (omega arith)
eta (suc n) (x ∷ l) h = ap {B = List ℕ} (λ (t : List ℕ). x ∷ t) (eta n l (omega arith))
