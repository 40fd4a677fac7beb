-- A list of points counted part by part: the parts stand one after another in the list, and each has its counts and its rows of the table. Assumes nothing.
use mathlib.Core.Path.{◌≡◌, refl, sym, ap, ◌∙◌}
use mathlib.Core.List.{List}
use mathlib.Core.Bool.{Bool, true, false, cond}
use Prim.Native.Nat.{ℕ, zero, suc, ◌+◌, ◌-◌, ◌*◌, ◌<◌, ◌≤◌}
use native.Mathlib.Omega.{arith}
use lib.Dec.{ltb}
use lib.ListN.{get_or, take, drop}
use lib.Seq.{get_or-take, get_or-drop}
use Rattle.counting.specs.Counting.{share}
use Rattle.points.specs.Counts.{Row, listed}
use Rattle.points.proofs.Total.{Spread, Drawn}
use Rattle.counting.proofs.Permute.{is}

-- the points from o on, counted from 0, that stand in a part of the list
part : (o size : ℕ) (l : List ℕ) (j : ℕ) → j < size → get_or l (o + j) 0 ≡ get_or (take size (drop o l)) j 0
part o size l j h = sym (get_or-take size (drop o l) j 0 h ∙ get_or-drop o l j 0)

module _ (over : (ℕ → ℕ → ℕ → ℕ → ℕ → ℕ) → ℕ) (S : Spread over) (list : ℕ → ℕ → ℕ → ℕ → ℕ → List ℕ) (v : ℕ) where
  -- how often the point at i, counted from 0, has the value v
  unfoldable pub often : ℕ → ℕ
  often i = over (λ m q r t s. is (get_or (list m q r t s) i 0) v)

  -- a part of the points that is a list f of masks
  pub by : (o size j : ℕ) → j < size → (f : ℕ → ℕ → ℕ → ℕ → ℕ → List ℕ)
      → ((m q r t s : ℕ) → Drawn m q r t s → take size (drop o (list m q r t s)) ≡ f m q r t s) → often (o + j) ≡ over (λ m q r t s. is (get_or (f m q r t s) j 0) v)
  unfolding often
  by o size j l f e =
      S.same _ _ (λ m q r t s d. ap (λ (p : ℕ). is p v) (part o size (list m q r t s) j l ∙ ap (λ (p : List ℕ). get_or p j 0) (e m q r t s d)))

  -- a stage whose first point is o, by its counts and its rows
  pub stage : (table : List Row) (o size : ℕ) → 0 < o → (c : ℕ → ℕ) → ((j : ℕ) → j < size → often (o - 1 + j) ≡ c j) → ((j : ℕ) → j < size → c j ≡ listed table (o + j) v)
      → (n : ℕ) → o ≤ n → n < o + size → often (n - 1) ≡ listed table n v
  stage table o size p c e f n l h =
      let i : n - 1 ≡ o - 1 + (n - o) = omega arith in
      let k : n - o < size = omega arith in
      let w : o + (n - o) ≡ n = omega arith in
      ap often i ∙ e (n - o) k ∙ f (n - o) k ∙ ap (λ (x : ℕ). listed table x v) w

-- ---- the table's numbers are those of the stages

pub scaled : (c n z o v : ℕ) → c * share n z o v ≡ share n (c * z) (c * o) v
scaled c n z o zero = refl
scaled c n z o (suc v) = go (ltb (suc v) n)
  where
    go : (b : Bool) → c * cond b o 0 ≡ cond b (c * o) 0
    go true = refl
    go false = native.Mathlib.Nat.mul-zero c

module _ (v : ℕ) where
  pub nibble : 16384 * (16 * (16 * share 16 1 1 v)) ≡ share 16 4194304 4194304 v
  nibble = ap (λ (x : ℕ). 16384 * x) (ap (λ (x : ℕ). 16 * x) (scaled 16 16 1 1 v) ∙ scaled 16 16 16 16 v) ∙ scaled 16384 16 256 256 v

  pub nibble_product_law : 16384 * (16 * share 16 31 15 v) ≡ share 16 8126464 3932160 v
  nibble_product_law = ap (λ (x : ℕ). 16384 * x) (scaled 16 16 31 15 v) ∙ scaled 16384 16 496 240 v

  pub pair : 1048576 * (4 * (4 * share 4 1 1 v)) ≡ share 4 16777216 16777216 v
  pair = ap (λ (x : ℕ). 1048576 * x) (ap (λ (x : ℕ). 4 * x) (scaled 4 4 1 1 v) ∙ scaled 4 4 4 4 v) ∙ scaled 1048576 4 16 16 v

  pub pair_product_law : 1048576 * (4 * share 4 7 3 v) ≡ share 4 29360128 12582912 v
  pair_product_law = ap (λ (x : ℕ). 1048576 * x) (scaled 4 4 7 3 v) ∙ scaled 1048576 4 28 12 v
