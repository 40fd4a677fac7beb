-- The count facts, each once for every list of points: a permutation of a value under a fresh mask takes all values alike; so does a sum that begins with a fresh mask;
-- a product of two values under masks of their own takes the counts of its table, whatever the table, if its rows but the first permute. Assumes nothing.
use mathlib.Core.Path.{◌≡◌, refl, sym, ap, ap₂, ◌∙◌}
use mathlib.Core.Bool.{Bool, true, false, cond}
use Prim.Native.Nat.{ℕ, zero, suc, ◌+◌, ◌-◌, ◌*◌, ◌^◌, ◌<◌}
use native.Mathlib.Omega.{arith}
use lib.Dec.{ltb, eqb-zero-suc}
use lib.Pow.{pow_pos}
use Rattle.fips197.specs.Field.{◌⊕◌}
use Rattle.fips197.proofs.Xor.{assoc, zero_l, lt}
use Rattle.fips197.proofs.Additive.{at_zero}
use Rattle.tower.specs.Claims.{FieldLaws}
use Rattle.tower.proofs.Level.{left_distributive}
use Rattle.counting.specs.Counting.{sum, one, share}
use Rattle.counting.proofs.Sum.{sum_ext, sum_each, sum_by, sum_add, sum_xor, sum3}
use Rattle.counting.proofs.Permute.{is, Permutes, identical, evenly}

-- a product table whose row of zero is zero and whose other rows permute
pub record Rows (n : ℕ) (times : ℕ → ℕ → ℕ) (inv : ℕ → ℕ) : Type 0 where
  pub zeros : (y : ℕ) → times 0 y ≡ 0
  pub row : (x : ℕ) → 0 < x → x < n → Permutes n (times x) (times (inv x))

-- Fact 2: such a product is zero 2n - 1 times and has each other value n - 1 times.
pub products : (n : ℕ) (times : ℕ → ℕ → ℕ) (inv : ℕ → ℕ) → Rows n times inv → (v : ℕ) → 0 < n
    → sum n (λ x. sum n (λ y. is (times x y) v)) ≡ share n (n - 1 + n) (n - 1) v
unfolding sum
products n times inv R v pos =
    let e : n ≡ 1 + (n - 1) = omega arith in
    ap (λ (c : ℕ). sum c (λ x. sum n (λ y. is (times x y) v))) e
    ∙ sum_add 1 (n - 1) (λ x. sum n (λ y. is (times x y) v))
    ∙ ap₂ (λ (x y : ℕ). x + (y + 0)) (sum_each (n - 1) _ (share n 1 1 v) (λ b l. evenly n _ _ (R.row (1 + b) (omega arith) (omega arith)) v pos))
    (sum_each n _ (is 0 v) (λ y l. ap (λ (w : ℕ). is w v) (R.zeros y)))
    ∙ joined n (n - 1) v
  where
    go : (n m : ℕ) (b : Bool) → m * cond b 1 0 + (n * 0 + 0) ≡ cond b m 0
    go n m true = omega arith
    go n m false = omega arith

    joined : (n m v : ℕ) → m * share n 1 1 v + (n * is 0 v + 0) ≡ share n (m + n) m v
    joined n m zero = omega arith
    joined n m (suc v) = ap (λ (b : Bool). m * share n 1 1 (suc v) + (n * one b + 0)) (eqb-zero-suc v) ∙ go n m (ltb (suc v) n)

-- the rows of a field's table
pub rows_of : (k : ℕ) (times : ℕ → ℕ → ℕ) (unit : ℕ) (inv : ℕ → ℕ) → FieldLaws k times unit inv → Rows (2 ^ k) times inv
rows_of k times unit inv L = record {
  zeros = λ y. at_zero (λ x. times x y) (λ a b. left_distributive k times unit inv L a b y);
  row = λ x p h. record {
    bounded = λ y l. L.bounded x y;
    bounded_back = λ y l. L.bounded (inv x) y;
    there = λ y l. sym (L.associative (inv x) x y) ∙ ap (λ (w : ℕ). times w y) (L.commutative (inv x) x ∙ L.inverse x p h) ∙ L.neutral y l;
    back = λ y l. sym (L.associative x (inv x) y) ∙ ap (λ (w : ℕ). times w y) (L.inverse x p h) ∙ L.neutral y l;
  };
}

-- ---- the facts over three free masks of k bits

module _ (k v : ℕ) where
  abbrev n : ℕ
  n = 2 ^ k

  abbrev pub even : ℕ
  even = share n 1 1 v

  abbrev pub of_products : ℕ
  of_products = share n (n - 1 + n) (n - 1) v

  -- a product of two values under masks of their own
  pub prods : (times : ℕ → ℕ → ℕ) (inv : ℕ → ℕ) → Rows n times inv → (f : ℕ → ℕ → ℕ → ℕ) (h l : ℕ) → h < n → l < n
      → ((x y z : ℕ) → f x y z ≡ times (x ⊕ h) (y ⊕ l)) → sum3 n (λ x y z. is (f x y z) v) ≡ n * of_products
  prods times inv R f h l ph pl e =
      sum_by n n _ (λ x. sum n (λ y. is (times (x ⊕ h) y) v)) (λ x. sum_by n n _ (λ y. is (times (x ⊕ h) (y ⊕ l)) v) (λ y.
      sum_each n _ _ (λ z lz. ap (λ (w : ℕ). is w v) (e x y z))) ∙ ap (λ (s : ℕ). n * s) (sum_xor k (λ y. is (times (x ⊕ h) y) v) l pl))
      ∙ ap (λ (s : ℕ). n * s) (sum_xor k (λ x. sum n (λ y. is (times x y) v)) h ph ∙ products n times inv R v (pow_pos k))

  -- a running sum that begins with a mask of its own, one term at a time
  pub record Running (f : ℕ → ℕ → ℕ → ℕ) : Type 0 where
    pub apart : (x y z : ℕ) → f x y z ≡ z ⊕ f x y 0
    pub small : (x y : ℕ) → f x y 0 < n

  pub begun : (h : ℕ → ℕ → ℕ) → ((x y : ℕ) → h x y < n) → Running (λ x y z. z ⊕ h x y)
  begun h b = record {
    apart = λ x y z. ap (λ (w : ℕ). z ⊕ w) (sym (zero_l (h x y)));
    small = λ x y. lt k 0 (h x y) (pow_pos k) (b x y);
  }

  pub added : {f : ℕ → ℕ → ℕ → ℕ} → Running f → (h : ℕ → ℕ → ℕ) → ((x y : ℕ) → h x y < n) → Running (λ x y z. f x y z ⊕ h x y)
  added {f} r h b = record {
    apart = λ x y z. ap (λ (w : ℕ). w ⊕ h x y) (r.apart x y z) ∙ assoc z (f x y 0) (h x y);
    small = λ x y. lt k (f x y 0) (h x y) (r.small x y) (b x y);
  }

  pub runs : {f : ℕ → ℕ → ℕ → ℕ} → Running f → sum3 n (λ x y z. is (f x y z) v) ≡ n * (n * even)
  runs {f} r =
      sum_each n _ (n * even) (λ x lx. sum_each n _ even (λ y ly.
      sum_ext n _ (λ z. is (z ⊕ f x y 0) v) (λ z lz. ap (λ (w : ℕ). is w v) (r.apart x y z)) ∙ sum_xor k (λ z. is z v) (f x y 0) (r.small x y)
      ∙ evenly n (λ x. x) (λ x. x) (identical n) v (pow_pos k)))

  -- a permutation of what the second mask is added to
  module _ (φ ψ : ℕ → ℕ) (P : Permutes n φ ψ) where
    pub lines : (f : ℕ → ℕ → ℕ → ℕ) (h : ℕ → ℕ) → ((x : ℕ) → x < n → h x < n) → ((x y z : ℕ) → f x y z ≡ φ (y ⊕ h x)) → sum3 n (λ x y z. is (f x y z) v) ≡ n * (n * even)
    lines f h b e =
        sum_each n _ (n * even) (λ x lx. sum_by n n _ (λ y. is (φ (y ⊕ h x)) v) (λ y.
        sum_each n _ (is (φ (y ⊕ h x)) v) (λ z lz. ap (λ (w : ℕ). is w v) (e x y z)))
        ∙ ap (λ (s : ℕ). n * s) (sum_xor k (λ y. is (φ y) v) (h x) (b x lx) ∙ evenly n φ ψ P v (pow_pos k)))

    -- or the first
    pub lines_first : (f : ℕ → ℕ → ℕ → ℕ) (h : ℕ) → h < n → ((x y z : ℕ) → f x y z ≡ φ (x ⊕ h)) → sum3 n (λ x y z. is (f x y z) v) ≡ n * (n * even)
    lines_first f h b e =
        sum_by n n _ (λ x. n * is (φ (x ⊕ h)) v) (λ x. sum_each n _ (n * is (φ (x ⊕ h)) v) (λ y ly. sum_each n _ (is (φ (x ⊕ h)) v) (λ z lz. ap (λ (w : ℕ). is w v) (e x y z))))
        ∙ ap (λ (s : ℕ). n * s) (sum_by n n _ (λ x. is (φ (x ⊕ h)) v) (λ x. refl) ∙ ap (λ (s : ℕ). n * s) (sum_xor k (λ x. is (φ x) v) h b ∙ evenly n φ ψ P v (pow_pos k)))
