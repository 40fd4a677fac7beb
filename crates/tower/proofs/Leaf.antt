-- What the arithmetic of the code computes is the tower's: splits and joins by the laws of bits, products by one computed test a level. Assumes nothing.
use mathlib.Core.Path.{◌≡◌, refl, sym, ap, ap₂, ◌∙◌}
use mathlib.Core.List.{List, ◌∷◌}
use Prim.Native.Nat.{ℕ, zero, suc, ◌+◌, ◌-◌, ◌*◌, ◌/◌, ◌%◌, ◌^◌, ◌<◌, ◌≤◌}
use native.Mathlib.Nat.{mod-lt, mod-eq_of_lt, mod-mod, zero-lt-suc, zero-mul, one-mul}
use native.Mathlib.Numerals.{add-one}
use native.Mathlib.Omega.{arith}
use lib.Bits.{bit_xor, bit_and, bit_or, and_mask, or_shifted, and_zero_r}
use lib.ListN.{get_or, length, drop, length-drop, drop_of_length-le}
use lib.Seq.{drop-cons}
use lib.Pow.{mod-mod-pow}
use lib.Pow as Pow
use Rattle.fips197.specs.Field.{◌⊕◌, field}
use Rattle.fips197.proofs.Below.{eq1, eq2}
use Rattle.fips197.proofs.Xor.{assoc, zero_r, lt}
use Rattle.tower.specs.Tower.{tower, hi, lo, join, scaled_square, norm_over, product_over, inverse_over, bit_product, pair_product, nibble_product, added}
use Rattle.tower.specs.Claims.{FieldLaws}
use Rattle.tower.proofs.Split.{lo_lt, lo_small}

-- the mask of k bits, of which the code has at most four
mask_of : (k : ℕ) → k ≤ 4 → 1 * 2 ^ k % 256 ≡ 2 ^ k
mask_of zero h = refl
mask_of (suc zero) h = refl
mask_of (suc (suc zero)) h = refl
mask_of (suc (suc (suc zero))) h = refl
mask_of (suc (suc (suc (suc zero)))) h = refl
mask_of (suc (suc (suc (suc (suc k))))) h = absurd (omega arith)

pub high_made : (k x : ℕ) → k ≤ 4 → bit_and (x / 2 ^ k) (1 * 2 ^ k % 256 - 1) ≡ hi k x
unfolding hi
high_made k x h = rw (mask_of k h) (and_mask (x / 2 ^ k) k)

pub low_made : (k x : ℕ) → k ≤ 4 → bit_and x (1 * 2 ^ k % 256 - 1) ≡ lo k x
unfolding lo
low_made k x h = rw (mask_of k h) (and_mask x k)

shifted_fits : (k x : ℕ) → k ≤ 4 → x < 2 ^ k → x * 2 ^ k < 256
shifted_fits zero x h l = omega arith
shifted_fits (suc zero) x h l = omega arith
shifted_fits (suc (suc zero)) x h l = omega arith
shifted_fits (suc (suc (suc zero))) x h l = omega arith
shifted_fits (suc (suc (suc (suc zero)))) x h l = omega arith
shifted_fits (suc (suc (suc (suc (suc k))))) x h l = absurd (omega arith)

-- two halves joined by a shift
pub halves_joined : (k h l x y : ℕ) → k ≤ 4 → x ≡ lo k h → y ≡ lo k l → bit_or (x * 2 ^ k % 256) y ≡ join k (lo k h) (lo k l)
unfolding join
halves_joined k h l x y e p q =
    ap (λ (z : ℕ). bit_or z y) (mod-eq_of_lt (shifted_fits k x e (rw p (lo_lt k h)))) ∙ or_shifted x k y (rw q (lo_lt k l)) ∙ ap₂ (λ (a b : ℕ). a * 2 ^ k + b) p q

-- two halves cut to k bits and joined by a shift
pub join_made : (k h l : ℕ) → lo k h * 2 ^ k < 256 → bit_or (bit_and h (2 ^ k - 1) * 2 ^ k % 256) (bit_and l (2 ^ k - 1)) ≡ join k (lo k h) (lo k l)
unfolding join lo
join_made k h l p =
    ap₂ (λ (x y : ℕ). bit_or (x * 2 ^ k % 256) y) (and_mask h k) (and_mask l k)
    ∙ ap (λ (x : ℕ). bit_or x (l % 2 ^ k)) (mod-eq_of_lt p) ∙ or_shifted (h % 2 ^ k) k (l % 2 ^ k) (lo_lt k l)

-- ---- products: a computed test over the operands of the level, of which alone a product sees anything

pub hi_cut : (k x : ℕ) → hi k (x % 2 ^ (k + k)) ≡ hi k x
unfolding hi
hi_cut k x = ap (λ (y : ℕ). y % 2 ^ k) (Pow.field x k k) ∙ mod-mod (x / 2 ^ k) (2 ^ k)

pub lo_cut : (k x : ℕ) → lo k (x % 2 ^ (k + k)) ≡ lo k x
unfolding lo
lo_cut k x = mod-mod-pow x k k

pub product_cut : (k : ℕ) (times : ℕ → ℕ → ℕ) (nu x y : ℕ) → product_over k times nu (x % 2 ^ (k + k)) (y % 2 ^ (k + k)) ≡ product_over k times nu x y
unfolding product_over
product_cut k times nu x y = simp (hi_cut, lo_cut)

abbrev pub pair_code : ℕ → ℕ → ℕ
pair_code v w =
    let k = bit_and (bit_and (bit_xor v (v / 2)) (bit_xor w (w / 2))) 1 in
    bit_xor (bit_xor (bit_and v w) k) (k * 2 % 256)

pub pair_made : (x y : ℕ) → pair_code (x % 4) (y % 4) ≡ pair_product x y
unfolding tower field
pair_made x y = eq2 4 4 pair_code pair_product tt (x % 4) (y % 4) (mod-lt x (zero-lt-suc 3)) (mod-lt y (zero-lt-suc 3)) ∙ product_cut 1 bit_product 1 x y

abbrev pub nibble_code : ℕ → ℕ → ℕ
nibble_code v w =
    let l = bit_xor (bit_xor (bit_xor (v % 2 * 42391) (v / 2 % 2 * 64233)) (v / 4 % 2 * 28069)) (v / 8 % 2 * 46842) in
    let t = bit_xor w (w * 64 % 4294967296) in
    let u = bit_and (bit_xor t (t * 8 % 4294967296)) 4369 in
    let s = bit_or u (u * 2 % 4294967296) in
    let p = bit_and l (bit_or s (s * 4 % 4294967296)) in
    let f = bit_xor p (p / 256) in
    bit_xor f (f / 16) % 16

pub nibble_made : (x y : ℕ) → nibble_code (x % 16) (y % 16) ≡ nibble_product x y
unfolding tower field
nibble_made x y = eq2 16 16 nibble_code nibble_product tt (x % 16) (y % 16) (mod-lt x (zero-lt-suc 15)) (mod-lt y (zero-lt-suc 15)) ∙ product_cut 2 pair_product 2 x y

-- the squares are computed for every byte
pub pair_square_made : (x : ℕ) → x < 256 → bit_xor (x / 2 % 2 * 3) (x % 2) ≡ scaled_square pair_product 2 x
unfolding tower field
pair_square_made = eq1 256 (λ x. bit_xor (x / 2 % 2 * 3) (x % 2)) (scaled_square pair_product 2) tt

pub nibble_square_made : (x : ℕ) → x < 256 → bit_xor (bit_xor (bit_xor (x % 2 * 11) (x / 2 % 2 * 6)) (x / 4 % 2 * 8)) (x / 8 % 2 * 4) ≡ scaled_square nibble_product 1 x
unfolding tower field
nibble_square_made = eq1 256 (λ x. bit_xor (bit_xor (bit_xor (x % 2 * 11) (x / 2 % 2 * 6)) (x / 4 % 2 * 8)) (x / 8 % 2 * 4)) (scaled_square nibble_product 1) tt

-- ---- one level's product and inverse, from what the calls on its halves answer

module _ (k : ℕ) (times : ℕ → ℕ → ℕ) (unit : ℕ) (inv : ℕ → ℕ) (L : FieldLaws k times unit inv) (nu x : ℕ) where
  pub product_made : (y : ℕ) {x1 x0 y1 y0 m z high low r : ℕ} → x1 ≡ hi k x → x0 ≡ lo k x → y1 ≡ hi k y → y0 ≡ lo k y
      → m ≡ times (x1 ⊕ x0) (y1 ⊕ y0) → z ≡ times nu m → high ≡ times x1 y1 → low ≡ times x0 y0 → r ≡ join k (lo k (high ⊕ z)) (lo k (low ⊕ z)) → r ≡ product_over k times nu x y
  unfolding product_over
  product_made y {x1} {x0} {y1} {y0} {m} {z} {high} {low} {r} e1 e0 f1 f0 em ez eh el er =
      er ∙ ap₂ (join k) (lo_small k _ (sum_lt eh)) (lo_small k _ (sum_lt el)) ∙ simp (eh, el, ez, em, e1, e0, f1, f0)
    where
      sum_lt : {h a b : ℕ} → h ≡ times a b → h ⊕ z < 2 ^ k
      sum_lt e = lt k _ _ (rw e (L.bounded _ _)) (rw ez (L.bounded _ _))

  pub inverse_made : {x1 x0 p s b high low r : ℕ} → x1 ≡ hi k x → x0 ≡ lo k x → p ≡ times x1 x0 → s ≡ scaled_square times nu (x1 ⊕ x0) → b ≡ inv (p ⊕ s)
      → high ≡ times x0 b → low ≡ times x1 b → r ≡ join k (lo k high) (lo k low) → r ≡ inverse_over k times nu inv x
  unfolding inverse_over norm_over
  inverse_made {x1} {x0} {p} {s} {b} {high} {low} {r} e1 e0 ep es eb eh el er =
      er ∙ ap₂ (join k) (lo_small k _ (rw eh (L.bounded _ _))) (lo_small k _ (rw el (L.bounded _ _))) ∙ simp (eh, el, eb, ep, es, e1, e0)

-- ---- changes of basis

pub column : (c b : ℕ) → c < 256 → b < 2 → bit_and c (b * 255) ≡ b * c
column c zero h l = and_zero_r c ∙ sym (zero-mul c)
column c (suc zero) h l = and_mask c 8 ∙ mod-eq_of_lt h ∙ sym (one-mul c)
column c (suc (suc b)) h l = absurd (omega arith)

-- what is left of a change of basis once the first i columns are added
pub change_next : (l : List ℕ) (x i sum v : ℕ) → length l ≡ 8 → i < 8 → v ≡ x / 2 ^ (7 - i) % 2 * get_or l i 0 → sum ⊕ added (drop i l) x ≡ added l x
    → sum ⊕ v ⊕ added (drop (i + 1) l) x ≡ added l x
unfolding added
change_next l x i sum v h li ev e =
    let k : length (drop (suc i) l) ≡ 7 - i = simp length-drop (omega arith) in
    let d : drop i l ≡ get_or l i 0 ∷ drop (suc i) l = drop-cons l i 0 (omega arith) in
    let f : added (drop i l) x ≡ x / 2 ^ (7 - i) % 2 * get_or l i 0 ⊕ added (drop (suc i) l) x = rw (d, k) refl in
    rw (add-one i, ev, assoc) (rw f at e)

pub change_all : (l : List ℕ) (x i sum : ℕ) → length l ≡ 8 → 8 ≤ i → sum ⊕ added (drop i l) x ≡ added l x → sum ≡ added l x
unfolding added
change_all l x i sum h li e = rw (drop_of_length-le l {i = i} (omega arith), zero_r) at e
