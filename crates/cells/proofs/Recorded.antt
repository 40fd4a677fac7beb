-- The points in a buffer, each from its cell. Assumes nothing.
use mathlib.Core.Path.{◌≡◌, refl, sym, ap, ap₂, ◌∙◌}
use mathlib.Core.List.{List, [], ◌∷◌, ◌++◌}
use Prim.Native.Nat.{ℕ, suc, ◌+◌, ◌%◌, ◌<◌}
use native.Mathlib.Nat.{mod-eq_of_lt}
use native.Mathlib.Omega.{arith}
use native.Mathlib.Numerals.{add-one}
use lib.ListN.{get_or, set, length}
use lib.Dec.{ltb, ltb→lt}
use Rattle.fips197.proofs.Below.{all_at}
use Rattle.fips197.proofs.Lists.{elements, eta}
use Rattle.fips197.specs.Field.{◌⊕◌}
use Rattle.fips197.proofs.Xor.{lt}
use Rattle.tower.specs.Tower.{hi, lo, scaled_square, exchange, pair_product, nibble_product}
use Rattle.tower.proofs.Split.{hi_lt, lo_lt, join_lt}
use Rattle.tower.proofs.Level.{pair_level, nibble_level}
use Rattle.tower.specs.declared.Record.{Record}
use Rattle.points.specs.Points.{masked, fourteen, eight, record_points}
use Rattle.cells.specs.Cells.{laid, cells_after, cells_of_points, recorded}

cells_fit : (i : ℕ) → i < 62 → get_or cells_of_points i 0 < 126
unfolding cells_of_points
cells_fit i h = ltb→lt (get_or cells_of_points i 0) 126 (all_at 62 (λ k. ltb (get_or cells_of_points k 0) 126) tt i h)

pub cell_fits : (i : ℕ) (table : List ℕ) {c : ℕ} → i < 62 → table ≡ cells_of_points → c ≡ get_or table i 0 → c < 126
cell_fits i table h et e = rw (e, et) (cells_fit i h)

pub recorded_next : (n : ℕ) (table cells before points : List ℕ) {c : ℕ} → table ≡ cells_of_points → points ≡ recorded n cells before → c ≡ get_or table n 0
    → set points n (get_or cells c 0) ≡ recorded (n + 1) cells before
unfolding recorded
recorded_next n table cells before now {c} et same e =
    let k : set now n (get_or cells c 0) ≡ recorded (suc n) cells before = cc in
    k ∙ ap {B = List ℕ} (λ (k : ℕ). recorded k cells before) (sym (add-one n))

pub recorded_all : (n k : ℕ) (cells before points : List ℕ) → points ≡ recorded n cells before → n ≡ k → points ≡ recorded k cells before
recorded_all n k cells before points same e = same ∙ ap {B = List ℕ} (λ (i : ℕ). recorded i cells before) e

-- ---- every point is a byte, so that none is cut in its cell

unfoldable Small : List ℕ → Type 0
Small [] = Unit {0}
Small (x ∷ l) = (x < 256) × Small l

abbrev cut : List ℕ → List ℕ
cut [] = []
cut (x ∷ l) = x % 256 ∷ cut l

cut_small : (l : List ℕ) → Small l → cut l ≡ l
unfolding Small
cut_small [] h = refl
cut_small (x ∷ l) h = ap₂ (λ (y : ℕ) (k : List ℕ). y ∷ k) (mod-eq_of_lt h.0) (cut_small l h.1)

none : Small []
unfolding Small
none = tt

and : (x : ℕ) (l : List ℕ) → x < 256 → Small l → Small (x ∷ l)
unfolding Small
and x l h g = (h, g)

-- running sums on top of products, each of which is a byte
module _ (times : ℕ → ℕ → ℕ) (bounded : (x y : ℕ) → times x y < 256) where
  four_more : (s a b c d e f g h : ℕ) (l : List ℕ) → s < 256 → Small l
      → Small (s ⊕ times a b ∷ s ⊕ times a b ⊕ times c d ∷ s ⊕ times a b ⊕ times c d ⊕ times e f ∷ s ⊕ times a b ⊕ times c d ⊕ times e f ⊕ times g h ∷ l)
  four_more s a b c d e f g h l hs hl =
      let p5 = lt 8 _ _ hs (bounded a b) in
      let p6 = lt 8 _ _ p5 (bounded c d) in
      let p7 = lt 8 _ _ p6 (bounded e f) in
      and _ _ p5 (and _ _ p6 (and _ _ p7 (and _ _ (lt 8 _ _ p7 (bounded g h)) hl)))

  eight_more : (a m e t s : ℕ) (l : List ℕ) → s < 256 → Small l → Small (eight times a m e t s ++ l)
  unfolding eight
  eight_more a m e t s l hs hl =
      and _ _ (bounded _ _) (and _ _ (bounded _ _) (and _ _ (bounded _ _) (and _ _ (bounded _ _) (four_more s a e a t m e m t l hs hl))))

  eight_last : (a m e t s : ℕ) → s < 256 → Small (eight times a m e t s)
  unfolding eight
  eight_last a m e t s hs = eight_more a m e t s [] hs none

  fourteen_more : (nu a1 a0 m1 m0 q : ℕ) (l : List ℕ) → a1 < 256 → a0 < 256 → m1 < 256 → m0 < 256 → q < 256 → Small l → Small (fourteen times nu a1 a0 m1 m0 q ++ l)
  unfolding fourteen scaled_square
  fourteen_more nu a1 a0 m1 m0 q l h1 h0 g1 g0 hq hl =
      let p9 = lt 8 _ _ hq (bounded _ _) in
      let p10 = lt 8 _ _ p9 (bounded _ _) in
      and _ _ (lt 8 _ _ h1 h0) (and _ _ (bounded _ _) (and _ _ (lt 8 _ _ g1 g0) (and _ _ (bounded _ _) (and _ _ (bounded _ _) (and _ _ (bounded _ _) (and _ _ (bounded _ _) (and _ _ (bounded _ _)
      (and _ _ p9 (and _ _ p10 (four_more _ a1 a0 a1 m0 a0 m1 m1 m0 l p10 hl))))))))))

nibble_small : (x y : ℕ) → nibble_product x y < 256
nibble_small x y = let b = nibble_level.bounded x y in omega (arith, b)

pair_small : (x y : ℕ) → pair_product x y < 256
pair_small x y = let b = pair_level.bounded x y in omega (arith, b)

high : (x : ℕ) → hi 4 x < 256
high x = let b = hi_lt 4 x in omega (arith, b)

low : (x : ℕ) → lo 4 x < 256
low x = let b = lo_lt 4 x in omega (arith, b)

high_pair : (x : ℕ) → hi 2 x < 256
high_pair x = let b = hi_lt 2 x in omega (arith, b)

low_pair : (x : ℕ) → lo 2 x < 256
low_pair x = let b = lo_lt 2 x in omega (arith, b)

exchange_small : (x : ℕ) → exchange x < 256
unfolding exchange
exchange_small x = let b = join_lt 1 (lo 1 x) (hi 1 x) (lo_lt 1 x) (hi_lt 1 x) in omega (arith, b)

points_small : (a m : ℕ) (ρ : Record) → ρ.r < 256 → Small (record_points a m ρ)
unfolding masked
points_small a m ρ h =
    fourteen_more nibble_product nibble_small _ _ _ _ _ _ _ (high _) (low _) (high _) (low _) (high _)
    (fourteen_more pair_product pair_small _ _ _ _ _ _ _ (high_pair _) (low_pair _) (high_pair _) (low_pair _) h
    (and _ _ (exchange_small _) (and _ _ (exchange_small _)
    (eight_more pair_product pair_small _ _ _ _ _ _ (high_pair _) (eight_more pair_product pair_small _ _ _ _ _ _ (low_pair _)
    (eight_more nibble_product nibble_small _ _ _ _ _ _ (high _) (eight_last nibble_product nibble_small _ _ _ _ _ (low _))))))))

all_recorded : (a m : ℕ) (ρ : Record) (buffer : List ℕ) → recorded 62 (cells_after 5 a m ρ) (elements 62 buffer) ≡ cut (record_points a m ρ)
unfolding masked laid cells_after cells_of_points recorded
all_recorded a m ρ buffer = refl

-- the points, each put into a buffer of 62 bytes from its cell, whatever it held
pub recorded_points : (a m : ℕ) (ρ : Record) (cells buffer after : List ℕ) → ρ.r < 256 → length buffer ≡ 62 → cells ≡ cells_after 5 a m ρ → after ≡ recorded 62 cells buffer
    → after ≡ record_points a m ρ
recorded_points a m ρ cells buffer after hr h same e =
    e ∙ ap₂ {C = List ℕ} (recorded 62) same (eta 62 buffer h) ∙ all_recorded a m ρ buffer ∙ cut_small (record_points a m ρ) (points_small a m ρ hr)
