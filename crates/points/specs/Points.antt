-- Rule 2.3, the 62 points: every step of the masked inversion, in its order, mask first.
use Rattle.std.specs.Prelude.{ℕ, ◌-◌, List, [], ◌∷◌, ◌++◌, get_or}
use Rattle.fips197.specs.Field.{◌⊕◌}
use Rattle.tower.specs.Tower.{hi, lo, join, scaled_square, exchange, pair_product, nibble_product}
use Rattle.tower.specs.declared.Record.{Record}

-- Points 1 to 14 in nibbles, 15 to 28 in pairs: a1 and a0 are the halves of the masked value, m1 and m0 those of its mask, q the mask of the answer, which is the
-- last of the fourteen.
unfoldable pub fourteen : (ℕ → ℕ → ℕ) → ℕ → ℕ → ℕ → ℕ → ℕ → ℕ → List ℕ
fourteen times nu a1 a0 m1 m0 q =
    let p1 = a1 ⊕ a0 in
    let p2 = scaled_square times nu p1 in
    let p3 = m1 ⊕ m0 in
    let p4 = scaled_square times nu p3 in
    let p5 = times a1 a0 in
    let p6 = times a1 m0 in
    let p7 = times a0 m1 in
    let p8 = times m1 m0 in
    let p9 = q ⊕ p2 in
    let p10 = p9 ⊕ p4 in
    let p11 = p10 ⊕ p5 in
    let p12 = p11 ⊕ p6 in
    let p13 = p12 ⊕ p7 in
    let p14 = p13 ⊕ p8 in
    p1 ∷ p2 ∷ p3 ∷ p4 ∷ p5 ∷ p6 ∷ p7 ∷ p8 ∷ p9 ∷ p10 ∷ p11 ∷ p12 ∷ p13 ∷ p14 ∷ []

-- Points 31 to 38 and 39 to 46 in pairs, 47 to 54 and 55 to 62 in nibbles: a under the mask m times e under the mask t, under the mask s.
unfoldable pub eight : (ℕ → ℕ → ℕ) → ℕ → ℕ → ℕ → ℕ → ℕ → List ℕ
eight times a m e t s =
    let p1 = times a e in
    let p2 = times a t in
    let p3 = times m e in
    let p4 = times m t in
    let p5 = s ⊕ p1 in
    let p6 = p5 ⊕ p2 in
    let p7 = p6 ⊕ p3 in
    let p8 = p7 ⊕ p4 in
    p1 ∷ p2 ∷ p3 ∷ p4 ∷ p5 ∷ p6 ∷ p7 ∷ p8 ∷ []

-- the points of the masked byte a, its mask m and the masks q, r, t, s
unfoldable pub points : ℕ → ℕ → ℕ → ℕ → ℕ → ℕ → List ℕ
points a m q r t s =
    let first = fourteen nibble_product 1 (hi 4 a) (lo 4 a) (hi 4 m) (lo 4 m) q in
    let b = get_or first 13 0 in
    let second = fourteen pair_product 2 (hi 2 b) (lo 2 b) (hi 2 q) (lo 2 q) r in
    let p29 = exchange (get_or second 13 0) in
    let p30 = exchange r in
    let third = eight pair_product (lo 2 b) (lo 2 q) p29 p30 (hi 2 t) in
    let fourth = eight pair_product (hi 2 b) (hi 2 q) p29 p30 (lo 2 t) in
    let e = join 2 (get_or third 7 0) (get_or fourth 7 0) in
    let fifth = eight nibble_product (lo 4 a) (lo 4 m) e t (hi 4 s) in
    let sixth = eight nibble_product (hi 4 a) (hi 4 m) e t (lo 4 s) in
    first ++ second ++ (p29 ∷ p30 ∷ []) ++ third ++ fourth ++ fifth ++ sixth

-- point n, from 1 to 62
unfoldable pub point : ℕ → ℕ → ℕ → ℕ → ℕ → ℕ → ℕ → ℕ
point n a m q r t s = get_or (points a m q r t s) (n - 1) 0

-- a record is three bytes: Q in the high nibble and T in the low nibble; S in tower form; r
unfoldable pub record_points : ℕ → ℕ → Record → List ℕ
record_points a m ρ = points a m (hi 4 ρ.qt) ρ.r (lo 4 ρ.qt) ρ.s

-- the masked inverse is points 54 and 62 joined
unfoldable pub masked_inverse : ℕ → ℕ → Record → ℕ
masked_inverse a m ρ = join 4 (get_or (record_points a m ρ) (54 - 1) 0) (get_or (record_points a m ρ) (62 - 1) 0)

-- one name that opens all of the above where a proof computes
unfoldable pub masked : Unit {0}
unfolding fourteen eight points point record_points masked_inverse
masked = tt
