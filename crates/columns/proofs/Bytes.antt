-- The bytes that the code makes, against xtime and the products: by computed tests, and additivity. Assumes nothing.
use mathlib.Core.Path.{◌≡◌, refl, ap, ap₂, ◌∙◌}
use Prim.Native.Nat.{ℕ, ◌*◌, ◌/◌, ◌%◌, ◌<◌}
use lib.Bits.{bit_xor}
use Rattle.fips197.specs.Field.{field, ◌⊕◌, xtime, ◌•◌}
use Rattle.fips197.proofs.Below.{eq1}
use Rattle.fips197.proofs.Xor.{sums, lt}
use Rattle.fips197.proofs.Additive.{Additive, agree_on_bytes}
use Rattle.fips197.proofs.Field.{xtime_additive, product_right, product_lt}
use Rattle.columns.specs.Inner.{mix_byte, inv_mix_byte}

-- doubling without a branch
pub doubled : (b : ℕ) → b < 256 → bit_xor (b * 2 % 256) (b / 128 * 0x1b) ≡ xtime b
unfolding field
doubled = eq1 256 (λ b. bit_xor (b * 2 % 256) (b / 128 * 0x1b)) xtime tt

one : (x : ℕ) → x < 256 → 1 • x ≡ x
unfolding field
one = agree_on_bytes (λ x. 1 • x) (λ x. x) (product_right 1) (λ x y. refl) tt

two : (x : ℕ) → x < 256 → xtime x ≡ 2 • x
unfolding field
two = agree_on_bytes xtime (λ x. 2 • x) xtime_additive (product_right 2) tt

three_additive : Additive (λ x. 2 • x ⊕ x)
three_additive x y = simp (product_right, sums)

three : (x : ℕ) → x < 256 → 3 • x ≡ 2 • x ⊕ x
unfolding field
three = agree_on_bytes (λ x. 3 • x) (λ x. 2 • x ⊕ x) (product_right 3) three_additive tt

pub mixed_byte : (a b c d : ℕ) {x y : ℕ} → x ≡ xtime a → y ≡ xtime b → a < 256 → b < 256 → c < 256 → d < 256
    → bit_xor (bit_xor (bit_xor x (bit_xor y b)) c) d ≡ mix_byte a b c d
unfolding mix_byte ◌⊕◌
mixed_byte a b c d p q ha hb hc hd = rw (p, q, two a ha, two b hb, three b hb, one c hc, one d hd) refl

-- the four constants of the inverse as sums of 8, 4, 2 and 1, the first three by doubling again and again
fourteen_additive : Additive (λ x. 2 • (2 • (2 • x)) ⊕ 2 • (2 • x) ⊕ 2 • x)
fourteen_additive x y = simp (product_right, sums)

fourteen : (x : ℕ) → x < 256 → 0x0e • x ≡ 2 • (2 • (2 • x)) ⊕ 2 • (2 • x) ⊕ 2 • x
unfolding field
fourteen = agree_on_bytes (λ x. 0x0e • x) (λ x. 2 • (2 • (2 • x)) ⊕ 2 • (2 • x) ⊕ 2 • x) (product_right 0x0e) fourteen_additive tt

eleven_additive : Additive (λ x. 2 • (2 • (2 • x)) ⊕ 2 • x ⊕ x)
eleven_additive x y = simp (product_right, sums)

eleven : (x : ℕ) → x < 256 → 0x0b • x ≡ 2 • (2 • (2 • x)) ⊕ 2 • x ⊕ x
unfolding field
eleven = agree_on_bytes (λ x. 0x0b • x) (λ x. 2 • (2 • (2 • x)) ⊕ 2 • x ⊕ x) (product_right 0x0b) eleven_additive tt

thirteen_additive : Additive (λ x. 2 • (2 • (2 • x)) ⊕ 2 • (2 • x) ⊕ x)
thirteen_additive x y = simp (product_right, sums)

thirteen : (x : ℕ) → x < 256 → 0x0d • x ≡ 2 • (2 • (2 • x)) ⊕ 2 • (2 • x) ⊕ x
unfolding field
thirteen = agree_on_bytes (λ x. 0x0d • x) (λ x. 2 • (2 • (2 • x)) ⊕ 2 • (2 • x) ⊕ x) (product_right 0x0d) thirteen_additive tt

nine_additive : Additive (λ x. 2 • (2 • (2 • x)) ⊕ x)
nine_additive x y = simp (product_right, sums)

nine : (x : ℕ) → x < 256 → 0x09 • x ≡ 2 • (2 • (2 • x)) ⊕ x
unfolding field
nine = agree_on_bytes (λ x. 0x09 • x) (λ x. 2 • (2 • (2 • x)) ⊕ x) (product_right 0x09) nine_additive tt

-- the four bytes of an inverse column share their doublings, which are products by two
module _ (a b c d : ℕ) (ha : a < 256) (hb : b < 256) (hc : c < 256) (hd : d < 256) where
  abbrev sum : ℕ
  sum = a ⊕ b ⊕ c ⊕ d

  abbrev once : ℕ
  once = 2 • sum

  abbrev twice : ℕ
  twice = 2 • (once ⊕ a ⊕ c)

  byte_0 : 2 • (twice ⊕ a ⊕ b) ⊕ sum ⊕ a ≡ inv_mix_byte a b c d
  unfolding inv_mix_byte
  byte_0 = rw (fourteen a ha, eleven b hb, thirteen c hc, nine d hd) (simp (product_right, sums))

  byte_1 : 2 • (once ⊕ twice ⊕ b ⊕ c) ⊕ sum ⊕ b ≡ inv_mix_byte b c d a
  unfolding inv_mix_byte
  byte_1 = rw (fourteen b hb, eleven c hc, thirteen d hd, nine a ha) (simp (product_right, sums))

  byte_2 : 2 • (twice ⊕ a ⊕ b) ⊕ once ⊕ sum ⊕ c ≡ inv_mix_byte c d a b
  unfolding inv_mix_byte
  byte_2 = rw (fourteen c hc, eleven d hd, thirteen a ha, nine b hb) (simp (product_right, sums))

  byte_3 : 2 • (once ⊕ twice ⊕ b ⊕ c) ⊕ once ⊕ sum ⊕ d ≡ inv_mix_byte d a b c
  unfolding inv_mix_byte
  byte_3 = rw (fourteen d hd, eleven a ha, thirteen b hb, nine c hc) (simp (product_right, sums))

  module _ {x y z w : ℕ} (p : x ≡ xtime sum) (q : y ≡ xtime (x ⊕ a ⊕ c)) (r : z ≡ xtime (y ⊕ a ⊕ b)) (s : w ≡ xtime (x ⊕ y ⊕ b ⊕ c)) where
    is_x : x ≡ once
    is_x = p ∙ two sum (lt 8 (a ⊕ b ⊕ c) d (lt 8 (a ⊕ b) c (lt 8 a b ha hb) hc) hd)

    hx : x < 256
    hx = rw is_x (product_lt 2 sum)

    is_y : y ≡ twice
    is_y = q ∙ two _ (lt 8 (x ⊕ a) c (lt 8 x a hx ha) hc) ∙ ap (λ (t : ℕ). 2 • (t ⊕ a ⊕ c)) is_x

    hy : y < 256
    hy = rw is_y (product_lt 2 (once ⊕ a ⊕ c))

    is_z : z ≡ 2 • (twice ⊕ a ⊕ b)
    is_z = r ∙ two _ (lt 8 (y ⊕ a) b (lt 8 y a hy ha) hb) ∙ ap (λ (t : ℕ). 2 • (t ⊕ a ⊕ b)) is_y

    is_w : w ≡ 2 • (once ⊕ twice ⊕ b ⊕ c)
    is_w = s ∙ two _ (lt 8 (x ⊕ y ⊕ b) c (lt 8 (x ⊕ y) b (lt 8 x y hx hy) hb) hc) ∙ ap₂ (λ (t u : ℕ). 2 • (t ⊕ u ⊕ b ⊕ c)) is_x is_y

    shared : (z ⊕ sum ⊕ a ≡ inv_mix_byte a b c d) × ((w ⊕ sum ⊕ b ≡ inv_mix_byte b c d a) × ((z ⊕ x ⊕ sum ⊕ c ≡ inv_mix_byte c d a b) × (w ⊕ x ⊕ sum ⊕ d ≡ inv_mix_byte d a b c)))
    shared = (
      ap (λ (t : ℕ). t ⊕ sum ⊕ a) is_z ∙ byte_0,
      (
        ap (λ (t : ℕ). t ⊕ sum ⊕ b) is_w ∙ byte_1,
        (
          ap₂ (λ (t u : ℕ). t ⊕ u ⊕ sum ⊕ c) is_z is_x ∙ byte_2,
          ap₂ (λ (t u : ℕ). t ⊕ u ⊕ sum ⊕ d) is_w is_x ∙ byte_3,
        ),
      ),
    )

-- and as the code writes them
pub inverse_bytes : (a b c d : ℕ) → a < 256 → b < 256 → c < 256 → d < 256 → {x y z w : ℕ}
    → x ≡ xtime (bit_xor (bit_xor (bit_xor a b) c) d) → y ≡ xtime (bit_xor (bit_xor x a) c) → z ≡ xtime (bit_xor (bit_xor y a) b) → w ≡ xtime (bit_xor (bit_xor (bit_xor x y) b) c)
    → (bit_xor (bit_xor z (bit_xor (bit_xor (bit_xor a b) c) d)) a ≡ inv_mix_byte a b c d)
    × ((bit_xor (bit_xor w (bit_xor (bit_xor (bit_xor a b) c) d)) b ≡ inv_mix_byte b c d a)
    × ((bit_xor (bit_xor (bit_xor z x) (bit_xor (bit_xor (bit_xor a b) c) d)) c ≡ inv_mix_byte c d a b)
    × (bit_xor (bit_xor (bit_xor w x) (bit_xor (bit_xor (bit_xor a b) c) d)) d ≡ inv_mix_byte d a b c)))
unfolding ◌⊕◌
inverse_bytes a b c d ha hb hc hd p q r s = shared a b c d ha hb hc hd p q r s
