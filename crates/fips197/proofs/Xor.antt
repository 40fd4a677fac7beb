-- The laws of the sum, from the library's laws of the bits. Assumes nothing.
use mathlib.Core.Path.{◌≡◌, refl, sym, ap, ap₂, ◌∙◌}
use Prim.Native.Nat.{ℕ, zero, ◌+◌, ◌*◌, ◌/◌, ◌%◌, ◌^◌, ◌<◌}
use native.Mathlib.Nat.{mod-lt, zero-lt-suc}
use lib.Arith.{bin_ind}
use lib.Bits.{bit_xor, differ, xor_step, xor_shr, xor_mod, xor_comm, xor_self, xor_zero_l, xor_zero_r, xor_lt}
use Rattle.fips197.specs.Field.{◌⊕◌}
use Rattle.fips197.proofs.Below.{eq3}

pub two_pos : zero < 2
two_pos = zero-lt-suc 1

bits : (x y z : ℕ) → x < 2 → y < 2 → z < 2 → differ (bit_xor x y) z ≡ differ x (bit_xor y z)
bits = eq3 2 2 2 (λ x y z. differ (bit_xor x y) z) (λ x y z. differ x (bit_xor y z)) tt

pub assoc : (a b c : ℕ) → a ⊕ b ⊕ c ≡ a ⊕ (b ⊕ c)
unfolding ◌⊕◌
assoc a =
    bin_ind (λ (n : ℕ). (b c : ℕ) → bit_xor (bit_xor n b) c ≡ bit_xor n (bit_xor b c)) (λ b c. refl)
    (λ n ih b c. xor_step (bit_xor n b) c
    ∙ ap₂ (λ (x y : ℕ). bit_xor x (c / 2) * 2 + differ y (c % 2)) (xor_shr n b 1) (xor_mod n b 1)
    ∙ ap₂ (λ (x y : ℕ). x * 2 + y) (ih (b / 2) (c / 2)) (bits (n % 2) (b % 2) (c % 2) (mod-lt n two_pos) (mod-lt b two_pos) (mod-lt c two_pos))
    ∙ ap₂ (λ (x y : ℕ). bit_xor (n / 2) x * 2 + differ (n % 2) y) (sym (xor_shr b c 1)) (sym (xor_mod b c 1))
    ∙ sym (xor_step n (bit_xor b c))) a

pub comm : (a b : ℕ) → a ⊕ b ≡ b ⊕ a
unfolding ◌⊕◌
comm = xor_comm

pub self : (a : ℕ) → a ⊕ a ≡ 0
unfolding ◌⊕◌
self = xor_self

pub zero_l : (a : ℕ) → 0 ⊕ a ≡ a
unfolding ◌⊕◌
zero_l = xor_zero_l

pub zero_r : (a : ℕ) → a ⊕ 0 ≡ a
unfolding ◌⊕◌
zero_r = xor_zero_r

pub lcomm : (a b c : ℕ) → a ⊕ (b ⊕ c) ≡ b ⊕ (a ⊕ c)
lcomm a b c = sym (assoc a b c) ∙ ap (λ (x : ℕ). x ⊕ c) (comm a b) ∙ assoc b a c

pub cancel : (a b : ℕ) → a ⊕ (a ⊕ b) ≡ b
cancel a b = sym (assoc a a b) ∙ ap (λ (x : ℕ). x ⊕ b) (self a) ∙ zero_l b

-- sorts a sum and strikes out what stands in it twice
pub ruleset sums = (assoc, lcomm, comm, self, cancel, zero_l, zero_r)

pub lt : (k a b : ℕ) → a < 2 ^ k → b < 2 ^ k → a ⊕ b < 2 ^ k
unfolding ◌⊕◌
lt = xor_lt

pub swap4 : (a b c d : ℕ) → a ⊕ b ⊕ (c ⊕ d) ≡ a ⊕ c ⊕ (b ⊕ d)
swap4 a b c d = simp sums

pub half_xor : (x y : ℕ) → (x ⊕ y) / 2 ≡ x / 2 ⊕ y / 2
unfolding ◌⊕◌
half_xor x y = xor_shr x y 1
