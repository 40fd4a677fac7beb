-- The halves of a number and their joining: additive, bounded, each undoing the other. From the library's laws of bits and powers. Assumes nothing.
use mathlib.Core.Path.{◌≡◌, sym, ap, ◌∙◌, subst}
use Prim.Native.Nat.{ℕ, ◌+◌, ◌*◌, ◌/◌, ◌%◌, ◌^◌, ◌<◌}
use native.Mathlib.Nat.{mod-lt, mod-eq_of_lt}
use lib.Arith.{digits_lt}
use lib.Bits.{xor_shr, xor_mod, xor_block}
use lib.Pow.{pow_pos, pow-add, recompose, high, low}
use Rattle.fips197.specs.Field.{◌⊕◌}
use Rattle.tower.specs.Tower.{hi, lo, join}

pub hi_xor : (k a b : ℕ) → hi k (a ⊕ b) ≡ hi k a ⊕ hi k b
unfolding ◌⊕◌ hi
hi_xor k a b = ap (λ (x : ℕ). x % 2 ^ k) (xor_shr a b k) ∙ xor_mod (a / 2 ^ k) (b / 2 ^ k) k

pub lo_xor : (k a b : ℕ) → lo k (a ⊕ b) ≡ lo k a ⊕ lo k b
unfolding ◌⊕◌ lo
lo_xor k a b = xor_mod a b k

pub join_xor : (k h h' l l' : ℕ) → l < 2 ^ k → l' < 2 ^ k → join k h l ⊕ join k h' l' ≡ join k (h ⊕ h') (l ⊕ l')
unfolding ◌⊕◌ join
join_xor k h h' l l' p q = xor_block k h h' l l' p q

pub hi_lt : (k x : ℕ) → hi k x < 2 ^ k
unfolding hi
hi_lt k x = mod-lt (x / 2 ^ k) (pow_pos k)

pub lo_lt : (k x : ℕ) → lo k x < 2 ^ k
unfolding lo
lo_lt k x = mod-lt x (pow_pos k)

pub join_lt : (k h l : ℕ) → h < 2 ^ k → l < 2 ^ k → join k h l < 2 ^ (k + k)
unfolding join
join_lt k h l p q = subst (λ (n : ℕ). h * 2 ^ k + l < n) (sym (pow-add 2 k k)) (digits_lt p q)

pub hi_join : (k h l : ℕ) → h < 2 ^ k → l < 2 ^ k → hi k (join k h l) ≡ h
unfolding hi join
hi_join k h l p q = ap (λ (x : ℕ). x % 2 ^ k) (high h k q) ∙ mod-eq_of_lt p

pub lo_join : (k h l : ℕ) → l < 2 ^ k → lo k (join k h l) ≡ l
unfolding lo join
lo_join k h l q = low h k q

pub halves : (k x : ℕ) → x < 2 ^ (k + k) → join k (hi k x) (lo k x) ≡ x
unfolding join hi lo
halves k x h = recompose k k h

pub lo_small : (k x : ℕ) → x < 2 ^ k → lo k x ≡ x
unfolding lo
lo_small k x h = mod-eq_of_lt h
