-- The sum over all settings, mask by mask: what does not depend on a mask counts once for each of its values. Assumes nothing.
use mathlib.Core.Path.{◌≡◌, ap, ◌∙◌}
use Prim.Native.Nat.{ℕ, ◌+◌, ◌*◌, ◌^◌, ◌<◌}
use native.Mathlib.Omega.{arith}
use Rattle.tower.specs.Tower.{hi, lo, exchange, tower}
use Rattle.counting.specs.Counting.{sum}
use Rattle.counting.proofs.Sum.{sum_ext, sum_by, const, sum_split, sum_halves, sum_hi, sum_lo, sum3}
use Rattle.points.specs.Counts.{the_m, the_q, the_r, the_t, the_s}

abbrev pub total : (ℕ → ℕ → ℕ → ℕ → ℕ → ℕ) → ℕ
total f = sum 256 (λ m. sum 16 (λ q. sum 4 (λ r. sum 16 (λ t. sum 256 (λ s. f m q r t s)))))

module _ (m q r t s : ℕ) (hq : q < 16) (hr : r < 4) (ht : t < 16) (hs : s < 256) where
  word : ℕ
  word = m * 262144 + (q * 16384 + (r * 4096 + (t * 256 + s)))

  m_of : the_m word ≡ m
  unfolding word the_m
  m_of = omega arith

  q_of : the_q word ≡ q
  unfolding word the_q
  q_of = omega arith

  r_of : the_r word ≡ r
  unfolding word the_r
  r_of = omega arith

  t_of : the_t word ≡ t
  unfolding word the_t
  t_of = omega arith

  s_of : the_s word ≡ s
  unfolding word the_s
  s_of = omega arith

pub all_settings : (f : ℕ → ℕ → ℕ → ℕ → ℕ → ℕ) → sum (2 ^ 26) (λ w. f (the_m w) (the_q w) (the_r w) (the_t w) (the_s w)) ≡ total f
unfolding word
all_settings f =
    sum_split 256 262144 g ∙ sum_ext 256 _ _ (λ m hm.
    sum_split 16 16384 (λ w. g (m * 262144 + w)) ∙ sum_ext 16 _ _ (λ q hq.
    sum_split 4 4096 (λ w. g (m * 262144 + (q * 16384 + w))) ∙ sum_ext 4 _ _ (λ r hr.
    sum_split 16 256 (λ w. g (m * 262144 + (q * 16384 + (r * 4096 + w)))) ∙ sum_ext 16 _ _ (λ t ht.
    sum_ext 256 _ _ (λ s hs. cc (m_of m q r t s hq hr ht hs, q_of m q r t s hq hr ht hs, r_of m q r t s hq hr ht hs, t_of m q r t s hq hr ht hs, s_of m q r t s hq hr ht hs))))))
  where
    g : ℕ → ℕ
    g w = f (the_m w) (the_q w) (the_r w) (the_t w) (the_s w)

-- points 1 to 14
pub first : (g : ℕ → ℕ → ℕ → ℕ) → total (λ m q r t s. g (hi 4 m) (lo 4 m) q) ≡ 16384 * sum3 16 g
first g =
    sum_by 256 16384 _ _ (λ m. sum_by 16 16384 _ _ (λ q.
    const 4 _ ∙ ap (λ (x : ℕ). 4 * x) (const 16 _ ∙ ap (λ (x : ℕ). 16 * x) (const 256 _)) ∙ omega arith))
    ∙ ap (λ (x : ℕ). 16384 * x) (sum_halves 4 (λ x y. sum 16 (λ q. g x y q)))

-- points 15 to 28
pub second : (g : ℕ → ℕ → ℕ → ℕ) → total (λ m q r t s. g (hi 2 q) (lo 2 q) r) ≡ 1048576 * sum3 4 g
second g =
    const 256 _
    ∙ ap (λ (x : ℕ). 256 * x) (sum_by 16 4096 _ (λ q. sum 4 (λ r. g (hi 2 q) (lo 2 q) r)) (λ q. sum_by 4 4096 _ _ (λ r.
    const 16 _ ∙ ap (λ (x : ℕ). 16 * x) (const 256 _) ∙ omega arith))
    ∙ ap (λ (x : ℕ). 4096 * x) (sum_halves 2 (λ x y. sum 4 (λ q. g x y q)))) ∙ omega arith

-- points 29 and 30
pub alone : (g : ℕ → ℕ) → total (λ m q r t s. g r) ≡ 16777216 * sum 4 g
alone g =
    const 256 _ ∙ ap (λ (x : ℕ). 256 * x) (const 16 _ ∙ ap (λ (x : ℕ). 16 * x) (sum_by 4 4096 _ g (λ r.
    const 16 _ ∙ ap (λ (x : ℕ). 16 * x) (const 256 _) ∙ omega arith))) ∙ omega arith

-- the exchange of a pair's bits is a permutation
pub exchange_sum : (g : ℕ → ℕ) → sum 4 (λ r. g (exchange r)) ≡ sum 4 g
unfolding sum tower
exchange_sum g = omega arith

-- points 31 to 46: a pair of q, r, a pair of t
module _ (half other : ℕ → ℕ) (by_half : (g : ℕ → ℕ) → sum 16 (λ q. g (half q)) ≡ 4 * sum 4 g) (by_other : (g : ℕ → ℕ) → sum 16 (λ t. g (other t)) ≡ 4 * sum 4 g) where
  pub pairs : (g : ℕ → ℕ → ℕ → ℕ) → total (λ m q r t s. g (half q) (exchange r) (other t)) ≡ 1048576 * sum3 4 g
  pairs g =
      const 256 _
      ∙ ap (λ (x : ℕ). 256 * x) (sum_by 16 1024 _ (λ q. sum 4 (λ y. sum 4 (λ z. g (half q) y z))) (λ q.
      sum_by 4 1024 _ (λ r. sum 4 (λ z. g (half q) (exchange r) z)) (λ r.
      sum_by 16 256 _ _ (λ t. const 256 _) ∙ ap (λ (x : ℕ). 256 * x) (by_other (λ z. g (half q) (exchange r) z)) ∙ omega arith)
      ∙ ap (λ (x : ℕ). 1024 * x) (exchange_sum (λ y. sum 4 (λ z. g (half q) y z))))
      ∙ ap (λ (x : ℕ). 1024 * x) (by_half (λ x. sum 4 (λ y. sum 4 (λ z. g x y z))))) ∙ omega arith

-- points 47 to 62: a nibble of m, t, a nibble of s
module _ (half other : ℕ → ℕ) (by_half : (g : ℕ → ℕ) → sum 256 (λ m. g (half m)) ≡ 16 * sum 16 g) (by_other : (g : ℕ → ℕ) → sum 256 (λ s. g (other s)) ≡ 16 * sum 16 g) where
  pub nibbles : (g : ℕ → ℕ → ℕ → ℕ) → total (λ m q r t s. g (half m) t (other s)) ≡ 16384 * sum3 16 g
  nibbles g =
      sum_by 256 1024 _ (λ m. sum 16 (λ y. sum 16 (λ z. g (half m) y z))) (λ m.
      const 16 _ ∙ ap (λ (x : ℕ). 16 * x) (const 4 _ ∙ ap (λ (x : ℕ). 4 * x) (sum_by 16 16 _ _ (λ t. by_other (λ z. g (half m) t z)))) ∙ omega arith)
      ∙ ap (λ (x : ℕ). 1024 * x) (by_half (λ x. sum 16 (λ y. sum 16 (λ z. g x y z)))) ∙ omega arith

-- the masks of a setting are within their bits
pub record Drawn (m q r t s : ℕ) : Type 0 where
  pub m_lt : m < 256
  pub q_lt : q < 16
  pub r_lt : r < 4
  pub t_lt : t < 16
  pub s_lt : s < 256

total_ext : (f g : ℕ → ℕ → ℕ → ℕ → ℕ → ℕ) → ((m q r t s : ℕ) → Drawn m q r t s → f m q r t s ≡ g m q r t s) → total f ≡ total g
total_ext f g e =
    sum_ext 256 _ _ (λ m hm. sum_ext 16 _ _ (λ q hq. sum_ext 4 _ _ (λ r hr. sum_ext 16 _ _ (λ t ht. sum_ext 256 _ _ (λ s hs.
    e m q r t s (record { m_lt = hm; q_lt = hq; r_lt = hr; t_lt = ht; s_lt = hs }))))))

-- What the counts need to know of a total over settings: that equal summands have equal totals, and that the three masks of each stage are free and separate.
pub record Spread (over : (ℕ → ℕ → ℕ → ℕ → ℕ → ℕ) → ℕ) : Type 0 where
  pub same : (f g : ℕ → ℕ → ℕ → ℕ → ℕ → ℕ) → ((m q r t s : ℕ) → Drawn m q r t s → f m q r t s ≡ g m q r t s) → over f ≡ over g
  pub from1 : (g : ℕ → ℕ → ℕ → ℕ) → over (λ m q r t s. g (hi 4 m) (lo 4 m) q) ≡ 16384 * sum3 16 g
  pub from15 : (g : ℕ → ℕ → ℕ → ℕ) → over (λ m q r t s. g (hi 2 q) (lo 2 q) r) ≡ 1048576 * sum3 4 g
  pub from29 : (g : ℕ → ℕ) → over (λ m q r t s. g r) ≡ 16777216 * sum 4 g
  pub from31 : (g : ℕ → ℕ → ℕ → ℕ) → over (λ m q r t s. g (lo 2 q) (exchange r) (hi 2 t)) ≡ 1048576 * sum3 4 g
  pub from39 : (g : ℕ → ℕ → ℕ → ℕ) → over (λ m q r t s. g (hi 2 q) (exchange r) (lo 2 t)) ≡ 1048576 * sum3 4 g
  pub from47 : (g : ℕ → ℕ → ℕ → ℕ) → over (λ m q r t s. g (lo 4 m) t (hi 4 s)) ≡ 16384 * sum3 16 g
  pub from55 : (g : ℕ → ℕ → ℕ → ℕ) → over (λ m q r t s. g (hi 4 m) t (lo 4 s)) ≡ 16384 * sum3 16 g

-- five masks, all free
pub spread : Spread total
spread = record {
  same = total_ext;
  from1 = first;
  from15 = second;
  from29 = alone;
  from31 = pairs (lo 2) (hi 2) (sum_lo 2) (sum_hi 2);
  from39 = pairs (hi 2) (lo 2) (sum_hi 2) (sum_lo 2);
  from47 = nibbles (lo 4) (hi 4) (sum_lo 4) (sum_hi 4);
  from55 = nibbles (hi 4) (lo 4) (sum_hi 4) (sum_lo 4);
}
