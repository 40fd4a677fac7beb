-- `tower::invert_nibble` meets its contract: from what the calls on its pairs answer. Assumes nothing.
use Rattle.fips197.specs.Field.{◌⊕◌}
use Rattle.tower.proofs.Leaf.{inverse_made}
use Rattle.tower.proofs.Level.{pair_level}
use Rattle.tower.specs.Tower.{pair_product, pair_inverse, nibble_inverse}
use Rattle.tower.proofs.invert_nibble.Goals as goal

pub returns : goal.returns
unfolding nibble_inverse pair_inverse ◌⊕◌
returns c =
    inverse_made 2 pair_product 3 pair_inverse pair_level 2 _ c.high-x1.ensures c.low-x0.ensures c.pair_times-p.ensures c.pair_square-s.ensures c.exchange-b.ensures
    c.pair_times-h.ensures c.pair_times-l.ensures c.joined.ensures
