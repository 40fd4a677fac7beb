-- `tower::byte_inverse` meets its contract: from what the calls on its nibbles answer. Assumes nothing.
use Rattle.fips197.specs.Field.{◌⊕◌}
use Rattle.tower.proofs.Leaf.{inverse_made}
use Rattle.tower.proofs.Level.{nibble_level}
use Rattle.tower.specs.Tower.{nibble_product, nibble_inverse, byte_inverse}
use Rattle.tower.proofs.byte_inverse.Goals as goal

pub returns : goal.returns
unfolding byte_inverse ◌⊕◌
returns c =
    inverse_made 4 nibble_product 0xf nibble_inverse nibble_level 1 _ c.high-x1.ensures c.low-x0.ensures c.nibble_times-p.ensures c.nibble_square-s.ensures
    c.invert_nibble-b.ensures c.nibble_times-h.ensures c.nibble_times-l.ensures c.joined.ensures
