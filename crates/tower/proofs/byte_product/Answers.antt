-- `tower::byte_product` meets its contract: from what the calls on its nibbles answer. Assumes nothing.
use Rattle.fips197.specs.Field.{◌⊕◌}
use Rattle.tower.proofs.Leaf.{product_made}
use Rattle.tower.proofs.Level.{nibble_level}
use Rattle.tower.specs.Tower.{nibble_product, nibble_inverse, byte_product}
use Rattle.tower.proofs.byte_product.Goals as goal

pub returns : goal.returns
unfolding byte_product ◌⊕◌
returns c =
    product_made 4 nibble_product 0xf nibble_inverse nibble_level 1 _ _ c.high-x1.ensures c.low-x0.ensures c.high-y1.ensures c.low-y0.ensures
    c.nibble_times-m.ensures c.nibble_times-k.ensures c.nibble_times-h.ensures c.nibble_times-l.ensures c.joined.ensures
