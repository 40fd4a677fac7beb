-- An addition read from its bytes, and what was read of them. Assumes nothing.
use Prim.Native.Nat.{ℕ, ◌≤◌}
use mathlib.Core.Path.{◌≡◌, refl}
use mathlib.Core.List.{List}
use mathlib.Core.Bool.{Bool, true, false, cond, ◌&&◌}
use lib.ListN.{length, get_or}
use lib.Dec.{leb, eqb}
use borrow.Author.Tests.{leb-true, le-leb, eq-eqb}
use Rattle.std.specs.Prelude.{Option, Some, None}
use Rattle.pool_numbers.specs.Numbers.{number_at}
use Rattle.pool_message.specs.Message.{misframed, is_of, read_of}
use Rattle.pool_message.specs.declared.Message.{Message}
use Rattle.pool_message.specs.declared.Message.TheVariants.{Adds, Takes, Acknowledges}

pub adds : (m : List ℕ) (a b : ℕ) → misframed m ≡ false → get_or m 3 0 ≡ 1 → 12 ≤ length m → a ≡ number_at m 4 → b ≡ number_at m 8 → ◌≡◌ {A = Option Message} (Some (Adds a b)) (read_of m)
unfolding read_of is_of
adds m a b f h g i j = rw (f, eq-eqb (get_or m 3 0) 1 h, le-leb 12 (length m) g, i, j) refl

-- an addition has all of its first twelve bytes
pub adds_long : (m : List ℕ) (k n : ℕ) → read_of m ≡ Some (Adds k n) → 12 ≤ length m
unfolding read_of is_of
adds_long m k n e = leb-true 12 (length m) (go (misframed m) (eqb (get_or m 3 0) 1) (leb 12 (length m)) (eqb (get_or m 3 0) 2 && eqb (length m) 12) (eqb (get_or m 3 0) 3 && eqb (length m) 8) e) where
  go : (a b c d f : Bool) → ◌≡◌ {A = Option Message} (cond a None (cond (b && c) (Some (Adds (number_at m 4) (number_at m 8))) (cond d (Some (Takes (number_at m 4) (number_at m 8))) (cond f (Some (Acknowledges (number_at m 4))) None)))) (Some (Adds k n)) → c ≡ true
  go true b c d f e = cc
  go false true true d f e = refl
  go false true false true f e = cc
  go false true false false true e = cc
  go false true false false false e = cc
  go false false c true f e = cc
  go false false c false true e = cc
  go false false c false false e = cc
