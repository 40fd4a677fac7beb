-- Whether a strip is of good form, and where that of an addition stands. Assumes nothing.
use Prim.Native.Nat.{ℕ, ◌-◌, ◌≤◌}
use native.Mathlib.Omega.{arith}
use mathlib.Core.Path.{◌≡◌, sym}
use mathlib.Core.List.{List}
use mathlib.Core.Bool.{Bool, true, false}
use lib.ListN.{length, take, drop, length-drop}
use lib.Seq.{take_all}
use Rattle.std.specs.Prelude.{Some, Ok, Err}
use Rattle.refusal.specs.Answer.{Answer, passes}
use Rattle.refusal.proofs.First.{first_part}
use Rattle.strip.specs.Strip.{own_checks, own_form_of}
use Rattle.pool_message.specs.Message.{read_of}
use Rattle.pool_message.specs.declared.Message.TheVariants.{Adds}
use Rattle.pool_message.proofs.Laws.{adds_long}

abbrev is_done : {A : Type 0} → Answer A → Bool
is_done (Ok x) = true
is_done (Err r) = false

-- the form of a strip, as the answer of its own check has it
pub good_form : (s : List ℕ) → passes (own_checks s) ≡ is_done (own_form_of s)
unfolding passes
good_form s = sym (first_part is_done (own_checks s) Err (Ok tt))

pub whole_strip : (b : List ℕ) → take (length b - 12) (drop 12 b) ≡ drop 12 b
whole_strip b = take_all (length b - 12) (drop 12 b) (omega (arith, length-drop 12 b))

pub read_long : (b : List ℕ) (k n : ℕ) → Some (Adds k n) ≡ read_of b → 12 ≤ length b
read_long b k n e = adds_long b k n (sym e)
