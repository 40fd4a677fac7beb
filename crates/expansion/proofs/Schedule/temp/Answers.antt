-- `expansion::Schedule::temp` meets its contract: in each case that its tests show, from the words made there. Assumes nothing.
use mathlib.Core.Path.{refl}
use native.Mathlib.Omega.{arith}
use borrow.Author.Tests.{eq-eqb, ne_eqb}
use Rattle.expansion.proofs.Words.{temp_turn, temp_again, temp_long, temp_short}
use Rattle.expansion.proofs.Schedule.temp.Goals as goal
use Rattle.expansion.proofs.Schedule.temp.Goals.{else-is_long-via-then-is_long+else-i-nk-eq4, else-is_long-via-else-is_long}

pub returns-then-i-nk-eq0 : goal.returns-then-i-nk-eq0
returns-then-i-nk-eq0 c = temp_turn _ _ _ _ _ _ _ c.if-i-nk-eq0.true c.rot_word.ensures c.sub_word.ensures c.round_constant.ensures c.sum.ensures

pub returns-then-i-nk-eq4 : goal.returns-then-i-nk-eq4
returns-then-i-nk-eq4 c = temp_again _ _ _ _ c.if-i-nk-eq0.false (omega arith) (eq-eqb _ _ c.if-i-nk-eq4.true) c.sub_word-then-i-nk-eq4.ensures

pub returns : goal.returns
returns c =
    elim c.else-is_long.branch [
      | else-is_long-via-then-is_long+else-i-nk-eq4 w ↦ temp_long _ _ _ _ c.if-i-nk-eq0.false w.if-is_long.true (ne_eqb _ _ w.if-i-nk-eq4.false) refl
      | else-is_long-via-else-is_long w ↦ temp_short _ _ _ _ c.if-i-nk-eq0.false w.if-is_long.false refl
    ]
