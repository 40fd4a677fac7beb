-- What writing the outstanding message may rely on where no check applies, and what it leaves. Assumes nothing.
use Prim.Native.Nat.{ℕ, ◌-◌, ◌<◌, ◌≤◌}
use native.Mathlib.Omega.{arith}
use mathlib.Core.Path.{◌≡◌, sym, subst, ap, ◌∙◌}
use mathlib.Core.List.{List, [], ◌++◌}
use mathlib.Core.Bool.{true}
use lib.ListN.{length, drop, replicate, length-replicate}
use borrow.Author.Tests.{eq-eqb, ne_eqb}
use Rattle.refusal.specs.Answer.{passes}
use Rattle.refusal.proofs.First.{passes_first}
use Rattle.pool_numbers.specs.Numbers.{number_bytes}
use Rattle.pool_message.specs.Message.{front_bytes, addition}
use Rattle.pool_state.specs.declared.State.{State}
use Rattle.pool_state.specs.State.{state_in, sent}
use Rattle.pool_rooms.specs.Rooms.{room_at, padded, strip_in}
use Rattle.pool_lent.specs.Lent.{not_lent_with}
use Rattle.pool_checks.specs.Checks.{outstanding_checks}
use Rattle.pool_sending.specs.Outstanding.{message_of}
use Rattle.pool_sending.proofs.Written.{taking_is, none_is}
use Rattle.pool_lent.proofs.Lent.{Lent, lent_with}

module _ (st rooms out : List ℕ) (p : passes (outstanding_checks st (length rooms) (length out)) ≡ true) (m : State) (h : m ≡ state_in st) where
  lent_out : Lent st (length rooms) × (length out ≡ 688)
  lent_out = lent_with 688 st (length rooms) (length out) (passes_first 6 (not_lent_with 688 st (length rooms) (length out)) [] p).0

  pub out_sum : (m.role ≡ 4 → ⊥) → sent m ≤ 4294967295
  out_sum = subst (λ (m : State). (m.role ≡ 4 → ⊥) → sent m ≤ 4294967295) (sym h) lent_out.0.counted

  pub out_begun : m.role ≡ 1 → 0 < m.added
  out_begun = subst (λ (m : State). m.role ≡ 1 → 0 < m.added) (sym h) lent_out.0.begun

  module _ (z : List ℕ) (i : z ≡ replicate (length out) 0) where
    pub out_zeroed : length z ≡ 688
    out_zeroed = ap length i ∙ length-replicate (length out) 0 ∙ lent_out.1

    pub out_zeros : z ≡ replicate 688 0
    out_zeros = i ∙ ap (λ (n : ℕ). replicate n 0) lent_out.1

    pub out_taking : (new : List ℕ) → m.role ≡ 2 → new ≡ (front_bytes 10 2 (sent m) ++ number_bytes m.taken) ++ drop 12 z → new ≡ padded 688 (message_of (state_in st) rooms)
    unfolding message_of
    out_taking new y w = rw (← h, ne_eqb m.role 1 (λ x. omega arith), eq-eqb m.role 2 y) (taking_is (sent m) m.taken z new out_zeros w)

    pub out_none : (m.role ≡ 1 → ⊥) → (m.role ≡ 2 → ⊥) → z ≡ padded 688 (message_of (state_in st) rooms)
    unfolding message_of
    out_none x y = rw (← h, ne_eqb m.role 1 x, ne_eqb m.role 2 y) (none_is z out_zeros)

  pub out_adding : (new : List ℕ) → m.role ≡ 1 → new ≡ padded 688 (addition (sent m) m.added (strip_in (room_at rooms (m.added - 1)))) → new ≡ padded 688 (message_of (state_in st) rooms)
  unfolding message_of
  out_adding new y w = rw (← h, eq-eqb m.role 1 y) w
