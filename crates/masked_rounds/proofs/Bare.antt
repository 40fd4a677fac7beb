-- The masked rounds give Cipher and InvCipher under the outgoing mask: each step without its mask is the standard's, and the rounds by induction. Assumes nothing.
use Prim.Native.Nat.{ℕ, zero, suc, ◌+◌, ◌-◌, ◌*◌, ◌≤◌, ◌<◌}
use native.Mathlib.Omega.{arith}
use mathlib.Core.Path.{◌≡◌, refl, sym, ap, ap₂, ◌∙◌}
use mathlib.Core.List.{List}
use lib.ListN.{length, length-take}
use borrow.Author.Tests.{eq-eqb, ne_eqb, le-ltb}
use lib.Dec.{eqb}
use Rattle.fips197.specs.Cipher.{◌⊞◌, cell, state, sub_bytes, shift_rows, columns_by, mix_columns, round_key, add_round_key, rounds, cipher, inv_shift_rows, inv_sub_bytes, inv_mix_columns, inv_rounds, inv_cipher}
use Rattle.fips197.proofs.State.{plus_assoc, plus_comm, plus_off, length_plus, cell_plus, state_plus, state_ext, length_state, Linear, shift_linear, inv_shift_linear, mix_linear, inv_mix_linear}
use Rattle.refusal.specs.Answer.{first}
use Rattle.refusal.proofs.Part.{of_length}
use Rattle.tower.specs.Claims.{Good}
use Rattle.aes.specs.Steps.{on_state, keyed}
use Rattle.aes.proofs.Chosen.{key_there}
use Rattle.sbox.specs.declared.Direction.{Direction}
use Rattle.sbox.specs.declared.Direction.TheVariants.{Encrypt, Decrypt}
use Rattle.sbox.specs.Sbox.{new_byte, new_mask}
use Rattle.sbox.specs.Claims.{bare_box}
use Rattle.sbox.proofs.Claims.{box_is_right}
use Rattle.masked_steps.specs.Steps.{record_at, Parts, boxed, all_boxed, masked_sub_bytes, except_last, restored}
use Rattle.masked_steps.proofs.Parts.{on_states_law}
use Rattle.masked_rounds.specs.Outgoing.{new_masks, outgoing}
use Rattle.masked_rounds.specs.Rounds.{each, masked_add_round_key, round_worked, worked, masked_cipher, inv_round_worked, inv_worked, masked_inv_cipher}

before : (k : ℕ) → k ≡ suc k - 1
before k = omega arith

none_left : (k : ℕ) → suc k - suc k ≡ 0
none_left k = omega arith

-- two states, which are t when the mask is taken off
record Under (b : Parts) (t : List ℕ) : Type 0 where
  long_d : length b.0 ≡ 16
  long_m : length b.1 ≡ 16
  bare : b.0 ⊞ b.1 ≡ t

under_as : (b c : Parts) (t : List ℕ) → c ≡ b → Under b t → Under c t
under_as b c t e u = rw e u

on : (f : List ℕ → List ℕ) (l : List ℕ) → length l ≡ 16 → on_state f l ≡ f l
on f l h = of_length f l (on_state f l) h refl

-- a linear step, on each part
module _ (f : List ℕ → List ℕ) (linear : Linear f) (long : (l : List ℕ) → length (f l) ≡ 16) where
  each_under : (b : Parts) (t : List ℕ) → Under b t → Under (each (on_state f) b) (f t)
  each_under b t u = record {
    long_d = rw (on f b.0 u.long_d) (long b.0);
    long_m = rw (on f b.1 u.long_m) (long b.1);
    bare = ap₂ ◌⊞◌ (on f b.0 u.long_d) (on f b.1 u.long_m) ∙ sym (linear b.0 b.1) ∙ ap f u.bare;
  }

shift_under : (b : Parts) (t : List ℕ) → Under b t → Under (each (on_state shift_rows) b) (shift_rows t)
unfolding shift_rows
shift_under = each_under shift_rows shift_linear (λ l. length_state _)

mix_long : (l : List ℕ) → length (mix_columns l) ≡ 16
unfolding mix_columns columns_by
mix_long l = length_state _

mix_under : (b : Parts) (t : List ℕ) → Under b t → Under (each (on_state mix_columns) b) (mix_columns t)
mix_under = each_under mix_columns mix_linear mix_long

inv_shift_under : (b : Parts) (t : List ℕ) → Under b t → Under (each (on_state inv_shift_rows) b) (inv_shift_rows t)
unfolding inv_shift_rows
inv_shift_under = each_under inv_shift_rows inv_shift_linear (λ l. length_state _)

inv_mix_long : (l : List ℕ) → length (inv_mix_columns l) ≡ 16
unfolding inv_mix_columns columns_by
inv_mix_long l = length_state _

restored_under : (b : Parts) (t : List ℕ) → Under b t → Under (each restored b) (inv_shift_rows (inv_mix_columns t))
unfolding restored
restored_under b t u = inv_shift_under (each (on_state inv_mix_columns) b) (inv_mix_columns t) (each_under inv_mix_columns inv_mix_linear inv_mix_long b t u)

-- a round key goes to the data alone
key_long : (w : List ℕ) (i : ℕ) → length (round_key w i) ≤ 16
unfolding round_key
key_long w i = rw length-take (omega arith)

key_under : (w : List ℕ) (i : ℕ) → 16 * i + 16 ≤ length w → (b : Parts) (t : List ℕ) → Under b t → Under (masked_add_round_key w i b) (add_round_key t w i)
unfolding masked_add_round_key add_round_key
key_under w i k b t u =
    let is : keyed b.0 w i ≡ b.0 ⊞ round_key w i = sym (key_there b.0 w (add_round_key b.0 w i) i u.long_d k refl) in
    record {
      long_d = rw is (length_plus b.0 (round_key w i) (omega (arith, u.long_d, key_long w i)) ∙ u.long_d);
      long_m = u.long_m;
      bare = ap (λ (x : List ℕ). x ⊞ b.1) is
          ∙ plus_assoc b.0 (round_key w i) b.1 ∙ ap (λ (x : List ℕ). b.0 ⊞ x) (plus_comm (round_key w i) b.1) ∙ sym (plus_assoc b.0 b.1 (round_key w i))
          ∙ ap (λ (x : List ℕ). x ⊞ round_key w i) u.bare;
    }

-- every round but the last, and the last
module _ (f : List ℕ → List ℕ) (n nr : ℕ) (b : Parts) where
  not_last : (suc n ≡ nr → ⊥) → each (except_last (eqb (suc n) nr) f) b ≡ each f b
  unfolding except_last
  not_last h = rw (ne_eqb (suc n) nr h) refl

  at_last : suc n ≡ nr → each (except_last (eqb (suc n) nr) f) b ≡ b
  unfolding except_last
  at_last e = rw (eq-eqb (suc n) nr e) refl

module _ (w s : List ℕ) (good : (i : ℕ) → Good (record_at s i)) where
  -- no record is refused
  taken : (dir : Direction) (d m i : ℕ) → boxed dir d m (record_at s i) ≡ (new_byte dir d m (record_at s i), new_mask dir (record_at s i))
  unfolding boxed first
  taken dir d m i = rw (le-ltb 3 (record_at s i).r (good i).r) refl

  module _ (dir : Direction) (n : ℕ) (b : Parts) where
    abbrev new_data : List ℕ
    new_data = state (λ r c. new_byte dir (cell b.0 r c) (cell b.1 r c) (record_at s (16 * n + (r + 4 * c))))

    sub_is : length b.0 ≡ 16 → length b.1 ≡ 16 → masked_sub_bytes dir s n b ≡ (new_data, new_masks dir s n)
    unfolding masked_sub_bytes all_boxed new_masks
    sub_is h g =
        sym (on_states_law (all_boxed dir s n) b.0 b.1 h g _ refl)
        ∙ ap₂ (λ (x y : List ℕ). (x, y)) (state_ext _ _ (λ r c. ap (λ (p : ℕ × ℕ). p.0) (taken dir _ _ (16 * n + (r + 4 * c)))))
        (state_ext _ _ (λ r c. ap (λ (p : ℕ × ℕ). p.1) (taken dir _ _ (16 * n + (r + 4 * c)))))

    boxes : (t : List ℕ) → b.0 ⊞ b.1 ≡ t → new_data ⊞ new_masks dir s n ≡ state (λ r c. bare_box dir (cell t r c))
    unfolding new_masks
    boxes t e =
        state_plus _ _
        ∙ state_ext _ _ (λ r c. box_is_right dir (cell b.0 r c) (cell b.1 r c) (record_at s (16 * n + (r + 4 * c))) (good (16 * n + (r + 4 * c))) ∙ ap (bare_box dir) (sym (cell_plus b.0 b.1 r c) ∙ ap (λ (x : List ℕ). cell x r c) e))

    masks_long : length (new_masks dir s n) ≡ 16
    unfolding new_masks
    masks_long = length_state _

    sub_under : (t : List ℕ) → Under b t → Under (masked_sub_bytes dir s n b) (state (λ r c. bare_box dir (cell t r c)))
    sub_under t u =
        under_as (new_data, new_masks dir s n) (masked_sub_bytes dir s n b) _ (sub_is u.long_d u.long_m)
        record { long_d = length_state _; long_m = masks_long; bare = boxes t u.bare }

  -- what every round of the encryption begins with
  begun_under : (n : ℕ) (b : Parts) (t : List ℕ) → Under b t → Under (each (on_state shift_rows) (masked_sub_bytes Encrypt s n b)) (shift_rows (sub_bytes t))
  unfolding sub_bytes
  begun_under n b t u = shift_under _ _ (sub_under Encrypt n b t u)

  inv_sub_under : (n : ℕ) (b : Parts) (t : List ℕ) → Under b t → Under (masked_sub_bytes Decrypt s n b) (inv_sub_bytes t)
  unfolding inv_sub_bytes
  inv_sub_under n b t u = sub_under Decrypt n b t u

  module _ (nr : ℕ) (keys : 16 * nr + 16 ≤ length w) (b : Parts) (t : List ℕ) (u : Under b t) where
    -- after each round but the last
    rounds_under : (n : ℕ) → n < nr → Under (worked w s nr n (masked_add_round_key w 0 b)) (rounds w n t)
    unfolding worked round_worked rounds
    rounds_under zero h = key_under w 0 (omega arith) b t u
    rounds_under (suc n) h =
        key_under w (suc n) (omega arith) _ _
        (under_as _ _ _ (not_last (on_state mix_columns) n nr _ (λ e. omega arith)) (mix_under _ _ (begun_under n _ _ (rounds_under n (omega arith)))))

    -- decrypting, the rows of the next round are back by then
    inv_rounds_under : (n : ℕ) → n < nr → Under (inv_worked w s nr n (each (on_state inv_shift_rows) (masked_add_round_key w nr b))) (inv_shift_rows (inv_rounds nr w n t))
    unfolding inv_worked inv_round_worked inv_rounds
    inv_rounds_under zero h = inv_shift_under _ _ (key_under w nr keys b t u)
    inv_rounds_under (suc n) h =
        under_as _ _ _ (not_last restored n nr _ (λ e. omega arith))
        (restored_under _ _ (key_under w (nr - suc n) (omega arith) _ _ (inv_sub_under n _ _ (inv_rounds_under n (omega arith)))))

-- what is left when a mask of sixteen is taken off sixteen, put on again
remasked : (b : Parts) (t m : List ℕ) → Under b t → b.1 ≡ m → b ≡ (t ⊞ m, m)
remasked b t m u f =
    ap₂ (λ (x y : List ℕ). (x, y)) (sym (plus_off b.0 b.1 (omega (arith, u.long_d, u.long_m))) ∙ ap₂ ◌⊞◌ u.bare f) f

module _ (w s : List ℕ) (good : (i : ℕ) → Good (record_at s i)) (d m : List ℕ) (h : length d ≡ 16) (g : length m ≡ 16) where
  given : Under (d, m) (d ⊞ m)
  given = record { long_d = h; long_m = g; bare = refl }

  -- the last round, and the mask that comes out
  module _ (k : ℕ) (keys : 16 * suc k + 16 ≤ length w) where
    abbrev B : Parts
    B = worked w s (suc k) k (masked_add_round_key w 0 (d, m))

    U : Under B (rounds w k (d ⊞ m))
    U = rounds_under w s good (suc k) keys (d, m) (d ⊞ m) given k (omega arith)

    abbrev X : Parts
    X = each (on_state shift_rows) (masked_sub_bytes Encrypt s k B)

    end : Under (masked_cipher w s (suc k) (d, m)) (cipher (suc k) w (d ⊞ m))
    unfolding masked_cipher worked round_worked cipher
    end =
        rw (← before k)
        (key_under w (suc k) keys _ _ (under_as _ _ _ (at_last (on_state mix_columns) k (suc k) X refl) (begun_under w s good k B _ U)))

    mask_end : (masked_cipher w s (suc k) (d, m)).1 ≡ outgoing Encrypt s (suc k)
    unfolding masked_cipher worked round_worked outgoing masked_add_round_key
    mask_end =
        ap (λ (x : Parts). x.1) (at_last (on_state mix_columns) k (suc k) X refl)
        ∙ ap (λ (x : Parts). on_state shift_rows x.1) (sub_is w s good Encrypt k B U.long_d U.long_m)
        ∙ on shift_rows (new_masks Encrypt s k) (masks_long w s good Encrypt k B)
        ∙ ap (λ (j : ℕ). shift_rows (new_masks Encrypt s j)) (before k)

    abbrev inv_b : Parts
    inv_b = inv_worked w s (suc k) k (each (on_state inv_shift_rows) (masked_add_round_key w (suc k) (d, m)))

    inv_u : Under inv_b (inv_shift_rows (inv_rounds (suc k) w k (d ⊞ m)))
    inv_u = inv_rounds_under w s good (suc k) keys (d, m) (d ⊞ m) given k (omega arith)

    abbrev inv_x : Parts
    inv_x = masked_add_round_key w (suc k - suc k) (masked_sub_bytes Decrypt s k inv_b)

    inv_end : Under (masked_inv_cipher w s (suc k) (d, m)) (inv_cipher (suc k) w (d ⊞ m))
    unfolding masked_inv_cipher inv_worked inv_round_worked inv_cipher
    inv_end =
        under_as _ _ _ (at_last restored k (suc k) inv_x refl)
        (rw (← before k, none_left k) (key_under w 0 (omega arith) _ _ (inv_sub_under w s good k inv_b _ inv_u)))

    inv_mask_end : (masked_inv_cipher w s (suc k) (d, m)).1 ≡ outgoing Decrypt s (suc k)
    unfolding masked_inv_cipher inv_worked inv_round_worked outgoing masked_add_round_key
    inv_mask_end =
        ap (λ (x : Parts). x.1) (at_last restored k (suc k) inv_x refl)
        ∙ ap (λ (x : Parts). x.1) (sub_is w s good Decrypt k inv_b inv_u.long_d inv_u.long_m)
        ∙ ap (λ (j : ℕ). new_masks Decrypt s j) (before k)

  pub encrypted : (nr : ℕ) → 0 < nr → 16 * nr + 16 ≤ length w → masked_cipher w s nr (d, m) ≡ (cipher nr w (d ⊞ m) ⊞ outgoing Encrypt s nr, outgoing Encrypt s nr)
  encrypted zero p keys = absurd (omega arith)
  encrypted (suc k) p keys = remasked (masked_cipher w s (suc k) (d, m)) _ _ (end k keys) (mask_end k keys)

  pub decrypted : (nr : ℕ) → 0 < nr → 16 * nr + 16 ≤ length w → masked_inv_cipher w s nr (d, m) ≡ (inv_cipher nr w (d ⊞ m) ⊞ outgoing Decrypt s nr, outgoing Decrypt s nr)
  decrypted zero p keys = absurd (omega arith)
  decrypted (suc k) p keys = remasked (masked_inv_cipher w s (suc k) (d, m)) _ _ (inv_end k keys) (inv_mask_end k keys)
