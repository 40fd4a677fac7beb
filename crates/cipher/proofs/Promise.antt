-- The promise of a block call, from the answers of the check, the rounds and the wipe. Assumes nothing.
use Prim.Native.Nat.{ℕ, ◌≤◌, ◌<◌}
use native.Mathlib.Omega.{arith}
use mathlib.Core.Path.{◌≡◌, ap, ap₂, ◌∙◌}
use mathlib.Core.List.{List}
use lib.ListN.{length, get_or}
use Rattle.fips197.specs.Cipher.{◌⊞◌}
use Rattle.refusal.specs.declared.Refusal.{Refusal}
use Rattle.std.specs.Prelude.{Ok, Err}
use Rattle.refusal.specs.Answer.{Answer, first}
use Rattle.refusal.proofs.First.{all_passed, one_failed}
use Rattle.strip.specs.Strip.{wiped}
use Rattle.tower.specs.Claims.{Good}
use Rattle.sbox.specs.declared.Direction.{Direction}
use Rattle.sbox.specs.declared.Direction.TheVariants.{Encrypt, Decrypt}
use Rattle.block_checks.specs.Checks.{rounds_in, checks}
use Rattle.block_checks.proofs.Admitted.{Sizes, Admitted, admitted}
use Rattle.masked_steps.specs.Steps.{record_at, Parts}
use Rattle.masked_rounds.specs.Outgoing.{outgoing}
use Rattle.masked_rounds.specs.Rounds.{masked_cipher, masked_inv_cipher}
use Rattle.masked_rounds.proofs.Bare.{encrypted, decrypted}
use Rattle.cipher.specs.Block.{bare_block, block_of}
use Rattle.cipher.specs.Inner.{worked_in}
use Rattle.cipher.proofs.Records.{all_good}

-- the rounds of either direction
all_rounds : (w s : List ℕ) → ((i : ℕ) → Good (record_at s i)) → (d m : List ℕ) → length d ≡ 16 → length m ≡ 16 → Sizes (length w) → (dir : Direction)
    → worked_in dir w s (d, m) ≡ (bare_block dir w (d ⊞ m) ⊞ outgoing dir s (rounds_in (length w)), outgoing dir s (rounds_in (length w)))
unfolding worked_in bare_block
all_rounds w s good d m h g keys Encrypt = encrypted w s good d m h g (rounds_in (length w)) (omega (arith, keys.least)) (omega (arith, keys.least))
all_rounds w s good d m h g keys Decrypt = decrypted w s good d m h g (rounds_in (length w)) (omega (arith, keys.least)) (omega (arith, keys.least))

module _ (d m w s : List ℕ) (v : Answer (Unit {0})) (e : v ≡ first (checks (length d) (length m) (length w) s) Err (Ok tt)) where
  pub block_refused : (dir : Direction) (r : Refusal) → v ≡ Err r → (x : Answer (Unit {0})) → x ≡ Err r → (x, (d, (m, s))) ≡ block_of dir d m w s
  unfolding block_of
  block_refused dir r f x g =
      ap (λ (y : Answer (Unit {0})). (y, (d, (m, s)))) g ∙ one_failed (λ r. (Err r, (d, (m, s)))) _ tt (checks (length d) (length m) (length w) s) v r e f

  -- where every check has passed: what the work asks for, and what it gives
  module _ (u : Unit {0}) (f : v ≡ Ok u) where
    a : Admitted (length d) (length m) (length w) s
    a = admitted (length d) (length m) (length w) s v e u f

    pub work_may : (16 ≤ length w) × (rounds_in (length w) < 256)
    work_may = (omega (arith, a.keys.least), omega (arith, a.keys.most))

    module _ (bytes : (j : ℕ) → get_or s j 0 < 256) (D M S : List ℕ) (gone : S ≡ wiped s) where
      pub block_done : (dir : Direction) → (D, M) ≡ worked_in dir w s (d, m) → (Ok tt, (D, (M, S))) ≡ block_of dir d m w s
      unfolding block_of
      block_done dir p =
          ap₂ (λ (p : List ℕ × List ℕ) (x : List ℕ). (Ok tt, (p.0, (p.1, x)))) (p ∙ all_rounds w s (all_good s _ a.strip bytes) d m a.block a.mask a.keys dir) gone
          ∙ (all_passed (λ r. (Err r, (d, (m, s)))) _ tt (checks (length d) (length m) (length w) s) v u e f).0

-- the rounds of each direction
module _ (dir : Direction) (w s : List ℕ) (b b' : Parts) where
  pub worked_encrypt : dir ≡ Encrypt → b' ≡ masked_cipher w s (rounds_in (length w)) b → b' ≡ worked_in dir w s b
  unfolding worked_in
  worked_encrypt e f = rw e f

  pub worked_decrypt : dir ≡ Decrypt → b' ≡ masked_inv_cipher w s (rounds_in (length w)) b → b' ≡ worked_in dir w s b
  unfolding worked_in
  worked_decrypt e f = rw e f
