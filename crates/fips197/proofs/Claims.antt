-- Every claim of specs/Claims.antt, proved: from the files beside this one. Assumes nothing.
use mathlib.Core.Path.{refl}
use Rattle.fips197.specs.Field.{field}
use Rattle.fips197.specs.Claims as claims
use Rattle.fips197.proofs.Inverse as inverses
use Rattle.fips197.proofs.Affine.{sbox_permutes}
use Rattle.fips197.proofs.Undo.{cipher_undone}

pub inverse_law : claims.InverseLaw
inverse_law = inverses.law

pub inverse_of_zero_law : claims.InverseOfZero
unfolding field
inverse_of_zero_law = refl

pub permutes : claims.SboxPermutes
permutes = sbox_permutes

pub undone : claims.CipherUndone
undone = cipher_undone
