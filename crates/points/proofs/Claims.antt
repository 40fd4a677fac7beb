-- Every claim of specs/Claims.antt, proved: from the theorems of the files beside this one. Assumes nothing.
use Rattle.tower.specs.Tower.{hi, lo}
use Rattle.tower.proofs.Split.{lo_lt}
use Rattle.points.specs.Points.{point, record_points, masked_inverse}
use Rattle.points.specs.Claims as claims
use Rattle.points.proofs.Inversion.{inversion}
use Rattle.points.proofs.Counts.{demand3}

pub inversion_is_right : claims.InversionIsRight
unfolding masked_inverse record_points point
inversion_is_right a m ρ ha hm good = inversion a m (hi 4 ρ.qt) ρ.r (lo 4 ρ.qt) ρ.s (lo_lt 4 ρ.qt) good.s

pub demand_3 : claims.Demand3
demand_3 = demand3
