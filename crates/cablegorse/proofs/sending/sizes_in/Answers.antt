use native.Mathlib.Omega.{arith}
use Rattle.image.proofs.Stores.{Capped, capped}
use Rattle.cablegorse.proofs.Own.{sizes_are}
use Rattle.cablegorse.proofs.sending.sizes_in.Goals as goal
use Rattle.cablegorse.proofs.sending.sizes_in.Goals.{After-min, After-min-2}

-- the counts that are told
locks-gone : (c : After-min) → Capped c.args.s.told.removed c.args.s.told.gone 64 c.min.result
locks-gone c = capped _ _ _ _ c.well_formed.0.1.1.0.1.1.1.1.1.1.0.1.0.1 c.min.ensures

ids-lapsed : (c : After-min-2) → Capped c.args.s.told.ids c.args.s.told.lapsed 128 c.min-2.result
ids-lapsed c = capped _ _ _ _ c.well_formed.0.1.1.0.1.1.1.1.1.1.1.1.0.1.0.1 c.min-2.ensures

pub overflow_mul-result : goal.overflow_mul-result
overflow_mul-result c = omega (arith, (locks-gone c).small)

pub overflow_mul-result-2 : goal.overflow_mul-result-2
overflow_mul-result-2 c = omega (arith, (ids-lapsed c).small)

pub returns : goal.returns
returns c = sizes_are c.args.s _ _ _ c.image_size.ensures (locks-gone (goal.at.returns c).After-min) (ids-lapsed c)
