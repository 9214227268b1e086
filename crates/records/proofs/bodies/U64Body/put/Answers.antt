use mathlib.Core.Path.{refl}
use Rattle.records.specs.Codecs.{number}
use Rattle.records.proofs.Storing.{body_stored}
use Rattle.records.proofs.bodies.U64Body.put.Goals as goal

pub returns : goal.returns
returns c = let a = c.args in rw (c.put_u64.ensures) (body_stored (number 8) (λ r. refl) a.self a.out.now c.requires)
