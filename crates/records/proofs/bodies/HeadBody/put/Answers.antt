use mathlib.Core.Path.{refl}
use Rattle.records.specs.Wire.{head}
use Rattle.records.proofs.Storing.{body_stored}
use Rattle.records.proofs.bodies.HeadBody.put.Goals as goal

pub returns : goal.returns
returns c = let a = c.args in rw (c.put_u16-2.ensures, c.put_u16.ensures, c.put_u32.ensures, c.put_u64.ensures) (body_stored head (λ r. refl) a.self a.out.now c.requires)
