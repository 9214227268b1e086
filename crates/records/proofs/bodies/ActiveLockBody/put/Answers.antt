use mathlib.Core.Path.{refl}
use Rattle.records.specs.Wire.{active}
use Rattle.records.proofs.Storing.{body_stored}
use Rattle.records.proofs.bodies.ActiveLockBody.put.Goals as goal

pub returns : goal.returns
returns c = let a = c.args in rw (c.put_big64-2.ensures, c.put_big64.ensures, c.put_u8.ensures, c.flag_of.ensures, c.put_u64.ensures, c.put_lock.ensures) (body_stored active (λ r. refl) a.self a.out.now c.requires)
