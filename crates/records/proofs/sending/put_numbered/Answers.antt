use native.Mathlib.Omega.{arith}
use Rattle.records.proofs.Writes.{numbered_stored}
use Rattle.records.proofs.sending.put_numbered.Goals as goal

pub returns : goal.returns
returns g c = let a = c.args in numbered_stored g.B.Body.codec g.met.B.Body.counts a.sequence a.body a.out.now _ _ _ (omega (arith, c.SIZE.ensures, g.met.B.Body.sized)) (omega (arith, c.requires, c.SIZE.ensures, g.met.B.Body.sized)) c.put_u32.ensures c.put.ensures
