use native.Mathlib.Omega.{arith}
use Rattle.records.specs.Feeds.{numbered}
use Rattle.records.proofs.Writes.{numbered_counts, counted_stored}
use Rattle.records.proofs.sending.put_listed.Goals as goal

pub returns : goal.returns
returns g c =
    let a = c.args in
    let b = g.B.Body.codec in
    counted_stored (numbered b) (numbered_counts b g.met.B.Body.counts) (a.sequence, a.body) a.list.now a.out.now _ _ _ (omega (arith, c.SIZE.ensures, g.met.B.Body.sized))
    (omega (arith, c.requires.1)) c.put_numbered.ensures c.put_list.ensures
