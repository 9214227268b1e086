use mathlib.Core.Path.{refl}
use Rattle.records.specs.Feeds.{renewal}
use Rattle.records.proofs.Storing.{body_stored}
use Rattle.records.proofs.requests.RenewRequestBody.put.Goals as goal

pub returns : goal.returns
returns c = let a = c.args in rw (c.put_u32.ensures, c.put_u8.ensures, c.flag_of.ensures, c.put_u64-2.ensures, c.put_u64.ensures, c.put_big64-2.ensures, c.put_big64.ensures) (body_stored renewal (λ r. refl) a.self a.out.now c.requires)
