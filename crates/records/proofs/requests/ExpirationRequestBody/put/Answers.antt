use mathlib.Core.Path.{refl}
use Rattle.records.specs.Feeds.{expiration}
use Rattle.records.proofs.Storing.{body_stored}
use Rattle.records.proofs.requests.ExpirationRequestBody.put.Goals as goal

pub returns : goal.returns
returns c = let a = c.args in rw (c.put_u64.ensures, c.put_big64-2.ensures, c.put_big64.ensures) (body_stored expiration (λ r. refl) a.self a.out.now c.requires)
