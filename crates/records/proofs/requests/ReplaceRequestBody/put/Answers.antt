use Rattle.records.proofs.Writes.{replacement_stored}
use Rattle.records.proofs.requests.ReplaceRequestBody.put.Goals as goal

pub returns : goal.returns
returns c = replacement_stored c.args.self c.args.out.now _ _ _ c.requires c.put.ensures c.put_u32.ensures c.put_u64.ensures
