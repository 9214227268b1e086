use Rattle.std.proofs.lemmas.Result.{err_from_is_err_and}
use Rattle.records.proofs.Writes.{sent_refused, sent_short, sent_part, sent_done}
use Rattle.records.proofs.sending.put_request.Goals as goal

pub returns-in_err-size : goal.returns-in_err-size
returns-in_err-size c =
    let a = c.args in
    let p = err_from_is_err_and c.from_residual.result c.from_residual.ensures.1 in
    rw (p.1, p.2) (sent_refused a.sequence a.request a.list.now a.out.now _ c.needed.ensures _ c.in_err-size.was)

pub returns-then-out-size : goal.returns-then-out-size
returns-then-out-size c = let a = c.args in sent_short a.sequence a.request a.list.now a.out.now _ c.needed.ensures _ c.in_ok-size.was c.if-out-size.true

pub put_record-requires : goal.put_record-requires
put_record-requires c = let a = c.args in sent_part a.sequence a.request a.list.now a.out.now _ c.needed.ensures _ c.in_ok-size.was c.if-out-size.false

pub returns : goal.returns
returns c = let a = c.args in sent_done a.sequence a.request a.list.now a.out.now _ c.needed.ensures _ c.in_ok-size.was c.if-out-size.false _ c.put_record.ensures
