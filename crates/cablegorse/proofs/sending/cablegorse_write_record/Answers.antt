use mathlib.Core.Path.{ap}
use Rattle.records.specs.Sending.{sent_paper}
use Rattle.cablegorse.specs.Telling.{kept}
use Rattle.cablegorse.specs.Sending.{on_asked, record_put, write_of}
use Rattle.cablegorse.proofs.Own.{record_told}
use Rattle.cablegorse.proofs.sending.cablegorse_write_record.Goals as goal

pub returns-in-Err : goal.returns-in-Err
unfolding write_of
returns-in-Err c = let a = c.args in ap (on_asked (λ t. kept t a.out.now) (record_put a.sequence a.list.now a.out.now)) c.in-Err.ensures

pub returns-in-Ok-put_request : goal.returns-in-Ok-put_request
unfolding sent_paper
returns-in-Ok-put_request c = let a = c.args in record_told a.sequence a.asked _ a.list.now a.out.now c.in-Ok.ensures _ _ c.in-Ok-put_request.ensures _ c.new.ensures

pub returns-in-Err-put_request : goal.returns-in-Err-put_request
returns-in-Err-put_request c = let a = c.args in record_told a.sequence a.asked _ a.list.now a.out.now c.in-Ok.ensures _ _ c.in-Err-put_request.ensures _ c.from.ensures
