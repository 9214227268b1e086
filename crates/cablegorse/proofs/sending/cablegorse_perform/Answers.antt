use mathlib.Core.Path.{ap, ◌∙◌}
use Rattle.cablegorse.specs.declared.Told.{Told}
use Rattle.cablegorse.specs.declared.Applied.{Applied}
use Rattle.cablegorse.specs.Changes.{still}
use Rattle.cablegorse.specs.Sending.{asked_of, performed, quiet, asked_put, perform_of}
use Rattle.cablegorse.proofs.Images.{records_refused}
use Rattle.cablegorse.proofs.Own.{perform_refused, perform_asked}
use Rattle.cablegorse.proofs.sending.cablegorse_perform.Goals as goal

pub returns-in-Err : goal.returns-in-Err
unfolding perform_of
returns-in-Err c = let a = c.args in
    ap (λ (y : Applied). performed y a.next.now a.removed.now a.expired.now a.sent.now) (c.still.ensures ∙ ap (λ (t : Told). still t 0 0 0) c.from.ensures)
    ∙ records_refused a.image.now _ c.read_records-i.ensures (λ t. quiet a.next.now a.removed.now a.expired.now a.sent.now (still t 0 0 0)) (λ sp. asked_put a.next.now a.removed.now a.expired.now a.sent.now sp a.list.now (asked_of a.asked)) _ c.in-Err.is

pub returns-in-Err-request_in : goal.returns-in-Err-request_in
returns-in-Err-request_in c = let a = c.args in perform_refused a.image.now _ c.read_records-i.ensures c.in_default.is a.asked a.list.now a.next.now a.removed.now a.expired.now a.sent.now _ c.in-Err-request_in.ensures _ c.refused.ensures

pub returns-in-Ok : goal.returns-in-Ok
returns-in-Ok c = let a = c.args in perform_asked a.image.now _ c.read_records-i.ensures c.in_default.is a.asked a.list.now a.next.now a.removed.now a.expired.now a.sent.now _ c.in-Ok.ensures _ c.ask.ensures
