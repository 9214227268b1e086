use Rattle.std.proofs.Common.{sym, ap, ◌∙◌}
use Rattle.image.specs.Image.{judged, refusal}
use Rattle.image.proofs.Halves.{not_tested, judged_by}
use Rattle.image.proofs.read.read_image.Goals as goal

pub returns-in-Err : goal.returns-in-Err
returns-in-Err c =
    c.refuse.ensures ∙ ap refusal c.from.ensures ∙ ap (judged c.read_records-r.result) (sym c.in-Err.is)
    ∙ judged_by c.args.image.now c.read_records-r.result c.read_records-r.ensures _ (sym c.is_ok.ensures.value ∙ c.if-is_ok.true) c.broken.ensures

pub returns-in_default : goal.returns-in_default
returns-in_default c =
    ap (judged c.read_records-r.result) (sym c.in_default.is)
    ∙ judged_by c.args.image.now c.read_records-r.result c.read_records-r.ensures _ (sym c.is_ok.ensures.value ∙ c.if-is_ok.true) c.broken.ensures

pub returns-else-is_ok : goal.returns-else-is_ok
returns-else-is_ok c = not_tested c.args.image.now c.read_records-r.result c.read_records-r.ensures (sym c.is_ok.ensures.value ∙ c.if-is_ok.false)
