use Rattle.std.proofs.Common.{◌≡◌, Err, sym, ap, ap₂, ◌∙◌, rules}
use Rattle.records.specs.Codecs.{Codec}
use Rattle.ids.specs.Order.{key}
use Rattle.image.specs.Image.{record_at}
use Rattle.image.proofs.Running.{passes_why, comes_late, passes}
use Rattle.image.proofs.read.record_after.Given as given
use Rattle.std.proofs.lemmas.Result.{err_from_is_err_and}
use Rattle.image.proofs.read.record_after.Goals as goal
use Rattle.image.proofs.read.record_after.Goals.{After-record_from}

-- what stands there, by the list's own codec and place
there : (g : given.Over) (c : After-record_from g) → c.record_from.result ≡ record_at g.R.Entry.list.codec g.R.Entry.list.place c.args.image.now c.args.at
there g c = rw (g.met.R.Entry.codec_is, g.met.R.Entry.place_is) c.record_from.ensures

pub returns-in_err-r : goal.returns-in_err-r
returns-in_err-r g c =
    let p = err_from_is_err_and c.from_residual.result c.from_residual.ensures.1 in
    rw (p.1, p.2) (passes_why g.R.Entry.list c.args.strict _ _ c.args.i c.args.last _ (there g (goal.at.returns-in_err-r g c).After-record_from) _ c.in_err-r.was)

pub returns-then-i-out_of_order : goal.returns-then-i-out_of_order
returns-then-i-out_of_order g c =
    comes_late g.R.Entry.list c.args.strict _ _ c.args.i c.args.last _ (there g (goal.at.returns-then-i-out_of_order g c).After-record_from) _ _ c.in_ok-r.was _ (g.met.R.Entry.ids _ ∙ ap key (sym c.id.ensures)) _ c.out_of_order.ensures c.if-i-out_of_order.true

pub returns : goal.returns
returns g c =
    passes g.R.Entry.list c.args.strict _ _ c.args.i c.args.last _ (there g (goal.at.returns g c).After-record_from) _ _ c.in_ok-r.was _ (g.met.R.Entry.ids _ ∙ ap key (sym c.id.ensures)) _ c.out_of_order.ensures c.if-i-out_of_order.false
