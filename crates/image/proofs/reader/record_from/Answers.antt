use Rattle.std.proofs.Common.{◌≡◌, Ok, Err, sym, ap, ◌∙◌, arith, rules}
use Rattle.image.specs.declared.reader.Due.{Due}
use Rattle.image.specs.declared.reader.Stepped.{Stepped}
use Rattle.image.specs.Steps.{step_of}
use Rattle.image.proofs.Stepping.{Stands, step_body, step_refused, told, step_told}
use Rattle.image.proofs.reader.record_from.Given as given
use Rattle.std.proofs.lemmas.Result.{err_from_is_err_and}
use Rattle.image.proofs.reader.record_from.Goals as goal
use Rattle.image.proofs.reader.record_from.Goals.{In_ok-start}

stepped : (g : given.Over) (c : In_ok-start g) → c.step_from-got.result ≡ step_of c.args.image.now c.args.at g.R.Kept.due_of
stepped g c = c.step_from-got.ensures ∙ ap (step_of c.args.image.now c.args.at) c.due.ensures

-- the body is a part of the image
stood : (g : given.Over) (c : In_ok-start g) → Stands g.R.Kept.codec c.args.image.now c.args.at g.R.Kept.due_of c.step_from-got.result (stepped g c) c.in_ok-start.start c.in_ok-start.end
stood g c = step_body g.R.Kept.codec c.args.image.now c.args.at g.R.Kept.due_of c.step_from-got.result (stepped g c) _ _ c.in_ok-start.was

pub returns-in_err-start : goal.returns-in_err-start
returns-in_err-start g c =
    let p = err_from_is_err_and c.from_residual.result c.from_residual.ensures.1 in
    rw (p.1, p.2) (step_refused g.R.Kept.codec c.args.image.now c.args.at g.R.Kept.due_of c.step_from-got.result (c.step_from-got.ensures ∙ ap (step_of c.args.image.now c.args.at) c.due.ensures) _ c.in_err-start.was)

pub slice_bounds-decode-count : goal.slice_bounds-decode-count
slice_bounds-decode-count g c = (stood g c).rises

pub slice_bounds-decode-start : goal.slice_bounds-decode-start
slice_bounds-decode-start g c = (stood g (goal.at.slice_bounds-decode-start g c).In_ok-start).rises

pub slice_bounds-decode-end : goal.slice_bounds-decode-end
slice_bounds-decode-end g c = omega (arith, (stood g c).rises, (stood g c).within)

pub returns-in-Some : goal.returns-in-Some
returns-in-Some g c =
    let o = c.args in
    ap (told g.R.Kept.codec o.image.now o.at g.R.Kept.due_of _ (stepped g (goal.at.returns-in-Some g c).In_ok-start)) (sym c.in-Some.is)
    ∙ step_told g.R.Kept.codec o.image.now o.at g.R.Kept.due_of _ (stepped g (goal.at.returns-in-Some g c).In_ok-start) _ _ c.in_ok-start.was _ c.decode.ensures

pub returns-in-None : goal.returns-in-None
returns-in-None g c =
    let o = c.args in
    ap (told g.R.Kept.codec o.image.now o.at g.R.Kept.due_of _ (stepped g (goal.at.returns-in-None g c).In_ok-start)) (sym c.in-None.is)
    ∙ step_told g.R.Kept.codec o.image.now o.at g.R.Kept.due_of _ (stepped g (goal.at.returns-in-None g c).In_ok-start) _ _ c.in_ok-start.was _ c.decode.ensures
