use Rattle.std.proofs.Common.{ℕ, List, sym, refl, ap, ◌∙◌, arith}
use Rattle.std.proofs.lemmas.Result.{err_from_is_err_and}
use Rattle.records.specs.Table.{in_feed}
use Rattle.records.specs.Feeds.{request_of}
use Rattle.image.proofs.Stepping.{Spans, spans, part_of}
use Rattle.feed.specs.Feed.{taken_asked, taken_framed, taken_at}
use Rattle.feed.proofs.taking.taken_at.Goals as goal
use Rattle.feed.proofs.taking.taken_at.Goals.{In_ok-f}

-- the part that the frame names is within
spanned : (c : In_ok-f) → Spans c.args.feed.now c.in_ok-f.f
spanned c = spans _ c.args.at in_feed _ (sym c.frame_at.ensures ∙ c.in_ok-f.was)

pub overflow_add-f : goal.overflow_add-f
overflow_add-f c = omega (arith, (spanned (goal.at.overflow_add-f c).In_ok-f).within, c.well_formed)

pub slice_bounds-of_body-end : goal.slice_bounds-of_body-end
slice_bounds-of_body-end c = omega (arith, (spanned (goal.at.slice_bounds-of_body-end c).In_ok-f).within)

pub returns-in_err-f : goal.returns-in_err-f
unfolding taken_at
returns-in_err-f c =
    let a = c.args in
    let p = err_from_is_err_and c.from_residual.result c.from_residual.ensures.1 in
    rw (p.1, p.2) (ap (taken_framed a.feed.now a.at) (sym c.in_err-f.was ∙ c.frame_at.ensures))

pub returns : goal.returns
unfolding taken_at
returns c = let a = c.args in let f = c.in_ok-f.f in
    c.of_body.ensures ∙ ap (λ (b : List ℕ). taken_asked a.at f (request_of f.kind b)) (part_of a.feed.now f.start f.size _ refl)
    ∙ ap (taken_framed a.feed.now a.at) (sym c.in_ok-f.was ∙ c.frame_at.ensures)
