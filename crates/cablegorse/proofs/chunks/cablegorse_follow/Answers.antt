use mathlib.Core.Path.{ap, ◌∙◌}
use lib.ListN.{length}
use Rattle.feed.specs.declared.following.Run.{Run}
use Rattle.feed.specs.Runs.{fresh, follow_on}
use Rattle.cablegorse.specs.declared.Told.{Told}
use Rattle.cablegorse.specs.declared.Followed.{Followed}
use Rattle.cablegorse.specs.Chunks.{followed, chunked, run_put, follow_of}
use Rattle.cablegorse.proofs.Images.{image_refused, image_read}
use Rattle.cablegorse.proofs.chunks.cablegorse_follow.Goals as goal

pub returns-in-Err : goal.returns-in-Err
unfolding follow_of
returns-in-Err c =
    let a = c.args in
    ap (λ (y : Followed). chunked y a.next.now) (c.followed.ensures ∙ ap (λ (t : Told). followed t 0 0 0 0 0 0) c.from.ensures)
    ∙ image_refused _ (λ t. chunked (followed t 0 0 0 0 0 0) a.next.now) (λ sp. run_put (follow_on (length a.chunk.now) (fresh sp) a.chunk.now) a.next.now) _ c.read_image-i.ensures _ c.in-Err.is

pub returns : goal.returns
unfolding follow_of
returns c =
    let a = c.args in
    c.put_run.ensures ∙ ap (λ (r : Run). run_put r a.next.now) c.follow-run.ensures
    ∙ image_read _ (λ t. chunked (followed t 0 0 0 0 0 0) a.next.now) (λ sp. run_put (follow_on (length a.chunk.now) (fresh sp) a.chunk.now) a.next.now) _ c.read_image-i.ensures c.in_default.is
