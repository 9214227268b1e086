use mathlib.Core.Path.{ap, ◌∙◌}
use Rattle.cablegorse.specs.declared.questions.Reply.{Reply}
use Rattle.cablegorse.specs.Telling.{kept}
use Rattle.cablegorse.specs.Questions.{reply_on}
use Rattle.cablegorse.specs.declared.Told.{Told}
use Rattle.cablegorse.specs.Replies.{bytes_of_body, put_of, read_of}
use Rattle.cablegorse.proofs.Buffers.{none_put}
use Rattle.cablegorse.proofs.Images.{image_refused, image_read}
use Rattle.cablegorse.proofs.reading.cablegorse_read.Goals as goal

pub returns-in-Err : goal.returns-in-Err
unfolding read_of
returns-in-Err c = let a = c.args in ap (λ (t : Told). kept t a.out.now) c.from.ensures ∙ image_refused _ (λ t. kept t a.out.now) (λ sp. put_of (reply_on sp.state a.question a.x a.y a.given.now) a.out.now) _ c.read_image-i.ensures _ c.in-Err.is

pub returns-in-Ok : goal.returns-in-Ok
unfolding read_of
returns-in-Ok c = let a = c.args in c.put_reply.ensures ∙ ap (λ (p : Reply). put_of p a.out.now) c.in-Ok.ensures ∙ image_read _ (λ t. kept t a.out.now) (λ sp. put_of (reply_on sp.state a.question a.x a.y a.given.now) a.out.now) _ c.read_image-i.ensures c.in_default.is

pub returns-in-Err-answer : goal.returns-in-Err-answer
unfolding read_of put_of bytes_of_body
returns-in-Err-answer c = let a = c.args in none_put _ a.out.now ∙ ap (λ (p : Reply). put_of p a.out.now) c.in-Err-answer.ensures ∙ image_read _ (λ t. kept t a.out.now) (λ sp. put_of (reply_on sp.state a.question a.x a.y a.given.now) a.out.now) _ c.read_image-i.ensures c.in_default.is
