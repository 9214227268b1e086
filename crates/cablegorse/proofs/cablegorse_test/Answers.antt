use mathlib.Core.Path.{◌∙◌}
use Rattle.cablegorse.specs.Boundary.{test_of, summary}
use Rattle.cablegorse.proofs.Images.{image_refused, image_read}
use Rattle.cablegorse.proofs.cablegorse_test.Goals as goal

pub returns-in-Err : goal.returns-in-Err
unfolding test_of
returns-in-Err c = c.from.ensures ∙ image_refused _ (λ t. t) summary _ c.read_image-i.ensures _ c.in-Err.is

pub returns : goal.returns
unfolding test_of
returns c = c.new.ensures ∙ image_read _ (λ t. t) summary _ c.read_image-i.ensures c.in_default.is
