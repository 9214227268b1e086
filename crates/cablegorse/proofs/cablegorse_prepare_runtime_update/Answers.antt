use mathlib.Core.Path.{ap, ◌∙◌}
use Rattle.std.specs.Prelude.{Result, ℕ}
use Rattle.locks.specs.declared.UpdateRefusal.{UpdateRefusal}
use Rattle.locks.specs.Locks.{update_paper}
use Rattle.cablegorse.specs.Telling.{told_of}
use Rattle.cablegorse.specs.Boundary.{prepare_of}
use Rattle.cablegorse.proofs.Images.{image_refused, image_read}
use Rattle.cablegorse.proofs.cablegorse_prepare_runtime_update.Goals as goal

pub returns-in-Err : goal.returns-in-Err
unfolding prepare_of
returns-in-Err c = c.from.ensures ∙ image_refused _ _ _ _ c.read_image-i.ensures _ c.in-Err.is

pub returns : goal.returns
unfolding prepare_of
returns c = c.from-2.ensures ∙ ap (λ (u : Result ℕ UpdateRefusal). told_of (update_paper u)) c.prepare_runtime_update.ensures ∙ image_read _ _ _ _ c.read_image-i.ensures c.in_default.is
