use Rattle.std.proofs.Common.{Err, ap, ◌∙◌}
use Rattle.feed.specs.declared.events.FeedRefusal.{FeedRefusal}
use Rattle.feed.specs.Feed.{still}
use Rattle.feed.proofs.Stepping.{tested_broken, tested_sound}
use Rattle.feed.proofs.wait.Goals as goal

pub returns-in-Err : goal.returns-in-Err
returns-in-Err c =
    c.still.ensures ∙ ap (λ (x : FeedRefusal). still c.args.spare (Err x) 0 c.args.at) c.from.ensures ∙ tested_broken _ _ _ _ c.broken.ensures _ c.in-Err.is

pub returns : goal.returns
returns c = c.still-2.ensures ∙ tested_sound _ _ _ _ c.broken.ensures c.in_default.is
