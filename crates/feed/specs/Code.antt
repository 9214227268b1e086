-- What only the contracts of the crate's own functions name: a reader of the feed need not believe or read any of it.
use Rattle.std.specs.Prelude.{ℕ}
use Rattle.lookups.specs.Reads.{on_sound}
use Rattle.image.specs.declared.Spare.{Spare}
use Rattle.std.specs.Prelude.{Err}
use Rattle.feed.specs.declared.events.FeedRefusal.TheVariants.{UnsoundState}
use Rattle.feed.specs.declared.events.Step.{Step}
use Rattle.feed.specs.Feed.{still}

-- 12 of the spare's state comes before what a step would be
abbrev pub tested_first : Spare → ℕ → Step → Step
tested_first sp at st = on_sound sp.state (λ n. still sp (Err (UnsoundState n)) 0 at) st
