-- What the refusals of the crates below are here: the same number, the same value. Assumes nothing.
use Rattle.rules.specs.declared.Unsound.{Unsound}
use Rattle.rules.specs.declared.Unsound.TheVariants.{Rule}
use Rattle.records.specs.declared.frame.Unread.{Unread}
use Rattle.records.specs.declared.frame.Unread.TheVariants as U
use Rattle.feed.specs.declared.events.FeedRefusal.{FeedRefusal}
use Rattle.feed.specs.declared.events.FeedRefusal.TheVariants.{UnsoundState, Torn, BadKind, BadField}

-- 17 to 19: no record can be read
abbrev pub unread : Unread → FeedRefusal
unread (U.Torn at) = Torn at
unread (U.BadKind at) = BadKind at
unread (U.BadField at) = BadField at

-- 12
abbrev pub unsound : Unsound → FeedRefusal
unsound (Rule n) = UnsoundState n
