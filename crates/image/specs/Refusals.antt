-- What the refusals of the crates below are here: the same number, the same value. Assumes nothing.
use Rattle.rules.specs.declared.Unsound.{Unsound}
use Rattle.rules.specs.declared.Unsound.TheVariants.{Rule}
use Rattle.records.specs.declared.frame.Unread.{Unread}
use Rattle.records.specs.declared.frame.Unread.TheVariants as U
use Rattle.image.specs.declared.ImageRefusal.{ImageRefusal}
use Rattle.image.specs.declared.ImageRefusal.TheVariants.{Torn, BadKind, BadField, UnsoundState}
use Rattle.image.specs.declared.WriteRefusal.{WriteRefusal}
use Rattle.image.specs.declared.WriteRefusal.TheVariants as W

-- 17 to 19: no record can be read
abbrev pub unread : Unread → ImageRefusal
unread (U.Torn at) = Torn at
unread (U.BadKind at) = BadKind at
unread (U.BadField at) = BadField at

-- 12, of an image that is read
abbrev pub unsound : Unsound → ImageRefusal
unsound (Rule n) = UnsoundState n

-- 12, of one that is to be written
abbrev pub not_written : Unsound → WriteRefusal
not_written (Rule n) = W.UnsoundState n
