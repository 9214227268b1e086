-- Where C-20 is stated of whatever is done to a running spare: an operation or delete_defunct in a direct call, or the record
-- at a place of any bytes (crates/takeover, Deed), one after the other. What 02 asks for stands in Stories.antt; this is for
-- the theorems that go further. Assumes nothing.
use Rattle.std.specs.Prelude.{Bool, true, cond, List, [], ◌∷◌, ℕ, zero, suc, eqb}
use Rattle.lists.specs.Tests.{◌and◌, ◌imp◌}
use Rattle.state.specs.Model.{Model, model_of}
use Rattle.promises.specs.Results.{op_of}
use Rattle.image.specs.declared.Spare.{Spare}
use Rattle.std.specs.Prelude.{Result, Ok, Err}
use Rattle.records.specs.declared.frame.Unread.{Unread}
use Rattle.records.specs.declared.frame.Unread.TheVariants.{Torn, BadKind, BadField}
use Rattle.feed.specs.declared.taking.Placed.{Placed}
use Rattle.feed.specs.Feed.{distance, numbered, body_in, taken_at, step_on}
use Rattle.feed.specs.Runs.{stops}
use Rattle.takeover.specs.Deeds.{Deed, operation, delete_defunct, feeding, deed_on}
use Rattle.stories.specs.Stories.{stated}

-- of what a record in turn asks for; one out of turn, or one that can't be read, changes nothing
abbrev pub taken_stated : Spare → List ℕ → Result Placed Unread → Model → Bool
taken_stated spare bytes (Err (Torn at)) after = true
taken_stated spare bytes (Err (BadKind at)) after = true
taken_stated spare bytes (Err (BadField at)) after = true
taken_stated spare bytes (Ok p) after =
    eqb (distance p.sequence spare.expected) 0 imp stated (op_of p.request (numbered p (body_in bytes p.frame)).list) after

unfoldable pub deed_stated : Spare → Deed → Model → Bool
deed_stated spare (operation op) after = stated op after
deed_stated spare (delete_defunct id scope subject) after = true
deed_stated spare (feeding bytes at) after = taken_stated spare bytes (taken_at bytes at) after

-- each of them, after those before it
unfoldable pub deeds_stated : Spare → List Deed → Bool
deeds_stated spare [] = true
deeds_stated spare (deed ∷ deeds) = deed_stated spare deed (model_of (deed_on spare deed).state) and deeds_stated (deed_on spare deed) deeds

unfoldable pub after_deeds : Spare → List Deed → Spare
after_deeds spare [] = spare
after_deeds spare (deed ∷ deeds) = after_deeds (deed_on spare deed) deeds

-- the records of a run over a feed, from a place on, at most k, until one can't be read
unfoldable pub run_deeds : ℕ → Spare → List ℕ → ℕ → List Deed
run_deeds zero spare bytes at = []
run_deeds (suc k) spare bytes at =
    cond (stops (step_on spare bytes at).told.event) [] (feeding bytes at ∷ run_deeds k (step_on spare bytes at).spare bytes (step_on spare bytes at).told.next)
