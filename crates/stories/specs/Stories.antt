-- 02, C-20: "Clearing away must not change the story." The story of a defunct entry is what current_holder tells of it: who
-- holds now, through how many entries. All of it tests, run on examples in proofs/Examples.antt. Assumes nothing.
--     before, after   the lists before and after an operation
use Rattle.std.specs.Prelude.{Bool, true, false, eqb, leb}
use Rattle.std.specs.Prelude.{Option, None, Some}
use Rattle.lists.specs.Tests.{◌and◌, non, Yes}
use Rattle.lists.specs.Lists.{all}
use Rattle.ids.specs.declared.LockId.{LockId}
use Rattle.ids.specs.Order.{key}
use Rattle.state.specs.declared.DefunctLock.{DefunctLock}
use Rattle.state.specs.declared.LockState.{LockState}
use Rattle.state.specs.Locks.{dkey}
use Rattle.state.specs.Model.{Model, model_of}
use Rattle.rules.specs.Rules.{find_d}
use Rattle.lookups.specs.declared.Holder.{Holder}
use Rattle.lookups.specs.Reads.{holder_of}
use Rattle.promises.specs.Steps.{Op, insert_active, insert_vehicle, renew, delete, begin_expiration, commit_replacement, acknowledge, expire_defunct}

-- ---- "the same current holder as before. The number of entries passed may only fall."
unfoldable pub same_story : Holder → Holder → Bool
same_story told again = eqb again.subject told.subject and leb again.links told.links

-- ---- "for every remaining entry": there was one with its id, and that one's story is the same. Each is asked as it stands
-- in its own state, since an entry that pointed at a gone one has taken over its target and holder
abbrev pub keeps_story : Model → Model → DefunctLock → Option DefunctLock → Bool
keeps_story before after entry None = false
keeps_story before after entry (Some was) = same_story (holder_of before was) (holder_of after entry)

unfoldable pub keeps_stories : Model → Model → Bool
keeps_stories before after = all (λ entry. keeps_story before after entry (find_d before.defunct (dkey entry))) after.defunct

-- of two states
abbrev pub StoriesKept : LockState → LockState → Type 0
StoriesKept before after = Yes (keeps_stories (model_of before) (model_of after))

-- ---- "no remaining entry names the new id as its replacement"
unfoldable pub unnamed : LockId → Model → Bool
unnamed id after = all (λ entry. non (eqb (key entry.target) (key id))) after.defunct

-- ---- of which operations it is stated: "acknowledgement and defunct expiry"; "For insertion it is stated only where, after
-- it, no remaining entry names the new id as its replacement; replacement is excepted." Renewal, which 02 doesn't name, keeps
-- every story as well; deletion and begin_expiration, not named either, may not.
unfoldable pub stated : Op → Model → Bool
stated (insert_active lock) after = unnamed lock.lock.id after
stated (insert_vehicle lock ids) after = unnamed lock.lock.id after
stated (renew id expires now given metadata) after = true
stated (delete id) after = false
stated (begin_expiration id now) after = false
stated (commit_replacement ids lock by at) after = false
stated (acknowledge id) after = true
stated (expire_defunct now) after = true
