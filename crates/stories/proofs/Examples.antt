-- 02, C-20 computed, from the empty state by operations: subject 1 locks ECU 5 (lock 1, which it renews), subject 2 breaks that
-- (lock 2), subject 3 breaks that (lock 3). What is told then, and whether the claim holds:
--     acknowledged, expired     2 goes by either, 1 has the same holder, and the count does fall
--     first_gone                1 goes, and 2, which remains, tells what it told
--     last_revision_lem, -expiry    at the last revision 8 is told, and the entry is gone all the same
--     said                      of clearing and of renewal it is stated, in any order
--     fed                       so of a record that acknowledges; of one that deletes only where it is out of turn
--     inserted, vehicle         a vehicle lock of subject 2 supersedes 2, and no entry names its id
--     old_copy                  a copy of 1 from before tells another holder: it names an entry that is gone
--     named                     the condition on insertion is needed: lock 3 goes, and one with its id comes, which 2 still names
--     deletion, expiration      that lock goes again by either, and another story is told
--     replacement               the one that lock 3 came by told another story
-- Assumes nothing.
use mathlib.Core.Path.{◌≡◌, refl}
use mathlib.Core.Bool.{Bool, true, false}
use mathlib.Core.List.{List, [], ◌∷◌, ◌++◌}
use Prim.Native.Nat.{ℕ}
use lib.ListN.{get_or, replicate}
use Rattle.lists.specs.Tests.{◌and◌, ◌or◌, ◌imp◌, non}
use Rattle.lists.specs.Below.{all_below, any_below}
use Rattle.ids.specs.Order.{key, same_id, before_id}
use Rattle.ids.specs.Words.{odd_words, listed_in}
use Rattle.coverage.specs.Coverage.{whole_vehicle, word_of, in_set, covers, overlap, within}
use Rattle.state.specs.declared.ScopeKey.TheVariants.{Vehicle, Ecu}
use Rattle.state.specs.declared.DefunctLock.{DefunctLock}
use Rattle.state.specs.declared.LockState.{LockState}
use Rattle.state.specs.Locks.{dkey, is_vehicle, is_group, ecu_in, scope_code, same_scope, has_id, has_id_d, blank_active, blank_defunct, normal}
use Rattle.state.specs.Model.{Model, fits, empty_model, model_of, state_of}
use Rattle.rules.specs.Rules.{zero_id, zero_set, zero_lock, is_blank_a, is_blank_d, blanks, in_order, neat_l, neat_a, neat_d, neat, rule0, rule1, rule2, rule3, rule4, rule5, rule6, rule7, clash, rule8, meets_none, rule9, broken_rule, sound}
use Rattle.lookups.specs.Reads.{on_sound, on_scope, narrow, covers_defunct, held, walk, holder_of}
use Rattle.std.specs.Prelude.{Err}
use Rattle.operations.specs.declared.answers.StateRefusal.TheVariants.{RevisionOverflow}
use Rattle.operations.specs.Answers.{is_done, refuse_if, and_then}
use Rattle.operations.specs.Defuncts.{redirect, other, remove_d, superseded, supersede, to_defunct}
use Rattle.operations.specs.Trees.{child_of, in_tree, tree_parts, root_parts, roots_parts}
use Rattle.operations.specs.Checks.{last_revision, check_list, check_id, check_scope, check_parent_active, check_parent_vehicle, check_parent_owner, check_parent_cover, conflicts, check_clear, at_last_lem, check_revision, check_room, check_root, missing, check_active, settled_lock, check_free, check_listed, check_owner, check_cover, check_child, check_holder}
use Rattle.operations.specs.Insert.{inserted_in, judge_insert, closed_insert, settled_insert, insert_active_with, insert_active_on}
use Rattle.operations.specs.Vehicle.{nest, adopt, vehicle_in, judge_vehicle, insert_vehicle_with, insert_vehicle_on}
use Rattle.operations.specs.Renew.{extended, extend_at, renewed_in, judge_renew, renew_on}
use Rattle.operations.specs.Delete.{without_tree, delete_found, delete_on, expire_found, begin_expiration_on}
use Rattle.operations.specs.Replace.{orphan, entered_of, replaced_in, judge_replace, closed_replace, settled_replace, commit_replacement_with, commit_replacement_on}
use Rattle.operations.specs.Acknowledge.{shed_in, told_acknowledge, acknowledged_to, acknowledge_on, lapsed, shed_to, expire_defunct_on}
use Rattle.locks.specs.Locks.{drop_found_on, delete_defunct_on}
use Rattle.promises.specs.Steps.{Op, delete, begin_expiration, acknowledge, expire_defunct, step_on}
use Rattle.promises.specs.Bench.{id_of, set, insert, insert_over, renew_at, replace}
use Rattle.records.specs.Numbers.{num, value_of}
use Rattle.records.specs.Table.{rows, row_of, units_in, possible}
use Rattle.records.specs.Framing.{frame_of, frame_at}
use Rattle.records.specs.Feeds.{request_of, words_in}
use Rattle.calls.specs.Calls.{perform_on}
use Rattle.image.specs.declared.Spare.{Spare}
use Rattle.feed.specs.Feed.{distance, after, taken_at, act_on, turn_on, step_on as feedOn}
use Rattle.takeover.specs.Deeds.{Deed, operation, delete_defunct, feeding, deed_on}
use Rattle.stories.specs.Stories.{same_story, keeps_stories, unnamed, stated}
use Rattle.stories.specs.Deeds.{deed_stated, deeds_stated}

-- of each entry its id, who holds, through how many
abbrev tales : Model → List DefunctLock → List ℕ
tales m [] = []
tales m (d ∷ ds) = dkey d ∷ (holder_of m d).subject ∷ (holder_of m d).links ∷ tales m ds

abbrev told : LockState → List ℕ
told s = tales (model_of s) (model_of s).defunct

-- what is claimed of an operation on a state
abbrev claim : LockState → Op → Bool
claim s o = stated o (model_of (step_on s o)) imp keeps_stories (model_of s) (model_of (step_on s o))

-- ECU 5, locked by a subject
abbrev granted : ℕ → ℕ → Op
granted i subject = insert i (Ecu 5) (set (5 ∷ [])) subject

abbrev broken : ℕ → ℕ → ℕ → Op
broken old new subject = replace (old ∷ []) new (Ecu 5) (set (5 ∷ [])) subject

abbrev one : LockState
one = step_on (step_on (step_on (state_of empty_model) (granted 1 1)) (renew_at 1 0 200)) (broken 1 2 2)

abbrev two : LockState
two = step_on one (broken 2 3 3)

abbrev last : LockState
last = state_of (record { revision = last_revision; active = (model_of two).active; defunct = (model_of two).defunct })

-- a vehicle lock of subject 2
abbrev over : Op
over = insert 9 Vehicle whole_vehicle 2

abbrev over_all : Op
over_all = insert_over 9 2 []

abbrev spare : Spare
spare = record { state = two; expected = 0 }

-- a renewal, a broken lock dropped by its owner, one acknowledged, one expired
abbrev clearing : List Deed
clearing = operation (renew_at 3 0 200) ∷ delete_defunct (id_of 2) (Ecu 5) 2 ∷ operation (acknowledge (id_of 2)) ∷ operation (expire_defunct 200) ∷ []

-- a record of a kind, with its number, that asks for an id: 22 acknowledges, 19 deletes
abbrev asking : ℕ → ℕ → ℕ → Deed
asking kind number i = feeding (22 ∷ 0 ∷ kind ∷ 0 ∷ number ∷ 0 ∷ 0 ∷ 0 ∷ (replicate 15 0 ++ (i ∷ []))) 0

-- entry 1 as it is before another goes
abbrev copy : DefunctLock
copy = get_or (model_of two).defunct 0 blank_defunct

-- lock 3 goes, and a lock of subject 4 with its id comes
abbrev gone : LockState
gone = step_on two (delete (id_of 3))

abbrev reused : LockState
reused = step_on gone (granted 3 4)

pub record Computed : Type 0 where
  start : told two ≡ 1 ∷ 3 ∷ 1 ∷ 2 ∷ 3 ∷ 0 ∷ []
  acknowledged : (told (step_on two (acknowledge (id_of 2))) ≡ 1 ∷ 3 ∷ 0 ∷ []) × (claim two (acknowledge (id_of 2)) ≡ true)
  expired : (told (step_on two (expire_defunct 100)) ≡ 1 ∷ 3 ∷ 0 ∷ []) × (claim two (expire_defunct 100) ≡ true)
  first_gone : (told (step_on two (acknowledge (id_of 1))) ≡ 2 ∷ 3 ∷ 0 ∷ []) × (claim two (acknowledge (id_of 1)) ≡ true)
  last_revision_lem : ((acknowledge_on last (id_of 2)).told ≡ Err RevisionOverflow) × (told (step_on last (acknowledge (id_of 2))) ≡ 1 ∷ 3 ∷ 0 ∷ []) × (claim last (acknowledge (id_of 2)) ≡ true)
  last_expiry : ((expire_defunct_on last 100).told.answer ≡ Err RevisionOverflow) × (told (step_on last (expire_defunct 100)) ≡ 1 ∷ 3 ∷ 0 ∷ []) × (claim last (expire_defunct 100) ≡ true)
  said : deeds_stated spare clearing ≡ true
  fed : (deeds_stated spare (asking 22 0 2 ∷ asking 19 5 3 ∷ []) ≡ true) × (deeds_stated spare (asking 19 0 3 ∷ []) ≡ false)
  inserted : (told (step_on two over) ≡ 1 ∷ 3 ∷ 0 ∷ []) × (stated over (model_of (step_on two over)) ≡ true) × (claim two over ≡ true)
  vehicle : (told (step_on two over_all) ≡ 1 ∷ 3 ∷ 0 ∷ []) × (stated over_all (model_of (step_on two over_all)) ≡ true) × (claim two over_all ≡ true)
  old_copy : holder_of (model_of (step_on two (acknowledge (id_of 2)))) copy ≡ held 2 0
  named : (told gone ≡ 1 ∷ 3 ∷ 1 ∷ 2 ∷ 3 ∷ 0 ∷ []) × (told reused ≡ 1 ∷ 4 ∷ 1 ∷ 2 ∷ 4 ∷ 0 ∷ []) × (claim gone (granted 3 4) ≡ true)
  deletion : (told (step_on reused (delete (id_of 3))) ≡ 1 ∷ 3 ∷ 1 ∷ 2 ∷ 3 ∷ 0 ∷ []) × (claim reused (delete (id_of 3)) ≡ true)
  expiration : (told (step_on reused (begin_expiration (id_of 3) 100)) ≡ 1 ∷ 3 ∷ 1 ∷ 2 ∷ 3 ∷ 0 ∷ []) × (claim reused (begin_expiration (id_of 3) 100) ≡ true)
  replacement : (told one ≡ 1 ∷ 2 ∷ 0 ∷ []) × (claim one (broken 2 3 3) ≡ true)

pub computed : Computed
unfolding ◌and◌ ◌or◌ ◌imp◌ non all_below any_below key same_id before_id odd_words listed_in word_of in_set covers overlap within is_vehicle is_group ecu_in scope_code same_scope has_id has_id_d blank_active blank_defunct normal fits zero_id zero_set zero_lock is_blank_a is_blank_d blanks in_order neat_l neat_a neat_d neat rule0 rule1 rule2 rule3 rule4 rule5 rule6 rule7 clash rule8 meets_none rule9 broken_rule sound on_sound on_scope narrow covers_defunct walk holder_of is_done refuse_if and_then redirect other remove_d superseded supersede to_defunct child_of in_tree tree_parts root_parts roots_parts check_list check_id check_scope check_parent_active check_parent_vehicle check_parent_owner check_parent_cover conflicts check_clear at_last_lem check_revision check_room check_root missing check_active settled_lock check_free check_listed check_owner check_cover check_child check_holder inserted_in judge_insert closed_insert settled_insert insert_active_with insert_active_on nest adopt vehicle_in judge_vehicle insert_vehicle_with insert_vehicle_on extended extend_at renewed_in judge_renew renew_on without_tree delete_found delete_on expire_found begin_expiration_on orphan entered_of replaced_in judge_replace closed_replace settled_replace commit_replacement_with commit_replacement_on shed_in told_acknowledge acknowledged_to acknowledge_on lapsed shed_to expire_defunct_on step_on same_story keeps_stories unnamed stated drop_found_on delete_defunct_on num value_of rows row_of units_in possible frame_of frame_at request_of words_in perform_on distance after taken_at act_on turn_on feedOn deed_on deed_stated deeds_stated
computed =
    record {
      start = refl;
      acknowledged = (refl, refl);
      expired = (refl, refl);
      first_gone = (refl, refl);
      last_revision_lem = (refl, refl, refl);
      last_expiry = (refl, refl, refl);
      said = refl;
      fed = (refl, refl);
      inserted = (refl, refl, refl);
      vehicle = (refl, refl, refl);
      old_copy = refl;
      named = (refl, refl, refl);
      deletion = (refl, refl);
      expiration = (refl, refl);
      replacement = (refl, refl);
    }
