-- Document 01's traps, and "only the first root" of its answer sheet, each by one computed example that a definition with
-- the wrong reading in it would fail:
--     the expanded trees are not what is removed: each root's tree is removed from what then remains
--     every root's tree goes, not the first one's alone, and in it children before their root
--     13 looks at what is left, not at the entries on the way there
--     an acknowledgement at the last revision is not undone
--     8 comes before 11.4 in a vehicle's insertion
-- Assumes nothing.
use mathlib.Core.Path.{◌≡◌, refl}
use mathlib.Core.Bool.{true, false}
use mathlib.Core.List.{List, [], ◌∷◌, map}
use Prim.Native.Nat.{ℕ}
use Rattle.lists.specs.Tests.{◌and◌, ◌or◌, ◌imp◌, non}
use Rattle.lists.specs.Below.{all_below, any_below}
use Rattle.ids.specs.declared.LockId.{LockId}
use Rattle.ids.specs.Order.{key, same_id, before_id, no_id}
use Rattle.ids.specs.Words.{odd_words, listed_in}
use Rattle.coverage.specs.declared.LockCoverage.{LockCoverage}
use Rattle.coverage.specs.Coverage.{no_coverage, whole_vehicle, with_ecus, word_of, in_set, covers, overlap, within}
use Rattle.state.specs.declared.ScopeKey.{ScopeKey}
use Rattle.state.specs.declared.ScopeKey.TheVariants.{Vehicle, Ecu, FunctionalGroup}
use Rattle.state.specs.declared.ActiveLock.{ActiveLock}
use Rattle.state.specs.Locks.{akey, is_vehicle, is_group, ecu_in, scope_code, same_scope, has_id, has_id_d, make_lock, blank_active, blank_defunct}
use Rattle.state.specs.Model.{Model, fits, state_of}
use Rattle.rules.specs.Rules.{zero_id, zero_set, zero_lock, is_blank_a, is_blank_d, blanks, in_order, neat_l, neat_a, neat_d, neat, rule0, rule1, rule2, rule3, rule4, rule5, rule6, rule7, clash, rule8, meets_none, rule9, broken_rule}
use Rattle.lookups.specs.Reads.{on_sound, on_scope, narrow, covers_defunct}
use Rattle.std.specs.Prelude.{Ok, Err}
use Rattle.operations.specs.declared.answers.Refusal.TheVariants.{RevisionOverflow}
use Rattle.operations.specs.declared.answers.StateRefusal.TheVariants as unsound
use Rattle.operations.specs.Answers.{is_done, refuse_if, and_then}
use Rattle.operations.specs.Defuncts.{redirect, other, remove_d, superseded, supersede, to_defunct}
use Rattle.operations.specs.Trees.{child_of, in_tree, tree_parts, root_parts, roots_parts}
use Rattle.operations.specs.Checks.{last_revision, check_list, check_id, check_scope, check_parent_active, check_parent_vehicle, check_parent_owner, check_parent_cover, conflicts, check_clear, at_last_lem, check_revision, check_room, check_root, missing, check_active, settled_lock, check_free, check_listed, check_owner, check_cover, check_child, check_holder}
use Rattle.operations.specs.Insert.{inserted_in}
use Rattle.operations.specs.Vehicle.{nest, adopt, vehicle_in, judge_vehicle}
use Rattle.operations.specs.Replace.{orphan, entered_of, replaced_in, judge_replace}
use Rattle.operations.specs.Acknowledge.{shed_in, told_acknowledge, acknowledged_to, acknowledge_on}

-- ---- locks of one subject
abbrev id_of : ℕ → LockId
id_of n = record { hi = 0; lo = n }

abbrev lock_of : ℕ → ScopeKey → LockCoverage → ActiveLock
lock_of i k c =
    record {
      lock = make_lock (id_of i) k c 1;
      parent = no_id;
      expires = 100;
      child = false;
    }

-- an ECU lock, and a vehicle lock that covers nothing
abbrev ecu : ℕ → ActiveLock
ecu i = lock_of i (Ecu 5) (with_ecus no_coverage (5 ∷ []))

abbrev bare : ℕ → ActiveLock
bare i = lock_of i Vehicle no_coverage

-- a vehicle lock 1, its one child the group lock 2, and the ECU lock 3 that the group covers
abbrev group : ActiveLock
group =
    record {
      lock = (lock_of 2 (FunctionalGroup 3) (with_ecus no_coverage (5 ∷ 6 ∷ []))).lock;
      parent = id_of 1;
      expires = 100;
      child = true;
    }

abbrev three : List ActiveLock
three = lock_of 1 Vehicle whole_vehicle ∷ group ∷ ecu 3 ∷ []

-- ---- the roots 1 and 2: the first tree takes the group with it, so the group's own tree is not taken and lock 3 stays
pub not_expanded : map akey (roots_parts (0 ∷ 1 ∷ 0 ∷ 2 ∷ []) three).kept ≡ 3 ∷ []
unfolding roots_parts root_parts tree_parts child_of in_tree narrow has_id key listed_in same_id is_group ecu_in covers in_set word_of ◌and◌ ◌or◌ non
not_expanded = refl

-- ---- the roots 1 and 3: both trees go, the group before the vehicle lock that is its parent
pub every_root : map akey (roots_parts (0 ∷ 1 ∷ 0 ∷ 3 ∷ []) three).gone ≡ 2 ∷ 1 ∷ 3 ∷ []
unfolding roots_parts root_parts tree_parts child_of in_tree narrow has_id key listed_in same_id is_group ecu_in covers in_set word_of ◌and◌ ◌or◌ non
every_root = refl

-- ---- one active lock, no defunct one, and room for just that: a replacement whose entry is superseded is done
pub room_at_the_end : judge_replace (record { active = 1; defunct = 0 }) (record { revision = 1; active = ecu 1 ∷ []; defunct = [] }) (0 ∷ 1 ∷ []) (ecu 2) 0 0 ≡ Ok tt
unfolding judge_replace check_list check_active check_id check_holder check_scope check_parent_active check_parent_vehicle check_parent_owner check_parent_cover check_clear check_revision check_cover check_room replaced_in entered_of orphan adopt nest fits roots_parts root_parts tree_parts child_of in_tree narrow has_id has_id_d key listed_in same_id before_id odd_words missing on_scope same_scope scope_code conflicts overlap within is_vehicle is_group ecu_in covers in_set word_of at_last_lem supersede superseded covers_defunct to_defunct remove_d redirect other and_then refuse_if is_done ◌and◌ ◌or◌ ◌imp◌ non any_below all_below
room_at_the_end = refl

-- ---- one defunct entry at the last revision: it is gone, and the revision unchanged
abbrev last : Model
last =
    record {
      revision = last_revision;
      active = [];
      defunct = record { lock = (ecu 1).lock; target = id_of 2; expires = 100; broken = 0; breaker = 0; holder = 1 } ∷ [];
    }

pub not_undone : acknowledge_on (state_of last) (id_of 1) ≡ record { told = Err unsound.RevisionOverflow; state = state_of (record { revision = last_revision; active = []; defunct = [] }) }
unfolding acknowledge_on acknowledged_to told_acknowledge shed_in at_last_lem remove_d redirect other has_id_d key on_sound broken_rule rule0 rule1 rule2 rule3 rule4 rule5 rule6 rule7 rule8 rule9 meets_none clash blanks in_order neat neat_a neat_d neat_l is_blank_a is_blank_d zero_lock zero_id zero_set is_vehicle blank_active blank_defunct overlap within in_set word_of same_scope scope_code any_below all_below ◌and◌ ◌or◌ ◌imp◌ non
not_undone = refl

-- ---- a vehicle lock that covers nothing over an ECU lock, at the last revision: 8, though 11.4 holds too
pub revision_first : judge_vehicle (record { active = 64; defunct = 128 }) (record { revision = last_revision; active = ecu 1 ∷ []; defunct = [] }) (bare 2) (0 ∷ 1 ∷ []) ≡ Err RevisionOverflow
unfolding judge_vehicle check_list check_root check_active check_free check_listed check_id check_scope check_revision check_owner check_cover check_child check_room vehicle_in inserted_in adopt nest fits supersede superseded covers_defunct has_id has_id_d key listed_in same_id before_id odd_words missing settled_lock on_scope same_scope scope_code is_vehicle within in_set word_of at_last_lem and_then refuse_if is_done ◌and◌ ◌or◌ ◌imp◌ non all_below
revision_first = refl
