-- 02, C-11 computed. Lock 1 is on ECU 5, lock 2 on a group of ECUs 5 and 6, lock 3 on the whole vehicle, lock 4 on an ECU with an
-- empty set:
--     at_five, at_six, at_seven   the counts, the vehicle's lock among them, and the lowest id
--     at_none                     zeros where no lock is; an empty set covers nothing
--     came, went, replaced        which locks came or went with an insertion, a deletion, a replacement
--     renewed, refused            with a renewal and with a refused insertion none did
--     told, left, first           28 of a board of another size, which is left; 12 before it
-- Assumes nothing.
use Rattle.std.proofs.Common.{◌≡◌, ℕ, false, List, [], ◌∷◌, map, replicate, refl}
use Rattle.lists.specs.Tests.{◌and◌, ◌or◌, ◌imp◌, non}
use Rattle.lists.specs.Below.{all_below, any_below}
use Rattle.names.specs.Bytes.{same_bytes}
use Rattle.ids.specs.Order.{key, same_id, before_id, no_id}
use Rattle.ids.specs.Words.{odd_words, listed_in}
use Rattle.coverage.specs.declared.LockCoverage.{LockCoverage}
use Rattle.coverage.specs.Coverage.{no_coverage, whole_vehicle, word_of, in_set, covers, overlap, within}
use Rattle.state.specs.declared.ScopeKey.{ScopeKey}
use Rattle.state.specs.declared.ScopeKey.TheVariants.{Vehicle, Ecu, FunctionalGroup}
use Rattle.state.specs.declared.ActiveLock.{ActiveLock}
use Rattle.state.specs.declared.LockState.{LockState}
use Rattle.state.specs.Locks.{akey, is_vehicle, is_group, ecu_in, scope_code, same_scope, make_lock, has_id, has_id_d, blank_active, blank_defunct, normal}
use Rattle.state.specs.Model.{fits, empty_model, state_of}
use Rattle.rules.specs.Rules.{zero_id, zero_set, zero_lock, is_blank_a, is_blank_d, blanks, in_order, neat_l, neat_a, neat_d, neat, rule0, rule1, rule2, rule3, rule4, rule5, rule6, rule7, clash, rule8, meets_none, rule9, broken_rule, sound}
use Rattle.lookups.specs.Reads.{on_sound, on_scope, narrow, covers_defunct}
use Rattle.operations.specs.Answers.{is_done, refuse_if, and_then, paper_of, renewal_paper, deletion_paper}
use Rattle.operations.specs.Defuncts.{redirect, other, remove_d, superseded, supersede, to_defunct}
use Rattle.operations.specs.Trees.{child_of, in_tree, tree_parts, root_parts, roots_parts}
use Rattle.operations.specs.Checks.{check_list, check_id, check_scope, check_parent_active, check_parent_vehicle, check_parent_owner, check_parent_cover, conflicts, check_clear, at_last_lem, check_revision, check_room, check_root, missing, check_active, settled_lock, check_free, check_listed, check_owner, check_cover, check_child, check_holder}
use Rattle.operations.specs.Insert.{inserted_in, judge_insert, closed_insert, settled_insert, insert_active_with, insert_active_on}
use Rattle.operations.specs.Vehicle.{nest, adopt, vehicle_in, judge_vehicle, insert_vehicle_with, insert_vehicle_on}
use Rattle.operations.specs.Renew.{extended, extend_at, renewed_in, judge_renew, renew_on}
use Rattle.operations.specs.Delete.{without_tree, delete_found, delete_on, expire_found, begin_expiration_on}
use Rattle.operations.specs.Replace.{orphan, entered_of, replaced_in, judge_replace, closed_replace, settled_replace, commit_replacement_with, commit_replacement_on}
use Rattle.promises.specs.Bench.{id_of, set}
use Rattle.records.specs.Numbers.{bytes_of_all, digits, bytes_of}
use Rattle.records.specs.Wire.{id_bytes}
use Rattle.records.specs.declared.requests.Request.{Request}
use Rattle.records.specs.declared.requests.Request.TheVariants.{Insert, Renew, Delete, Replace}
use Rattle.calls.specs.Calls.{perform_on, outcome_paper}
use Rattle.std.specs.Prelude.{Err}
use Rattle.board.specs.declared.BoardRefusal.TheVariants.{UnsoundState}
use Rattle.board.specs.declared.Mismatch.TheVariants as M
use Rattle.board.specs.Board.{on, count_on, lowest_on, entry_of, count_from, board_by, matches, check_on, moved}
use Rattle.board.specs.Forms.{call_moved, perform_board}

abbrev lock_of : ℕ → ScopeKey → LockCoverage → ActiveLock
lock_of i scope coverage = record { lock = make_lock (id_of i) scope coverage 1; parent = no_id; expires = 100; child = false }

abbrev one : ActiveLock
one = lock_of 1 (Ecu 5) (set (5 ∷ []))

abbrev two : ActiveLock
two = lock_of 2 (FunctionalGroup 3) (set (5 ∷ 6 ∷ []))

abbrev three : ActiveLock
three = lock_of 3 Vehicle whole_vehicle

abbrev four : ActiveLock
four = lock_of 4 (Ecu 9) no_coverage

abbrev locks : List ActiveLock
locks = one ∷ two ∷ three ∷ four ∷ []

-- lock 1 alone, and a state whose count is wrong
abbrev held_one : LockState
held_one = (perform_on (state_of empty_model) (Insert one) []).state

abbrev unsound : LockState
unsound = record { revision = 0; active = held_one.active; actives = 65; defunct = held_one.defunct; defuncts = 0 }

-- the ids of those that came or went
abbrev turned : LockState → Request → List ℕ → List ℕ
turned s r ws = map akey (call_moved r (perform_on s r ws))

record Computed : Type 0 where
  at_five : entry_of locks 5 ≡ 3 ∷ id_bytes (id_of 1)
  at_six : entry_of locks 6 ≡ 2 ∷ id_bytes (id_of 2)
  at_seven : entry_of locks 7 ≡ 1 ∷ id_bytes (id_of 3)
  at_none : entry_of (one ∷ four ∷ []) 9 ≡ replicate 17 0
  came : turned (state_of empty_model) (Insert one) [] ≡ 1 ∷ []
  went : turned held_one (Delete (id_of 1)) [] ≡ 1 ∷ []
  replaced : turned held_one (Replace (record { lock = lock_of 2 (Ecu 5) (set (5 ∷ [])); breaker = 0; broken = 0 })) (0 ∷ 1 ∷ []) ≡ 2 ∷ 1 ∷ []
  renewed : turned held_one (Renew (record { id = id_of 1; expires = 200; now = 0; given = false; metadata = 0 })) [] ≡ []
  refused : turned held_one (Insert one) [] ≡ []
  told : (perform_board held_one (Delete (id_of 1)) [] (7 ∷ [])).done.told.outcome ≡ Err M.BoardMismatch
  left : (perform_board held_one (Delete (id_of 1)) [] (7 ∷ [])).board ≡ 7 ∷ []
  first : check_on unsound (7 ∷ []) ≡ Err (UnsoundState 0)

computed : Computed
unfolding sound broken_rule rule0 rule1 rule2 rule3 rule4 rule5 rule6 rule7 rule8 rule9 clash meets_none fits in_order neat neat_l neat_a neat_d zero_lock zero_set zero_id blanks is_blank_a is_blank_d key same_id before_id odd_words listed_in covers in_set word_of overlap within all_below any_below ◌and◌ ◌or◌ ◌imp◌ non is_vehicle is_group ecu_in scope_code same_scope has_id has_id_d blank_active blank_defunct normal on_sound on_scope narrow covers_defunct is_done refuse_if and_then paper_of renewal_paper deletion_paper redirect other remove_d superseded supersede to_defunct child_of in_tree tree_parts root_parts roots_parts check_list check_id check_scope check_parent_active check_parent_vehicle check_parent_owner check_parent_cover conflicts check_clear at_last_lem check_revision check_room check_root missing check_active settled_lock check_free check_listed check_owner check_cover check_child check_holder inserted_in judge_insert closed_insert settled_insert insert_active_with insert_active_on nest adopt vehicle_in judge_vehicle insert_vehicle_with insert_vehicle_on extended extend_at renewed_in judge_renew renew_on without_tree delete_found delete_on expire_found begin_expiration_on orphan entered_of replaced_in judge_replace closed_replace settled_replace commit_replacement_with commit_replacement_on perform_on outcome_paper on count_on lowest_on entry_of moved bytes_of_all digits bytes_of same_bytes count_from board_by matches check_on perform_board
computed = record { at_five = refl; at_six = refl; at_seven = refl; at_none = refl; came = refl; went = refl; replaced = refl; renewed = refl; refused = refl; told = refl; left = refl; first = refl }
