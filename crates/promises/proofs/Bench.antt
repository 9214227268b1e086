-- The bench sheet's twelve starred rows hold: one claim, by computing.
-- Assumes nothing.
use mathlib.Core.Path.{◌≡◌, refl}
use mathlib.Core.Bool.{true}
use lib.ListN.{length}
use Rattle.lists.specs.Tests.{◌and◌, ◌or◌, ◌imp◌, non}
use Rattle.lists.specs.Lists.{all}
use Rattle.lists.specs.Below.{all_below, any_below, lowest_below}
use Rattle.ids.specs.Order.{key, same_id, before_id}
use Rattle.ids.specs.Words.{odd_words, listed_in}
use Rattle.coverage.specs.Coverage.{word_of, in_set, covers, overlap, spot_of, within}
use Rattle.state.specs.Locks.{is_vehicle, is_group, ecu_in, scope_code, same_scope, has_id, has_id_d, blank_active, blank_defunct, normal}
use Rattle.state.specs.Model.{fits}
use Rattle.rules.specs.Rules.{zero_id, zero_set, zero_lock, is_blank_a, is_blank_d, blanks, in_order, neat_l, neat_a, neat_d, neat, rule0, rule1, rule2, rule3, rule4, rule5, rule6, rule7, clash, rule8, meets_none, rule9, broken_rule, sound}
use Rattle.lookups.specs.Reads.{on_sound, on_scope, narrow, covers_defunct}
use Rattle.operations.specs.Answers.{paper_of, renewal_paper, deletion_paper, expiration_paper, acknowledgement_paper, expiry_paper, is_done, refuse_if, and_then}
use Rattle.operations.specs.Defuncts.{redirect, other, remove_d, superseded, supersede, to_defunct}
use Rattle.operations.specs.Trees.{child_of, in_tree, tree_parts, root_parts, roots_parts}
use Rattle.operations.specs.Checks.{check_list, check_id, check_scope, check_parent_active, check_parent_vehicle, check_parent_owner, check_parent_cover, conflicts, check_clear, at_last_lem, check_revision, check_room, check_root, missing, check_active, settled_lock, check_free, check_listed, check_owner, check_cover, check_child, check_holder}
use Rattle.operations.specs.Insert.{inserted_in, judge_insert, closed_insert, settled_insert, insert_active_with, insert_active_on}
use Rattle.operations.specs.Vehicle.{nest, adopt, vehicle_in, judge_vehicle, insert_vehicle_with, insert_vehicle_on}
use Rattle.operations.specs.Renew.{extended, extend_at, renewed_in, judge_renew, renew_on}
use Rattle.operations.specs.Delete.{without_tree, delete_found, delete_on, expire_found, begin_expiration_on}
use Rattle.operations.specs.Replace.{orphan, entered_of, replaced_in, judge_replace, closed_replace, settled_replace, commit_replacement_with, commit_replacement_on}
use Rattle.operations.specs.Acknowledge.{shed_in, told_acknowledge, acknowledged_to, acknowledge_on, lapsed, shed_to, expire_defunct_on}
use Rattle.promises.specs.Steps.{step_on}
use Rattle.promises.specs.Bench.{answer_on, removed_on, rows, ends, goes, row_holds}

pub every_row : (length rows ≡ 12) × (all row_holds rows ≡ true)
unfolding ◌and◌ ◌or◌ ◌imp◌ non all_below any_below lowest_below key same_id before_id odd_words listed_in word_of in_set covers overlap spot_of within is_vehicle is_group ecu_in scope_code same_scope has_id has_id_d blank_active blank_defunct normal fits zero_id zero_set zero_lock is_blank_a is_blank_d blanks in_order neat_l neat_a neat_d neat rule0 rule1 rule2 rule3 rule4 rule5 rule6 rule7 clash rule8 meets_none rule9 broken_rule sound on_sound on_scope narrow covers_defunct paper_of renewal_paper deletion_paper expiration_paper acknowledgement_paper expiry_paper is_done refuse_if and_then redirect other remove_d superseded supersede to_defunct child_of in_tree tree_parts root_parts roots_parts check_list check_id check_scope check_parent_active check_parent_vehicle check_parent_owner check_parent_cover conflicts check_clear at_last_lem check_revision check_room check_root missing check_active settled_lock check_free check_listed check_owner check_cover check_child check_holder inserted_in judge_insert closed_insert settled_insert insert_active_with insert_active_on nest adopt vehicle_in judge_vehicle insert_vehicle_with insert_vehicle_on extended extend_at renewed_in judge_renew renew_on without_tree delete_found delete_on expire_found begin_expiration_on orphan entered_of replaced_in judge_replace closed_replace settled_replace commit_replacement_with commit_replacement_on shed_in told_acknowledge acknowledged_to acknowledge_on lapsed shed_to expire_defunct_on step_on answer_on removed_on rows ends goes row_holds
every_row = (refl, refl)
