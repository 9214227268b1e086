use Rattle.std.proofs.Common.{◌≡◌, length, sym, refl, ap, ◌∙◌, rules}
use Rattle.lists.proofs.Loops.{length_of_mapped}
use Rattle.names.specs.Bytes.{same_bytes}
use Rattle.board.specs.Board.{board_of, matches}
use Rattle.board.proofs.Theorems.{another_size}
use Rattle.board.proofs.Followed.{actives_most, same_listed, whole_board, zeros_empty}
use Rattle.board.proofs.matches.Goals as goal
use Rattle.board.proofs.matches.Goals.{Start}

long : (c : Start) → length c.args.state.active ≡ 64
long c = search (rules, length_of_mapped)

pub returns-then-board-ne-SIZE : goal.returns-then-board-ne-SIZE
returns-then-board-ne-SIZE c = sym (another_size c.args.state c.args.board.now c.if-board-ne-SIZE.true)

pub fill-requires : goal.fill-requires
fill-requires c = (actives_most c.args.state _ (long (goal.at.fill-requires c).Start) c.active_locks.ensures, refl, zeros_empty c.vehicle.result 4352 refl)

pub returns : goal.returns
unfolding matches
returns c = c.eq.ensures ∙ same_listed _ _ ∙ ap (same_bytes c.args.board.now) (c.as_slice.ensures ∙ c.fill.ensures ∙ whole_board c.vehicle.result c.vehicle.ensures _ _ ∙ ap board_of c.active_locks.ensures)
