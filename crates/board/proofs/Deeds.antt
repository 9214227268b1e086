-- 02, C-11: "After every operation the board equals one worked out afresh from the state", over whatever is done to a running
-- spare, one deed after the other. The calls with a board meet the very spares that the plain calls meet, each with its own board.
--     every_board   from any sound spare with its own board; from empty; from any accepted image
-- Assumes nothing.
use Rattle.std.proofs.Common.{◌≡◌, ℕ, List, [], ◌∷◌, map, refl, ap, ◌∙◌, ap₂}
use Rattle.state.specs.declared.LockState.{LockState}
use Rattle.state.specs.Model.{empty_model, full}
use Rattle.std.specs.Prelude.{Ok}
use Rattle.rules.specs.Rules.{broken_rule}
use Rattle.rules.proofs.Sound.{sound_state}
use Rattle.calls.specs.Calls.{perform_on}
use Rattle.promises.specs.Steps.{Op, insert_active, insert_vehicle, renew, delete, begin_expiration, commit_replacement, acknowledge, expire_defunct, step_on as directOn}
use Rattle.promises.proofs.Every.{empty_sound}
use Rattle.image.specs.declared.Spare.{Spare}
use Rattle.image.specs.Image.{no_spare, read_on}
use Rattle.image.proofs.Trips.{accepted}
use Rattle.takeover.specs.Deeds.{Deed, operation, delete_defunct, feeding, left, deed_on, met}
use Rattle.takeover.proofs.Deeds.{deed_keeps}
use Rattle.board.specs.Forms.{BoardPerformed}
use Rattle.board.specs.Forms.{BoardDropped}
use Rattle.board.specs.declared.BoardStep.{BoardStep}
use Rattle.board.specs.Board.{board_of}
use Rattle.board.specs.Forms.{Boarded, boarded}
use Rattle.board.specs.Deeds.{asked, ids_with, deed_board, met_boards, watched}
use Rattle.board.proofs.Theorems.{board_keeps, delete_defunct_keeps, step_keeps_board}

-- a request in a direct call is its operation
asked_state : (s : LockState) (o : Op) → (perform_on s (asked o) (ids_with o)).state ≡ directOn s o
unfolding perform_on directOn
asked_state s (insert_active lock) = refl
asked_state s (insert_vehicle lock ids) = refl
asked_state s (renew id expires now given metadata) = refl
asked_state s (delete id) = refl
asked_state s (begin_expiration id now) = refl
asked_state s (commit_replacement ids lock by at) = refl
asked_state s (acknowledge id) = refl
asked_state s (expire_defunct now) = refl

-- ---- one deed
module _ (sp : Spare) (e : broken_rule sp.state ≡ Ok tt) where
  pub deed_board_lem : (d : Deed) → deed_board (watched sp) d ≡ watched (deed_on sp d)
  unfolding deed_board deed_on
  deed_board_lem (operation o) =
      ap (λ (r : Boarded BoardPerformed). boarded (left sp r.done.state) r.board) (board_keeps sp.state e (asked o) (ids_with o))
      ∙ ap (λ (s : LockState). watched (left sp s)) (asked_state sp.state o)
  deed_board_lem (delete_defunct i k subject) =
      let w = delete_defunct_keeps sp.state e i k subject in
      ap₂ {C = Boarded Spare} (λ (r : BoardDropped) (b : List ℕ). boarded (left sp r.state) b) w.0 w.1
  deed_board_lem (feeding f at) = ap (λ (r : Boarded BoardStep). boarded r.done.spare r.board) (step_keeps_board sp e f at)

-- ---- and any number of them
pub every_board : (sp : Spare) → broken_rule sp.state ≡ Ok tt → (ds : List Deed) → met_boards (watched sp) ds ≡ map watched (met sp ds)
every_board sp e [] = refl
every_board sp e (d ∷ ds) =
    ap (λ (l : List (Boarded Spare)). watched sp ∷ l) (ap (λ (w : Boarded Spare). met_boards w ds) (deed_board_lem sp e d) ∙ every_board (deed_on sp d) (deed_keeps sp e d) ds)

-- from empty, whose board is that of no lock
pub every_board_from_empty : (ds : List Deed) → met_boards (boarded no_spare (board_of [])) ds ≡ map watched (met no_spare ds)
every_board_from_empty ds = every_board no_spare (sound_state empty_model (empty_sound full)) ds

pub every_board_from_image : (b : List ℕ) (sp : Spare) → read_on b ≡ record { told = Ok tt; spare = sp } → (ds : List Deed) → met_boards (watched sp) ds ≡ map watched (met sp ds)
every_board_from_image b sp e ds = every_board sp (accepted b sp e).sound ds
