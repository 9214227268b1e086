-- What is done to a running spare with a board kept beside it: any mixture of the eight operations and delete_defunct in direct
-- calls and of records of any bytes (crates/takeover, Deed), each by its form with a board, whose state and board the next one
-- is handed. Assumes nothing.
use Rattle.std.specs.Prelude.{ℕ, List, [], ◌∷◌}
use Rattle.state.specs.Model.{model_of}
use Rattle.records.specs.declared.requests.Request.{Request}
use Rattle.records.specs.declared.requests.Request.TheVariants.{Insert, InsertVehicle, Renew, Delete, BeginExpiration, Replace, Acknowledge, ExpireDefunct}
use Rattle.promises.specs.Steps.{Op, insert_active, insert_vehicle, renew, delete, begin_expiration, commit_replacement, acknowledge, expire_defunct}
use Rattle.image.specs.declared.Spare.{Spare}
use Rattle.takeover.specs.Deeds.{Deed, operation, delete_defunct, feeding, left}
use Rattle.board.specs.Board.{board_of}
use Rattle.board.specs.Forms.{Boarded, boarded, perform_board, delete_defunct_board, step_board}

-- an operation with its arguments as a request, and the ids that go with it: `op_of` of crates/promises the other way
abbrev pub asked : Op → Request
asked (insert_active lock) = Insert lock
asked (insert_vehicle lock ids) = InsertVehicle lock
asked (renew id expires now given metadata) = Renew record { id = id; expires = expires; now = now; metadata = metadata; given = given }
asked (delete id) = Delete id
asked (begin_expiration id now) = BeginExpiration record { id = id; now = now }
asked (commit_replacement ids lock by at) = Replace record { lock = lock; broken = at; breaker = by }
asked (acknowledge id) = Acknowledge id
asked (expire_defunct now) = ExpireDefunct now

abbrev pub ids_with : Op → List ℕ
ids_with (insert_active lock) = []
ids_with (insert_vehicle lock ids) = ids
ids_with (renew id expires now given metadata) = []
ids_with (delete id) = []
ids_with (begin_expiration id now) = []
ids_with (commit_replacement ids lock by at) = ids
ids_with (acknowledge id) = []
ids_with (expire_defunct now) = []

-- the spare and the board that the form leaves; delete_defunct only reads the board
unfoldable pub deed_board : Boarded Spare → Deed → Boarded Spare
deed_board kept (operation op) =
    let r = perform_board kept.done.state (asked op) (ids_with op) kept.board in
    boarded (left kept.done r.done.state) r.board
deed_board kept (delete_defunct id scope subject) =
    boarded (left kept.done (delete_defunct_board kept.done.state id scope subject kept.board).state) kept.board
deed_board kept (feeding bytes at) =
    let r = step_board kept.done bytes at kept.board in
    boarded r.done.spare r.board

-- every spare met with its board, the first and the last included
abbrev pub met_boards : Boarded Spare → List Deed → List (Boarded Spare)
met_boards kept [] = kept ∷ []
met_boards kept (deed ∷ deeds) = kept ∷ met_boards (deed_board kept deed) deeds

-- a spare with its own board
abbrev pub watched : Spare → Boarded Spare
watched spare = boarded spare (board_of (model_of spare.state).active)
