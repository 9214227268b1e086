-- Document 01's bench sheet, its twelve starred rows, as one table of data. Each row runs its operations from the empty
-- state, by the definitions that the code's functions are proved equal to, and states the last answer by document 01's
-- number and values, the removed locks, and what is left. The claim that every row holds stands in proofs/Bench.antt.
-- What a row leaves out: exclusive, principal and metadata 0, a vehicle lock's coverage whole, the renewal's target 200,
-- expiry 100, who broke and when 0.
use Rattle.std.specs.Prelude.{Bool, true, false, List, [], ◌∷◌, map, ℕ, eqb, take}
use Rattle.lists.specs.Tests.{◌and◌}
use Rattle.ids.specs.declared.LockId.{LockId}
use Rattle.ids.specs.Order.{key, no_id}
use Rattle.coverage.specs.declared.LockCoverage.{LockCoverage}
use Rattle.coverage.specs.Coverage.{no_coverage, whole_vehicle, with_ecus}
use Rattle.state.specs.declared.ScopeKey.{ScopeKey}
use Rattle.state.specs.declared.ScopeKey.TheVariants.{Vehicle, Ecu, FunctionalGroup}
use Rattle.state.specs.declared.ActiveLock.{ActiveLock}
use Rattle.state.specs.declared.DefunctLock.{DefunctLock}
use Rattle.state.specs.declared.LockState.{LockState}
use Rattle.state.specs.Locks.{akey, dkey, make_lock}
use Rattle.state.specs.Model.{empty_model, model_of, state_of}
use Rattle.lists.specs.Papers.{Paper, paper}
use Rattle.operations.specs.Answers.{paper_of, renewal_paper, deletion_paper, expiration_paper, acknowledgement_paper, expiry_paper}
use Rattle.operations.specs.Insert.{insert_active_on}
use Rattle.operations.specs.Vehicle.{insert_vehicle_on}
use Rattle.operations.specs.Renew.{renew_on}
use Rattle.operations.specs.Delete.{delete_on, begin_expiration_on}
use Rattle.operations.specs.Replace.{commit_replacement_on}
use Rattle.operations.specs.Acknowledge.{acknowledge_on, expire_defunct_on}
use Rattle.promises.specs.Steps.{Op, insert_active, insert_vehicle, renew, delete, begin_expiration, commit_replacement, acknowledge, expire_defunct, step_on}

-- ---- what an operation answers and removes
unfoldable pub answer_on : LockState → Op → Paper
answer_on s (insert_active y) = paper_of (insert_active_on s y).told
answer_on s (insert_vehicle y ws) = paper_of (insert_vehicle_on s y ws).told
answer_on s (renew i e now has d) = renewal_paper (renew_on s i e now has d).told
answer_on s (delete i) = deletion_paper (delete_on s i).told.answer
answer_on s (begin_expiration i now) = expiration_paper (begin_expiration_on s i now).told.answer
answer_on s (commit_replacement ws y by at) = paper_of (commit_replacement_on s ws y by at).told.answer
answer_on s (acknowledge i) = acknowledgement_paper (acknowledge_on s i).told
answer_on s (expire_defunct now) = expiry_paper (expire_defunct_on s now).told.answer

unfoldable pub removed_on : LockState → Op → List ActiveLock
removed_on s (insert_active y) = []
removed_on s (insert_vehicle y ws) = []
removed_on s (renew i e now has d) = []
removed_on s (delete i) = let r = (delete_on s i).told in take r.gone r.removed
removed_on s (begin_expiration i now) = let r = (begin_expiration_on s i now).told in take r.gone r.removed
removed_on s (commit_replacement ws y by at) = let r = (commit_replacement_on s ws y by at).told in take r.gone r.removed
removed_on s (acknowledge i) = []
removed_on s (expire_defunct now) = []

-- ---- words of the sheet
abbrev pub id_of : ℕ → LockId
id_of n = record { hi = 0; lo = n }

-- an id list's words
abbrev pub ids : List ℕ → List ℕ
ids [] = []
ids (n ∷ ns) = 0 ∷ n ∷ ids ns

abbrev pub set : List ℕ → LockCoverage
set es = with_ecus no_coverage es

abbrev pub lock : ℕ → ScopeKey → LockCoverage → ℕ → ActiveLock
lock i k c s =
    record {
      lock = make_lock (id_of i) k c s;
      parent = no_id;
      expires = 100;
      child = false;
    }

abbrev pub insert : ℕ → ScopeKey → LockCoverage → ℕ → Op
insert i k c s = insert_active (lock i k c s)

abbrev pub insert_over : ℕ → ℕ → List ℕ → Op
insert_over i s children = insert_vehicle (lock i Vehicle whole_vehicle s) (ids children)

abbrev pub renew_at : ℕ → ℕ → ℕ → Op
renew_at i now to = renew (id_of i) to now false 0

abbrev pub expire_at : ℕ → ℕ → Op
expire_at i now = begin_expiration (id_of i) now

abbrev pub replace : List ℕ → ℕ → ScopeKey → LockCoverage → ℕ → Op
replace roots i k c s = commit_replacement (ids roots) (lock i k c s) 0 0

-- ---- a row: the operations, the first one as it is named in the sheet, then the last answer and what is left
pub record Row : Type 0 where
  pub ops : List Op
  pub says : Paper
  pub removed : List ℕ
  pub revision : ℕ
  pub active : List ℕ
  -- each entry's id and the id that it points to
  pub defunct : List ℕ

-- "A is: from empty, insert id 1, ECU 5, set {5}, subject 1, expiry 100."
abbrev pub A : Op
A = insert 1 (Ecu 5) (set (5 ∷ [])) 1

-- "ECU 5 id 3 {5}; group 3 {5,6}; vehicle with only the group as child; one subject", then one operation more
abbrev pub nested : ℕ → ℕ → Op → List Op
nested vehicle group o = insert 3 (Ecu 5) (set (5 ∷ [])) 1 ∷ insert group (FunctionalGroup 3) (set (5 ∷ 6 ∷ [])) 1 ∷ insert_over vehicle 1 (group ∷ []) ∷ o ∷ []

unfoldable pub rows : List Row
rows =
    -- "*A: revision 1."
    record { ops = A ∷ []; says = paper 0 []; removed = []; revision = 1; active = 1 ∷ []; defunct = [] }
    -- "*A, then id 2, group 3, {5,6}, subject 2: 7 with id 1." and, by 02's C-13, ECU 5
    ∷ record { ops = A ∷ insert 2 (FunctionalGroup 3) (set (5 ∷ 6 ∷ [])) 2 ∷ []; says = paper 7 (0 ∷ 1 ∷ 1 ∷ 5 ∷ []); removed = []; revision = 1; active = 1 ∷ []; defunct = [] }
    -- "*With {6}: done."
    ∷ record { ops = A ∷ insert 2 (FunctionalGroup 3) (set (6 ∷ [])) 2 ∷ []; says = paper 0 []; removed = []; revision = 2; active = 1 ∷ 2 ∷ []; defunct = [] }
    -- "*A, then vehicle id 2 of subject 2: done; no conflict test."
    ∷ record { ops = A ∷ insert 2 Vehicle whole_vehicle 2 ∷ []; says = paper 0 []; removed = []; revision = 2; active = 1 ∷ 2 ∷ []; defunct = [] }
    -- "*A, renew at now 100: 9."
    ∷ record { ops = A ∷ renew_at 1 100 200 ∷ []; says = paper 9 []; removed = []; revision = 1; active = 1 ∷ []; defunct = [] }
    -- "*Begin expiration at 99: NotDue 100."
    ∷ record { ops = A ∷ expire_at 1 99 ∷ []; says = paper 0 (2 ∷ 100 ∷ []); removed = []; revision = 1; active = 1 ∷ []; defunct = [] }
    -- "*At 100: removed."
    ∷ record { ops = A ∷ expire_at 1 100 ∷ []; says = paper 0 (0 ∷ []); removed = 1 ∷ []; revision = 2; active = []; defunct = [] }
    -- "*A, renew at 99 to 100: 10."
    ∷ record { ops = A ∷ renew_at 1 99 100 ∷ []; says = paper 10 []; removed = []; revision = 1; active = 1 ∷ []; defunct = [] }
    -- "*A, replace [1] by id 2, ECU 5, {5}, subject 1: lock 1 returned, no defunct."
    ∷ record { ops = A ∷ replace (1 ∷ []) 2 (Ecu 5) (set (5 ∷ [])) 1 ∷ []; says = paper 0 []; removed = 1 ∷ []; revision = 2; active = 2 ∷ []; defunct = [] }
    -- "*By subject 2: one defunct, 1 to 2."
    ∷ record { ops = A ∷ replace (1 ∷ []) 2 (Ecu 5) (set (5 ∷ [])) 2 ∷ []; says = paper 0 []; removed = 1 ∷ []; revision = 2; active = 2 ∷ []; defunct = 1 ∷ 2 ∷ [] }
    -- "*ECU 5 id 3 {5}; group 3 {5,6}; vehicle with only the group as child; one subject. Replace [vehicle, group] by
    -- ECU 5 {5}, id 4, same subject. Vehicle 1, group 2: DuplicateScope."
    ∷ record { ops = nested 1 2 (replace (1 ∷ 2 ∷ []) 4 (Ecu 5) (set (5 ∷ [])) 1); says = paper 2 []; removed = []; revision = 3; active = 1 ∷ 2 ∷ 3 ∷ []; defunct = [] }
    -- "*Vehicle 2, group 1: done, returned 3, 1, 2, two defunct."
    ∷ record { ops = nested 2 1 (replace (2 ∷ 1 ∷ []) 4 (Ecu 5) (set (5 ∷ [])) 1); says = paper 0 []; removed = 3 ∷ 1 ∷ 2 ∷ []; revision = 4; active = 4 ∷ []; defunct = 1 ∷ 4 ∷ 2 ∷ 4 ∷ [] }
    ∷ []

-- ---- a row holds
abbrev pub same_numbers : List ℕ → List ℕ → Bool
same_numbers [] [] = true
same_numbers [] (y ∷ ys) = false
same_numbers (x ∷ xs) [] = false
same_numbers (x ∷ xs) (y ∷ ys) = eqb x y and same_numbers xs ys

abbrev pub pointing : List DefunctLock → List ℕ
pointing [] = []
pointing (d ∷ ds) = dkey d ∷ key d.target ∷ pointing ds

-- the last operation's answer and removed locks, and the state that it leaves
unfoldable pub ends : LockState → Op → Row → Bool
ends s o r =
    let t = step_on s o in
    eqb (answer_on s o).number r.says.number
    and same_numbers (answer_on s o).values r.says.values
    and same_numbers (map akey (removed_on s o)) r.removed
    and eqb t.revision r.revision
    and same_numbers (map akey (model_of t).active) r.active
    and same_numbers (pointing (model_of t).defunct) r.defunct

unfoldable pub goes : LockState → List Op → Row → Bool
goes s [] r = false
goes s (o ∷ []) r = ends s o r
goes s (o ∷ (p ∷ os)) r = goes (step_on s o) (p ∷ os) r

unfoldable pub row_holds : Row → Bool
row_holds r = goes (state_of empty_model) r.ops r
