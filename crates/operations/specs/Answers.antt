-- The answers: for each case document 01's number and values ("Numbers of the answers"), and chains of checks.
use Rattle.std.specs.Prelude.{Bool, true, false, cond, List, [], ◌∷◌, ℕ, length}
use Rattle.std.specs.Prelude.{Result, Option, Ok, Err, Some, None, ⊤}
use Rattle.lists.specs.Papers.{Paper, paper}
use Rattle.lists.specs.Places.{in_places}
use Rattle.state.specs.declared.ActiveLock.{ActiveLock}
use Rattle.state.specs.Locks.{blank_active}
use Rattle.rules.specs.declared.Unsound.{Unsound}
use Rattle.rules.specs.declared.Unsound.TheVariants.{Rule}
use Rattle.lookups.specs.Papers.{id_values}
use Rattle.operations.specs.declared.answers.Refusal.{Refusal}
use Rattle.operations.specs.declared.answers.Refusal.TheVariants.{DuplicateId, DuplicateScope, ActiveLockNotFound, ParentNotFound, ParentNotVehicle, ReplacementScopeConflict, CoverageConflict, RevisionOverflow, NotRootVehicle, BadChild, OtherOwner, NotCovered, Invariant, UnsoundState, NoRoom, BadList}
use Rattle.operations.specs.declared.answers.RenewalRefusal.{RenewalRefusal}
use Rattle.operations.specs.declared.answers.RenewalRefusal.TheVariants as renewal
use Rattle.operations.specs.declared.answers.DeletionRefusal.{DeletionRefusal}
use Rattle.operations.specs.declared.answers.DeletionRefusal.TheVariants as deletion
use Rattle.operations.specs.declared.answers.StateRefusal.{StateRefusal}
use Rattle.operations.specs.declared.answers.StateRefusal.TheVariants as unsound
use Rattle.operations.specs.declared.answers.Expiration.{Expiration}
use Rattle.operations.specs.declared.answers.Expiration.TheVariants.{Done, Stale, NotDue}
use Rattle.operations.specs.declared.answers.Left.{Left}
use Rattle.operations.specs.declared.answers.Removing.{Removing}
use Rattle.operations.specs.declared.answers.Shed.{Shed}

-- ---- what each operation gives, by the names of src/answers.rt
abbrev pub Inserted : Type 0
Inserted = Left (Result ⊤ Refusal)

abbrev pub Replacement : Type 0
Replacement = Removing (Result ⊤ Refusal)

abbrev pub Replaced : Type 0
Replaced = Left Replacement

abbrev pub Renewed : Type 0
Renewed = Left (Result ⊤ RenewalRefusal)

abbrev pub Removal : Type 0
Removal = Removing (Result ⊤ DeletionRefusal)

abbrev pub Deleted : Type 0
Deleted = Left Removal

abbrev pub Lapse : Type 0
Lapse = Removing (Result Expiration StateRefusal)

abbrev pub Expired : Type 0
Expired = Left Lapse

abbrev pub Acknowledged : Type 0
Acknowledged = Left (Result Bool StateRefusal)

abbrev pub DefunctsExpired : Type 0
DefunctsExpired = Left Shed

-- an answer beside what went
abbrev pub removing : {A : Type 0} → A → List ActiveLock → Removing A
removing answer gone = record { answer = answer; gone = length gone; removed = in_places 64 blank_active gone }

-- 12 carries the lowest rule that is broken
abbrev pub rule_of : Unsound → ℕ
rule_of (Rule n) = n

-- 02, C-13: beside 7's id the ECU after a 1, or two zeros where there is none
abbrev pub spot_values : Option ℕ → List ℕ
spot_values None = 0 ∷ 0 ∷ []
spot_values (Some e) = 1 ∷ e ∷ []

-- 11 Invariant's reason stands first: "1 no root vehicle; 2 bad child, its id; 3 owner, 4 coverage: child's and parent's
-- id"; the closing check's has none there and is given 0
unfoldable pub paper_of : Result ⊤ Refusal → Paper
paper_of (Ok _) = paper 0 []
paper_of (Err (DuplicateId i)) = paper 1 (id_values i [])
paper_of (Err DuplicateScope) = paper 2 []
paper_of (Err (ActiveLockNotFound i)) = paper 3 (id_values i [])
paper_of (Err (ParentNotFound i)) = paper 4 (id_values i [])
paper_of (Err (ParentNotVehicle i)) = paper 5 (id_values i [])
paper_of (Err ReplacementScopeConflict) = paper 6 []
paper_of (Err (CoverageConflict i at)) = paper 7 (id_values i (spot_values at))
paper_of (Err RevisionOverflow) = paper 8 []
paper_of (Err NotRootVehicle) = paper 11 (1 ∷ [])
paper_of (Err (BadChild i)) = paper 11 (2 ∷ id_values i [])
paper_of (Err (OtherOwner i j)) = paper 11 (3 ∷ id_values i (id_values j []))
paper_of (Err (NotCovered i j)) = paper 11 (4 ∷ id_values i (id_values j []))
paper_of (Err Invariant) = paper 11 (0 ∷ [])
paper_of (Err (UnsoundState n)) = paper 12 (n ∷ [])
paper_of (Err NoRoom) = paper 13 []
paper_of (Err BadList) = paper 14 []

unfoldable pub renewal_paper : Result ⊤ RenewalRefusal → Paper
renewal_paper (Ok _) = paper 0 []
renewal_paper (Err (renewal.ActiveLockNotFound i)) = paper 3 (id_values i [])
renewal_paper (Err renewal.RevisionOverflow) = paper 8 []
renewal_paper (Err renewal.LockExpired) = paper 9 []
renewal_paper (Err renewal.RenewalNotExtension) = paper 10 []
renewal_paper (Err (renewal.UnsoundState n)) = paper 12 (n ∷ [])

unfoldable pub deletion_paper : Result ⊤ DeletionRefusal → Paper
deletion_paper (Ok _) = paper 0 []
deletion_paper (Err (deletion.ActiveLockNotFound i)) = paper 3 (id_values i [])
deletion_paper (Err deletion.RevisionOverflow) = paper 8 []
deletion_paper (Err (deletion.UnsoundState n)) = paper 12 (n ∷ [])

-- Stale and NotDue are no refusals: number 0, told apart by a first value (0 expired, 1 Stale, 2 NotDue and its time)
unfoldable pub expiration_paper : Result Expiration StateRefusal → Paper
expiration_paper (Ok Done) = paper 0 (0 ∷ [])
expiration_paper (Ok Stale) = paper 0 (1 ∷ [])
expiration_paper (Ok (NotDue t)) = paper 0 (2 ∷ (t ∷ []))
expiration_paper (Err unsound.RevisionOverflow) = paper 8 []
expiration_paper (Err (unsound.UnsoundState n)) = paper 12 (n ∷ [])

-- true and false are no refusals: number 0 and a value, 1 or 0
unfoldable pub acknowledgement_paper : Result Bool StateRefusal → Paper
acknowledgement_paper (Ok true) = paper 0 (1 ∷ [])
acknowledgement_paper (Ok false) = paper 0 (0 ∷ [])
acknowledgement_paper (Err unsound.RevisionOverflow) = paper 8 []
acknowledgement_paper (Err (unsound.UnsoundState n)) = paper 12 (n ∷ [])

unfoldable pub expiry_paper : Result ⊤ StateRefusal → Paper
expiry_paper (Ok _) = paper 0 []
expiry_paper (Err unsound.RevisionOverflow) = paper 8 []
expiry_paper (Err (unsound.UnsoundState n)) = paper 12 (n ∷ [])

-- ---- chains of checks
unfoldable pub is_done : Result ⊤ Refusal → Bool
is_done (Ok _) = true
is_done (Err _) = false

-- refuse where the test passes, else go on
unfoldable pub refuse_if : {A : Type 0} → Bool → A → A → A
refuse_if c a rest = cond c a rest

-- the first check that refuses: of two, and of one check made of each element of a list in turn
unfoldable pub and_then : Result ⊤ Refusal → Result ⊤ Refusal → Result ⊤ Refusal
and_then a b = cond (is_done a) b a

abbrev pub first_refusal : {A : Type 0} → (A → Result ⊤ Refusal) → List A → Result ⊤ Refusal
first_refusal check [] = Ok tt
first_refusal check (x ∷ xs) = and_then (check x) (first_refusal check xs)
