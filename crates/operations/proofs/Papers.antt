-- No two answers have one paper: from document 01's number and values the answer is read back.
-- Assumes nothing.
use mathlib.Core.List.{[], ◌∷◌}
use mathlib.Core.Path.{◌≡◌, refl}
use Prim.Native.Nat.{ℕ, suc}
use Rattle.std.specs.Prelude.{Result, Option, Ok, Err, Some, None, ⊤, Bool, true, false}
use Rattle.lists.specs.Papers.{Paper}
use Rattle.lists.proofs.Papers.{pick, one_to_one, value_at}
use Rattle.lookups.proofs.Papers.{id_at}
use Rattle.operations.specs.declared.answers.Refusal.{Refusal}
use Rattle.operations.specs.declared.answers.Refusal.TheVariants.{DuplicateId, DuplicateScope, ActiveLockNotFound, ParentNotFound, ParentNotVehicle, ReplacementScopeConflict, CoverageConflict, RevisionOverflow, NotRootVehicle, BadChild, OtherOwner, NotCovered, Invariant, UnsoundState, NoRoom, BadList}
use Rattle.operations.specs.declared.answers.RenewalRefusal.{RenewalRefusal}
use Rattle.operations.specs.declared.answers.RenewalRefusal.TheVariants as renewal
use Rattle.operations.specs.declared.answers.DeletionRefusal.{DeletionRefusal}
use Rattle.operations.specs.declared.answers.DeletionRefusal.TheVariants as deletion
use Rattle.operations.specs.declared.answers.StateRefusal.{StateRefusal}
use Rattle.operations.specs.declared.answers.StateRefusal.TheVariants as unsound
use Rattle.operations.specs.declared.answers.Expiration.{Expiration}
use Rattle.operations.specs.declared.answers.Expiration.TheVariants.{Done, Stale, NotDue}
use Rattle.operations.specs.Answers.{paper_of, renewal_paper, deletion_paper, expiration_paper, acknowledgement_paper, expiry_paper}

-- ---- insertions and replacement
-- the ECU that follows a 1
spot_at : Paper → ℕ → Option ℕ
spot_at p i = pick (value_at p i) ((1, (Some (value_at p (suc i)))) ∷ []) None

answer_of : Paper → Result ⊤ Refusal
answer_of p =
    pick p.number
    ((1, Err (DuplicateId (id_at p 0)))
    ∷ (2, Err DuplicateScope)
    ∷ (3, Err (ActiveLockNotFound (id_at p 0)))
    ∷ (4, Err (ParentNotFound (id_at p 0)))
    ∷ (5, Err (ParentNotVehicle (id_at p 0)))
    ∷ (6, Err ReplacementScopeConflict)
    ∷ (7, Err (CoverageConflict (id_at p 0) (spot_at p 2)))
    ∷ (8, Err RevisionOverflow)
    ∷ (11, pick (value_at p 0) ((1, Err NotRootVehicle) ∷ (2, Err (BadChild (id_at p 1))) ∷ (3, Err (OtherOwner (id_at p 1) (id_at p 3))) ∷ (4, Err (NotCovered (id_at p 1) (id_at p 3))) ∷ []) (Err Invariant))
    ∷ (12, Err (UnsoundState (value_at p 0)))
    ∷ (13, Err NoRoom)
    ∷ (14, Err BadList)
    ∷ [])
    (Ok tt)

answer_back : (a : Result ⊤ Refusal) → answer_of (paper_of a) ≡ a
unfolding answer_of spot_at paper_of
answer_back (Ok _) = refl
answer_back (Err (DuplicateId i)) = refl
answer_back (Err DuplicateScope) = refl
answer_back (Err (ActiveLockNotFound i)) = refl
answer_back (Err (ParentNotFound i)) = refl
answer_back (Err (ParentNotVehicle i)) = refl
answer_back (Err ReplacementScopeConflict) = refl
answer_back (Err (CoverageConflict i None)) = refl
answer_back (Err (CoverageConflict i (Some e))) = refl
answer_back (Err RevisionOverflow) = refl
answer_back (Err NotRootVehicle) = refl
answer_back (Err (BadChild i)) = refl
answer_back (Err (OtherOwner i j)) = refl
answer_back (Err (NotCovered i j)) = refl
answer_back (Err Invariant) = refl
answer_back (Err (UnsoundState n)) = refl
answer_back (Err NoRoom) = refl
answer_back (Err BadList) = refl

pub answer_one : (a b : Result ⊤ Refusal) → paper_of a ≡ paper_of b → a ≡ b
answer_one = one_to_one paper_of answer_of answer_back

-- ---- renewal
renewal_of : Paper → Result ⊤ RenewalRefusal
renewal_of p =
    pick p.number
    ((3, Err (renewal.ActiveLockNotFound (id_at p 0)))
    ∷ (8, Err renewal.RevisionOverflow)
    ∷ (9, Err renewal.LockExpired)
    ∷ (10, Err renewal.RenewalNotExtension)
    ∷ (12, Err (renewal.UnsoundState (value_at p 0)))
    ∷ [])
    (Ok tt)

renewal_back : (a : Result ⊤ RenewalRefusal) → renewal_of (renewal_paper a) ≡ a
unfolding renewal_of renewal_paper
renewal_back (Ok _) = refl
renewal_back (Err (renewal.ActiveLockNotFound i)) = refl
renewal_back (Err renewal.RevisionOverflow) = refl
renewal_back (Err renewal.LockExpired) = refl
renewal_back (Err renewal.RenewalNotExtension) = refl
renewal_back (Err (renewal.UnsoundState n)) = refl

pub renewal_one : (a b : Result ⊤ RenewalRefusal) → renewal_paper a ≡ renewal_paper b → a ≡ b
renewal_one = one_to_one renewal_paper renewal_of renewal_back

-- ---- deletion
deletion_of : Paper → Result ⊤ DeletionRefusal
deletion_of p =
    pick p.number
    ((3, Err (deletion.ActiveLockNotFound (id_at p 0))) ∷ (8, Err deletion.RevisionOverflow) ∷ (12, Err (deletion.UnsoundState (value_at p 0))) ∷ [])
    (Ok tt)

deletion_back : (a : Result ⊤ DeletionRefusal) → deletion_of (deletion_paper a) ≡ a
unfolding deletion_of deletion_paper
deletion_back (Ok _) = refl
deletion_back (Err (deletion.ActiveLockNotFound i)) = refl
deletion_back (Err deletion.RevisionOverflow) = refl
deletion_back (Err (deletion.UnsoundState n)) = refl

pub deletion_one : (a b : Result ⊤ DeletionRefusal) → deletion_paper a ≡ deletion_paper b → a ≡ b
deletion_one = one_to_one deletion_paper deletion_of deletion_back

-- ---- expiration of an active lock: a first value tells the cases of number 0 apart
expiration_of : Paper → Result Expiration StateRefusal
expiration_of p =
    pick p.number
    ((8, Err unsound.RevisionOverflow) ∷ (12, Err (unsound.UnsoundState (value_at p 0))) ∷ [])
    (pick (value_at p 0) ((1, Ok Stale) ∷ (2, Ok (NotDue (value_at p 1))) ∷ []) (Ok Done))

expiration_back : (a : Result Expiration StateRefusal) → expiration_of (expiration_paper a) ≡ a
unfolding expiration_of expiration_paper
expiration_back (Ok Done) = refl
expiration_back (Ok Stale) = refl
expiration_back (Ok (NotDue t)) = refl
expiration_back (Err unsound.RevisionOverflow) = refl
expiration_back (Err (unsound.UnsoundState n)) = refl

pub expiration_one : (a b : Result Expiration StateRefusal) → expiration_paper a ≡ expiration_paper b → a ≡ b
expiration_one = one_to_one expiration_paper expiration_of expiration_back

-- ---- acknowledgement: true and false by their value
acknowledgement_of : Paper → Result Bool StateRefusal
acknowledgement_of p =
    pick p.number
    ((8, Err unsound.RevisionOverflow) ∷ (12, Err (unsound.UnsoundState (value_at p 0))) ∷ [])
    (pick (value_at p 0) ((0, Ok false) ∷ []) (Ok true))

acknowledgement_back : (a : Result Bool StateRefusal) → acknowledgement_of (acknowledgement_paper a) ≡ a
unfolding acknowledgement_of acknowledgement_paper
acknowledgement_back (Ok true) = refl
acknowledgement_back (Ok false) = refl
acknowledgement_back (Err unsound.RevisionOverflow) = refl
acknowledgement_back (Err (unsound.UnsoundState n)) = refl

pub acknowledgement_one : (a b : Result Bool StateRefusal) → acknowledgement_paper a ≡ acknowledgement_paper b → a ≡ b
acknowledgement_one = one_to_one acknowledgement_paper acknowledgement_of acknowledgement_back

-- ---- expiry of defunct entries
expiry_of : Paper → Result ⊤ StateRefusal
expiry_of p = pick p.number ((8, Err unsound.RevisionOverflow) ∷ (12, Err (unsound.UnsoundState (value_at p 0))) ∷ []) (Ok tt)

expiry_back : (a : Result ⊤ StateRefusal) → expiry_of (expiry_paper a) ≡ a
unfolding expiry_of expiry_paper
expiry_back (Ok _) = refl
expiry_back (Err unsound.RevisionOverflow) = refl
expiry_back (Err (unsound.UnsoundState n)) = refl

pub expiry_one : (a b : Result ⊤ StateRefusal) → expiry_paper a ≡ expiry_paper b → a ≡ b
expiry_one = one_to_one expiry_paper expiry_of expiry_back
