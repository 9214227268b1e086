-- Numbers of events are small, and an event is told by its number and its values. Assumes nothing.
use mathlib.Core.Path.{◌≡◌, sym, ap, ◌∙◌}
use Prim.Native.Nat.{ℕ, ◌≤◌}
use native.Mathlib.Omega.{arith}
use Rattle.std.specs.Prelude.{Result, Ok, Err, ⊤, Bool, true, false}
use Rattle.operations.specs.declared.answers.Refusal.{Refusal}
use Rattle.operations.specs.declared.answers.Refusal.TheVariants.{DuplicateId, DuplicateScope, ActiveLockNotFound, ParentNotFound, ParentNotVehicle, ReplacementScopeConflict, CoverageConflict, RevisionOverflow, NotRootVehicle, BadChild, OtherOwner, NotCovered, Invariant, UnsoundState, NoRoom, BadList}
use Rattle.operations.specs.declared.answers.RenewalRefusal.{RenewalRefusal}
use Rattle.operations.specs.declared.answers.RenewalRefusal.TheVariants as renewal
use Rattle.operations.specs.declared.answers.DeletionRefusal.{DeletionRefusal}
use Rattle.operations.specs.declared.answers.DeletionRefusal.TheVariants as deletion
use Rattle.operations.specs.declared.answers.StateRefusal.{StateRefusal}
use Rattle.operations.specs.declared.answers.StateRefusal.TheVariants as unsound
use Rattle.operations.specs.declared.answers.Expiration.{Expiration}
use Rattle.operations.specs.declared.answers.Expiration.TheVariants.{Done, Stale, NotDue}
use Rattle.lists.specs.Papers.{paper}
use Rattle.operations.specs.Answers.{paper_of, renewal_paper, deletion_paper, expiration_paper, acknowledgement_paper, expiry_paper}
use Rattle.calls.specs.declared.Outcome.{Outcome}
use Rattle.calls.specs.declared.Outcome.TheVariants as O
use Rattle.calls.specs.Calls.{outcome_paper}
use Rattle.feed.specs.declared.events.FeedRefusal.{FeedRefusal}
use Rattle.feed.specs.declared.events.FeedRefusal.TheVariants as feed
use Rattle.feed.specs.Feed.{event_paper}
use Rattle.cablegorse.specs.Telling.{told_of}

small_answer : (a : Result ⊤ Refusal) → (paper_of a).number ≤ 27
unfolding paper_of
small_answer (Ok _) = omega arith
small_answer (Err (DuplicateId i)) = omega arith
small_answer (Err DuplicateScope) = omega arith
small_answer (Err (ActiveLockNotFound i)) = omega arith
small_answer (Err (ParentNotFound i)) = omega arith
small_answer (Err (ParentNotVehicle i)) = omega arith
small_answer (Err ReplacementScopeConflict) = omega arith
small_answer (Err (CoverageConflict i at)) = omega arith
small_answer (Err RevisionOverflow) = omega arith
small_answer (Err NotRootVehicle) = omega arith
small_answer (Err (BadChild i)) = omega arith
small_answer (Err (OtherOwner i j)) = omega arith
small_answer (Err (NotCovered i j)) = omega arith
small_answer (Err Invariant) = omega arith
small_answer (Err (UnsoundState n)) = omega arith
small_answer (Err NoRoom) = omega arith
small_answer (Err BadList) = omega arith

small_renewal : (a : Result ⊤ RenewalRefusal) → (renewal_paper a).number ≤ 27
unfolding renewal_paper
small_renewal (Ok _) = omega arith
small_renewal (Err (renewal.ActiveLockNotFound i)) = omega arith
small_renewal (Err renewal.RevisionOverflow) = omega arith
small_renewal (Err renewal.LockExpired) = omega arith
small_renewal (Err renewal.RenewalNotExtension) = omega arith
small_renewal (Err (renewal.UnsoundState n)) = omega arith

small_deletion : (a : Result ⊤ DeletionRefusal) → (deletion_paper a).number ≤ 27
unfolding deletion_paper
small_deletion (Ok _) = omega arith
small_deletion (Err (deletion.ActiveLockNotFound i)) = omega arith
small_deletion (Err deletion.RevisionOverflow) = omega arith
small_deletion (Err (deletion.UnsoundState n)) = omega arith

small_expiration : (a : Result Expiration StateRefusal) → (expiration_paper a).number ≤ 27
unfolding expiration_paper
small_expiration (Ok Done) = omega arith
small_expiration (Ok Stale) = omega arith
small_expiration (Ok (NotDue t)) = omega arith
small_expiration (Err unsound.RevisionOverflow) = omega arith
small_expiration (Err (unsound.UnsoundState n)) = omega arith

small_acknowledgement : (a : Result Bool StateRefusal) → (acknowledgement_paper a).number ≤ 27
unfolding acknowledgement_paper
small_acknowledgement (Ok true) = omega arith
small_acknowledgement (Ok false) = omega arith
small_acknowledgement (Err unsound.RevisionOverflow) = omega arith
small_acknowledgement (Err (unsound.UnsoundState n)) = omega arith

small_expiry : (a : Result ⊤ StateRefusal) → (expiry_paper a).number ≤ 27
unfolding expiry_paper
small_expiry (Ok _) = omega arith
small_expiry (Err unsound.RevisionOverflow) = omega arith
small_expiry (Err (unsound.UnsoundState n)) = omega arith

small_outcome : (o : Outcome) → (outcome_paper o).number ≤ 27
unfolding outcome_paper
small_outcome (O.Inserted a) = small_answer a
small_outcome (O.VehicleInserted a) = small_answer a
small_outcome (O.Renewed a) = small_renewal a
small_outcome (O.Deleted a) = small_deletion a
small_outcome (O.ExpirationBegun a) = small_expiration a
small_outcome (O.Replaced a) = small_answer a
small_outcome (O.Acknowledged a) = small_acknowledgement a
small_outcome (O.DefunctsExpired a) = small_expiry a

pub small_event : (e : Result Outcome FeedRefusal) → (event_paper e).number ≤ 27
unfolding event_paper
small_event (Err (feed.UnsoundState n)) = omega arith
small_event (Err (feed.Torn at)) = omega arith
small_event (Err (feed.BadKind at)) = omega arith
small_event (Err (feed.BadField at)) = omega arith
small_event (Err (feed.Repeat n)) = omega arith
small_event (Err (feed.Ahead n)) = omega arith
small_event (Ok o) = small_outcome o

-- e is the event z, and n its number
pub event_told : (e z : Result Outcome FeedRefusal) → e ≡ z → (n : ℕ) → n ≡ (event_paper e).number → told_of (paper n (event_paper z).values) ≡ told_of (event_paper e)
event_told e z h n q =
    ap (λ (k : ℕ). told_of (paper k (event_paper z).values)) q
    ∙ ap (λ (x : Result Outcome FeedRefusal). told_of (paper (event_paper e).number (event_paper x).values)) (sym h)
