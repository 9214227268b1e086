-- A chain of checks that is done: each check has passed.
-- Assumes nothing.
use mathlib.Core.Path.{◌≡◌, refl, sym, ◌∙◌}
use mathlib.Core.Bool.{Bool, true, false, cond, false≢true}
use Rattle.lists.specs.Tests.{Yes, No}
use Rattle.std.specs.Prelude.{Result, Ok, Err, ⊤}
use Rattle.operations.specs.declared.answers.Refusal.{Refusal}
use Rattle.operations.specs.declared.answers.Refusal.TheVariants.{DuplicateId, DuplicateScope, ActiveLockNotFound, ParentNotFound, ParentNotVehicle, ReplacementScopeConflict, CoverageConflict, RevisionOverflow, NotRootVehicle, BadChild, OtherOwner, NotCovered, Invariant, UnsoundState, NoRoom, BadList}
use Rattle.operations.specs.Answers.{is_done, refuse_if, and_then}

pub then_done : (a b : Result ⊤ Refusal) → Yes (is_done (and_then a b)) → Yes (is_done a) × Yes (is_done b)
unfolding and_then
then_done a b e = go (is_done a) refl e
  where
    go : (c : Bool) → is_done a ≡ c → Yes (is_done (cond c b a)) → Yes (is_done a) × Yes (is_done b)
    go true q e = (q, e)
    go false q e = absurd (false≢true (sym q ∙ e))

-- a refusal that did not happen
pub went_on : (c : Bool) (a rest : Result ⊤ Refusal) → No (is_done a) → Yes (is_done (refuse_if c a rest)) → No c × Yes (is_done rest)
unfolding refuse_if
went_on true a rest n e = absurd (false≢true (sym n ∙ e))
went_on false a rest n e = (refl, e)

pub is_done_lem : (a : Result ⊤ Refusal) → Yes (is_done a) → a ≡ Ok tt
unfolding is_done
is_done_lem (Ok tt) t = refl
is_done_lem (Err (DuplicateId i)) t = absurd (false≢true t)
is_done_lem (Err DuplicateScope) t = absurd (false≢true t)
is_done_lem (Err (ActiveLockNotFound i)) t = absurd (false≢true t)
is_done_lem (Err (ParentNotFound i)) t = absurd (false≢true t)
is_done_lem (Err (ParentNotVehicle i)) t = absurd (false≢true t)
is_done_lem (Err ReplacementScopeConflict) t = absurd (false≢true t)
is_done_lem (Err (CoverageConflict i at)) t = absurd (false≢true t)
is_done_lem (Err RevisionOverflow) t = absurd (false≢true t)
is_done_lem (Err NotRootVehicle) t = absurd (false≢true t)
is_done_lem (Err (BadChild i)) t = absurd (false≢true t)
is_done_lem (Err (OtherOwner i j)) t = absurd (false≢true t)
is_done_lem (Err (NotCovered i j)) t = absurd (false≢true t)
is_done_lem (Err Invariant) t = absurd (false≢true t)
is_done_lem (Err (UnsoundState n)) t = absurd (false≢true t)
is_done_lem (Err NoRoom) t = absurd (false≢true t)
is_done_lem (Err BadList) t = absurd (false≢true t)

pub done_is : (a : Result ⊤ Refusal) → a ≡ Ok tt → Yes (is_done a)
unfolding is_done
done_is a e = rw e
