-- What only the contracts of the crate's own functions name: a reader of the reads need not believe or read any of it. The
-- public contracts are the `.._on` definitions of Reads.antt alone, and the proofs join the two.
use Rattle.std.specs.Prelude.{Bool, true, List, ◌≡◌, ℕ}
use Rattle.lists.specs.Tests.{non, Yes}
use Rattle.lists.specs.Lists.{any, Mem}
use Rattle.state.specs.declared.ScopeKey.{ScopeKey}
use Rattle.state.specs.declared.ScopeKey.TheVariants.{Ecu, FunctionalGroup}
use Rattle.state.specs.declared.ActiveLock.{ActiveLock}
use Rattle.lookups.specs.declared.TesterPresent.{TesterPresent}
use Rattle.lookups.specs.declared.TesterPresent.TheVariants as present
use Rattle.lookups.specs.Reads.{on_scope, group_over}

-- the scope of the lock that may need it
unfoldable pub scope_of : TesterPresent → ScopeKey
scope_of (present.Ecu e) = Ecu e
scope_of (present.Functional g) = FunctionalGroup g

-- what the subject's lock on that scope needs is just this
unfoldable pub own_need : List ActiveLock → ℕ → TesterPresent → Bool
own_need l subject (present.Ecu e) = non (any (group_over subject e) l)
own_need l subject (present.Functional g) = true

-- rule 2 as a statement: two locks on one scope are one
abbrev pub Alone : List ActiveLock → Type 0
Alone l = (k : ScopeKey) (a b : ActiveLock) → Mem a l → Mem b l → Yes (on_scope k a) → Yes (on_scope k b) → a ≡ b
