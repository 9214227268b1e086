-- Scopes and locks. Document 01, "Numbers that stand for things" and the record bodies' parts.
use Rattle.std.specs.Prelude.{Bool, true, false, cond, ℕ, ◌+◌, ◌*◌, eqb}
use Rattle.ids.specs.declared.LockId.{LockId}
use Rattle.ids.specs.Order.{key, no_id}
use Rattle.coverage.specs.declared.LockCoverage.{LockCoverage}
use Rattle.coverage.specs.Coverage.{covers, no_coverage, whole_vehicle}
use Rattle.state.specs.declared.ScopeKey.{ScopeKey}
use Rattle.state.specs.declared.ScopeKey.TheVariants.{Vehicle, Ecu, FunctionalGroup}
use Rattle.state.specs.declared.Lock.{Lock}
use Rattle.state.specs.declared.ActiveLock.{ActiveLock}
use Rattle.state.specs.declared.DefunctLock.{DefunctLock}

-- ---- scopes: the whole vehicle, an ECU, or a functional group ("ECU and group: a number 0..=255 each, in separate tables")
unfoldable pub is_vehicle : ScopeKey → Bool
is_vehicle Vehicle = true
is_vehicle (Ecu n) = false
is_vehicle (FunctionalGroup n) = false

unfoldable pub is_group : ScopeKey → Bool
is_group Vehicle = false
is_group (Ecu n) = false
is_group (FunctionalGroup n) = true

-- the scope is one ECU, and the coverage has it
unfoldable pub ecu_in : LockCoverage → ScopeKey → Bool
ecu_in coverage Vehicle = false
ecu_in coverage (Ecu n) = covers coverage n
ecu_in coverage (FunctionalGroup n) = false

-- a number for each scope, no two alike (proofs/Laws.antt, scope_one)
unfoldable pub scope_code : ScopeKey → ℕ
scope_code Vehicle = 0
scope_code (Ecu n) = n * 2 + 1
scope_code (FunctionalGroup n) = n * 2 + 2

unfoldable pub same_scope : ScopeKey → ScopeKey → Bool
same_scope a b = eqb (scope_code a) (scope_code b)

-- ---- locks by their ids
abbrev pub akey : ActiveLock → ℕ
akey a = key a.lock.id

abbrev pub dkey : DefunctLock → ℕ
dkey d = key d.lock.id

unfoldable pub has_id : LockId → ActiveLock → Bool
has_id id lock = eqb (akey lock) (key id)

unfoldable pub has_id_d : LockId → DefunctLock → Bool
has_id_d id broken = eqb (dkey broken) (key id)

-- ---- makers: the only places of the definitions that list a lock's parts
-- a lock of these four parts, the others zero
abbrev pub make_lock : LockId → ScopeKey → LockCoverage → ℕ → Lock
make_lock id scope coverage subject = record { id = id; coverage = coverage; principal = 0; metadata = 0; subject = subject; scope = scope; exclusive = false }

abbrev pub with_coverage : LockCoverage → Lock → Lock
with_coverage coverage lock = record { id = lock.id; coverage = coverage; principal = lock.principal; metadata = lock.metadata; subject = lock.subject; scope = lock.scope; exclusive = lock.exclusive }

abbrev pub with_metadata : ℕ → Lock → Lock
with_metadata metadata lock = record { id = lock.id; coverage = lock.coverage; principal = lock.principal; metadata = metadata; subject = lock.subject; scope = lock.scope; exclusive = lock.exclusive }

-- ---- "unused places are blank": every part zero
abbrev pub blank_lock : Lock
blank_lock = make_lock no_id Vehicle no_coverage 0

unfoldable pub blank_active : ActiveLock
blank_active = record { lock = blank_lock; parent = no_id; expires = 0; child = false }

unfoldable pub blank_defunct : DefunctLock
blank_defunct = record { lock = blank_lock; target = no_id; expires = 0; broken = 0; breaker = 0; holder = 0 }

-- ---- "in a lock handed to an operation directly, such parts are taken as zero": the set of a whole vehicle, the parent
-- of a lock that has none
abbrev pub normal_coverage : LockCoverage → LockCoverage
normal_coverage coverage = cond coverage.whole whole_vehicle coverage

unfoldable pub normal : ActiveLock → ActiveLock
normal given =
    record {
      lock = with_coverage (normal_coverage given.lock.coverage) given.lock;
      parent = cond given.child given.parent no_id;
      expires = given.expires;
      child = given.child;
    }
