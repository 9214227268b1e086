-- Defunct entries that go and that come.
use Rattle.std.specs.Prelude.{Bool, cond, List, [], ◌∷◌, map, ℕ, eqb}
use Rattle.std.specs.Prelude.{Option, None, Some}
use Rattle.lists.specs.Tests.{◌and◌, non}
use Rattle.lists.specs.Lists.{find, filter, insert_by}
use Rattle.ids.specs.declared.LockId.{LockId}
use Rattle.ids.specs.Order.{key}
use Rattle.state.specs.declared.ActiveLock.{ActiveLock}
use Rattle.state.specs.declared.DefunctLock.{DefunctLock}
use Rattle.state.specs.Locks.{dkey, has_id_d}
use Rattle.lookups.specs.Reads.{covers_defunct}

-- ---- "Wherever a defunct entry goes, insertions too, entries pointing at it take over its target and holder."
unfoldable pub redirect : DefunctLock → DefunctLock → DefunctLock
redirect gone broken =
    cond (eqb (key broken.target) (dkey gone))
    (record { lock = broken.lock; target = gone.target; expires = broken.expires; broken = broken.broken; breaker = broken.breaker; holder = gone.holder }) broken

-- another entry than the one that goes
unfoldable pub other : DefunctLock → DefunctLock → Bool
other gone broken = non (has_id_d gone.lock.id broken)

abbrev pub drop_entry : DefunctLock → List DefunctLock → List DefunctLock
drop_entry gone defunct = map (redirect gone) (filter (other gone) defunct)

abbrev pub drop_found : Option DefunctLock → List DefunctLock → List DefunctLock
drop_found None defunct = defunct
drop_found (Some gone) defunct = drop_entry gone defunct

-- the entry with this id goes, where there is one
unfoldable pub remove_d : LockId → List DefunctLock → List DefunctLock
remove_d id defunct = drop_found (find (has_id_d id) defunct) defunct

-- the entries listed go, one after the other
abbrev pub remove_all : List DefunctLock → List DefunctLock → List DefunctLock
remove_all [] defunct = defunct
remove_all (gone ∷ rest) defunct = remove_all rest (remove_d gone.lock.id defunct)

-- ---- "Then defunct entries of the same subject go if the new scope is vehicle or equal, or the new coverage contains theirs."
unfoldable pub superseded : ActiveLock → DefunctLock → Bool
superseded new broken = eqb broken.lock.subject new.lock.subject and covers_defunct new.lock.scope new.lock.coverage broken

unfoldable pub supersede : ActiveLock → List DefunctLock → List DefunctLock
supersede new defunct = remove_all (filter (superseded new) defunct) defunct

-- ---- "entered as defunct (its expiry as the original one, no parent, the new id as target, the new subject as holder)"
unfoldable pub to_defunct : ActiveLock → ℕ → ℕ → ActiveLock → DefunctLock
to_defunct new by at lock = record { lock = lock.lock; target = new.lock.id; expires = lock.expires; broken = at; breaker = by; holder = new.lock.subject }

abbrev pub enter_all : List DefunctLock → List DefunctLock → List DefunctLock
enter_all [] defunct = defunct
enter_all (broken ∷ rest) defunct = enter_all rest (insert_by dkey broken defunct)
