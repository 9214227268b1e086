-- Trees of active locks that are removed. Document 01, `delete`: "The tree removed and listed: children ascending; for a
-- group, the same subject's ECU locks whose scope ECU it covers, ascending; the root."
use Rattle.std.specs.Prelude.{Bool, cond, List, [], ◌∷◌, ◌++◌, ℕ, eqb}
use Rattle.lists.specs.Tests.{◌and◌, ◌or◌, non}
use Rattle.lists.specs.Lists.{any, filter}
use Rattle.ids.specs.Order.{key}
use Rattle.ids.specs.Words.{listed_in}
use Rattle.state.specs.declared.ActiveLock.{ActiveLock}
use Rattle.state.specs.Locks.{akey, has_id}
use Rattle.lookups.specs.Reads.{narrow}

-- "The child index is read off the parents."
unfoldable pub child_of : ActiveLock → ActiveLock → Bool
child_of root lock = lock.child and eqb (key lock.parent) (akey root)

unfoldable pub in_tree : ActiveLock → ActiveLock → Bool
in_tree root lock = child_of root lock or narrow root lock or has_id root.lock.id lock

-- the locks that stay, and those that went, in the order of their going
pub record Parts : Type 0 where
  pub kept : List ActiveLock
  pub gone : List ActiveLock

-- those that the test picks go
abbrev pub take_parts : (ActiveLock → Bool) → Parts → Parts
take_parts picks parts = record { kept = filter (λ lock. non (picks lock)) parts.kept; gone = parts.gone ++ filter picks parts.kept }

-- the root's tree goes: its children, then what a group covers, then the root itself
unfoldable pub tree_parts : ActiveLock → Parts → Parts
tree_parts root parts = take_parts (has_id root.lock.id) (take_parts (narrow root) (take_parts (child_of root) parts))

-- "each tree removed from what then remains": where the root is no longer there, nothing goes
unfoldable pub root_parts : ActiveLock → Parts → Parts
root_parts root parts = cond (any (has_id root.lock.id) parts.kept) (tree_parts root parts) parts

abbrev pub cut_all : List ActiveLock → Parts → Parts
cut_all [] parts = parts
cut_all (root ∷ roots) parts = cut_all roots (root_parts root parts)

abbrev pub start_parts : List ActiveLock → Parts
start_parts active = record { kept = active; gone = [] }

-- the lock's id is in the list of ids
abbrev pub is_listed : List ℕ → ActiveLock → Bool
is_listed ids lock = listed_in ids lock.lock.id

-- "roots ascending": the active locks whose id is listed, as they stand
unfoldable pub roots_parts : List ℕ → List ActiveLock → Parts
roots_parts ids active = cut_all (filter (is_listed ids) active) (start_parts active)

-- in the tree of one of the listed roots: "the expanded trees (each root's as in delete, read from the state at entry)"
abbrev pub in_trees : List ℕ → List ActiveLock → ActiveLock → Bool
in_trees ids active lock = any (λ root. in_tree root lock and is_listed ids root) active
