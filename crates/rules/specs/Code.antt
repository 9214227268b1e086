-- What only the contracts of the crate's own functions name: a reader of the rules need not believe or read any of it. The
-- public contracts are `broken_rule` (Rules.antt) and that of `rows::place` (Rows.antt), and the proofs join them with these.
-- Places in a list that ascends, steps from place to place, and the tests of rules 2 to 8 as the code makes them.
use Rattle.std.specs.Prelude.{◌≡◌, Bool, true, false, cond, List, [], ◌∷◌, ◌⊎◌, ℕ, suc, ◌+◌, ◌*◌, ◌/◌, ◌%◌, ◌^◌, ◌≤◌, ◌<◌, eqb, length, get_or, take}
use Rattle.std.specs.Prelude.{Option, None, Some, not, ◌&&◌, ◌||◌}
use Rattle.std.specs.List.{list_all, list_any}
use Rattle.lists.specs.Tests.{non, ◌and◌, ◌or◌}
use Rattle.lists.specs.Lists.{all, Mem}
use Rattle.lists.specs.Below.{all_below}
use Rattle.ids.specs.declared.LockId.{LockId}
use Rattle.ids.specs.Order.{key, same_id}
use Rattle.coverage.specs.declared.LockCoverage.{LockCoverage}
use Rattle.std.specs.Int.Bits.{bit_or}
use Rattle.coverage.specs.Coverage.{within}
use Rattle.state.specs.declared.ActiveLock.{ActiveLock}
use Rattle.state.specs.declared.DefunctLock.{DefunctLock}
use Rattle.state.specs.Locks.{dkey, is_vehicle, scope_code, blank_active, blank_defunct}
use Rattle.state.specs.Model.{Model}
pub use Rattle.rules.specs.Rows.{keyed}
use Rattle.rules.specs.declared.shapes.Dirt.{Dirt}
use Rattle.rules.specs.Rules.{clash, rule2, rule3, rule4, rule5, rule6, rule7, rule8}

-- ---- unused places
-- nothing was found in them
unfoldable pub clean : Dirt → Bool
clean d = eqb d.even 0 and eqb d.odd 0 and eqb d.rest 0 and non d.flag

abbrev pub spotless : Dirt
spotless = record { even = 0; odd = 0; rest = 0; flag = false }

-- ---- the two lists without their state: what rules 1 to 9 are of
abbrev pub lists : List ActiveLock → List DefunctLock → Model
lists a d = record { revision = 0; active = a; defunct = d }

abbrev pub entry_key : List DefunctLock → ℕ → ℕ
entry_key l i = dkey (get_or l i blank_defunct)

-- ---- places in a list of n keys
-- r is the place below n that has the key k, or n where none has
abbrev pub Sought : (ℕ → ℕ) → ℕ → ℕ → ℕ → Type 0
Sought at n k r = ((r < n) × (at r ≡ k)) ⊎ ((r ≡ n) × ((i : ℕ) → i < n → at i ≡ k → ⊥))

-- the keys of the first n places ascend
abbrev pub Sorted : (ℕ → ℕ) → ℕ → Type 0
Sorted at n = (i j : ℕ) → i < j → j < n → at i < at j

-- ---- columns of entries that go (operations): an id list has two words an id, first half first
abbrev pub id_at : List ℕ → ℕ → LockId
id_at l i = record { hi = get_or l (2 * i) 0; lo = get_or l (2 * i + 1) 0 }

abbrev pub key_at : List ℕ → ℕ → ℕ
key_at l i = key (id_at l i)

pub record Entries (t : List DefunctLock) (n : ℕ) (gone targets : List ℕ) : Type 0 where
  pub long : length t ≡ n
  pub at_gone : (i : ℕ) → i < n → id_at gone i ≡ (get_or t i blank_defunct).lock.id
  pub at_target : (i : ℕ) → i < n → id_at targets i ≡ (get_or t i blank_defunct).target

-- ---- a table with 1024 slots for n keys, in each one more than the last place whose key goes there, or 0
unfoldable pub slot_of : ℕ → ℕ
slot_of k = (k / 2 ^ 96 % 1024 + k % 1024) % 1024

pub record Slotted (at : ℕ → ℕ) (n : ℕ) (t : List ℕ) : Type 0 where
  pub long : length t ≡ 1024
  pub used : (i : ℕ) → i < n → 0 < get_or t (slot_of (at i)) 0
  pub small : (k : ℕ) → get_or t k 0 ≤ n

-- ---- steps along a table that names for each of n places the next; a place that is not below n is out
module _ (next : List ℕ) (n : ℕ) where
  abbrev pub Step : ℕ → ℕ → Type 0
  Step p q = (p < n) × (get_or next p 0 ≡ q)

  -- the walk from place p leads out of the n places
  pub data Out : ℕ → Type 0 where
    past : {p : ℕ} → n ≤ p → Out p
    via : {p q : ℕ} → Step p q → Out q → Out p

  -- one step or more lead from place p to place q
  pub data Path : ℕ → ℕ → Type 0 where
    single : {p q : ℕ} → Step p q → Path p q
    longer : {p j q : ℕ} → Path p j → Step j q → Path p q

  -- r says whether every walk leads out; where not, there is a ring
  abbrev pub LeadsOut : Bool → Type 0
  LeadsOut r = ((r ≡ true) × ((p : ℕ) → p < n → Out p)) ⊎ ((r ≡ false) × ((p : ℕ) × (p < n) × Path p p))

-- ---- rule 2: the lock at a place has the scope of none before it; scopes are their numbers
abbrev pub code_at : List ActiveLock → ℕ → ℕ
code_at l i = scope_code (get_or l i blank_active).lock.scope

abbrev pub alone_at : List ActiveLock → ℕ → Bool
alone_at l i = all_below i (λ j. non (eqb (code_at l i) (code_at l j)))

-- ---- rules 3 to 7 by the vehicle lock, if there is one: what they ask of a lock, as the code tests it
-- a child's parent is that lock
abbrev pub child_under : Option ActiveLock → ActiveLock → Bool
child_under (Some v) a = not a.child || same_id a.parent v.lock.id
child_under None a = not a.child

-- some active lock is the parent
abbrev pub child_active : List ActiveLock → ActiveLock → Bool
child_active l a = not a.child || list_any (λ p. same_id p.lock.id a.parent) l

abbrev pub child_owned : ActiveLock → ActiveLock → Bool
child_owned v a = not a.child || eqb v.lock.subject a.lock.subject

abbrev pub child_inside : ActiveLock → ActiveLock → Bool
child_inside v a = not a.child || within a.lock.coverage v.lock.coverage

-- rules 3 to 7 at once
abbrev pub child_fits : Option ActiveLock → ActiveLock → Bool
child_fits (Some v) a = not a.child || (((same_id a.parent v.lock.id && eqb v.lock.subject a.lock.subject) && within a.lock.coverage v.lock.coverage) && not (is_vehicle a.lock.scope))
child_fits None a = not a.child

-- the lowest that is broken, where one is
abbrev pub lowest_past_4 : List ActiveLock → Option ActiveLock → ℕ
lowest_past_4 l (Some v) = cond (list_all (child_owned v) l) (cond (list_all (child_inside v) l) 7 6) 5
lowest_past_4 l None = 7

unfoldable pub lowest_parent : List ActiveLock → Option ActiveLock → ℕ
lowest_parent l v = cond (list_all (child_under v) l) (lowest_past_4 l v) (cond (list_all (child_active l) l) 4 3)

-- ---- rule 8: the lock at a place clashes with none before it
abbrev pub clear_at : List ActiveLock → ℕ → Bool
clear_at l i = all (λ y. non (clash (get_or l i blank_active).lock y.lock)) (take i l)

abbrev pub union : LockCoverage → LockCoverage → LockCoverage
union a b = record { w0 = bit_or a.w0 b.w0; w1 = bit_or a.w1 b.w1; w2 = bit_or a.w2 b.w2; w3 = bit_or a.w3 b.w3; whole = a.whole or b.whole }

-- what is kept of the non-vehicle locks of a list: whether all have one subject, and a set that has their ECUs
pub record Kept (l : List ActiveLock) (subject : ℕ) (same : Bool) (set : LockCoverage) : Type 0 where
  pub friends : same ≡ true → (y : ActiveLock) → Mem y l → is_vehicle y.lock.scope ≡ false → y.lock.subject ≡ subject
  pub covered : (y : ActiveLock) → Mem y l → is_vehicle y.lock.scope ≡ false → within y.lock.coverage set ≡ true

-- ---- the lowest of rules 2 to 8 that is broken, 0 for none
abbrev pub lowest_from : ℕ → List Bool → ℕ
lowest_from k [] = 0
lowest_from k (b ∷ bs) = let r = lowest_from (suc k) bs in cond b r k

abbrev pub active_rules : Model → List Bool
active_rules m = rule2 m ∷ rule3 m ∷ rule4 m ∷ rule5 m ∷ rule6 m ∷ rule7 m ∷ rule8 m ∷ []
