-- A sound state: rules 0 to 9 as tests, and the lowest broken rule. Document 01, "A sound state", sentence by sentence.
-- Rule 0 is of the state, since it speaks of counts and blanks; rules 1 to 9 are of its two lists (the Model).
use Rattle.std.specs.Prelude.{Bool, true, false, cond, List, [], ◌∷◌, ◌≡◌, ℕ, zero, suc, eqb, leb, length, drop}
use Rattle.std.specs.Prelude.{Option, None, Some}
use Rattle.lists.specs.Tests.{◌and◌, ◌or◌, ◌imp◌, non}
use Rattle.lists.specs.Lists.{find, all, any, Mem, Fresh, ascending}
use Rattle.ids.specs.declared.LockId.{LockId}
use Rattle.ids.specs.Order.{key}
use Rattle.coverage.specs.declared.LockCoverage.{LockCoverage}
use Rattle.coverage.specs.Coverage.{overlap, within}
use Rattle.state.specs.declared.Lock.{Lock}
use Rattle.state.specs.declared.ActiveLock.{ActiveLock}
use Rattle.state.specs.declared.DefunctLock.{DefunctLock}
use Rattle.state.specs.declared.LockState.{LockState}
use Rattle.state.specs.Locks.{akey, dkey, is_vehicle, same_scope}
use Rattle.state.specs.Model.{Model, model_of, Limits, fits}
use Rattle.std.specs.Prelude.{Result, Ok, Err, ⊤}
use Rattle.rules.specs.declared.Unsound.{Unsound}
use Rattle.rules.specs.declared.Unsound.TheVariants.{Rule}

-- ---- words of the rules: the lock with the id k in a list
abbrev pub find_a : List ActiveLock → ℕ → Option ActiveLock
find_a l k = find (λ a. eqb (akey a) k) l

abbrev pub find_d : List DefunctLock → ℕ → Option DefunctLock
find_d t k = find (λ d. eqb (dkey d) k) t

abbrev pub has_d : List DefunctLock → ℕ → Bool
has_d t k = any (λ d. eqb (dkey d) k) t

-- ---- "Rule 0: counts, order and blanks as above, parts that don't apply zero."
unfoldable pub zero_id : LockId → Bool
zero_id i = eqb i.hi 0 and eqb i.lo 0

unfoldable pub zero_set : LockCoverage → Bool
zero_set c = eqb c.w0 0 and eqb c.w1 0 and eqb c.w2 0 and eqb c.w3 0

unfoldable pub zero_lock : Lock → Bool
zero_lock x = zero_id x.id and is_vehicle x.scope and non x.coverage.whole and zero_set x.coverage and non x.exclusive and eqb x.subject 0 and eqb x.principal 0 and eqb x.metadata 0

unfoldable pub is_blank_a : ActiveLock → Bool
is_blank_a x = zero_lock x.lock and eqb x.expires 0 and non x.child and zero_id x.parent

unfoldable pub is_blank_d : DefunctLock → Bool
is_blank_d x = zero_lock x.lock and eqb x.expires 0 and eqb x.broken 0 and eqb x.breaker 0 and zero_id x.target and eqb x.holder 0

-- the places past the counts
unfoldable pub blanks : LockState → Bool
blanks s = all is_blank_a (drop s.actives s.active) and all is_blank_d (drop s.defuncts s.defunct)

unfoldable pub in_order : Model → Bool
in_order m = ascending akey m.active and ascending dkey m.defunct

-- parts that don't apply: the set of a whole vehicle, the parent of a lock that has none
unfoldable pub neat_l : Lock → Bool
neat_l x = x.coverage.whole imp zero_set x.coverage

unfoldable pub neat_a : ActiveLock → Bool
neat_a x = neat_l x.lock and (x.child or zero_id x.parent)

unfoldable pub neat_d : DefunctLock → Bool
neat_d x = neat_l x.lock

unfoldable pub neat : Model → Bool
neat m = all neat_a m.active and all neat_d m.defunct

unfoldable pub rule0 : LockState → Bool
rule0 s = leb s.actives 64 and leb s.defuncts 128 and blanks s and in_order (model_of s) and neat (model_of s)

-- ---- "1: no id both active and defunct."
unfoldable pub rule1 : Model → Bool
rule1 m = all (λ a. non (has_d m.defunct (akey a))) m.active

-- a test of every two active locks
abbrev pub pairs : (ActiveLock → ActiveLock → Bool) → Model → Bool
pairs r m = all (λ a. all (r a) m.active) m.active

-- ---- "2: one active lock a scope."
unfoldable pub rule2 : Model → Bool
rule2 m = pairs (λ a b. same_scope a.lock.scope b.lock.scope imp eqb (akey a) (akey b)) m

-- a test of a lock's parent, where it has one that is active
abbrev pub of_parent : (ActiveLock → Bool) → Option ActiveLock → Bool
of_parent p None = true
of_parent p (Some x) = p x

abbrev pub is_some : {A : Type 0} → Option A → Bool
is_some None = false
is_some (Some x) = true

abbrev pub parent_of : Model → ActiveLock → Option ActiveLock
parent_of m a = find_a m.active (key a.parent)

-- ---- "3: a parent is active."
unfoldable pub rule3 : Model → Bool
rule3 m = all (λ a. a.child imp is_some (parent_of m a)) m.active

-- ---- "4: it is a vehicle lock."
unfoldable pub rule4 : Model → Bool
rule4 m = all (λ a. a.child imp of_parent (λ p. is_vehicle p.lock.scope) (parent_of m a)) m.active

-- ---- "5: it has the child's subject."
unfoldable pub rule5 : Model → Bool
rule5 m = all (λ a. a.child imp of_parent (λ p. eqb p.lock.subject a.lock.subject) (parent_of m a)) m.active

-- ---- "6: its coverage contains the child's."
unfoldable pub rule6 : Model → Bool
rule6 m = all (λ a. a.child imp of_parent (λ p. within a.lock.coverage p.lock.coverage) (parent_of m a)) m.active

-- ---- "7 (added): a vehicle lock has no parent."
unfoldable pub rule7 : Model → Bool
rule7 m = all (λ a. is_vehicle a.lock.scope imp non a.child) m.active

-- ---- "8 (added): two active non-vehicle locks whose coverages overlap have one subject."
unfoldable pub clash : Lock → Lock → Bool
clash a b = non (is_vehicle a.scope) and non (is_vehicle b.scope) and overlap a.coverage b.coverage and non (eqb a.subject b.subject)

unfoldable pub rule8 : Model → Bool
rule8 m = pairs (λ a b. non (clash a.lock b.lock)) m

-- ---- "9 (added): following replacement_lock_id from any defunct entry through defunct entries meets no id twice."
-- From the id k, through defunct entries, the ids ks are met, one after the other.
pub data Meets (t : List DefunctLock) : ℕ → List ℕ → Type 0 where
  here : {k : ℕ} → Meets t k []
  on : {k : ℕ} {ks : List ℕ} {d : DefunctLock} → find_d t k ≡ Some d → Meets t (key d.target) ks → Meets t k (k ∷ ks)

abbrev pub NoRing : Model → Type 0
NoRing m = (d : DefunctLock) → Mem d m.defunct → (ks : List ℕ) → Meets m.defunct (dkey d) ks → Fresh ks

-- The same as a test (proofs/Meeting.antt, `ring_free` and `free_ring`): from the id k the walk meets the ids of `seen` no
-- second time; n bounds the entries still to pass, and a walk that meets no id twice passes at most as many as there are.
unfoldable pub meets_none : ℕ → List DefunctLock → List ℕ → ℕ → Bool
meets_none zero t seen k = non (has_d t k)
meets_none (suc n) t seen k = elim (find_d t k) [ None ↦ true | Some d ↦ non (any (eqb k) seen) and meets_none n t (k ∷ seen) (key d.target) ]

unfoldable pub rule9 : Model → Bool
rule9 m = all (λ d. meets_none (length m.defunct) m.defunct [] (dkey d)) m.defunct

-- ---- "The lowest broken rule is named."
abbrev pub verdict : ℕ → List Bool → Result ⊤ Unsound
verdict n [] = Ok tt
verdict n (b ∷ bs) = let r = verdict (suc n) bs in cond b r (Err (Rule n))

abbrev pub rules : LockState → List Bool
rules s = let m = model_of s in rule0 s ∷ rule1 m ∷ rule2 m ∷ rule3 m ∷ rule4 m ∷ rule5 m ∷ rule6 m ∷ rule7 m ∷ rule8 m ∷ rule9 m ∷ []

unfoldable pub broken_rule : LockState → Result ⊤ Unsound
broken_rule s = verdict 0 (rules s)

abbrev pub is_sound : Result ⊤ Unsound → Bool
is_sound (Ok tt) = true
is_sound (Err (Rule n)) = false

-- ---- the same of the lists alone, over any limits: what demand 3 keeps
unfoldable pub sound : Limits → Model → Bool
sound k m = fits k m and (in_order m and neat m) and rule1 m and rule2 m and rule3 m and rule4 m and rule5 m and rule6 m and rule7 m and rule8 m and rule9 m
