-- What only the contracts of the crate's own functions name: a reader of the operations need not believe or read any of it.
-- The public contracts are the `.._on` definitions of the other files alone, and the proofs join the two.
-- The lists in their places, as the code passes them from function to function; places in them; checks made in one go; the
-- parts of a replacement and of an expiry.
use Rattle.std.specs.Prelude.{Bool, true, false, cond, List, [], ◌∷◌, ◌++◌, map, ◌≡◌, ℕ, zero, suc, ◌+◌, ◌*◌, ◌≤◌, ◌<◌, eqb, ltb, length, get_or, take}
use Rattle.std.specs.Prelude.{Option, None, Some}
use Rattle.lists.specs.Tests.{non, Yes}
use Rattle.lists.specs.Lists.{any, find, filter, Mem, ascending, insert_by}
use Rattle.lists.specs.Places.{in_places, leading}
use Rattle.ids.specs.declared.LockId.{LockId}
use Rattle.ids.specs.Order.{key, no_id, before_id}
use Rattle.ids.specs.Words.{ascending_ids}
use Rattle.coverage.specs.Coverage.{within}
use Rattle.state.specs.declared.ActiveLock.{ActiveLock}
use Rattle.state.specs.declared.DefunctLock.{DefunctLock}
use Rattle.state.specs.declared.LockState.{LockState}
use Rattle.state.specs.Locks.{is_vehicle, has_id, akey, dkey, blank_active, blank_defunct}
use Rattle.state.specs.Model.{Model, model_of, Limits, full, Tidy}
use Rattle.rules.specs.Rules.{find_d, rule9, broken_rule, is_sound}
use Rattle.lookups.specs.Reads.{on_sound, narrow}
use Rattle.std.specs.Prelude.{Result, Ok, Err, ⊤}
use Rattle.operations.specs.declared.answers.Refusal.{Refusal}
use Rattle.operations.specs.declared.answers.Refusal.TheVariants.{ParentNotFound, ParentNotVehicle, OtherOwner, NotCovered, Invariant, UnsoundState}
use Rattle.operations.specs.declared.answers.RenewalRefusal.{RenewalRefusal}
use Rattle.operations.specs.declared.answers.RenewalRefusal.TheVariants as renewal
use Rattle.operations.specs.declared.answers.DeletionRefusal.{DeletionRefusal}
use Rattle.operations.specs.declared.answers.DeletionRefusal.TheVariants as deletion
use Rattle.operations.specs.declared.answers.StateRefusal.{StateRefusal}
use Rattle.operations.specs.declared.answers.StateRefusal.TheVariants as unsound
use Rattle.operations.specs.declared.answers.Expiration.{Expiration}
use Rattle.operations.specs.declared.answers.Expiration.TheVariants.{Stale, NotDue}
use Rattle.operations.specs.Answers.{Replaced, DefunctsExpired}
use Rattle.operations.specs.declared.trees.Split.{Split}
use Rattle.operations.specs.declared.defuncts.Table.{Table}
use Rattle.operations.specs.declared.defuncts.Gone.{Gone}
use Rattle.operations.specs.declared.entering.Ledger.{Ledger}
use Rattle.operations.specs.Trees.{child_of, is_listed, Parts}
use Rattle.operations.specs.Answers.{refuse_if, and_then, first_refusal}
use Rattle.operations.specs.Defuncts.{redirect}
use Rattle.operations.specs.Checks.{parent_of, check_id, check_scope, check_clear, check_revision, check_room, check_active, check_listed, check_child, check_holder, at_last_lem}
use Rattle.operations.specs.Insert.{inserted_in}
use Rattle.operations.specs.Renew.{judge_lock, judge_renew}
use Rattle.operations.specs.Acknowledge.{shed}
use Rattle.operations.specs.Vehicle.{adopt}
use Rattle.operations.specs.Replace.{orphan, entered_of, replaced, settled_replace}
use Rattle.operations.specs.declared.answers.Shed.{Shed}

module _ {A : Type 0} where
  -- what is marked, and what is left; what stands past the marks is left
  abbrev pub flagged : List Bool → List A → List A
  flagged [] l = []
  flagged (b ∷ bs) [] = []
  flagged (b ∷ bs) (x ∷ xs) = cond b (x ∷ flagged bs xs) (flagged bs xs)

  abbrev pub unflagged : List Bool → List A → List A
  unflagged [] l = l
  unflagged (b ∷ bs) [] = []
  unflagged (b ∷ bs) (x ∷ xs) = cond b (unflagged bs xs) (x ∷ unflagged bs xs)

  -- what is marked is changed by g
  abbrev pub altered : (A → A) → List Bool → List A → List A
  altered g [] l = l
  altered g (b ∷ bs) [] = []
  altered g (b ∷ bs) (x ∷ xs) = cond b (g x) x ∷ altered g bs xs

  -- where what has the key belongs
  unfoldable pub place_of : (A → ℕ) → LockId → List A → ℕ
  place_of k i l = leading (λ y. non (ltb (key i) (k y))) l 0

-- the n active locks stand in the first of 64 places, blanks after them
pub record Placed (l : List ActiveLock) (n : ℕ) : Type 0 where
  pub room : n ≤ 64
  pub same : in_places 64 blank_active (take n l) ≡ l

-- what a change needs of the state that was tested
pub record Ready (s : LockState) : Type 0 where
  pub tidy : Tidy s
  pub order : Yes (ascending dkey (model_of s).defunct)
  pub free : rule9 (model_of s) ≡ true

-- ---- trees
-- the three steps of a tree's removal by their numbers
unfoldable pub picks : ℕ → ActiveLock → ActiveLock → Bool
picks zero r a = child_of r a
picks (suc zero) r a = narrow r a
picks (suc (suc n)) r a = has_id r.lock.id a

abbrev pub parts_of : Split ActiveLock → Parts
parts_of s = record { kept = take s.left s.kept; gone = take s.gone s.removed }

abbrev pub split_of : Parts → Split ActiveLock
split_of m = record { left = length m.kept; kept = in_places 64 blank_active m.kept; gone = length m.gone; removed = in_places 64 blank_active m.gone }

-- blanks after both lists, which together fit
pub record Cut (s : Split ActiveLock) : Type 0 where
  pub room : s.left + s.gone ≤ 64
  pub same : split_of (parts_of s) ≡ s

-- ---- the same by places: the code moves numbers of places, and the locks once, at the end
pub record Halves : Type 0 where
  pub kept : List ℕ
  pub gone : List ℕ

abbrev pub up_to : ℕ → List ℕ
up_to zero = []
up_to (suc n) = up_to n ++ (n ∷ [])

abbrev pub start_halves : ℕ → Halves
start_halves n = record { kept = up_to n; gone = [] }

abbrev pub lock_at : List ActiveLock → ℕ → ActiveLock
lock_at l j = get_or l j blank_active

-- the locks at the places
abbrev pub parts_in : List ActiveLock → Halves → Parts
parts_in l h = record { kept = map (lock_at l) h.kept; gone = map (lock_at l) h.gone }

abbrev pub take_halves : (ℕ → Bool) → Halves → Halves
take_halves q h = record { kept = filter (λ j. non (q j)) h.kept; gone = h.gone ++ filter q h.kept }

abbrev pub picks_at : ℕ → List ActiveLock → ActiveLock → ℕ → Bool
picks_at n l r j = picks n r (lock_at l j)

abbrev pub tree_halves : List ActiveLock → ActiveLock → Halves → Halves
tree_halves l r h = take_halves (picks_at 2 l r) (take_halves (picks_at 1 l r) (take_halves (picks_at 0 l r) h))

unfoldable pub root_halves : List ActiveLock → ActiveLock → Halves → Halves
root_halves l r h = cond (any (has_id r.lock.id) (map (lock_at l) h.kept)) (tree_halves l r h) h

abbrev pub cut_halves : List ActiveLock → List ActiveLock → Halves → Halves
cut_halves l [] h = h
cut_halves l (r ∷ rs) h = cut_halves l rs (root_halves l r h)

abbrev pub halves_of : Split ℕ → Halves
halves_of s = record { kept = take s.left s.kept; gone = take s.gone s.removed }

abbrev pub places_of : Halves → Split ℕ
places_of h = record { left = length h.kept; kept = in_places 64 0 h.kept; gone = length h.gone; removed = in_places 64 0 h.gone }

-- every place is one of the first n
abbrev pub Low : ℕ → List ℕ → Type 0
Low n ks = (j : ℕ) → Mem j ks → j < n

-- what is told of each is what the test p says
abbrev pub Tells : {A : Type 0} → (A → Bool → Type 0) → (A → Bool) → Type 0
Tells {A} told p = (a : A) (b : Bool) → told a b → b ≡ p a

-- places of n locks; those that stay rise
pub record Sorting (n : ℕ) (s : Split ℕ) : Type 0 where
  pub room : s.left + s.gone ≤ 64
  pub same : places_of (halves_of s) ≡ s
  pub stays : Low n (halves_of s).kept
  pub rises : Yes (ascending (λ j. j) (halves_of s).kept)
  pub goes : Low n (halves_of s).gone

-- ---- the table of defunct entries
abbrev pub entries_of : Table → List DefunctLock
entries_of t = take t.count t.entries

abbrev pub table_of : List DefunctLock → Table
table_of l = record { count = length l; entries = in_places 192 blank_defunct l }

-- blanks after the entries
pub record Laid (t : Table) : Type 0 where
  pub room : t.count ≤ 192
  pub same : table_of (entries_of t) ≡ t

-- and in order
pub record Ranked (t : Table) : Type 0 where
  pub laid : Laid t
  pub order : Yes (ascending dkey (entries_of t))

-- an entry that points at e takes over its target and holder
abbrev pub took_over : DefunctLock → DefunctLock → DefunctLock
took_over e d = record { lock = d.lock; target = e.target; expires = d.expires; broken = d.broken; breaker = d.breaker; holder = e.holder }

-- of the first i entries those that are marked have handed their target and holder on; none is taken out yet
abbrev pub hand_step : Bool → ℕ → List DefunctLock → List DefunctLock
hand_step b i m = cond b (map (redirect (get_or m i blank_defunct)) m) m

unfoldable pub hand_on : List Bool → ℕ → List DefunctLock → List DefunctLock
hand_on goes zero l = l
hand_on goes (suc i) l = hand_step (get_or goes i false) i (hand_on goes i l)

-- ---- checks that the code makes in one function (proofs/Bundles.antt joins them to the definitions' lines)
-- of the lock and its parent: 5, 11.3, 11.4
unfoldable pub check_parent : ActiveLock → ActiveLock → Result ⊤ Refusal
check_parent x p =
    refuse_if (non (is_vehicle p.lock.scope)) (Err (ParentNotVehicle x.parent))
    (refuse_if (non (eqb p.lock.subject x.lock.subject)) (Err (OtherOwner x.lock.id x.parent))
    (refuse_if (non (within x.lock.coverage p.lock.coverage)) (Err (NotCovered x.lock.id x.parent))
    (Ok tt)))

abbrev pub check_found : ActiveLock → Option ActiveLock → Result ⊤ Refusal
check_found x None = Err (ParentNotFound x.parent)
check_found x (Some p) = check_parent x p

-- 4, 5, 11.3, 11.4
unfoldable pub check_nesting : List ActiveLock → ActiveLock → Result ⊤ Refusal
check_nesting l x = cond x.child (check_found x (parent_of l x)) (Ok tt)

-- 2, 4, 5, 11.3, 11.4, 7
unfoldable pub check_insert : List ActiveLock → ActiveLock → Result ⊤ Refusal
check_insert l x = and_then (check_scope l x) (and_then (check_nesting l x) (check_clear l x))

-- 3, 1, 6
unfoldable pub check_entry : List ActiveLock → List DefunctLock → List ℕ → ActiveLock → Result ⊤ Refusal
check_entry l t ws x = and_then (first_refusal (check_active l) (ascending_ids ws)) (and_then (check_id l t x) (check_holder l ws x))

-- insert_active's
unfoldable pub judge_bundled : Limits → Model → ActiveLock → Result ⊤ Refusal
judge_bundled k m x = and_then (check_id m.active m.defunct x) (and_then (check_insert m.active x) (and_then (check_revision m.revision) (check_room k (inserted_in m x))))

-- an id that names a child, or a root: 3 and 11.2, or 3 alone
unfoldable pub check_named : Bool → List ActiveLock → LockId → Result ⊤ Refusal
check_named child l i = cond child (check_listed l i) (check_active l i)

-- whether it is lower than the lowest that was refused so far
unfoldable pub is_lower : LockId → Option LockId → Bool
is_lower id None = true
is_lower id (Some low) = before_id id low

-- ---- the closing check, as the code makes it: of the next state
unfoldable pub replaced_by : LockState → List ActiveLock → LockState → Replaced
replaced_by s g n = cond (is_sound (broken_rule n)) (replaced (Ok tt) g n) (replaced (Err Invariant) [] s)

-- ---- a replacement once the trees are out: p are the locks that stay and those that went
unfoldable pub left_in : Model → Parts → ActiveLock → ℕ → ℕ → Model
left_in m p x by at =
    record {
      revision = m.revision + 1;
      active = insert_by akey x (map (adopt (orphan x) x) p.kept);
      defunct = entered_of x by at p.gone m.defunct;
    }

unfoldable pub judge_left : Model → Parts → ActiveLock → ℕ → ℕ → Result ⊤ Refusal
judge_left m p x by at =
    and_then (check_insert p.kept x)
    (and_then (check_revision m.revision)
    (and_then (first_refusal (check_child x) (filter (orphan x) p.kept))
    (check_room full (left_in m p x by at))))

unfoldable pub left_on : LockState → Parts → ActiveLock → ℕ → ℕ → Replaced
left_on s p x by at = settled_replace full (judge_left (model_of s) p x by at) s p.gone (left_in (model_of s) p x by at)

-- ---- entries that have expired
-- expire_defunct: the list of ids that is told
abbrev pub ids_told : List LockId → Shed
ids_told l = record { answer = Ok tt; gone = length l; ids = in_places 128 no_id l }

-- ---- defunct entries that go in a single pass: each that stays follows the targets of those that go
-- what stands at a place of a list; none past its end
abbrev pub entry_at : List DefunctLock → ℕ → Option DefunctLock
entry_at gone i = cond (ltb i (length gone)) (Some (get_or gone i blank_defunct)) None

-- the last entry that is met in at most n turns, from the one that is found
unfoldable pub last_from : ℕ → List DefunctLock → Option DefunctLock → Option DefunctLock → Option DefunctLock
last_from zero gone found last = last
last_from (suc n) gone None last = last
last_from (suc n) gone (Some e) last = last_from n gone (find_d gone (key e.target)) (Some e)

abbrev pub handed_on : Option DefunctLock → DefunctLock → DefunctLock
handed_on None d = d
handed_on (Some e) d = took_over e d

-- what is left of an entry where those of the list go
unfoldable pub landed : List DefunctLock → DefunctLock → DefunctLock
landed gone d = handed_on (last_from (length gone) gone (find_d gone (key d.target)) None) d

-- what an entry that goes leaves to those that point at it
abbrev pub left_by : DefunctLock → Gone
left_by d = record { id = d.lock.id; target = d.target; holder = d.holder }

abbrev pub gone_key : Gone → ℕ
gone_key g = key g.id

-- entries of a state that was tested
pub record Settled (l : List DefunctLock) : Type 0 where
  pub few : length l ≤ 128
  pub order : Yes (ascending dkey l)
  pub free : rule9 (record { revision = 0; active = []; defunct = l }) ≡ true

-- the places of the targets of those that go among them
pub record Led (gone : List DefunctLock) (n : ℕ) (next : List ℕ) : Type 0 where
  pub long : length gone ≡ n
  pub at_next : (i : ℕ) → i < n → entry_at gone (get_or next i 0) ≡ find_d gone (key (get_or gone i blank_defunct).target)

-- the state with other defunct entries
abbrev pub with_entries : LockState → List DefunctLock → LockState
with_entries s l = record { revision = s.revision; active = s.active; actives = s.actives; defunct = in_places 128 blank_defunct l; defuncts = length l }

-- ---- locks that are entered as defunct (src/entering.rt): their number, and the entries where they fit
pub record Listed (r : Ledger) (l : List DefunctLock) : Type 0 where
  pub count : r.count ≡ length l
  pub same : length l ≤ 128 → r.list ≡ in_places 128 blank_defunct l

-- ---- the trees of the roots whose id is listed
abbrev pub roots_halves : List ℕ → List ActiveLock → Halves
roots_halves ids l = cut_halves l (filter (is_listed ids) l) (start_halves (length l))

-- ---- the state is tested, and then: what an operation's inner function tells
abbrev pub on_tested : {A : Type 0} → LockState → Result A Refusal → Result A Refusal
on_tested s a = on_sound s (λ n. Err (UnsoundState n)) a

-- the closing check
unfoldable pub closing : LockState → Result ⊤ Refusal
closing n = cond (is_sound (broken_rule n)) (Ok tt) (Err Invariant)

-- renew
unfoldable pub renewable : LockState → LockId → ℕ → ℕ → Result ⊤ RenewalRefusal
renewable s id expires now = on_sound s (λ n. Err (renewal.UnsoundState n)) (judge_renew (model_of s) id expires now)

-- the same of the active locks of a sound state and its revision
abbrev pub judged_found : ℕ → LockId → ℕ → ℕ → Option ActiveLock → Result ⊤ RenewalRefusal
judged_found revision id expires now None = Err (renewal.ActiveLockNotFound id)
judged_found revision id expires now (Some lock) = judge_lock revision expires now lock

unfoldable pub judged_in : List ActiveLock → ℕ → LockId → ℕ → ℕ → Result ⊤ RenewalRefusal
judged_in locks revision id expires now = judged_found revision id expires now (find (has_id id) locks)

-- delete and begin_expiration: the lock that goes with its tree
abbrev pub deletable_found : LockState → LockId → Option ActiveLock → Result ActiveLock DeletionRefusal
deletable_found s id None = Err (deletion.ActiveLockNotFound id)
deletable_found s id (Some root) = cond (at_last_lem s.revision) (Err deletion.RevisionOverflow) (Ok root)

unfoldable pub deletable : LockState → LockId → Result ActiveLock DeletionRefusal
deletable s id = on_sound s (λ n. Err (deletion.UnsoundState n)) (deletable_found s id (find (has_id id) (model_of s).active))

abbrev pub due_found : LockState → ℕ → Option ActiveLock → Result ActiveLock (Result Expiration StateRefusal)
due_found s now None = Err (Ok Stale)
due_found s now (Some root) = cond (ltb now root.expires) (Err (Ok (NotDue root.expires))) (cond (at_last_lem s.revision) (Err (Err unsound.RevisionOverflow)) (Ok root))

unfoldable pub due : LockState → LockId → ℕ → Result ActiveLock (Result Expiration StateRefusal)
due s id now = on_sound s (λ n. Err (Err (unsound.UnsoundState n))) (due_found s now (find (has_id id) (model_of s).active))

-- expire_defunct: how many entries went, their ids, and the state without them
abbrev pub expired_by : List LockId → LockState → Result ℕ StateRefusal → DefunctsExpired
expired_by ids s (Ok gone) = record { told = record { answer = Ok tt; gone = gone; ids = ids }; state = s }
expired_by ids s (Err r) = shed (Err r) [] s

-- commit_replacement: what is done, or what refuses
abbrev pub replaced_or : LockState → Result Replaced Refusal → Replaced
replaced_or s (Ok done) = done
replaced_or s (Err r) = replaced (Err r) [] s
