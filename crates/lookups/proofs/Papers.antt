-- No two answers of a read have one paper: from document 01's number and values the answer is read back. Assumes nothing.
use mathlib.Core.Bool.{Bool, true, false}
use mathlib.Core.List.{[], ◌∷◌}
use mathlib.Core.Path.{◌≡◌, refl, ap, ◌∙◌}
use Prim.Native.Nat.{ℕ, ◌+◌}
use lib.Dec.{eqb}
use Rattle.lists.specs.Papers.{Paper}
use Rattle.lists.proofs.Papers.{pick, one_to_one, value_at}
use Rattle.ids.specs.declared.LockId.{LockId}
use Rattle.state.specs.declared.ScopeKey.{ScopeKey}
use Rattle.state.specs.declared.ScopeKey.TheVariants.{Vehicle, Ecu, FunctionalGroup}
use Rattle.state.specs.declared.Lock.{Lock}
use Rattle.state.specs.declared.ActiveLock.{ActiveLock}
use Rattle.state.specs.declared.DefunctLock.{DefunctLock}
use Rattle.std.specs.Prelude.{Result, Option, Ok, Err, Some, None, ⊤}
use Rattle.rules.specs.declared.Unsound.{Unsound}
use Rattle.rules.specs.declared.Unsound.TheVariants.{Rule}
use Rattle.lookups.specs.declared.Narrow.{Narrow}
use Rattle.lookups.specs.declared.TesterPresent.TheVariants as present
use Rattle.lookups.specs.declared.TesterPresent.{TesterPresent}
use Rattle.lookups.specs.declared.Holder.{Holder}
use Rattle.lookups.specs.Papers.{flag_value, verdict_paper, found_active_paper, found_defunct_paper, revision_paper, truth_paper, count_told, listed_paper, needed_paper, holder_paper}

abbrev pub id_at : Paper → ℕ → LockId
id_at p k = record { hi = value_at p k; lo = value_at p (k + 1) }

abbrev pub flag_of : ℕ → Bool
flag_of n = eqb n 1

flag_back : (b : Bool) → flag_of (flag_value b) ≡ b
flag_back true = refl
flag_back false = refl

abbrev scope_of : ℕ → ℕ → ScopeKey
scope_of k n = pick k ((1, Ecu n) ∷ (2, FunctionalGroup n) ∷ []) Vehicle

-- ---- the test of a state
verdict_of : Paper → Result ⊤ Unsound
verdict_of p = pick p.number ((12, (Err (Rule (value_at p 0)))) ∷ []) (Ok tt)

verdict_back : (v : Result ⊤ Unsound) → verdict_of (verdict_paper v) ≡ v
unfolding verdict_of verdict_paper
verdict_back (Ok tt) = refl
verdict_back (Err (Rule n)) = refl

pub verdict_one : (a b : Result ⊤ Unsound) → verdict_paper a ≡ verdict_paper b → a ≡ b
verdict_one = one_to_one verdict_paper verdict_of verdict_back

-- ---- locks: the flags are read back, once the scope stands
abbrev lock_with : Lock → ScopeKey → Bool → Bool → Lock
lock_with l s x w =
    record {
      id = l.id;
      coverage = record { w0 = l.coverage.w0; w1 = l.coverage.w1; w2 = l.coverage.w2; w3 = l.coverage.w3; whole = w };
      principal = l.principal;
      metadata = l.metadata;
      subject = l.subject;
      scope = s;
      exclusive = x;
    }

flags_back : (l : Lock) (s : ScopeKey) → lock_with l s (flag_of (flag_value l.exclusive)) (flag_of (flag_value l.coverage.whole)) ≡ lock_with l s l.exclusive l.coverage.whole
flags_back l s =
    ap (λ (x : Bool). lock_with l s x (flag_of (flag_value l.coverage.whole))) (flag_back l.exclusive)
    ∙ ap (λ (w : Bool). lock_with l s l.exclusive w) (flag_back l.coverage.whole)

abbrev lock_at : Paper → ℕ → Lock
lock_at p k =
    record {
      id = id_at p k;
      coverage =
          record {
            w0 = value_at p (k + 6);
            w1 = value_at p (k + 7);
            w2 = value_at p (k + 8);
            w3 = value_at p (k + 9);
            whole = flag_of (value_at p (k + 5));
          };
      principal = value_at p (k + 11);
      metadata = value_at p (k + 12);
      subject = value_at p (k + 10);
      scope = scope_of (value_at p (k + 2)) (value_at p (k + 3));
      exclusive = flag_of (value_at p (k + 4));
    }

-- ---- an active lock, found
abbrev active_with : ActiveLock → Lock → Bool → Result (Option ActiveLock) Unsound
active_with a l c = Ok (Some (record { lock = l; parent = a.parent; expires = a.expires; child = c }))

found_active_of : Paper → Result (Option ActiveLock) Unsound
found_active_of p =
    pick p.number ((12, (Err (Rule (value_at p 0)))) ∷ [])
    (pick (value_at p 0)
    ((0, (Ok None)) ∷ [])
    (Ok (Some (record { lock = lock_at p 1; parent = id_at p 16; expires = value_at p 14; child = flag_of (value_at p 15) }))))

active_flags : (a : ActiveLock) (s : ScopeKey)
    → active_with a (lock_with a.lock s (flag_of (flag_value a.lock.exclusive)) (flag_of (flag_value a.lock.coverage.whole))) (flag_of (flag_value a.child))
    ≡ active_with a (lock_with a.lock s a.lock.exclusive a.lock.coverage.whole) a.child
active_flags a s =
    ap (λ (l : Lock). active_with a l (flag_of (flag_value a.child))) (flags_back a.lock s)
    ∙ ap (λ (c : Bool). active_with a (lock_with a.lock s a.lock.exclusive a.lock.coverage.whole) c) (flag_back a.child)

active_back : (a : ActiveLock) (s : ScopeKey)
    → found_active_of (found_active_paper (active_with a (lock_with a.lock s a.lock.exclusive a.lock.coverage.whole) a.child))
    ≡ active_with a (lock_with a.lock s a.lock.exclusive a.lock.coverage.whole) a.child
unfolding found_active_of found_active_paper
active_back a Vehicle = active_flags a Vehicle
active_back a (Ecu n) = active_flags a (Ecu n)
active_back a (FunctionalGroup n) = active_flags a (FunctionalGroup n)

found_active_back : (f : Result (Option ActiveLock) Unsound) → found_active_of (found_active_paper f) ≡ f
unfolding found_active_of found_active_paper
found_active_back (Err (Rule n)) = refl
found_active_back (Ok None) = refl
found_active_back (Ok (Some a)) = active_back a a.lock.scope

pub found_active_one : (f g : Result (Option ActiveLock) Unsound) → found_active_paper f ≡ found_active_paper g → f ≡ g
found_active_one = one_to_one found_active_paper found_active_of found_active_back

-- ---- a defunct entry, found
abbrev defunct_with : DefunctLock → Lock → Result (Option DefunctLock) Unsound
defunct_with d l =
    Ok (Some (record { lock = l; target = d.target; expires = d.expires; broken = d.broken; breaker = d.breaker; holder = d.holder }))

found_defunct_of : Paper → Result (Option DefunctLock) Unsound
found_defunct_of p =
    pick p.number ((12, (Err (Rule (value_at p 0)))) ∷ [])
    (pick (value_at p 0)
    ((0, (Ok None)) ∷ [])
    (Ok (Some (record { lock = lock_at p 1; target = id_at p 17; expires = value_at p 14; broken = value_at p 15; breaker = value_at p 16; holder = value_at p 19 }))))

defunct_back : (d : DefunctLock) (s : ScopeKey)
    → found_defunct_of (found_defunct_paper (defunct_with d (lock_with d.lock s d.lock.exclusive d.lock.coverage.whole)))
    ≡ defunct_with d (lock_with d.lock s d.lock.exclusive d.lock.coverage.whole)
unfolding found_defunct_of found_defunct_paper
defunct_back d Vehicle = ap (defunct_with d) (flags_back d.lock Vehicle)
defunct_back d (Ecu n) = ap (defunct_with d) (flags_back d.lock (Ecu n))
defunct_back d (FunctionalGroup n) = ap (defunct_with d) (flags_back d.lock (FunctionalGroup n))

found_defunct_back : (f : Result (Option DefunctLock) Unsound) → found_defunct_of (found_defunct_paper f) ≡ f
unfolding found_defunct_of found_defunct_paper
found_defunct_back (Err (Rule n)) = refl
found_defunct_back (Ok None) = refl
found_defunct_back (Ok (Some d)) = defunct_back d d.lock.scope

pub found_defunct_one : (f g : Result (Option DefunctLock) Unsound) → found_defunct_paper f ≡ found_defunct_paper g → f ≡ g
found_defunct_one = one_to_one found_defunct_paper found_defunct_of found_defunct_back

-- ---- the revision, a truth, a count of ids
revision_of : Paper → Result ℕ Unsound
revision_of p = pick p.number ((12, (Err (Rule (value_at p 0)))) ∷ []) (Ok (value_at p 0))

revision_back : (a : Result ℕ Unsound) → revision_of (revision_paper a) ≡ a
unfolding revision_of revision_paper
revision_back (Err (Rule n)) = refl
revision_back (Ok r) = refl

pub revision_one : (a b : Result ℕ Unsound) → revision_paper a ≡ revision_paper b → a ≡ b
revision_one = one_to_one revision_paper revision_of revision_back

truth_of : Paper → Result Bool Unsound
truth_of p = pick p.number ((12, (Err (Rule (value_at p 0)))) ∷ []) (Ok (flag_of (value_at p 0)))

truth_back : (a : Result Bool Unsound) → truth_of (truth_paper a) ≡ a
unfolding truth_of truth_paper
truth_back (Err (Rule n)) = refl
truth_back (Ok b) = ap Ok (flag_back b)

pub truth_one : (a b : Result Bool Unsound) → truth_paper a ≡ truth_paper b → a ≡ b
truth_one = one_to_one truth_paper truth_of truth_back

listed_back : (a : Result ℕ Unsound) → revision_of (listed_paper a) ≡ a
unfolding revision_of listed_paper
listed_back (Err (Rule n)) = refl
listed_back (Ok n) = refl

pub listed_one : (a b : Result ℕ Unsound) → listed_paper a ≡ listed_paper b → a ≡ b
listed_one = one_to_one listed_paper revision_of listed_back

-- the paper of an answer with its ids is that of the count
pub count_one : (a b : Result Narrow Unsound) → listed_paper (count_told a) ≡ listed_paper (count_told b) → count_told a ≡ count_told b
count_one a b = listed_one (count_told a) (count_told b)

pub count_same : (a b : Narrow) → listed_paper (count_told (Ok a)) ≡ listed_paper (count_told (Ok b)) → a.count ≡ b.count
unfolding listed_paper
count_same a b = ap (λ (p : Paper). value_at p 0)

-- ---- what keeps a tester present, and the holder
needed_of : Paper → Result (Option TesterPresent) Unsound
needed_of p =
    pick p.number ((12, (Err (Rule (value_at p 0)))) ∷ [])
    (pick (value_at p 0)
    ((1, (Ok (Some (present.Ecu (value_at p 1))))) ∷ (2, (Ok (Some (present.Functional (value_at p 1))))) ∷ [])
    (Ok None))

needed_back : (a : Result (Option TesterPresent) Unsound) → needed_of (needed_paper a) ≡ a
unfolding needed_of needed_paper
needed_back (Err (Rule n)) = refl
needed_back (Ok None) = refl
needed_back (Ok (Some (present.Ecu e))) = refl
needed_back (Ok (Some (present.Functional g))) = refl

pub needed_one : (a b : Result (Option TesterPresent) Unsound) → needed_paper a ≡ needed_paper b → a ≡ b
needed_one = one_to_one needed_paper needed_of needed_back

holder_in : Paper → Result Holder Unsound
holder_in p = pick p.number ((12, (Err (Rule (value_at p 0)))) ∷ []) (Ok (record { subject = value_at p 0; links = value_at p 1 }))

holder_back : (a : Result Holder Unsound) → holder_in (holder_paper a) ≡ a
unfolding holder_in holder_paper
holder_back (Err (Rule n)) = refl
holder_back (Ok h) = refl

pub holder_one : (a b : Result Holder Unsound) → holder_paper a ≡ holder_paper b → a ≡ b
holder_one = one_to_one holder_paper holder_in holder_back
