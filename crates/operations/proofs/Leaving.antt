-- Defunct entries that go. The code lets every marked entry hand its target and holder on and takes the marked entries out
-- at the end; in an ascending list that is the same as taking them out one after the other.
-- Assumes nothing.
use mathlib.Core.Bool.{Bool, true, false, cond}
use mathlib.Core.List.{List, [], ◌∷◌, ◌++◌, map}
use Rattle.std.specs.Prelude.{Option, None, Some}
use mathlib.Core.Path.{◌≡◌, refl, sym, ap, ◌∙◌}
use Prim.Native.Nat.{ℕ, zero, suc, ◌+◌, ◌≤◌, ◌<◌}
use native.Mathlib.Omega.{arith}
use lib.Dec.{eqb}
use native.Mathlib.Numerals.{add-one}
use lib.ListN.{length, get_or, set, take, length-map}
use lib.Seq.{take-suc, length-take-le, get_or-take}
use borrow.Author.Tests.{eq-eqb, ne_eqb, eqb-true}
use Rattle.lists.specs.Tests.{Yes}
use Rattle.lists.specs.Lists.{any, filter, find, from, ascending}
use Rattle.lists.proofs.Tests.{→no, non_t, non_f}
use Rattle.lists.proofs.Lists.{any→, from→, rest, from_map, filter_le, find_agree, find→}
use Rattle.lists.proofs.Places.{mem_at}
use Rattle.lists.proofs.Loops.{filter_none}
use Rattle.ids.specs.declared.LockId.{LockId}
use Rattle.ids.specs.Order.{key}
use Rattle.state.specs.declared.ActiveLock.{ActiveLock}
use Rattle.state.specs.declared.DefunctLock.{DefunctLock}
use Rattle.state.specs.declared.Lock.{Lock}
use Rattle.state.specs.Locks.{dkey, has_id_d, blank_defunct}
use Rattle.state.proofs.Laws.{back, length_places}
use Rattle.operations.specs.declared.defuncts.Table.{Table}
use Rattle.operations.specs.Defuncts.{redirect, other, drop_entry, drop_found, remove_d, remove_all, superseded, supersede}
use Rattle.operations.specs.Code.{flagged, unflagged, took_over, hand_step, hand_on, entries_of, table_of, Laid, Ranked}
use Rattle.operations.proofs.Flags.{flag_yes, flag_no, unflag_no, unflag_map, flagged_by, keep_all, mapped, mapped_read, mapped_set, mapped_same, mapped_front}

-- ---- how many stay
drop_le : (e : DefunctLock) (t : List DefunctLock) → length (drop_entry e t) ≤ length t
drop_le e t = omega (arith, length-map (filter (other e) t) (redirect e), filter_le (other e) t)

pub remove_le : (i : LockId) (t : List DefunctLock) → length (remove_d i t) ≤ length t
unfolding remove_d
remove_le i t = go (find (has_id_d i) t)
  where
    go : (o : Option DefunctLock) → length (drop_found o t) ≤ length t
    go None = omega arith
    go (Some e) = drop_le e t

pub remove_all_le : (ds t : List DefunctLock) → length (remove_all ds t) ≤ length t
remove_all_le [] t = omega arith
remove_all_le (d ∷ ds) t = omega (arith, remove_le d.lock.id t, remove_all_le ds (remove_d d.lock.id t))

pub supersede_le : (x : ActiveLock) (t : List DefunctLock) → length (supersede x t) ≤ length t
unfolding supersede
supersede_le x t = remove_all_le (filter (superseded x) t) t

remove_all_more : (ds : List DefunctLock) (d : DefunctLock) (t : List DefunctLock) → remove_all (ds ++ (d ∷ [])) t ≡ remove_d d.lock.id (remove_all ds t)
remove_all_more [] d t = refl
remove_all_more (e ∷ ds) d t = remove_all_more ds d (remove_d e.lock.id t)

-- ---- redirection changes no lock
module _ (e d : DefunctLock) where
  pub redirect_yes : eqb (key d.target) (dkey e) ≡ true → took_over e d ≡ redirect e d
  unfolding redirect
  redirect_yes t = rw t

  pub redirect_no : eqb (key d.target) (dkey e) ≡ false → d ≡ redirect e d
  unfolding redirect
  redirect_no t = rw t

  pub redirect_lock : (redirect e d).lock ≡ d.lock
  unfolding redirect
  redirect_lock = go (eqb (key d.target) (dkey e))
    where
      go : (b : Bool) → (cond b (took_over e d) d).lock ≡ d.lock
      go true = refl
      go false = refl

lock_at_lem : (f : DefunctLock → DefunctLock) → ((d : DefunctLock) → (f d).lock ≡ d.lock) → (l : List DefunctLock) (j : ℕ) (b : DefunctLock) → j < length l → (get_or (map f l) j b).lock ≡ (get_or l j b).lock
lock_at_lem f h [] j b k = absurd (omega arith)
lock_at_lem f h (x ∷ xs) zero b k = h x
lock_at_lem f h (x ∷ xs) (suc j) b k = lock_at_lem f h xs j b (omega arith)

-- ---- the entry at a place of an ascending list, some of those before it taken out
same_id_lem : (e : DefunctLock) → has_id_d e.lock.id e ≡ true
unfolding has_id_d
same_id_lem e = eq-eqb (dkey e) (dkey e) refl

other_id : (e d : DefunctLock) → (dkey d ≡ dkey e → ⊥) → has_id_d e.lock.id d ≡ false
unfolding has_id_d
other_id e d n = ne_eqb (dkey d) (dkey e) n

find_at : (fs : List Bool) (b : ℕ) (l : List DefunctLock) (d : DefunctLock) → Yes (from dkey b l) → length fs < length l → find (has_id_d (get_or l (length fs) d).lock.id) (unflagged fs l) ≡ Some (get_or l (length fs) d)
find_at [] b [] d t h = absurd (omega arith)
find_at [] b (x ∷ xs) d t h = rw (same_id_lem x)
find_at (c ∷ cs) b [] d t h = absurd (omega arith)
find_at (true ∷ cs) b (x ∷ xs) d t h = find_at cs (suc (dkey x)) xs d (rest dkey b x xs t) (omega arith)
find_at (false ∷ cs) b (x ∷ xs) d t h =
    let e = get_or xs (length cs) d in
    let g : suc (dkey x) ≤ dkey e = from→ dkey (suc (dkey x)) (rest dkey b x xs t) (mem_at xs (length cs) d (omega arith)) in
    rw (other_id e x (λ q. omega arith)) (find_at cs (suc (dkey x)) xs d (rest dkey b x xs t) (omega arith))

filter_at : (fs : List Bool) (b : ℕ) (l : List DefunctLock) (d : DefunctLock) → Yes (from dkey b l) → length fs < length l → filter (other (get_or l (length fs) d)) (unflagged fs l) ≡ unflagged (fs ++ (true ∷ [])) l
unfolding other
filter_at [] b [] d t h = absurd (omega arith)
filter_at [] b (x ∷ xs) d t h =
    rw (non_t (has_id_d x.lock.id x) (same_id_lem x))
    (keep_all (other x) xs (λ a m. non_f (has_id_d x.lock.id a) (other_id x a (λ q. omega (arith, from→ dkey (suc (dkey x)) (rest dkey b x xs t) m)))))
filter_at (c ∷ cs) b [] d t h = absurd (omega arith)
filter_at (true ∷ cs) b (x ∷ xs) d t h = filter_at cs (suc (dkey x)) xs d (rest dkey b x xs t) (omega arith)
filter_at (false ∷ cs) b (x ∷ xs) d t h =
    let e = get_or xs (length cs) d in
    let g : suc (dkey x) ≤ dkey e = from→ dkey (suc (dkey x)) (rest dkey b x xs t) (mem_at xs (length cs) d (omega arith)) in
    rw (non_f (has_id_d e.lock.id x) (other_id e x (λ q. omega arith))) (ap (λ (s : List DefunctLock). x ∷ s) (filter_at cs (suc (dkey x)) xs d (rest dkey b x xs t) (omega arith)))

remove_at : (fs : List Bool) (l : List DefunctLock) (d : DefunctLock) → Yes (ascending dkey l) → length fs < length l → remove_d (get_or l (length fs) d).lock.id (unflagged fs l) ≡ map (redirect (get_or l (length fs) d)) (unflagged (fs ++ (true ∷ [])) l)
unfolding remove_d
remove_at fs l d t h = rw (find_at fs 0 l d t h) (ap (map (redirect (get_or l (length fs) d))) (filter_at fs 0 l d t h))

-- ---- handed on up to i
module _ (goes : List Bool) (l : List DefunctLock) where
  pub hand_more : (i : ℕ) → hand_on goes (suc i) l ≡ hand_step (get_or goes i false) i (hand_on goes i l)
  unfolding hand_on
  hand_more i = refl

  step_long : (b : Bool) (i : ℕ) (m : List DefunctLock) → length (hand_step b i m) ≡ length m
  step_long true i m = length-map m (redirect (get_or m i blank_defunct))
  step_long false i m = refl

  pub hand_long : (i : ℕ) → length (hand_on goes i l) ≡ length l
  unfolding hand_on
  hand_long zero = refl
  hand_long (suc i) = step_long (get_or goes i false) i (hand_on goes i l) ∙ hand_long i

  step_lock : (b : Bool) (i : ℕ) (m : List DefunctLock) (j : ℕ) → j < length m → (get_or (hand_step b i m) j blank_defunct).lock ≡ (get_or m j blank_defunct).lock
  step_lock true i m j h = lock_at_lem (redirect (get_or m i blank_defunct)) (redirect_lock (get_or m i blank_defunct)) m j blank_defunct h
  step_lock false i m j h = refl

  hand_lock : (i j : ℕ) → j < length l → (get_or (hand_on goes i l) j blank_defunct).lock ≡ (get_or l j blank_defunct).lock
  unfolding hand_on
  hand_lock zero j h = refl
  hand_lock (suc i) j h = step_lock (get_or goes i false) i (hand_on goes i l) j (omega (arith, hand_long i)) ∙ hand_lock i j h

  step_order : (b : Bool) (i : ℕ) (m : List DefunctLock) → Yes (ascending dkey m) → Yes (ascending dkey (hand_step b i m))
  step_order true i m t = from_map dkey (redirect (get_or m i blank_defunct)) (λ d. ap (λ (k : Lock). key k.id) (redirect_lock (get_or m i blank_defunct) d)) 0 m ∙ t
  step_order false i m t = t

  module _ (t : Yes (ascending dkey l)) where
    hand_order : (i : ℕ) → Yes (ascending dkey (hand_on goes i l))
    unfolding hand_on
    hand_order zero = t
    hand_order (suc i) = step_order (get_or goes i false) i (hand_on goes i l) (hand_order i)

    pub hand_all : (i : ℕ) → i ≤ length l → i ≤ length goes → unflagged (take i goes) (hand_on goes i l) ≡ remove_all (flagged (take i goes) l) l
    unfolding hand_on
    hand_all zero h g = refl
    hand_all (suc i) h g = rw (take-suc goes i false (omega arith)) (go (get_or goes i false) (hand_all i (omega arith) (omega arith)))
      where
        long : length (take i goes) ≡ i
        long = length-take-le i goes (omega arith)

        gone : remove_d (get_or (hand_on goes i l) i blank_defunct).lock.id (unflagged (take i goes) (hand_on goes i l)) ≡ map (redirect (get_or (hand_on goes i l) i blank_defunct)) (unflagged (take i goes ++ (true ∷ [])) (hand_on goes i l))
        gone = rw long at (remove_at (take i goes) (hand_on goes i l) blank_defunct (hand_order i) (omega (arith, long, hand_long i)))

        listed : flagged (take i goes ++ (true ∷ [])) l ≡ flagged (take i goes) l ++ (get_or l i blank_defunct ∷ [])
        listed = rw long at (flag_yes (take i goes) l blank_defunct (omega (arith, long)))

        go : (b : Bool) → unflagged (take i goes) (hand_on goes i l) ≡ remove_all (flagged (take i goes) l) l → unflagged (take i goes ++ (b ∷ [])) (hand_step b i (hand_on goes i l)) ≡ remove_all (flagged (take i goes ++ (b ∷ [])) l) l
        go false ih = unflag_no (take i goes) (hand_on goes i l) ∙ ih ∙ ap (λ (s : List DefunctLock). remove_all s l) (sym (flag_no (take i goes) l))
        go true ih =
            unflag_map (redirect (get_or (hand_on goes i l) i blank_defunct)) (take i goes ++ (true ∷ [])) (hand_on goes i l)
            ∙ sym gone
            ∙ ap (λ (k : Lock). remove_d k.id (unflagged (take i goes) (hand_on goes i l))) (hand_lock i i (omega arith))
            ∙ ap (remove_d (get_or l i blank_defunct).lock.id) ih
            ∙ sym (remove_all_more (flagged (take i goes) l) (get_or l i blank_defunct) l)
            ∙ ap (λ (s : List DefunctLock). remove_all s l) (sym listed)

-- ---- the turns of the two loops that hand on
module _ (e : DefunctLock) (j : ℕ) (l out : List DefunctLock) (h : j < length l) (q : out ≡ mapped (redirect e) j l) (b : Bool) (f : b ≡ eqb (key (get_or out j blank_defunct).target) (dkey e)) where
  read : get_or out j blank_defunct ≡ get_or l j blank_defunct
  read = ap (λ (o : List DefunctLock). get_or o j blank_defunct) q ∙ mapped_read (redirect e) l j blank_defunct h

  pub turn_yes : (x : DefunctLock) → b ≡ true → x ≡ took_over e (get_or out j blank_defunct) → set out j x ≡ mapped (redirect e) (j + 1) l
  turn_yes x t k = ap (λ (o : List DefunctLock). set o j x) q ∙ mapped_set (redirect e) l j blank_defunct h x (k ∙ redirect_yes e (get_or out j blank_defunct) (sym f ∙ t) ∙ ap (redirect e) read)

  pub turn_no : b ≡ false → out ≡ mapped (redirect e) (j + 1) l
  turn_no t = q ∙ mapped_same (redirect e) l j blank_defunct h (sym read ∙ redirect_no e (get_or out j blank_defunct) (sym f ∙ t) ∙ ap (redirect e) read)

module _ (goes : List Bool) (l out : List DefunctLock) (n i : ℕ) (h : i < n) (w : n ≤ length out) (q : take n out ≡ hand_on goes i l) where
  step : (b : Bool) → get_or goes i false ≡ b → hand_step b i (take n out) ≡ hand_on goes (i + 1) l
  step b e = ap (hand_step b i) q ∙ ap (λ (c : Bool). hand_step c i (hand_on goes i l)) (sym e) ∙ sym (hand_more goes l i) ∙ ap (λ (k : ℕ). hand_on goes k l) (sym (add-one i))

  pub hand_yes : (o : List DefunctLock) → get_or goes i false ≡ true → o ≡ mapped (redirect (get_or out i blank_defunct)) n out → take n o ≡ hand_on goes (i + 1) l
  hand_yes o b e = ap (take n) e ∙ mapped_front (redirect (get_or out i blank_defunct)) out n w ∙ ap (λ (x : DefunctLock). map (redirect x) (take n out)) (sym (get_or-take n out i blank_defunct h)) ∙ step true b

  pub hand_no : get_or goes i false ≡ false → take n out ≡ hand_on goes (i + 1) l
  hand_no b = step false b

-- ---- the table
module _ (t : Table) (h : Laid t) where
  pub laid_count : length (entries_of t) ≡ t.count
  laid_count = ap (λ (x : Table). x.count) h.same

  pub laid_wide : length t.entries ≡ 192
  laid_wide = sym (ap (λ (x : Table). length x.entries) h.same) ∙ length_places 192 blank_defunct (entries_of t) (omega (arith, laid_count, h.room))

pub entries_back : (l : List DefunctLock) → entries_of (table_of l) ≡ l
entries_back l = back 192 blank_defunct l

pub laid_of : (l : List DefunctLock) → length l ≤ 192 → Laid (table_of l)
laid_of l h = record { room = h; same = ap table_of (entries_back l) }

-- the marked entries go
module _ (t : Table) (h : Ranked t) (goes : List Bool) (w : t.count ≤ length goes) (m : List DefunctLock) (e : take t.count m ≡ hand_on goes t.count (entries_of t)) where
  pub shed_all : (r : Table) → r ≡ table_of (unflagged (take t.count goes) (take t.count m)) → r ≡ table_of (remove_all (flagged (take t.count goes) (entries_of t)) (entries_of t))
  shed_all r k =
      k ∙ ap (λ (l : List DefunctLock). table_of (unflagged (take t.count goes) l)) e
      ∙ ap table_of (hand_all goes (entries_of t) h.order t.count (omega (arith, laid_count t h.laid)) w)

-- marks that a test gives
module _ (t : Table) (h : Laid t) (p : DefunctLock → Bool) (goes : List Bool) (w : t.count ≤ length goes) (f : (j : ℕ) → j < t.count → get_or goes j false ≡ p (get_or t.entries j blank_defunct)) where
  pub marked : flagged (take t.count goes) (entries_of t) ≡ filter p (entries_of t)
  marked = flagged_by p (take t.count goes) (entries_of t) blank_defunct (omega (arith, laid_count t h, length-take-le t.count goes w))
      (λ j k. let g : j < t.count = omega (arith, laid_count t h) in rw (get_or-take t.count goes j false g, get_or-take t.count t.entries j blank_defunct g) (f j g))

  pub shed_by : (r : Table) → r ≡ table_of (remove_all (flagged (take t.count goes) (entries_of t)) (entries_of t)) → r ≡ table_of (remove_all (filter p (entries_of t)) (entries_of t))
  shed_by r k = k ∙ ap (λ (s : List DefunctLock). table_of (remove_all s (entries_of t))) marked

-- ---- one entry by its id
abbrev list_of : Option DefunctLock → List DefunctLock
list_of None = []
list_of (Some d) = d ∷ []

filter_one : (i : LockId) (b : ℕ) (l : List DefunctLock) → Yes (from dkey b l) → filter (has_id_d i) l ≡ list_of (find (has_id_d i) l)
unfolding has_id_d
filter_one i b [] t = refl
filter_one i b (x ∷ xs) t = go (eqb (dkey x) (key i)) refl (filter_one i (suc (dkey x)) xs (rest dkey b x xs t))
  where
    none_after : dkey x ≡ key i → any (has_id_d i) xs ≡ false
    none_after q = →no (any (has_id_d i) xs) (λ u. let w = any→ (has_id_d i) xs u in
        omega (arith, from→ dkey (suc (dkey x)) (rest dkey b x xs t) w.1, eqb-true (dkey w.0) (key i) w.2))

    go : (c : Bool) → eqb (dkey x) (key i) ≡ c → filter (has_id_d i) xs ≡ list_of (find (has_id_d i) xs) → cond c (x ∷ filter (has_id_d i) xs) (filter (has_id_d i) xs) ≡ list_of (cond c (Some x) (find (has_id_d i) xs))
    go true e ih = ap (λ (s : List DefunctLock). x ∷ s) (filter_none (has_id_d i) xs (none_after (eqb-true (dkey x) (key i) e)))
    go false e ih = ih

by_key : (i : LockId) (d : DefunctLock) → has_id_d i d ≡ true → (a : DefunctLock) → has_id_d d.lock.id a ≡ has_id_d i a
unfolding has_id_d
by_key i d t a = ap (λ (k : ℕ). eqb (dkey a) k) (eqb-true (dkey d) (key i) t)

pub splice_all : (i : LockId) (l : List DefunctLock) → Yes (ascending dkey l) → remove_all (filter (has_id_d i) l) l ≡ remove_d i l
unfolding remove_d
splice_all i l t = ap (λ (s : List DefunctLock). remove_all s l) (filter_one i 0 l t) ∙ go (find (has_id_d i) l) refl
  where
    go : (o : Option DefunctLock) → find (has_id_d i) l ≡ o → remove_all (list_of o) l ≡ drop_found o l
    go None e = refl
    go (Some d) e = ap (λ (o : Option DefunctLock). drop_found o l) (find_agree (has_id_d d.lock.id) (has_id_d i) l (by_key i d (find→ (has_id_d i) l e).1) ∙ e)

-- nothing to supersede
pub supersede_none : (x : ActiveLock) (t : List DefunctLock) → any (superseded x) t ≡ false → supersede x t ≡ t
unfolding supersede
supersede_none x t e = ap (λ (s : List DefunctLock). remove_all s t) (filter_none (superseded x) t e)
