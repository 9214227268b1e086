-- An entry or a lock that comes is put in order; several come one after the other.
-- Assumes nothing.
use mathlib.Core.List.{List, [], ◌∷◌, ◌++◌, map}
use mathlib.Core.Path.{◌≡◌, refl, sym, ap, ◌∙◌}
use Prim.Native.Nat.{ℕ, ◌+◌, ◌≤◌, ◌<◌}
use native.Mathlib.Omega.{arith}
use lib.ListN.{length, get_or, take, drop, length-take, length-map}
use Rattle.lists.specs.Lists.{insert_by}
use Rattle.lists.specs.Places.{in_places, opened}
use Rattle.lists.proofs.Lists.{length_insert}
use Rattle.lists.proofs.Loops.{more, map_more}
use Rattle.lists.proofs.Shifts.{opened_in, lead_le, insert_split}
use Rattle.ids.specs.declared.LockId.{LockId}
use Rattle.ids.specs.Order.{key}
use Rattle.state.specs.declared.ActiveLock.{ActiveLock}
use Rattle.state.specs.declared.DefunctLock.{DefunctLock}
use Rattle.state.specs.Locks.{dkey, blank_defunct}
use Rattle.operations.specs.declared.defuncts.Table.{Table}
use Rattle.operations.specs.Defuncts.{to_defunct, enter_all}
use Rattle.operations.specs.Code.{place_of, entries_of, table_of, Laid}
use Rattle.operations.proofs.Leaving.{laid_count, laid_of, entries_back}

-- ---- in an array of n places, c of them used
module _ {A : Type 0} (k : A → ℕ) (i : LockId) (x : A) (e : k x ≡ key i) (n : ℕ) (b : A) (l : List A) (c : ℕ) where
  pub place_le : length (take c l) ≡ c → place_of k i (take c l) ≤ c
  unfolding place_of
  place_le h = omega (arith, lead_le k (key i) (take c l), h)

  pub put_in : length (take c l) ≡ c → in_places n b (take c l) ≡ l → c < n → opened l (place_of k i (take c l)) c x ≡ in_places n b (insert_by k x (take c l))
  unfolding place_of
  put_in h same r =
      opened_in l (place_of k i (take c l)) c n x b same (place_le h) r (omega (arith, h, length-take c l))
      ∙ ap (in_places n b) (sym split)
    where
      split : insert_by k x (take c l) ≡ take (place_of k i (take c l)) (take c l) ++ x ∷ drop (place_of k i (take c l)) (take c l)
      split = rw e at (insert_split k x (take c l))

-- ---- several, one after the other
abbrev pub with_places_lem : ℕ → List DefunctLock → Table
with_places_lem n l = record { count = n; entries = l }

pub enter_length : (ds t : List DefunctLock) → length (enter_all ds t) ≡ length ds + length t
enter_length [] t = omega arith
enter_length (d ∷ ds) t = omega (arith, enter_length ds (insert_by dkey d t), length_insert dkey d t)

enter_more : (ds : List DefunctLock) (d : DefunctLock) (t : List DefunctLock) → enter_all (ds ++ (d ∷ [])) t ≡ insert_by dkey d (enter_all ds t)
enter_more [] d t = refl
enter_more (e ∷ ds) d t = enter_more ds d (insert_by dkey e t)

abbrev pub entered_at : Table → List ActiveLock → ActiveLock → ℕ → ℕ → ℕ → List DefunctLock
entered_at t l x by at k = enter_all (map (to_defunct x by at) (take k l)) (entries_of t)

module _ (t : Table) (h : Laid t) (l : List ActiveLock) (x : ActiveLock) (by at i : ℕ) (out : Table) (q : out ≡ table_of (entered_at t l x by at i)) where
  size : length (entered_at t l x by at i) ≤ i + t.count
  size = omega (arith, enter_length (map (to_defunct x by at) (take i l)) (entries_of t), length-map (take i l) (to_defunct x by at), length-take i l, laid_count t h)

  pub out_count : out.count ≤ i + t.count
  out_count = rw q size

  pub out_laid : i + t.count ≤ 192 → Laid out
  out_laid g = rw q (laid_of (entered_at t l x by at i) (omega (arith, size)))

  -- one more: k is its place, and then the entries from there on stand one place up
  module _ (g : i + t.count < 192) (d : DefunctLock) (k : ℕ) (f : k ≡ place_of dkey d.lock.id (entries_of out)) where
    pub enter_is : with_places_lem (out.count + 1) (opened out.entries k out.count d) ≡ table_of (insert_by dkey d (entries_of out))
    enter_is =
        let h : Laid out = out_laid (omega arith) in
        let n : out.count + 1 ≡ length (insert_by dkey d (entries_of out)) = omega (arith, length_insert dkey d (entries_of out), laid_count out h) in
        ap (λ (j : ℕ). with_places_lem (out.count + 1) (opened out.entries j out.count d)) f
        ∙ (λ j. record {
          count = n j;
          entries = put_in dkey d.lock.id d refl 192 blank_defunct out.entries out.count (laid_count out h) (ap (λ (x : Table). x.entries) h.same) (omega (arith, out_count)) j;
        })

  pub one_more : (e : ActiveLock) (d : DefunctLock) (r : Table) → i < length l → d ≡ to_defunct x by at (get_or l i e) → r ≡ table_of (insert_by dkey d (entries_of out)) → r ≡ table_of (entered_at t l x by at (i + 1))
  one_more e d r g f k =
      let n : entered_at t l x by at (i + 1) ≡ insert_by dkey (to_defunct x by at (get_or l i e)) (entered_at t l x by at i) = rw (more l i e g, map_more (to_defunct x by at) (take i l) (get_or l i e)) (enter_more (map (to_defunct x by at) (take i l)) (to_defunct x by at (get_or l i e)) (entries_of t)) in
      k ∙ ap (λ (o : Table). table_of (insert_by dkey d (entries_of o))) q
      ∙ ap (λ (s : List DefunctLock). table_of (insert_by dkey d s)) (entries_back (entered_at t l x by at i))
      ∙ ap (λ (y : DefunctLock). table_of (insert_by dkey y (entered_at t l x by at i))) f
      ∙ ap table_of (sym n)
