-- The holder's walk: one step of it; that it passes no more entries than the table has, one fewer from a stored record; and
-- that more fuel gives the same answer. Each needs that walks end (rule 9, as the statement Ends).
--     ahead t k     how many entries the walk from the id k passes
-- Assumes nothing.
use mathlib.Core.Path.{◌≡◌, refl, sym, ap, ◌∙◌}
use mathlib.Core.Bool.{true}
use mathlib.Core.List.{List}
use Rattle.std.specs.Prelude.{Option, None, Some}
use Rattle.lists.proofs.Options.{None_ne_Some, Some_injective}
use Prim.Native.Nat.{ℕ, zero, suc, ◌+◌, ◌≤◌, ◌<◌, zero-le, suc-le-suc}
use native.Mathlib.Omega.{arith}
use lib.Dec.{eqb}
use lib.ListN.{length, length-take}
use Rattle.lists.specs.Tests.{Yes}
use Rattle.lists.specs.Lists.{Mem, ascending}
use Rattle.lists.proofs.Tests.{against, non_yes}
use Rattle.lists.proofs.Lists.{find→, →any, find_key}
use Rattle.ids.specs.Order.{key}
use Rattle.state.specs.declared.ActiveLock.{ActiveLock}
use Rattle.state.specs.declared.DefunctLock.{DefunctLock}
use Rattle.state.specs.Locks.{dkey}
use Rattle.state.specs.declared.LockState.{LockState}
use Rattle.state.specs.Model.{Model, model_of}
use Rattle.std.specs.Prelude.{Ok}
use Rattle.rules.specs.Rules.{find_a, find_d, rule9, broken_rule}
use Rattle.rules.proofs.Sound.{facts_of_state}
use Rattle.rules.proofs.Ends.{Ends, done, step, leaves, leaves_all, ends_anywhere}
use Rattle.lookups.specs.Reads.{held, walk, holder_of}
use Rattle.lookups.proofs.Verdicts.{defuncts_fit}

-- ---- one step
module _ (m : Model) (n k h c : ℕ) where
  pub walk_held : (a : ActiveLock) → find_a m.active k ≡ Some a → walk (suc n) m k h c ≡ held a.lock.subject c
  unfolding walk
  walk_held a e = rw (e, walk)

  pub walk_out : find_a m.active k ≡ None → find_d m.defunct k ≡ None → walk (suc n) m k h c ≡ held h c
  unfolding walk
  walk_out e f = rw (e, f, walk)

  pub walk_on : (d : DefunctLock) → find_a m.active k ≡ None → find_d m.defunct k ≡ Some d → walk (suc n) m k h c ≡ walk n m (key d.target) d.holder (suc c)
  unfolding walk
  walk_on d e f = rw (e, f, walk)

-- ---- how far
unfoldable pub counted : ℕ → List DefunctLock → ℕ → ℕ
counted zero t k = 0
counted (suc n) t k = elim (find_d t k) [ None ↦ 0 | Some d ↦ suc (counted n t (key d.target)) ]

unfoldable pub ahead : List DefunctLock → ℕ → ℕ
ahead t k = counted (length t) t k

counted_le : (n : ℕ) (t : List DefunctLock) (k : ℕ) → counted n t k ≤ n
unfolding counted
counted_le zero t k = zero-le
counted_le (suc n) t k = elim (find_d t k) as (λ o. elim o [ None ↦ 0 | Some d ↦ suc (counted n t (key d.target)) ] ≤ suc n) [ None ↦ zero-le | Some d ↦ suc-le-suc (counted_le n t (key d.target)) ]

pub ahead_le : (t : List DefunctLock) (k : ℕ) → ahead t k ≤ length t
unfolding ahead
ahead_le t k = counted_le (length t) t k

-- a walk that ends is counted whole
passed : {t : List DefunctLock} {k : ℕ} → Ends t k → ℕ
passed (done e) = 0
passed (step e r) = suc (passed r)

passed_le : {t : List DefunctLock} (n : ℕ) {k : ℕ} (r : Ends t k) → Yes (leaves n t k) → passed r ≤ n
unfolding passed leaves
passed_le n (done e) h = zero-le
passed_le {t} zero {k} (step {d = d} e r) h =
    let w = find→ (λ x. eqb (dkey x) k) t e in absurd (against (non_yes _ h) (→any (λ x. eqb (dkey x) k) w.0 w.1))
passed_le {t} (suc n) {k} (step e r) h = suc-le-suc (passed_le n r (rw (e, leaves) at h))

counted_all : (n : ℕ) {t : List DefunctLock} {k : ℕ} (r : Ends t k) → passed r ≤ n → counted n t k ≡ passed r
unfolding passed counted
counted_all zero (done e) h = refl
counted_all (suc n) (done e) h = rw (e, counted)
counted_all zero (step e r) h = absurd (omega arith)
counted_all (suc n) (step e r) h = rw (e, counted) (ap suc (counted_all n r (omega arith)))

ahead_is : {t : List DefunctLock} {k : ℕ} (r : Ends t k) → ahead t k ≡ passed r
unfolding ahead
ahead_is {t} {k} r = counted_all (length t) r (passed_le (length t) r (leaves_all t r))

pub ahead_on : (t : List DefunctLock) (k : ℕ) → Ends t k → (d : DefunctLock) → find_d t k ≡ Some d → ahead t k ≡ suc (ahead t (key d.target))
unfolding passed
ahead_on t k (done e) d f = absurd (None_ne_Some d (sym e ∙ f))
ahead_on t k (step {d = x} e r) d f =
    ahead_is (step e r) ∙ ap suc (sym (ahead_is r)) ∙ ap (λ (y : DefunctLock). suc (ahead t (key y.target))) (Some_injective x d (sym e ∙ f))

-- ---- more fuel gives the same answer
pub enough : (m : Model) {k : ℕ} → Ends m.defunct k → (n p : ℕ) → ahead m.defunct k ≤ n → ahead m.defunct k ≤ p → (h c : ℕ) → walk (suc n) m k h c ≡ walk (suc p) m k h c
enough m {k} (done e) n p l g h c = go (find_a m.active k) refl
  where
    go : (o : Option ActiveLock) → find_a m.active k ≡ o → walk (suc n) m k h c ≡ walk (suc p) m k h c
    go None f = walk_out m n k h c f e ∙ sym (walk_out m p k h c f e)
    go (Some a) f = walk_held m n k h c a f ∙ sym (walk_held m p k h c a f)
enough m {k} (step {d = d} e r) zero p l g h c = absurd (omega (arith, ahead_on m.defunct k (step e r) d e))
enough m {k} (step {d = d} e r) (suc n) zero l g h c = absurd (omega (arith, ahead_on m.defunct k (step e r) d e))
enough m {k} (step {d = d} e r) (suc n) (suc p) l g h c =
    let q = ahead_on m.defunct k (step e r) d e in
    go (find_a m.active k) refl (enough m r n p (omega arith) (omega arith) d.holder (suc c))
  where
    go : (o : Option ActiveLock) → find_a m.active k ≡ o → walk (suc n) m (key d.target) d.holder (suc c) ≡ walk (suc p) m (key d.target) d.holder (suc c) → walk (suc (suc n)) m k h c ≡ walk (suc (suc p)) m k h c
    go None f u = walk_on m (suc n) k h c d f e ∙ u ∙ sym (walk_on m (suc p) k h c d f e)
    go (Some a) f u = walk_held m (suc n) k h c a f ∙ sym (walk_held m (suc p) k h c a f)

-- ---- no more links than entries ahead
links_le : (m : Model) {k : ℕ} → Ends m.defunct k → (n h c : ℕ) → (walk n m k h c).links ≤ c + ahead m.defunct k
unfolding walk
links_le m r zero h c = omega arith
links_le m {k} (done e) (suc n) h c = go (find_a m.active k) refl
  where
    go : (o : Option ActiveLock) → find_a m.active k ≡ o → (walk (suc n) m k h c).links ≤ c + ahead m.defunct k
    go None f = rw (walk_out m n k h c f e) (omega arith)
    go (Some a) f = rw (walk_held m n k h c a f) (omega arith)
links_le m {k} (step {d = d} e r) (suc n) h c = go (find_a m.active k) refl (links_le m {k = key d.target} r n d.holder (suc c))
  where
    go : (o : Option ActiveLock) → find_a m.active k ≡ o → (walk n m (key d.target) d.holder (suc c)).links ≤ suc c + ahead m.defunct (key d.target) → (walk (suc n) m k h c).links ≤ c + ahead m.defunct k
    go None f u = rw (walk_on m n k h c d f e) (omega (arith, ahead_on m.defunct k (step e r) d e))
    go (Some a) f u = rw (walk_held m n k h c a f) (omega arith)

-- of any record: as many as the table has entries, at most
pub holder_links : (m : Model) → rule9 m ≡ true → (d : DefunctLock) → (holder_of m d).links ≤ length m.defunct
unfolding holder_of
holder_links m u d =
    omega (arith, links_le m (ends_anywhere m u (key d.target)) (suc (length m.defunct)) d.holder 0, ahead_le m.defunct (key d.target))

-- which is 128 at most
pub holder_links_fit : (s : LockState) → broken_rule s ≡ Ok tt → (d : DefunctLock) → (holder_of (model_of s) d).links ≤ 128
holder_links_fit s e d =
    omega (arith, holder_links (model_of s) (facts_of_state s e).nine d, length-take s.defuncts s.defunct, defuncts_fit s e)

-- of a stored record: one fewer, since the walk doesn't pass the record itself
pub stored_links : (m : Model) → rule9 m ≡ true → Yes (ascending dkey m.defunct) → (d : DefunctLock) → Mem d m.defunct → (holder_of m d).links < length m.defunct
unfolding holder_of
stored_links m u o d i =
    omega (
      arith,
      links_le m (ends_anywhere m u (key d.target)) (suc (length m.defunct)) d.holder 0,
      ahead_on m.defunct (dkey d) (ends_anywhere m u (dkey d)) d (find_key dkey m.defunct o (dkey d) i refl),
      ahead_le m.defunct (dkey d),
    )

-- any fuel past the table's length
pub holder_fuel : (m : Model) → rule9 m ≡ true → (d : DefunctLock) (n : ℕ) → length m.defunct ≤ n → walk (suc n) m (key d.target) d.holder 0 ≡ holder_of m d
unfolding holder_of
holder_fuel m u d n l =
    let q = ahead_le m.defunct (key d.target) in
    enough m (ends_anywhere m u (key d.target)) n (length m.defunct) (omega arith) q d.holder 0
