-- Rule 9: the walk through the defunct entries ends. As a statement (Ends), and as the rule's test that meets no id twice
-- (meets_none); the two agree, since a walk that ends meets no more ids than the table has. A test that counts entries alone
-- (leaves) passes too. Assumes nothing.
use mathlib.Core.Path.{◌≡◌, refl, sym, ap, ◌∙◌, subst}
use mathlib.Core.Bool.{Bool, true}
use mathlib.Core.List.Memᴰ
use mathlib.Core.List.{List, [], ◌∷◌, map}
use Rattle.std.specs.Prelude.{Option, None, Some}
use Rattle.lists.proofs.Options.{None_ne_Some, Some_injective}
use mathlib.Core.Logic.{inl, inr}
use Prim.Native.Nat.{ℕ, zero, suc, ◌≤◌, ◌<◌}
use native.Mathlib.Omega.{arith}
use lib.ListN.{length, length-map}
use lib.Dec.{eqb}
use borrow.Author.Tests.{eqb-true}
use Rattle.lists.specs.Tests.{◌and◌, non, Yes, No}
use Rattle.lists.proofs.Tests.{against, →no, non_yes, yes_non, and_i, and_r}
use Rattle.lists.specs.Lists.{any, Mem, Fresh}
use Rattle.lists.proofs.Lists.{all→, →all, any→, →any, find→, find_none→, find_cases, find_miss, pigeon}
use Rattle.state.specs.Model.{Model}
use Rattle.ids.specs.Order.{key}
use Rattle.state.specs.Locks.{dkey}
use Rattle.state.specs.declared.DefunctLock.{DefunctLock}
use Rattle.rules.specs.Rules.{find_d, has_d, meets_none, rule9}

pub data Ends (t : List DefunctLock) : ℕ → Type 0 where
  done : {k : ℕ} → find_d t k ≡ None → Ends t k
  step : {k : ℕ} {d : DefunctLock} → find_d t k ≡ Some d → Ends t (key d.target) → Ends t k

-- from id k the walk has left the table after at most n entries
unfoldable pub leaves : ℕ → List DefunctLock → ℕ → Bool
leaves zero t k = non (has_d t k)
leaves (suc n) t k = elim (find_d t k) [ None ↦ true | Some d ↦ leaves n t (key d.target) ]

-- ---- the test implies it
has_d_none : (t : List DefunctLock) (k : ℕ) → No ((has_d t k)) → find_d t k ≡ None
has_d_none t k h = find_miss (λ d. eqb (dkey d) k) t (λ d m e. against h (→any (λ d. eqb (dkey d) k) m e))

pub meets→ends : (n : ℕ) (t : List DefunctLock) (seen : List ℕ) (k : ℕ) → Yes (meets_none n t seen k) → Ends t k
unfolding meets_none
meets→ends zero t seen k h = done (has_d_none t k (non_yes _ h))
meets→ends (suc n) t seen k h = go (find_d t k) refl h (λ j u. meets→ends n t (k ∷ seen) j u)
  where
    go : (o : Option DefunctLock) → find_d t k ≡ o → Yes (elim o [ None ↦ true | Some d ↦ non (any (eqb k) seen) and meets_none n t (k ∷ seen) (key d.target) ]) → ((j : ℕ) → Yes (meets_none n t (k ∷ seen) j) → Ends t j) → Ends t k
    go None e u r = done e
    go (Some d) e u r = step e (r (key d.target) (and_r (non (any (eqb k) seen)) (meets_none n t (k ∷ seen) (key d.target)) u))

-- ---- and back to the test: the entries met are no more than the table has
unfoldable pub chain : {t : List DefunctLock} {k : ℕ} → Ends t k → List ℕ
chain (done e) = []
chain (step {k = k} e r) = k ∷ chain r

unfoldable pub count : {t : List DefunctLock} {k : ℕ} → Ends t k → ℕ
count r = length (chain r)

same_count : {t : List DefunctLock} {j k : ℕ} (r : Ends t j) (s : Ends t k) → j ≡ k → count r ≡ count s
unfolding count chain
same_count (done e) (done f) q = refl
same_count {t} (done e) (step {d = d} f s) q = absurd (None_ne_Some d (sym e ∙ ap (find_d t) q ∙ f))
same_count {t} (step {d = d} e r) (done f) q = absurd (None_ne_Some d (sym f ∙ ap (find_d t) (sym q) ∙ e))
same_count {t} (step {d = d} e r) (step {d = d'} f s) q = ap suc (same_count r s (ap (λ (x : DefunctLock). key x.target) (Some_injective d d' (sym e ∙ ap (find_d t) q ∙ f))))

-- a step leaves one entry less
pub shorter : {t : List DefunctLock} {k : ℕ} {d : DefunctLock} (j : ℕ) → find_d t k ≡ Some d → key d.target ≡ j → (r : Ends t k) → (s : Ends t j) × (count s < count r)
unfolding count chain
shorter {d = d} j e q (done f) = absurd (None_ne_Some d (sym f ∙ e))
shorter {t} {d = d} j e q (step {d = c} f r) =
    let p : key c.target ≡ j = ap (λ (x : DefunctLock). key x.target) (Some_injective c d (sym f ∙ e)) ∙ q in
    let s = subst (Ends t) p r in
    (s, omega (arith, same_count s r (sym p)))

-- so no walk that ends comes back
pub no_return : {t : List DefunctLock} {k : ℕ} (r s : Ends t k) → count s < count r → ⊥
no_return r s h = omega (arith, same_count r s refl)

-- from each id met the walk goes on, no longer than from the first
met : {t : List DefunctLock} {k : ℕ} (r : Ends t k) {j : ℕ} → Mem j (chain r) → (s : Ends t j) × (count s ≤ count r) × Mem j (map dkey t)
unfolding count chain
met {t = t} (done {k = k} _) {j = j} x3 = elim x3 [ ]
met {t} (step {k = k} {d = d} e r) {j} (Memᴰ.head q) =
    let w = find→ (λ x. eqb (dkey x) k) t e in
    (step (ap (find_d t) q ∙ e) r, omega arith, Memᴰ.cast (q ∙ sym (eqb-true (dkey d) k w.1)) (Memᴰ.map dkey w.0))
met {t} (step {k = k} {d = d} e r) {j} (Memᴰ.tail m) = let w = met r m in (w.0, omega (arith, w.1), w.2)

pub chain_fresh : {t : List DefunctLock} {k : ℕ} (r : Ends t k) → Fresh (chain r)
unfolding count chain
chain_fresh (done e) = tt
chain_fresh (step e r) = (λ m. let w = met r m in omega (arith, w.1, same_count w.0 (step e r) refl), chain_fresh r)

not_had : (t : List DefunctLock) (k : ℕ) → find_d t k ≡ None → No (has_d t k)
not_had t k e = →no (has_d t k) (λ u. let w = any→ (λ d. eqb (dkey d) k) t u in find_none→ (λ d. eqb (dkey d) k) t e w.1 w.2)

ends→leaves : (n : ℕ) {t : List DefunctLock} {k : ℕ} (r : Ends t k) → count r ≤ n → Yes (leaves n t k)
unfolding count chain leaves
ends→leaves zero {t} {k} (done e) h = yes_non _ (not_had t k e)
ends→leaves zero (step e r) h = absurd (omega arith)
ends→leaves (suc n) (done e) h = rw (e, leaves)
ends→leaves (suc n) (step e r) h = rw (e, leaves) (ends→leaves n r (omega arith))

-- the ids seen are none of those to come
ends→meets : (n : ℕ) {t : List DefunctLock} {k : ℕ} (seen : List ℕ) (r : Ends t k) → count r ≤ n → ((j : ℕ) → Mem j (chain r) → Mem j seen → ⊥) → Yes (meets_none n t seen k)
unfolding count chain meets_none
ends→meets zero {t} {k} seen (done e) h f = yes_non _ (not_had t k e)
ends→meets zero seen (step e r) h f = absurd (omega arith)
ends→meets (suc n) seen (done e) h f = rw (e, meets_none)
ends→meets (suc n) {t} {k} seen (step {d = d} e r) h f = rw (e, meets_none)
    (and_i (non (any (eqb k) seen)) (meets_none n t (k ∷ seen) (key d.target))
    (yes_non _ (→no (any (eqb k) seen) (λ u. let w = any→ (eqb k) seen u in f k (Memᴰ.head refl) (Memᴰ.cast (eqb-true k w.0 w.2) w.1))))
    (ends→meets n (k ∷ seen) r (omega arith) later))
  where
    later : (j : ℕ) → Mem j (chain r) → Mem j (k ∷ seen) → ⊥
    later j m (Memᴰ.head q) = (chain_fresh (step e r)).0 (Memᴰ.cast (sym q) m)
    later j m (Memᴰ.tail i) = f j (Memᴰ.tail m) i

bound : (t : List DefunctLock) {k : ℕ} (r : Ends t k) → count r ≤ length t
unfolding count
bound t r = rw (← (length-map t dkey)) (pigeon (chain r) (map dkey t) (chain_fresh r) (λ j m. (met r m).2))

pub leaves_all : (t : List DefunctLock) {k : ℕ} → Ends t k → Yes (leaves (length t) t k)
leaves_all t {k} r = ends→leaves (length t) r (bound t r)

pub meets_all : (t : List DefunctLock) {k : ℕ} → Ends t k → Yes (meets_none (length t) t [] k)
meets_all t {k} r = ends→meets (length t) [] r (bound t r) (λ j m i. Memᴰ.not-nil i)

-- ---- the rule
pub ends_of_rule9 : (m : Model) → rule9 m ≡ true → (d : DefunctLock) → Mem d m.defunct → Ends m.defunct (dkey d)
unfolding rule9
ends_of_rule9 m u d i =
    meets→ends (length m.defunct) m.defunct [] (dkey d) (all→ (λ d. meets_none (length m.defunct) m.defunct [] (dkey d)) u i)

-- and from any id at all
pub ends_anywhere : (m : Model) → rule9 m ≡ true → (k : ℕ) → Ends m.defunct k
ends_anywhere m u k = elim (find_cases (λ d. eqb (dkey d) k) m.defunct) [
  | inl w ↦
      let v = find→ (λ d. eqb (dkey d) k) m.defunct w.1 in
      subst (Ends m.defunct) (eqb-true (dkey w.0) k v.1) (ends_of_rule9 m u w.0 v.0)
  | inr e ↦ done e
]

pub rule9_of_ends : (m : Model) → ((d : DefunctLock) → Mem d m.defunct → Ends m.defunct (dkey d)) → rule9 m ≡ true
unfolding rule9
rule9_of_ends m f = →all (λ d. meets_none (length m.defunct) m.defunct [] (dkey d)) m.defunct (λ d i. meets_all m.defunct (f d i))
