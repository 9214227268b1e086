-- Rule 9 without a bound: the test says just that no walk through the defunct entries meets an id twice.
-- Assumes nothing.
use mathlib.Core.Path.{◌≡◌, refl, sym, ap, ◌∙◌}
use mathlib.Core.Bool.{true}
use mathlib.Core.List.Memᴰ
use mathlib.Core.List.{List, [], ◌∷◌, map}
use Rattle.std.specs.Prelude.{Option, None, Some}
use Rattle.lists.proofs.Options.{None_ne_Some, Some_injective}
use mathlib.Core.Logic.{◌⊎◌, inl, inr}
use Prim.Native.Nat.{ℕ, zero, suc}
use native.Mathlib.Omega.{arith}
use lib.ListN.{length, length-map}
use lib.Dec.{eqb}
use borrow.Author.Tests.{eqb-true}
use Rattle.lists.specs.Lists.{Mem, Fresh}
use Rattle.lists.proofs.Lists.{find→, pigeon}
use Rattle.ids.specs.Order.{key}
use Rattle.state.specs.declared.DefunctLock.{DefunctLock}
use Rattle.state.specs.Locks.{dkey}
use Rattle.state.specs.Model.{Model}
use Rattle.rules.specs.Rules.{find_d, Meets, here, on, NoRing, rule9}
use Rattle.rules.proofs.Ends.{Ends, done, step, chain, chain_fresh, ends_of_rule9, rule9_of_ends}

-- ---- a walk that ends meets no id twice: what is met is part of its chain
meets_fresh : {t : List DefunctLock} {j k : ℕ} {ks : List ℕ} (r : Ends t j) → Meets t k ks → j ≡ k → Fresh ks × ((i : ℕ) → Mem i ks → Mem i (chain r))
unfolding chain
meets_fresh r here q = (tt, λ i m. absurd (Memᴰ.not-nil m))
meets_fresh {t} (done e) (on {d = d} f p) q = absurd (None_ne_Some d (sym e ∙ ap (find_d t) q ∙ f))
meets_fresh {t} {j} {k} (step {d = c} e r) (on {ks = ks} {d = d} f p) q =
    let w = meets_fresh {j = key c.target} r p (ap (λ (x : DefunctLock). key x.target) (Some_injective c d (sym e ∙ ap (find_d t) q ∙ f))) in
    ((λ m. (chain_fresh (step e r)).0 (Memᴰ.cast q (w.1 k m)), w.0), met w)
  where
    met : Fresh ks × ((i : ℕ) → Mem i ks → Mem i (chain r)) → (i : ℕ) → Mem i (k ∷ ks) → Mem i (j ∷ chain r)
    met w i (Memᴰ.head e) = Memᴰ.head (e ∙ sym q)
    met w i (Memᴰ.tail m) = Memᴰ.tail (w.1 i m)

pub ring_free : (m : Model) → rule9 m ≡ true → NoRing m
ring_free m u d i ks p = (meets_fresh (ends_of_rule9 m u d i) p refl).0

-- ---- and back: a walk ends, or it meets as many ids as one asks for
pub record Long (t : List DefunctLock) (k n : ℕ) : Type 0 where
  pub ids : List ℕ
  pub path : Meets t k ids
  pub many : length ids ≡ n
  pub known : (j : ℕ) → Mem j ids → Mem j (map dkey t)

goes : (t : List DefunctLock) (n k : ℕ) → Ends t k ⊎ Long t k n
goes t zero k = inr (record { ids = []; path = here; many = refl; known = λ j m. absurd (Memᴰ.not-nil m) })
goes t (suc n) k = go (find_d t k) refl (λ j. goes t n j)
  where
    longer : (d : DefunctLock) → find_d t k ≡ Some d → Ends t (key d.target) ⊎ Long t (key d.target) n → Ends t k ⊎ Long t k (suc n)
    longer d e (inl r) = inl (step e r)
    longer d e (inr w) =
        let f = find→ (λ x. eqb (dkey x) k) t e in
        inr (record { ids = k ∷ w.ids; path = on e w.path; many = ap suc w.many; known = met f w })
      where
        met : Mem d t × (eqb (dkey d) k ≡ true) → Long t (key d.target) n → (j : ℕ) → Mem j (k ∷ w.ids) → Mem j (map dkey t)
        met f l j (Memᴰ.head q) = Memᴰ.cast (q ∙ sym (eqb-true (dkey d) k f.1)) (Memᴰ.map dkey f.0)
        met f l j (Memᴰ.tail m) = w.known j m

    go : (o : Option DefunctLock) → find_d t k ≡ o → ((j : ℕ) → Ends t j ⊎ Long t j n) → Ends t k ⊎ Long t k (suc n)
    go None e f = inl (done e)
    go (Some d) e f = longer d e (f (key d.target))

pub free_ring : (m : Model) → NoRing m → rule9 m ≡ true
free_ring m f = rule9_of_ends m (λ d i. go d i (goes m.defunct (suc (length m.defunct)) (dkey d)))
  where
    go : (d : DefunctLock) → Mem d m.defunct → Ends m.defunct (dkey d) ⊎ Long m.defunct (dkey d) (suc (length m.defunct)) → Ends m.defunct (dkey d)
    go d i (inl r) = r
    go d i (inr w) = absurd (omega (arith, w.many, length-map m.defunct dkey, pigeon w.ids (map dkey m.defunct) (f d i w.ids w.path) w.known))
