-- Rules 1 and 9 by places. Rule 9 by the places of the entries: the walk by ids is the walk from place to place.
-- Assumes nothing.
use mathlib.Core.Path.{◌≡◌, refl, sym, ap, ◌∙◌, subst}
use mathlib.Core.Bool.{Bool, true, false}
use mathlib.Core.List.{List, [], ◌∷◌}
use Rattle.std.specs.Prelude.{Option, None, Some, is_none, position}
use Rattle.std.specs.List.{list_all, position_or_len}
use Rattle.std.specs.Option.{unwrap_or}
use Rattle.std.proofs.lemmas.List.Sums.{fails_before_first, passes_at_first}
use Rattle.std.proofs.lemmas.List.Quantifiers.{position-Some}
use mathlib.Core.Logic.{inl, inr}
use Prim.Native.Nat.{ℕ, ◌<◌, ◌≤◌}
use native.Mathlib.Omega.{arith}
use lib.ListN.{length, get_or}
use lib.Dec.{eqb, ltb}
use borrow.Author.Tests.{eqb-true, ltb-true, ltb-false, eq-eqb}
use Rattle.lists.specs.Tests.{non}
use Rattle.lists.specs.Lists.{any, Mem, ascending}
use Rattle.lists.proofs.Tests.{→no, against}
use Rattle.lists.proofs.Lists.{any→, →any, find_miss, find_key}
use Rattle.lists.proofs.Std.{all_as}
use Rattle.lists.proofs.Places.{mem_at, at_mem}
use Rattle.ids.specs.Order.{key}
use Rattle.state.specs.declared.DefunctLock.{DefunctLock}
use Rattle.state.specs.Locks.{akey, dkey, blank_defunct}
use Rattle.state.specs.Model.{Model}
use Rattle.rules.specs.Rules.{find_d, has_d, rule1, rule9}
use Rattle.rules.specs.Code.{keyed, entry_key, Sought, Step, Out, past, via, Path, single, longer, LeadsOut}
use Rattle.rules.proofs.Ends.{Ends, done, step, count, shorter, no_return, ends_of_rule9, rule9_of_ends}

-- ---- the place that a search gives
none_at : {A : Type 0} (p : A → Bool) (l : List A) (d : A) → None ≡ position p l → (i : ℕ) → i < length l → p (get_or l i d) ≡ false
none_at p l d e i h = go (ltb (position_or_len p l) (length l)) refl
  where
    go : (b : Bool) → ltb (position_or_len p l) (length l) ≡ b → p (get_or l i d) ≡ false
    go true f = let q : None ≡ Some (position_or_len p l) = rw f at e in cc
    go false f = fails_before_first p l i d (omega (arith, ltb-false _ _ f))

pub sought_of : (l : List DefunctLock) (k : ℕ) (o : Option ℕ) (r : ℕ) → o ≡ position (keyed dkey k) l → r ≡ unwrap_or o (length l) → Sought (entry_key l) (length l) k r
sought_of l k None r e f = inr (f, λ i h q. against (none_at (keyed dkey k) l blank_defunct e i h) (eq-eqb _ _ q))
sought_of l k (Some p) r e f =
    let w = position-Some (keyed dkey k) l p blank_defunct (sym e) in
    subst (Sought (entry_key l) (length l) k) (sym f) (inl (w.0, eqb-true _ _ w.1))

pub sought_le : (at : ℕ → ℕ) (n k r : ℕ) → Sought at n k r → r ≤ n
sought_le at n k r (inl w) = omega (arith, w.0)
sought_le at n k r (inr w) = omega (arith, w.0)

-- ---- rule 1
none_law : {A : Type 0} (p : A → Bool) (l : List A) → is_none (position p l) ≡ non (any p l)
unfolding non
none_law p [] = refl
none_law p (x ∷ xs) = go (ltb (position_or_len p (x ∷ xs)) (length (x ∷ xs))) refl
  where
    go : (b : Bool) → ltb (position_or_len p (x ∷ xs)) (length (x ∷ xs)) ≡ b → is_none (position p (x ∷ xs)) ≡ non (any p (x ∷ xs))
    go true f =
        let h = ltb-true _ _ f in
        rw (f, →any p (mem_at (x ∷ xs) (position_or_len p (x ∷ xs)) x h) (passes_at_first p (x ∷ xs) x h)) refl
    go false f = rw (
      f,
      →no (any p (x ∷ xs)) (λ t.
          let w = any→ p (x ∷ xs) t in
          let u = at_mem x w.1 in
          against (fails_before_first p (x ∷ xs) u.0 x (omega (arith, ltb-false _ _ f, u.1))) (ap p u.2 ∙ w.2)),
    ) refl

pub one_law : (m : Model) → rule1 m ≡ list_all (λ a. is_none (position (keyed dkey (akey a)) m.defunct)) m.active
unfolding rule1
one_law m = sym (all_as (λ a. non (has_d m.defunct (akey a))) (λ a. is_none (position (keyed dkey (akey a)) m.defunct)) (λ a. none_law (keyed dkey (akey a)) m.defunct) m.active)

-- ---- rule 9
module _ (m : Model) (next : List ℕ) (s : ascending dkey m.defunct ≡ true)
    (g : (i : ℕ) → i < length m.defunct → Sought (entry_key m.defunct) (length m.defunct) (key (get_or m.defunct i blank_defunct).target) (get_or next i 0)) where
  abbrev n : ℕ
  n = length m.defunct

  abbrev entry_at : ℕ → DefunctLock
  entry_at p = get_or m.defunct p blank_defunct

  mine : (p : ℕ) → p < n → Mem (entry_at p) m.defunct
  mine p h = mem_at m.defunct p blank_defunct h

  found : (p : ℕ) → p < n → find_d m.defunct (dkey (entry_at p)) ≡ Some (entry_at p)
  found p h = find_key dkey m.defunct s (dkey (entry_at p)) (mine p h) refl

  to_none : (p : ℕ) → ((i : ℕ) → i < n → entry_key m.defunct i ≡ key (entry_at p).target → ⊥) → find_d m.defunct (key (entry_at p).target) ≡ None
  to_none p f = find_miss (λ d. eqb (dkey d) (key (entry_at p).target)) m.defunct (λ d i e.
      let w = at_mem blank_defunct i in
      f w.0 w.1 (ap dkey w.2 ∙ eqb-true (dkey d) (key (entry_at p).target) e))

  sought : {p q : ℕ} → Step next n p q → Sought (entry_key m.defunct) n (key (entry_at p).target) q
  sought {p} e = subst (λ (x : ℕ). Sought (entry_key m.defunct) n (key (entry_at p).target) x) e.1 (g p e.0)

  -- a walk that leads out of the places ends
  via_ends : {p q : ℕ} → p < n → Sought (entry_key m.defunct) n (key (entry_at p).target) q → (q < n → Ends m.defunct (dkey (entry_at q))) → Ends m.defunct (dkey (entry_at p))
  via_ends {p} h (inl w) r = step (found p h) (subst (Ends m.defunct) w.1 (r w.0))
  via_ends {p} h (inr w) r = step (found p h) (done (to_none p w.1))

  out_ends : {p : ℕ} → Out next n p → p < n → Ends m.defunct (dkey (entry_at p))
  out_ends (past h) l = absurd (omega arith)
  out_ends (via e o) l = via_ends l (sought e) (λ k. out_ends o k)

  -- and one that ends has less to go at each place that it comes to
  next_ends : {p q : ℕ} → p < n → Sought (entry_key m.defunct) n (key (entry_at p).target) q → q < n → (r : Ends m.defunct (dkey (entry_at p))) → (t : Ends m.defunct (dkey (entry_at q))) × (count t < count r)
  next_ends {p} {q} h (inl w) l r = shorter (dkey (entry_at q)) (found p h) (sym w.1) r
  next_ends h (inr w) l r = absurd (omega (arith, w.0))

  path_ends : {p q : ℕ} → Path next n p q → q < n → (r : Ends m.defunct (dkey (entry_at p))) → (t : Ends m.defunct (dkey (entry_at q))) × (count t < count r)
  path_ends (single e) l r = next_ends e.0 (sought e) l r
  path_ends (longer w e) l r =
      let a = path_ends w e.0 r in
      let b = next_ends e.0 (sought e) l a.0 in
      (b.0, omega (arith, a.1, b.1))

  pub ring_law : (r : Bool) → LeadsOut next n r → r ≡ rule9 m
  ring_law r (inl w) = w.0 ∙ sym (rule9_of_ends m (λ d i.
      let u = at_mem blank_defunct i in
      subst (λ (x : DefunctLock). Ends m.defunct (dkey x)) u.2 (out_ends (w.1 u.0 u.1) u.1)))
  ring_law r (inr w) = w.0 ∙ sym (→no (rule9 m) (λ u.
      let e = ends_of_rule9 m u (entry_at w.1.0) (mine w.1.0 w.1.1) in
      let f = path_ends w.1.2 w.1.1 e in
      no_return e f.0 f.1))
