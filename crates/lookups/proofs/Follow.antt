-- The holder's walk, told by the entries that it passes: there is one way to follow, and where walks end (rule 9) the walk
-- finds it, and its count is the number of the entries. Assumes nothing.
use mathlib.Core.Path.{◌≡◌, refl, sym, ap, ap₂, ◌∙◌}
use mathlib.Core.Bool.{true}
use mathlib.Core.List.{List, [], ◌∷◌}
use Rattle.std.specs.Prelude.{Option, None, Some}
use Rattle.lists.proofs.Options.{None_ne_Some, Some_injective}
use Prim.Native.Nat.{ℕ, zero, suc, ◌+◌, ◌≤◌}
use native.Mathlib.Omega.{arith}
use lib.ListN.{length}
use Rattle.ids.specs.Order.{key}
use Rattle.state.specs.declared.ActiveLock.{ActiveLock}
use Rattle.state.specs.declared.DefunctLock.{DefunctLock}
use Rattle.state.specs.Model.{Model}
use Rattle.rules.specs.Rules.{find_a, find_d, rule9}
use Rattle.rules.proofs.Ends.{Ends, done, step, ends_anywhere}
use Rattle.lookups.specs.declared.Holder.{Holder}
use Rattle.lookups.specs.Reads.{Follows, holds, leads, passes, walk, holder_of}
use Rattle.lookups.proofs.Walk.{walk_held, walk_out, walk_on, ahead, ahead_le, ahead_on}

-- ---- one way: from one id, by one holder
pub one_way : {m : Model} {j k g h : ℕ} {ds es : List DefunctLock} {s u : ℕ} → Follows m j g ds s → Follows m k h es u → j ≡ k → g ≡ h → (ds ≡ es) × (s ≡ u)
one_way {m} (holds {a = a} e x) (holds {a = b} f y) q p = (refl, x ∙ ap (λ (c : ActiveLock). c.lock.subject) (Some_injective a b (sym e ∙ ap (find_a m.active) q ∙ f)) ∙ sym y)
one_way {m} (holds {a = a} e x) (leads f o y) q p = absurd (None_ne_Some a (sym f ∙ ap (find_a m.active) (sym q) ∙ e))
one_way {m} (holds {a = a} e x) (passes f o y) q p = absurd (None_ne_Some a (sym f ∙ ap (find_a m.active) (sym q) ∙ e))
one_way {m} (leads e o x) (holds {a = b} f y) q p = absurd (None_ne_Some b (sym e ∙ ap (find_a m.active) q ∙ f))
one_way (leads e o x) (leads f i y) q p = (refl, x ∙ p ∙ sym y)
one_way {m} (leads e o x) (passes {d = d} f i y) q p = absurd (None_ne_Some d (sym o ∙ ap (find_d m.defunct) q ∙ i))
one_way {m} (passes e o x) (holds {a = b} f y) q p = absurd (None_ne_Some b (sym e ∙ ap (find_a m.active) q ∙ f))
one_way {m} (passes {d = d} e o x) (leads f i y) q p = absurd (None_ne_Some d (sym i ∙ ap (find_d m.defunct) (sym q) ∙ o))
one_way {m} (passes {d = c} e o x) (passes {d = d} f i y) q p =
    let t = Some_injective c d (sym o ∙ ap (find_d m.defunct) q ∙ i) in
    let w = one_way x y (ap (λ (z : DefunctLock). key z.target) t) (ap (λ (z : DefunctLock). z.holder) t) in
    (ap₂ {C = List DefunctLock} ◌∷◌ t w.0, w.1)

-- ---- the walk finds it
pub record Way (m : Model) (k h c : ℕ) (r : Holder) : Type 0 where
  pub passed : List DefunctLock
  pub follows : Follows m k h passed r.subject
  pub count : r.links ≡ c + length passed

pub walk_follows : (m : Model) {k : ℕ} → Ends m.defunct k → (n : ℕ) → ahead m.defunct k ≤ n → (h c : ℕ) → Way m k h c (walk (suc n) m k h c)
walk_follows m {k} (done e) n l h c = go (find_a m.active k) refl
  where
    go : (o : Option ActiveLock) → find_a m.active k ≡ o → Way m k h c (walk (suc n) m k h c)
    go None f = rw (walk_out m n k h c f e) (record { passed = []; follows = leads f e refl; count = omega arith })
    go (Some a) f = rw (walk_held m n k h c a f) (record { passed = []; follows = holds f refl; count = omega arith })
walk_follows m {k} (step {d = d} e r) zero l h c = absurd (omega (arith, ahead_on m.defunct k (step e r) d e))
walk_follows m {k} (step {d = d} e r) (suc n) l h c =
    let q = ahead_on m.defunct k (step e r) d e in go (find_a m.active k) refl (walk_follows m r n (omega arith) d.holder (suc c))
  where
    go : (o : Option ActiveLock) → find_a m.active k ≡ o → Way m (key d.target) d.holder (suc c) (walk (suc n) m (key d.target) d.holder (suc c)) → Way m k h c (walk (suc (suc n)) m k h c)
    go None f w = rw (walk_on m (suc n) k h c d f e) (record { passed = d ∷ w.passed; follows = passes f e w.follows; count = omega (arith, w.count) })
    go (Some a) f w = rw (walk_held m (suc n) k h c a f) (record { passed = []; follows = holds f refl; count = omega arith })

pub holder_follows : (m : Model) → rule9 m ≡ true → (d : DefunctLock) → Way m (key d.target) d.holder 0 (holder_of m d)
unfolding holder_of
holder_follows m u d = walk_follows m (ends_anywhere m u (key d.target)) (length m.defunct) (ahead_le m.defunct (key d.target)) d.holder 0

-- and so its count and its subject are those of any way that is followed
pub holder_exact : (m : Model) → rule9 m ≡ true → (d : DefunctLock) (ds : List DefunctLock) (s : ℕ) → Follows m (key d.target) d.holder ds s
    → ((holder_of m d).links ≡ length ds) × ((holder_of m d).subject ≡ s)
holder_exact m u d ds s f =
    let w = holder_follows m u d in
    let o = one_way w.follows f refl refl in
    (omega (arith, w.count, ap length o.0), o.1)
