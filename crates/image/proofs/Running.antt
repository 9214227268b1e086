-- A run of records: the turns of the loop that reads one, each law once for every kind.
-- Assumes nothing.
use mathlib.Core.Path.{◌≡◌, refl, sym, ap, ap₂, ◌∙◌}
use mathlib.Core.Bool.{Bool, true, false, not, cond, ◌&&◌}
use mathlib.Core.List.{List, [], ◌∷◌, ◌++◌, append_assoc, append-nil}
use Prim.Native.Nat.{ℕ, zero, suc, ◌+◌, ◌-◌, ◌≤◌, ◌<◌}
use native.Mathlib.Nat.{sub-zero}
use native.Mathlib.Numerals.{add-one}
use native.Mathlib.Omega.{arith}
use lib.ListN.{length, set, take}
use lib.Dec.{ltb}
use borrow.Author.Tests.{lt-ltb, le-ltb, ltb-true, ltb-false}
use Rattle.lists.proofs.Tests.{by, cond_true, cond_false}
use Rattle.ids.specs.declared.LockId.{LockId}
use Rattle.ids.specs.Order.{key, before_id}
use Rattle.std.specs.Prelude.{Ok, Err}
use Rattle.std.proofs.Math.Seq.{take_all, take-suc-set}
use Rattle.std.proofs.lemmas.List.{length-set}
use Rattle.image.specs.declared.ImageRefusal.{ImageRefusal}
use Rattle.image.specs.declared.ImageRefusal.TheVariants.{BadOrder}
use Rattle.image.specs.Image.{Got, and_then, record_at, Listed, ahead, low_after, run_at}
use Rattle.image.specs.Code.{out_of_order, low_of, from_low, next_of}

-- ---- the order of ids
not_before : (k m : ℕ) → not (ltb k m) ≡ ltb m (suc k)
not_before k m = by (ltb k m) (not (ltb k m) ≡ ltb m (suc k))
    (λ t. rw t (sym (le-ltb m (suc k) (omega (arith, ltb-true k m t)))))
    (λ t. rw t (sym (lt-ltb m (suc k) (omega (arith, ltb-false k m t)))))

-- the code's two tests
pub strict_told : (a b : LockId) (l : Bool) → l ≡ before_id a b → not l ≡ out_of_order true a b
unfolding before_id out_of_order
strict_told a b l e = ap not e ∙ not_before (key a) (key b)

pub loose_told : (a b : LockId) (l : Bool) → l ≡ before_id b a → l ≡ out_of_order false a b
unfolding before_id out_of_order
loose_told a b l e = e

pub order_told : (strict : Bool) (i : ℕ) (a b : LockId) (l t : Bool) → l ≡ out_of_order strict a b → (ltb 0 i && l) ≡ t → ltb (key b) (low_of strict i (key a)) ≡ t
unfolding out_of_order
order_told strict zero a b l t e h = le-ltb (key b) 0 (omega arith) ∙ h
order_told strict (suc i) a b l t e h = sym e ∙ (rw (lt-ltb 0 (suc i) (omega arith)) at h)

-- ---- one record: o is what stands at `at`, its id not yet compared
module _ {R : Type 0} (e : Listed R) (strict : Bool) (s : List ℕ) (at i : ℕ) (last : LockId) (o : Got R) (q : o ≡ record_at e.codec e.place s at) where
  abbrev compared : Got R → Got R
  compared g = and_then g (λ r next. cond (ltb (e.id r) (low_of strict i (key last))) (Err (BadOrder at)) (Ok (r, next)))

  is_next : (g : Got R) → o ≡ g → compared g ≡ next_of e strict s at i last
  unfolding from_low
  is_next g h = ap compared (sym h ∙ q)

  pub passes_why : (x : ImageRefusal) → o ≡ Err x → Err x ≡ next_of e strict s at i last
  unfolding and_then
  passes_why x h = is_next (Err x) h

  -- a record is there; l is the code's test of its id
  module _ (r : R) (next : ℕ) (h : o ≡ Ok (r, next)) (id : LockId) (z : e.id r ≡ key id) (l : Bool) (p : l ≡ out_of_order strict last id) where
    before_low : (t : Bool) → (ltb 0 i && l) ≡ t → ltb (e.id r) (low_of strict i (key last)) ≡ t
    before_low t w = ap (λ (k : ℕ). ltb k (low_of strict i (key last))) z ∙ order_told strict i last id l t p w

    pub comes_late : (ltb 0 i && l) ≡ true → Err (BadOrder at) ≡ next_of e strict s at i last
    unfolding and_then
    comes_late w = sym (cond_true _ _ _ (before_low true w)) ∙ is_next (Ok (r, next)) h

    pub passes : (ltb 0 i && l) ≡ false → Ok (r, next) ≡ next_of e strict s at i last
    unfolding and_then
    passes w = sym (cond_false _ _ _ (before_low false w)) ∙ is_next (Ok (r, next)) h

-- ---- the loop
one_more : {A : Type 0} (l : List A) (i : ℕ) (x : A) → i < length l → take (i + 1) (set l i x) ≡ take i l ++ (x ∷ [])
one_more l i x h = ap (λ (n : ℕ). take n (set l i x)) (add-one i) ∙ take-suc-set l i x h

module _ {R : Type 0} (e : Listed R) (strict : Bool) where
  abbrev pub all_ahead : List R → Got (List R) → Got (List R)
  all_ahead ls (Err x) = Err x
  all_ahead ls (Ok (l, n)) = Ok (ls ++ l, n)

  ahead_ahead : (ls : List R) (r : R) (g : Got (List R)) → all_ahead ls (ahead e r g) ≡ all_ahead (ls ++ (r ∷ [])) g
  ahead_ahead ls r (Err x) = refl
  ahead_ahead ls r (Ok (l, n)) = ap (λ (x : List R). Ok (x, n)) (sym (append_assoc ls (r ∷ []) l))

  none_ahead : (g : Got (List R)) → g ≡ all_ahead [] g
  none_ahead (Err x) = refl
  none_ahead (Ok (l, n)) = refl

  -- the run by its first record
  by_first : (s : List ℕ) (n low at : ℕ) → run_at e strict s (suc n) low at ≡ and_then (from_low e s at low) (λ r next. ahead e r (run_at e strict s n (low_after strict (e.id r)) next))
  unfolding run_at from_low and_then
  by_first s n low at = go (record_at e.codec e.place s at)
    where
      rest : R → ℕ → Got (List R)
      rest r next = ahead e r (run_at e strict s n (low_after strict (e.id r)) next)

      ordered : R → ℕ → Got R
      ordered r next = cond (ltb (e.id r) low) (Err (BadOrder at)) (Ok (r, next))

      pick : (b : Bool) (r : R) (next : ℕ) → cond b (Err (BadOrder at)) (rest r next) ≡ and_then (cond b (Err (BadOrder at)) (Ok (r, next))) rest
      pick true r next = refl
      pick false r next = refl

      go : (o : Got R) → and_then o (λ r next. cond (ltb (e.id r) low) (Err (BadOrder at)) (rest r next)) ≡ and_then (and_then o ordered) rest
      go (Err x) = refl
      go (Ok (r, next)) = pick (ltb (e.id r) low) r next

  module _ (s : List ℕ) (n from : ℕ) where
    -- i records are read and stand in the first of n places; k is the last id
    pub record Going (locks : List R) (k at i : ℕ) : Type 0 where
      pub most : i ≤ n
      pub size : length locks ≡ n
      pub reading : run_at e strict s n 0 from ≡ all_ahead (take i locks) (run_at e strict s (n - i) (low_of strict i k) at)

    pub starts : (locks : List R) (k : ℕ) → length locks ≡ n → Going locks k from 0
    starts locks k h =
        record {
          most = omega arith;
          size = h;
          reading = ap (λ (m : ℕ). run_at e strict s m 0 from) (sym (sub-zero n)) ∙ none_ahead _;
        }

    module _ (locks : List R) (k at i : ℕ) (g : Going locks k at i) where
      pub ends : n ≤ i → run_at e strict s n 0 from ≡ Ok (locks, at)
      unfolding run_at
      ends h =
          g.reading ∙ ap (λ (m : ℕ). all_ahead (take i locks) (run_at e strict s m (low_of strict i k) at)) (let z : n - i ≡ 0 = omega arith in z)
          ∙ ap (λ (x : List R). Ok (x, at)) (append-nil (take i locks) ∙ take_all i locks (omega (arith, g.size)))

      module _ (h : i < n) where
        abbrev others : R → ℕ → Got (List R)
        others r next = ahead e r (run_at e strict s (n - (i + 1)) (low_after strict (e.id r)) next)

        next_is : (o : Got R) → from_low e s at (low_of strict i k) ≡ o → run_at e strict s n 0 from ≡ all_ahead (take i locks) (and_then o others)
        next_is o q =
            g.reading ∙ ap (λ (m : ℕ). all_ahead (take i locks) (run_at e strict s m (low_of strict i k) at)) (let z : n - i ≡ suc (n - (i + 1)) = omega arith in z)
            ∙ ap (all_ahead (take i locks)) (by_first s (n - (i + 1)) (low_of strict i k) at ∙ ap (λ (o : Got R). and_then o others) q)

        pub stops : (x : ImageRefusal) → from_low e s at (low_of strict i k) ≡ Err x → run_at e strict s n 0 from ≡ Err x
        unfolding and_then
        stops x q = next_is (Err x) q

        pub turns : (r : R) (next : ℕ) → from_low e s at (low_of strict i k) ≡ Ok (r, next) → Going (set locks i r) (e.id r) next (i + 1)
        unfolding and_then
        turns r next q =
            record {
              most = omega arith;
              size = length-set locks i r ∙ g.size;
              reading =
                  next_is (Ok (r, next)) q ∙ ahead_ahead (take i locks) r (run_at e strict s (n - (i + 1)) (low_after strict (e.id r)) next)
                  ∙ ap₂ (λ (x : List R) (l : ℕ). all_ahead x (run_at e strict s (n - (i + 1)) l next)) (sym (one_more locks i r (omega (arith, g.size)))) (sym (ap (λ (j : ℕ). low_of strict j (e.id r)) (add-one i)));
            }
