-- Rules 2 to 8 by the code's tests of the active locks, and which of them is the lowest broken. Assumes nothing.
use mathlib.Core.Path.{◌≡◌, refl, sym, ap, ◌∙◌}
use mathlib.Core.Bool.{Bool, true, false, cond, not, ◌&&◌, ◌||◌, false≢true}
use mathlib.Core.List.{List, [], ◌∷◌}
use Rattle.std.specs.Prelude.{Option, None, Some}
use Rattle.std.specs.List.{list_all, list_any}
use Prim.Native.Nat.{ℕ, suc}
use native.Mathlib.Omega.{arith}
use lib.Dec.{eqb}
use lib.ListN.{length, get_or, take}
use borrow.Author.Tests.{eq-eqb, ne_eqb, eqb-true, not-true}
use Rattle.lists.specs.Tests.{◌and◌, ◌or◌, ◌imp◌, non}
use Rattle.lists.specs.Lists.{all, any, find, Mem, ascending}
use Rattle.lists.specs.Below.{all_below}
use Rattle.lists.proofs.Tests.{same_test, against, →no, by, yes_non, and_l, and_r, and_i, imp_e, imp_i, or_t, or_f, codes}
use Rattle.lists.proofs.Lists.{all→, →all, find→, find_none→, find_key}
use Rattle.lists.proofs.Std.{any_std, all_std, all_as}
use Rattle.lists.proofs.Below.{all_same, triangle}
use Rattle.lists.proofs.Places.{all_first, all_below_lem, ascending_at}
use Rattle.ids.specs.Order.{key, same_id}
use Rattle.coverage.specs.Coverage.{overlap, within}
use Rattle.coverage.proofs.Laws.{overlap_sym}
use Rattle.state.specs.declared.Lock.{Lock}
use Rattle.state.specs.declared.ActiveLock.{ActiveLock}
use Rattle.state.specs.Locks.{akey, is_vehicle, scope_code, same_scope, blank_active}
use Rattle.state.specs.Model.{Model}
use Rattle.state.proofs.Laws.{vehicle_code}
use Rattle.rules.specs.Rules.{parent_of, of_parent, is_some, clash, rule2, rule3, rule4, rule5, rule6, rule7, rule8}
use Rattle.rules.specs.Code.{alone_at, child_under, child_active, child_owned, child_inside, child_fits, lowest_past_4, lowest_parent, clear_at, lowest_from, active_rules}

-- ---- tests
imp_same : (c a b : Bool) → (c ≡ true → a ≡ b) → (c imp a) ≡ (c imp b)
unfolding ◌imp◌
imp_same true a b f = f refl
imp_same false a b f = refl

imp_true : (a : Bool) → (a imp true) ≡ true
unfolding ◌imp◌
imp_true true = refl
imp_true false = refl

imp_false : (a : Bool) → (a imp false) ≡ non a
unfolding ◌imp◌ non
imp_false true = refl
imp_false false = refl

-- what the code tests of a child
imp_test : (c a : Bool) → (not c || a) ≡ (c imp a)
unfolding ◌imp◌
imp_test true a = refl
imp_test false a = refl

eqb_sym : (n m : ℕ) → eqb n m ≡ eqb m n
eqb_sym n m = same_test (eqb n m) (eqb m n) (λ t. eq-eqb m n (sym (eqb-true n m t))) (λ t. eq-eqb n m (sym (eqb-true m n t)))

module _ {A : Type 0} where
  found_any : (p : A → Bool) (l : List A) → is_some (find p l) ≡ any p l
  found_any p [] = refl
  found_any p (x ∷ xs) = go (p x) (found_any p xs)
    where
      go : (b : Bool) → is_some (find p xs) ≡ any p xs → is_some (cond b (Some x) (find p xs)) ≡ (b or any p xs)
      go true r = sym (or_t true (any p xs) refl)
      go false r = r ∙ sym (or_f false (any p xs) refl)

  -- tests that agree on a list's members
  all_alike : (p q : A → Bool) (l : List A) → ((a : A) → Mem a l → p a ≡ q a) → all p l ≡ all q l
  all_alike p q l f = same_test (all p l) (all q l) (λ t. →all q l (λ a i. sym (f a i) ∙ all→ p t i)) (λ t. →all p l (λ a i. f a i ∙ all→ q t i))

-- what is asked of a child, all at once and in its parts
fit_parts : (c p s w k : Bool) → (not c || (((p && s) && w) && not k)) ≡ ((((not c || p) and (not c || s)) and (not c || w)) and (k imp non c))
unfolding ◌and◌ ◌or◌ ◌imp◌ non
fit_parts false p s w true = refl
fit_parts false p s w false = refl
fit_parts true p s w k = simp codes (imp_non (p and s and w) k)
  where
    imp_non : (b k : Bool) → (b and non k) ≡ (b and (k imp false))
    imp_non b true = refl
    imp_non b false = refl

and_both : (a b c d : Bool) → ((a and b) and (c and d)) ≡ ((a and c) and (b and d))
unfolding ◌and◌
and_both false b c d = refl
and_both true false false d = refl
and_both true false true d = refl
and_both true true c d = refl

all_and : {A : Type 0} (p q : A → Bool) (l : List A) → all (λ a. p a and q a) l ≡ (all p l and all q l)
unfolding ◌and◌
all_and p q [] = refl
all_and p q (x ∷ xs) = ap (λ (b : Bool). (p x and q x) and b) (all_and p q xs) ∙ and_both (p x) (q x) (all p xs) (all q xs)

-- ---- the lowest broken rule, one rule on
next_low : (j : ℕ) (b : Bool) (bs : List Bool) → b ≡ true → lowest_from j (b ∷ bs) ≡ lowest_from (suc j) bs
next_low j b bs e = rw e

stop_low : (j : ℕ) (b : Bool) (bs : List Bool) → b ≡ false → lowest_from j (b ∷ bs) ≡ j
stop_low j b bs e = rw e

abbrev from8 : Model → List Bool
from8 m = rule8 m ∷ []

abbrev from7 : Model → List Bool
from7 m = rule7 m ∷ from8 m

abbrev from6 : Model → List Bool
from6 m = rule6 m ∷ from7 m

abbrev from5 : Model → List Bool
from5 m = rule5 m ∷ from6 m

abbrev from4 : Model → List Bool
from4 m = rule4 m ∷ from5 m

abbrev from3 : Model → List Bool
from3 m = rule3 m ∷ from4 m

-- ---- two locks: a clash looks the same from both sides, and no lock clashes with itself
and_swap : (p q m t : Bool) → (p and q and m and t) ≡ (q and p and m and t)
unfolding ◌and◌
and_swap true true m t = refl
and_swap true false m t = refl
and_swap false true m t = refl
and_swap false false m t = refl

clash_sym : (x y : Lock) → clash x y ≡ clash y x
unfolding clash
clash_sym x y = rw (overlap_sym x.coverage y.coverage, eqb_sym x.subject y.subject)
    (and_swap (non (is_vehicle x.scope)) (non (is_vehicle y.scope)) (overlap y.coverage x.coverage) (non (eqb y.subject x.subject)))

clash_self : (x : Lock) → non (clash x x) ≡ true
unfolding clash non ◌and◌
clash_self x = rw (eq-eqb x.subject x.subject refl) (never (non (is_vehicle x.scope) and non (is_vehicle x.scope) and overlap x.coverage x.coverage))
  where
    never : (p : Bool) → non (p and false) ≡ true
    never true = refl
    never false = refl

module _ (m : Model) where
  abbrev at : ℕ → ActiveLock
  at i = get_or m.active i blank_active

  -- ---- rules of every two locks
  every_two : (r : ActiveLock → ActiveLock → Bool) → ((x y : ActiveLock) → r x y ≡ r y x) → ((x : ActiveLock) → r x x ≡ true)
      → all (λ x. all (r x) m.active) m.active ≡ all_below (length m.active) (λ i. all_below i (λ j. r (at i) (at j)))
  every_two r s d =
      all_below_lem (λ x. all (r x) m.active) m.active blank_active
      ∙ all_same (length m.active) (λ i. all (r (at i)) m.active) (λ i. all_below (length m.active) (λ j. r (at i) (at j))) (λ i h. all_below_lem (r (at i)) m.active blank_active)
      ∙ triangle (length m.active) (λ i j. r (at i) (at j)) (λ i h. d (at i)) (λ i j h g. s (at i) (at j))

  abbrev code : ℕ → ℕ
  code i = scope_code (at i).lock.scope

  pub two_law : ascending akey m.active ≡ true → rule2 m ≡ all_below (length m.active) (λ i. all_below i (λ j. non (eqb (code i) (code j))))
  unfolding rule2 same_scope
  two_law s =
      every_two (λ x y. same_scope x.lock.scope y.lock.scope imp eqb (akey x) (akey y))
      (λ x y. rw (eqb_sym (scope_code x.lock.scope) (scope_code y.lock.scope), eqb_sym (akey x) (akey y)))
      (λ x. rw (eq-eqb (akey x) (akey x) refl) (imp_true (same_scope x.lock.scope x.lock.scope)))
      ∙ all_same (length m.active) (λ i. all_below i (λ j. same_scope (at i).lock.scope (at j).lock.scope imp eqb (akey (at i)) (akey (at j)))) (λ i. all_below i (λ j. non (eqb (code i) (code j))))
      (λ i h. all_same i (λ j. same_scope (at i).lock.scope (at j).lock.scope imp eqb (akey (at i)) (akey (at j))) (λ j. non (eqb (code i) (code j)))
      (λ j g. rw (ne_eqb (akey (at i)) (akey (at j)) (λ e. omega (arith, ascending_at akey 0 m.active blank_active s j i g h, e))) (imp_false (eqb (code i) (code j)))))

  pub eight_law : rule8 m ≡ all_below (length m.active) (λ i. all (λ y. non (clash (at i).lock y.lock)) (take i m.active))
  unfolding rule8
  eight_law =
      every_two (λ x y. non (clash x.lock y.lock)) (λ x y. ap non (clash_sym x.lock y.lock)) (λ x. clash_self x.lock)
      ∙ all_same (length m.active) (λ i. all_below i (λ j. non (clash (at i).lock (at j).lock))) (λ i. all (λ y. non (clash (at i).lock y.lock)) (take i m.active))
      (λ i h. sym (all_first (λ (y : ActiveLock). non (clash (at i).lock y.lock)) m.active i blank_active (omega arith)))

  -- ---- rules 3 to 7 as the code tests them
  pub three_law : rule3 m ≡ list_all (child_active m.active) m.active
  unfolding rule3 same_id
  three_law = sym (all_as (λ a. a.child imp is_some (parent_of m a)) (child_active m.active) (λ a.
      imp_test a.child (list_any (λ p. same_id p.lock.id a.parent) m.active)
      ∙ ap (λ (b : Bool). a.child imp b) (any_std (λ (p : ActiveLock). eqb (akey p) (key a.parent)) m.active ∙ sym (found_any (λ (p : ActiveLock). eqb (akey p) (key a.parent)) m.active))) m.active)

  abbrev the_vehicle : Option ActiveLock
  the_vehicle = find (λ a. is_vehicle a.lock.scope) m.active

  module _ (s : ascending akey m.active ≡ true) where
    -- where every child's parent is the vehicle lock, a test of the parent is one of it
    module _ (v : ActiveLock) (e : the_vehicle ≡ Some v) (u : list_all (child_under (Some v)) m.active ≡ true) where
      the_parent : (a : ActiveLock) → Mem a m.active → a.child ≡ true → parent_of m a ≡ Some v
      unfolding same_id
      the_parent a i c =
          let t = all→ (child_under (Some v)) (sym (all_std (child_under (Some v)) m.active) ∙ u) i in
          let q = imp_e a.child (same_id a.parent v.lock.id) (sym (imp_test a.child (same_id a.parent v.lock.id)) ∙ t) c in
          find_key akey m.active s (key a.parent) (find→ (λ (x : ActiveLock). is_vehicle x.lock.scope) m.active e).0 (sym (eqb-true (key a.parent) (akey v) q))

      of_vehicle : (r : ActiveLock → ActiveLock → Bool) → all (λ a. a.child imp of_parent (λ x. r x a) (parent_of m a)) m.active ≡ all (λ a. a.child imp r v a) m.active
      of_vehicle r = all_alike _ _ m.active (λ a i. imp_same a.child _ _ (λ c. rw (the_parent a i c)))

      always : all (λ (a : ActiveLock). a.child imp true) m.active ≡ true
      always = →all (λ (a : ActiveLock). a.child imp true) m.active (λ a i. imp_true a.child)

      three_yes : rule3 m ≡ true
      unfolding rule3
      three_yes = all_alike (λ a. a.child imp is_some (parent_of m a)) (λ a. a.child imp true) m.active (λ a i. imp_same a.child _ _ (λ c. rw (the_parent a i c))) ∙ always

      four_yes : rule4 m ≡ true
      unfolding rule4
      four_yes = of_vehicle (λ x a. is_vehicle x.lock.scope) ∙ all_alike (λ a. a.child imp is_vehicle v.lock.scope) (λ a. a.child imp true) m.active (λ a i. ap (λ (b : Bool). a.child imp b) (find→ (λ (x : ActiveLock). is_vehicle x.lock.scope) m.active e).1) ∙ always

      pub five_law : rule5 m ≡ list_all (child_owned v) m.active
      unfolding rule5
      five_law = of_vehicle (λ x a. eqb x.lock.subject a.lock.subject) ∙ sym (all_as (λ a. a.child imp eqb v.lock.subject a.lock.subject) (child_owned v) (λ a. imp_test a.child (eqb v.lock.subject a.lock.subject)) m.active)

      pub six_law : rule6 m ≡ list_all (child_inside v) m.active
      unfolding rule6
      six_law = of_vehicle (λ x a. within a.lock.coverage x.lock.coverage) ∙ sym (all_as (λ a. a.child imp within a.lock.coverage v.lock.coverage) (child_inside v) (λ a. imp_test a.child (within a.lock.coverage v.lock.coverage)) m.active)

    -- where there is no vehicle lock, no lock is a child
    module _ (e : the_vehicle ≡ None) (u : list_all (child_under None) m.active ≡ true) where
      childless : (a : ActiveLock) → Mem a m.active → a.child ≡ false
      childless a i = not-true a.child (all→ (child_under None) (sym (all_std (child_under None) m.active) ∙ u) i)

      -- so a test of children finds none
      none_fails : (r : ActiveLock → Bool) → all (λ a. a.child imp r a) m.active ≡ true
      none_fails r = →all (λ a. a.child imp r a) m.active (λ a i. imp_i a.child (r a) (λ c. absurd (against (childless a i) c)))

    -- rules 2, 3 and 4 leave each child no other parent
    under_yes : (o : Option ActiveLock) → the_vehicle ≡ o → rule2 m ≡ true → rule3 m ≡ true → rule4 m ≡ true → list_all (child_under o) m.active ≡ true
    unfolding rule2 rule3 rule4 same_scope same_id
    under_yes o e r2 r3 r4 = all_std (child_under o) m.active ∙ →all (child_under o) m.active (λ a i. child a i o e a.child refl)
      where
        -- the parent is a vehicle lock, and so is the one found: rule 2 makes them one
        one : (a : ActiveLock) → Mem a m.active → a.child ≡ true → (v : ActiveLock) → the_vehicle ≡ Some v → same_id a.parent v.lock.id ≡ true
        one a i c v f = go (parent_of m a) refl (imp_e a.child (is_some (parent_of m a)) (all→ (λ a. a.child imp is_some (parent_of m a)) r3 i) c)
            (imp_e a.child (of_parent (λ x. is_vehicle x.lock.scope) (parent_of m a)) (all→ (λ a. a.child imp of_parent (λ x. is_vehicle x.lock.scope) (parent_of m a)) r4 i) c)
          where
            go : (q : Option ActiveLock) → parent_of m a ≡ q → is_some q ≡ true → of_parent (λ x. is_vehicle x.lock.scope) q ≡ true → same_id a.parent v.lock.id ≡ true
            go None g t t2 = absurd (false≢true t)
            go (Some x) g t t2 =
                let z = find→ (λ (x : ActiveLock). eqb (akey x) (key a.parent)) m.active g in
                let w = find→ (λ (x : ActiveLock). is_vehicle x.lock.scope) m.active f in
                let p = eqb-true (akey x) (akey v) (imp_e _ _ (all→ (λ b. same_scope x.lock.scope b.lock.scope imp eqb (akey x) (akey b)) (all→ (λ a. all (λ b. same_scope a.lock.scope b.lock.scope imp eqb (akey a) (akey b)) m.active) r2 z.0) w.0)
                (eq-eqb _ _ (eqb-true (scope_code x.lock.scope) 0 (vehicle_code x.lock.scope ∙ t2) ∙ sym (eqb-true (scope_code v.lock.scope) 0 (vehicle_code v.lock.scope ∙ w.1))))) in
                eq-eqb (key a.parent) (akey v) (sym (eqb-true (akey x) (key a.parent) z.1) ∙ p)

        nobody : (a : ActiveLock) → Mem a m.active → a.child ≡ true → the_vehicle ≡ None → ⊥
        nobody a i c f = go (parent_of m a) refl (imp_e a.child (is_some (parent_of m a)) (all→ (λ a. a.child imp is_some (parent_of m a)) r3 i) c)
            (imp_e a.child (of_parent (λ x. is_vehicle x.lock.scope) (parent_of m a)) (all→ (λ a. a.child imp of_parent (λ x. is_vehicle x.lock.scope) (parent_of m a)) r4 i) c)
          where
            go : (q : Option ActiveLock) → parent_of m a ≡ q → is_some q ≡ true → of_parent (λ x. is_vehicle x.lock.scope) q ≡ true → ⊥
            go None g t t2 = absurd (false≢true t)
            go (Some x) g t t2 = find_none→ (λ (x : ActiveLock). is_vehicle x.lock.scope) m.active f (find→ (λ (x : ActiveLock). eqb (akey x) (key a.parent)) m.active g).0 t2

        child : (a : ActiveLock) → Mem a m.active → (o : Option ActiveLock) → the_vehicle ≡ o → (b : Bool) → a.child ≡ b → child_under o a ≡ true
        child a i (Some v) f true c = imp_test a.child (same_id a.parent v.lock.id) ∙ imp_i a.child (same_id a.parent v.lock.id) (λ t. one a i c v f)
        child a i (Some v) f false c = rw c refl
        child a i None f true c = absurd (nobody a i c f)
        child a i None f false c = rw c refl

    -- ---- the four tests of a child, and all of them at once
    pub fit_law : (v : ActiveLock) → list_all (child_fits (Some v)) m.active ≡ (((all (child_under (Some v)) m.active and all (child_owned v) m.active) and all (child_inside v) m.active) and rule7 m)
    unfolding rule7
    fit_law v =
        all_as (λ a. ((child_under (Some v) a and child_owned v a) and child_inside v a) and (is_vehicle a.lock.scope imp non a.child)) (child_fits (Some v))
        (λ a. fit_parts a.child (same_id a.parent v.lock.id) (eqb v.lock.subject a.lock.subject) (within a.lock.coverage v.lock.coverage) (is_vehicle a.lock.scope)) m.active
        ∙ all_and (λ a. (child_under (Some v) a and child_owned v a) and child_inside v a) (λ a. is_vehicle a.lock.scope imp non a.child) m.active
        ∙ ap (λ (b : Bool). b and all (λ a. is_vehicle a.lock.scope imp non a.child) m.active)
        (all_and (λ a. child_under (Some v) a and child_owned v a) (child_inside v) m.active ∙ ap (λ (b : Bool). b and all (child_inside v) m.active) (all_and (child_under (Some v)) (child_owned v) m.active))

    -- ---- the lowest that is broken, by the rules
    pub broken_two : rule2 m ≡ false → 2 ≡ lowest_from 2 (active_rules m)
    broken_two r = sym (stop_low 2 (rule2 m) (from3 m) r)

    module _ (r2 : rule2 m ≡ true) where
      from_two : lowest_from 2 (active_rules m) ≡ lowest_from 3 (from3 m)
      from_two = next_low 2 (rule2 m) (from3 m) r2

      pub broken_three : rule3 m ≡ false → 3 ≡ lowest_from 2 (active_rules m)
      broken_three r = sym (from_two ∙ stop_low 3 (rule3 m) (from4 m) r)

      module _ (o : Option ActiveLock) (e : the_vehicle ≡ o) where
        pub broken_four : list_all (child_under o) m.active ≡ false → rule3 m ≡ true → 4 ≡ lowest_from 2 (active_rules m)
        broken_four u r3 = sym (from_two ∙ next_low 3 (rule3 m) (from4 m) r3 ∙ stop_low 4 (rule4 m) (from5 m) (→no (rule4 m) (λ r. against u (under_yes o e r2 r3 r))))

        module _ (u : list_all (child_under o) m.active ≡ true) where
          three_four : (rule3 m ≡ true) × (rule4 m ≡ true)
          unfolding rule3 rule4
          three_four = go o e u
            where
              go : (o : Option ActiveLock) → the_vehicle ≡ o → list_all (child_under o) m.active ≡ true → (rule3 m ≡ true) × (rule4 m ≡ true)
              go (Some v) f w = (three_yes v f w, four_yes v f w)
              go None f w = (none_fails f w (λ a. is_some (parent_of m a)), none_fails f w (λ a. of_parent (λ x. is_vehicle x.lock.scope) (parent_of m a)))

          from_four : lowest_from 2 (active_rules m) ≡ lowest_from 5 (from5 m)
          from_four = from_two ∙ next_low 3 (rule3 m) (from4 m) three_four.0 ∙ next_low 4 (rule4 m) (from5 m) three_four.1

          pub broken_five : rule5 m ≡ false → 5 ≡ lowest_from 2 (active_rules m)
          broken_five r = sym (from_four ∙ stop_low 5 (rule5 m) (from6 m) r)

          module _ (r5 : rule5 m ≡ true) where
            pub broken_six : rule6 m ≡ false → 6 ≡ lowest_from 2 (active_rules m)
            broken_six r = sym (from_four ∙ next_low 5 (rule5 m) (from6 m) r5 ∙ stop_low 6 (rule6 m) (from7 m) r)

            module _ (r6 : rule6 m ≡ true) where
              from_six : lowest_from 2 (active_rules m) ≡ lowest_from 7 (from7 m)
              from_six = from_four ∙ next_low 5 (rule5 m) (from6 m) r5 ∙ next_low 6 (rule6 m) (from7 m) r6

              pub broken_seven : rule7 m ≡ false → 7 ≡ lowest_from 2 (active_rules m)
              broken_seven r = sym (from_six ∙ stop_low 7 (rule7 m) (from8 m) r)

              from_seven : rule7 m ≡ true → lowest_from 2 (active_rules m) ≡ lowest_from 8 (from8 m)
              from_seven r = from_six ∙ next_low 7 (rule7 m) (from8 m) r

      -- where all tests of a child pass
      from_fit : (o : Option ActiveLock) → the_vehicle ≡ o → list_all (child_fits o) m.active ≡ true → lowest_from 2 (active_rules m) ≡ lowest_from 8 (from8 m)
      unfolding rule5 rule6 rule7
      from_fit None f t =
          from_seven None f t (none_fails f t (λ a. of_parent (λ x. eqb x.lock.subject a.lock.subject) (parent_of m a))) (none_fails f t (λ a. of_parent (λ x. within a.lock.coverage x.lock.coverage) (parent_of m a)))
          (→all (λ a. is_vehicle a.lock.scope imp non a.child) m.active (λ a i. imp_i (is_vehicle a.lock.scope) (non a.child) (λ k. yes_non a.child (childless f t a i))))
      from_fit (Some v) f t =
          let w = sym (fit_law v) ∙ t in
          let w2 = and_l _ _ w in
          let w1 = and_l _ _ w2 in
          let u = all_std (child_under (Some v)) m.active ∙ and_l _ _ w1 in
          from_seven (Some v) f u (five_law v f u ∙ all_std (child_owned v) m.active ∙ and_r _ _ w1) (six_law v f u ∙ all_std (child_inside v) m.active ∙ and_r _ _ w2) (and_r _ _ w)

      module _ (o : Option ActiveLock) (e : the_vehicle ≡ o) (f : list_all (child_fits o) m.active ≡ true) where
        pub broken_eight : rule8 m ≡ false → 8 ≡ lowest_from 2 (active_rules m)
        broken_eight r = sym (from_fit o e f ∙ stop_low 8 (rule8 m) [] r)

        pub broken_none : rule8 m ≡ true → 0 ≡ lowest_from 2 (active_rules m)
        broken_none r = sym (from_fit o e f ∙ next_low 8 (rule8 m) [] r)

    -- ---- and by the code's tests, each after those before it
    pub low_two : all_below (length m.active) (alone_at m.active) ≡ false → 2 ≡ lowest_from 2 (active_rules m)
    low_two t = broken_two (two_law s ∙ t)

    module _ (t2 : all_below (length m.active) (alone_at m.active) ≡ true) where
      two_yes : rule2 m ≡ true
      two_yes = two_law s ∙ t2

      pub low_three : list_all (child_active m.active) m.active ≡ false → 3 ≡ lowest_from 2 (active_rules m)
      low_three t = broken_three two_yes (three_law ∙ t)

      pub low_four : (o : Option ActiveLock) → the_vehicle ≡ o → list_all (child_under o) m.active ≡ false → list_all (child_active m.active) m.active ≡ true → 4 ≡ lowest_from 2 (active_rules m)
      low_four o e u t = broken_four two_yes o e u (three_law ∙ t)

      module _ (v : ActiveLock) (e : the_vehicle ≡ Some v) (u : list_all (child_under (Some v)) m.active ≡ true) where
        pub low_five : list_all (child_owned v) m.active ≡ false → 5 ≡ lowest_from 2 (active_rules m)
        low_five t = broken_five two_yes (Some v) e u (five_law v e u ∙ t)

        module _ (t5 : list_all (child_owned v) m.active ≡ true) where
          pub low_six : list_all (child_inside v) m.active ≡ false → 6 ≡ lowest_from 2 (active_rules m)
          low_six t = broken_six two_yes (Some v) e u (five_law v e u ∙ t5) (six_law v e u ∙ t)

          pub low_seven : list_all (child_inside v) m.active ≡ true → list_all (child_fits (Some v)) m.active ≡ false → 7 ≡ lowest_from 2 (active_rules m)
          low_seven t6 n = broken_seven two_yes (Some v) e u (five_law v e u ∙ t5) (six_law v e u ∙ t6) (→no (rule7 m) (λ r. against n (fit_law v ∙ and_i _ _ (and_i _ _ (and_i _ _
              (sym (all_std (child_under (Some v)) m.active) ∙ u) (sym (all_std (child_owned v) m.active) ∙ t5)) (sym (all_std (child_inside v) m.active) ∙ t6)) r)))

      -- where not all tests of a child pass at once
      past_4 : (o : Option ActiveLock) → the_vehicle ≡ o → list_all (child_under o) m.active ≡ true → list_all (child_fits o) m.active ≡ false → lowest_past_4 m.active o ≡ lowest_from 2 (active_rules m)
      past_4 None e u n = absurd (against n u)
      past_4 (Some v) e u n =
          by (list_all (child_owned v) m.active) (cond (list_all (child_owned v) m.active) (cond (list_all (child_inside v) m.active) 7 6) 5 ≡ lowest_from 2 (active_rules m))
          (λ t5. rw t5 (by (list_all (child_inside v) m.active) (cond (list_all (child_inside v) m.active) 7 6 ≡ lowest_from 2 (active_rules m))
          (λ t6. rw t6 (low_seven v e u t5 t6 n))
          (λ t6. rw t6 (low_six v e u t5 t6))))
          (λ t5. rw t5 (low_five v e u t5))

      module _ (o : Option ActiveLock) (e : the_vehicle ≡ o) where
        pub low_unfit : list_all (child_fits o) m.active ≡ false → lowest_parent m.active o ≡ lowest_from 2 (active_rules m)
        unfolding lowest_parent
        low_unfit f = by (list_all (child_under o) m.active) (lowest_parent m.active o ≡ lowest_from 2 (active_rules m))
            (λ u. rw u (past_4 o e u f))
            (λ u. rw u (by (list_all (child_active m.active) m.active) (cond (list_all (child_active m.active) m.active) 4 3 ≡ lowest_from 2 (active_rules m))
            (λ t. rw t (low_four o e u t)) (λ t. rw t (low_three t))))

        module _ (f : list_all (child_fits o) m.active ≡ true) where
          pub low_eight : all_below (length m.active) (clear_at m.active) ≡ false → 8 ≡ lowest_from 2 (active_rules m)
          low_eight t = broken_eight two_yes o e f (eight_law ∙ t)

          pub low_none : all_below (length m.active) (clear_at m.active) ≡ true → 0 ≡ lowest_from 2 (active_rules m)
          low_none t = broken_none two_yes o e f (eight_law ∙ t)

    -- rules 3 to 7 at once, by rule 2
    pub broken_unfit : rule2 m ≡ true → (o : Option ActiveLock) → the_vehicle ≡ o → list_all (child_fits o) m.active ≡ false → lowest_parent m.active o ≡ lowest_from 2 (active_rules m)
    broken_unfit r2 = low_unfit (sym (two_law s) ∙ r2)

-- what is named is a rule
pub parent_named : (l : List ActiveLock) (o : Option ActiveLock) → lowest_parent l o ≡ 0 → ⊥
unfolding lowest_parent
parent_named l o = go (list_all (child_under o) l) (list_all (child_active l) l) o
  where
    go : (u t : Bool) (o : Option ActiveLock) → cond {A = ℕ} u (lowest_past_4 l o) (cond t 4 3) ≡ 0 → ⊥
    go false true o e = absurd (omega arith)
    go false false o e = absurd (omega arith)
    go true t None e = absurd (omega arith)
    go true t (Some v) e = past (list_all (child_owned v) l) (list_all (child_inside v) l) e
      where
        past : (a b : Bool) → cond {A = ℕ} a (cond b 7 6) 5 ≡ 0 → ⊥
        past true true e = absurd (omega arith)
        past true false e = absurd (omega arith)
        past false b e = absurd (omega arith)
