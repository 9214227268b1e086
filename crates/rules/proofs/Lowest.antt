-- The lowest broken rule, as the chain of tests answers it. Assumes nothing.
use mathlib.Core.Path.{◌≡◌, refl, sym, ap, ◌∙◌}
use mathlib.Core.Bool.{Bool, true, false}
use mathlib.Core.List.{List, [], ◌∷◌, ◌++◌}
use Prim.Native.Nat.{ℕ, suc, ◌≤◌, ◌<◌}
use native.Mathlib.Omega.{arith}
use borrow.Author.Tests.{le-leb, lt-leb}
use lib.Dec.{leb}
use lib.ListN.{take, drop}
use Rattle.lists.specs.Tests.{◌and◌, non}
use Rattle.lists.specs.Lists.{all, ascending}
use Rattle.lists.proofs.Tests.{and_i, and_t, and_f}
use Rattle.lists.proofs.Lists.{→all}
use Rattle.lists.proofs.Std.{all_std}
use Rattle.std.specs.List.{list_all}
use Rattle.state.specs.declared.ActiveLock.{ActiveLock}
use Rattle.state.specs.declared.DefunctLock.{DefunctLock}
use Rattle.state.specs.declared.LockState.{LockState}
use Rattle.state.specs.Locks.{akey, dkey}
use Rattle.state.specs.Model.{Model, model_of}
use Rattle.std.specs.Prelude.{Result, Ok, Err, ⊤}
use Rattle.rules.specs.declared.Unsound.{Unsound}
use Rattle.rules.specs.declared.Unsound.TheVariants.{Rule}
use Rattle.rules.specs.Rules.{has_d, is_blank_a, is_blank_d, blanks, in_order, neat_a, neat_d, neat, rule0, rule1, rule2, rule3, rule4, rule5, rule6, rule7, rule8, rule9, verdict, broken_rule}
use Rattle.rules.specs.Code.{lists, lowest_from, active_rules}

next_rule : (n : ℕ) (b : Bool) (bs : List Bool) → b ≡ true → verdict n (b ∷ bs) ≡ verdict (suc n) bs
next_rule n b bs e = rw e

stop_rule : (n : ℕ) (b : Bool) (bs : List Bool) → b ≡ false → verdict n (b ∷ bs) ≡ Err (Rule n)
stop_rule n b bs e = rw e

-- a run of rules from j on, of which the lowest broken is known
abbrev past : ℕ → List Bool → ℕ
past j [] = j
past j (b ∷ bs) = past (suc j) bs

run_past : (j : ℕ) (bs cs : List Bool) → 1 ≤ j → lowest_from j bs ≡ 0 → verdict j (bs ++ cs) ≡ verdict (past j bs) cs
run_past j [] cs h e = refl
run_past j (true ∷ bs) cs h e = run_past (suc j) bs cs (omega arith) e
run_past j (false ∷ bs) cs h e = absurd (omega arith)

-- the lowest of some rules, as it is told
pub told_stop : (j : ℕ) (bs : List Bool) (k : ℕ) → k ≡ lowest_from j bs → (k ≡ 0 → ⊥) → Err (Rule k) ≡ verdict j bs
told_stop j [] k e n = absurd (n e)
told_stop j (true ∷ bs) k e n = told_stop (suc j) bs k e n
told_stop j (false ∷ bs) k e n = ap (λ x. Err (Rule x)) e

pub told_none : (j : ℕ) (bs : List Bool) → 1 ≤ j → 0 ≡ lowest_from j bs → Ok tt ≡ verdict j bs
told_none j [] h e = refl
told_none j (true ∷ bs) h e = told_none (suc j) bs (omega arith) e
told_none j (false ∷ bs) h e = absurd (omega arith)

none_low : (j : ℕ) (bs : List Bool) → verdict j bs ≡ Ok tt → lowest_from j bs ≡ 0
none_low j [] e = refl
none_low j (true ∷ bs) e = none_low (suc j) bs e
none_low j (false ∷ bs) e = absurd (cc)

-- what some rules tell, with more after them
first_told : (j : ℕ) (bs cs : List Bool) (u : Unsound) → verdict j bs ≡ Err u → verdict j (bs ++ cs) ≡ Err u
first_told j [] cs u e = absurd (cc)
first_told j (true ∷ bs) cs u e = first_told (suc j) bs cs u e
first_told j (false ∷ bs) cs u e = e

and_last : (j : ℕ) (bs : List Bool) (b : Bool) → b ≡ true → verdict j (bs ++ (b ∷ [])) ≡ verdict j bs
and_last j [] b e = rw e
and_last j (true ∷ bs) b e = and_last (suc j) bs b e
and_last j (false ∷ bs) b e = refl

module _ (s : LockState) where
  pub zero_broken : rule0 s ≡ false → (Err (Rule 0)) ≡ broken_rule s
  unfolding broken_rule
  zero_broken e = sym (stop_rule 0 (rule0 s) (rule1 (model_of s) ∷ (active_rules (model_of s) ++ (rule9 (model_of s) ∷ []))) e)

  module _ (r0 : rule0 s ≡ true) where
    past0 : broken_rule s ≡ verdict 1 (rule1 (model_of s) ∷ (active_rules (model_of s) ++ (rule9 (model_of s) ∷ [])))
    unfolding broken_rule
    past0 = next_rule 0 (rule0 s) (rule1 (model_of s) ∷ (active_rules (model_of s) ++ (rule9 (model_of s) ∷ []))) r0

    pub one_broken : rule1 (model_of s) ≡ false → (Err (Rule 1)) ≡ broken_rule s
    one_broken e = sym (past0 ∙ stop_rule 1 (rule1 (model_of s)) (active_rules (model_of s) ++ (rule9 (model_of s) ∷ [])) e)

    module _ (r1 : rule1 (model_of s) ≡ true) where
      past1 : broken_rule s ≡ verdict 2 (active_rules (model_of s) ++ (rule9 (model_of s) ∷ []))
      past1 = past0 ∙ next_rule 1 (rule1 (model_of s)) (active_rules (model_of s) ++ (rule9 (model_of s) ∷ [])) r1

      module _ (k : ℕ) (e : k ≡ lowest_from 2 (active_rules (model_of s))) (z : k ≡ 0) where
        past8 : broken_rule s ≡ verdict 9 (rule9 (model_of s) ∷ [])
        past8 = past1 ∙ run_past 2 (active_rules (model_of s)) (rule9 (model_of s) ∷ []) (omega arith) (sym e ∙ z)

        pub nine_broken : rule9 (model_of s) ≡ false → (Err (Rule 9)) ≡ broken_rule s
        nine_broken f = sym (past8 ∙ stop_rule 9 (rule9 (model_of s)) [] f)

        pub none_broken : rule9 (model_of s) ≡ true → (Ok tt) ≡ broken_rule s
        none_broken f = sym (past8 ∙ next_rule 9 (rule9 (model_of s)) [] f)

-- ---- rule 0 has five parts
module _ (a b c d e : Bool) where
  five_yes : a ≡ true → b ≡ true → c ≡ true → d ≡ true → e ≡ true → (a and b and c and d and e) ≡ true
  unfolding ◌and◌
  five_yes p q r s t = rw (p, q, r, s, t)

  no_1 : a ≡ false → (a and b and c and d and e) ≡ false
  unfolding ◌and◌
  no_1 p = rw p

  no_2 : a ≡ true → b ≡ false → (a and b and c and d and e) ≡ false
  unfolding ◌and◌
  no_2 p q = rw (p, q)

  no_3 : a ≡ true → b ≡ true → c ≡ false → (a and b and c and d and e) ≡ false
  unfolding ◌and◌
  no_3 p q r = rw (p, q, r)

  no_4 : a ≡ true → b ≡ true → c ≡ true → d ≡ false → (a and b and c and d and e) ≡ false
  unfolding ◌and◌
  no_4 p q r s = rw (p, q, r, s)

  -- neatness is tested before the order
  no_5 : a ≡ true → b ≡ true → c ≡ true → e ≡ false → (a and b and c and d and e) ≡ false
  unfolding ◌and◌
  no_5 p q r t = rw (p, q, r) (go d e t)
    where
      go : (d e : Bool) → e ≡ false → (d and e) ≡ false
      go true e t = t
      go false e t = refl

module _ (s : LockState) where
  abbrev counts_a : Bool
  counts_a = leb s.actives 64

  abbrev counts_d : Bool
  counts_d = leb s.defuncts 128

  pub many_active : 64 < s.actives → (Err (Rule 0)) ≡ broken_rule s
  unfolding rule0
  many_active h = zero_broken s (no_1 counts_a counts_d (blanks s) (in_order (model_of s)) (neat (model_of s)) (lt-leb _ _ h))

  module _ (ha : s.actives ≤ 64) where
    pub many_defunct : 128 < s.defuncts → (Err (Rule 0)) ≡ broken_rule s
    unfolding rule0
    many_defunct h = zero_broken s (no_2 counts_a counts_d (blanks s) (in_order (model_of s)) (neat (model_of s)) (le-leb _ _ ha) (lt-leb _ _ h))

    module _ (hd : s.defuncts ≤ 128) where
      pub not_blank : blanks s ≡ false → (Err (Rule 0)) ≡ broken_rule s
      unfolding rule0
      not_blank e = zero_broken s (no_3 counts_a counts_d (blanks s) (in_order (model_of s)) (neat (model_of s)) (le-leb _ _ ha) (le-leb _ _ hd) e)

      module _ (b : blanks s ≡ true) where
        pub not_neat : neat (model_of s) ≡ false → (Err (Rule 0)) ≡ broken_rule s
        unfolding rule0
        not_neat e = zero_broken s (no_5 counts_a counts_d (blanks s) (in_order (model_of s)) (neat (model_of s)) (le-leb _ _ ha) (le-leb _ _ hd) b e)

        pub not_ordered : in_order (model_of s) ≡ false → (Err (Rule 0)) ≡ broken_rule s
        unfolding rule0
        not_ordered e = zero_broken s (no_4 counts_a counts_d (blanks s) (in_order (model_of s)) (neat (model_of s)) (le-leb _ _ ha) (le-leb _ _ hd) b e)

        pub rule0_yes : in_order (model_of s) ≡ true → neat (model_of s) ≡ true → rule0 s ≡ true
        unfolding rule0
        rule0_yes o n = five_yes counts_a counts_d (blanks s) (in_order (model_of s)) (neat (model_of s)) (le-leb _ _ ha) (le-leb _ _ hd) b o n

-- ---- without defunct locks
rule1_alone : (m : Model) → m.defunct ≡ [] → rule1 m ≡ true
unfolding rule1 non
rule1_alone m e = →all (λ a. non (has_d m.defunct (akey a))) m.active (λ a i. rw e)

rule9_alone : (m : Model) → m.defunct ≡ [] → rule9 m ≡ true
unfolding rule9
rule9_alone m e = rw e

-- ---- what the code asks, test by test
active_same : (m : Model) → active_rules (lists m.active []) ≡ active_rules m
unfolding rule2 rule3 rule4 rule5 rule6 rule7 rule8
active_same m = refl

module _ (s : LockState) (ha : s.actives ≤ 64) (hd : s.defuncts ≤ 128) where
  abbrev active : List ActiveLock
  active = take s.actives s.active

  abbrev defunct : List DefunctLock
  defunct = take s.defuncts s.defunct

  module _ (b : Bool) (e : b ≡ all is_blank_a (drop s.actives s.active)) where
    pub dirty_active : b ≡ false → Err (Rule 0) ≡ broken_rule s
    unfolding blanks
    dirty_active f = not_blank s ha hd (and_f _ _ (sym e ∙ f))

    module _ (t : b ≡ true) (c : Bool) (g : c ≡ all is_blank_d (drop s.defuncts s.defunct)) where
      pub dirty_defunct : c ≡ false → Err (Rule 0) ≡ broken_rule s
      unfolding blanks
      dirty_defunct f = not_blank s ha hd (and_t _ _ (sym e ∙ t) ∙ sym g ∙ f)

      pub all_blank : c ≡ true → blanks s ≡ true
      unfolding blanks
      all_blank f = and_i _ _ (sym e ∙ t) (sym g ∙ f)

  module _ (b : blanks s ≡ true) (x : Bool) (ex : x ≡ list_all neat_a active) where
    pub untidy_active : x ≡ false → Err (Rule 0) ≡ broken_rule s
    unfolding neat
    untidy_active f = not_neat s ha hd b (and_f _ _ (sym (all_std neat_a active) ∙ sym ex ∙ f))

    module _ (tx : x ≡ true) (y : Bool) (ey : y ≡ ascending akey active) where
      pub unordered_active : y ≡ false → Err (Rule 0) ≡ broken_rule s
      unfolding in_order
      unordered_active f = not_ordered s ha hd b (and_f _ _ (sym ey ∙ f))

      module _ (ty : y ≡ true) (r : Result ⊤ Unsound) (er : r ≡ verdict 2 (active_rules (lists active []))) where
        -- what the active rules tell
        told_is : r ≡ verdict 2 (active_rules (model_of s))
        told_is = er ∙ ap (verdict 2) (active_same (model_of s))

        pub alone_told : s.defuncts ≡ 0 → r ≡ broken_rule s
        unfolding in_order neat
        alone_told z = told_is ∙ sym (past1 s zero_alone (rule1_alone (model_of s) nobody) ∙ and_last 2 (active_rules (model_of s)) (rule9 (model_of s)) (rule9_alone (model_of s) nobody))
          where
            nobody : (model_of s).defunct ≡ []
            nobody = ap (λ (n : ℕ). take n s.defunct) z

            zero_alone : rule0 s ≡ true
            zero_alone = rule0_yes s ha hd b (and_i _ _ (sym ey ∙ ty) (ap (ascending dkey) nobody)) (and_i _ _ (sym (all_std neat_a active) ∙ sym ex ∙ tx) (ap (all neat_d) nobody))

        module _ (x2 : Bool) (ex2 : x2 ≡ list_all neat_d defunct) where
          pub untidy_defunct : x2 ≡ false → Err (Rule 0) ≡ broken_rule s
          unfolding neat
          untidy_defunct f = not_neat s ha hd b (and_t _ _ (sym (all_std neat_a active) ∙ sym ex ∙ tx) ∙ sym (all_std neat_d defunct) ∙ sym ex2 ∙ f)

          module _ (tx2 : x2 ≡ true) (y2 : Bool) (ey2 : y2 ≡ ascending dkey defunct) where
            pub unordered_defunct : y2 ≡ false → Err (Rule 0) ≡ broken_rule s
            unfolding in_order
            unordered_defunct f = not_ordered s ha hd b (and_t _ _ (sym ey ∙ ty) ∙ sym ey2 ∙ f)

            module _ (ty2 : y2 ≡ true) where
              zero : rule0 s ≡ true
              unfolding in_order neat
              zero = rule0_yes s ha hd b (and_i _ _ (sym ey ∙ ty) (sym ey2 ∙ ty2)) (and_i _ _ (sym (all_std neat_a active) ∙ sym ex ∙ tx) (sym (all_std neat_d defunct) ∙ sym ex2 ∙ tx2))

              module _ (o : Bool) (eo : o ≡ rule1 (model_of s)) where
                pub both_lists : o ≡ false → Err (Rule 1) ≡ broken_rule s
                both_lists f = one_broken s zero (sym eo ∙ f)

                module _ (to : o ≡ true) where
                  pub told : (u : Unsound) → r ≡ Err u → r ≡ broken_rule s
                  told u f = f ∙ sym (past1 s zero (sym eo ∙ to) ∙ first_told 2 (active_rules (model_of s)) (rule9 (model_of s) ∷ []) u (sym told_is ∙ f))

                  module _ (tr : r ≡ Ok tt) (z : Bool) (ez : z ≡ rule9 (model_of s)) where
                    pub ringed : z ≡ false → Err (Rule 9) ≡ broken_rule s
                    ringed f = nine_broken s zero (sym eo ∙ to) (lowest_from 2 (active_rules (model_of s))) refl (none_low 2 (active_rules (model_of s)) (sym told_is ∙ tr)) (sym ez ∙ f)

                    pub all_sound : z ≡ true → Ok tt ≡ broken_rule s
                    all_sound f = none_broken s zero (sym eo ∙ to) (lowest_from 2 (active_rules (model_of s))) refl (none_low 2 (active_rules (model_of s)) (sym told_is ∙ tr)) (sym ez ∙ f)
