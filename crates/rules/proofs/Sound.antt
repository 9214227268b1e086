-- A sound state: what the test's answer says of the state and of its lists, rule by rule, and back.
-- Assumes nothing.
use mathlib.Core.Path.{◌≡◌, refl, ap}
use mathlib.Core.Bool.{Bool, true, false, false≢true}
use mathlib.Core.List.{List, [], ◌∷◌}
use Prim.Native.Nat.{ℕ, zero, suc, ◌-◌}
use native.Mathlib.Omega.{arith}
use lib.ListN.{length, take, drop, replicate, length-take}
use lib.Seq.{drop_at}
use borrow.Author.Tests.{leb-true, le-leb}
use Rattle.lists.specs.Tests.{◌and◌, non}
use Rattle.lists.specs.Lists.{all}
use Rattle.lists.specs.Places.{in_places}
use Rattle.lists.proofs.Tests.{and_l, and_r, and_i}
use Rattle.state.specs.declared.LockState.{LockState}
use Rattle.state.specs.Locks.{is_vehicle, blank_active, blank_defunct}
use Rattle.state.specs.Model.{Model, model_of, state_of, Limits, full, fits, Tidy}
use Rattle.state.proofs.Laws.{model-of-state}
use Rattle.std.specs.Prelude.{Ok}
use Rattle.rules.specs.Rules.{zero_id, zero_set, zero_lock, is_blank_a, is_blank_d, blanks, in_order, neat, rule0, rule1, rule2, rule3, rule4, rule5, rule6, rule7, rule8, rule9, verdict, rules, broken_rule, is_sound, sound}
use Rattle.rules.proofs.Tidy.{rule0_tidy}

-- ---- of the lists: each rule out of `sound`, and back
pub record Facts (k : Limits) (m : Model) : Type 0 where
  pub room : fits k m ≡ true
  pub order : in_order m ≡ true
  pub tidy : neat m ≡ true
  pub one : rule1 m ≡ true
  pub two : rule2 m ≡ true
  pub three : rule3 m ≡ true
  pub four : rule4 m ≡ true
  pub five : rule5 m ≡ true
  pub six : rule6 m ≡ true
  pub seven : rule7 m ≡ true
  pub eight : rule8 m ≡ true
  pub nine : rule9 m ≡ true

pub facts_of : (k : Limits) (m : Model) → sound k m ≡ true → Facts k m
unfolding sound
facts_of k m e =
    let e8 = and_l _ _ e in
    let e7 = and_l _ _ e8 in
    let e6 = and_l _ _ e7 in
    let e5 = and_l _ _ e6 in
    let e4 = and_l _ _ e5 in
    let e3 = and_l _ _ e4 in
    let e2 = and_l _ _ e3 in
    let e1 = and_l _ _ e2 in
    let e0 = and_l _ _ e1 in
    record {
      room = and_l _ _ e0;
      order = and_l _ _ (and_r _ _ e0);
      tidy = and_r _ _ (and_r _ _ e0);
      one = and_r _ _ e1;
      two = and_r _ _ e2;
      three = and_r _ _ e3;
      four = and_r _ _ e4;
      five = and_r _ _ e5;
      six = and_r _ _ e6;
      seven = and_r _ _ e7;
      eight = and_r _ _ e8;
      nine = and_r _ _ e;
    }

pub of_facts : (k : Limits) (m : Model) → Facts k m → sound k m ≡ true
unfolding sound
of_facts k m f =
    and_i _ _ (and_i _ _ (and_i _ _ (and_i _ _ (and_i _ _ (and_i _ _ (and_i _ _ (and_i _ _ (and_i _ _ (and_i _ _ f.room (and_i _ _ f.order f.tidy))
    f.one) f.two) f.three) f.four) f.five) f.six) f.seven) f.eight) f.nine

-- ---- of the state: no rule is broken where each test passes
verdict_yes : (n : ℕ) (bs : List Bool) → verdict n bs ≡ Ok tt → all (λ b. b) bs ≡ true
verdict_yes n [] e = refl
verdict_yes n (true ∷ bs) e = and_i true (all (λ b. b) bs) refl (verdict_yes (suc n) bs e)
verdict_yes n (false ∷ bs) e = absurd (false≢true (ap is_sound e))

yes_verdict : (n : ℕ) (bs : List Bool) → all (λ b. b) bs ≡ true → verdict n bs ≡ Ok tt
yes_verdict n [] t = refl
yes_verdict n (true ∷ bs) t = yes_verdict (suc n) bs (and_r true (all (λ b. b) bs) t)
yes_verdict n (false ∷ bs) t = absurd (false≢true (and_l false (all (λ b. b) bs) t))

all_of_rules : (s : LockState) → broken_rule s ≡ Ok tt → all (λ b. b) (rules s) ≡ true
unfolding broken_rule
all_of_rules s e = verdict_yes 0 (rules s) e

pub rule0_of : (s : LockState) → broken_rule s ≡ Ok tt → rule0 s ≡ true
rule0_of s e = and_l _ _ (all_of_rules s e)

count_fits : (s : LockState) → rule0 s ≡ true → fits full (model_of s) ≡ true
unfolding rule0 fits
count_fits s e =
    let e1 = and_l _ _ (and_l _ _ (and_l _ _ e)) in
    and_i _ _
    (le-leb (length (take s.actives s.active)) 64 (omega (arith, length-take s.actives s.active, leb-true s.actives 64 (and_l _ _ e1))))
    (le-leb (length (take s.defuncts s.defunct)) 128 (omega (arith, length-take s.defuncts s.defunct, leb-true s.defuncts 128 (and_r _ _ e1))))

pub facts_of_state : (s : LockState) → broken_rule s ≡ Ok tt → Facts full (model_of s)
unfolding rule0
facts_of_state s e =
    let t0 = all_of_rules s e in
    let z = and_l _ _ t0 in
    let t1 = and_r _ _ t0 in
    let t2 = and_r _ _ t1 in
    let t3 = and_r _ _ t2 in
    let t4 = and_r _ _ t3 in
    let t5 = and_r _ _ t4 in
    let t6 = and_r _ _ t5 in
    let t7 = and_r _ _ t6 in
    let t8 = and_r _ _ t7 in
    let t9 = and_r _ _ t8 in
    record {
      room = count_fits s z;
      order = and_r _ _ (and_l _ _ z);
      tidy = and_r _ _ z;
      one = and_l _ _ t1;
      two = and_l _ _ t2;
      three = and_l _ _ t3;
      four = and_l _ _ t4;
      five = and_l _ _ t5;
      six = and_l _ _ t6;
      seven = and_l _ _ t7;
      eight = and_l _ _ t8;
      nine = and_l _ _ t9;
    }

pub sound_of : (s : LockState) → broken_rule s ≡ Ok tt → sound full (model_of s) ≡ true
sound_of s e = of_facts full (model_of s) (facts_of_state s e)

-- a state's arrays have their lengths; the definition's lists need not
pub tidy_of_sound : (s : LockState) → length s.active ≡ 64 → length s.defunct ≡ 128 → broken_rule s ≡ Ok tt → Tidy s
unfolding rule0
tidy_of_sound s la ld e =
    let z = rule0_of s e in
    let e1 = and_l _ _ (and_l _ _ (and_l _ _ z)) in
    record {
      active = leb-true s.actives 64 (and_l _ _ e1);
      defunct = leb-true s.defuncts 128 (and_r _ _ e1);
      same = rule0_tidy s la ld z;
    }

-- ---- and back, from lists to the state that holds them
module _ {A : Type 0} (p : A → Bool) (b : A) (t : p b ≡ true) where
  all_same_blank : (n : ℕ) → all p (replicate n b) ≡ true
  all_same_blank zero = refl
  all_same_blank (suc n) = and_i (p b) (all p (replicate n b)) t (all_same_blank n)

  pub blank_places : (n : ℕ) (l : List A) → all p (drop (length l) (in_places n b l)) ≡ true
  blank_places n l = rw (drop_at l (replicate (n - length l) b) (length l) refl) (all_same_blank (n - length l))

a_blank : is_blank_a blank_active ≡ true
unfolding is_blank_a zero_lock zero_id zero_set blank_active is_vehicle ◌and◌ non
a_blank = refl

d_blank : is_blank_d blank_defunct ≡ true
unfolding is_blank_d zero_lock zero_id zero_set blank_defunct is_vehicle ◌and◌ non
d_blank = refl

rule0_state : (m : Model) → Facts full m → rule0 (state_of m) ≡ true
unfolding rule0 blanks fits
rule0_state m f =
    and_i _ _ (and_i _ _ (and_i _ _ f.room
    (and_i _ _ (blank_places is_blank_a blank_active a_blank 64 m.active) (blank_places is_blank_d blank_defunct d_blank 128 m.defunct)))
    (rw (model-of-state m) f.order))
    (rw (model-of-state m) f.tidy)

pub sound_state : (m : Model) → sound full m ≡ true → broken_rule (state_of m) ≡ Ok tt
unfolding broken_rule
sound_state m e = yes_verdict 0 (rules (state_of m)) (and_i _ _ (rule0_state m f) (rw (model-of-state m) rest))
  where
    f : Facts full m
    f = facts_of full m e

    rest : all (λ b. b) (rule1 m ∷ rule2 m ∷ rule3 m ∷ rule4 m ∷ rule5 m ∷ rule6 m ∷ rule7 m ∷ rule8 m ∷ rule9 m ∷ []) ≡ true
    rest =
        and_i _ _ f.one (and_i _ _ f.two (and_i _ _ f.three (and_i _ _ f.four (and_i _ _ f.five (and_i _ _ f.six (and_i _ _ f.seven (and_i _ _ f.eight
        (and_i _ _ f.nine refl))))))))
