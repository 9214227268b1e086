-- The cases of 001's functions: response classes, and a deletion that tests the state once.
-- Assumes nothing.
use mathlib.Core.Bool.{Bool, true, false, cond, not, true≢false}
use mathlib.Core.List.{List, [], ◌∷◌}
use mathlib.Core.Logic.{inl, inr}
use Rattle.std.specs.Prelude.{Option, None, Some}
use mathlib.Core.Path.{◌≡◌, refl, sym, ap, subst, ◌∙◌}
use Prim.Native.Nat.{ℕ, zero, suc, ◌+◌, ◌≤◌, ◌<◌}
use native.Mathlib.Numerals.{add-one}
use native.Mathlib.Decide.{ℕ_discrete}
use native.Mathlib.Omega.{arith}
use lib.Dec.{eqb}
use lib.ListN.{length, get_or, take, drop, length-take}
use lib.Seq.{slice, drop-cons, drop-nil, get_or-take}
use types.Run.{OneOf, miss}
use denote.Enum.Declared.{tag_of}
use borrow.Author.Tests.{ne_eqb}
use Rattle.lists.specs.Tests.{◌and◌, ◌or◌, non}
use Rattle.lists.specs.Lists.{any, find}
use Rattle.std.specs.List.{list_any}
use Rattle.lists.proofs.Std.{any_std, any_as}
use Rattle.lists.proofs.Tests.{or_no, codes, cond_true, cond_false}
use Rattle.ids.specs.declared.LockId.{LockId}
use Rattle.state.specs.declared.ScopeKey.{ScopeKey}
use Rattle.state.specs.declared.ScopeKey.TheVariants.{Vehicle, Ecu, FunctionalGroup}
use Rattle.state.specs.declared.ActiveLock.{ActiveLock}
use Rattle.state.specs.declared.DefunctLock.{DefunctLock}
use Rattle.state.specs.declared.LockState.{LockState}
use Rattle.state.specs.Locks.{is_vehicle, is_group, same_scope, has_id_d}
use Rattle.state.specs.Model.{model_of}
use Rattle.std.specs.Prelude.{Result, Ok, Err, ⊤}
use Rattle.rules.specs.declared.Unsound.{Unsound}
use Rattle.rules.specs.declared.Unsound.TheVariants.{Rule}
use Rattle.rules.specs.Rules.{broken_rule}
use Rattle.std.specs.Option.{option_map}
use Rattle.std.specs.Prelude.{min, ◌-◌, ◌^◌}
use Rattle.lookups.specs.Reads.{by_verdict, on_sound, on_scope, active_for_scope_on}
use Rattle.lookups.proofs.Verdicts.{on_sound_lem, read_ok}
use Rattle.operations.specs.declared.answers.StateRefusal.TheVariants as state_refusal
use Rattle.operations.specs.Answers.{Acknowledged, rule_of}
use Rattle.operations.specs.Acknowledge.{acknowledged, acknowledge_on}
use Rattle.locks.specs.declared.Response.TheVariants as response
use Rattle.locks.specs.declared.UpdateRefusal.TheVariants as update
use Rattle.locks.specs.declared.DroppingRefusal.{DroppingRefusal}
use Rattle.locks.specs.declared.DroppingRefusal.TheVariants as dropping
use Rattle.locks.specs.Locks.{response_of, vehicle_owner_on, non_vehicle, has_non_vehicle_on, group_lock, ecu_lock, raised, prepare_update_on, dropped, as_dropped, drop_found_on, delete_defunct_on, Dropped}
use Rattle.locks.specs.Code.{judge_entry, judge_drop}

-- ---- response classes of the numbers that the code tells by their range
-- 3, 4 and 5
pub class_3_5 : (n : ℕ) → 1 ≤ n → n < 6 → (OneOf (1 ∷ 8 ∷ 11 ∷ []) n → ⊥) → (OneOf (2 ∷ 9 ∷ []) n → ⊥) → Some response.InternalServerError ≡ response_of n
unfolding response_of ◌or◌
class_3_5 n h g a b =
    let one : n ≡ 1 → ⊥ = λ q. a (inl q) in
    let two : n ≡ 2 → ⊥ = λ q. b (inl q) in
    elim (ℕ_discrete n 3) [
      | yes e ↦ rw e
      | no x ↦ elim (ℕ_discrete n 4) [ yes e ↦ rw e | no y ↦ let e : n ≡ 5 = omega arith in rw e ]
    ]

-- 6 and 7
pub class_6_7 : (n : ℕ) → 6 ≤ n → n < 8 → Some response.Conflict ≡ response_of n
unfolding response_of ◌or◌
class_6_7 n h g = elim (ℕ_discrete n 6) [ yes e ↦ rw e | no x ↦ let e : n ≡ 7 = omega arith in rw e ]

pub class_0 : (n : ℕ) → n < 1 → None ≡ response_of n
unfolding response_of ◌or◌
class_0 n h = let e : n ≡ 0 = omega arith in rw e

-- past 7, all but 8, 9, 10, 11 and 26
pub class_none : (n : ℕ) → 8 ≤ n → (OneOf (10 ∷ []) n → ⊥) → (OneOf (2 ∷ 9 ∷ []) n → ⊥) → (OneOf (1 ∷ 8 ∷ 11 ∷ []) n → ⊥) → (OneOf (26 ∷ []) n → ⊥) → None ≡ response_of n
unfolding response_of ◌or◌
class_none n h a b c d =
    rw (
      ne_eqb n 10 a,
      ne_eqb n 2 (λ q. b (inl q)),
      ne_eqb n 6 (λ q. omega arith),
      ne_eqb n 7 (λ q. omega arith),
      ne_eqb n 9 (λ q. b (inr q)),
      ne_eqb n 1 (λ q. c (inl q)),
      ne_eqb n 3 (λ q. omega arith),
      ne_eqb n 4 (λ q. omega arith),
      ne_eqb n 5 (λ q. omega arith),
      ne_eqb n 8 (λ q. c (inr (inl q))),
      ne_eqb n 11 (λ q. c (inr (inr q))),
      ne_eqb n 26 d,
    )

-- ---- a state that the test refuses, past a `?` that turns the refusal into another's
module _ {A E : Type 0} (s : LockState) (f : ℕ → E) (a : Result A E) where
  pub err_from : (r : Result A E) (e : Unsound) (g : E) → broken_rule s ≡ Err e → r ≡ Err g → g ≡ f (rule_of e) → r ≡ on_sound s (λ n. Err (f n)) a
  unfolding on_sound
  err_from r (Rule n) g q h k = h ∙ ap Err k ∙ sym (ap (λ (v : Result ⊤ Unsound). by_verdict v (λ n. Err (f n)) a) q)

  pub ok_past : (u : ⊤) (r : Result A E) → broken_rule s ≡ Ok u → r ≡ a → r ≡ on_sound s (λ n. Err (f n)) a
  unfolding on_sound
  ok_past u r q h = h ∙ sym (ap (λ (v : Result ⊤ Unsound). by_verdict v (λ n. Err (f n)) a) q)

-- ---- the owner, through the read of the vehicle's scope
module _ (s : LockState) where
  pub owner_err : (e : Unsound) → active_for_scope_on s Vehicle ≡ Err e → Err e ≡ vehicle_owner_on s
  unfolding active_for_scope_on vehicle_owner_on on_sound
  owner_err e q = go (broken_rule s) q
    where
      go : (v : Result ⊤ Unsound) → ◌≡◌ {A = Result (Option ActiveLock) Unsound} (by_verdict v (λ n. Err (Rule n)) (Ok (find (on_scope Vehicle) (model_of s).active))) (Err e) → ◌≡◌ {A = Result (Option ℕ) Unsound} (Err e) (by_verdict v (λ n. Err (Rule n)) (Ok (option_map (λ (a : ActiveLock). a.lock.subject) (find (on_scope Vehicle) (model_of s).active))))
      go (Ok tt) q = absurd (let z : ◌≡◌ {A = ℕ} 0 1 = cc in omega arith)
      go (Err (Rule n)) q = cc

  pub owner_ok : (o : Option ActiveLock) (x : Option ℕ) → active_for_scope_on s Vehicle ≡ Ok o → x ≡ option_map (λ (a : ActiveLock). a.lock.subject) o → Ok x ≡ vehicle_owner_on s
  unfolding active_for_scope_on vehicle_owner_on on_sound
  owner_ok o x q h = go (broken_rule s) q
    where
      go : (v : Result ⊤ Unsound) → ◌≡◌ {A = Result (Option ActiveLock) Unsound} (by_verdict v (λ n. Err (Rule n)) (Ok (find (on_scope Vehicle) (model_of s).active))) (Ok o) → ◌≡◌ {A = Result (Option ℕ) Unsound} (Ok x) (by_verdict v (λ n. Err (Rule n)) (Ok (option_map (λ (a : ActiveLock). a.lock.subject) (find (on_scope Vehicle) (model_of s).active))))
      go (Ok tt) q = let e : find (on_scope Vehicle) (model_of s).active ≡ o = cc in ap Ok (h ∙ ap (option_map (λ (a : ActiveLock). a.lock.subject)) (sym e))
      go (Err (Rule n)) q = absurd (let z : ◌≡◌ {A = ℕ} 0 1 = cc in omega arith)

-- ---- without a group's lock, a lock that is not the vehicle's is an ECU's
kind_of_lem : (a : ActiveLock) → group_lock a ≡ false → non_vehicle a ≡ ecu_lock a
unfolding non_vehicle group_lock ecu_lock is_vehicle is_group ◌and◌ non
kind_of_lem a = go a.lock.scope
  where
    go : (k : ScopeKey) → is_group k ≡ false → non (is_vehicle k) ≡ (non (is_vehicle k) and non (is_group k))
    go Vehicle e = refl
    go (Ecu n) e = refl
    go (FunctionalGroup n) e = absurd (true≢false e)

pub others_ecus : (l : List ActiveLock) → any group_lock l ≡ false → any non_vehicle l ≡ any ecu_lock l
others_ecus [] e = refl
others_ecus (x ∷ xs) e = ap (λ (b : Bool). b or any non_vehicle xs) (kind_of_lem x ((or_no _ _ e).0)) ∙ ap (λ (b : Bool). ecu_lock x or b) (others_ecus xs ((or_no _ _ e).1))

-- in the words of the code
groups_as : (l : List ActiveLock) → list_any (λ (a : ActiveLock). is_group a.lock.scope) l ≡ any group_lock l
unfolding group_lock
groups_as l = any_std group_lock l

others_as : (l : List ActiveLock) → list_any (λ (a : ActiveLock). not (is_vehicle a.lock.scope)) l ≡ any non_vehicle l
unfolding non_vehicle
others_as l = any_as non_vehicle (λ (a : ActiveLock). not (is_vehicle a.lock.scope)) (λ a. simp codes) l

pub others_read : (s : LockState) (u : ⊤) (b : Bool) → broken_rule s ≡ Ok u → b ≡ list_any (λ (a : ActiveLock). not (is_vehicle a.lock.scope)) (model_of s).active → Ok b ≡ has_non_vehicle_on s
unfolding has_non_vehicle_on
others_read s u b w e = read_ok s _ b u w (e ∙ others_as (model_of s).active)

-- ---- a runtime update of a sound state
module _ (s : LockState) (u : ⊤) (w : broken_rule s ≡ Ok u) (k : ℕ) where
  pub group_held : list_any (λ (a : ActiveLock). is_group a.lock.scope) (model_of s).active ≡ true → Err update.FunctionalGroupLocksHeld ≡ prepare_update_on s k
  unfolding prepare_update_on
  group_held t = ok_past s update.UnsoundState _ u _ w (sym (cond_true (any group_lock (model_of s).active) _ _ (sym (groups_as (model_of s).active) ∙ t)))

  module _ (m : list_any (λ (a : ActiveLock). is_group a.lock.scope) (model_of s).active ≡ false) where
    n : any group_lock (model_of s).active ≡ false
    n = sym (groups_as (model_of s).active) ∙ m

    pub ecu_held : list_any (λ (a : ActiveLock). not (is_vehicle a.lock.scope)) (model_of s).active ≡ true → Err update.EcuLocksHeld ≡ prepare_update_on s k
    unfolding prepare_update_on
    ecu_held t = ok_past s update.UnsoundState _ u _ w (sym (cond_false (any group_lock (model_of s).active) _ _ n ∙ cond_true (any ecu_lock (model_of s).active) _ _ (sym (others_ecus (model_of s).active n) ∙ sym (others_as (model_of s).active) ∙ t)))

    pub none_held : list_any (λ (a : ActiveLock). not (is_vehicle a.lock.scope)) (model_of s).active ≡ false → (x : ℕ) → x ≡ raised k → Ok x ≡ prepare_update_on s k
    unfolding prepare_update_on
    none_held t x q = ok_past s update.UnsoundState _ u _ w (ap Ok q ∙ sym (cond_false (any group_lock (model_of s).active) _ _ n ∙ cond_false (any ecu_lock (model_of s).active) _ _ (sym (others_ecus (model_of s).active n) ∙ sym (others_as (model_of s).active) ∙ t)))

pub raised_is : (g : ℕ) → g ≤ 18446744073709551615 → min (g + 1) (2 ^ 64 - 1) ≡ raised g
unfolding raised
raised_is g f = elim (ℕ_discrete g 18446744073709551615) [ yes e ↦ rw e | no x ↦ rw (ne_eqb g 18446744073709551615 x) (omega (arith, x, f)) ]

-- ---- a deletion of a defunct entry, by the judgement on it
module _ (s : LockState) (i : LockId) (k : ScopeKey) (subject : ℕ) where
  found_done : (o : Option DefunctLock) → judge_drop k subject o ≡ Ok true → drop_found_on s i k subject o ≡ as_dropped (acknowledge_on s i)
  unfolding drop_found_on judge_entry
  found_done None e = absurd (let z : ◌≡◌ {A = ℕ} 0 1 = cc in omega arith)
  found_done (Some d) e = go (same_scope d.lock.scope k) (eqb d.lock.subject subject) e
    where
      go : (b c : Bool) → cond b (cond c (Ok true) (Err dropping.Forbidden)) (Ok false) ≡ Ok true → cond b (cond c (as_dropped (acknowledge_on s i)) (dropped (Err dropping.Forbidden) s)) (dropped (Ok false) s) ≡ as_dropped (acknowledge_on s i)
      go true true e = refl
      go true false e = absurd (let z : ◌≡◌ {A = ℕ} 0 1 = cc in omega arith)
      go false c e = absurd (let z : ◌≡◌ {A = ℕ} 0 1 = cc in omega arith)

  found_kept : (o : Option DefunctLock) → (judge_drop k subject o ≡ Ok true → ⊥) → drop_found_on s i k subject o ≡ dropped (judge_drop k subject o) s
  unfolding drop_found_on judge_entry
  found_kept None z = refl
  found_kept (Some d) z = go (same_scope d.lock.scope k) (eqb d.lock.subject subject) z
    where
      go : (b c : Bool) → (cond b (cond c (Ok true) (Err dropping.Forbidden)) (Ok false) ≡ Ok true → ⊥) → cond b (cond c (as_dropped (acknowledge_on s i)) (dropped (Err dropping.Forbidden) s)) (dropped (Ok false) s) ≡ dropped (cond b (cond c (Ok true) (Err dropping.Forbidden)) (Ok false)) s
      go true true z = absurd (z refl)
      go true false z = refl
      go false c z = refl

  -- the acknowledgement's own test is the one that is asked
  once : on_sound s (λ n. dropped (Err (dropping.UnsoundState n)) s) (as_dropped (acknowledge_on s i)) ≡ as_dropped (acknowledge_on s i)
  unfolding acknowledge_on on_sound
  once = go (broken_rule s) _
    where
      go : (v : Result ⊤ Unsound) (x : Acknowledged) → by_verdict v (λ n. dropped (Err (dropping.UnsoundState n)) s) (as_dropped (by_verdict v (λ n. acknowledged (Err (state_refusal.UnsoundState n)) s) x)) ≡ as_dropped (by_verdict v (λ n. acknowledged (Err (state_refusal.UnsoundState n)) s) x)
      go (Ok tt) x = refl
      go (Err (Rule n)) x = refl

  module _ (a : Result Bool DroppingRefusal) (e : a ≡ judge_drop k subject (find (has_id_d i) (model_of s).defunct)) where
    pub drop_done : a ≡ Ok true → as_dropped (acknowledge_on s i) ≡ delete_defunct_on s i k subject
    unfolding delete_defunct_on
    drop_done f = sym once ∙ ap (on_sound s (λ n. dropped (Err (dropping.UnsoundState n)) s)) (sym (found_done (find (has_id_d i) (model_of s).defunct) (sym e ∙ f)))

    pub drop_kept : (a ≡ Ok true → ⊥) → on_sound s (λ rule. dropped (Err (dropping.UnsoundState rule)) s) (dropped a s) ≡ delete_defunct_on s i k subject
    unfolding delete_defunct_on
    drop_kept z =
        ap (λ (b : Result Bool DroppingRefusal). on_sound s (λ rule. dropped (Err (dropping.UnsoundState rule)) s) (dropped b s)) e
        ∙ sym (ap (on_sound s (λ rule. dropped (Err (dropping.UnsoundState rule)) s)) (found_kept (find (has_id_d i) (model_of s).defunct) (λ f. z (e ∙ f))))

-- what is told where nothing goes: none of the two other answers lets the entry go
module _ (s : LockState) (i : LockId) (k : ScopeKey) (subject : ℕ) (a : Result Bool DroppingRefusal) (e : a ≡ judge_drop k subject (find (has_id_d i) (model_of s).defunct)) (r : Dropped) where
  pub kept_false : (b : Bool) → a ≡ Ok b → b ≡ false → r ≡ on_sound s (λ rule. dropped (Err (dropping.UnsoundState rule)) s) (dropped (Ok false) s) → r ≡ delete_defunct_on s i k subject
  kept_false b q f h =
      let p : a ≡ Ok false = q ∙ ap Ok f in
      h ∙ ap (λ (x : Result Bool DroppingRefusal). on_sound s (λ rule. dropped (Err (dropping.UnsoundState rule)) s) (dropped x s)) (sym p)
      ∙ drop_kept s i k subject a e (λ g. let z : ◌≡◌ {A = Result Bool DroppingRefusal} (Ok false) (Ok true) = sym p ∙ g in absurd (let z : ◌≡◌ {A = ℕ} 0 1 = cc in omega arith))

  pub kept_err : (x : DroppingRefusal) → a ≡ Err x → r ≡ on_sound s (λ rule. dropped (Err (dropping.UnsoundState rule)) s) (dropped (Err x) s) → r ≡ delete_defunct_on s i k subject
  kept_err x q h =
      h ∙ ap (λ (x : Result Bool DroppingRefusal). on_sound s (λ rule. dropped (Err (dropping.UnsoundState rule)) s) (dropped x s)) (sym q)
      ∙ drop_kept s i k subject a e (λ g. let z : ◌≡◌ {A = Result Bool DroppingRefusal} (Err x) (Ok true) = sym q ∙ g in absurd (let z : ◌≡◌ {A = ℕ} 0 1 = cc in omega arith))

-- ---- a state that is tested last
module _ (s : LockState) (a : Dropped) where
  pub tested_ok : (u : ⊤) → broken_rule s ≡ Ok u → a ≡ on_sound s (λ rule. dropped (Err (dropping.UnsoundState rule)) s) a
  unfolding on_sound
  tested_ok u q = sym (ap (λ (v : Result ⊤ Unsound). by_verdict v (λ n. dropped (Err (dropping.UnsoundState n)) s) a) q)

  pub tested_err : (e : Unsound) (g : DroppingRefusal) → broken_rule s ≡ Err e → g ≡ dropping.UnsoundState (rule_of e) → dropped (Err g) s ≡ on_sound s (λ rule. dropped (Err (dropping.UnsoundState rule)) s) a
  unfolding on_sound
  tested_err (Rule n) g q h = ap (λ (x : DroppingRefusal). dropped (Err x) s) h ∙ sym (ap (λ (v : Result ⊤ Unsound). by_verdict v (λ n. dropped (Err (dropping.UnsoundState n)) s) a) q)
