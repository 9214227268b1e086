-- A state whose numbers are within the fields of an image keeps them there over every operation whose own numbers are.
-- Assumes nothing.
use mathlib.Core.Path.{◌≡◌, refl, sym, ◌∙◌}
use mathlib.Core.Bool.{Bool, cond}
use mathlib.Core.List.{List}
use Rattle.std.specs.Prelude.{Option, None, Some}
use Prim.Native.Nat.{ℕ, ◌+◌, ◌<◌, ◌^◌}
use native.Mathlib.Omega.{arith}
use lib.Dec.{leb, ltb}
use borrow.Author.Tests.{eqb-false}
use Rattle.lists.specs.Tests.{Yes, No}
use Rattle.lists.specs.Lists.{Mem, any, find}
use Rattle.lists.proofs.Tests.{cond_both}
use Rattle.ids.specs.declared.LockId.{LockId}
use Rattle.state.specs.declared.ActiveLock.{ActiveLock}
use Rattle.state.specs.declared.DefunctLock.{DefunctLock}
use Rattle.state.specs.Locks.{has_id, has_id_d, normal}
use Rattle.state.specs.Model.{Model, full}
use Rattle.rules.specs.Rules.{sound}
use Rattle.std.specs.Prelude.{Result, Ok, Err, ⊤}
use Rattle.operations.specs.declared.answers.Refusal.TheVariants.{RevisionOverflow}
use Rattle.operations.specs.declared.answers.RenewalRefusal.{RenewalRefusal}
use Rattle.operations.specs.declared.answers.RenewalRefusal.TheVariants as renewal
use Rattle.operations.specs.Answers.{is_done, refuse_if}
use Rattle.operations.specs.Defuncts.{remove_d, remove_all}
use Rattle.operations.specs.Checks.{last_revision, at_last_lem, check_revision}
use Rattle.operations.specs.Code.{judge_bundled}
use Rattle.operations.specs.Insert.{inserted_in, judge_insert}
use Rattle.operations.specs.Vehicle.{vehicle_in, judge_vehicle}
use Rattle.operations.specs.Renew.{renewed_in, judge_found, judge_renew}
use Rattle.operations.specs.Delete.{without_tree}
use Rattle.operations.specs.Replace.{replaced_in, judge_replace}
use Rattle.operations.specs.Acknowledge.{shed_in, lapsed, lapsed_of}
use Rattle.operations.proofs.Bundles.{judge_insert_lem, judge_replace_lem}
use Rattle.promises.specs.Steps.{Op, insert_active, insert_vehicle, renew, delete, begin_expiration, commit_replacement, acknowledge, expire_defunct, after_renewal, after_delete, after_expiration, step}
use Rattle.promises.proofs.Passed.{then_done, done_is, is_done_lem, went_on}
use Rattle.promises.proofs.Carried.{Held, remove_holds, all_holds, insert_holds, vehicle_holds, renew_holds, delete_holds, shed_holds, replace_holds}
use Rattle.records.proofs.Fits.{FitA, fit_normal}
use Rattle.doors.proofs.Fits.{FitD, fit_nest, fit_extend, fit_enter, fit_redirect}

pub record Ranged (m : Model) : Type 0 where
  pub revision : m.revision < 2 ^ 64
  pub held : Held FitA FitD m

-- the numbers that an operation brings along
abbrev pub Brought : Op → Type 0
Brought (insert_active y) = FitA y
Brought (insert_vehicle y ws) = FitA y
Brought (renew i e now has d) = (e < 2 ^ 64) × (d < 2 ^ 32)
Brought (delete i) = Unit {0}
Brought (begin_expiration i now) = Unit {0}
Brought (commit_replacement ws y by at) = FitA y × (by < 2 ^ 32) × (at < 2 ^ 64)
Brought (acknowledge i) = Unit {0}
Brought (expire_defunct now) = Unit {0}

-- ---- the revision
rises : (r : ℕ) → r < 2 ^ 64 → No (at_last_lem r) → r + 1 < 2 ^ 64
unfolding at_last_lem
rises r h t = let z = eqb-false r last_revision t in omega (arith, h)

may_rise : (r : ℕ) → Yes (is_done (check_revision r)) → No (at_last_lem r)
unfolding check_revision is_done
may_rise r t = (went_on (at_last_lem r) (Err RevisionOverflow) (Ok tt) refl t).0

shed_rises : (r : ℕ) → r < 2 ^ 64 → cond (at_last_lem r) r (r + 1) < 2 ^ 64
shed_rises r h = cond_both (λ (n : ℕ). n < 2 ^ 64) r (r + 1) (at_last_lem r) (λ t. h) (λ t. rises r h t)

module _ (m : Model) (s : Yes (sound full m)) (g : Ranged m) where
  abbrev h : Held FitA FitD m
  h = g.held

  insert_ranged : (x : ActiveLock) → FitA x → judge_insert full m x ≡ Ok tt → Ranged (inserted_in m x)
  unfolding inserted_in judge_bundled
  insert_ranged x f e =
      let h1 = then_done _ _ (done_is _ (sym (judge_insert_lem full m x) ∙ e)) in
      let h2 = then_done _ _ h1.1 in
      let h3 = then_done _ _ h2.1 in
      record { revision = rises m.revision g.revision (may_rise m.revision h3.0); held = insert_holds FitA FitD fit_nest fit_redirect m h x f }

  vehicle_ranged : (x : ActiveLock) (ws : List ℕ) → FitA x → judge_vehicle full m x ws ≡ Ok tt → Ranged (vehicle_in m x ws)
  unfolding vehicle_in inserted_in judge_vehicle
  vehicle_ranged x ws f e =
      let h1 = then_done _ _ (done_is _ e) in
      let h2 = then_done _ _ h1.1 in
      let h3 = then_done _ _ h2.1 in
      let h4 = then_done _ _ h3.1 in
      let h5 = then_done _ _ h4.1 in
      let h6 = then_done _ _ h5.1 in
      record { revision = rises m.revision g.revision (may_rise m.revision h6.0); held = vehicle_holds FitA FitD fit_nest fit_redirect m h x ws f }

  replace_ranged : (ws : List ℕ) (x : ActiveLock) (by at : ℕ) → FitA x → by < 2 ^ 32 → at < 2 ^ 64 → judge_replace full m ws x by at ≡ Ok tt → Ranged (replaced_in m ws x by at)
  unfolding replaced_in
  replace_ranged ws x by at f hb ha e =
      let h1 = then_done _ _ (done_is _ (sym (judge_replace_lem full m ws x by at) ∙ e)) in
      let h2 = then_done _ _ h1.1 in
      let h3 = then_done _ _ h2.1 in
      let h4 = then_done _ _ h3.1 in
      record {
        revision = rises m.revision g.revision (may_rise m.revision h4.0);
        held = replace_holds FitA FitD fit_nest fit_redirect m h full s ws x by at f (fit_enter x by at f hb ha);
      }

  renewed_ranged : (i : LockId) (e : ℕ) (has : Bool) (d : ℕ) → e < 2 ^ 64 → d < 2 ^ 32 → No (at_last_lem m.revision) → Ranged (renewed_in m i e has d)
  unfolding renewed_in
  renewed_ranged i e has d he hd t =
      record { revision = rises m.revision g.revision t; held = renew_holds FitA FitD fit_nest fit_redirect m h i e has d (fit_extend e has d he hd) }

  found_ranged : (i : LockId) (e now : ℕ) (has : Bool) (d : ℕ) → e < 2 ^ 64 → d < 2 ^ 32 → (o : Option ActiveLock) → Ranged (after_renewal (judge_found m i e now o) m (renewed_in m i e has d))
  unfolding refuse_if
  found_ranged i e now has d he hd None = g
  found_ranged i e now has d he hd (Some a) =
      cond_both (λ (r : Result ⊤ RenewalRefusal). Ranged (after_renewal r m (renewed_in m i e has d))) (Err renewal.LockExpired) _ (leb a.expires now) (λ t. g) (λ t.
      cond_both (λ (r : Result ⊤ RenewalRefusal). Ranged (after_renewal r m (renewed_in m i e has d))) (Err renewal.RenewalNotExtension) _ (leb e a.expires) (λ u. g) (λ u.
      cond_both (λ (r : Result ⊤ RenewalRefusal). Ranged (after_renewal r m (renewed_in m i e has d))) (Err renewal.RevisionOverflow) (Ok tt) (at_last_lem m.revision) (λ v. g)
      (renewed_ranged i e has d he hd)))

  renew_ranged : (i : LockId) (e now : ℕ) (has : Bool) (d : ℕ) → e < 2 ^ 64 → d < 2 ^ 32 → Ranged (after_renewal (judge_renew m i e now) m (renewed_in m i e has d))
  unfolding judge_renew
  renew_ranged i e now has d he hd = found_ranged i e now has d he hd (find (has_id i) m.active)

  without_ranged : (r : ActiveLock) → No (at_last_lem m.revision) → Ranged (without_tree m r)
  unfolding without_tree
  without_ranged r t = record { revision = rises m.revision g.revision t; held = delete_holds FitA FitD fit_nest fit_redirect m h r }

  tree_ranged : (r : ActiveLock) → Ranged (cond (at_last_lem m.revision) m (without_tree m r))
  tree_ranged r = cond_both Ranged m (without_tree m r) (at_last_lem m.revision) (λ t. g) (without_ranged r)

  delete_ranged : (o : Option ActiveLock) → Ranged (after_delete m o)
  delete_ranged None = g
  delete_ranged (Some r) = tree_ranged r

  expire_ranged : (now : ℕ) (o : Option ActiveLock) → Ranged (after_expiration now m o)
  expire_ranged now None = g
  expire_ranged now (Some r) = cond_both Ranged m _ (ltb now r.expires) (λ t. g) (λ t. tree_ranged r)

  shed_ranged : (t : List DefunctLock) → ((d : DefunctLock) → Mem d t → FitD d) → Ranged (shed_in m t)
  unfolding shed_in
  shed_ranged t f = record { revision = shed_rises m.revision g.revision; held = shed_holds FitA FitD fit_nest fit_redirect m h t f }

  pub step_ranged : (o : Op) → Brought o → Ranged (step full m o)
  unfolding step
  step_ranged (insert_active y) f = cond_both Ranged _ m (is_done (judge_insert full m (normal y))) (λ t. insert_ranged (normal y) (fit_normal y f) (is_done_lem _ t)) (λ t. g)
  step_ranged (insert_vehicle y ws) f = cond_both Ranged _ m (is_done (judge_vehicle full m (normal y) ws)) (λ t. vehicle_ranged (normal y) ws (fit_normal y f) (is_done_lem _ t)) (λ t. g)
  step_ranged (renew i e now has d) f = renew_ranged i e now has d f.0 f.1
  step_ranged (delete i) f = delete_ranged (find (has_id i) m.active)
  step_ranged (begin_expiration i now) f = expire_ranged now (find (has_id i) m.active)
  step_ranged (commit_replacement ws y by at) f = cond_both Ranged _ m (is_done (judge_replace full m ws (normal y) by at)) (λ t. replace_ranged ws (normal y) by at (fit_normal y f.0) f.1 f.2 (is_done_lem _ t)) (λ t. g)
  step_ranged (acknowledge i) f = cond_both Ranged _ m (any (has_id_d i) m.defunct) (λ t. shed_ranged (remove_d i m.defunct) (remove_holds FitA FitD fit_nest fit_redirect i m.defunct h.defunct)) (λ t. g)
  step_ranged (expire_defunct now) f = cond_both Ranged _ m (any (lapsed now) m.defunct) (λ t. shed_ranged (remove_all (lapsed_of now m) m.defunct) (all_holds FitA FitD fit_nest fit_redirect (lapsed_of now m) m.defunct h.defunct)) (λ t. g)
