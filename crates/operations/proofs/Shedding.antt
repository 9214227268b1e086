-- Defunct entries that are shed: the state that is left, and what `acknowledge_on` and `expire_defunct_on` are in each case of
-- their tests.
-- Assumes nothing.
use mathlib.Core.Bool.{Bool, true, false, cond}
use mathlib.Core.List.{List, [], ◌∷◌}
use mathlib.Core.Path.{◌≡◌, refl, sym, ap, ◌∙◌}
use Prim.Native.Nat.{ℕ, ◌+◌, ◌≤◌, ◌<◌}
use native.Mathlib.Omega.{arith}
use lib.ListN.{length, get_or, take, length-map}
use lib.Seq.{get_or-take, length-take-le}
use borrow.Author.Tests.{eq-eqb, ne_eqb}
use Rattle.lists.specs.Lists.{any, filter}
use Rattle.lists.specs.Places.{in_places}
use Rattle.lists.proofs.First.{some_kept, none_kept}
use Rattle.ids.specs.declared.LockId.{LockId}
use Rattle.state.specs.declared.DefunctLock.{DefunctLock}
use Rattle.state.specs.declared.LockState.{LockState}
use Rattle.state.specs.Locks.{has_id_d, blank_defunct}
use Rattle.state.specs.Model.{model_of, state_of, Tidy}
use Rattle.state.proofs.Laws.{active_count, active_in_lem, defunct_count}
use Rattle.std.specs.Prelude.{Ok, Err}
use Rattle.rules.specs.Rules.{broken_rule}
use Rattle.lookups.proofs.Verdicts.{on_sound_lem}
use Rattle.operations.specs.declared.answers.StateRefusal.TheVariants.{RevisionOverflow}
use Rattle.operations.specs.declared.answers.Shed.{Shed}
use Rattle.operations.specs.Defuncts.{remove_d, remove_all}
use Rattle.operations.specs.Checks.{last_revision, at_last_lem}
use Rattle.operations.specs.Acknowledge.{with_defunct, shed_in, acknowledged, told_acknowledge, acknowledged_to, acknowledge_on, lapsed, lapsed_of, ids_of_entries, shed, shed_to, expire_defunct_on}
use Rattle.operations.specs.Code.{flagged, Ready, with_entries, ids_told}
use Rattle.operations.proofs.Flags.{flagged_by}
use Rattle.operations.proofs.Leaving.{splice_all}

-- ---- marks that a test gives
module _ (s : LockState) (t : Tidy s) (p : DefunctLock → Bool) (goes : List Bool) (w : length goes ≡ 128) (f : (j : ℕ) → j < s.defuncts → get_or goes j false ≡ p (get_or s.defunct j blank_defunct)) where
  pub marked_by : flagged (take s.defuncts goes) (model_of s).defunct ≡ filter p (model_of s).defunct
  marked_by = flagged_by p (take s.defuncts goes) (model_of s).defunct blank_defunct (omega (arith, defunct_count s t, length-take-le s.defuncts goes (omega (arith, t.defunct))))
      (λ j k.
      let g : j < s.defuncts = omega (arith, defunct_count s t) in
      rw (get_or-take s.defuncts goes j false g, get_or-take s.defuncts s.defunct j blank_defunct g) (f j g))

-- ---- the state without them, x, and its number
module _ (s : LockState) (t : Tidy s) (l : List DefunctLock) (x : LockState) (q : x ≡ with_entries s l) where
  same : x.revision ≡ s.revision
  same = ap (λ (y : LockState). y.revision) q

  left : (n : ℕ) → record { revision = n; active = x.active; actives = x.actives; defunct = x.defunct; defuncts = x.defuncts } ≡ state_of (with_defunct (model_of s) n l)
  left n =
      ap (λ (y : LockState). record { revision = n; active = y.active; actives = y.actives; defunct = y.defunct; defuncts = y.defuncts }) q
      ∙ (λ j. record { revision = n; active = places j; actives = number j; defunct = in_places 128 blank_defunct l; defuncts = length l })
    where
      places : s.active ≡ (state_of (model_of s)).active
      places = sym (active_in_lem s t)

      number : s.actives ≡ length (model_of s).active
      number = sym (active_count s t)

  pub at_last : x.revision ≡ last_revision → s.revision ≡ last_revision
  at_last h = sym same ∙ h

  pub left_last : x.revision ≡ last_revision → x ≡ state_of (shed_in (model_of s) l)
  unfolding shed_in at_last_lem
  left_last h = rw (eq-eqb s.revision last_revision (at_last h)) (left x.revision ∙ ap (λ (n : ℕ). state_of (with_defunct (model_of s) n l)) same)

  pub before_last : (x.revision ≡ last_revision → ⊥) → s.revision ≡ last_revision → ⊥
  before_last h g = h (same ∙ g)

  pub left_next : (x.revision ≡ last_revision → ⊥) → record { revision = x.revision + 1; active = x.active; actives = x.actives; defunct = x.defunct; defuncts = x.defuncts } ≡ state_of (shed_in (model_of s) l)
  unfolding shed_in at_last_lem
  left_next h = rw (ne_eqb s.revision last_revision (before_last h)) (left (x.revision + 1) ∙ ap (λ (n : ℕ). state_of (with_defunct (model_of s) (n + 1) l)) same)

-- ---- by the tests of a sound state
module _ (s : LockState) (w : broken_rule s ≡ Ok tt) where
  module _ (i : LockId) (b : Bool) (e : b ≡ any (has_id_d i) (model_of s).defunct) where
    pub absent : b ≡ false → acknowledged (Ok false) s ≡ acknowledge_on s i
    unfolding acknowledge_on
    absent f = ap (λ (c : Bool). cond c (acknowledged_to s (state_of (shed_in (model_of s) (remove_d i (model_of s).defunct)))) (acknowledged (Ok false) s)) (sym f ∙ e) ∙ on_sound_lem s _ _ (broken_rule s) refl w

    -- n is the state that is left
    module _ (f : b ≡ true) (r : Ready s) (n : LockState) (h : n ≡ state_of (shed_in (model_of s) (remove_all (filter (has_id_d i) (model_of s).defunct) (model_of s).defunct))) where
      there : acknowledged_to s n ≡ acknowledge_on s i
      unfolding acknowledge_on
      there = ap (λ (c : Bool). cond c (acknowledged_to s n) (acknowledged (Ok false) s)) (sym f ∙ e) ∙ rw (h, splice_all i (model_of s).defunct r.order) (on_sound_lem s _ _ (broken_rule s) refl w)

      pub there_last : s.revision ≡ last_revision → acknowledged (Err RevisionOverflow) n ≡ acknowledge_on s i
      unfolding acknowledged_to told_acknowledge at_last_lem
      there_last g = rw (eq-eqb s.revision last_revision g) at there

      pub there_next : (s.revision ≡ last_revision → ⊥) → acknowledged (Ok true) n ≡ acknowledge_on s i
      unfolding acknowledged_to told_acknowledge at_last_lem
      there_next g = rw (ne_eqb s.revision last_revision g) at there

  -- x is what is told of the ids
  module _ (now : ℕ) (x : Shed) (e : x ≡ ids_told (ids_of_entries (lapsed_of now (model_of s)))) where
    count : x.gone ≡ length (lapsed_of now (model_of s))
    count = ap (λ (y : Shed). y.gone) e ∙ length-map (lapsed_of now (model_of s)) (λ d. d.lock.id)

    pub none_lapsed : x.gone ≤ 0 → record { told = x; state = s } ≡ expire_defunct_on s now
    unfolding expire_defunct_on
    none_lapsed f =
        let g : any (lapsed now) (model_of s).defunct ≡ false = none_kept (lapsed now) (model_of s).defunct (omega (arith, count)) in
        rw (← on_sound_lem s _ _ (broken_rule s) refl w, g, e) (ap (λ (l : List LockId). shed (Ok tt) l s) (no_ids (lapsed_of now (model_of s)) (omega (arith, count))))
      where
        no_ids : (l : List DefunctLock) → length l ≡ 0 → ids_of_entries l ≡ []
        no_ids [] z = refl
        no_ids (d ∷ ds) z = absurd (omega arith)

    module _ (f : 0 < x.gone) (n : LockState) (h : n ≡ state_of (shed_in (model_of s) (remove_all (lapsed_of now (model_of s)) (model_of s).defunct))) where
      some_lapsed : shed_to s (ids_of_entries (lapsed_of now (model_of s))) n ≡ expire_defunct_on s now
      unfolding expire_defunct_on
      some_lapsed =
          let k : any (lapsed now) (model_of s).defunct ≡ true = some_kept (lapsed now) (model_of s).defunct (λ z. omega (arith, count)) in
          rw (← on_sound_lem s _ _ (broken_rule s) refl w, k, h)

      pub lapsed_last : s.revision ≡ last_revision → shed (Err RevisionOverflow) [] n ≡ expire_defunct_on s now
      unfolding shed_to at_last_lem
      lapsed_last g = rw (eq-eqb s.revision last_revision g) at some_lapsed

      pub lapsed_next : (s.revision ≡ last_revision → ⊥) → record { told = x; state = n } ≡ expire_defunct_on s now
      unfolding shed_to at_last_lem
      lapsed_next g = rw e (rw (ne_eqb s.revision last_revision g) at some_lapsed)
