-- Images at the boundary: the refusal of an image, and what is told of its spare. Assumes nothing.
use mathlib.Core.Path.{◌≡◌, refl, sym, ap, ◌∙◌}
use mathlib.Core.Bool.{false, cond}
use mathlib.Core.List.{List, [], ◌∷◌}
use Prim.Native.Nat.{ℕ}
use native.Mathlib.Omega.{arith}
use lib.Dec.{eqb}
use borrow.Author.Tests.{eq-eqb}
use Rattle.lists.specs.Tests.{Yes}
use Rattle.lists.proofs.Tests.{against, cond_false}
use Rattle.lists.specs.Papers.{paper}
use Rattle.state.specs.declared.LockState.{LockState}
use Rattle.lookups.specs.Papers.{verdict_paper}
use Rattle.lookups.specs.Reads.{on_sound}
use Rattle.lookups.proofs.Verdicts.{on_broken, on_sound_lem}
use Rattle.std.specs.Prelude.{Result, Ok, Err, ⊤}
use Rattle.rules.specs.declared.Unsound.{Unsound}
use Rattle.rules.specs.declared.Unsound.TheVariants.{Rule}
use Rattle.rules.specs.Rules.{broken_rule}
use Rattle.image.specs.declared.Spare.{Spare}
use Rattle.image.specs.declared.Imaged.{Imaged}
use Rattle.image.specs.declared.ImageRefusal.{ImageRefusal}
use Rattle.image.specs.declared.ImageRefusal.TheVariants.{Torn, BadKind, BadField, BadOrder, UnsoundState}
use Rattle.image.specs.Image.{refusal, records_of, read_on, reading_paper}
use Rattle.std.specs.Result.{is_ok}
use Rattle.image.proofs.Halves.{not_tested, judged_by}
use Rattle.feed.specs.declared.events.Step.{Step}
use Rattle.feed.specs.Feed.{step_on, event_paper, is_unsound}
use Rattle.feed.proofs.Turning.{sound_told, step_unsound}
use Rattle.cablegorse.specs.declared.Told.{Told}
use Rattle.cablegorse.specs.Telling.{told_of, reading_told}
use Rattle.cablegorse.specs.Boundary.{on_image}
use Rattle.cablegorse.specs.Changes.{still, changed, step_put, apply_of}
use Rattle.cablegorse.specs.Code.{step_shown}
use Rattle.cablegorse.proofs.Outputs.{shown_put}

-- no refusal has the number 0
refusal_numbered : (why : ImageRefusal) → eqb (reading_told (Err why)).number 0 ≡ false
unfolding reading_told reading_paper
refusal_numbered (Torn x) = refl
refusal_numbered (BadKind x) = refl
refusal_numbered (BadField x) = refl
refusal_numbered (BadOrder x) = refl
refusal_numbered (UnsoundState x) = refl

pub not_zero : (why : ImageRefusal) → (reading_told (Err why)).number ≡ 0 → ⊥
not_zero why h = against (refusal_numbered why) (eq-eqb _ 0 h)

-- 12 of a state that is tested
pub broken_told : {A : Type 0} (f : Told → A) (s : LockState) (u : Unsound) (a : A) → Err u ≡ broken_rule s → f (told_of (verdict_paper (Err u))) ≡ on_sound s (λ n. f (told_of (paper 12 (n ∷ [])))) a
unfolding verdict_paper
broken_told f s (Rule k) a g = on_broken s (λ n. f (told_of (paper 12 (n ∷ [])))) a (Err (Rule k)) k g refl

-- i is what was read
module _ {A : Type 0} (s : List ℕ) (refused : Told → A) (go : Spare → A) (i : Imaged) (e : i ≡ read_on s) where
  by_told : {z : Result ⊤ ImageRefusal} → i.told ≡ z → cond (eqb (reading_told z).number 0) (go i.spare) (refused (reading_told z)) ≡ on_image s refused go
  unfolding on_image
  by_told h =
      ap (λ (x : Result ⊤ ImageRefusal). cond (eqb (reading_told x).number 0) (go i.spare) (refused (reading_told x))) (sym h)
      ∙ ap (λ (x : Imaged). cond (eqb (reading_told x.told).number 0) (go x.spare) (refused (reading_told x.told))) e

  pub image_refused : (why : ImageRefusal) → i.told ≡ Err why → refused (reading_told (Err why)) ≡ on_image s refused go
  image_refused why h = sym (cond_false _ _ _ (refusal_numbered why)) ∙ by_told h

  pub image_read : i.told ≡ Ok tt → go i.spare ≡ on_image s refused go
  unfolding reading_told reading_paper
  image_read h = by_told h

-- ---- a record over an image whose state the step tests
pub done_told : (t : Result ⊤ ImageRefusal) → (reading_told t).number ≡ 0 → t ≡ Ok tt
unfolding reading_told reading_paper
done_told (Ok tt) e = refl
done_told (Err (Torn x)) e = absurd (omega (arith, e))
done_told (Err (BadKind x)) e = absurd (omega (arith, e))
done_told (Err (BadField x)) e = absurd (omega (arith, e))
done_told (Err (BadOrder x)) e = absurd (omega (arith, e))
done_told (Err (UnsoundState x)) e = absurd (omega (arith, e))

-- i is what the records say
module _ (s : List ℕ) (i : Imaged) (e : i ≡ records_of s) where
  pub records_refused : {A : Type 0} (refused : Told → A) (go : Spare → A) (why : ImageRefusal) → i.told ≡ Err why → refused (reading_told (Err why)) ≡ on_image s refused go
  records_refused refused go why h = image_refused s refused go i (not_tested s i e (ap is_ok h)) why h

  module _ (h : i.told ≡ Ok tt) where
    abbrev fine : Yes (is_ok i.told)
    fine = ap is_ok h

    -- a state that is tested only now
    pub tested_read : {A : Type 0} (refused : Told → A) (go : Spare → A) → on_sound i.spare.state (λ k. refused (told_of (paper 12 (k ∷ [])))) (go i.spare) ≡ on_image s refused go
    unfolding reading_told reading_paper
    tested_read {A} refused go = by_verdict_lem (broken_rule i.spare.state) refl
      where
        by_verdict_lem : (v : Result ⊤ Unsound) → v ≡ broken_rule i.spare.state → on_sound i.spare.state (λ k. refused (told_of (paper 12 (k ∷ [])))) (go i.spare) ≡ on_image s refused go
        by_verdict_lem (Ok tt) g =
            sym (on_sound_lem i.spare.state _ (go i.spare) (Ok tt) g refl)
            ∙ image_read s refused go i (judged_by s i e (Ok tt) fine g) h
        by_verdict_lem (Err (Rule k)) g =
            sym (on_broken i.spare.state (λ j. refused (told_of (paper 12 (j ∷ [])))) _ (Err (Rule k)) k g refl)
            ∙ image_refused s refused go (refusal (UnsoundState k)) (judged_by s i e (Err (Rule k)) fine g) (UnsoundState k) refl

    module _ (f : List ℕ) (at : ℕ) (n m x : List ℕ) where
      broken_shown : (k : ℕ) → (Err (Rule k)) ≡ broken_rule i.spare.state → step_shown at (step_on i.spare f at) n m x ≡ apply_of s f at n m x
      unfolding apply_of step_shown is_unsound event_paper reading_told reading_paper
      broken_shown k g =
          ap (λ (y : Step). step_shown at y n m x) (step_unsound i.spare f at k (sym g))
          ∙ image_refused s (λ y. changed (still y 0 0 at) n m x) (λ sp. step_put at (step_on sp f at) n m x) (refusal (UnsoundState k)) (judged_by s i e (Err (Rule k)) fine g) (UnsoundState k) refl

      sound_shown : (Ok tt) ≡ broken_rule i.spare.state → step_shown at (step_on i.spare f at) n m x ≡ apply_of s f at n m x
      unfolding apply_of
      sound_shown g =
          sym (shown_put at (step_on i.spare f at) n m x false (sym (sound_told i.spare f at (sym g))) refl)
          ∙ image_read s (λ y. changed (still y 0 0 at) n m x) (λ sp. step_put at (step_on sp f at) n m x) i (judged_by s i e (Ok tt) fine g) h

      pub step_read : step_shown at (step_on i.spare f at) n m x ≡ apply_of s f at n m x
      step_read = go (broken_rule i.spare.state) refl
        where
          go : (v : Result ⊤ Unsound) → v ≡ broken_rule i.spare.state → step_shown at (step_on i.spare f at) n m x ≡ apply_of s f at n m x
          go (Ok tt) g = sound_shown g
          go (Err (Rule k)) g = broken_shown k g
