-- 02, C-13: 7 at the library's door. Where cablegorse_apply answers 7, its values are the id of a lock of the image that is in
-- the way of the one that the record brings, and where the two meet. Assumes nothing.
use mathlib.Core.Path.{◌≡◌, refl}
use mathlib.Core.List.{List}
use Prim.Native.Nat.{ℕ}
use native.Mathlib.Omega.{arith}
use lib.Dec.{eqb, leb}
use Rattle.lists.proofs.Tests.{cond_both}
use Rattle.std.specs.Prelude.{Result, Ok, Err, ⊤}
use Rattle.rules.specs.Rules.{broken_rule}
use Rattle.promises.proofs.Spots.{perform_conflict}
use Rattle.image.specs.declared.Spare.{Spare}
use Rattle.image.specs.declared.ImageRefusal.{ImageRefusal}
use Rattle.records.specs.declared.frame.Unread.TheVariants.{Torn, BadKind, BadField}
use Rattle.image.specs.declared.ImageRefusal.TheVariants as image
use Rattle.image.specs.Image.{reading_paper}
use Rattle.feed.specs.declared.events.Step.{Step}
use Rattle.records.specs.declared.frame.Unread.{Unread}
use Rattle.feed.specs.declared.taking.Placed.{Placed}
use Rattle.feed.specs.Feed.{distance, numbered, body_in, taken_at, act_on, turn_on, taken_on, step_on, event_paper, is_applied}
use Rattle.feed.proofs.Turning.{step_comes}
use Rattle.cablegorse.specs.declared.Applied.{Applied}
use Rattle.cablegorse.specs.Telling.{told_of, reading_told}
use Rattle.cablegorse.specs.Changes.{Changed, any_short, step_put, apply_of}
use Rattle.doors.specs.Reads.{reads}
use Rattle.doors.specs.Conflicts.{ConflictAt, told_in, InTheWay}
use Rattle.doors.proofs.Doors.{image_comes}

-- ---- a step over the feed: 7 is told by the operation of a record in turn
module _ (sp : Spare) (f : List ℕ) (at : ℕ) where
  abbrev Tells : Step → Type 0
  Tells z = (event_paper z.told.event).number ≡ 7 → ConflictAt sp f at (event_paper z.told.event)

  taken_tells : broken_rule sp.state ≡ Ok tt → (t : Result Placed Unread) → taken_at f at ≡ t → Tells (taken_on sp f at t)
  unfolding turn_on act_on event_paper
  taken_tells e (Err (Torn x)) q = λ n. absurd (omega (arith, n))
  taken_tells e (Err (BadKind x)) q = λ n. absurd (omega (arith, n))
  taken_tells e (Err (BadField x)) q = λ n. absurd (omega (arith, n))
  taken_tells e (Ok p) q =
      let x = numbered p (body_in f p.frame) in
      cond_both Tells _ _ (eqb (distance x.number sp.expected) 0)
      (λ t n. record { placed = p; taken = q; refused = perform_conflict sp.state e x.list x.request n })
      (λ t. cond_both Tells _ _ (leb (distance x.number sp.expected) 2147483647) (λ u n. absurd (omega (arith, n))) (λ u n. absurd (omega (arith, n))))

  pub step_conflict : Tells (step_on sp f at)
  unfolding event_paper
  step_conflict = step_comes sp f at Tells (λ r n. absurd (omega (arith, n))) (λ e. taken_tells e (taken_at f at) refl)

-- ---- the call: an image that is refused, and an output that is too short, have other numbers
reading_other : (r : Result ⊤ ImageRefusal) → (reading_told r).number ≡ 7 → ⊥
unfolding reading_told reading_paper
reading_other (Ok tt) n = omega (arith, n)
reading_other (Err (image.Torn x)) n = omega (arith, n)
reading_other (Err (image.BadKind x)) n = omega (arith, n)
reading_other (Err (image.BadField x)) n = omega (arith, n)
reading_other (Err (image.BadOrder x)) n = omega (arith, n)
reading_other (Err (image.UnsoundState x)) n = omega (arith, n)

module _ (s f : List ℕ) (at : ℕ) (n m x : List ℕ) where
  abbrev Answers : Changed → Type 0
  Answers c = c.told.number ≡ 7 → InTheWay s f at c.told

  step_answers : (sp : Spare) → reads s sp → Answers (step_put at (step_on sp f at) n m x)
  unfolding step_put
  step_answers sp e =
      let st = step_on sp f at in
      cond_both Answers _ _ (is_applied st.told.event)
      (λ t. cond_both Answers _ _ (any_short at st n m x) (λ u q. absurd (omega (arith, q))) (λ u. told _ refl))
      (λ t. told _ refl)
    where
      told : (a : Applied) → told_in a ≡ told_of (event_paper (step_on sp f at).told.event) → (event_paper (step_on sp f at).told.event).number ≡ 7 → InTheWay s f at a
      told a v q = record { spare = sp; read = e; paper = _; conflict = step_conflict sp f at q; values = v }

  pub apply_conflict : Answers (apply_of s f at n m x)
  unfolding apply_of
  apply_conflict = image_comes Answers s _ _ (λ r q. absurd (reading_other r q)) step_answers
