-- The takeover of feeds as bytes: a use of the theorem over any element.
--     run_fed         a run over bytes ends as the records in them, places aside, make it end
--     takeover_bytes  so of two feeds, the second with records out of turn mixed in, a spare ends alike
-- Assumes nothing.
use mathlib.Core.Path.{◌≡◌, refl, sym, ap, ◌∙◌}
use mathlib.Core.Bool.{Bool, true, false, cond}
use mathlib.Core.List.{List}
use Prim.Native.Nat.{ℕ, zero, suc}
use lib.Dec.{eqb, leb}
use Rattle.lists.proofs.Tests.{cond_false}
use Rattle.std.specs.Prelude.{Result, Ok, Err}
use Rattle.rules.specs.Rules.{broken_rule}
use Rattle.image.specs.declared.Spare.{Spare}
use Rattle.feed.specs.declared.events.FeedRefusal.TheVariants.{Repeat, Ahead}
use Rattle.feed.specs.declared.events.Step.{Step}
use Rattle.records.specs.declared.frame.Unread.{Unread}
use Rattle.records.specs.declared.frame.Unread.TheVariants as U
use Rattle.feed.specs.declared.taking.Placed.{Placed}
use Rattle.feed.specs.Feed.{distance, Numbered, numbered, body_in, taken_at, still, act_on, turn_on, taken_on}
use Rattle.feed.specs.Runs.{stops, run_on}
use Rattle.feed.proofs.Turning.{turn_next, turn_goes, step_sound}
use Rattle.takeover.specs.Feeding.{moved, fed, fed_all, in_turn, Mixed, number_of, performs, on_taken, records_in}
use Rattle.takeover.proofs.Any as any
use Rattle.takeover.proofs.Keeping.{performs_keep}

-- ---- records, places aside
abbrev pub fed_all_records : Spare → List Numbered → Spare
fed_all_records = fed_all number_of performs

pub only_in_turn : (sp : Spare) (xs : List Numbered) → fed_all_records sp xs ≡ fed_all_records sp (in_turn number_of sp.expected xs)
only_in_turn = any.only_in_turn number_of performs performs_keep

pub takeover : (sp : Spare) (xs ys : List Numbered) → Mixed number_of sp.expected xs ys → fed_all_records sp ys ≡ fed_all_records sp xs
takeover = any.takeover number_of performs performs_keep

-- ---- a record in bytes does what it does, places aside
pub turn_fed : (sp : Spare) (n : ℕ) (x : Numbered) → broken_rule sp.state ≡ Ok tt → (turn_on sp n x).spare ≡ fed number_of performs sp x
unfolding turn_on act_on
turn_fed sp n x e = go (eqb (distance x.number sp.expected) 0) (leb (distance x.number sp.expected) 2147483647) ∙ sym (any.fed_sound number_of performs sp x e)
  where
    go : (c d : Bool) → (cond c (act_on sp n x) (cond d (still sp (Err (Ahead sp.expected)) x.number n) (still sp (Err (Repeat sp.expected)) x.number n))).spare
        ≡ cond c (moved (performs x sp.state) sp) sp
    go true d = refl
    go false true = refl
    go false false = refl

module _ (sp : Spare) (s : List ℕ) (at k : ℕ) (e : broken_rule sp.state ≡ Ok tt)
    (rest : (sq : Spare) → broken_rule sq.state ≡ Ok tt → (n : ℕ) → run_on k sq s n ≡ fed_all_records sq (records_in k s n)) where
  abbrev on_step : Step → Spare
  on_step x = cond (stops x.told.event) sp (run_on k x.spare s x.told.next)

  run_turn : (x : Numbered) (n : ℕ) → on_step (turn_on sp n x) ≡ fed_all_records (fed number_of performs sp x) (records_in k s n)
  run_turn x n =
      cond_false _ _ _ (turn_goes sp n x)
      ∙ ap (λ (m : ℕ). run_on k (turn_on sp n x).spare s m) (turn_next sp n x)
      ∙ ap (λ (y : Spare). run_on k y s n) (turn_fed sp n x e)
      ∙ rest (fed number_of performs sp x) (any.fed_keeps number_of performs performs_keep sp x e) n

  run_taken : (t : Result Placed Unread) → on_step (taken_on sp s at t) ≡ fed_all_records sp (on_taken s (records_in k s) t)
  unfolding fed_all
  run_taken (Err (U.Torn x)) = refl
  run_taken (Err (U.BadKind x)) = refl
  run_taken (Err (U.BadField x)) = refl
  run_taken (Ok p) = run_turn (numbered p (body_in s p.frame)) p.frame.next

pub run_fed : (k : ℕ) (sp : Spare) → broken_rule sp.state ≡ Ok tt → (s : List ℕ) (at : ℕ) → run_on k sp s at ≡ fed_all_records sp (records_in k s at)
unfolding run_on records_in fed_all
run_fed zero sp e s at = refl
run_fed (suc k) sp e s at =
    ap (on_step sp s at k e (λ sq f n. run_fed k sq f s n)) (step_sound sp s at e) ∙ run_taken sp s at k e (λ sq f n. run_fed k sq f s n) (taken_at s at)

-- two feeds, the second with records out of turn mixed in
pub takeover_bytes : (sp : Spare) → broken_rule sp.state ≡ Ok tt → (s t : List ℕ) (a b j k : ℕ) → Mixed number_of sp.expected (records_in j s a) (records_in k t b) → run_on k sp t b ≡ run_on j sp s a
takeover_bytes sp e s t a b j k m = run_fed k sp e t b ∙ takeover sp _ _ m ∙ sym (run_fed j sp e s a)
