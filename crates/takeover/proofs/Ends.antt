-- The two ends of a feed.
--     two_ends    the spare ends as a primary that has done as many operations as the spare has applied records
--     equal_ends  so two spares that have applied as many are equal, and (primary_end) one that has applied all is the primary
--     own_done    what a primary's own step does is what is said of it here
-- Assumes nothing.
use mathlib.Core.Path.{◌≡◌, refl, sym, ap, subst, ◌∙◌}
use mathlib.Core.List.{List, [], ◌∷◌}
use Prim.Native.Nat.{ℕ, zero, suc, ◌≤◌, ◌<◌, ◌^◌}
use native.Mathlib.Omega.{arith}
use lib.ListN.{length, take, length-map}
use lib.Seq.{take_all}
use borrow.Author.Tests.{eq-eqb}
use Rattle.lists.proofs.Tests.{cond_true}
use Rattle.state.specs.declared.LockState.{LockState}
use Rattle.std.specs.Prelude.{Ok}
use Rattle.rules.specs.Rules.{broken_rule}
use Rattle.lookups.proofs.Verdicts.{on_sound_lem}
use Rattle.records.specs.declared.requests.Request.{Request}
use Rattle.image.specs.declared.Spare.{Spare}
use Rattle.calls.specs.declared.Performed.{Performed}
use Rattle.calls.specs.Calls.{perform_on}
use Rattle.feed.specs.declared.events.Step.{Step}
use Rattle.feed.specs.Feed.{after, Numbered}
use Rattle.feed.proofs.Turning.{distance_own}
use Rattle.takeover.specs.Feeding.{moved, fed_all, number_of, performs}
use Rattle.takeover.specs.Ends.{Wish, stamped, stamped_from, as_read, numbered_from, done_all, number_at, Turns, applied, Arrives, received_from, own_on}
use Rattle.takeover.proofs.Any as any
use Rattle.takeover.proofs.Keeping.{performs_keep}
use Rattle.calls.proofs.Normal.{act_normal, act_listed}
use Rattle.takeover.proofs.Receipts.{number_first, number_on, after_small, any_ends}
use Rattle.takeover.proofs.Running.{fed_all_records}

-- ---- the records in turn are the operations
pub numbered_turns : (ws : List Wish) (e : ℕ) → Turns number_of e (numbered_from e ws)
unfolding stamped_from
numbered_turns [] e = tt
numbered_turns (x ∷ xs) e = (refl, numbered_turns xs (after e))

pub stamped_length : (ws : List Wish) (e : ℕ) → length (stamped_from e ws) ≡ length ws
unfolding stamped_from
stamped_length [] e = refl
stamped_length (x ∷ xs) e = ap suc (stamped_length xs (after e))

pub numbered_length : (ws : List Wish) (e : ℕ) → length (numbered_from e ws) ≡ length ws
numbered_length ws e = length-map (stamped_from e ws) as_read ∙ stamped_length ws e

pub arrives_numbered : (w : ℕ) (ws : List Wish) (e : ℕ) (js : List ℕ) → Arrives w (length ws) js → Arrives w (length (numbered_from e ws)) js
arrives_numbered w ws e js = subst (λ (n : ℕ). Arrives w n js) (sym (numbered_length ws e))

numbered_take : (n : ℕ) (ws : List Wish) (e : ℕ) → take n (numbered_from e ws) ≡ numbered_from e (take n ws)
unfolding stamped_from
numbered_take zero ws e = refl
numbered_take (suc n) [] e = refl
numbered_take (suc n) (x ∷ xs) e = ap (λ (l : List Numbered). as_read (stamped e x) ∷ l) (numbered_take n xs (after e))

-- what is read back does what was written
pub read_performs : (x : Numbered) (s : LockState) → performs (as_read x) s ≡ (perform_on s x.request x.list).state
read_performs x s = ap (λ (p : Performed). p.state) (act_normal s _ x.request ∙ act_listed s x.list x.request)

all_done : (ws : List Wish) (sp : Spare) → broken_rule sp.state ≡ Ok tt → sp.expected < 2 ^ 32 → fed_all_records sp (numbered_from sp.expected ws) ≡ done_all sp ws
unfolding fed_all done_all stamped_from
all_done [] sp e h = refl
all_done (x ∷ xs) sp e h =
    let y = as_read (stamped sp.expected x) in
    let a = read_performs (stamped sp.expected x) sp.state in
    ap (λ (z : Spare). fed_all_records z (numbered_from (after sp.expected) xs))
    (any.fed_sound number_of performs sp y e ∙ cond_true _ _ _ (eq-eqb _ _ (distance_own sp.expected h)) ∙ ap (λ (s : LockState). moved s sp) a)
    ∙ all_done xs (moved (perform_on sp.state x.request x.words).state sp) (ap broken_rule (sym a) ∙ performs_keep y sp.state e) (after_small sp.expected)

-- ---- the primary
-- its own step on a sound spare is one operation done
pub own_done : (sp : Spare) → broken_rule sp.state ≡ Ok tt → (n : ℕ) (r : Request) (ws : List ℕ) → (own_on sp n r ws).spare ≡ moved (perform_on sp.state r ws).state sp
unfolding own_on
own_done sp e n r ws = ap (λ (x : Step). x.spare) (sym (on_sound_lem sp.state _ _ (broken_rule sp.state) refl e))

-- its number after so many
pub done_expected : (n : ℕ) (ws : List Wish) (sp : Spare) → sp.expected < 2 ^ 32 → n ≤ length ws → (done_all sp (take n ws)).expected ≡ number_at sp.expected n
unfolding done_all
done_expected zero ws sp h l = number_first sp.expected h
done_expected (suc n) [] sp h l = absurd (omega arith)
done_expected (suc n) (x ∷ xs) sp h l = done_expected n xs (moved (perform_on sp.state x.request x.words).state sp) (after_small sp.expected) (omega arith) ∙ number_on sp.expected n

module _ (sp : Spare) (e : broken_rule sp.state ≡ Ok tt) (h : sp.expected < 2 ^ 32) (wishes : List Wish) where
  abbrev received : List ℕ → Spare
  received js = fed_all_records sp (received_from sp.expected wishes js)

  -- for any window up to a whole round of numbers
  pub two_ends_within : (w : ℕ) → w ≤ 2 ^ 32 → (js : List ℕ) → Arrives w (length wishes) js → received js ≡ done_all sp (take (applied 0 js) wishes)
  two_ends_within w round js a =
      any_ends number_of performs performs_keep sp (numbered_from sp.expected wishes) h (numbered_turns wishes sp.expected) w round js (arrives_numbered w wishes sp.expected js a)
      ∙ ap (fed_all_records sp) (numbered_take (applied 0 js) wishes sp.expected)
      ∙ all_done (take (applied 0 js) wishes) sp e h

  -- "so long as no record is late or early by 2^31 or more"
  pub two_ends : (js : List ℕ) → Arrives (2 ^ 31) (length wishes) js → received js ≡ done_all sp (take (applied 0 js) wishes)
  two_ends = two_ends_within (2 ^ 31) (omega arith)

  -- "a spare that .. has applied as many records"
  pub equal_ends : (js js' : List ℕ) → Arrives (2 ^ 31) (length wishes) js → Arrives (2 ^ 31) (length wishes) js' → applied 0 js ≡ applied 0 js' → received js ≡ received js'
  equal_ends js js' a a' g = two_ends js a ∙ ap (λ (m : ℕ). done_all sp (take m wishes)) g ∙ sym (two_ends js' a')

  pub primary_end : (js : List ℕ) → Arrives (2 ^ 31) (length wishes) js → applied 0 js ≡ length wishes → received js ≡ done_all sp wishes
  primary_end js a g = two_ends js a ∙ ap (done_all sp) (ap (λ (m : ℕ). take m wishes) g ∙ take_all (length wishes) wishes (omega arith))
