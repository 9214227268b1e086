-- A run over a chunk: what is left of it from the place that was reached; and its spare is the one of the plain run (Runs.antt).
-- Assumes nothing.
use Rattle.std.proofs.Common.{◌≡◌, ℕ, zero, suc, ◌+◌, ◌-◌, ◌<◌, ◌≤◌, Bool, true, false, cond, leb, List, length, sym, refl, ap, ◌∙◌, true≢false, arith, le-leb, leb-false, leb-true}
use borrow.Author.Tests.{lt-leb}
use Rattle.lists.proofs.Tests.{cond_true, cond_false}
use Rattle.image.specs.declared.Spare.{Spare}
use Rattle.feed.specs.declared.events.Step.{Step}
use Rattle.feed.specs.declared.following.Run.{Run}
use Rattle.std.specs.Prelude.{Result, Ok, Err, ⊤}
use Rattle.calls.specs.declared.Outcome.{Outcome}
use Rattle.feed.specs.declared.events.FeedRefusal.{FeedRefusal}
use Rattle.feed.specs.Feed.{step_on, is_applied}
use Rattle.feed.specs.Runs.{stops, why, run_on, fresh, passed, halted, follow_on}
use Rattle.feed.proofs.Running.{step_on_lem, run_stop, run_go, run_end}

pub at_most_one : (b : Bool) → cond b 1 0 ≤ 1
at_most_one true = omega arith
at_most_one false = omega arith

-- a run that has come so far
abbrev pub reached : Spare → ℕ → ℕ → ℕ → Run
reached sp at read applied = record { spare = sp; place = at; read = read; applied = applied; stop = Ok tt }

-- k steps are enough for the bytes that are left, and no more records were read than bytes
pub record Left (start : Spare) (s : List ℕ) (sp : Spare) (at read applied : ℕ) : Type 0 where
  pub steps : ℕ
  pub enough : length s - at ≤ steps
  pub goes : follow_on steps (reached sp at read applied) s ≡ follow_on (length s) (fresh start) s
  pub few : read ≤ at
  pub fewer : applied ≤ read

module _ (r : Run) (s : List ℕ) (k : ℕ) where
  pub follow_end : length s ≤ r.place → follow_on k r s ≡ r
  unfolding follow_on
  follow_end h = go k
    where
      go : (k : ℕ) → follow_on k r s ≡ r
      go zero = refl
      go (suc k) = cond_true _ _ _ (le-leb (length s) r.place h)

  module _ (h : r.place < length s) where
    pub follow_stop : stops (step_on r.spare s r.place).told.event ≡ true → follow_on (suc k) r s ≡ halted r (step_on r.spare s r.place).told.event
    unfolding follow_on
    follow_stop t = cond_false _ _ _ (lt-leb (length s) r.place h) ∙ cond_true _ _ _ t

    pub follow_go : stops (step_on r.spare s r.place).told.event ≡ false → follow_on (suc k) r s ≡ follow_on k (passed r (step_on r.spare s r.place)) s
    unfolding follow_on
    follow_go t = cond_false _ _ _ (lt-leb (length s) r.place h) ∙ cond_false _ _ _ t

module _ (start : Spare) (s : List ℕ) where
  pub starts : Left start s start 0 0 0
  starts = record { steps = length s; enough = omega arith; goes = refl; few = omega arith; fewer = omega arith }

  module _ (sp : Spare) (at read applied : ℕ) (l : Left start s sp at read applied) where
    pub ends : length s ≤ at → reached sp at read applied ≡ follow_on (length s) (fresh start) s
    ends h = sym (follow_end (reached sp at read applied) s l.steps h) ∙ l.goes

    -- b: whether the step at this place reads nothing
    module _ (h : at < length s) (x : Step) (e : x ≡ step_on sp s at) (b : Bool) (eb : b ≡ stops x.told.event) where
      test : stops (step_on sp s at).told.event ≡ b
      test = ap (λ (y : Step). stops y.told.event) (sym e) ∙ sym eb

      pub halts : b ≡ true → halted (reached sp at read applied) x.told.event ≡ follow_on (length s) (fresh start) s
      halts g = ap (λ (y : Step). halted (reached sp at read applied) y.told.event) e ∙ go l.steps l.enough ∙ l.goes
        where
          go : (k : ℕ) → length s - at ≤ k → halted (reached sp at read applied) (step_on sp s at).told.event ≡ follow_on k (reached sp at read applied) s
          go zero m = absurd (omega arith)
          go (suc k) m = sym (follow_stop (reached sp at read applied) s k h (test ∙ g))

      pub moves : b ≡ false → at < x.told.next
      moves g = rw e (step_on_lem sp s at (test ∙ g))

      pub turns : b ≡ false → (c : ℕ) → c ≡ cond (is_applied x.told.event) 1 0 → Left start s x.spare x.told.next (read + 1) (applied + c)
      turns g c q = go l.steps l.enough l.goes
        where
          go : (k : ℕ) → length s - at ≤ k → follow_on k (reached sp at read applied) s ≡ follow_on (length s) (fresh start) s → Left start s x.spare x.told.next (read + 1) (applied + c)
          go zero m t = absurd (omega arith)
          go (suc k) m t =
              let z = moves g in
              let f = l.few in
              let w = l.fewer in
              let o = at_most_one (is_applied x.told.event) in
              record {
                steps = k;
                enough = omega arith;
                goes = ap (λ (d : ℕ). follow_on k (reached x.spare x.told.next (read + 1) (applied + d)) s) q ∙ ap (λ (y : Step). follow_on k (passed (reached sp at read applied) y) s) e ∙ sym (follow_go (reached sp at read applied) s k h (test ∙ g)) ∙ t;
                few = omega arith;
                fewer = omega (arith, q);
              }

-- ---- the spare of a chunk is the plain run's
pub follow_runs : (k : ℕ) (r : Run) (s : List ℕ) → (follow_on k r s).spare ≡ run_on k r.spare s r.place
unfolding follow_on run_on
follow_runs zero r s = refl
follow_runs (suc k) r s = ended (follow_runs k (passed r (step_on r.spare s r.place)) s) (leb (length s) r.place) refl
  where
    Rest : Type 0
    Rest = (follow_on k (passed r (step_on r.spare s r.place)) s).spare ≡ run_on k (step_on r.spare s r.place).spare s (step_on r.spare s r.place).told.next

    stopped : Rest → r.place < length s → (b : Bool) → stops (step_on r.spare s r.place).told.event ≡ b → (follow_on (suc k) r s).spare ≡ run_on (suc k) r.spare s r.place
    stopped w h true t = ap (λ (x : Run). x.spare) (follow_stop r s k h t) ∙ sym (run_stop r.spare s r.place k t)
    stopped w h false t = ap (λ (x : Run). x.spare) (follow_go r s k h t) ∙ w ∙ sym (run_go r.spare s r.place k t)

    ended : Rest → (b : Bool) → leb (length s) r.place ≡ b → (follow_on (suc k) r s).spare ≡ run_on (suc k) r.spare s r.place
    ended w true t = let h = leb-true (length s) r.place t in ap (λ (x : Run). x.spare) (follow_end r s (suc k) h) ∙ sym (run_end r.spare s r.place (suc k) h)
    ended w false t = stopped w (leb-false (length s) r.place t) _ refl

-- ---- a run that is told as ended is at the chunk's end: as many turns as there are bytes are enough
abbrev pub is_end : Result ⊤ FeedRefusal → Bool
is_end (Ok u) = true
is_end (Err x) = false

-- what stops a run isn't its end
stopped_why : (e : Result Outcome FeedRefusal) → stops e ≡ true → is_end (why e) ≡ false
stopped_why (Ok o) h = sym h
stopped_why (Err x) h = refl

pub ended_there : (k : ℕ) (r : Run) (s : List ℕ) → length s - r.place ≤ k → is_end (follow_on k r s).stop ≡ true → length s ≤ (follow_on k r s).place
unfolding follow_on
ended_there zero r s m e = omega arith
ended_there (suc k) r s m e =
    go (leb (length s) r.place) refl (stops (step_on r.spare s r.place).told.event) refl
    (λ h t. ended_there k (passed r (step_on r.spare s r.place)) s (let z = step_on_lem r.spare s r.place t in omega (arith, h, m, z)) (sym (ap (λ (x : Run). is_end x.stop) (follow_go r s k h t)) ∙ e))
  where
    go : (b : Bool) → leb (length s) r.place ≡ b → (c : Bool) → stops (step_on r.spare s r.place).told.event ≡ c
        → (r.place < length s → stops (step_on r.spare s r.place).told.event ≡ false → length s ≤ (follow_on k (passed r (step_on r.spare s r.place)) s).place)
        → length s ≤ (follow_on (suc k) r s).place
    go true t c u f = let h = leb-true (length s) r.place t in rw (follow_end r s (suc k) h) h
    go false t true u f = let h = leb-false (length s) r.place t in absurd (true≢false (sym e ∙ ap (λ (x : Run). is_end x.stop) (follow_stop r s k h u) ∙ stopped_why (step_on r.spare s r.place).told.event u))
    go false t false u f = let h = leb-false (length s) r.place t in rw (follow_go r s k h u) (f h u)
