-- The primary's own step is the step of a spare that reads the record which is sent: it can't do one thing and send another.
--     own_step  whatever stands before and after the record
-- Assumes nothing.
use mathlib.Core.Path.{◌≡◌, refl, ap, ◌∙◌}
use mathlib.Core.List.{List, ◌++◌}
use Prim.Native.Nat.{ℕ}
use lib.ListN.{length}
use Rattle.std.specs.Prelude.{Ok}
use Rattle.rules.specs.Rules.{broken_rule}
use Rattle.lookups.proofs.Verdicts.{on_sound_lem}
use Rattle.records.specs.declared.requests.Request.{Request}
use Rattle.records.specs.Sending.{request_bytes}
use Rattle.records.specs.Ranges.{Sendable}
use Rattle.image.specs.declared.Spare.{Spare}
use Rattle.calls.proofs.Normal.{act_normal, act_listed}
use Rattle.feed.specs.Feed.{Numbered, onward, act_on, step_on}
use Rattle.feed.proofs.Turning.{distance_own, in_turn_lem}
use Rattle.takeover.specs.Ends.{as_read, own_on}
use Rattle.takeover.proofs.Arriving.{step_sent}

pub own_step : (sp : Spare) → broken_rule sp.state ≡ Ok tt → (r : Request) (ws : List ℕ) → Sendable sp.expected r ws → (p t : List ℕ)
    → step_on sp (p ++ (request_bytes sp.expected r ws ++ t)) (length p) ≡ own_on sp (length (p ++ request_bytes sp.expected r ws)) r ws
unfolding act_on own_on
own_step sp e r ws k p t =
    let x : Numbered = record { number = sp.expected; request = r; list = ws } in
    let n : ℕ = length (p ++ request_bytes sp.expected r ws) in
    step_sent sp e x k p t
    ∙ in_turn_lem sp n (as_read x) (distance_own sp.expected k.sequence)
    ∙ ap (onward sp sp.expected n) (act_normal sp.state _ r ∙ act_listed sp.state ws r)
    ∙ on_sound_lem sp.state _ _ (broken_rule sp.state) refl e
