use mathlib.Core.Path.{sym, ap, ◌∙◌}
use Prim.Native.Nat.{ℕ}
use Rattle.std.specs.Prelude.{Err}
use Rattle.cablegorse.specs.Sending.{asked_as}
use Rattle.cablegorse.proofs.Asked.{no_kind}
use Rattle.cablegorse.proofs.sending.request_in.Goals as goal

pub returns-in-16 : goal.returns-in-16
unfolding asked_as
returns-in-16 c = c.ask_lock.ensures ∙ ap (λ (k : ℕ). asked_as k c.args.asked) (sym c.in-16.is)

pub returns-in-17 : goal.returns-in-17
unfolding asked_as
returns-in-17 c = c.ask_lock-in-17.ensures ∙ ap (λ (k : ℕ). asked_as k c.args.asked) (sym c.in-17.is)

pub returns-in-18 : goal.returns-in-18
unfolding asked_as
returns-in-18 c = c.ask_renewal.ensures ∙ ap (λ (k : ℕ). asked_as k c.args.asked) (sym c.in-18.is)

pub returns-in-19 : goal.returns-in-19
unfolding asked_as
returns-in-19 c = ap (λ (k : ℕ). asked_as k c.args.asked) (sym c.in-19.is)

pub returns-in-20 : goal.returns-in-20
unfolding asked_as
returns-in-20 c = ap (λ (k : ℕ). asked_as k c.args.asked) (sym c.in-20.is)

pub returns-in-21 : goal.returns-in-21
unfolding asked_as
returns-in-21 c = c.ask_lock-in-21.ensures ∙ ap (λ (k : ℕ). asked_as k c.args.asked) (sym c.in-21.is)

pub returns-in-22 : goal.returns-in-22
unfolding asked_as
returns-in-22 c = ap (λ (k : ℕ). asked_as k c.args.asked) (sym c.in-22.is)

pub returns-in-23 : goal.returns-in-23
unfolding asked_as
returns-in-23 c = ap (λ (k : ℕ). asked_as k c.args.asked) (sym c.in-23.is)

pub returns-in_default : goal.returns-in_default
returns-in_default c = let r = c.in_default.in_default-own.rest in ap Err c.new.ensures ∙ no_kind _ _ r.0.0.0.0.0.0.0.1 r.0.0.0.0.0.0.1 r.0.0.0.0.0.1 r.0.0.0.0.1 r.0.0.0.1 r.0.0.1 r.0.1 r.1
