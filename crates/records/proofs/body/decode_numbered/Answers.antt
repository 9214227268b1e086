use mathlib.Core.Path.{sym, ap, ◌∙◌}
use Rattle.std.specs.Prelude.{Some}
use Rattle.std.specs.Option.{option_map}
use Rattle.records.proofs.Reading.{too_short, with_sequence, numbered_by}
use Rattle.records.proofs.body.decode_numbered.Goals as goal

pub returns-then-s-lt-ASKED : goal.returns-then-s-lt-ASKED
returns-then-s-lt-ASKED g c = too_short g.B.Body.codec c.args.s.now c.if-s-lt-ASKED.true

pub returns-in_err-body : goal.returns-in_err-body
returns-in_err-body g c =
    let b = g.B.Body.codec in let s = c.args.s.now in
    rw c.from_residual.ensures (ap (option_map (with_sequence b s)) (sym c.in_err-body.was ∙ c.decode.ensures) ∙ numbered_by b s c.if-s-lt-ASKED.false)

pub returns : goal.returns
returns g c =
    let b = g.B.Body.codec in let s = c.args.s.now in
    ap (λ q. Some (q, c.in_ok-body.body)) c.u32_at.ensures ∙ ap (option_map (with_sequence b s)) (sym c.in_ok-body.was ∙ c.decode.ensures) ∙ numbered_by b s c.if-s-lt-ASKED.false
