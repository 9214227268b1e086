use Rattle.std.proofs.lemmas.Result.{err_from_is_err_and}
use Rattle.names.proofs.Chain.{no_place, past_place, found}
use Rattle.names.proofs.place_at.Goals as goal

pub returns-in_err-names : goal.returns-in_err-names
returns-in_err-names c = let p = err_from_is_err_and c.from_residual.result c.from_residual.ensures.1 in rw p.1 (no_place _ _ _ _ c.in_err-names.ensures)

pub returns-then-names-i : goal.returns-then-names-i
returns-then-names-i c = past_place _ _ _ c.in_ok-names.ensures.0 _ c.in_ok-names.ensures.2 c.if-names-i.true

pub returns : goal.returns
returns c = found _ _ _ c.in_ok-names.ensures.0 _ c.in_ok-names.ensures.2 c.if-names-i.false
