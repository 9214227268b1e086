use Rattle.std.proofs.lemmas.Result.{err_from_is_err_and}
use Rattle.names.proofs.Chain.{no_count, counts}
use Rattle.names.proofs.count.Goals as goal

pub returns-in_err-read : goal.returns-in_err-read
returns-in_err-read c = let p = err_from_is_err_and c.from_residual.result c.from_residual.ensures.1 in rw p.1 (no_count _ _ _ c.in_err-read.ensures)

pub returns : goal.returns
returns c = counts _ _ _ c.in_ok-read.ensures.0 c.in_ok-read.ensures.2
