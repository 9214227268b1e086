use Rattle.std.proofs.Common.{sym, ap, ◌∙◌, length, arith, length-take, length-take-le}
use Rattle.std.proofs.lemmas.Result.{err_from_is_err_and}
use Rattle.lookups.proofs.Verdicts.{actives_fit}
use Rattle.board.specs.Board.{board_of}
use Rattle.board.proofs.Followed.{whole_board}
use Rattle.board.proofs.Boarding.{fresh_err, fresh_short, fresh_whole}
use Rattle.board.proofs.fresh.Goals as goal

pub returns-in_err-broken : goal.returns-in_err-broken
returns-in_err-broken c =
    let p = err_from_is_err_and c.from_residual.result c.from_residual.ensures.1 in
    rw (p.1, p.2) (fresh_err c.args.state c.args.out.now _ (sym c.broken.ensures ∙ c.in_err-broken.was))

pub returns-then-out-lt-SIZE : goal.returns-then-out-lt-SIZE
returns-then-out-lt-SIZE c = fresh_short c.args.state c.args.out.now (sym c.broken.ensures ∙ c.in_ok-broken.was) c.if-out-lt-SIZE.true

pub refresh-requires : goal.refresh-requires
refresh-requires c =
    let a = c.args.state in
    let e = sym c.broken.ensures ∙ c.in_ok-broken.was in
    (omega (arith, ap length c.active_locks.ensures, length-take a.actives a.active, actives_fit a e), length-take-le 4352 c.args.out.now (omega (arith, c.if-out-lt-SIZE.false)))

pub returns : goal.returns
returns c =
    fresh_whole c.args.state c.args.out.now (sym c.broken.ensures ∙ c.in_ok-broken.was) c.if-out-lt-SIZE.false _
    (c.refresh.ensures ∙ whole_board c.vehicle.result c.vehicle.ensures _ _ ∙ ap board_of c.active_locks.ensures)
