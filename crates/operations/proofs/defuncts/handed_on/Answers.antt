use mathlib.Core.List.{List, map}
use mathlib.Core.Path.{◌≡◌}
use native.Mathlib.Omega.{arith}
use Prim.Native.Nat.{◌≤◌, ◌<◌}
use lib.ListN.{length}
use Rattle.std.specs.Prelude.{None}
use Rattle.lists.specs.Tests.{Yes}
use Rattle.lists.specs.Lists.{ascending}
use Rattle.ids.specs.Order.{key}
use Rattle.state.specs.declared.DefunctLock.{DefunctLock}
use Rattle.state.specs.Locks.{dkey}
use Rattle.rules.specs.Rules.{find_d}
use Rattle.operations.specs.Code.{left_by, entry_at, last_from, Led}
use Rattle.operations.proofs.Landing.{gone_at, gone_count, sought, walk_end, lands_here, lands_there}
use Rattle.operations.proofs.defuncts.handed_on.Goals as goal
use Rattle.operations.proofs.defuncts.handed_on.Goals.{After-last_of-k}

ended : (c : After-last_of-k) (l : List DefunctLock) → c.args.gone.now ≡ map left_by l → Yes (ascending dkey l) → Led l (length l) c.args.next.now → entry_at l c.last_of-k.result ≡ last_from (length l) l (find_d l (key c.args.d.target)) None
ended c l e t p = walk_end l c.args.gone.now e c.args.next.now p _ _ _ c.last_of-k.ensures (sought l c.args.gone.now e t _ _ c.place.ensures _ c.unwrap_or.ensures)

pub returns-then-n-k : goal.returns-then-n-k
returns-then-n-k c = λ l e t p.
    let n : length l ≤ c.last_of-k.result = omega (arith, gone_count l c.args.gone.now e, c.if-n-k.true) in
    lands_here l c.args.d _ (ended (goal.at.returns-then-n-k c).After-last_of-k l e t p) n

pub returns : goal.returns
returns c = λ l e t p.
    let n : c.last_of-k.result < length l = omega (arith, gone_count l c.args.gone.now e, c.if-n-k.false) in
    lands_there l c.args.d _ (ended (goal.at.returns c).After-last_of-k l e t p) n _ (gone_at l c.args.gone.now e _ _ (omega (arith, c.if-n-k.false)))
