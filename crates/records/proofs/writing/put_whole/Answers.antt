use mathlib.Core.Path.{◌≡◌, ap, ◌∙◌}
use Prim.Native.Nat.{ℕ, ◌+◌}
use native.Mathlib.Omega.{arith}
use lib.ListN.{length}
use lib.Dec.{leb}
use Rattle.records.specs.Layouts.{total}
use Rattle.records.proofs.Storing.{left_alone, put_whole}
use Rattle.records.proofs.writing.put_whole.Goals as goal
use Rattle.records.proofs.writing.put_whole.Goals.{After-has_room}

-- the test is of the layout's size
room : (g : _) (c : After-has_room g) → c.has_room.result ≡ leb (c.args.at + (total g.B.Body.codec.layout + 4)) (length c.args.out.now)
room g c = c.has_room.ensures ∙ ap (λ (n : ℕ). leb (c.args.at + n) (length c.args.out.now)) (omega (arith, c.SIZE-size.ensures, g.met.B.Body.sized))

pub returns-then-not-has_room : goal.returns-then-not-has_room
returns-then-not-has_room g c = left_alone g.B.Body.codec g.met.B.Body.counts c.args.kind c.requires _ _ c.args.body _ (room g (goal.at.returns-then-not-has_room g c).After-has_room) c.if-not-has_room.true-raw

pub returns : goal.returns
returns g c =
    put_whole g.B.Body.codec g.met.B.Body.counts c.args.kind c.requires _ _ c.args.body _ (room g (goal.at.returns g c).After-has_room) c.if-not-has_room.false-raw
    _ (omega (arith, c.SIZE-size.ensures, g.met.B.Body.sized)) _ _ c.put_frame.ensures c.put.ensures
