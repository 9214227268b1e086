use mathlib.Core.List.{map}
use mathlib.Core.Path.{◌≡◌, ◌∙◌}
use lib.ListN.{length, take, length-map}
use Rattle.std.proofs.Common.{rules}
use Rattle.state.specs.Locks.{akey, blank_active}
use Rattle.operations.specs.Replace.{orphan}
use Rattle.operations.specs.Vehicle.{adopt}
use Rattle.operations.proofs.Adopting.{taken}
use Rattle.operations.proofs.Going.{placed_count}
use Rattle.operations.proofs.Putting.{put_placed}
use Rattle.operations.proofs.replace.joined.Goals as goal

pub returns : goal.returns
returns c =
    let x = c.args.new in
    let n = c.args.n in
    let f = adopt (orphan x) x in
    let k : length (map f (take n c.args.locks)) ≡ n = length-map (take n c.args.locks) f ∙ placed_count c.args.locks n c.requires.0 in
    put_placed akey x blank_active (map f (take n c.args.locks)) _ _ n 64
    (taken f c.args.locks n c.requires.0 _ (c.taken_in.ensures (orphan x) (λ a b m. search rules))) k c.requires.1 c.put_in.ensures
