use mathlib.Core.Path.{◌≡◌, ap, ◌∙◌}
use mathlib.Core.List.{List}
use Prim.Native.Nat.{ℕ, ◌-◌}
use native.Mathlib.Omega.{arith}
use lib.Dec.{ltb}
use lib.ListN.{length, take, drop, length-drop}
use Rattle.std.specs.List.{position_or_len}
use Rattle.std.proofs.lemmas.List.{take_all}
use Rattle.operations.proofs.Putting.{put_turned}
use Rattle.operations.proofs.ordered.put_in.Goals as goal

pub returns : goal.returns
returns g c =
    let l = c.args.items.now in
    let j = c.place_of-k.result in
    let w : take (length l - j) (drop j l) ≡ drop j l = take_all (length l - j) (drop j l) (omega (arith, length-drop j l)) in
    put_turned g.T.Keyed.row_key c.args.x l j _ c.requires
    (c.place_of-k.ensures.first ∙ ap (λ (i : ℕ). position_or_len (λ y. ltb i (g.T.Keyed.row_key y)) (take (length l - 1) l)) c.id.ensures)
    (rw w at c.rotate_right.ensures.after)
