use mathlib.Core.Path.{◌≡◌, sym, ap, ap₂, ◌∙◌}
use mathlib.Core.List.{List, [], ◌∷◌}
use Prim.Native.Nat.{ℕ, ◌+◌, ◌/◌, ◌%◌}
use lib.ListN.{length, get_or, length-set}
use Rattle.std.proofs.Common.{arith}
use Rattle.lists.specs.Places.{splice}
use Rattle.names.specs.Bytes.{kept}
use Rattle.names.specs.Table.{entry_start}
use Rattle.names.proofs.Puts.{one_more, all_stored}
use Rattle.names.proofs.learn.Goals as goal

pub loop-i-preserved : goal.loop-i-preserved
loop-i-preserved c = (simp length-set c.loop-i.invariant.0, one_more _ _ _ _ _ _ _ (simp length-set (omega arith)) c.loop-i-test.true c.loop-i.invariant.1 c.keep_byte.ensures)

pub returns : goal.returns
returns c =
    let a = c.args in
    let b = c.to_le_bytes.result in
    let low : get_or b 0 0 ≡ (a.n + 1) % 256 = ap (λ (l : List ℕ). get_or l 0 0) c.to_le_bytes.ensures ∙ omega arith in
    let high : get_or b 1 0 ≡ (a.n + 1) / 256 = ap (λ (l : List ℕ). get_or l 1 0) c.to_le_bytes.ensures ∙ omega (arith, c.requires.2) in
    all_stored a.table.now _ a.name.now a.folding a.n c.loop-i.i _ _ c.requires.0 c.requires.2 c.requires.1 (c.loop-i.invariant.0 ∙ sym c.requires.0) c.loop-i.auto.i-end c.loop-i-test.false c.loop-i.invariant.1
    ∙ ap₂ (λ (x y : ℕ). splice (splice a.table.now (entry_start a.n) (length a.name.now ∷ kept a.folding a.name.now)) 0 (x ∷ y ∷ [])) low high
