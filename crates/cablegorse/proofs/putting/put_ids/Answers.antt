use mathlib.Core.Path.{sym, ap, ◌∙◌}
use Prim.Native.Nat.{ℕ, ◌*◌}
use native.Mathlib.Nat.{zero-add}
use Rattle.std.proofs.Common.{arith, length, get_or}
use Rattle.ids.specs.Order.{no_id}
use Rattle.records.specs.Numbers.{stored}
use Rattle.records.specs.Wire.{id_bytes}
use Rattle.records.proofs.Runs.{starts, turns, length_id}
use Rattle.cablegorse.proofs.putting.put_ids.Goals as goal

pub loop-i-init : goal.loop-i-init
loop-i-init c = let a = c.args in starts id_bytes 16 length_id a.out.now 0 (length a.ids.now) a.ids.now (omega arith)

pub loop-i-preserved : goal.loop-i-preserved
loop-i-preserved c = let a = c.args in let l = c.loop-i in
    turns id_bytes 16 length_id a.out.now 0 (length a.ids.now) a.ids.now (omega arith) (omega (arith, c.requires)) no_id l.out c.put_id.new.out l.i c.loop-i-test.true l.invariant
    (c.put_id.ensures ∙ ap (λ (m : ℕ). stored l.out m (id_bytes (get_or a.ids.now l.i no_id))) (sym (zero-add (l.i * 16))))
