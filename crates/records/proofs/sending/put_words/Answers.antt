use mathlib.Core.Path.{ap, ◌∙◌}
use mathlib.Core.List.{List}
use Prim.Native.Nat.{ℕ, ◌+◌, ◌*◌}
use lib.Seq.{take_all}
use Rattle.records.specs.Numbers.{splice, big, bytes_of}
use Rattle.records.specs.Sending.{word_bytes}
use native.Mathlib.Omega.{arith}
use lib.ListN.{length, get_or}
use Rattle.records.proofs.Numbers.{length_bytes_of}
use Rattle.records.proofs.Runs.{starts, turns, ends}
use Rattle.records.proofs.Writes.{word_stored}
use Rattle.records.proofs.sending.put_words.Goals as goal

pub loop-i-init : goal.loop-i-init
loop-i-init c = let a = c.args in starts (bytes_of (big 8)) 8 (length_bytes_of (big 8)) a.out.now a.at _ a.list.now (omega (arith, c.requires))

pub loop-i-preserved : goal.loop-i-preserved
loop-i-preserved c = let a = c.args in let l = c.loop-i in turns (bytes_of (big 8)) 8 (length_bytes_of (big 8)) a.out.now a.at (length a.list.now) a.list.now (omega arith) c.requires 0 l.out _ l.i c.loop-i-test.true l.invariant (c.put_big64.ensures ∙ word_stored l.out (a.at + l.i * 8) (get_or a.list.now l.i 0) (omega (arith, c.requires, l.invariant.size, c.loop-i-test.true)))

pub returns : goal.returns
returns c = let a = c.args in let l = c.loop-i in ends (bytes_of (big 8)) 8 (length_bytes_of (big 8)) a.out.now a.at (length a.list.now) a.list.now (omega arith) c.requires l.out l.i c.loop-i-test.false l.invariant ∙ ap (λ (ws : List ℕ). splice a.out.now a.at (word_bytes ws)) (take_all (length a.list.now) a.list.now (omega arith))
