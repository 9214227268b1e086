use native.Mathlib.Omega.{arith}
use Rattle.records.proofs.Feeds.{word_more, words_all}
use Rattle.records.proofs.requests.words_of.Goals as goal

pub loop-i-preserved : goal.loop-i-preserved
loop-i-preserved c = word_more c.loop-i.i c.args.s.now c.loop-i.words c.big64_at.result (omega (arith, c.loop-i-test.true, c.word_count-i-end.ensures)) c.loop-i.invariant c.big64_at.ensures

pub returns : goal.returns
returns c = words_all c.loop-i.i c.word_count-i-end.result c.args.s.now c.loop-i.words c.loop-i.invariant c.loop-i.auto.i-end c.loop-i-test.false c.word_count-i-end.ensures
