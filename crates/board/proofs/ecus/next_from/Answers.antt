use Rattle.std.proofs.Common.{◌/◌, ◌^◌, ◌<◌, get_or, arith, rules}
use Rattle.board.proofs.Covering.{words_of, near, next_whole, next_end, next_hit, next_word, word_size}
use Rattle.board.proofs.ecus.next_from.Goals as goal
use Rattle.board.proofs.ecus.next_from.Goals.{In-loop-at}

pub returns-then-c : goal.returns-then-c
returns-then-c c = next_whole c.args.c c.args.from c.if-c.true c.requires

pub loop-at-init : goal.loop-at-init
loop-at-init c = (omega arith, omega (arith, c.requires), λ e g h. absurd (omega arith))

-- the word that the loop looks at
sized : (c : In-loop-at) → get_or (words_of c.args.c) (c.loop-at.at / 64) 0 < 2 ^ 64
sized c = word_size c.args.c (search rules) (search rules) (search rules) (search rules) (c.loop-at.at / 64) (omega (arith, c.loop-at-test.true))

pub overflow_cast-result : goal.overflow_cast-result
overflow_cast-result c = let k = near (words_of c.args.c) c.loop-at.at (sized (goal.at.overflow_cast-result c).In-loop-at) c.if-rest-ne0.true in omega arith

pub overflow_add-result : goal.overflow_add-result
overflow_add-result c = let k = near (words_of c.args.c) c.loop-at.at (sized (goal.at.overflow_add-result c).In-loop-at) c.if-rest-ne0.true in omega (arith, c.loop-at-test.true)

pub returns-then-rest-ne0 : goal.returns-then-rest-ne0
returns-then-rest-ne0 c = let a = c.args in let l = c.loop-at in
    next_hit a.c c.if-c.false a.from l.at l.invariant.0 l.invariant.2 c.loop-at-test.true (sized (goal.at.returns-then-rest-ne0 c).In-loop-at) c.if-rest-ne0.true

pub loop-at-preserved : goal.loop-at-preserved
loop-at-preserved c = let a = c.args in let l = c.loop-at in
    (omega (arith, l.invariant.0), omega (arith, c.loop-at-test.true), next_word a.c c.if-c.false a.from l.at l.invariant.0 l.invariant.2 c.if-rest-ne0.false)

pub returns : goal.returns
returns c = let a = c.args in let l = c.loop-at in
    next_end a.c c.if-c.false a.from l.at l.invariant.0 l.invariant.2 l.invariant.1 c.loop-at-test.false
