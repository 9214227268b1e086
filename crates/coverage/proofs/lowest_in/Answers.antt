use mathlib.Core.Path.{◌≡◌, ◌∙◌}
use native.Mathlib.Omega.{arith}
use Prim.Native.Nat.{ℕ, ◌<◌}
use Rattle.coverage.specs.Coverage.{word_of}
use Rattle.coverage.proofs.Laws.{Sized, sized}
use Rattle.coverage.proofs.Shared.{lowest_at, lowest_nowhere, none_yet, word_more}
use Rattle.coverage.proofs.lowest_in.Goals as goal
use Rattle.coverage.proofs.lowest_in.Goals.{Else-c-ne0, Else-c-ne0-2, Else-c-ne0-3, Else-c-ne0-4, Start}

bounds : (c : Start) → Sized c.args.c
bounds c = sized c.args.c (omega arith) (omega arith) (omega arith) (omega arith)

-- past the i-th test the first i words are empty
empty-1 : (c : Else-c-ne0) (j : ℕ) → j < 1 → word_of c.args.c j ≡ 0
unfolding word_of
empty-1 c = word_more c.args.c 0 (none_yet c.args.c) c.if-c-ne0.false

empty-2 : (c : Else-c-ne0-2) (j : ℕ) → j < 2 → word_of c.args.c j ≡ 0
unfolding word_of
empty-2 c = word_more c.args.c 1 (empty-1 c.before.before) c.if-c-ne0-2.false

empty-3 : (c : Else-c-ne0-3) (j : ℕ) → j < 3 → word_of c.args.c j ≡ 0
unfolding word_of
empty-3 c = word_more c.args.c 2 (empty-2 c.before.before) c.if-c-ne0-3.false

empty-4 : (c : Else-c-ne0-4) (j : ℕ) → j < 4 → word_of c.args.c j ≡ 0
unfolding word_of
empty-4 c = word_more c.args.c 3 (empty-3 c.before.before) c.if-c-ne0-4.false

pub returns-then-c-ne0 : goal.returns-then-c-ne0
unfolding word_of
returns-then-c-ne0 c = c.ecu_of.ensures ∙ lowest_at c.args.c (bounds c.before.before.before) 0 (omega arith) (none_yet c.args.c) c.if-c-ne0.true

pub returns-then-c-ne0-2 : goal.returns-then-c-ne0-2
unfolding word_of
returns-then-c-ne0-2 c = c.ecu_of-then-c-ne0-2.ensures ∙ lowest_at c.args.c (bounds c.before.before.before.before.before) 1 (omega arith) (empty-1 c.before.before.before) c.if-c-ne0-2.true

pub returns-then-c-ne0-3 : goal.returns-then-c-ne0-3
unfolding word_of
returns-then-c-ne0-3 c = c.ecu_of-then-c-ne0-3.ensures ∙ lowest_at c.args.c (bounds c.before.before.before.before.before.before.before) 2 (omega arith) (empty-2 c.before.before.before) c.if-c-ne0-3.true

pub returns-then-c-ne0-4 : goal.returns-then-c-ne0-4
unfolding word_of
returns-then-c-ne0-4 c = c.ecu_of-then-c-ne0-4.ensures ∙ lowest_at c.args.c (bounds c.before.before.before.before.before.before.before.before.before) 3 (omega arith) (empty-3 c.before.before.before) c.if-c-ne0-4.true

pub returns : goal.returns
returns c = lowest_nowhere c.args.c (empty-4 c)
