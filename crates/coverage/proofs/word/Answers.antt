use mathlib.Core.Path.{◌≡◌, sym, ap, refl}
use Prim.Native.Nat.{ℕ, zero, suc}
use Rattle.coverage.specs.Coverage.{word_of}
use Rattle.coverage.specs.declared.LockCoverage.{LockCoverage}
use Rattle.coverage.proofs.word.Goals as goal

word-last : (c : LockCoverage) (i : ℕ) → (i ≡ 0 → ⊥) → (i ≡ 1 → ⊥) → (i ≡ 2 → ⊥) → c.w3 ≡ word_of c i
unfolding word_of
word-last c zero h0 h1 h2 = absurd (h0 refl)
word-last c (suc zero) h0 h1 h2 = absurd (h1 refl)
word-last c (suc (suc zero)) h0 h1 h2 = absurd (h2 refl)
word-last c (suc (suc (suc i))) h0 h1 h2 = refl

pub returns-in-0 : goal.returns-in-0
unfolding word_of
returns-in-0 c = ap (word_of c.args.c) (sym c.in-0.is)

pub returns-in-1 : goal.returns-in-1
unfolding word_of
returns-in-1 c = ap (word_of c.args.c) (sym c.in-1.is)

pub returns-in-2 : goal.returns-in-2
unfolding word_of
returns-in-2 c = ap (word_of c.args.c) (sym c.in-2.is)

pub returns-in_default : goal.returns-in_default
returns-in_default c = word-last c.args.c c.args.i c.in_default.in_default-own.rest.0.0.1 c.in_default.in_default-own.rest.0.1 c.in_default.in_default-own.rest.1
