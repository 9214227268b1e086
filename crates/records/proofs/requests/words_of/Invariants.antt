use mathlib.Core.Path.{◌≡◌}
use Rattle.records.proofs.Feeds.{first_words}
use Rattle.records.proofs.requests.words_of.Given as goal

abbrev pub invariant-loop-i : goal.invariant-loop-i
invariant-loop-i l = l.words ≡ first_words l.i l.s
