use Rattle.lists.proofs.Tests.{non_code}
use Rattle.ids.specs.Words.{odd_words}
use Rattle.ids.proofs.is_odd.Goals as goal

pub returns : goal.returns
unfolding odd_words
returns c = non_code _
