use Rattle.printing.specs.Text.{four_of}
use Rattle.printing.proofs.text.four.Goals as goal

pub returns : goal.returns
unfolding four_of
returns c = rw (c.digit.ensures, c.digit-2.ensures, c.digit-3.ensures, c.digit-4.ensures)
