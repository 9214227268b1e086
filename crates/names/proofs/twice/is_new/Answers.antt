use Rattle.names.proofs.Prints.{no_print, by_place}
use Rattle.names.proofs.twice.is_new.Goals as goal

pub returns-then-not-print_before : goal.returns-then-not-print_before
returns-then-not-print_before c = no_print _ _ _ c.requires.0 _ c.requires.1 _ c.print_before.ensures c.if-not-print_before.true

pub returns : goal.returns
returns c = by_place _ _ _ c.requires.0 _ _ c.name.ensures (rw (c.before-2.ensures.0, c.before-2.ensures.1) at c.place_of.ensures)
