use Rattle.coverage.proofs.with_ecu.Goals as goal

pub returns : goal.returns
returns c = rw (c.bit_in.ensures, c.bit_in-2.ensures, c.bit_in-3.ensures, c.bit_in-4.ensures)
