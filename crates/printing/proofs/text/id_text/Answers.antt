use Rattle.printing.proofs.Spelling.{spelled}
use Rattle.printing.proofs.text.id_text.Goals as goal

pub returns : goal.returns
returns c = spelled c.args.id c.four-a.ensures c.four-b.ensures c.four-c.ensures c.four-d.ensures c.four-e.ensures c.four-f.ensures c.four-g.ensures c.four-h.ensures
