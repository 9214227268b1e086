use Rattle.names.proofs.Entries.{entry_long, short_at}
use Rattle.std.proofs.Common.{arith}
use Rattle.names.proofs.judged.Names.name.Goals as goal

pub name_of-requires : goal.name_of-requires
name_of-requires c = let s = c.args.self.now in (entry_long _ _ c.args.i s.sized (omega arith) c.entry_of.ensures, short_at _ _ _ _ s.short c.requires c.entry_of.ensures)
