use lib.ListN.{length}
use Rattle.records.specs.Numbers.{big, bytes_of}
use Rattle.records.proofs.Numbers.{length_bytes_of}
use Rattle.records.proofs.Runs.{Put}
use Rattle.records.proofs.sending.put_words.Given as goal

abbrev pub invariant-loop-i : goal.invariant-loop-i
invariant-loop-i l = Put (bytes_of (big 8)) 8 (length_bytes_of (big 8)) l.initial.out l.at (length l.list) l.list l.out l.i
