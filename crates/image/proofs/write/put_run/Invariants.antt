use Rattle.std.proofs.Common.{◌≡◌, ◌+◌, ◌*◌, take}
use Rattle.records.specs.Numbers.{splice}
use Rattle.image.specs.Image.{bytes_of_run}
use Rattle.image.proofs.write.put_run.Given as goal

abbrev pub invariant-loop-lock : goal.invariant-loop-lock
invariant-loop-lock g l =
    record {
      place : l.at ≡ l.fn.from + l.lock-index * g.R.Entry.SIZE;
      stored : l.out ≡ splice l.fn.out l.fn.from (bytes_of_run g.R.Entry.list (take l.lock-index l.fn.locks));
    }
