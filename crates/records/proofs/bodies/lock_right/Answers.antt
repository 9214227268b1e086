use Rattle.records.proofs.Wire.{three}
use Rattle.records.proofs.bodies.lock_right.Goals as goal

pub returns : goal.returns
returns c =
    rw (
      c.set_right-set.ensures,
      c.scope_right-scope.ensures,
      c.u8_at.ensures,
      c.u8_at-2.ensures,
      c.u8_at-exclusive.ensures,
      c.u8_at-3.ensures,
      c.u64_at.ensures,
      c.u64_at-2.ensures,
      c.u64_at-3.ensures,
      c.u64_at-4.ensures,
    )
    (three _ _ _)
