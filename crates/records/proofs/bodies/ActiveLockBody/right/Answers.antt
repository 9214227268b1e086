use Rattle.lists.proofs.Tests.{and_code}
use Rattle.records.proofs.bodies.ActiveLockBody.right.Goals as goal

pub returns : goal.returns
returns c = rw (c.parent_right-parent.ensures, c.lock_right-lock.ensures, c.u8_at.ensures, c.big64_at.ensures, c.big64_at-2.ensures) (and_code _ _)
