use Rattle.cablegorse.proofs.sending.lock_in.Goals as goal

pub returns : goal.returns
returns c = rw c.scope_of.ensures
