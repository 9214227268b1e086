-- The same in the words of the reads: who looks an entry up again by its id, and asks with what is found, is told the holder
-- that was told before, through no more entries. Assumes nothing.
use Rattle.std.specs.Prelude.{◌≡◌, ℕ, ◌≤◌}
use Rattle.ids.specs.declared.LockId.{LockId}
use Rattle.state.specs.declared.DefunctLock.{DefunctLock}
use Rattle.state.specs.declared.LockState.{LockState}
use Rattle.std.specs.Prelude.{Ok, Some}
use Rattle.lookups.specs.Reads.{defunct_by_id_on, held, current_holder_on}

-- the entry that is found by the id after, and the one that was found before
pub record ToldAgain (before after : LockState) (id : LockId) (entry : DefunctLock) : Type 0 where
  pub was : DefunctLock
  pub subject : ℕ
  pub links : ℕ
  pub links_again : ℕ
  pub found : defunct_by_id_on before id ≡ Ok (Some was)
  pub told : current_holder_on before was ≡ Ok (held subject links)
  pub again : current_holder_on after entry ≡ Ok (held subject links_again)
  pub fall : links_again ≤ links

-- of every id by which an entry is still found
abbrev pub ToldTheSame : LockState → LockState → Type 0
ToldTheSame before after = (id : LockId) (entry : DefunctLock) → defunct_by_id_on after id ≡ Ok (Some entry) → ToldAgain before after id entry
