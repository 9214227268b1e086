-- The numbers of a spare within the types of the code: each fits its field in an image, whose width is its type's.
-- Every spare that an accepted image holds or a step leaves is so (crates/doors, proofs/Typed.antt). Assumes nothing.
use Rattle.std.specs.Prelude.{◌≡◌, ◌^◌, ◌<◌, length}
use Rattle.lists.specs.Lists.{Mem}
use Rattle.state.specs.declared.ActiveLock.{ActiveLock}
use Rattle.state.specs.declared.DefunctLock.{DefunctLock}
use Rattle.records.specs.Layouts.{Fit}
use Rattle.records.specs.Wire as wire
use Rattle.image.specs.declared.Spare.{Spare}

pub record InTypes (sp : Spare) : Type 0 where
  pub revision : sp.state.revision < 2 ^ 64
  pub expected : sp.expected < 2 ^ 32
  pub actives : length sp.state.active ≡ 64
  pub defuncts : length sp.state.defunct ≡ 128
  pub active : (a : ActiveLock) → Mem a sp.state.active → Fit (wire.active).layout ((wire.active).numbers a)
  pub defunct : (d : DefunctLock) → Mem d sp.state.defunct → Fit (wire.defunct).layout ((wire.defunct).numbers d)
