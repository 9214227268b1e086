-- Demand 3 in one theorem: from empty, or from any accepted image, over any list of deeds, every state met passes the test.
-- Assumes nothing.
use mathlib.Core.Path.{◌≡◌, refl, ap}
use mathlib.Core.Bool.{Bool, true}
use mathlib.Core.List.{List, [], ◌∷◌}
use Prim.Native.Nat.{ℕ}
use Rattle.lists.specs.Lists.{all}
use Rattle.lists.proofs.Tests.{and_i}
use Rattle.state.specs.Model.{empty_model, full}
use Rattle.std.specs.Prelude.{Ok}
use Rattle.rules.specs.Rules.{broken_rule, is_sound}
use Rattle.rules.proofs.Sound.{sound_state}
use Rattle.locks.specs.Locks.{delete_defunct_on}
use Rattle.promises.proofs.Again.{accepted_again}
use Rattle.promises.proofs.Dropping.{delete_defunct_accepted}
use Rattle.promises.proofs.Every.{empty_sound}
use Rattle.image.specs.declared.Spare.{Spare}
use Rattle.image.specs.Image.{no_spare, read_on}
use Rattle.image.proofs.Trips.{accepted}
use Rattle.takeover.specs.Deeds.{Deed, operation, delete_defunct, feeding, deed_on, met}
use Rattle.takeover.proofs.Keeping.{step_keeps}

pub deed_keeps : (sp : Spare) → broken_rule sp.state ≡ Ok tt → (d : Deed) → broken_rule (deed_on sp d).state ≡ Ok tt
unfolding deed_on
deed_keeps sp e (operation o) = accepted_again sp.state e o
deed_keeps sp e (delete_defunct i k subject) = delete_defunct_accepted sp.state e i k subject (delete_defunct_on sp.state i k subject) refl
deed_keeps sp e (feeding s at) = step_keeps sp s at e

abbrev passes : Spare → Bool
passes sp = is_sound (broken_rule sp.state)

pub every_met : (sp : Spare) → broken_rule sp.state ≡ Ok tt → (ds : List Deed) → all passes (met sp ds) ≡ true
every_met sp e [] = and_i _ _ (ap is_sound e) refl
every_met sp e (d ∷ ds) = and_i _ _ (ap is_sound e) (every_met (deed_on sp d) (deed_keeps sp e d) ds)

pub met_from_empty : (ds : List Deed) → all passes (met no_spare ds) ≡ true
met_from_empty ds = every_met no_spare (sound_state empty_model (empty_sound full)) ds

pub met_from_image : (b : List ℕ) (sp : Spare) → read_on b ≡ record { told = Ok tt; spare = sp } → (ds : List Deed) → all passes (met sp ds) ≡ true
met_from_image b sp e ds = every_met sp (accepted b sp e).sound ds
