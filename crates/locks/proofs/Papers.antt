-- No two answers have one paper: from document 01's number and values the answer is read back.
-- Assumes nothing.
use mathlib.Core.List.{[], ◌∷◌}
use mathlib.Core.Path.{◌≡◌, refl}
use Rattle.lists.specs.Papers.{Paper}
use Rattle.lists.proofs.Papers.{pick, one_to_one, value_at}
use Rattle.std.specs.Prelude.{Result, Option, Ok, Err, Some, None, Bool, ℕ, true, false}
use Rattle.rules.specs.declared.Unsound.{Unsound}
use Rattle.rules.specs.declared.Unsound.TheVariants.{Rule}
use Rattle.locks.specs.declared.UpdateRefusal.{UpdateRefusal}
use Rattle.locks.specs.declared.UpdateRefusal.TheVariants as update
use Rattle.locks.specs.declared.DroppingRefusal.{DroppingRefusal}
use Rattle.locks.specs.declared.DroppingRefusal.TheVariants as dropping
use Rattle.locks.specs.Locks.{owner_paper, update_paper, dropping_paper}

owner_of : Paper → Result (Option ℕ) Unsound
owner_of p = pick p.number ((12, (Err (Rule (value_at p 0)))) ∷ []) (pick (value_at p 0) ((0, (Ok None)) ∷ []) (Ok (Some (value_at p 1))))

owner_back : (a : Result (Option ℕ) Unsound) → owner_of (owner_paper a) ≡ a
unfolding owner_of owner_paper
owner_back (Err (Rule n)) = refl
owner_back (Ok None) = refl
owner_back (Ok (Some u)) = refl

pub owner_one : (a b : Result (Option ℕ) Unsound) → owner_paper a ≡ owner_paper b → a ≡ b
owner_one = one_to_one owner_paper owner_of owner_back

update_of : Paper → Result ℕ UpdateRefusal
update_of p = pick p.number ((12, (Err (update.UnsoundState (value_at p 0)))) ∷ (25, (Err update.FunctionalGroupLocksHeld)) ∷ (24, (Err update.EcuLocksHeld)) ∷ []) (Ok (value_at p 0))

update_back : (a : Result ℕ UpdateRefusal) → update_of (update_paper a) ≡ a
unfolding update_of update_paper
update_back (Err (update.UnsoundState n)) = refl
update_back (Err update.FunctionalGroupLocksHeld) = refl
update_back (Err update.EcuLocksHeld) = refl
update_back (Ok g) = refl

pub update_one : (a b : Result ℕ UpdateRefusal) → update_paper a ≡ update_paper b → a ≡ b
update_one = one_to_one update_paper update_of update_back

dropping_of : Paper → Result Bool DroppingRefusal
dropping_of p =
    pick p.number
    ((8, (Err dropping.RevisionOverflow)) ∷ (12, (Err (dropping.UnsoundState (value_at p 0)))) ∷ (26, (Err dropping.Forbidden)) ∷ [])
    (pick (value_at p 0) ((0, (Ok false)) ∷ []) (Ok true))

dropping_back : (a : Result Bool DroppingRefusal) → dropping_of (dropping_paper a) ≡ a
unfolding dropping_of dropping_paper
dropping_back (Ok true) = refl
dropping_back (Ok false) = refl
dropping_back (Err dropping.RevisionOverflow) = refl
dropping_back (Err (dropping.UnsoundState n)) = refl
dropping_back (Err dropping.Forbidden) = refl

pub dropping_one : (a b : Result Bool DroppingRefusal) → dropping_paper a ≡ dropping_paper b → a ≡ b
dropping_one = one_to_one dropping_paper dropping_of dropping_back
