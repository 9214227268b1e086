-- Ids of a list against the active locks: what the check of one id says, and the lowest that is refused.
-- Assumes nothing.
use mathlib.Core.Path.{◌≡◌, sym, ap, ◌∙◌}
use mathlib.Core.Bool.{Bool, true, false, cond}
use mathlib.Core.List.{List}
use Rattle.std.specs.Prelude.{Option, None, Some}
use Prim.Native.Nat.{ℕ, ◌+◌, ◌-◌, ◌<◌}
use lib.ListN.{length, drop}
use Rattle.lists.specs.Tests.{non}
use Rattle.lists.specs.Lists.{any, filter}
use Rattle.lists.proofs.Tests.{by, non_t, non_f}
use Rattle.ids.specs.declared.LockId.{LockId}
use Rattle.ids.specs.Words.{ids_of, ascending_ids}
use Rattle.ids.proofs.Words.{id_at, one_id, no_id_lem, lower, lowest_of, lowest_where}
use Rattle.state.specs.declared.ActiveLock.{ActiveLock}
use Rattle.state.specs.Locks.{has_id}
use Rattle.std.specs.Prelude.{Result, Ok, Err, ⊤}
use Rattle.std.specs.Result.{is_err}
use Rattle.operations.specs.declared.answers.Refusal.{Refusal}
use Rattle.operations.specs.declared.answers.Refusal.TheVariants.{ActiveLockNotFound}
use Rattle.operations.specs.Answers.{is_done, first_refusal}
use Rattle.operations.specs.Checks.{missing, check_active}
use Rattle.operations.specs.Code.{check_named, is_lower}
use Rattle.operations.proofs.Chains.{refuse, go_on}
use Rattle.operations.proofs.Refusing.{refuses, told_by, err_is, named_first}

-- ---- 3
module _ (l : List ActiveLock) (i : LockId) (u : Bool) (e : u ≡ any (has_id i) l) where
  pub active_yes : u ≡ true → (Ok tt) ≡ check_active l i
  unfolding check_active missing
  active_yes t = sym (go_on _ _ _ (non_t _ (sym e ∙ t)))

  pub active_no : u ≡ false → (Err (ActiveLockNotFound i)) ≡ check_active l i
  unfolding check_active missing
  active_no t = sym (refuse _ _ _ (non_f _ (sym e ∙ t)))

-- ---- the lowest id that the test p picks, the lowest so far being o
module _ (p : LockId → Bool) (ws : List ℕ) (o : Option LockId) (j : ℕ) where
  abbrev pub goes_on : Option LockId
  goes_on = lowest_of o (filter p (ids_of (drop j ws)))

  module _ (h : j + 1 < length ws) where
    pub passed_id : p (id_at ws j) ≡ false → goes_on ≡ lowest_of o (filter p (ids_of (drop (j + 2) ws)))
    passed_id e = rw (one_id ws j h, e)

    picked : p (id_at ws j) ≡ true → goes_on ≡ lowest_of (lower o (id_at ws j)) (filter p (ids_of (drop (j + 2) ws)))
    picked e = rw (one_id ws j h, e)

    lower_is : (o : Option LockId) (b : Bool) → is_lower (id_at ws j) o ≡ b → lower o (id_at ws j) ≡ cond b (Some (id_at ws j)) o
    unfolding is_lower
    lower_is None b e = rw (← e)
    lower_is (Some low) b e = rw (← e)

    pub lower_id : p (id_at ws j) ≡ true → is_lower (id_at ws j) o ≡ true → goes_on ≡ lowest_of (Some (id_at ws j)) (filter p (ids_of (drop (j + 2) ws)))
    lower_id e t = picked e ∙ ap (λ (z : Option LockId). lowest_of z (filter p (ids_of (drop (j + 2) ws)))) (lower_is o true t)

    -- it is no lower
    pub higher_id : is_lower (id_at ws j) o ≡ false → goes_on ≡ lowest_of o (filter p (ids_of (drop (j + 2) ws)))
    higher_id t = by (p (id_at ws j)) (goes_on ≡ lowest_of o (filter p (ids_of (drop (j + 2) ws)))) (λ e. picked e ∙ ap (λ (z : Option LockId). lowest_of z (filter p (ids_of (drop (j + 2) ws)))) (lower_is o false t)) passed_id

  pub end_id : length ws - j < 2 → goes_on ≡ o
  end_id h = ap (λ (l : List LockId). lowest_of o (filter p l)) (no_id_lem ws j h)

-- ---- what is told of it
module _ (child : Bool) (l : List ActiveLock) (ws : List ℕ) where
  pub ids_none : lowest_where (refuses (check_named child l)) ws ≡ None → (Ok tt) ≡ first_refusal (check_named child l) (ascending_ids ws)
  ids_none e = sym (named_first l child ws ∙ ap (told_by (check_named child l)) e)

  pub ids_some : (b : LockId) (r : Result ⊤ Refusal) → lowest_where (refuses (check_named child l)) ws ≡ Some b → r ≡ check_named child l b → r ≡ first_refusal (check_named child l) (ascending_ids ws)
  ids_some b r e f = f ∙ sym (named_first l child ws ∙ ap (told_by (check_named child l)) e)

-- what the code's check of one id says
pub refused : (child : Bool) (l : List ActiveLock) (i : LockId) (a : Result ⊤ Refusal) {b : Bool} → a ≡ check_named child l i → is_err a ≡ b → refuses (check_named child l) i ≡ b
refused child l i a e f = ap (λ (r : Result ⊤ Refusal). non (is_done r)) (sym e) ∙ sym (err_is a) ∙ f
