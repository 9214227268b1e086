-- The operation as numbers: what the code shows of specs/Sending.antt. Assumes nothing.
use mathlib.Core.Path.{◌≡◌, sym, ap, ◌∙◌}
use mathlib.Core.Bool.{Bool, true, false, not}
use mathlib.Core.List.{[], ◌∷◌}
use Prim.Native.Nat.{ℕ}
use borrow.Author.Tests.{eq-eqb, ne_eqb, not-true, not-false}
use Rattle.lists.specs.Papers.{paper}
use Rattle.lists.proofs.Tests.{cond_true, cond_false}
use Rattle.state.specs.declared.ActiveLock.{ActiveLock}
use Rattle.records.specs.declared.requests.Request.TheVariants as request
use Rattle.cablegorse.specs.declared.Operation.{Operation}
use Rattle.std.specs.Prelude.{Result, Ok, Err}
use Rattle.records.specs.declared.requests.Request.{Request}
use Rattle.cablegorse.specs.declared.Told.{Told}
use Rattle.cablegorse.specs.Telling.{told_of}
use Rattle.cablegorse.specs.Sending.{bad_asked, lock_right, lock_in, asked_lock, asked_as}

-- ---- one that brings a lock
module _ (o : Operation) (b : Bool) (e : b ≡ lock_right o) where
  pub lock_bad : not b ≡ true → (a : Result Request Told) → a ≡ bad_asked → a ≡ asked_lock o
  unfolding asked_lock
  lock_bad t a ea = ea ∙ sym (cond_false _ _ _ (sym e ∙ not-true b t))

  module _ (t : not b ≡ false) (l : ActiveLock) (el : l ≡ lock_in o) where
    right : lock_right o ≡ true
    right = sym e ∙ not-false b t

    pub lock_inserted : o.kind ≡ 16 → (Ok (request.Insert l)) ≡ asked_lock o
    unfolding asked_lock
    lock_inserted k = ap (λ (x : ActiveLock). (Ok (request.Insert x))) el ∙ sym (cond_true _ _ _ right ∙ cond_true _ _ _ (eq-eqb _ _ k))

    module _ (h : o.kind ≡ 16 → ⊥) where
      pub lock_over : o.kind ≡ 17 → (Ok (request.InsertVehicle l)) ≡ asked_lock o
      unfolding asked_lock
      lock_over k =
          ap (λ (x : ActiveLock). (Ok (request.InsertVehicle x))) el
          ∙ sym (cond_true _ _ _ right ∙ cond_false _ _ _ (ne_eqb _ _ h) ∙ cond_true _ _ _ (eq-eqb _ _ k))

      pub lock_replacing : (o.kind ≡ 17 → ⊥) → (Ok (request.Replace (record { lock = l; broken = o.now; breaker = o.breaker }))) ≡ asked_lock o
      unfolding asked_lock
      lock_replacing k =
          ap (λ (x : ActiveLock). (Ok (request.Replace (record { lock = x; broken = o.now; breaker = o.breaker })))) el
          ∙ sym (cond_true _ _ _ right ∙ cond_false _ _ _ (ne_eqb _ _ h) ∙ cond_false _ _ _ (ne_eqb _ _ k))

-- ---- a kind that no feed has
pub no_kind : (k : ℕ) (o : Operation) → (k ≡ 16 → ⊥) → (k ≡ 17 → ⊥) → (k ≡ 18 → ⊥) → (k ≡ 19 → ⊥) → (k ≡ 20 → ⊥) → (k ≡ 21 → ⊥) → (k ≡ 22 → ⊥) → (k ≡ 23 → ⊥)
    → (Err (told_of (paper 18 (0 ∷ [])))) ≡ asked_as k o
unfolding asked_as
no_kind k o h16 h17 h18 h19 h20 h21 h22 h23 =
    simp (ne_eqb k 16 h16, ne_eqb k 17 h17, ne_eqb k 18 h18, ne_eqb k 19 h19, ne_eqb k 20 h20, ne_eqb k 21 h21, ne_eqb k 22 h22, ne_eqb k 23 h23)
