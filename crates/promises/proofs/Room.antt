-- NoRoom exactly where the same operation without limits goes through and ends over a limit. First of the judgements: under
-- limits k they answer 13 if and only if under any limits j that hold what is left they are Done, and what is left does not
-- fit k. Then of the operations themselves, on a sound state. The other five have no such answer. Assumes nothing.
use mathlib.Core.Path.{◌≡◌, refl, sym, ap, ◌∙◌}
use mathlib.Core.Bool.{true, false, cond}
use mathlib.Core.List.{List, map}
use mathlib.Core.Logic.{◌↔◌}
use Prim.Native.Nat.{ℕ, ◌≤◌}
use native.Mathlib.Omega.{arith}
use lib.ListN.{length, length-map}
use borrow.Author.Tests.{le-leb, leb-true}
use Rattle.lists.specs.Tests.{non, Yes, No}
use Rattle.lists.proofs.Tests.{and_i, and_l, and_r, by, →no, non_t, non_f, cond_true, cond_false, cond_both}
use Rattle.lists.proofs.Lists.{length_insert}
use Rattle.state.specs.declared.ActiveLock.{ActiveLock}
use Rattle.state.specs.declared.LockState.{LockState}
use Rattle.state.specs.Locks.{akey, normal}
use Rattle.state.specs.Model.{Model, model_of, state_of, Limits, full, fits}
use Rattle.std.specs.Prelude.{Result, Ok, Err, ⊤}
use Rattle.rules.specs.Rules.{broken_rule, sound}
use Rattle.rules.proofs.Sound.{sound_of}
use Rattle.operations.specs.declared.answers.Refusal.{Refusal}
use Rattle.operations.specs.declared.answers.Refusal.TheVariants.{NoRoom}
use Rattle.operations.specs.Answers.{Inserted}
use Rattle.operations.specs.Answers.{Replaced}
use Rattle.operations.specs.Answers.{is_done, refuse_if, and_then}
use Rattle.operations.specs.Defuncts.{to_defunct, enter_all}
use Rattle.operations.specs.Trees.{is_listed}
use Rattle.operations.specs.Checks.{check_room}
use Rattle.operations.specs.Insert.{inserted_in, judge_insert, insert_active_with, insert_active_on}
use Rattle.operations.specs.Vehicle.{adopt, vehicle_in, judge_vehicle, insert_vehicle_with, insert_vehicle_on}
use Rattle.operations.specs.Replace.{orphan, cut_of, entered_of, replaced_in, judge_replace, commit_replacement_with, commit_replacement_on}
use Rattle.operations.proofs.Coming.{enter_length}
use Rattle.operations.proofs.Leaving.{supersede_le}
use Rattle.operations.proofs.Going.{roots_size}
use Rattle.promises.specs.Room.{unlimited, within}
use Rattle.promises.proofs.Passed.{then_done, done_is, is_done_lem}
use Rattle.promises.proofs.Core.{stands_of, sound_by}
use Rattle.promises.proofs.Closing.{insert_with, vehicle_with, replace_with, insert_exactly, vehicle_exactly, replace_exactly}
use Rattle.promises.proofs.Answered.{differ, foreign, before_insert, before_vehicle, before_replace, insert_parts, vehicle_parts, replace_parts, insert_own, vehicle_own, replace_own}

-- 13 by itself
room_yes : (k : Limits) (n : Model) → Yes (fits k n) → check_room k n ≡ Ok tt
unfolding check_room refuse_if
room_yes k n t = cond_false (non (fits k n)) (Err NoRoom) (Ok tt) (non_t (fits k n) t)

room_no : (k : Limits) (n : Model) → No (fits k n) → check_room k n ≡ Err NoRoom
unfolding check_room refuse_if
room_no k n t = cond_true (non (fits k n)) (Err NoRoom) (Ok tt) (non_f (fits k n) t)

-- after checks that never answer NoRoom themselves
then_second : (a b : Result ⊤ Refusal) → Yes (is_done a) → and_then a b ≡ b
unfolding and_then
then_second a b t = cond_true (is_done a) b a t

then_first : (a b : Result ⊤ Refusal) → No (is_done a) → and_then a b ≡ a
unfolding and_then
then_first a b t = cond_false (is_done a) b a t

done_not : ◌≡◌ {A = Result ⊤ Refusal} (Err NoRoom) (Ok tt) → ⊥
unfolding is_done
done_not e = differ is_done refl refl e

room_after : (k j : Limits) (a : Result ⊤ Refusal) (n : Model) → No (foreign a) → fits j n ≡ true
    → (and_then a (check_room k n) ≡ Err NoRoom) ↔ ((and_then a (check_room j n) ≡ Ok tt) × (fits k n ≡ false))
room_after k j a n f g = (there, λ w. then_second a _ (then_done _ _ (done_is _ w.0)).0 ∙ room_no k n w.1)
  where
    there : and_then a (check_room k n) ≡ Err NoRoom → (and_then a (check_room j n) ≡ Ok tt) × (fits k n ≡ false)
    there e =
        by (is_done a) ((and_then a (check_room j n) ≡ Ok tt) × (fits k n ≡ false))
        (λ t. (
          then_second a _ t ∙ room_yes j n g,
          →no (fits k n) (λ u. done_not (sym e ∙ then_second a _ t ∙ room_yes k n u)),
        ))
        (λ t. absurd (differ foreign f refl (sym (then_first a _ t) ∙ e)))

-- ---- the three operations that take a lock in
module _ (k j : Limits) (m : Model) where
  pub no_room_insert : (x : ActiveLock) → fits j (inserted_in m x) ≡ true
      → (judge_insert k m x ≡ Err NoRoom) ↔ ((judge_insert j m x ≡ Ok tt) × (fits k (inserted_in m x) ≡ false))
  no_room_insert x g = rw (insert_parts m k x, insert_parts m j x) (room_after k j (before_insert m x) (inserted_in m x) (insert_own m x) g)

  pub no_room_vehicle : (x : ActiveLock) (ws : List ℕ) → fits j (vehicle_in m x ws) ≡ true
      → (judge_vehicle k m x ws ≡ Err NoRoom) ↔ ((judge_vehicle j m x ws ≡ Ok tt) × (fits k (vehicle_in m x ws) ≡ false))
  no_room_vehicle x ws g = rw (vehicle_parts m k x ws, vehicle_parts m j x ws) (room_after k j (before_vehicle m x ws) (vehicle_in m x ws) (vehicle_own m x ws) g)

  pub no_room_replace : (ws : List ℕ) (x : ActiveLock) (by at : ℕ) → fits j (replaced_in m ws x by at) ≡ true
      → (judge_replace k m ws x by at ≡ Err NoRoom) ↔ ((judge_replace j m ws x by at ≡ Ok tt) × (fits k (replaced_in m ws x by at) ≡ false))
  no_room_replace ws x by at g = rw (replace_parts m k ws x by at, replace_parts m j ws x by at) (room_after k j (before_replace m ws x) (replaced_in m ws x by at) (replace_own m ws x) g)

-- ---- the operations themselves
-- what each leaves of a state that fits is within `unlimited`
fits_most : (m : Model) → length m.active ≤ 65 → length m.defunct ≤ 192 → Yes (fits unlimited m)
unfolding fits
fits_most m h g = and_i _ _ (le-leb (length m.active) 65 h) (le-leb (length m.defunct) 192 g)

few_active : (m : Model) → Yes (fits full m) → length m.active ≤ 64
unfolding fits
few_active m t = leb-true _ _ (and_l _ _ t)

few_defunct : (m : Model) → Yes (fits full m) → length m.defunct ≤ 128
unfolding fits
few_defunct m t = leb-true _ _ (and_r _ _ t)

module _ (m : Model) (t : Yes (fits full m)) where
  pub insert_most : (x : ActiveLock) → Yes (fits unlimited (inserted_in m x))
  unfolding inserted_in
  insert_most x =
      fits_most (inserted_in m x) (omega (arith, length_insert akey x m.active, few_active m t)) (omega (arith, supersede_le x m.defunct, few_defunct m t))

  pub vehicle_most : (x : ActiveLock) (ws : List ℕ) → Yes (fits unlimited (vehicle_in m x ws))
  unfolding vehicle_in inserted_in
  vehicle_most x ws =
      fits_most (vehicle_in m x ws)
      (omega (arith, length_insert akey x (map (adopt (is_listed ws) x) m.active), length-map m.active (adopt (is_listed ws) x), few_active m t))
      (omega (arith, supersede_le x m.defunct, few_defunct m t))

  pub replace_most : (ws : List ℕ) (x : ActiveLock) (by at : ℕ) → Yes (fits unlimited (replaced_in m ws x by at))
  unfolding replaced_in entered_of
  replace_most ws x by at =
      let g = (cut_of m ws).gone in
      let ds = map (to_defunct x by at) g in
      fits_most (replaced_in m ws x by at)
      (omega (arith, length_insert akey x (map (adopt (orphan x) x) (cut_of m ws).kept), length-map (cut_of m ws).kept (adopt (orphan x) x), roots_size ws m.active, few_active m t))
      (omega (arith, supersede_le x (enter_all ds m.defunct), enter_length ds m.defunct, length-map g (to_defunct x by at), roots_size ws m.active, few_active m t, few_defunct m t))

-- a state that is sound is so under wider limits
wider : (m : Model) → Yes (sound full m) → Yes (sound unlimited m)
wider m s = let f = stands_of full m s in sound_by unlimited m (record { room = fits_most m (omega (arith, few_active m f.room)) (omega (arith, few_defunct m f.room)); core = f.core })

room_of : (s : LockState) → broken_rule s ≡ Ok tt → Yes (fits full (model_of s))
room_of s e = (stands_of full (model_of s) (sound_of s e)).room

-- an answer that is d where the judgement is Done and r elsewhere has the judgement's answer
told_judged : {R : Type 0} (told : R → Result ⊤ Refusal) (a : Result ⊤ Refusal) (d r x : R) → told d ≡ Ok tt → told r ≡ a → x ≡ cond (is_done a) d r → told x ≡ a
told_judged {R} told a d r x dt rt e = ap told e ∙ cond_both (λ (z : R). told z ≡ a) d r (is_done a) (λ t. dt ∙ sym (is_done_lem a t)) (λ t. rt)

counted : (z : LockState) (n : Model) → z ≡ state_of n → within full z ≡ fits full n
unfolding within fits
counted z n w = ap (within full) w

-- a is the judgement under 64 and 128, b the one without limits, n what is left
module _ {R : Type 0} (told : R → Result ⊤ Refusal) (left : R → LockState) (a b : Result ⊤ Refusal) (n : Model) (d r free limited : R)
    (dt : told d ≡ Ok tt) (dl : left d ≡ state_of n) (rt : told r ≡ b) (e : free ≡ cond (is_done b) d r) (q : told limited ≡ a)
    (law : (a ≡ Err NoRoom) ↔ ((b ≡ Ok tt) × (fits full n ≡ false))) where
  free_told : told free ≡ b
  free_told = told_judged told b d r free dt rt e

  free_left : b ≡ Ok tt → left free ≡ state_of n
  free_left h = ap left e ∙ ap left (cond_true (is_done b) d r (done_is b h)) ∙ dl

  no_room_of : (told limited ≡ Err NoRoom) ↔ ((told free ≡ Ok tt) × (within full (left free) ≡ false))
  no_room_of = (
    λ h. let w = law.0 (sym q ∙ h) in (free_told ∙ w.0, counted (left free) n (free_left w.0) ∙ w.1),
    λ w. let h = sym free_told ∙ w.0 in q ∙ law.1 (h, sym (counted (left free) n (free_left h)) ∙ w.1),
  )

module _ (s : LockState) (e : broken_rule s ≡ Ok tt) where
  abbrev m : Model
  m = model_of s

  pub insert_active_room : (y : ActiveLock)
      → ((insert_active_on s y).told ≡ Err NoRoom) ↔ (((insert_active_with unlimited s y).told ≡ Ok tt) × (within full (insert_active_with unlimited s y).state ≡ false))
  insert_active_room y =
      no_room_of (λ (r : Inserted). r.told) (λ (r : Inserted). r.state) (judge_insert full m (normal y)) (judge_insert unlimited m (normal y)) (inserted_in m (normal y))
      _ _ _ (insert_active_on s y) refl refl refl (insert_with unlimited s e (wider m (sound_of s e)) y)
      (told_judged (λ (r : Inserted). r.told) _ _ _ _ refl refl (insert_exactly s y e))
      (no_room_insert full unlimited m (normal y) (insert_most m (room_of s e) (normal y)))

  pub insert_vehicle_room : (y : ActiveLock) (ws : List ℕ)
      → ((insert_vehicle_on s y ws).told ≡ Err NoRoom) ↔ (((insert_vehicle_with unlimited s y ws).told ≡ Ok tt) × (within full (insert_vehicle_with unlimited s y ws).state ≡ false))
  insert_vehicle_room y ws =
      no_room_of (λ (r : Inserted). r.told) (λ (r : Inserted). r.state) (judge_vehicle full m (normal y) ws) (judge_vehicle unlimited m (normal y) ws) (vehicle_in m (normal y) ws)
      _ _ _ (insert_vehicle_on s y ws) refl refl refl (vehicle_with unlimited s e (wider m (sound_of s e)) y ws)
      (told_judged (λ (r : Inserted). r.told) _ _ _ _ refl refl (vehicle_exactly s y ws e))
      (no_room_vehicle full unlimited m (normal y) ws (vehicle_most m (room_of s e) (normal y) ws))

  pub commit_replacement_room : (ws : List ℕ) (y : ActiveLock) (by at : ℕ)
      → ((commit_replacement_on s ws y by at).told.answer ≡ Err NoRoom)
      ↔ (((commit_replacement_with unlimited s ws y by at).told.answer ≡ Ok tt) × (within full (commit_replacement_with unlimited s ws y by at).state ≡ false))
  commit_replacement_room ws y by at =
      no_room_of (λ (r : Replaced). r.told.answer) (λ (r : Replaced). r.state) (judge_replace full m ws (normal y) by at) (judge_replace unlimited m ws (normal y) by at) (replaced_in m ws (normal y) by at)
      _ _ _ (commit_replacement_on s ws y by at) refl refl refl (replace_with unlimited s e (wider m (sound_of s e)) ws y by at)
      (told_judged (λ (r : Replaced). r.told.answer) _ _ _ _ refl refl (replace_exactly s ws y by at e))
      (no_room_replace full unlimited m ws (normal y) by at (replace_most m (room_of s e) ws (normal y) by at))
