-- A lock that joins others: those of them that a test picks are judged, and become its children.
-- Assumes nothing.
use mathlib.Core.Path.{◌≡◌, sym, ap, ◌∙◌}
use mathlib.Core.Bool.{Bool, true, false}
use mathlib.Core.List.{List, ◌++◌, map}
use Prim.Native.Nat.{ℕ, ◌+◌, ◌-◌, ◌≤◌, ◌<◌}
use native.Mathlib.Omega.{arith}
use lib.ListN.{length, get_or, set, take, drop, replicate, length-take, length-map}
use lib.Seq.{slice, slice_empty, drop_at}
use Rattle.lists.specs.Lists.{filter}
use Rattle.lists.specs.Places.{in_places}
use Rattle.lists.proofs.Tests.{cond_true, cond_false}
use Rattle.lists.proofs.Loops.{rest_step}
use Rattle.state.specs.declared.ActiveLock.{ActiveLock}
use Rattle.state.specs.Locks.{blank_active}
use Rattle.std.specs.Prelude.{Result, Ok, ⊤}
use Rattle.operations.specs.declared.answers.Refusal.{Refusal}
use Rattle.operations.specs.Answers.{is_done, and_then, first_refusal}
use Rattle.operations.specs.Vehicle.{nest, adopt}
use Rattle.operations.specs.Code.{Placed}
use Rattle.operations.proofs.Going.{placed_count}
use Rattle.operations.proofs.Flags.{mapped, mapped_read, mapped_set, mapped_same, mapped_front}

-- ---- a loop over a list, of which what the test picks is checked
module _ {A : Type 0} (c : A → Result ⊤ Refusal) (p : A → Bool) where
  module _ (l : List A) (n i : ℕ) (d : A) (h : i < n) (w : n ≤ length l) where
    pub picked_refused : p (get_or l i d) ≡ true → is_done (c (get_or l i d)) ≡ false → first_refusal c (filter p (slice i n l)) ≡ c (get_or l i d)
    unfolding and_then
    picked_refused t u = rw (rest_step l n i d h w, t) (cond_false (is_done (c (get_or l i d))) _ (c (get_or l i d)) u)

    pub picked_passed : p (get_or l i d) ≡ true → is_done (c (get_or l i d)) ≡ true → first_refusal c (filter p (slice i n l)) ≡ first_refusal c (filter p (slice (i + 1) n l))
    unfolding and_then
    picked_passed t u = rw (rest_step l n i d h w, t) (cond_true (is_done (c (get_or l i d))) _ (c (get_or l i d)) u)

    pub picked_not : p (get_or l i d) ≡ false → first_refusal c (filter p (slice i n l)) ≡ first_refusal c (filter p (slice (i + 1) n l))
    picked_not t = rw (rest_step l n i d h w, t)

  pub picked_none : (l : List A) (n i : ℕ) → i ≤ n → n ≤ i → first_refusal c (filter p (slice i n l)) ≡ Ok tt
  picked_none l n i h k = let e : i ≡ n = omega arith in rw (e, slice_empty n l)

-- ---- one turn of the loop that takes in
module _ (p : ActiveLock → Bool) (x : ActiveLock) (l out : List ActiveLock) (i : ℕ) (h : i < length l) (q : out ≡ mapped (adopt p x) i l) (b : Bool) (f : b ≡ p (get_or out i blank_active)) where
  read : get_or out i blank_active ≡ get_or l i blank_active
  read = ap (λ (o : List ActiveLock). get_or o i blank_active) q ∙ mapped_read (adopt p x) l i blank_active h

  pub adopt_yes : (y : ActiveLock) → b ≡ true → y ≡ nest x (get_or out i blank_active) → set out i y ≡ mapped (adopt p x) (i + 1) l
  unfolding adopt
  adopt_yes y t k =
      ap (λ (o : List ActiveLock). set o i y) q
      ∙ mapped_set (adopt p x) l i blank_active h y (k ∙ sym (cond_true (p (get_or out i blank_active)) (nest x (get_or out i blank_active)) (get_or out i blank_active) (sym f ∙ t)) ∙ ap (adopt p x) read)

  pub adopt_no : b ≡ false → out ≡ mapped (adopt p x) (i + 1) l
  unfolding adopt
  adopt_no t = q ∙ mapped_same (adopt p x) l i blank_active h (sym read ∙ sym (cond_false (p (get_or out i blank_active)) (nest x (get_or out i blank_active)) (get_or out i blank_active) (sym f ∙ t)) ∙ ap (adopt p x) read)

-- ---- the locks in their places, all changed
module _ (f : ActiveLock → ActiveLock) (l out : List ActiveLock) (n : ℕ) (h : Placed l n) (q : out ≡ mapped f n l) where
  pub mapped_took : take n out ≡ map f (take n l)
  mapped_took = ap (take n) q ∙ mapped_front f l n (omega (arith, placed_count l n h, length-take n l))

  pub mapped_placed : Placed out n
  mapped_placed = record { room = h.room; same = ap (in_places 64 blank_active) mapped_took ∙ sym (q ∙ ap (λ (t : List ActiveLock). map f (take n l) ++ t) rest ∙ ap (λ (k : ℕ). map f (take n l) ++ replicate (64 - k) blank_active) (sym (length-map (take n l) f))) }
    where
      rest : drop n l ≡ replicate (64 - length (take n l)) blank_active
      rest = ap (drop n) (sym h.same) ∙ drop_at (take n l) (replicate (64 - length (take n l)) blank_active) n (placed_count l n h)
