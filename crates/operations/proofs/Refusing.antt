-- The first refusal of a check, by what the code looks for: the first element that is refused; of ids, the lowest.
--     refuses c a   the check c refuses a
--     told_by c o    what c says of what was found
-- Assumes nothing.
use mathlib.Core.Path.{◌≡◌, refl, sym, ap, ◌∙◌}
use mathlib.Core.Bool.{Bool, true, false, cond}
use mathlib.Core.List.{List, [], ◌∷◌}
use Rattle.std.specs.Prelude.{Option, None, Some}
use Prim.Native.Nat.{ℕ, suc, ◌+◌, ◌≤◌, ◌<◌}
use native.Mathlib.Omega.{arith}
use lib.Dec.{eqb, ltb}
use native.Mathlib.Numerals.{add-one}
use lib.ListN.{length, get_or, drop}
use lib.Seq.{drop-cons, drop-length}
use borrow.Author.Tests.{eqb-true, eqb-false, ltb-true, ltb-false, lt-ltb, le-leb}
use Rattle.lists.specs.Tests.{◌and◌, non, Yes, No}
use Rattle.lists.specs.Lists.{any, find, filter, Mem, from}
use Rattle.lists.proofs.Tests.{by, cond_true, cond_false, cond_both, non_t, non_f, and_i, and_l, and_r}
use Rattle.lists.proofs.Lists.{find→, from→}
use Rattle.ids.specs.declared.LockId.{LockId}
use Rattle.ids.specs.Order.{key, same_id, before_id}
use Rattle.ids.specs.Words.{ids_of, insert_id, insert_ids, ascending_ids}
use Rattle.ids.proofs.Words.{lower, lowest_of, lowest_where}
use Rattle.state.specs.declared.ActiveLock.{ActiveLock}
use Rattle.state.specs.Locks.{akey, has_id}
use Rattle.std.specs.Prelude.{Result, Ok, Err, ⊤}
use Rattle.std.specs.Result.{is_err}
use Rattle.operations.specs.declared.answers.Refusal.{Refusal}
use Rattle.operations.specs.declared.answers.Refusal.TheVariants.{ActiveLockNotFound, BadChild}
use Rattle.operations.specs.Answers.{is_done, refuse_if, and_then, first_refusal}
use Rattle.operations.specs.Checks.{missing, check_active, settled_lock, check_free, check_listed}
use Rattle.operations.specs.Code.{check_named}

module _ {A : Type 0} (c : A → Result ⊤ Refusal) where
  abbrev pub refuses : A → Bool
  refuses a = non (is_done (c a))

  abbrev pub told_by : Option A → Result ⊤ Refusal
  told_by None = Ok tt
  told_by (Some a) = c a

  pub first_find : (l : List A) → first_refusal c l ≡ told_by (find refuses l)
  unfolding and_then
  first_find [] = refl
  first_find (a ∷ l) = by (is_done (c a)) (first_refusal c (a ∷ l) ≡ told_by (find refuses (a ∷ l)))
      (λ t. cond_true (is_done (c a)) (first_refusal c l) (c a) t ∙ first_find l ∙ ap told_by (sym (cond_false (refuses a) (Some a) (find refuses l) (non_t (is_done (c a)) t))))
      (λ t. cond_false (is_done (c a)) (first_refusal c l) (c a) t ∙ ap told_by (sym (cond_true (refuses a) (Some a) (find refuses l) (non_f (is_done (c a)) t))))

  -- ---- a loop over a list, of which those that the test p picks are checked
  module _ (p : A → Bool) (l : List A) (n : ℕ) where
    module _ (d : A) (h : n < length l) where
      pub picked : p (get_or l n d) ≡ true → first_refusal c (filter p (drop n l)) ≡ and_then (c (get_or l n d)) (first_refusal c (filter p (drop (n + 1) l)))
      picked e = rw (drop-cons l n d h, e, add-one n)

      pub not_picked : p (get_or l n d) ≡ false → first_refusal c (filter p (drop n l)) ≡ first_refusal c (filter p (drop (n + 1) l))
      not_picked e = rw (drop-cons l n d h, e, add-one n)

    pub none_left : n ≤ length l → length l ≤ n → first_refusal c (filter p (drop n l)) ≡ Ok tt
    none_left g h = let e : n ≡ length l = omega arith in rw (e, drop-length l)

-- what the code asks of a check
pub err_is : (a : Result ⊤ Refusal) → is_err a ≡ non (is_done a)
unfolding is_done non
err_is (Ok _) = refl
err_is (Err _) = refl

-- ---- ids in ascending order
-- what is put in keeps the order
put_order : (b : ℕ) (i : LockId) (js : List LockId) → b ≤ key i → Yes (from key b js) → Yes (from key b (insert_id i js))
unfolding before_id same_id
put_order b i [] g h = and_i _ _ (le-leb b (key i) g) refl
put_order b i (j ∷ js) g h =
    cond_both (λ (l : List LockId). Yes (from key b l)) (i ∷ (j ∷ js)) _ (ltb (key i) (key j))
    (λ t. and_i _ _ (le-leb b (key i) g) (and_i _ _ (le-leb (suc (key i)) (key j) (omega (arith, ltb-true (key i) (key j) t))) (and_r _ _ h)))
    (λ t. cond_both (λ (l : List LockId). Yes (from key b l)) (j ∷ js) (j ∷ insert_id i js) (eqb (key i) (key j))
    (λ s. h)
    (λ s. and_i _ _ (and_l _ _ h) (put_order (suc (key j)) i js (omega (arith, ltb-false (key i) (key j) t, eqb-false (key i) (key j) s)) (and_r _ _ h))))

after : (i j z : LockId) → Yes (before_id i j) → key j ≤ key z → Yes (before_id i z)
unfolding before_id
after i j z t h = lt-ltb (key i) (key z) (omega (arith, ltb-true (key i) (key j) t))

by_key : (i j : LockId) → Yes (same_id i j) → key i ≡ key j
unfolding same_id
by_key i j s = eqb-true (key i) (key j) s

-- a test that goes by the key
module _ (r : LockId → Bool) (same : (i j : LockId) → key i ≡ key j → r i ≡ r j) where
  abbrev among : LockId → List LockId → Option LockId
  among i l = cond (r i) (lower (find r l) i) (find r l)

  lower_front : (i : LockId) (l : List LockId) → ((z : LockId) → Mem z l → Yes (before_id i z)) → lower (find r l) i ≡ Some i
  lower_front i l f = go (find r l) refl
    where
      go : (o : Option LockId) → find r l ≡ o → lower o i ≡ Some i
      go None e = refl
      go (Some z) e = cond_true (before_id i z) (Some i) (Some z) (f z (find→ r l e).0)

  -- where the first found is not after i, it stays
  stays : (i j : LockId) (l : List LockId) → No (before_id i j) → find r l ≡ Some j → Some j ≡ among i l
  stays i j l t e = by (r i) (Some j ≡ among i l)
      (λ u. sym (cond_false (before_id i j) (Some i) (Some j) t) ∙ ap (λ (o : Option LockId). lower o i) (sym e) ∙ sym (cond_true (r i) (lower (find r l) i) (find r l) u))
      (λ u. sym e ∙ sym (cond_false (r i) (lower (find r l) i) (find r l) u))

  find_insert : (b : ℕ) (i : LockId) (js : List LockId) → Yes (from key b js) → find r (insert_id i js) ≡ among i js
  find_insert b i [] h = refl
  find_insert b i (j ∷ js) h =
      cond_both (λ (l : List LockId). find r l ≡ among i (j ∷ js)) (i ∷ (j ∷ js)) _ (before_id i j)
      (λ t. ap (λ (o : Option LockId). cond (r i) o (find r (j ∷ js))) (sym (lower_front i (j ∷ js) (later t))))
      (λ t. cond_both (λ (l : List LockId). find r l ≡ among i (j ∷ js)) (j ∷ js) (j ∷ insert_id i js) (same_id i j) (equal t) (higher t (find_insert (suc (key j)) i js (and_r _ _ h))))
    where
      later : Yes (before_id i j) → (z : LockId) → Mem z (j ∷ js) → Yes (before_id i z)
      later t z m = after i j z t (from→ key (key j) (and_i _ _ (le-leb (key j) (key j) (omega arith)) (and_r _ _ h)) m)

      here : r j ≡ true → find r (j ∷ js) ≡ Some j
      here u = cond_true (r j) (Some j) (find r js) u

      equal : No (before_id i j) → Yes (same_id i j) → find r (j ∷ js) ≡ among i (j ∷ js)
      equal t s = by (r i) (find r (j ∷ js) ≡ among i (j ∷ js))
          (λ u. let e = here (sym (same i j (by_key i j s)) ∙ u) in e ∙ stays i j (j ∷ js) t e)
          (λ u. sym (cond_false (r i) (lower (find r (j ∷ js)) i) (find r (j ∷ js)) u))

      higher : No (before_id i j) → find r (insert_id i js) ≡ among i js → No (same_id i j) → find r (j ∷ insert_id i js) ≡ among i (j ∷ js)
      higher t q s = by (r j) (find r (j ∷ insert_id i js) ≡ among i (j ∷ js))
          (λ u. cond_true (r j) (Some j) (find r (insert_id i js)) u ∙ stays i j (j ∷ js) t (here u))
          (λ u. cond_false (r j) (Some j) (find r (insert_id i js)) u ∙ q ∙ ap (λ (o : Option LockId). cond (r i) (lower o i) o) (sym (cond_false (r j) (Some j) (find r js) u)))

  find_sorted : (is js : List LockId) → Yes (from key 0 js) → find r (insert_ids is js) ≡ lowest_of (find r js) (filter r is)
  find_sorted [] js h = refl
  find_sorted (i ∷ is) js h =
      find_sorted is (insert_id i js) (put_order 0 i js (omega arith) h) ∙ ap (λ (o : Option LockId). lowest_of o (filter r is)) (find_insert 0 i js h)
      ∙ by (r i) (lowest_of (among i js) (filter r is) ≡ lowest_of (find r js) (filter r (i ∷ is))) (λ t. rw t) (λ t. rw t)

  pub find_lowest : (ws : List ℕ) → find r (ascending_ids ws) ≡ lowest_where r ws
  find_lowest ws = find_sorted (ids_of ws) [] refl

-- ---- the checks of an id go by its key
refuse_test : (b : Bool) (a : Result ⊤ Refusal) → is_done a ≡ false → is_done (refuse_if b a (Ok tt)) ≡ non b
unfolding refuse_if is_done non
refuse_test true a e = e
refuse_test false a e = refl

both_test : (a b : Result ⊤ Refusal) → is_done (and_then a b) ≡ (is_done a and is_done b)
unfolding and_then ◌and◌
both_test a b = go (is_done a) refl
  where
    go : (d : Bool) → is_done a ≡ d → is_done (cond d b a) ≡ (d and is_done b)
    go true e = refl
    go false e = e

module _ (l : List ActiveLock) where
  abbrev gone_at : ℕ → Bool
  gone_at k = non (any (λ a. eqb (akey a) k) l)

  abbrev stuck_at : ℕ → Bool
  stuck_at k = any (λ a. eqb (akey a) k and settled_lock a) l

  active_test : (i : LockId) → is_done (check_active l i) ≡ non (gone_at (key i))
  unfolding check_active missing has_id is_done
  active_test i = refuse_test (gone_at (key i)) (Err (ActiveLockNotFound i)) refl

  free_test : (i : LockId) → is_done (check_free l i) ≡ non (stuck_at (key i))
  unfolding check_free has_id is_done
  free_test i = refuse_test (stuck_at (key i)) (Err (BadChild i)) refl

  pub active_same : (i j : LockId) → key i ≡ key j → refuses (check_active l) i ≡ refuses (check_active l) j
  active_same i j e = ap non (active_test i ∙ ap (λ (k : ℕ). non (gone_at k)) e ∙ sym (active_test j))

  listed_test : (i : LockId) → is_done (check_listed l i) ≡ (non (gone_at (key i)) and non (stuck_at (key i)))
  unfolding check_listed
  listed_test i = both_test (check_active l i) (check_free l i) ∙ ap (λ (b : Bool). b and is_done (check_free l i)) (active_test i) ∙ ap (λ (b : Bool). non (gone_at (key i)) and b) (free_test i)

  pub listed_same : (i j : LockId) → key i ≡ key j → refuses (check_listed l) i ≡ refuses (check_listed l) j
  listed_same i j e = ap non (listed_test i ∙ ap (λ (k : ℕ). non (gone_at k) and non (stuck_at k)) e ∙ sym (listed_test j))

  named_same : (child : Bool) (i j : LockId) → key i ≡ key j → refuses (check_named child l) i ≡ refuses (check_named child l) j
  unfolding check_named
  named_same true = listed_same
  named_same false = active_same

  -- the lowest id that is refused is the first of them in order
  pub named_first : (child : Bool) (ws : List ℕ) → first_refusal (check_named child l) (ascending_ids ws) ≡ told_by (check_named child l) (lowest_where (refuses (check_named child l)) ws)
  named_first child ws = first_find (check_named child l) (ascending_ids ws) ∙ ap (told_by (check_named child l)) (find_lowest (refuses (check_named child l)) (named_same child) ws)
