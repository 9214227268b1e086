-- What comes in turn out of any receipts, over any element that is numbered in turn.
--     turn_picked  of the receipts of elements numbered in turn, those that come in turn are the first so many, in their order
--     any_ends     so a spare that is fed the receipts ends as the spare that was fed the first so many
-- Assumes nothing.
use mathlib.Core.Path.{◌≡◌, refl, sym, ap, ◌∙◌}
use mathlib.Core.Bool.{Bool, true, false, cond}
use mathlib.Core.List.{List, [], ◌∷◌, ◌++◌, append-nil, append_assoc}
use Prim.Native.Nat.{ℕ, zero, suc, ◌+◌, ◌≤◌, ◌<◌, ◌^◌}
use native.Mathlib.Nat.{not-suc-le-zero, le_of_suc-le-suc}
use native.Mathlib.Omega.{arith}
use lib.Dec.{eqb}
use lib.ListN.{length, take, drop}
use borrow.Author.Tests.{eq-eqb, ne_eqb, eqb-true, eqb-false}
use Rattle.lists.proofs.Tests.{cond_true, cond_false, cond_both}
use Rattle.state.specs.declared.LockState.{LockState}
use Rattle.std.specs.Prelude.{Ok}
use Rattle.rules.specs.Rules.{broken_rule}
use Rattle.image.specs.declared.Spare.{Spare}
use Rattle.feed.specs.Feed.{distance, after}
use Rattle.takeover.specs.Feeding.{fed_all, in_turn}
use Rattle.takeover.specs.Ends.{number_at, Turns, Receipts, picked, on_receipt, applied, Near, Arrives}
use Rattle.takeover.proofs.Any.{only_in_turn}

-- ---- numbers that go round
pub number_first : (e : ℕ) → e < 2 ^ 32 → e ≡ number_at e 0
number_first e h = omega arith

pub number_after : (e k : ℕ) → after (number_at e k) ≡ number_at e (suc k)
unfolding after
number_after e k = omega arith

pub number_on : (e k : ℕ) → number_at (after e) k ≡ number_at e (suc k)
unfolding after
number_on e k = omega arith

pub after_small : (e : ℕ) → after e < 2 ^ 32
unfolding after
after_small e = omega arith

-- a later one is so far ahead, and an earlier one what is left of a whole round
pub distance_later : (e j k d : ℕ) → j ≡ k + d → d < 2 ^ 32 → distance (number_at e j) (number_at e k) ≡ d
unfolding distance
distance_later e j k d h l = omega arith

pub distance_earlier : (e j k d : ℕ) → j + 2 ^ 32 ≡ k + d → d < 2 ^ 32 → distance (number_at e j) (number_at e k) ≡ d
unfolding distance
distance_earlier e j k d h l = omega arith

-- within a round only record k has the number that is due after k
pub distance_none : (e j k : ℕ) → j < k + 2 ^ 32 → k < j + 2 ^ 32 → distance (number_at e j) (number_at e k) ≡ 0 → j ≡ k
unfolding distance
distance_none e j k a b z = omega arith

-- ---- how many are applied
pub applied_within : (n : ℕ) (js : List ℕ) (k : ℕ) → Receipts n js → k ≤ n → applied k js ≤ n
unfolding applied
applied_within n [] k r h = h
applied_within n (j ∷ js) k r h = applied_within n js (on_receipt k j) r.1 (cond_both (λ (m : ℕ). m ≤ n) _ _ (eqb j k) (λ t. let z = eqb-true j k t in let l = r.0 in omega arith) (λ t. h))

-- ---- which come in turn
take_one : {X : Type 0} (k : ℕ) (xs : List X) → take k xs ++ take 1 (drop k xs) ≡ take (suc k) xs
take_one zero xs = refl
take_one (suc k) [] = refl
take_one {X} (suc k) (x ∷ xs) = ap (λ (l : List X). x ∷ l) (take_one k xs)

module _ {X : Type 0} (number : X → ℕ) where
  -- the element at a place, and its number
  pub at_place : (xs : List X) (j e : ℕ) → e < 2 ^ 32 → Turns number e xs → j < length xs → (x : X) × (take 1 (drop j xs) ≡ x ∷ []) × (number x ≡ number_at e j)
  at_place [] j e he t h = absurd (not-suc-le-zero h)
  at_place (x ∷ xs) zero e he t h = (x, refl, t.0 ∙ number_first e he)
  at_place (x ∷ xs) (suc j) e he t h =
      let w = at_place xs j (after e) (after_small e) t.1 (le_of_suc-le-suc h) in
      (w.0, w.1, w.2 ∙ number_on e j)

  module _ (xs : List X) (e : ℕ) (he : e < 2 ^ 32) (t : Turns number e xs) (w : ℕ) (round : w ≤ 2 ^ 32) where
    -- from k on
    turn_rest : (js : List ℕ) (k : ℕ) → Receipts (length xs) js → Near w k js → take k xs ++ in_turn number (number_at e k) (picked xs js) ≡ take (applied k js) xs
    unfolding picked applied in_turn
    turn_rest [] k r n = append-nil (take k xs)
    turn_rest (j ∷ js) k r n =
        let p = at_place xs j e he t r.0 in
        ap (λ (l : List X). take k xs ++ in_turn number (number_at e k) (l ++ picked xs js)) p.1
        ∙ go p.0 p.1 p.2 (λ m. turn_rest js m r.1) (eqb j k) refl n.2
      where
        go : (x : X) → take 1 (drop j xs) ≡ x ∷ [] → number x ≡ number_at e j
            → ((m : ℕ) → Near w m js → take m xs ++ in_turn number (number_at e m) (picked xs js) ≡ take (applied m js) xs)
            → (b : Bool) → eqb j k ≡ b → Near w (cond b (suc k) k) js
            → take k xs ++ cond (eqb (distance (number x) (number_at e k)) 0) (x ∷ in_turn number (after (number_at e k)) (picked xs js)) (in_turn number (number_at e k) (picked xs js))
            ≡ take (applied (cond b (suc k) k) js) xs
        go x p q rest true u m =
            let z = eqb-true j k u in
            ap (λ (l : List X). take k xs ++ l) (cond_true _ _ _ (eq-eqb _ _ (ap (λ (y : ℕ). distance y (number_at e k)) q ∙ distance_later e j k 0 (omega arith) (omega arith))))
            ∙ ap (λ (y : ℕ). take k xs ++ (x ∷ in_turn number y (picked xs js))) (number_after e k)
            ∙ sym (append_assoc (take k xs) (x ∷ []) _)
            ∙ ap (λ (l : List X). (take k xs ++ l) ++ in_turn number (number_at e (suc k)) (picked xs js)) (sym p ∙ ap (λ (y : ℕ). take 1 (drop y xs)) z)
            ∙ ap (λ (l : List X). l ++ in_turn number (number_at e (suc k)) (picked xs js)) (take_one k xs)
            ∙ rest (suc k) m
        go x p q rest false u m =
            ap (λ (l : List X). take k xs ++ l) (cond_false _ _ _ (ne_eqb _ _ (λ z. eqb-false j k u (distance_none e j k (let a = n.0 in omega arith) (let a = n.1 in omega arith) (ap (λ (y : ℕ). distance y (number_at e k)) (sym q) ∙ z)))))
            ∙ rest k m

    pub turn_picked : (js : List ℕ) → Arrives w (length xs) js → in_turn number e (picked xs js) ≡ take (applied 0 js) xs
    turn_picked js a = ap (λ (y : ℕ). in_turn number y (picked xs js)) (number_first e he) ∙ turn_rest js 0 a.sent a.near

  -- ---- a spare
  module _ (act : X → LockState → LockState) (keeps : (x : X) (s : LockState) → broken_rule s ≡ Ok tt → broken_rule (act x s) ≡ Ok tt) where
    pub any_ends : (sp : Spare) (xs : List X) → sp.expected < 2 ^ 32 → Turns number sp.expected xs → (w : ℕ) → w ≤ 2 ^ 32
        → (js : List ℕ) → Arrives w (length xs) js → fed_all number act sp (picked xs js) ≡ fed_all number act sp (take (applied 0 js) xs)
    any_ends sp xs he t w round js a = only_in_turn number act keeps sp (picked xs js) ∙ ap (fed_all number act sp) (turn_picked xs sp.expected he t w round js a)
