-- The takeover, over any element that has a number and whose acting keeps a state sound.
--     only_in_turn  only the elements in turn count
--     takeover      a spare that is fed numbered elements in turn, with any out of turn mixed in between, ends exactly as the
--                   spare that was fed them alone
-- Assumes nothing.
use mathlib.Core.Path.{◌≡◌, refl, sym, ap, ◌∙◌}
use mathlib.Core.Bool.{Bool, true, false, cond}
use mathlib.Core.List.{List, [], ◌∷◌}
use Prim.Native.Nat.{ℕ}
use lib.Dec.{eqb}
use borrow.Author.Tests.{eq-eqb, ne_eqb, eqb-true, eqb-false}
use Rattle.lists.proofs.Tests.{cond_true, cond_false, cond_both}
use Rattle.state.specs.declared.LockState.{LockState}
use Rattle.std.specs.Prelude.{Result, Ok, Err, ⊤}
use Rattle.rules.specs.declared.Unsound.{Unsound}
use Rattle.rules.specs.declared.Unsound.TheVariants.{Rule}
use Rattle.rules.specs.Rules.{broken_rule}
use Rattle.lookups.specs.Reads.{by_verdict, on_sound}
use Rattle.image.specs.declared.Spare.{Spare}
use Rattle.feed.specs.Feed.{distance, after}
use Rattle.takeover.specs.Feeding.{moved, fed, fed_all, in_turn, Mixed, done, due, other}

-- ---- a mixture, and those of it that come in turn
module _ {X : Type 0} (number : X → ℕ) where
  pub mixed_first : {e : ℕ} {xs ys : List X} → Mixed number e xs ys → in_turn number e xs ≡ xs
  unfolding in_turn
  mixed_first done = refl
  mixed_first (due {e} {x} h m) = cond_true _ _ _ (eq-eqb _ _ h) ∙ ap (λ (l : List X). x ∷ l) (mixed_first m)
  mixed_first (other h m) = mixed_first m

  pub mixed_both : {e : ℕ} {xs ys : List X} → Mixed number e xs ys → in_turn number e ys ≡ xs
  unfolding in_turn
  mixed_both done = refl
  mixed_both (due {e} {x} h m) = cond_true _ _ _ (eq-eqb _ _ h) ∙ ap (λ (l : List X). x ∷ l) (mixed_both m)
  mixed_both (other h m) = cond_false _ _ _ (ne_eqb _ _ h) ∙ mixed_both m

module _ {X : Type 0} (number : X → ℕ) (act : X → LockState → LockState) where
  -- ---- one element
  module _ (sp : Spare) (x : X) where
    abbrev turned : Spare
    turned = cond (eqb (distance (number x) sp.expected) 0) (moved (act x sp.state) sp) sp

    pub fed_sound : broken_rule sp.state ≡ Ok tt → fed number act sp x ≡ turned
    unfolding fed on_sound
    fed_sound e = ap (λ (v : Result ⊤ Unsound). by_verdict v (λ n. sp) turned) e

    fed_unsound : (n : ℕ) → broken_rule sp.state ≡ Err (Rule n) → fed number act sp x ≡ sp
    unfolding fed on_sound
    fed_unsound n e = ap (λ (v : Result ⊤ Unsound). by_verdict v (λ k. sp) turned) e

    -- in turn, and out of turn
    pub fed_due : broken_rule sp.state ≡ Ok tt → distance (number x) sp.expected ≡ 0 → (fed number act sp x).expected ≡ after sp.expected
    fed_due e h = ap (λ (y : Spare). y.expected) (fed_sound e ∙ cond_true _ _ _ (eq-eqb _ _ h))

    pub fed_other : (distance (number x) sp.expected ≡ 0 → ⊥) → fed number act sp x ≡ sp
    fed_other h = go (broken_rule sp.state) refl
      where
        go : (v : Result ⊤ Unsound) → broken_rule sp.state ≡ v → fed number act sp x ≡ sp
        go (Ok tt) e = fed_sound e ∙ cond_false _ _ _ (ne_eqb _ _ h)
        go (Err (Rule n)) e = fed_unsound n e

  -- ---- an acting that keeps a state sound
  module _ (keeps : (x : X) (s : LockState) → broken_rule s ≡ Ok tt → broken_rule (act x s) ≡ Ok tt) where
    pub fed_keeps : (sp : Spare) (x : X) → broken_rule sp.state ≡ Ok tt → broken_rule (fed number act sp x).state ≡ Ok tt
    fed_keeps sp x e =
        ap (λ (y : Spare). broken_rule y.state) (fed_sound sp x e)
        ∙ cond_both (λ (y : Spare). broken_rule y.state ≡ Ok tt) _ _ (eqb (distance (number x) sp.expected) 0) (λ t. keeps x sp.state e) (λ t. e)

    all_unsound : (sp : Spare) (n : ℕ) → broken_rule sp.state ≡ Err (Rule n) → (xs : List X) → fed_all number act sp xs ≡ sp
    unfolding fed_all
    all_unsound sp n e [] = refl
    all_unsound sp n e (x ∷ xs) = ap (λ (y : Spare). fed_all number act y xs) (fed_unsound sp x n e) ∙ all_unsound sp n e xs

    all_sound : (sp : Spare) → broken_rule sp.state ≡ Ok tt → (xs : List X) → fed_all number act sp xs ≡ fed_all number act sp (in_turn number sp.expected xs)
    unfolding fed_all in_turn
    all_sound sp e [] = refl
    all_sound sp e (x ∷ xs) = go (λ sq f. all_sound sq f xs) (eqb (distance (number x) sp.expected) 0) refl
      where
        go : ((sq : Spare) → broken_rule sq.state ≡ Ok tt → fed_all number act sq xs ≡ fed_all number act sq (in_turn number sq.expected xs)) → (b : Bool) → eqb (distance (number x) sp.expected) 0 ≡ b
            → fed_all number act (fed number act sp x) xs ≡ fed_all number act sp (cond b (x ∷ in_turn number (after sp.expected) xs) (in_turn number sp.expected xs))
        go rest true t = rest (fed number act sp x) (fed_keeps sp x e) ∙ ap (λ (k : ℕ). fed_all number act (fed number act sp x) (in_turn number k xs)) (fed_due sp x e (eqb-true _ _ t))
        go rest false t = ap (λ (y : Spare). fed_all number act y xs) (fed_other sp x (eqb-false _ _ t)) ∙ rest sp e

    pub only_in_turn : (sp : Spare) (xs : List X) → fed_all number act sp xs ≡ fed_all number act sp (in_turn number sp.expected xs)
    only_in_turn sp xs = go (broken_rule sp.state) refl
      where
        go : (v : Result ⊤ Unsound) → broken_rule sp.state ≡ v → fed_all number act sp xs ≡ fed_all number act sp (in_turn number sp.expected xs)
        go (Ok tt) e = all_sound sp e xs
        go (Err (Rule n)) e = all_unsound sp n e xs ∙ sym (all_unsound sp n e (in_turn number sp.expected xs))

    pub takeover : (sp : Spare) (xs ys : List X) → Mixed number sp.expected xs ys → fed_all number act sp ys ≡ fed_all number act sp xs
    takeover sp xs ys m = only_in_turn sp ys ∙ ap (fed_all number act sp) (mixed_both number m)

    -- every state met on the way is sound
    pub all_keep : (sp : Spare) (xs : List X) → broken_rule sp.state ≡ Ok tt → broken_rule (fed_all number act sp xs).state ≡ Ok tt
    unfolding fed_all
    all_keep sp [] e = e
    all_keep sp (x ∷ xs) e = all_keep (fed number act sp x) xs (fed_keeps sp x e)
