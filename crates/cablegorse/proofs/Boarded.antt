-- The calls with a board: 12 is the image's refusal before 28, and where the board is the image's own the call is the one without
-- it. Assumes nothing.
use mathlib.Core.Path.{◌≡◌, refl, sym, ap, ◌∙◌}
use mathlib.Core.Bool.{Bool, true, false, cond}
use mathlib.Core.List.{List, [], ◌∷◌}
use Prim.Native.Nat.{ℕ}
use native.Mathlib.Omega.{arith}
use borrow.Author.Tests.{eq-eqb, ne_eqb}
use Rattle.lists.specs.Tests.{Yes, No}
use Rattle.lists.specs.Papers.{paper}
use Rattle.lists.proofs.Tests.{cond_true, cond_false}
use Rattle.std.specs.Prelude.{Result, Ok, Err, ⊤}
use Rattle.rules.specs.declared.Unsound.{Unsound}
use Rattle.rules.specs.declared.Unsound.TheVariants.{Rule}
use Rattle.rules.specs.Rules.{broken_rule}
use Rattle.lookups.specs.Reads.{on_sound, by_verdict}
use Rattle.image.specs.declared.Imaged.{Imaged}
use Rattle.image.specs.declared.ImageRefusal.{ImageRefusal}
use Rattle.image.specs.declared.ImageRefusal.TheVariants.{UnsoundState}
use Rattle.image.specs.Image.{refusal, records_of, read_on, reading_paper}
use Rattle.std.specs.Result.{is_ok}
use Rattle.image.proofs.Halves.{judged_by}
use Rattle.feed.specs.declared.events.Step.{Step}
use Rattle.feed.specs.Feed.{step_on, is_unsound, event_paper}
use Rattle.feed.proofs.Turning.{step_unsound}
use Rattle.board.specs.Board.{matches}
use Rattle.board.specs.Forms.{step_followed}
use Rattle.cablegorse.specs.declared.Told.{Told}
use Rattle.cablegorse.specs.declared.Applied.{Applied}
use Rattle.cablegorse.specs.Telling.{told_of, reading_told}
use Rattle.cablegorse.specs.Changes.{still, Changed, changed, apply_of, left, delete_of}
use Rattle.cablegorse.specs.Code.{step_shown}
use Rattle.cablegorse.specs.Boards.{board_told, board_changed, followed_by, apply_board_of, delete_board_of}
use Rattle.cablegorse.proofs.Images.{image_refused, image_read, records_refused, step_read}

-- ---- refused: the image's refusals, or 28
module _ (s b : List ℕ) (y : Told) (q : y ≡ board_told s b) where
  module _ (f : List ℕ) (at : ℕ) (n m x : List ℕ) where
    pub apply_refused : (y.number ≡ 0 → ⊥) → board_changed (changed (still y 0 0 at) n m x) b ≡ apply_board_of s b f at n m x
    unfolding apply_board_of
    apply_refused h = ap (λ (z : Told). board_changed (changed (still z 0 0 at) n m x) b) q ∙ sym (cond_false _ _ _ (ne_eqb _ 0 (λ z. h (ap (λ (u : Told). u.number) q ∙ z))))

    apply_done : y.number ≡ 0 → followed_by f at (step_on (read_on s).spare f at) b (apply_of s f at n m x) ≡ apply_board_of s b f at n m x
    unfolding apply_board_of
    apply_done h = sym (cond_true _ _ _ (eq-eqb _ 0 (sym (ap (λ (u : Told). u.number) q) ∙ h)))

  module _ (hi lo kind number subject : ℕ) (n : List ℕ) where
    pub delete_refused : (y.number ≡ 0 → ⊥) → left (still y 0 0 0) n ≡ delete_board_of s b hi lo kind number subject n
    unfolding delete_board_of
    delete_refused h = ap (λ (z : Told). left (still z 0 0 0) n) q ∙ sym (cond_false _ _ _ (ne_eqb _ 0 (λ z. h (ap (λ (u : Told). u.number) q ∙ z))))

    pub delete_done : y.number ≡ 0 → delete_of s hi lo kind number subject n ≡ delete_board_of s b hi lo kind number subject n
    unfolding delete_board_of
    delete_done h = sym (cond_true _ _ _ (eq-eqb _ 0 (sym (ap (λ (u : Told). u.number) q) ∙ h)))

-- ---- i is what the image says, tested
module _ (s b : List ℕ) (i : Imaged) (e : i ≡ read_on s) where
  pub told_refused : (why : ImageRefusal) → i.told ≡ Err why → reading_told (Err why) ≡ board_told s b
  unfolding board_told
  told_refused why h = image_refused s (λ y. y) _ i e why h

  pub told_matched : i.told ≡ Ok tt → (m : Bool) → m ≡ matches i.spare.state b → told_of (paper (cond m 0 28) []) ≡ board_told s b
  unfolding board_told
  told_matched h m g = ap (λ (k : Bool). told_of (paper (cond k 0 28) [])) g ∙ image_read s (λ y. y) (λ sp. told_of (paper (cond (matches sp.state b) 0 28) [])) i e h

-- ---- i is what the records say, not tested
module _ (s b : List ℕ) (i : Imaged) (e : i ≡ records_of s) where
  pub records_told : (why : ImageRefusal) → i.told ≡ Err why → reading_told (Err why) ≡ board_told s b
  unfolding board_told
  records_told why h = records_refused s i e (λ y. y) _ why h

  module _ (h : i.told ≡ Ok tt) where
    abbrev told_done : Yes (is_ok i.told)
    told_done = ap is_ok h

    told_broken : (k : ℕ) → (Err (Rule k)) ≡ broken_rule i.spare.state → told_of (paper 12 (k ∷ [])) ≡ board_told s b
    unfolding board_told reading_told reading_paper
    told_broken k g = image_refused s (λ y. y) _ (refusal (UnsoundState k)) (judged_by s i e (Err (Rule k)) told_done g) (UnsoundState k) refl

    told_sound : (Ok tt) ≡ broken_rule i.spare.state → (m : Bool) → m ≡ matches i.spare.state b → told_of (paper (cond m 0 28) []) ≡ board_told s b
    told_sound g m z = told_matched s b i (judged_by s i e (Ok tt) told_done g) h m z

    module _ (f : List ℕ) (at : ℕ) (n m x : List ℕ) where
      pub apply_mismatch : No (matches i.spare.state b) → (y : Told) → y ≡ on_sound i.spare.state (λ k. told_of (paper 12 (k ∷ []))) (told_of (paper 28 [])) → board_changed (changed (still y 0 0 at) n m x) b ≡ apply_board_of s b f at n m x
      unfolding on_sound
      apply_mismatch o y z = go (broken_rule i.spare.state) refl z
        where
          go : (v : Result ⊤ Unsound) → v ≡ broken_rule i.spare.state → y ≡ by_verdict v (λ k. told_of (paper 12 (k ∷ []))) (told_of (paper 28 [])) → board_changed (changed (still y 0 0 at) n m x) b ≡ apply_board_of s b f at n m x
          go (Ok tt) g p = apply_refused s b y (p ∙ told_sound g false (sym o)) f at n m x (λ w. omega (arith, ap (λ (u : Told). u.number) p, w))
          go (Err (Rule k)) g p = apply_refused s b y (p ∙ told_broken k g) f at n m x (λ w. omega (arith, ap (λ (u : Told). u.number) p, w))

      pub apply_matched : Yes (matches i.spare.state b) → followed_by f at (step_on i.spare f at) b (step_shown at (step_on i.spare f at) n m x) ≡ apply_board_of s b f at n m x
      unfolding step_shown is_unsound event_paper
      apply_matched o = go (broken_rule i.spare.state) refl
        where
          go : (v : Result ⊤ Unsound) → v ≡ broken_rule i.spare.state → followed_by f at (step_on i.spare f at) b (step_shown at (step_on i.spare f at) n m x) ≡ apply_board_of s b f at n m x
          go (Ok tt) g =
              ap (followed_by f at (step_on i.spare f at) b) (step_read s i e h f at n m x)
              ∙ ap (λ (j : Imaged). followed_by f at (step_on j.spare f at) b (apply_of s f at n m x)) (judged_by s i e (Ok tt) told_done g)
              ∙ apply_done s b (told_of (paper 0 [])) (told_sound g true (sym o)) f at n m x refl
          go (Err (Rule k)) g =
              ap (λ (st : Step). followed_by f at st b (step_shown at st n m x)) (step_unsound i.spare f at k (sym g))
              ∙ apply_refused s b (told_of (paper 12 (k ∷ []))) (told_broken k g) f at n m x (λ w. omega (arith, w))

-- ---- the outputs, and then the board
module _ (f : List ℕ) (at : ℕ) (st : Step) (b : List ℕ) (r : Applied) (n m x : List ℕ) (c : Changed) (q : changed r n m x ≡ c) where
  pub put_nothing : (r.part ≡ 2 → ⊥) → board_changed (changed r n m x) b ≡ followed_by f at st b c
  put_nothing h = ap (λ (k : List ℕ). board_changed (changed r n m x) k) (sym (cond_false _ _ _ (ne_eqb r.part 2 h))) ∙ ap (followed_by f at st b) q

  pub put_board : r.part ≡ 2 → (b' : List ℕ) → b' ≡ step_followed f at st b → board_changed (changed r n m x) b' ≡ followed_by f at st b c
  put_board h b' g = ap (λ (k : List ℕ). board_changed (changed r n m x) k) (g ∙ sym (cond_true _ _ _ (eq-eqb r.part 2 h))) ∙ ap (followed_by f at st b) q
