-- The board at the library's door (02, C-11): a host that keeps an image and its board and calls cablegorse_apply_board, or
-- cablegorse_delete_defunct_board. Whatever the bytes are, the call is refused and every byte of everything kept; or it is cablegorse_apply's, and the board beside it is
-- left where no image was written, and is the next image's own where one was: the next call's test passes. Assumes nothing.
use mathlib.Core.Path.{◌≡◌, refl, sym, ap, subst, ◌∙◌}
use mathlib.Core.Bool.{Bool, true, false, cond}
use mathlib.Core.List.{List, []}
use Prim.Native.Nat.{ℕ}
use native.Mathlib.Omega.{arith}
use borrow.Author.Tests.{eqb-true, eqb-false}
use lib.Dec.{eqb}
use lib.ListN.{take}
use Rattle.lists.specs.Tests.{Yes}
use Rattle.lists.specs.Papers.{paper}
use Rattle.lists.proofs.Tests.{by, cond_true, cond_false, cond_both}
use Rattle.state.specs.Model.{model_of}
use Rattle.records.specs.Wire.{id}
use Rattle.records.proofs.Numbers.{Bytes}
use Rattle.locks.specs.Locks.{delete_defunct_on}
use Rattle.image.specs.declared.Spare.{Spare}
use Rattle.image.specs.declared.Imaged.{Imaged}
use Rattle.image.specs.Image.{read_on, reading_paper}
use Rattle.feed.specs.Feed.{step_on}
use Rattle.board.specs.Board.{board_of, matches}
use Rattle.board.specs.Forms.{Boarded, step_followed, step_board}
use Rattle.board.specs.declared.BoardStep.{BoardStep}
use Rattle.board.proofs.Boarding.{own_size, followed_on, step_on_lem}
use Rattle.board.proofs.Theorems.{matches_own, own_matches, delete_defunct_keeps, step_keeps_board}
use Rattle.cablegorse.specs.declared.Told.{Told}
use Rattle.cablegorse.specs.Telling.{told_of, reading_told}
use Rattle.cablegorse.specs.Boundary.{on_image}
use Rattle.cablegorse.specs.Changes.{still, changed, apply_of, Left, left, spare_after, delete_of}
use Rattle.cablegorse.specs.Boards.{board_told, BoardChanged, board_changed, followed_by, apply_board_of, delete_board_of}
use Rattle.image.proofs.Trips.{accepted}
use Rattle.cablegorse.proofs.Images.{done_told}
use Rattle.doors.specs.Reads.{reads}
use Rattle.doors.proofs.Doors.{Door, apply_door, Deleted, delete_door}

-- ---- what the test of an image and a board says
told_own : (s b : List ℕ) (sp : Spare) → reads s sp → board_told s b ≡ told_of (paper (cond (matches sp.state b) 0 28) [])
unfolding board_told on_image reading_told reading_paper
told_own s b sp e = ap (λ (i : Imaged). cond (eqb (reading_told i.told).number 0) (told_of (paper (cond (matches i.spare.state b) 0 28) [])) (reading_told i.told)) e

-- 0: the image is accepted, and the board is its own
pub told_zero : (s b : List ℕ) → (board_told s b).number ≡ 0 → (sp : Spare) × reads s sp × Yes (matches sp.state b)
unfolding board_told on_image
told_zero s b h = go (reading_told (read_on s).told).number refl h
  where
    own : (m : Bool) → cond {A = ℕ} m 0 28 ≡ 0 → Yes m
    own true e = refl
    own false e = absurd (omega (arith, e))

    go : (k : ℕ) → (reading_told (read_on s).told).number ≡ k → (cond (eqb k 0) (told_of (paper (cond (matches (read_on s).spare.state b) 0 28) [])) (reading_told (read_on s).told)).number ≡ 0
        → (sp : Spare) × reads s sp × Yes (matches sp.state b)
    go k q z = by (eqb k 0) ((sp : Spare) × reads s sp × Yes (matches sp.state b))
        (λ t. (
          (read_on s).spare,
          (let d = done_told (read_on s).told (q ∙ eqb-true k 0 t) in λ i. record { told = d i; spare = (read_on s).spare }),
          own (matches (read_on s).spare.state b) (sym (ap (λ (y : Told). y.number) (cond_true _ _ _ t)) ∙ z),
        ))
        (λ t. absurd (eqb-false k 0 t (sym q ∙ sym (ap (λ (y : Told). y.number) (cond_false _ _ _ t)) ∙ z)))

-- ---- a record
pub data BoardDoor (s b f : List ℕ) (at : ℕ) (n m x : List ℕ) (c : BoardChanged) : Type 0 where
  refused : ((board_told s b).number ≡ 0 → ⊥) → c ≡ board_changed (changed (still (board_told s b) 0 0 at) n m x) b → BoardDoor s b f at n m x c
  stayed : c.changed ≡ apply_of s f at n m x → ((apply_of s f at n m x).told.part ≡ 2 → ⊥) → c.board ≡ b → BoardDoor s b f at n m x c
  wrote : c.changed ≡ apply_of s f at n m x → (apply_of s f at n m x).told.part ≡ 2
      → (board_told (take (apply_of s f at n m x).told.written (apply_of s f at n m x).next) c.board).number ≡ 0 → BoardDoor s b f at n m x c

module _ (s f : List ℕ) (ys : Bytes s) (yf : Bytes f) (b : List ℕ) (at : ℕ) (n m x : List ℕ) where
  -- the board after a step is the next spare's own
  next_own : (sp : Spare) → reads s sp → Yes (matches sp.state b) → step_followed f at (step_on sp f at) b ≡ board_of (model_of (step_on sp f at).spare.state).active
  next_own sp e t =
      sym (followed_on f at (step_on sp f at) b (own_size sp.state b t))
      ∙ ap (λ (y : Boarded BoardStep). y.board) (step_on_lem sp f at b t)
      ∙ ap (λ (y : List ℕ). (step_board sp f at y).board) (matches_own sp.state b t)
      ∙ ap (λ (y : Boarded BoardStep). y.board) (step_keeps_board sp (accepted s sp e).sound f at)

  after : (sp : Spare) → reads s sp → Yes (matches sp.state b) → (apply_of s f at n m x).told.part ≡ 2
      → (board_told (take (apply_of s f at n m x).told.written (apply_of s f at n m x).next) (step_followed f at (step_on sp f at) b)).number ≡ 0
  after sp e t p = go (apply_door s f ys yf at n m x)
    where
      go : Door s f at n m x (apply_of s f at n m x) → (board_told (take (apply_of s f at n m x).told.written (apply_of s f at n m x).next) (step_followed f at (step_on sp f at) b)).number ≡ 0
      go (Door.kept h k a c d) = absurd (k p)
      go (Door.unreached z g q a c d i k j) = absurd (omega (arith, p, q))
      go (Door.wrote z g q w r i j) =
          let same : z ≡ sp = ap (λ (y : Imaged). y.spare) (sym g ∙ e) in
          let next : Spare = (step_on sp f at).spare in
          ap (λ (y : List ℕ). (board_told (take (apply_of s f at n m x).told.written (apply_of s f at n m x).next) y).number) (next_own sp e t)
          ∙ ap (λ (y : Told). y.number) (told_own _ _ next (subst (λ (u : Spare). reads (take (apply_of s f at n m x).told.written (apply_of s f at n m x).next) (step_on u f at).spare) same r))
          ∙ cond_true _ _ _ (own_matches next.state)

  pub apply_board_door : BoardDoor s b f at n m x (apply_board_of s b f at n m x)
  unfolding apply_board_of
  apply_board_door =
      cond_both (BoardDoor s b f at n m x) _ _ (eqb (board_told s b).number 0)
      (λ t. done (told_zero s b (eqb-true _ 0 t)))
      (λ t. refused (eqb-false _ 0 t) refl)
    where
      done : (sp : Spare) × reads s sp × Yes (matches sp.state b) → BoardDoor s b f at n m x (followed_by f at (step_on (read_on s).spare f at) b (apply_of s f at n m x))
      done (sp, e, y) =
          by (eqb (apply_of s f at n m x).told.part 2) (BoardDoor s b f at n m x (followed_by f at (step_on (read_on s).spare f at) b (apply_of s f at n m x)))
          (λ t. wrote refl (eqb-true _ 2 t)
          (ap (λ (w : List ℕ). (board_told (take (apply_of s f at n m x).told.written (apply_of s f at n m x).next) w).number)
          (cond_true _ _ _ t ∙ ap (λ (i : Imaged). step_followed f at (step_on i.spare f at) b) e) ∙ after sp e y (eqb-true _ 2 t)))
          (λ t. stayed refl (eqb-false _ 2 t) (cond_false _ _ _ t))

-- ---- a deletion of a defunct entry: refused and every byte kept; or cablegorse_delete_defunct's, and where an image was written,
-- the board that was lent is that image's own
pub data BoardDeleted (s b : List ℕ) (hi lo kind number subject : ℕ) (n : List ℕ) (c : Left) : Type 0 where
  denied : ((board_told s b).number ≡ 0 → ⊥) → c ≡ left (still (board_told s b) 0 0 0) n → BoardDeleted s b hi lo kind number subject n c
  deleted : (board_told s b).number ≡ 0 → c ≡ delete_of s hi lo kind number subject n
      → ((c.told.written ≡ 0 → ⊥) → (board_told (take c.told.written c.next) b).number ≡ 0) → BoardDeleted s b hi lo kind number subject n c

module _ (s : List ℕ) (ys : Bytes s) (b : List ℕ) (hi lo kind number subject : ℕ) (n : List ℕ) where
  abbrev gone : Left
  gone = delete_of s hi lo kind number subject n

  still_own : (sp : Spare) → reads s sp → Yes (matches sp.state b) → (gone.told.written ≡ 0 → ⊥) → (board_told (take gone.told.written gone.next) b).number ≡ 0
  still_own sp e t h = go (delete_door s ys hi lo kind number subject n)
    where
      go : Deleted s (id hi lo) subject n gone → (board_told (take gone.told.written gone.next) b).number ≡ 0
      go (Deleted.kept w k) = absurd (h w)
      go (Deleted.wrote z k g p w r y) =
          let same : z ≡ sp = ap (λ (i : Imaged). i.spare) (sym g ∙ e) in
          let after : Spare = spare_after sp.expected (delete_defunct_on sp.state (id hi lo) k subject) in
          let own : b ≡ board_of (model_of after.state).active = matches_own sp.state b t ∙ (delete_defunct_keeps sp.state (accepted s sp e).sound (id hi lo) k subject).1 in
          ap (λ (u : Told). u.number) (told_own _ b after (subst (λ (u : Spare). reads (take gone.told.written gone.next) (spare_after u.expected (delete_defunct_on u.state (id hi lo) k subject))) same r))
          ∙ cond_true _ _ _ (ap (matches after.state) own ∙ own_matches after.state)

  pub delete_board_door : BoardDeleted s b hi lo kind number subject n (delete_board_of s b hi lo kind number subject n)
  unfolding delete_board_of
  delete_board_door =
      cond_both (BoardDeleted s b hi lo kind number subject n) _ _ (eqb (board_told s b).number 0)
      (λ t. let z = told_zero s b (eqb-true _ 0 t) in deleted (eqb-true _ 0 t) refl (still_own z.0 z.1 z.2))
      (λ t. denied (eqb-false _ 0 t) refl)
