-- The board of control units at the boundary. Document 02, C-11: "A board handed in that doesn't match its state is refused and
-- left. [..] 28 BoardMismatch, after 12." Where the board is the image's own, each call is the one without it. Assumes nothing.
use Rattle.std.specs.Prelude.{cond, List, [], ℕ, eqb}
use Rattle.lists.specs.Papers.{paper}
use Rattle.image.specs.Image.{read_on, writing_paper}
use Rattle.feed.specs.declared.events.Step.{Step}
use Rattle.feed.specs.Feed.{step_on}
use Rattle.board.specs.Board.{matches}
use Rattle.board.specs.Forms.{step_followed, fresh_on}
use Rattle.cablegorse.specs.declared.Told.{Told}
use Rattle.cablegorse.specs.Telling.{told_of, Kept, kept}
use Rattle.cablegorse.specs.Boundary.{on_image}
use Rattle.cablegorse.specs.Changes.{still, Changed, changed, apply_of, Left, left, delete_of}

-- ---- the image's board: its refusals, 21 with the size, or the size and the bytes
unfoldable pub board_of_image : List ℕ → List ℕ → Kept
board_of_image s out = on_image s (λ t. kept t out) (λ sp. kept (told_of (writing_paper (fresh_on sp.state out).done)) (fresh_on sp.state out).board)

-- ---- an image and a board: the image's refusals, then 28; 0 where the board is the image's own
unfoldable pub board_told : List ℕ → List ℕ → Told
board_told s b = on_image s (λ t. t) (λ sp. told_of (paper (cond (matches sp.state b) 0 28) []))

-- ---- a record of a feed
-- what `cablegorse_apply` leaves, and the board
pub record BoardChanged : Type 0 where
  pub changed : Changed
  pub board : List ℕ

abbrev pub board_changed : Changed → List ℕ → BoardChanged
board_changed c b = record { changed = c; board = b }

-- the board follows where the outputs were written: part 2
abbrev pub followed_by : List ℕ → ℕ → Step → List ℕ → Changed → BoardChanged
followed_by f at st b c = board_changed c (cond (eqb c.told.part 2) (step_followed f at st b) b)

unfoldable pub apply_board_of : List ℕ → List ℕ → List ℕ → ℕ → List ℕ → List ℕ → List ℕ → BoardChanged
apply_board_of s b f at n m x =
    cond (eqb (board_told s b).number 0) (followed_by f at (step_on (read_on s).spare f at) b (apply_of s f at n m x))
    (board_changed (changed (still (board_told s b) 0 0 at) n m x) b)

-- ---- a deletion of a defunct entry: the board is only read
unfoldable pub delete_board_of : List ℕ → List ℕ → ℕ → ℕ → ℕ → ℕ → ℕ → List ℕ → Left
delete_board_of s b hi lo kind number subject n =
    cond (eqb (board_told s b).number 0) (delete_of s hi lo kind number subject n) (left (still (board_told s b) 0 0 0) n)
