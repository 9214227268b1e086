-- 02, C-11: "only ECUs covered by a lock that came or went are written". The update, over any buffer of a board's size:
--     kept_outside     the entry of any other ECU keeps its bytes
--     written_inside   the entry of such an ECU is worked out afresh
--     follows          so of the board of l it makes the board of l', where the entries of the other ECUs are the same in both
-- Assumes nothing.
use Rattle.std.proofs.Common.{◌≡◌, ℕ, ◌<◌, cond, List, [], length, refl, ◌∙◌}
use Rattle.lists.specs.Tests.{Yes, No}
use Rattle.lists.specs.Lists.{any}
use Rattle.lists.proofs.Tests.{cond_true, cond_false, cond_both}
use Rattle.state.specs.declared.ActiveLock.{ActiveLock}
use Rattle.board.specs.Board.{on, entry_of, board_of, entry_at, refreshed, updated}
use Rattle.board.proofs.Rows.{entry_by, by_entries, by_same, size_entry, size_at}

-- ---- the update
module _ (cs l : List ActiveLock) (b : List ℕ) (h : length b ≡ 4352) where
  abbrev row : ℕ → List ℕ
  row e = cond (any (on e) cs) (entry_of l e) (entry_at b e)

  row_size : (e : ℕ) → e < 256 → length (row e) ≡ 17
  row_size e k = cond_both (λ (r : List ℕ). length r ≡ 17) (entry_of l e) (entry_at b e) (any (on e) cs) (λ t. size_entry l e) (λ t. size_at b e h k)

  updated_at : (e : ℕ) → e < 256 → entry_at (updated cs l b) e ≡ row e
  unfolding updated refreshed
  updated_at e k = entry_by row row_size e k

  pub kept_outside : (e : ℕ) → e < 256 → No (any (on e) cs) → entry_at (updated cs l b) e ≡ entry_at b e
  kept_outside e k n = updated_at e k ∙ cond_false _ _ _ n

  pub written_inside : (e : ℕ) → e < 256 → Yes (any (on e) cs) → entry_at (updated cs l b) e ≡ entry_of l e
  written_inside e k t = updated_at e k ∙ cond_true _ _ _ t

pub nothing_moved : (l : List ActiveLock) (b : List ℕ) → length b ≡ 4352 → updated [] l b ≡ b
unfolding updated refreshed
nothing_moved l b h = by_entries b h

-- ---- of the board of l
pub follows : (l l' cs : List ActiveLock) → ((e : ℕ) → e < 256 → No (any (on e) cs) → entry_of l e ≡ entry_of l' e) → updated cs l' (board_of l) ≡ board_of l'
unfolding updated refreshed
follows l l' cs same =
    by_same _ _ (λ e k.
    cond_both (λ (r : List ℕ). r ≡ entry_of l' e) _ _ (any (on e) cs) (λ t. refl) (λ n. entry_by (entry_of l) (λ e k. size_entry l e) e k ∙ same e k n))
