-- 02, C-11, of the three calls with a board: `perform`, `delete_defunct`, a step over the feed.
--     board_keeps, delete_defunct_keeps, step_keeps_board   "After every operation the board equals one worked out afresh from
--                       the state": of a sound state and its own board the call is the plain one, and the board left is the
--                       next state's own
--     as_plain          with a board that matches the call answers what the plain one answers, removed locks and state included
--     mismatch_leaves   "A board handed in that doesn't match its state is refused and left": 28, and all is as it was
--     unsound_first     "28 BoardMismatch, after 12": an unsound state is refused by 12 whatever the board, which is left
--     fresh_matches     a board worked out afresh is the one that matches
-- as_plain, mismatch_leaves and unsound_first are of `perform`; with `delete_defunct_` or `step_` before the name, of the other
-- two. Assumes nothing.
use Rattle.std.proofs.Common.{◌≡◌, ℕ, ◌≤◌, cond, ◌⊎◌, List, ◌++◌, length, take, drop, sym, refl, ap, ◌∙◌, inl, inr, take_at, le-ltb}
use Rattle.lists.specs.Tests.{Yes, No}
use Rattle.lists.proofs.Tests.{cond_true, cond_false}
use Rattle.names.proofs.Bytes.{→same, same→, not_same}
use Rattle.ids.specs.declared.LockId.{LockId}
use Rattle.state.specs.declared.ScopeKey.{ScopeKey}
use Rattle.state.specs.declared.LockState.{LockState}
use Rattle.state.specs.Model.{model_of}
use Rattle.std.specs.Prelude.{Result, Ok, Err, ⊤}
use Rattle.rules.specs.declared.Unsound.{Unsound}
use Rattle.rules.specs.declared.Unsound.TheVariants.{Rule}
use Rattle.rules.specs.Rules.{broken_rule}
use Rattle.lookups.proofs.Verdicts.{on_broken, on_sound_lem}
use Rattle.locks.specs.declared.DroppingRefusal.TheVariants as dropping
use Rattle.locks.specs.Locks.{dropped, delete_defunct_on}
use Rattle.records.specs.declared.requests.Request.{Request}
use Rattle.calls.specs.Calls.{perform_on, outcome_paper}
use Rattle.calls.proofs.Unsound.{refused_unsound}
use Rattle.image.specs.declared.Spare.{Spare}
use Rattle.image.specs.declared.WriteRefusal.{WriteRefusal}
use Rattle.feed.specs.Feed.{still, step_on}
use Rattle.feed.proofs.Turning.{step_unsound}
use Rattle.feed.specs.declared.events.FeedRefusal.TheVariants as feeding
use Rattle.board.specs.declared.BoardRefusal.TheVariants.{UnsoundState, BoardMismatch}
use Rattle.board.specs.declared.Mismatch.TheVariants as M
use Rattle.board.specs.Board.{board_of, matches, check_on}
use Rattle.board.specs.Forms.{Boarded, boarded, told, mismatched, call_moved, perform_board, told_dropped, delete_defunct_board, told_step, mismatched_step, step_moved, step_board, fresh_on}
use Rattle.board.proofs.Rows.{by_same, size_board}
use Rattle.board.proofs.Kept.{follows}
use Rattle.board.proofs.Moved.{call_moves, delete_defunct_moves, step_moves}

-- ---- the check: 12, 28, or the state's own
pub own_matches : (s : LockState) → Yes (matches s (board_of (model_of s).active))
unfolding matches
own_matches s = →same _ _ refl

pub matches_own : (s : LockState) (b : List ℕ) → Yes (matches s b) → b ≡ board_of (model_of s).active
unfolding matches
matches_own s b t = same→ _ _ t

pub another_size : (s : LockState) (b : List ℕ) → (length b ≡ 4352 → ⊥) → No (matches s b)
unfolding matches
another_size s b h = not_same _ _ (λ q. h (ap length q ∙ size_board (model_of s).active))

module _ (s : LockState) (b : List ℕ) where
  check_sound : broken_rule s ≡ Ok tt → check_on s b ≡ cond (matches s b) (Ok tt) (Err BoardMismatch)
  unfolding check_on
  check_sound e = sym (on_sound_lem s (λ n. Err (UnsoundState n)) _ (broken_rule s) refl e)

  pub check_own : broken_rule s ≡ Ok tt → Yes (matches s b) → check_on s b ≡ Ok tt
  check_own e t = check_sound e ∙ cond_true _ _ _ t

  pub check_other : broken_rule s ≡ Ok tt → No (matches s b) → check_on s b ≡ Err BoardMismatch
  check_other e n = check_sound e ∙ cond_false _ _ _ n

  pub check_unsound : (n : ℕ) → broken_rule s ≡ Err (Rule n) → check_on s b ≡ Err (UnsoundState n)
  unfolding check_on
  check_unsound n e = sym (on_broken s (λ r. Err (UnsoundState r)) _ (broken_rule s) n refl e)

  -- where the board matches it isn't 28
  check_match : Yes (matches s b) → (check_on s b ≡ Ok tt) ⊎ ((n : ℕ) × (check_on s b ≡ Err (UnsoundState n)))
  check_match t = go (broken_rule s) refl
    where
      go : (v : Result ⊤ Unsound) → broken_rule s ≡ v → (check_on s b ≡ Ok tt) ⊎ ((n : ℕ) × (check_on s b ≡ Err (UnsoundState n)))
      go (Ok tt) e = inl (check_own e t)
      go (Err (Rule n)) e = inr (n, check_unsound n e)

-- ---- a sound state and its own board
module _ (s : LockState) (e : broken_rule s ≡ Ok tt) where
  own : check_on s (board_of (model_of s).active) ≡ Ok tt
  own = check_own s _ e (own_matches s)

  pub board_keeps : (r : Request) (ws : List ℕ)
      → perform_board s r ws (board_of (model_of s).active) ≡ boarded (told (perform_on s r ws)) (board_of (model_of (perform_on s r ws).state).active)
  unfolding perform_board
  board_keeps r ws =
      rw own (ap (boarded (told (perform_on s r ws))) (follows (model_of s).active (model_of (perform_on s r ws).state).active (call_moved r (perform_on s r ws)) (λ i k n. call_moves s r ws i n)))

  -- the board is lent to be read only: it is the next state's own as it stands
  pub delete_defunct_keeps : (i : LockId) (k : ScopeKey) (subject : ℕ)
      → (delete_defunct_board s i k subject (board_of (model_of s).active) ≡ told_dropped (delete_defunct_on s i k subject))
      × (board_of (model_of s).active ≡ board_of (model_of (delete_defunct_on s i k subject).state).active)
  unfolding delete_defunct_board
  delete_defunct_keeps i k subject = (rw own, by_same _ _ (λ j h. delete_defunct_moves s i k subject j))

pub step_keeps_board : (sp : Spare) → broken_rule sp.state ≡ Ok tt → (f : List ℕ) (at : ℕ)
    → step_board sp f at (board_of (model_of sp.state).active) ≡ boarded (told_step (step_on sp f at)) (board_of (model_of (step_on sp f at).spare.state).active)
unfolding step_board
step_keeps_board sp e f at =
    rw (own sp.state e)
    (ap (boarded (told_step (step_on sp f at))) (follows (model_of sp.state).active (model_of (step_on sp f at).spare.state).active (step_moved f at (step_on sp f at)) (λ i k n. step_moves sp f at i n)))

-- ---- any state, sound or not, and a board that matches
module _ (s : LockState) (b : List ℕ) (t : Yes (matches s b)) where
  pub as_plain : (r : Request) (ws : List ℕ) → (perform_board s r ws b).done ≡ told (perform_on s r ws)
  unfolding perform_board
  as_plain r ws = elim (check_match s b t) [ inl q ↦ rw q | inr w ↦ rw w.1 ]

  pub delete_defunct_as_plain : (i : LockId) (k : ScopeKey) (subject : ℕ) → delete_defunct_board s i k subject b ≡ told_dropped (delete_defunct_on s i k subject)
  unfolding delete_defunct_board
  delete_defunct_as_plain i k subject = elim (check_match s b t) [ inl q ↦ rw q | inr w ↦ rw w.1 ]

pub step_as_plain : (sp : Spare) (b : List ℕ) → Yes (matches sp.state b) → (f : List ℕ) (at : ℕ) → (step_board sp f at b).done ≡ told_step (step_on sp f at)
unfolding step_board
step_as_plain sp b t f at = elim (check_match sp.state b t) [ inl q ↦ rw q | inr w ↦ rw w.1 ]

-- ---- a sound state and another board
module _ (s : LockState) (e : broken_rule s ≡ Ok tt) (b : List ℕ) (n : No (matches s b)) where
  pub mismatch_leaves : (r : Request) (ws : List ℕ) → perform_board s r ws b ≡ boarded (mismatched s) b
  unfolding perform_board
  mismatch_leaves r ws = rw (check_other s b e n)

  pub delete_defunct_mismatch_leaves : (i : LockId) (k : ScopeKey) (subject : ℕ) → delete_defunct_board s i k subject b ≡ record { told = Err M.BoardMismatch; state = s }
  unfolding delete_defunct_board
  delete_defunct_mismatch_leaves i k subject = rw (check_other s b e n)

-- the spare with its expected number, the place and the board stay
pub step_mismatch_leaves : (sp : Spare) → broken_rule sp.state ≡ Ok tt → (b : List ℕ) → No (matches sp.state b) → (f : List ℕ) (at : ℕ) → step_board sp f at b ≡ boarded (mismatched_step sp at) b
unfolding step_board
step_mismatch_leaves sp e b n f at = rw (check_other sp.state b e n)

-- ---- an unsound state and any board
module _ (s : LockState) (n : ℕ) (e : broken_rule s ≡ Err (Rule n)) (b : List ℕ) where
  pub unsound_first : (r : Request) (ws : List ℕ) → (perform_board s r ws b ≡ boarded (told (perform_on s r ws)) b) × ((outcome_paper (perform_on s r ws).outcome).number ≡ 12)
  unfolding perform_board
  unsound_first r ws = (rw (check_unsound s b n e), refused_unsound s n e r ws)

  pub delete_defunct_unsound_first : (i : LockId) (k : ScopeKey) (subject : ℕ) → delete_defunct_board s i k subject b ≡ told_dropped (dropped (Err (dropping.UnsoundState n)) s)
  unfolding delete_defunct_board delete_defunct_on
  delete_defunct_unsound_first i k subject = rw (check_unsound s b n e, ← (on_broken s (λ r. dropped (Err (dropping.UnsoundState r)) s) _ (broken_rule s) n refl e))

pub step_unsound_first : (sp : Spare) (n : ℕ) → broken_rule sp.state ≡ Err (Rule n) → (b f : List ℕ) (at : ℕ) → step_board sp f at b ≡ boarded (told_step (still sp (Err (feeding.UnsoundState n)) 0 at)) b
unfolding step_board
step_unsound_first sp n e b f at = rw (check_unsound sp.state b n e, step_unsound sp f at n e)

-- ---- a board worked out afresh is the state's own
module _ (s : LockState) (e : broken_rule s ≡ Ok tt) (out : List ℕ) (h : 4352 ≤ length out) where
  pub fresh_is : fresh_on s out ≡ boarded (Ok 4352) (board_of (model_of s).active ++ drop 4352 out)
  unfolding fresh_on
  fresh_is = sym (on_sound_lem s _ _ (broken_rule s) refl e) ∙ cond_false _ _ _ (le-ltb (length out) 4352 h)

  pub fresh_matches : Yes (matches s (take 4352 (fresh_on s out).board))
  unfolding matches
  fresh_matches = →same _ _ (ap (λ (w : Boarded (Result ℕ WriteRefusal)). take 4352 w.board) fresh_is ∙ take_at (board_of (model_of s).active) (drop 4352 out) 4352 (size_board (model_of s).active))
