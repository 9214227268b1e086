-- The calls with a board, as the code makes them: the board is tested first, and 12 is looked for where it is another one, or told
-- by the plain call, which then leaves the state and so the board. Assumes nothing.
use Rattle.std.proofs.Common.{◌≡◌, ℕ, ◌<◌, ◌≤◌, Bool, true, false, cond, List, [], ◌++◌, length, drop, sym, refl, ap, ◌∙◌, lt-ltb, eq-eqb, ne_eqb}
use Rattle.lists.specs.Tests.{Yes, No}
use Rattle.lists.proofs.Tests.{against, cond_true, cond_false}
use Rattle.ids.specs.declared.LockId.{LockId}
use Rattle.state.specs.declared.ScopeKey.{ScopeKey}
use Rattle.state.specs.declared.ActiveLock.{ActiveLock}
use Rattle.state.specs.declared.LockState.{LockState}
use Rattle.state.specs.Model.{model_of}
use Rattle.std.specs.Prelude.{Result, Ok, Err, ⊤}
use Rattle.rules.specs.declared.Unsound.{Unsound}
use Rattle.rules.specs.declared.Unsound.TheVariants.{Rule}
use Rattle.rules.specs.Rules.{broken_rule}
use Rattle.lookups.specs.Reads.{on_sound, by_verdict}
use Rattle.lookups.proofs.Verdicts.{on_broken}
use Rattle.operations.specs.Answers.{Inserted}
use Rattle.operations.specs.Answers.{Renewed}
use Rattle.operations.specs.Answers.{Deleted}
use Rattle.operations.specs.Answers.{Expired}
use Rattle.operations.specs.Answers.{Replaced}
use Rattle.operations.specs.Answers.{Acknowledged}
use Rattle.operations.specs.Answers.{DefunctsExpired}
use Rattle.operations.specs.Insert.{insert_active_with, insert_active_on}
use Rattle.operations.specs.Vehicle.{insert_vehicle_with, insert_vehicle_on}
use Rattle.operations.specs.Renew.{renew_on}
use Rattle.operations.specs.Delete.{delete_on, begin_expiration_on}
use Rattle.operations.specs.Replace.{commit_replacement_with, commit_replacement_on}
use Rattle.operations.specs.Acknowledge.{acknowledge_on, expire_defunct_on}
use Rattle.records.specs.declared.requests.Request.{Request}
use Rattle.records.specs.declared.requests.Request.TheVariants.{Insert, InsertVehicle, Renew, Delete, BeginExpiration, Replace, Acknowledge, ExpireDefunct}
use Rattle.calls.specs.declared.Performed.{Performed}
use Rattle.calls.specs.Calls.{perform_on}
use Rattle.image.specs.declared.Spare.{Spare}
use Rattle.feed.specs.declared.events.Step.{Step}
use Rattle.feed.specs.declared.taking.Placed.{Placed}
use Rattle.records.specs.declared.frame.Unread.{Unread}
use Rattle.feed.specs.Feed.{taken_at, step_on}
use Rattle.feed.proofs.Turning.{step_unsound}
use Rattle.image.specs.declared.WriteRefusal.TheVariants.{ShortOutput}
use Rattle.locks.specs.Locks.{delete_defunct_on}
use Rattle.board.specs.declared.BoardRefusal.{BoardRefusal}
use Rattle.board.specs.declared.BoardRefusal.TheVariants.{UnsoundState, BoardMismatch}
use Rattle.image.specs.Refusals.{not_written}
use Rattle.board.specs.Board.{board_of, matches, unsound, check_on, updated}
use Rattle.board.specs.Forms.{BoardDropped, Boarded, boarded, by_check, on_board, fresh_on, told, mismatched, call_moved, call_board, perform_board, told_dropped, mismatched_dropped, delete_defunct_board, told_step, mismatched_step, request_moved, taken_moved, step_moved, step_updated, step_board, step_followed}
use Rattle.board.proofs.Kept.{nothing_moved, follows}
use Rattle.board.proofs.Moved.{call_moves, step_moves}
use Rattle.board.proofs.Rows.{size_board}
use Rattle.board.proofs.Theorems.{matches_own, fresh_is}

-- ---- past the sound-state test, by `?`
pub check_err : (s : LockState) (b : List ℕ) (u : Unsound) → broken_rule s ≡ Err u → Err (unsound u) ≡ check_on s b
unfolding check_on
check_err s b (Rule n) e = on_broken s _ _ (broken_rule s) n refl e

pub fresh_err : (s : LockState) (out : List ℕ) (u : Unsound) → broken_rule s ≡ Err u → boarded (Err (not_written u)) out ≡ fresh_on s out
unfolding fresh_on
fresh_err s out (Rule n) e = on_broken s _ _ (broken_rule s) n refl e

-- of another board the plain call's own 12, else 28
pub off_sound : {A : Type 0} (s : LockState) (r plain refused : A) → ((u : Unsound) → broken_rule s ≡ Err u → r ≡ plain) → (broken_rule s ≡ Ok tt → r ≡ refused) → r ≡ on_sound s (λ n. plain) refused
unfolding on_sound
off_sound s r plain refused f g = go (broken_rule s) f g
  where
    go : (v : Result ⊤ Unsound) → ((u : Unsound) → v ≡ Err u → r ≡ plain) → (v ≡ Ok tt → r ≡ refused) → r ≡ by_verdict v (λ n. plain) refused
    go (Ok tt) f g = g refl
    go (Err (Rule n)) f g = f (Rule n) refl

-- ---- the two ways of any form
module _ {A : Type 0} (s : LockState) (b : List ℕ) (plain refused : A) (after : List ℕ) where
  abbrev judged : Result ⊤ Unsound → Bool → Boarded A
  judged v m = by_check (by_verdict v (λ n. Err (UnsoundState n)) (cond m (Ok tt) (Err BoardMismatch))) (boarded plain b) (boarded refused b) (boarded plain after)

  -- another board: 12 is the plain call's, else 28
  pub off_board : No (matches s b) → boarded (on_sound s (λ n. plain) refused) b ≡ on_board s b plain refused after
  unfolding check_on on_sound
  off_board n = go (broken_rule s) (matches s b) n
    where
      go : (v : Result ⊤ Unsound) (m : Bool) → No m → boarded (by_verdict v (λ n. plain) refused) b ≡ judged v m
      go (Ok tt) true e = absurd (against e refl)
      go (Ok tt) false e = refl
      go (Err (Rule n)) m e = refl

  -- the state's own: the plain call, and the board after it
  pub on_board_lem : Yes (matches s b) → ((n : ℕ) → broken_rule s ≡ Err (Rule n) → after ≡ b) → boarded plain after ≡ on_board s b plain refused after
  unfolding check_on on_sound
  on_board_lem t h = go (broken_rule s) (matches s b) refl t
    where
      go : (v : Result ⊤ Unsound) (m : Bool) → broken_rule s ≡ v → Yes m → boarded plain after ≡ judged v m
      go (Ok tt) true q e = refl
      go (Ok tt) false q e = absurd (against refl e)
      go (Err (Rule n)) m q e = ap (boarded plain) (h n q)

-- ---- 12 leaves the state
module _ (s : LockState) (n : ℕ) (e : broken_rule s ≡ Err (Rule n)) where
  unsound_kept : (r : Request) (ws : List ℕ) → (perform_on s r ws).state ≡ s
  unfolding perform_on insert_active_on insert_active_with insert_vehicle_on insert_vehicle_with renew_on delete_on begin_expiration_on commit_replacement_on commit_replacement_with acknowledge_on expire_defunct_on
  unsound_kept (Insert x) ws = sym (ap (λ (r : Inserted). r.state) (on_broken s _ _ (broken_rule s) n refl e))
  unsound_kept (InsertVehicle x) ws = sym (ap (λ (r : Inserted). r.state) (on_broken s _ _ (broken_rule s) n refl e))
  unsound_kept (Renew r) ws = sym (ap (λ (r : Renewed). r.state) (on_broken s _ _ (broken_rule s) n refl e))
  unsound_kept (Delete i) ws = sym (ap (λ (r : Deleted). r.state) (on_broken s _ _ (broken_rule s) n refl e))
  unsound_kept (BeginExpiration r) ws = sym (ap (λ (r : Expired). r.state) (on_broken s _ _ (broken_rule s) n refl e))
  unsound_kept (Replace r) ws = sym (ap (λ (r : Replaced). r.state) (on_broken s _ _ (broken_rule s) n refl e))
  unsound_kept (Acknowledge i) ws = sym (ap (λ (r : Acknowledged). r.state) (on_broken s _ _ (broken_rule s) n refl e))
  unsound_kept (ExpireDefunct now) ws = sym (ap (λ (r : DefunctsExpired). r.state) (on_broken s _ _ (broken_rule s) n refl e))

-- ---- each of them
module _ (s : LockState) (b : List ℕ) where
  pub call_off : (r : Request) (ws : List ℕ) → No (matches s b) → boarded (on_sound s (λ n. told (perform_on s r ws)) (mismatched s)) b ≡ perform_board s r ws b
  unfolding perform_board
  call_off r ws n = off_board s b _ _ _ n

  pub call_on : (r : Request) (ws : List ℕ) → Yes (matches s b) → boarded (told (perform_on s r ws)) (call_board r (perform_on s r ws) b) ≡ perform_board s r ws b
  unfolding perform_board
  call_on r ws t =
      on_board_lem s b (told p) (mismatched s) (call_board r p b) t (λ n e.
      ap (call_board r p) own ∙ follows (model_of s).active (model_of p.state).active (call_moved r p) (λ k l. call_moves s r ws k)
      ∙ ap (λ (x : LockState). board_of (model_of x).active) (unsound_kept s n e r ws) ∙ sym own)
    where
      p : Performed
      p = perform_on s r ws

      own : b ≡ board_of (model_of s).active
      own = matches_own s b t

  pub dropped_off : (i : LockId) (k : ScopeKey) (subject : ℕ) → No (matches s b) → on_sound s (λ n. told_dropped (delete_defunct_on s i k subject)) (mismatched_dropped s) ≡ delete_defunct_board s i k subject b
  unfolding delete_defunct_board
  dropped_off i k subject n = ap (λ (x : Boarded BoardDropped). x.done) (off_board s b (told_dropped (delete_defunct_on s i k subject)) (mismatched_dropped s) b n) ∙ done_of (check_on s b)
    where
      done_of : (c : Result ⊤ BoardRefusal) → (by_check c (boarded (told_dropped (delete_defunct_on s i k subject)) b) (boarded (mismatched_dropped s) b) (boarded (told_dropped (delete_defunct_on s i k subject)) b)).done
          ≡ by_check c (told_dropped (delete_defunct_on s i k subject)) (mismatched_dropped s) (told_dropped (delete_defunct_on s i k subject))
      done_of (Err (UnsoundState n)) = refl
      done_of (Err BoardMismatch) = refl
      done_of (Ok tt) = refl

module _ (sp : Spare) (f : List ℕ) (at : ℕ) (b : List ℕ) where
  pub step_off : No (matches sp.state b) → boarded (on_sound sp.state (λ n. told_step (step_on sp f at)) (mismatched_step sp at)) b ≡ step_board sp f at b
  unfolding step_board
  step_off n = off_board sp.state b _ _ _ n

  pub step_on_lem : Yes (matches sp.state b) → boarded (told_step (step_on sp f at)) (step_updated f at (step_on sp f at) b) ≡ step_board sp f at b
  unfolding step_board
  step_on_lem t =
      on_board_lem sp.state b (told_step st) (mismatched_step sp at) (step_updated f at st b) t (λ n e.
      ap (step_updated f at st) own ∙ follows (model_of sp.state).active (model_of st.spare.state).active (step_moved f at st) (λ k l. step_moves sp f at k)
      ∙ ap (λ (x : Step). board_of (model_of x.spare.state).active) (step_unsound sp f at n e) ∙ sym own)
    where
      st : Step
      st = step_on sp f at

      own : b ≡ board_of (model_of sp.state).active
      own = matches_own sp.state b t

-- ---- sizes
pub own_size : (s : LockState) (b : List ℕ) → Yes (matches s b) → length b ≡ 4352
own_size s b t = ap length (matches_own s b t) ∙ size_board (model_of s).active

-- a step's board, by what can be read at the place; and in a buffer of any size
module _ (f : List ℕ) (at : ℕ) (st : Step) (b : List ℕ) where
  pub taken_some : (p : Placed) → taken_at f at ≡ Ok p → updated (request_moved p.request st) (model_of st.spare.state).active b ≡ step_updated f at st b
  taken_some p q = ap (λ (t : Result Placed Unread). updated (taken_moved t st) (model_of st.spare.state).active b) (sym q)

  pub taken_none : length b ≡ 4352 → step_moved f at st ≡ [] → b ≡ step_updated f at st b
  taken_none l q = sym (ap (λ (cs : List ActiveLock). updated cs (model_of st.spare.state).active b) q ∙ nothing_moved (model_of st.spare.state).active b l)

  pub followed_off : (length b ≡ 4352 → ⊥) → b ≡ step_followed f at st b
  unfolding step_followed
  followed_off n = sym (cond_false _ _ _ (ne_eqb (length b) 4352 n))

  pub followed_on : length b ≡ 4352 → step_updated f at st b ≡ step_followed f at st b
  unfolding step_followed
  followed_on q = sym (cond_true _ _ _ (eq-eqb (length b) 4352 q))

-- ---- a fresh board: 21, and the bytes
module _ (s : LockState) (out : List ℕ) where
  pub fresh_short : broken_rule s ≡ Ok tt → length out < 4352 → boarded (Err (ShortOutput 4352)) out ≡ fresh_on s out
  unfolding fresh_on on_sound
  fresh_short e h = rw e (sym (cond_true _ _ _ (lt-ltb (length out) 4352 h)))

  pub fresh_whole : broken_rule s ≡ Ok tt → 4352 ≤ length out → (b : List ℕ) → b ≡ board_of (model_of s).active → boarded (Ok 4352) (b ++ drop 4352 out) ≡ fresh_on s out
  fresh_whole e h b q = ap (λ (x : List ℕ). boarded (Ok 4352) (x ++ drop 4352 out)) q ∙ sym (fresh_is s e out h)
