-- 02, C-11: "only ECUs covered by a lock that came or went are written". That is enough: the entry of any other ECU is the same
-- before and after, of every state at all.
--     call_moves             any of the eight operations, answered or refused
--     delete_defunct_moves   a deletion of a defunct entry moves no active lock
--     step_moves             a step over the feed
-- Assumes nothing.
use Rattle.std.proofs.Common.{◌≡◌, ℕ, Bool, List, length, take, sym, refl, ap, ◌∙◌}
use Rattle.lists.specs.Tests.{No}
use Rattle.lists.specs.Lists.{any, insert_by}
use Rattle.lists.specs.Places.{in_places}
use Rattle.lists.proofs.Tests.{or_no}
use Rattle.ids.specs.declared.LockId.{LockId}
use Rattle.state.specs.declared.ScopeKey.{ScopeKey}
use Rattle.state.specs.declared.ActiveLock.{ActiveLock}
use Rattle.state.specs.declared.DefunctLock.{DefunctLock}
use Rattle.state.specs.declared.LockState.{LockState}
use Rattle.state.specs.Locks.{akey, blank_active, normal}
use Rattle.state.specs.Model.{Model, model_of, state_of}
use Rattle.state.proofs.Laws.{back}
use Rattle.operations.specs.Answers.{Inserted}
use Rattle.operations.specs.Answers.{Renewed}
use Rattle.operations.specs.Answers.{Deleted}
use Rattle.operations.specs.Answers.{Expired}
use Rattle.operations.specs.Answers.{Replaced}
use Rattle.operations.specs.Answers.{Acknowledged}
use Rattle.operations.specs.Answers.{DefunctsExpired}
use Rattle.operations.specs.Answers.{paper_of, deletion_paper, expiration_paper}
use Rattle.operations.specs.Trees.{is_listed}
use Rattle.operations.specs.Insert.{inserted_in}
use Rattle.operations.specs.Vehicle.{adopt, vehicle_in}
use Rattle.operations.specs.Renew.{extend_at, renewed_in}
use Rattle.operations.specs.Delete.{tree_out, without_tree}
use Rattle.operations.specs.Replace.{orphan, cut_of, replaced_in}
use Rattle.operations.specs.Acknowledge.{acknowledge_on, shed_in}
use Rattle.locks.specs.Locks.{Dropped}
use Rattle.locks.specs.Locks.{delete_defunct_on}
use Rattle.records.specs.declared.requests.Request.{Request}
use Rattle.records.specs.declared.requests.Request.TheVariants.{Insert, InsertVehicle, Renew, Delete, BeginExpiration, Replace, Acknowledge, ExpireDefunct}
use Rattle.calls.specs.declared.Outcome.TheVariants as O
use Rattle.calls.specs.declared.Performed.{Performed}
use Rattle.calls.specs.Calls.{by_insert, by_renew, by_delete, by_expiration, by_replace, by_expiry, perform_on, outcome_paper}
use Rattle.promises.proofs.Closing.{insert_active_comes, insert_vehicle_comes, renew_comes, delete_comes, expiration_comes, replace_comes, acknowledge_comes, expire_defunct_comes}
use Rattle.promises.proofs.Dropping.{drop_comes}
use Rattle.image.specs.declared.Spare.{Spare}
use Rattle.feed.specs.declared.events.Step.{Step}
use Rattle.std.specs.Prelude.{Result, Ok, Err}
use Rattle.records.specs.declared.frame.Unread.{Unread}
use Rattle.records.specs.declared.frame.Unread.TheVariants.{Torn, BadKind, BadField}
use Rattle.feed.specs.declared.taking.Placed.{Placed}
use Rattle.feed.specs.Feed.{numbered, body_in, taken_at, act_on, taken_on, step_on, event_paper}
use Rattle.feed.proofs.Turning.{turn_comes, step_comes}
use Rattle.board.specs.Board.{on, entry_of, moved}
use Rattle.board.specs.Forms.{call_moved, taken_moved, step_moved}
use Rattle.board.proofs.Same.{ids_on, same_entry, insert_same, normal_on, adopt_like, extend_like, map_same, tree_same, cut_same}

-- ---- what an operation that goes through leaves
module _ (e : ℕ) (m : Model) where
  -- the state of the lists n has the entry that m has
  abbrev Stays : Model → Type 0
  Stays n = entry_of m.active e ≡ entry_of (model_of (state_of n)).active e

  settled : (n : Model) → ids_on e n.active ≡ ids_on e m.active → Stays n
  settled n q = same_entry m.active (model_of (state_of n)).active e (sym q ∙ ap (ids_on e) (sym (back 64 blank_active n.active)))

  -- a lock that comes is taken in its normal form, which covers the same
  put_same : (x : ActiveLock) (l : List ActiveLock) → No (on e x) → ids_on e l ≡ ids_on e m.active → ids_on e (insert_by akey (normal x) l) ≡ ids_on e m.active
  put_same x l n q = insert_same e (normal x) l (normal_on e x ∙ n) ∙ q

  -- the locks told as removed are those that went
  told_gone : (gone : List ActiveLock) → No (any (on e) (take (length gone) (in_places 64 blank_active gone))) → No (any (on e) gone)
  told_gone gone n = ap (any (on e)) (sym (back 64 blank_active gone)) ∙ n

  inserted_stays : (x : ActiveLock) → No (on e x) → Stays (inserted_in m (normal x))
  unfolding inserted_in
  inserted_stays x n = settled (inserted_in m (normal x)) (put_same x m.active n refl)

  vehicle_stays : (x : ActiveLock) (ws : List ℕ) → No (on e x) → Stays (vehicle_in m (normal x) ws)
  unfolding vehicle_in inserted_in
  vehicle_stays x ws n = settled (vehicle_in m (normal x) ws) (put_same x _ n (map_same e (adopt (is_listed ws) (normal x)) (adopt_like (is_listed ws) (normal x)) m.active))

  renewed_stays : (i : LockId) (t : ℕ) (has : Bool) (d : ℕ) → Stays (renewed_in m i t has d)
  unfolding renewed_in
  renewed_stays i t has d = settled (renewed_in m i t has d) (map_same e (extend_at i t has d) (extend_like i t has d) m.active)

  deleted_stays : (r : ActiveLock) → No (any (on e) (take (length (tree_out m r).gone) (in_places 64 blank_active (tree_out m r).gone))) → Stays (without_tree m r)
  unfolding without_tree
  deleted_stays r n = settled (without_tree m r) (tree_same e m.active r (told_gone (tree_out m r).gone n))

  replaced_stays : (ws : List ℕ) (x : ActiveLock) (by at : ℕ) → No (on e x) → No (any (on e) (take (length (cut_of m ws).gone) (in_places 64 blank_active (cut_of m ws).gone))) → Stays (replaced_in m ws (normal x) by at)
  unfolding replaced_in
  replaced_stays ws x by at n g =
      settled (replaced_in m ws (normal x) by at)
      (put_same x _ n (map_same e (adopt (orphan (normal x)) (normal x)) (adopt_like (orphan (normal x)) (normal x)) (cut_of m ws).kept ∙ cut_same e m.active ws (told_gone (cut_of m ws).gone g)))

  shed_stays : (t : List DefunctLock) → Stays (shed_in m t)
  unfolding shed_in
  shed_stays t = settled (shed_in m t) refl

-- ---- the eight operations
module _ (s : LockState) (e : ℕ) where
  abbrev Agrees : Request → Performed → Type 0
  Agrees r p = No (any (on e) (call_moved r p)) → entry_of (model_of s).active e ≡ entry_of (model_of p.state).active e

  acknowledged_stays : (i : LockId) → entry_of (model_of s).active e ≡ entry_of (model_of (acknowledge_on s i).state).active e
  acknowledged_stays i = acknowledge_comes (λ (r : Acknowledged). entry_of (model_of s).active e ≡ entry_of (model_of r.state).active e) s i (λ b. refl) (λ b g. shed_stays e (model_of s) _)

  moves : (r : Request) (ws : List ℕ) → Agrees r (perform_on s r ws)
  unfolding perform_on moved outcome_paper paper_of deletion_paper expiration_paper
  moves (Insert x) ws =
      insert_active_comes (λ (r : Inserted). Agrees (Insert x) (by_insert O.Inserted r)) s x (λ b q n. refl) (λ d g n. inserted_stays e (model_of s) x (or_no (on e x) _ n).0)
  moves (InsertVehicle x) ws =
      insert_vehicle_comes (λ (r : Inserted). Agrees (InsertVehicle x) (by_insert O.VehicleInserted r)) s x ws (λ b q n. refl) (λ d g n. vehicle_stays e (model_of s) x ws (or_no (on e x) _ n).0)
  moves (Renew q) ws =
      renew_comes (λ (r : Renewed). Agrees (Renew q) (by_renew r)) s q.id q.expires q.now q.given q.metadata (λ b n. refl) (λ d g n.
      renewed_stays e (model_of s) q.id q.expires q.given q.metadata)
  moves (Delete i) ws = delete_comes (λ (r : Deleted). Agrees (Delete i) (by_delete r)) s i (λ b n. refl) (λ r q g. deleted_stays e (model_of s) r)
  moves (BeginExpiration x) ws =
      expiration_comes (λ (r : Expired). Agrees (BeginExpiration x) (by_expiration r)) s x.id x.now (λ b n. refl) (λ r q g. deleted_stays e (model_of s) r)
  moves (Replace x) ws =
      replace_comes (λ (r : Replaced). Agrees (Replace x) (by_replace r)) s ws x.lock x.breaker x.broken (λ b q n. refl) (λ d g n.
      let w = or_no (on e x.lock) _ n in replaced_stays e (model_of s) ws x.lock x.breaker x.broken w.0 w.1)
  moves (Acknowledge i) ws = λ n. acknowledged_stays i
  moves (ExpireDefunct now) ws = expire_defunct_comes (λ (r : DefunctsExpired). Agrees (ExpireDefunct now) (by_expiry r)) s now (λ b n. refl) (λ b l g n. shed_stays e (model_of s) _)

pub call_moves : (s : LockState) (r : Request) (ws : List ℕ) (e : ℕ) → No (any (on e) (call_moved r (perform_on s r ws))) → entry_of (model_of s).active e ≡ entry_of (model_of (perform_on s r ws).state).active e
call_moves s r ws e = moves s e r ws

-- ---- a deletion of a defunct entry
pub delete_defunct_moves : (s : LockState) (i : LockId) (k : ScopeKey) (subject e : ℕ) → entry_of (model_of s).active e ≡ entry_of (model_of (delete_defunct_on s i k subject).state).active e
delete_defunct_moves s i k subject e =
    drop_comes (λ (d : Dropped). entry_of (model_of s).active e ≡ entry_of (model_of d.state).active e) s i k subject (λ n. refl) refl refl (acknowledged_stays s e i)

-- ---- a step over the feed
module _ (sp : Spare) (f : List ℕ) (at : ℕ) (e : ℕ) where
  abbrev StepAgrees : Result Placed Unread → Step → Type 0
  StepAgrees t st = No (any (on e) (taken_moved t st)) → entry_of (model_of sp.state).active e ≡ entry_of (model_of st.spare.state).active e

  taken_moves : (t : Result Placed Unread) → StepAgrees t (taken_on sp f at t)
  unfolding act_on event_paper
  taken_moves (Err (Torn x)) = λ n. refl
  taken_moves (Err (BadKind x)) = λ n. refl
  taken_moves (Err (BadField x)) = λ n. refl
  taken_moves (Ok p) =
      let x = numbered p (body_in f p.frame) in
      turn_comes sp p.frame.next x (StepAgrees (Ok p)) (λ d. call_moves sp.state x.request x.list e) (λ v g n. refl)

  pub step_moves : No (any (on e) (step_moved f at (step_on sp f at))) → entry_of (model_of sp.state).active e ≡ entry_of (model_of (step_on sp f at).spare.state).active e
  step_moves = step_comes sp f at (StepAgrees (taken_at f at)) (λ n u. refl) (λ q. taken_moves (taken_at f at))
