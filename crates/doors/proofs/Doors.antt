-- The library's door, over what its calls are proved to answer (`apply_of`, `delete_of`, `follow_of`):
--     apply_door    where part is 2, the bytes written are not none and read back as exactly the spare that the step leaves;
--                   in every other part every byte of every buffer stays
--     chain_run     record after record, image to image, is the feed's run on the spare
--     delete_door   the same of cablegorse_delete_defunct
--     follow_door   the same of cablegorse_follow: its image is the plain run's over the chunk
--     same_bytes    what is written without a test is what the tested writer writes
-- Assumes nothing.
use mathlib.Core.Path.{◌≡◌, refl, sym, ap, ◌∙◌, subst}
use mathlib.Core.Bool.{Bool, true, false, false≢true}
use mathlib.Core.List.{List}
use mathlib.Core.Logic.{◌⊎◌, inl, inr, ⊎_elim}
use Prim.Native.Nat.{ℕ, zero, suc}
use native.Mathlib.Omega.{arith}
use lib.ListN.{length, take}
use lib.Dec.{eqb, ltb}
use borrow.Author.Tests.{eqb-true, ltb-false}
use Rattle.lists.specs.Tests.{◌or◌, No}
use Rattle.lists.proofs.Tests.{cond_both}
use Rattle.ids.specs.declared.LockId.{LockId}
use Rattle.state.specs.declared.ScopeKey.{ScopeKey}
use Rattle.state.specs.Model.{model_of}
use Rattle.std.specs.Prelude.{Result, Option, Ok, Err, Some, None, ⊤}
use Rattle.rules.specs.Rules.{broken_rule}
use Rattle.locks.specs.Locks.{Dropped}
use Rattle.locks.specs.Locks.{delete_defunct_on}
use Rattle.promises.specs.Steps.{acknowledge, step_on as directOn}
use Rattle.promises.proofs.Dropping.{drop_comes, delete_defunct_accepted}
use Rattle.records.specs.Numbers.{stored}
use Rattle.records.specs.Wire.{id}
use Rattle.image.specs.declared.Spare.{Spare}
use Rattle.image.specs.declared.Imaged.{Imaged}
use Rattle.image.specs.declared.ImageRefusal.{ImageRefusal}
use Rattle.records.specs.declared.frame.Unread.TheVariants.{Torn, BadKind, BadField}
use Rattle.image.specs.Image.{read_on, done, write_on}
use Rattle.image.specs.Ranges.{InTypes}
use Rattle.image.proofs.Trips.{accepted, read_what_was_written}
use Rattle.image.proofs.Writes.{length_image, sound_stored}
use Rattle.records.proofs.Numbers.{Bytes}
use Rattle.feed.specs.declared.events.FeedRefusal.{FeedRefusal}
use Rattle.feed.specs.declared.events.FeedRefusal.TheVariants as feed
use Rattle.calls.specs.declared.Outcome.{Outcome}
use Rattle.feed.specs.declared.events.Step.{Step}
use Rattle.records.specs.declared.frame.Unread.{Unread}
use Rattle.feed.specs.declared.taking.Placed.{Placed}
use Rattle.feed.specs.Feed.{numbered, body_in, taken_at, act_on, taken_on, step_on, event_paper, is_applied}
use Rattle.feed.specs.Runs.{stops, run_on, fresh, follow_on}
use Rattle.feed.proofs.Turning.{turn_comes, step_comes}
use Rattle.feed.proofs.Running.{run_go}
use Rattle.feed.proofs.Chunks.{follow_runs}
use Rattle.takeover.proofs.Keeping.{step_keeps}
use Rattle.cablegorse.specs.declared.Told.{Told}
use Rattle.cablegorse.specs.Telling.{reading_told}
use Rattle.cablegorse.specs.Boundary.{on_image}
use Rattle.cablegorse.specs.Questions.{scoped_of}
use Rattle.cablegorse.specs.Changes.{Changed, image_bytes, size_of, any_short, step_put, apply_of, Left, is_gone, spare_after, drop_put, on_scoped_left, delete_of}
use Rattle.cablegorse.specs.Chunks.{Chunked, run_put, follow_of}
use Rattle.cablegorse.proofs.Images.{done_told}
use Rattle.doors.specs.Reads.{reads}
use Rattle.doors.specs.Chains.{Chain, ended, applied, passed, calls}
use Rattle.doors.proofs.Typed.{accepted_typed, direct_typed, step_typed}

-- ---- an image that is read
-- what holds of both ends holds of the call
pub image_comes : {A : Type 0} (P : A → Type 0) (s : List ℕ) (refused : Told → A) (go : Spare → A) → ((r : Result ⊤ ImageRefusal) → P (refused (reading_told r))) → ((sp : Spare) → reads s sp → P (go sp)) → P (on_image s refused go)
unfolding on_image
image_comes P s refused go f g =
    cond_both P _ _ (eqb (reading_told (read_on s).told).number 0)
    (λ t. g (read_on s).spare (let q = done_told (read_on s).told (eqb-true _ _ t) in λ i. record { told = q i; spare = (read_on s).spare }))
    (λ t. f (read_on s).told)

-- ---- a spare within the types, written where it has room
module _ (sp : Spare) (r : InTypes sp) (e : broken_rule sp.state ≡ Ok tt) (n : List ℕ) (room : No (ltb (length n) (size_of sp))) where
  -- the bytes written without a test are those that the tested writer writes
  pub same_bytes_lem : write_on sp n ≡ done (Ok (size_of sp)) (stored n 0 (image_bytes sp))
  same_bytes_lem = sound_stored sp n e (ltb-false (length n) (size_of sp) room)

  some_bytes : size_of sp ≡ 0 → ⊥
  some_bytes z = omega (arith, length_image (model_of sp.state) sp.expected, z)

  read_back : reads (take (size_of sp) (stored n 0 (image_bytes sp))) sp
  read_back = read_what_was_written sp r n (stored n 0 (image_bytes sp)) (size_of sp) same_bytes_lem

-- ---- a record
-- what the call shows: the image refused or an output too short, and every byte kept; no operation reached, and every byte
-- kept; or the next image
pub data Door (s f : List ℕ) (at : ℕ) (n m x : List ℕ) (c : Changed) : Type 0 where
  kept : (c.told.part ≡ 1 → ⊥) → (c.told.part ≡ 2 → ⊥) → c.next ≡ n → c.removed ≡ m → c.expired ≡ x → Door s f at n m x c
  unreached : (sp : Spare) → reads s sp → c.told.part ≡ 1 → c.next ≡ n → c.removed ≡ m → c.expired ≡ x → is_applied (step_on sp f at).told.event ≡ false
      → c.told.number ≡ (event_paper (step_on sp f at).told.event).number → c.told.place ≡ (step_on sp f at).told.next → Door s f at n m x c
  wrote : (sp : Spare) → reads s sp → c.told.part ≡ 2 → (c.told.written ≡ 0 → ⊥) → reads (take c.told.written c.next) (step_on sp f at).spare
      → is_applied (step_on sp f at).told.event ≡ true → c.told.place ≡ (step_on sp f at).told.next → Door s f at n m x c

module _ (s f : List ℕ) (at : ℕ) (n m x : List ℕ) (types : (sp : Spare) → reads s sp → InTypes sp) (y : Bytes f) where
  short_first : (a c d : Bool) → No (a or c or d) → No a
  unfolding ◌or◌
  short_first true c d e = absurd (false≢true (sym e))
  short_first false c d e = refl

  step_door : (sp : Spare) → reads s sp → Door s f at n m x (step_put at (step_on sp f at) n m x)
  unfolding step_put any_short
  step_door sp e =
      let q = (accepted s sp e).sound in
      let st = step_on sp f at in
      cond_both (Door s f at n m x) _ _ (is_applied st.told.event)
      (λ t. cond_both (Door s f at n m x) _ _ (any_short at st n m x) (λ u. kept (λ z. omega (arith, z)) (λ z. omega (arith, z)) refl refl refl) (λ u.
      let room = short_first (ltb (length n) (size_of st.spare)) _ _ u in
      let k = step_keeps sp f at q in
      let r = step_typed sp (types sp e) q f y at in
      wrote sp e refl (some_bytes st.spare r k n room) (read_back st.spare r k n room) t refl))
      (λ t. unreached sp e refl refl refl refl t refl refl)

  pub typed_door : Door s f at n m x (apply_of s f at n m x)
  unfolding apply_of
  typed_door = image_comes (Door s f at n m x) s _ _ (λ t. kept (λ z. omega (arith, z)) (λ z. omega (arith, z)) refl refl refl) step_door

pub apply_door : (s f : List ℕ) → Bytes s → Bytes f → (at : ℕ) (n m x : List ℕ) → Door s f at n m x (apply_of s f at n m x)
apply_door s f ys yf at n m x = typed_door s f at n m x (λ sp e. accepted_typed s ys sp e) yf

-- ---- a chain of calls
pub one_spare : (s : List ℕ) (sp z : Spare) → reads s sp → reads s z → sp ≡ z
one_spare s sp z e g = ap (λ (i : Imaged). i.spare) (sym e ∙ g)

goes_on : (v : Result Outcome FeedRefusal) → is_applied v ≡ true → stops v ≡ false
unfolding is_applied
goes_on (Err (feed.UnsoundState n)) t = absurd (false≢true t)
goes_on (Err (feed.Torn n)) t = absurd (false≢true t)
goes_on (Err (feed.BadKind n)) t = absurd (false≢true t)
goes_on (Err (feed.BadField n)) t = absurd (false≢true t)
goes_on (Err (feed.Repeat n)) t = absurd (false≢true t)
goes_on (Err (feed.Ahead n)) t = absurd (false≢true t)
goes_on (Ok o) t = refl

passes_by : (v : Result Outcome FeedRefusal) → is_applied v ≡ false → ((event_paper v).number ≡ 15) ⊎ ((event_paper v).number ≡ 16) → stops v ≡ false
unfolding is_applied event_paper
passes_by (Err (feed.UnsoundState n)) t w = absurd (⊎_elim (λ z. omega (arith, z)) (λ z. omega (arith, z)) w)
passes_by (Err (feed.Torn n)) t w = absurd (⊎_elim (λ z. omega (arith, z)) (λ z. omega (arith, z)) w)
passes_by (Err (feed.BadKind n)) t w = absurd (⊎_elim (λ z. omega (arith, z)) (λ z. omega (arith, z)) w)
passes_by (Err (feed.BadField n)) t w = absurd (⊎_elim (λ z. omega (arith, z)) (λ z. omega (arith, z)) w)
passes_by (Err (feed.Repeat n)) t w = refl
passes_by (Err (feed.Ahead n)) t w = refl
passes_by (Ok o) t w = absurd (false≢true (sym t))

-- what didn't reach its operation leaves the spare
module _ (sp : Spare) (f : List ℕ) (at : ℕ) where
  abbrev Unmoved : Step → Type 0
  Unmoved z = is_applied z.told.event ≡ false → z.spare ≡ sp

  taken_unmoved : (t : Result Placed Unread) → Unmoved (taken_on sp f at t)
  unfolding act_on is_applied
  taken_unmoved (Err (Torn x)) u = refl
  taken_unmoved (Err (BadKind x)) u = refl
  taken_unmoved (Err (BadField x)) u = refl
  taken_unmoved (Ok p) u = turn_comes sp p.frame.next (numbered p (body_in f p.frame)) Unmoved (λ d v. absurd (false≢true (sym v))) (λ v g w. refl) u

  pub unmoved : Unmoved (step_on sp f at)
  unmoved = step_comes sp f at Unmoved (λ n u. refl) (λ e. taken_unmoved (taken_at f at))

abbrev Ran : ℕ → List ℕ → Spare → List ℕ → ℕ → Type 0
Ran k last sp f at = reads last (run_on k sp f at)

module _ (s f last : List ℕ) (at : ℕ) (n m x : List ℕ) (y : Bytes f) (sp : Spare) (e : reads s sp) (r : InTypes sp) (k : ℕ) where
  abbrev c : Changed
  c = apply_of s f at n m x

  applied_run : c.told.part ≡ 2 → ((z : Spare) → reads (take c.told.written c.next) z → InTypes z → Ran k last z f c.told.place) → Door s f at n m x c → Ran (suc k) last sp f at
  applied_run p rest (kept a d g h i) = absurd (d p)
  applied_run p rest (unreached z ez q g h i a b d) = absurd (omega (arith, p, q))
  applied_run p rest (wrote z ez q nz back a d) =
      let o = one_spare s z sp ez e in
      let back' : reads (take c.told.written c.next) (step_on sp f at).spare = subst (λ (w : Spare). reads (take c.told.written c.next) (step_on w f at).spare) o back in
      let a' : is_applied (step_on sp f at).told.event ≡ true = subst (λ (w : Spare). is_applied (step_on w f at).told.event ≡ true) o a in
      let d' : c.told.place ≡ (step_on sp f at).told.next = subst (λ (w : Spare). c.told.place ≡ (step_on w f at).told.next) o d in
      let ran = rest (step_on sp f at).spare back' (step_typed sp r (accepted s sp e).sound f y at) in
      subst (reads last) (ap (run_on k (step_on sp f at).spare f) d' ∙ sym (run_go sp f at k (goes_on _ a'))) ran

  passed_run : c.told.part ≡ 1 → (c.told.number ≡ 15) ⊎ (c.told.number ≡ 16) → Ran k last sp f c.told.place → Door s f at n m x c → Ran (suc k) last sp f at
  passed_run p w ran (kept a d g h i) = absurd (a p)
  passed_run p w ran (wrote z ez q nz back a d) = absurd (omega (arith, p, q))
  passed_run p w ran (unreached z ez q g h i a b d) =
      let o = one_spare s z sp ez e in
      let a' : is_applied (step_on sp f at).told.event ≡ false = subst (λ (v : Spare). is_applied (step_on v f at).told.event ≡ false) o a in
      let b' : c.told.number ≡ (event_paper (step_on sp f at).told.event).number = subst (λ (v : Spare). c.told.number ≡ (event_paper (step_on v f at).told.event).number) o b in
      let d' : c.told.place ≡ (step_on sp f at).told.next = subst (λ (v : Spare). c.told.place ≡ (step_on v f at).told.next) o d in
      let w' = ⊎_elim (λ t. inl (sym b' ∙ t)) (λ t. inr (sym b' ∙ t)) w in
      subst (reads last) (ap (run_on k sp f) d' ∙ ap (λ (v : Spare). run_on k v f (step_on sp f at).told.next) (sym (unmoved sp f at a')) ∙ sym (run_go sp f at k (passes_by _ a' w'))) ran

  same_door : Door s f at n m x c
  same_door = typed_door s f at n m x (λ z ez. subst InTypes (one_spare s sp z e ez) r) y

pub typed_run : (f : List ℕ) → Bytes f → {s last : List ℕ} {at end : ℕ} → (ch : Chain f s at last end) → (sp : Spare) → reads s sp → InTypes sp → Ran (calls ch) last sp f at
unfolding run_on calls
typed_run f y ended sp e r = e
typed_run f y (applied {image} {last} {at} {end} n m x p rest) sp e r = applied_run image f last at n m x y sp e r (calls rest) p (λ z ez rz. typed_run f y rest z ez rz) (same_door image f last at n m x y sp e r (calls rest))
typed_run f y (passed {image} {last} {at} {end} n m x p w rest) sp e r = passed_run image f last at n m x y sp e r (calls rest) p w (typed_run f y rest sp e r) (same_door image f last at n m x y sp e r (calls rest))

-- from any accepted image
pub chain_run : (f : List ℕ) → Bytes f → {s last : List ℕ} {at end : ℕ} → Bytes s → (ch : Chain f s at last end) → (sp : Spare) → reads s sp → read_on last ≡ record { told = Ok tt; spare = run_on (calls ch) sp f at }
chain_run f y {s} ys ch sp e = typed_run f y ch sp e (accepted_typed s ys sp e)

-- ---- cablegorse_delete_defunct: nothing written and every byte kept, or the image of the spare without the entry, from which
-- chains go on (typed_run)
module _ (s : List ℕ) (i : LockId) (subject : ℕ) (n : List ℕ) where
  pub data Deleted (c : Left) : Type 0 where
    kept : c.told.written ≡ 0 → c.next ≡ n → Deleted c
    wrote : (sp : Spare) (k : ScopeKey) → reads s sp → c.told.part ≡ 2 → (c.told.written ≡ 0 → ⊥)
        → reads (take c.told.written c.next) (spare_after sp.expected (delete_defunct_on sp.state i k subject)) → InTypes (spare_after sp.expected (delete_defunct_on sp.state i k subject)) → Deleted c

  module _ (types : (sp : Spare) → reads s sp → InTypes sp) where
    dropped_typed : (sp : Spare) → reads s sp → (k : ScopeKey) → InTypes (spare_after sp.expected (delete_defunct_on sp.state i k subject))
    unfolding directOn
    dropped_typed sp e k =
        let r = types sp e in
        drop_comes (λ (d : Dropped). InTypes (spare_after sp.expected d)) sp.state i k subject (λ v. r) r r
        (direct_typed sp r (accepted s sp e).sound (acknowledge i) tt sp.expected r.expected)

    drop_door : (sp : Spare) → reads s sp → (k : ScopeKey) → Deleted (drop_put sp.expected (delete_defunct_on sp.state i k subject) n)
    unfolding drop_put
    drop_door sp e k =
        let d = delete_defunct_on sp.state i k subject in
        let a = spare_after sp.expected d in
        let r = dropped_typed sp e k in
        let q = delete_defunct_accepted sp.state (accepted s sp e).sound i k subject d refl in
        cond_both Deleted _ _ (is_gone d.told)
        (λ t. cond_both Deleted _ _ (ltb (length n) (size_of a)) (λ u. kept refl refl) (λ u. wrote sp k e refl (some_bytes a r q n u) (read_back a r q n u) r))
        (λ t. kept refl refl)

    scoped_door : (sp : Spare) → reads s sp → (o : Option ScopeKey) → Deleted (on_scoped_left n (λ k. drop_put sp.expected (delete_defunct_on sp.state i k subject) n) o)
    scoped_door sp e None = kept refl refl
    scoped_door sp e (Some k) = drop_door sp e k

pub delete_door : (s : List ℕ) → Bytes s → (hi lo kind number subject : ℕ) (n : List ℕ) → Deleted s (id hi lo) subject n (delete_of s hi lo kind number subject n)
unfolding delete_of
delete_door s y hi lo kind number subject n =
    image_comes (Deleted s (id hi lo) subject n) s _ _ (λ t. kept refl refl)
    (λ sp e. scoped_door s (id hi lo) subject n (λ z ez. accepted_typed s y z ez) sp e (scoped_of kind number))

-- ---- cablegorse_follow: nothing written and every byte kept, or the image of the plain run over the chunk, which is what a chain
-- of calls over its records comes to (chain_run)
pub run_kept : (f : List ℕ) → Bytes f → (k : ℕ) (sp : Spare) (at : ℕ) → InTypes sp → broken_rule sp.state ≡ Ok tt → InTypes (run_on k sp f at) × (broken_rule (run_on k sp f at).state ≡ Ok tt)
unfolding run_on
run_kept f y zero sp at r q = (r, q)
run_kept f y (suc k) sp at r q =
    cond_both (λ (z : Spare). InTypes z × (broken_rule z.state ≡ Ok tt)) _ _ (stops (step_on sp f at).told.event) (λ t. (r, q))
    (λ t. run_kept f y k (step_on sp f at).spare (step_on sp f at).told.next (step_typed sp r q f y at) (step_keeps sp f at q))

module _ (s f n : List ℕ) where
  pub data Chunk (c : Chunked) : Type 0 where
    kept : c.told.written ≡ 0 → c.next ≡ n → Chunk c
    wrote : (sp : Spare) → reads s sp → (c.told.written ≡ 0 → ⊥) → reads (take c.told.written c.next) (run_on (length f) sp f 0) → c.told.expected ≡ (run_on (length f) sp f 0).expected → Chunk c

  run_door : Bytes f → (sp : Spare) → reads s sp → InTypes sp → Chunk (run_put (follow_on (length f) (fresh sp) f) n)
  unfolding run_put
  run_door y sp e r =
      let run = follow_on (length f) (fresh sp) f in
      let g : run.spare ≡ run_on (length f) sp f 0 = follow_runs (length f) (fresh sp) f in
      let w = run_kept f y (length f) sp 0 r (accepted s sp e).sound in
      let r' : InTypes run.spare = subst InTypes (sym g) w.0 in
      let q : broken_rule run.spare.state ≡ (Ok tt) = subst (λ (z : Spare). broken_rule z.state ≡ Ok tt) (sym g) w.1 in
      cond_both Chunk _ _ (ltb (length n) (size_of run.spare)) (λ u. kept refl refl) (λ u.
      wrote sp e (some_bytes run.spare r' q n u) (subst (reads (take (size_of run.spare) (stored n 0 (image_bytes run.spare)))) g (read_back run.spare r' q n u)) (ap (λ (z : Spare). z.expected) g))

pub follow_door : (s f : List ℕ) → Bytes s → Bytes f → (n : List ℕ) → Chunk s f n (follow_of s f n)
unfolding follow_of
follow_door s f ys yf n = image_comes (Chunk s f n) s _ _ (λ t. kept refl refl) (λ sp e. run_door s f n yf sp e (accepted_typed s ys sp e))
