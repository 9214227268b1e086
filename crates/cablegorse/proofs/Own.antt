-- The primary's own step at the boundary: each answer of the code is the definition's. Assumes nothing.
use mathlib.Core.Path.{◌≡◌, refl, sym, ap, ap₂, ◌∙◌}
use mathlib.Core.Bool.{Bool, true, false, not, cond, ◌||◌}
use mathlib.Core.List.{List, [], ◌∷◌, ◌++◌}
use Prim.Native.Nat.{ℕ, ◌+◌, ◌-◌, ◌*◌, ◌≤◌}
use native.Mathlib.Nat.{zero-add}
use native.Mathlib.Omega.{arith}
use lib.Dec.{ltb}
use lib.ListN.{length, take, drop}
use lib.Seq.{take-length, take_at}
use borrow.Author.Tests.{le-ltb, ltb-false, not-true, not-false}
use Rattle.lists.specs.Tests.{◌and◌, ◌or◌, No}
use Rattle.lists.specs.Papers.{paper}
use Rattle.lists.proofs.Tests.{against, and_t, and_f, or_code, cond_true, cond_false}
use Rattle.state.specs.declared.LockState.{LockState}
use Rattle.std.specs.Prelude.{Result, Ok, Err, ⊤}
use Rattle.rules.specs.declared.Unsound.{Unsound}
use Rattle.rules.specs.declared.Unsound.TheVariants.{Rule}
use Rattle.rules.specs.Rules.{broken_rule}
use Rattle.lookups.specs.Reads.{by_verdict, on_sound}
use Rattle.lookups.proofs.Verdicts.{on_broken, on_sound_lem}
use Rattle.records.specs.declared.requests.Request.{Request}
use Rattle.records.specs.declared.requests.Request.TheVariants as request
use Rattle.records.specs.declared.sending.Unsent.{Unsent}
use Rattle.records.specs.Numbers.{splice}
use Rattle.records.specs.Sending.{normal_request, has_list, request_bytes, needed_on, Written, leaves, written_by, send_on, sent_paper}
use Rattle.records.proofs.Sends.{body_size, length_of_body, sent_size, room_of}
use Rattle.records.proofs.Writes.{body_room, room_held}
use Rattle.image.specs.declared.Spare.{Spare}
use Rattle.image.specs.declared.Imaged.{Imaged}
use Rattle.image.specs.Image.{records_of}
use Rattle.image.proofs.Stores.{Capped}
use Rattle.feed.specs.declared.events.FeedRefusal.{FeedRefusal}
use Rattle.feed.specs.declared.events.FeedRefusal.TheVariants.{UnsoundState, Torn, BadKind, BadField, Repeat, Ahead}
use Rattle.calls.specs.declared.Outcome.{Outcome}
use Rattle.feed.specs.declared.events.Step.{Step}
use Rattle.feed.specs.Feed.{step_on, event_paper, is_applied, is_unsound}
use Rattle.feed.proofs.Turning.{sound_told, step_unsound}
use Rattle.cablegorse.specs.declared.Told.{Told}
use Rattle.cablegorse.specs.declared.Applied.{Applied}
use Rattle.cablegorse.specs.declared.Operation.{Operation}
use Rattle.cablegorse.specs.declared.sending.Sizes.{Sizes}
use Rattle.cablegorse.specs.Telling.{told_of, kept}
use Rattle.cablegorse.specs.Changes.{still, size_of, changed, removed_bytes, expired_bytes, any_short}
use Rattle.cablegorse.specs.Code.{step_shown, sizes_in, refused_told, own_shown, own_of, request_shown}
use Rattle.cablegorse.specs.Sending.{asked_of, on_asked, record_put, write_of, Performed, performed, with_record, quiet, own_put_lem, needed_put, asked_put, perform_of}
use Rattle.cablegorse.proofs.Outputs.{gone_size, lapsed_size}
use Rattle.cablegorse.proofs.Images.{tested_read}

-- what is told of a state goes with it
pub sound_ap : {A B : Type 0} (g : A → B) (s : LockState) (u : ℕ → A) (a : A) → g (on_sound s u a) ≡ on_sound s (λ k. g (u k)) (g a)
unfolding on_sound
sound_ap {A} {B} g s u a = go (broken_rule s)
  where
    go : (v : Result ⊤ Unsound) → g (by_verdict v u a) ≡ by_verdict v (λ k. g (u k)) (g a)
    go (Ok tt) = refl
    go (Err (Rule k)) = refl

-- ---- a record that was applied, and one that wasn't
module _ (st : Step) (bytes n m x f : List ℕ) (b : Bool) (eb : b ≡ is_applied st.told.event) where
  -- the step's outputs are written with it, or without it
  shown : (f' : List ℕ) → f' ≡ cond (is_applied st.told.event) (splice f 0 bytes) f → No (is_applied st.told.event and (any_short 0 st n m x or ltb (length f) (length bytes)))
      → (a : Applied) (n' m' x' : List ℕ) → changed a n' m' x' ≡ step_shown 0 st n m x → (is_unsound st.told.event ≡ true → f' ≡ f) → performed a n' m' x' f' ≡ own_shown st bytes n m x f
  unfolding own_shown own_put_lem step_shown
  shown f' ef k a n' m' x' e same = go (is_unsound st.told.event) refl
    where
      go : (u : Bool) → is_unsound st.told.event ≡ u → performed a n' m' x' f' ≡ own_shown st bytes n m x f
      go true t = ap₂ with_record (e ∙ cond_true _ _ _ t) (same t) ∙ sym (cond_true _ _ _ t)
      go false t = ap₂ with_record (e ∙ cond_false _ _ _ t) ef ∙ sym (cond_false _ _ _ t ∙ cond_false _ _ _ k)

  pub own_passed : not b ≡ true → (a : Applied) (n' m' x' : List ℕ) → changed a n' m' x' ≡ step_shown 0 st n m x → performed a n' m' x' f ≡ own_shown st bytes n m x f
  own_passed h a n' m' x' e =
      let no : is_applied st.told.event ≡ false = sym eb ∙ not-true b h in
      shown f (sym (cond_false _ _ _ no)) (and_f _ _ no) a n' m' x' e (λ t. refl)

  module _ (h : not b ≡ false) (z : Sizes) (ez : z ≡ sizes_in st) where
    applies : is_applied st.told.event ≡ true
    applies = sym eb ∙ not-false b h

    -- so it isn't the state that was refused
    fine : (e : Result Outcome FeedRefusal) → is_applied e ≡ true → is_unsound e ≡ false
    unfolding is_applied is_unsound
    fine (Err (UnsoundState k)) t = absurd (against refl t)
    fine (Err (Torn at)) t = refl
    fine (Err (BadKind at)) t = refl
    fine (Err (BadField at)) t = refl
    fine (Err (Repeat k)) t = refl
    fine (Err (Ahead k)) t = refl
    fine (Ok o) t = refl

    abbrev tested : Sizes → Bool
    tested y = ((ltb (length n) y.image || ltb (length m) y.locks) || ltb (length x) y.ids) || ltb (length f) (length bytes)

    short_test : tested z ≡ (is_applied st.told.event and (any_short 0 st n m x or ltb (length f) (length bytes)))
    unfolding any_short
    short_test =
        ap tested ez
        ∙ or_code _ (ltb (length f) (length bytes))
        ∙ ap (λ (y : Bool). y or ltb (length f) (length bytes)) (or_code _ (ltb (length x) (length (expired_bytes st.told)))
        ∙ ap (λ (y : Bool). y or ltb (length x) (length (expired_bytes st.told))) (or_code (ltb (length n) (size_of st.spare)) (ltb (length m) (length (removed_bytes st.told)))))
        ∙ sym (and_t _ _ applies)

    pub own_short : tested z ≡ true → (t : Told) → t ≡ told_of (paper 21 (z.image ∷ (z.locks ∷ (z.ids ∷ (length bytes ∷ []))))) → (a : Applied) → a ≡ still t 3 st.told.sequence 0 → performed a n m x f ≡ own_shown st bytes n m x f
    unfolding own_shown own_put_lem
    own_short k t et a ea =
        ap (λ (y : Applied). performed y n m x f)
        (ea ∙ ap (λ (y : Told). still y 3 st.told.sequence 0) (et ∙ ap (λ (y : Sizes). told_of (paper 21 (y.image ∷ (y.locks ∷ (y.ids ∷ (length bytes ∷ [])))))) ez))
        ∙ sym (cond_false _ _ _ (fine st.told.event applies) ∙ cond_true _ _ _ (sym short_test ∙ k))

    pub own_put : tested z ≡ false → (f' : List ℕ) → f' ≡ take (length bytes) bytes ++ drop (length bytes) f → (a : Applied) (n' m' x' : List ℕ) → changed a n' m' x' ≡ step_shown 0 st n m x → performed a n' m' x' f' ≡ own_shown st bytes n m x f
    unfolding splice
    own_put k f' ef a n' m' x' e =
        shown f'
        (ef ∙ ap₂ (λ (y : List ℕ) (j : ℕ). y ++ drop j f) (take-length bytes) (sym (zero-add (length bytes))) ∙ sym (cond_true _ _ _ applies))
        (sym short_test ∙ k) a n' m' x' e (λ t. absurd (against (fine st.told.event applies) t))

-- the last of the tests that were passed
pub room_last : (p : Bool) (m n : ℕ) → (p || ltb m n) ≡ false → n ≤ m
room_last true m n e = absurd (against e refl)
room_last false m n e = ltb-false m n e

-- ---- the record that is due, written apart
pub own_record : (q : ℕ) (r : Request) (ws out : List ℕ) (size : ℕ) → needed_on r ws ≡ Ok size → size ≤ length out → (w : Result ℕ Unsent) (f : List ℕ) → leaves w f ≡ send_on q r ws out → take (size - 0) f ≡ request_bytes q r ws
unfolding send_on splice
own_record q r ws out size e h w f g =
    let b : List ℕ = request_bytes q r ws in
    let k = room_of r ws size e in
    let l : length b ≡ size = sent_size q r ws (λ t. (k.list t).0) ∙ sym k.size in
    ap (λ (y : Written). take (size - 0) y.out) (g ∙ ap (written_by b out) e ∙ cond_false _ _ _ (le-ltb _ _ h))
    ∙ take_at b (drop (0 + length b) out) (size - 0) (omega (arith, l))

few_bytes : (r : Request) (ws : List ℕ) → (has_list r ≡ true → length ws ≤ 128) → body_size r ws ≤ 1129
few_bytes (request.Insert a) ws h = omega arith
few_bytes (request.InsertVehicle a) ws h = omega (arith, h refl)
few_bytes (request.Renew a) ws h = omega arith
few_bytes (request.Delete i) ws h = omega arith
few_bytes (request.BeginExpiration a) ws h = omega arith
few_bytes (request.Replace a) ws h = omega (arith, h refl)
few_bytes (request.Acknowledge i) ws h = omega arith
few_bytes (request.ExpireDefunct now) ws h = omega arith

pub longest : (r : Request) (ws : List ℕ) (size : ℕ) → needed_on r ws ≡ Ok size → size ≤ 1133
longest r ws size e =
    let k = room_of r ws size e in
    let held = room_held r ws size k (normal_request r) (size - 4) refl refl in
    omega (arith, body_room r ws size k 0, length_of_body 0 (normal_request r) ws, few_bytes (normal_request r) ws held.0)

-- ---- any request
module _ (sp : Spare) (r : Request) (ws n m x f : List ℕ) (t : Result ℕ Unsent) (e : t ≡ needed_on r ws) where
  abbrev refusal : ℕ → Performed
  refusal k = quiet n m x f (still (told_of (paper 12 (k ∷ []))) 0 0 0)

  pub asked_done : (size : ℕ) → t ≡ Ok size → own_of sp r ws n m x f ≡ request_shown sp r ws n m x f
  unfolding own_shown request_shown event_paper is_unsound
  asked_done size g = by_verdict_lem (broken_rule sp.state) refl ∙ ap (λ (y : Result ℕ Unsent). on_sound sp.state refusal (needed_put n m x f sp r ws y)) (sym g ∙ e)
    where
      bytes : List ℕ
      bytes = request_bytes sp.expected r ws

      put : Performed
      put = own_put_lem n m x f (step_on sp bytes 0) bytes

      by_verdict_lem : (v : Result ⊤ Unsound) → broken_rule sp.state ≡ v → own_shown (step_on sp bytes 0) bytes n m x f ≡ on_sound sp.state refusal put
      by_verdict_lem (Ok tt) q = cond_false _ _ _ (sound_told sp bytes 0 q) ∙ on_sound_lem sp.state refusal put (Ok tt) (sym q) refl
      by_verdict_lem (Err (Rule k)) q =
          ap (λ (y : Step). own_shown y bytes n m x f) (step_unsound sp bytes 0 k q)
          ∙ on_broken sp.state refusal put (Err (Rule k)) k (sym q) refl

  pub asked_refused : (y : Result ℕ Unsent) → t ≡ y → needed_put n m x f sp r ws y ≡ quiet n m x f (still (told_of (sent_paper y)) 1 0 0) → (s : LockState) → s ≡ sp.state → (p : Told) → p ≡ told_of (sent_paper y) → (a : Applied) → a ≡ refused_told s p
      → performed a n m x f ≡ request_shown sp r ws n m x f
  unfolding refused_told request_shown
  asked_refused y g q s us p ep a ea =
      ap (λ (z : Applied). performed z n m x f) (ea ∙ ap₂ refused_told us ep)
      ∙ sound_ap (λ (z : Applied). performed z n m x f) sp.state (λ k. still (told_of (paper 12 (k ∷ []))) 0 0 0) (still (told_of (sent_paper y)) 1 0 0)
      ∙ ap (on_sound sp.state refusal) (sym q ∙ ap (needed_put n m x f sp r ws) (sym g ∙ e))

-- ---- the record alone
pub record_told : (q : ℕ) (o : Operation) (r : Request) (ws out : List ℕ) → (Ok r) ≡ asked_of o → (w : Result ℕ Unsent) (f : List ℕ) → leaves w f ≡ send_on q r ws out → (t : Told) → t ≡ told_of (sent_paper w) → kept t f ≡ write_of q o ws out
unfolding write_of
record_told q o r ws out e w f g t et =
    ap (λ (y : Told). kept y f) et ∙ ap (λ (y : Written). kept (told_of (sent_paper y.told)) y.out) g
    ∙ ap (on_asked (λ y. kept y out) (record_put q ws out)) e

-- ---- over an image whose state the operation tests
module _ (s : List ℕ) (i : Imaged) (e : i ≡ records_of s) (h : i.told ≡ Ok tt) (o : Operation) (ws n m x f : List ℕ) where
  over_image : on_sound i.spare.state (λ k. quiet n m x f (still (told_of (paper 12 (k ∷ []))) 0 0 0)) (asked_put n m x f i.spare ws (asked_of o)) ≡ perform_of s o ws n m x f
  unfolding perform_of
  over_image = tested_read s i e h (λ y. quiet n m x f (still y 0 0 0)) (λ sp. asked_put n m x f sp ws (asked_of o))

  pub perform_refused : (p : Told) → (Err p) ≡ asked_of o → (a : Applied) → a ≡ refused_told i.spare.state p → performed a n m x f ≡ perform_of s o ws n m x f
  unfolding refused_told
  perform_refused p ep a ea =
      ap (λ (z : Applied). performed z n m x f) ea
      ∙ sound_ap (λ (z : Applied). performed z n m x f) i.spare.state (λ k. still (told_of (paper 12 (k ∷ []))) 0 0 0) (still p 1 0 0)
      ∙ ap (λ (z : Result Request Told). on_sound i.spare.state (λ k. quiet n m x f (still (told_of (paper 12 (k ∷ []))) 0 0 0)) (asked_put n m x f i.spare ws z)) ep
      ∙ over_image

  pub perform_asked : (r : Request) → (Ok r) ≡ asked_of o → (y : Performed) → y ≡ request_shown i.spare r ws n m x f → y ≡ perform_of s o ws n m x f
  unfolding request_shown
  perform_asked r er y ey =
      ey ∙ ap (λ (z : Result Request Told). on_sound i.spare.state (λ k. quiet n m x f (still (told_of (paper 12 (k ∷ []))) 0 0 0)) (asked_put n m x f i.spare ws z)) er
      ∙ over_image

-- ---- the sizes
pub sizes_are : (st : Step) (a g l : ℕ) → a ≡ size_of st.spare → Capped st.told.removed st.told.gone 64 g → Capped st.told.ids st.told.lapsed 128 l → record { image = a; locks = g * 91; ids = l * 16 } ≡ sizes_in st
sizes_are st a g l ea eg el = λ j. record { image = ea j; locks = gone_size st g eg j; ids = lapsed_size st l el j }
