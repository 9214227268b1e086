-- A primary at the library's door (02, C-12), over what cablegorse_perform is proved to answer (`perform_of`):
--     typed_request   the request of an operation whose numbers are within their types is within its fields
--     typed_sendable  so where neither 14 nor 29 is told it can be sent under any number
--     perform_door    where part is 2, what was written is the record of the operation that was done, under the number that was due,
--                     and cablegorse_apply of it on the same image leaves and tells the same; in every other part every byte of
--                     every buffer stays
--     perform_sends, perform_keeps  the two ways of it
-- Assumes nothing.
use mathlib.Core.Path.{◌≡◌, refl, sym, ap, subst, ◌∙◌}
use mathlib.Core.Bool.{Bool, true, false, not, cond}
use mathlib.Core.List.{List, [], ◌++◌, append-nil}
use Prim.Native.Nat.{ℕ, ◌+◌, ◌≤◌, ◌<◌, ◌^◌}
use native.Mathlib.Omega.{arith}
use lib.Dec.{lit<, eqb, leb, ltb}
use lib.ListN.{length, take, drop}
use lib.Seq.{take_at, drop_at}
use borrow.Author.Tests.{le-leb, ltb-false}
use Rattle.lists.specs.Tests.{◌and◌, ◌or◌, No}
use Rattle.lists.proofs.Tests.{or_no, cond_true, cond_false, cond_both}
use Rattle.state.specs.declared.LockState.{LockState}
use Rattle.state.specs.declared.ScopeKey.{ScopeKey}
use Rattle.std.specs.Prelude.{Result, Ok, Err}
use Rattle.rules.specs.Rules.{broken_rule}
use Rattle.lookups.proofs.Verdicts.{on_sound_lem}
use Rattle.promises.specs.Results.{op_of}
use Rattle.records.specs.declared.requests.Request.{Request}
use Rattle.records.specs.declared.requests.Request.TheVariants.{Insert, InsertVehicle, Renew, Delete, BeginExpiration, Replace, Acknowledge, ExpireDefunct}
use Rattle.records.specs.declared.sending.Unsent.{Unsent}
use Rattle.records.specs.declared.sending.Unsent.TheVariants.{BadList, ListTooLong, ShortOutput}
use Rattle.records.specs.Numbers.{splice, stored}
use Rattle.records.specs.Wire.{flag, scope_kind, scope_number, scope_of, active}
use Rattle.records.specs.Feeds.{breaking}
use Rattle.records.specs.Sending.{request_bytes, needed_on, Written, sent_paper}
use Rattle.records.specs.Ranges.{Words, Sendable, InTypes as RequestTyped}
use Rattle.records.proofs.Numbers.{Bytes}
use Rattle.records.proofs.Layouts.{fit_append}
use Rattle.records.proofs.Fits.{FitA, fit_split, whole}
use Rattle.records.proofs.Sends.{room_of, size_sendable, sent_done}
use Rattle.image.specs.declared.Spare.{Spare}
use Rattle.image.specs.declared.Imaged.{Imaged}
use Rattle.image.specs.Image.{reading_paper}
use Rattle.image.specs.Ranges.{InTypes as SpareTyped}
use Rattle.image.proofs.Trips.{accepted}
use Rattle.image.proofs.Writes.{splice_front}
use Rattle.calls.specs.Calls.{perform_on}
use Rattle.feed.specs.declared.events.Step.{Step}
use Rattle.feed.specs.Feed.{onward, step_on, is_applied}
use Rattle.takeover.specs.Feeding.{moved}
use Rattle.takeover.specs.Ends.{own_on}
use Rattle.takeover.proofs.Keeping.{perform_state}
use Rattle.takeover.proofs.Receipts.{after_small}
use Rattle.takeover.proofs.Own.{own_step}
use Rattle.cablegorse.specs.declared.Told.{Told}
use Rattle.cablegorse.specs.declared.Operation.{Operation}
use Rattle.cablegorse.specs.Telling.{told_of, reading_told, kept}
use Rattle.cablegorse.specs.Boundary.{on_image}
use Rattle.cablegorse.specs.Changes.{image_bytes, Changed, any_short, short_put, whole_put, step_put, apply_of}
use Rattle.cablegorse.specs.Sending.{lock_right, lock_in, asked_lock, asked_renewal, asked_as, asked_of, on_asked, record_put, write_of, Performed, with_record, own_put_lem, needed_put, asked_put, perform_of}
use Rattle.doors.specs.Reads.{reads}
use Rattle.doors.specs.Ends.{InTypes, Sends}
use Rattle.doors.proofs.Ranged.{Brought}
use Rattle.doors.proofs.Typed.{direct_typed, accepted_typed}
use Rattle.doors.proofs.Doors.{image_comes}

-- ---- an operation within its types
flag_small : (b : Bool) → flag b < 256
flag_small true = lit< tt
flag_small false = lit< tt

module _ (o : Operation) (t : InTypes o) where
  abbrev FitS : ScopeKey → Type 0
  FitS k = (scope_kind k < 256) × (scope_number k < 256)

  scope_fits : FitS (scope_of o.scope o.number)
  unfolding scope_of
  scope_fits = cond_both FitS _ _ (eqb o.scope 0) (λ u. (lit< tt, lit< tt)) (λ u. cond_both FitS _ _ (eqb o.scope 1) (λ v. (lit< tt, t.number)) (λ v. (lit< tt, t.number)))

  lock_fits : FitA (lock_in o)
  lock_fits =
      whole (lock_in o)
      (t.hi, (t.lo, (scope_fits.0, (scope_fits.1, (flag_small (eqb o.exclusive 1), (flag_small (not (eqb o.coverage 0)), (t.w0, (t.w1, (t.w2, (t.w3, (t.subject, (t.principal, (t.metadata, tt)))))))))))))
      (t.expires, (flag_small (eqb o.child 1), (t.parenthi, (t.parentlo, tt))))

  abbrev Fits : Result Request Told → Type 0
  Fits (Err p) = Unit {0}
  Fits (Ok r) = RequestTyped r

  lock_asked : Fits (asked_lock o)
  unfolding asked_lock
  lock_asked =
      cond_both Fits _ _ (lock_right o) (λ u. cond_both Fits _ _ (eqb o.kind 16) (λ v. lock_fits) (λ v. cond_both Fits _ _ (eqb o.kind 17) (λ w. lock_fits) (λ w.
      fit_append active.layout breaking.layout (active.numbers (lock_in o)) (breaking.numbers (o.breaker, o.now)) lock_fits (t.breaker, (t.now, tt)))))
      (λ u. tt)

  renewal_asked : Fits (asked_renewal o)
  unfolding asked_renewal
  renewal_asked = cond_both Fits _ _ (leb o.given 1) (λ u. (t.hi, (t.lo, (t.expires, (t.now, (flag_small (eqb o.given 1), (t.metadata, tt))))))) (λ u. tt)

  asked_fits : Fits (asked_of o)
  unfolding asked_as
  asked_fits =
      cond_both Fits _ _ (eqb o.kind 16) (λ u. lock_asked) (λ u.
      cond_both Fits _ _ (eqb o.kind 17) (λ u. lock_asked) (λ u.
      cond_both Fits _ _ (eqb o.kind 18) (λ u. renewal_asked) (λ u.
      cond_both Fits _ _ (eqb o.kind 19) (λ u. (t.hi, (t.lo, tt))) (λ u.
      cond_both Fits _ _ (eqb o.kind 20) (λ u. (t.hi, (t.lo, (t.now, tt)))) (λ u.
      cond_both Fits _ _ (eqb o.kind 21) (λ u. lock_asked) (λ u.
      cond_both Fits _ _ (eqb o.kind 22) (λ u. (t.hi, (t.lo, tt))) (λ u.
      cond_both Fits _ _ (eqb o.kind 23) (λ u. (t.now, tt)) (λ u. tt))))))))

  pub typed_request : (r : Request) → asked_of o ≡ Ok r → RequestTyped r
  typed_request r a = subst Fits a asked_fits

  pub typed_sendable : (ws : List ℕ) → Words ws → (q : ℕ) → q < 2 ^ 32 → (r : Request) → asked_of o ≡ Ok r → (size : ℕ) → needed_on r ws ≡ Ok size → Sendable q r ws
  typed_sendable ws w q h r a size g =
      let m = room_of r ws size g in
      record { sequence = h; numbers = typed_request r a; list = λ u. record { even = (m.list u).0; few = (m.list u).1; words = w } }

-- ---- the spare that is left is within the types again
typed_brings : (r : Request) (ws : List ℕ) → RequestTyped r → Brought (op_of r ws)
typed_brings (Insert x) ws f = f
typed_brings (InsertVehicle x) ws f = f
typed_brings (Renew x) ws f = (f.1.1.0, f.1.1.1.1.1.0)
typed_brings (Delete i) ws f = tt
typed_brings (BeginExpiration x) ws f = tt
typed_brings (Replace x) ws f = let p = fit_split active.layout breaking.layout (active.numbers x.lock) (breaking.numbers (x.breaker, x.broken)) refl f in (p.0, p.1.0, p.1.1.0)
typed_brings (Acknowledge i) ws f = tt
typed_brings (ExpireDefunct now) ws f = tt

pub own_typed : (sp : Spare) → SpareTyped sp → broken_rule sp.state ≡ Ok tt → (r : Request) (ws : List ℕ) → RequestTyped r → SpareTyped (moved (perform_on sp.state r ws).state sp)
own_typed sp y e r ws f =
    subst (λ (s : LockState). SpareTyped (moved s sp)) (sym (perform_state sp.state r ws)) (direct_typed sp y e (op_of r ws) (typed_brings r ws f) _ (after_small sp.expected))

-- ---- bytes at a buffer's start
pub stored_front : (n b : List ℕ) → length b ≤ length n → take (length b) (stored n 0 b) ≡ b
unfolding stored
stored_front n b h = ap (take (length b)) (cond_true _ _ _ (le-leb (0 + length b) (length n) (omega (arith, h))) ∙ splice_front n b) ∙ take_at b (drop (length b) n) (length b) refl

-- ---- an image that is read, whose spare is known
pub image_read : {A : Type 0} (s : List ℕ) (sp : Spare) → reads s sp → (refused : Told → A) (go : Spare → A) → on_image s refused go ≡ go sp
unfolding on_image reading_told reading_paper
image_read s sp e refused go = ap (λ (i : Imaged). cond (eqb (reading_told i.told).number 0) (go i.spare) (refused (reading_told i.told))) e

-- ---- one call: nothing was done and every byte is kept; or it was, and its record was written
module _ (s : List ℕ) (o : Operation) (ws n m x f : List ℕ) where
  pub data Performing (c : Performed) : Type 0 where
    stayed : (c.told.part ≡ 2 → ⊥) → c.next ≡ n → c.removed ≡ m → c.expired ≡ x → c.sent ≡ f → Performing c
    wrote : (sp : Spare) → reads s sp → (r : Request) → c.told.part ≡ 2 → Sends s o ws n m x f sp r c → Performing c

  module _ (t : InTypes o) (w : Words ws) (sp : Spare) (e : reads s sp) (y : SpareTyped sp) where
    sound : broken_rule sp.state ≡ Ok tt
    sound = (accepted s sp e).sound

    module _ (r : Request) (a : asked_of o ≡ Ok r) (size : ℕ) (g : needed_on r ws ≡ Ok size) where
      can : Sendable sp.expected r ws
      can = typed_sendable o t ws w sp.expected y.expected r a size g

      abbrev bytes : List ℕ
      bytes = request_bytes sp.expected r ws

      sized : length bytes ≡ size
      sized = size_sendable sp.expected r ws can ∙ sym (room_of r ws size g).size

      abbrev direct : Step
      direct = onward sp sp.expected size (perform_on sp.state r ws)

      own_direct : direct ≡ own_on sp size r ws
      unfolding own_on
      own_direct = on_sound_lem sp.state _ _ (broken_rule sp.state) refl sound

      -- the spare's step on the record
      read_step : step_on sp bytes 0 ≡ direct
      read_step =
          ap (λ (b : List ℕ). step_on sp b 0) (sym (append-nil bytes))
          ∙ own_step sp sound r ws can [] []
          ∙ ap (λ (k : ℕ). own_on sp k r ws) sized
          ∙ sym own_direct

      -- with room for what the step leaves
      module _ (u : No (any_short 0 direct n m x)) where
        read_put : apply_of s bytes 0 n m x ≡ whole_put 0 direct n m x
        unfolding apply_of step_put is_applied
        read_put = image_read s sp e _ _ ∙ ap (λ (z : Step). step_put 0 z n m x) read_step ∙ cond_false _ _ _ u

        front : take size (splice f 0 bytes) ≡ bytes
        front = ap (take size) (splice_front f bytes) ∙ take_at bytes (drop (length bytes) f) size sized

        image_room : length (image_bytes direct.spare) ≤ length n
        unfolding any_short
        image_room = ltb-false _ _ (or_no _ _ (or_no _ _ u).0).0

        written : (out : List ℕ) → size ≤ length out → write_of sp.expected o ws out ≡ kept (told_of (sent_paper (Ok size))) (take size (splice f 0 bytes) ++ drop size out)
        unfolding write_of
        written out h =
            let k = sym (room_of r ws size g).size in
            ap (on_asked (λ p. kept p out) (record_put sp.expected ws out)) a
            ∙ ap (λ (z : Written). kept (told_of (sent_paper z.told)) z.out) (sent_done sp.expected r ws can out (omega (arith, k, h)))
            ∙ ap (λ (j : ℕ). kept (told_of (sent_paper (Ok j))) (bytes ++ drop j out)) k
            ∙ ap (λ (b : List ℕ). kept (told_of (sent_paper (Ok size))) (b ++ drop size out)) (sym front)

        put_sends : Sends s o ws n m x f sp r (with_record (whole_put 0 direct n m x) (splice f 0 bytes))
        unfolding sent_paper
        put_sends =
            record {
              asked = a;
              sendable = can;
              bytes = front;
              applies = ap (λ (b : List ℕ). apply_of s b 0 n m x) front ∙ read_put;
              done = refl;
              image = stored_front n (image_bytes direct.spare) image_room;
              past = ap (drop size) (splice_front f bytes) ∙ drop_at bytes (drop (length bytes) f) size sized ∙ ap (λ (k : ℕ). drop k f) sized;
              writes = written;
            }

      own_door : Performing (own_put_lem n m x f direct bytes)
      unfolding own_put_lem step_put is_applied ◌and◌
      own_door =
          cond_both Performing _ _ (any_short 0 direct n m x or ltb (length f) (length bytes))
          (λ u. stayed (λ z. omega (arith, z)) refl refl refl refl)
          (λ u.
          let room = (or_no _ _ u).0 in
          subst (λ (z : Changed). Performing (with_record z (splice f 0 bytes))) (sym (cond_false _ (short_put 0 direct n m x) (whole_put 0 direct n m x) room)) (wrote sp e r refl (put_sends room)))

    needed_door : (r : Request) → asked_of o ≡ Ok r → (z : Result ℕ Unsent) → needed_on r ws ≡ z → Performing (needed_put n m x f sp r ws z)
    needed_door r a (Ok size) g = subst (λ (st : Step). Performing (own_put_lem n m x f st (bytes r a size g))) (sym (read_step r a size g)) (own_door r a size g)
    needed_door r a (Err BadList) g = stayed (λ z. omega (arith, z)) refl refl refl refl
    needed_door r a (Err ListTooLong) g = stayed (λ z. omega (arith, z)) refl refl refl refl
    needed_door r a (Err (ShortOutput k)) g = stayed (λ z. omega (arith, z)) refl refl refl refl

    asked_door : (z : Result Request Told) → asked_of o ≡ z → Performing (asked_put n m x f sp ws z)
    asked_door (Err p) a = stayed (λ z. omega (arith, z)) refl refl refl refl
    asked_door (Ok r) a = needed_door r a (needed_on r ws) refl

    -- of an image whose spare is known
    pub known_door : Performing (perform_of s o ws n m x f)
    unfolding perform_of
    known_door = subst Performing (sym (image_read s sp e _ _)) (asked_door (asked_of o) refl)

pub perform_door : (s : List ℕ) → Bytes s → (o : Operation) → InTypes o → (ws : List ℕ) → Words ws → (n m x f : List ℕ) → Performing s o ws n m x f (perform_of s o ws n m x f)
unfolding perform_of
perform_door s y o t ws w n m x f =
    image_comes (Performing s o ws n m x f) s _ _ (λ p. stayed (λ z. omega (arith, z)) refl refl refl refl) (λ sp e. asked_door s o ws n m x f t w sp e (accepted_typed s y sp e) (asked_of o) refl)

module _ (s : List ℕ) (y : Bytes s) (o : Operation) (t : InTypes o) (ws : List ℕ) (w : Words ws) (n m x f : List ℕ) where
  abbrev c : Performed
  c = perform_of s o ws n m x f

  pub perform_sends : c.told.part ≡ 2 → (sp : Spare) × reads s sp × ((r : Request) × Sends s o ws n m x f sp r c)
  perform_sends p = go (perform_door s y o t ws w n m x f)
    where
      go : Performing s o ws n m x f c → (sp : Spare) × reads s sp × ((r : Request) × Sends s o ws n m x f sp r c)
      go (stayed h a b d g) = absurd (h p)
      go (wrote sp e r q z) = (sp, e, (r, z))

  pub perform_keeps : (c.told.part ≡ 2 → ⊥) → (c.next ≡ n) × (c.removed ≡ m) × (c.expired ≡ x) × (c.sent ≡ f)
  perform_keeps p = go (perform_door s y o t ws w n m x f)
    where
      go : Performing s o ws n m x f c → (c.next ≡ n) × (c.removed ≡ m) × (c.expired ≡ x) × (c.sent ≡ f)
      go (stayed h a b d g) = (a, b, d, g)
      go (wrote sp e r q z) = absurd (p q)
