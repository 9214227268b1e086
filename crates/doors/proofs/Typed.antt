-- The range conditions of an image's round trip hold of every spare that an accepted image holds, and of every spare that a
-- step over a feed's bytes or a delete_defunct leaves after it: by theorem. Assumes nothing.
use mathlib.Core.Path.{◌≡◌, refl, sym, ap, ◌∙◌, subst}
use mathlib.Core.Bool.{true}
use mathlib.Core.List.Memᴰ
use mathlib.Core.List.{List, ◌∷◌, ◌++◌, Memᴰ}
use mathlib.Core.Logic.{inl, inr}
use Prim.Native.Nat.{ℕ, zero, suc, ◌-◌, ◌≤◌, ◌<◌, ◌^◌}
use native.Mathlib.Omega.{arith}
use lib.ListN.{length, replicate, length-append, length-replicate}
use lib.Dec.{ltb}
use borrow.Author.Tests.{leb-true}
use Rattle.lists.specs.Tests.{Yes}
use Rattle.lists.specs.Lists.{Mem}
use Rattle.lists.proofs.Tests.{and_l, and_r}
use Rattle.state.specs.declared.LockState.{LockState}
use Rattle.state.specs.Locks.{blank_active, blank_defunct}
use Rattle.state.specs.Model.{Model, model_of, state_of, full, fits}
use Rattle.state.proofs.Laws.{model-of-state}
use Rattle.std.specs.Prelude.{Result, Option, Ok, Err, Some, None}
use Rattle.rules.specs.Rules.{broken_rule}
use Rattle.rules.proofs.Sound.{sound_of}
use Rattle.records.specs.declared.bodies.Head.{Head}
use Rattle.records.specs.declared.requests.Request.{Request}
use Rattle.records.specs.declared.frame.Frame.{Frame}
use Rattle.records.specs.declared.frame.Unread.{Unread}
use Rattle.records.specs.declared.frame.Unread.TheVariants.{Torn, BadKind, BadField}
use Rattle.records.specs.Numbers.{part}
use Rattle.records.specs.Layouts.{Fit}
use Rattle.records.specs.Codecs.{Codec}
use Rattle.records.specs.Table.{at_head, in_feed}
use Rattle.records.specs.Framing.{frame_at}
use Rattle.records.specs.Feeds.{request_of, words_in, list_in}
use Rattle.records.specs.Wire as wire
use Rattle.records.proofs.Numbers.{Bytes, bytes_part}
use Rattle.records.proofs.Codecs.{Lawful}
use Rattle.records.proofs.Wire.{head_lawful, active_lawful, defunct_lawful}
use Rattle.records.proofs.Fits.{FitA}
use Rattle.promises.specs.Steps.{Op, step, step_on as directOn}
use Rattle.promises.proofs.Every.{step_keeps}
use Rattle.promises.proofs.Core.{stands_of}
use Rattle.promises.proofs.Agree.{steps_agree}
use Rattle.image.specs.declared.Spare.{Spare}
use Rattle.image.specs.declared.ImageRefusal.TheVariants.{BadOrder}
use Rattle.image.specs.Image.{record_at, Listed, active_list, defunct_list, run_at, low_after, Held as ImageHeld, held_of, lists_at, held_by, held_in, read_on}
use Rattle.image.specs.Ranges.{InTypes}
use Rattle.image.proofs.Stepping.{got_one}
use Rattle.image.proofs.Halves.{taken, First, first, none, then_got, cond_got}
use Rattle.image.proofs.Trips.{mem_take, accepted}
use Rattle.feed.specs.declared.events.Step.{Step}
use Rattle.feed.specs.Feed.{after, Numbered, numbered, body_in, taken_asked, taken_framed, taken_at, act_on, turn_on, taken_on, step_on}
use Rattle.feed.proofs.Turning.{turn_comes, step_sound}
use Rattle.promises.specs.Results.{op_of}
use Rattle.takeover.proofs.Keeping.{perform_state}
use Rattle.doors.proofs.Fits.{FitD, fit_blank, fit_blank_d}
use Rattle.doors.proofs.Ranged.{Ranged, Brought, step_ranged}
use Rattle.doors.proofs.Asking.{decoded_fit, request_brings}

-- ---- between a state and its lists
mem_replicate : {A : Type 0} (n : ℕ) (b : A) {a : A} → Mem a (replicate n b) → a ≡ b
mem_replicate zero b m = absurd (Memᴰ.not-nil m)
mem_replicate (suc n) b (Memᴰ.head e) = e
mem_replicate (suc n) b (Memᴰ.tail m) = mem_replicate n b m

pub to_ranged : (sp : Spare) → InTypes sp → Ranged (model_of sp.state)
to_ranged sp r =
    record {
      revision = r.revision;
      held =
          record {
            active = λ a u. r.active a (mem_take sp.state.actives sp.state.active u);
            defunct = λ d u. r.defunct d (mem_take sp.state.defuncts sp.state.defunct u);
          };
    }

padded : {A : Type 0} (n : ℕ) (b : A) (l : List A) → length l ≤ n → length (l ++ replicate (n - length l) b) ≡ n
padded n b l h = omega (arith, h, length-append l (replicate (n - length l) b), length-replicate (n - length l) b)

pub from_ranged : (m : Model) → Yes (fits full m) → Ranged m → (e : ℕ) → e < 2 ^ 32 → InTypes (record { state = state_of m; expected = e })
unfolding fits
from_ranged m t g e h =
    record {
      revision = g.revision;
      expected = h;
      actives = padded 64 blank_active m.active (leb-true _ _ (and_l _ _ t));
      defuncts = padded 128 blank_defunct m.defunct (leb-true _ _ (and_r _ _ t));
      active = λ a u. elim (Memᴰ.append_cases m.active u) [ inl v ↦ g.held.active a v | inr v ↦ subst FitA (sym (mem_replicate (64 - length m.active) blank_active v)) fit_blank ];
      defunct = λ d u. elim (Memᴰ.append_cases m.defunct u) [ inl v ↦ g.held.defunct d v | inr v ↦ subst FitD (sym (mem_replicate (128 - length m.defunct) blank_defunct v)) fit_blank_d ];
    }

after_small : (e : ℕ) → after e < 2 ^ 32
unfolding after
after_small e = omega arith

-- ---- an operation on a spare within the types
module _ (sp : Spare) (r : InTypes sp) (e : broken_rule sp.state ≡ Ok tt) where
  pub direct_typed : (o : Op) → Brought o → (n : ℕ) → n < 2 ^ 32 → InTypes (record { state = directOn sp.state o; expected = n })
  direct_typed o f n h =
      let m : Model = model_of sp.state in
      let s = sound_of sp.state e in
      subst (λ (x : LockState). InTypes (record { state = x; expected = n })) (sym (steps_agree sp.state r.actives r.defuncts e o))
      (from_ranged (step full m o) (stands_of full (step full m o) (step_keeps full m s o)).room (step_ranged m s (to_ranged sp r) o f) n h)

  -- ---- a record of a feed
  module _ (s : List ℕ) (y : Bytes s) (at : ℕ) where
    turn_typed : (n : ℕ) (x : Numbered) → Brought (op_of x.request x.list) → InTypes (turn_on sp n x).spare
    unfolding act_on
    turn_typed n x f =
        turn_comes sp n x (λ (z : Step). InTypes z.spare)
        (λ d. subst (λ (q : LockState). InTypes (record { state = q; expected = after sp.expected })) (sym (perform_state sp.state x.request x.list))
        (direct_typed (op_of x.request x.list) f (after sp.expected) (after_small sp.expected)))
        (λ v g. r)

    asked_typed : (f : Frame) (a : Option (ℕ × Request)) → request_of f.kind (body_in s f) ≡ a → InTypes (taken_on sp s at (taken_asked at f a)).spare
    asked_typed f (Some (q, w)) k =
        turn_typed f.next (numbered (record { sequence = q; request = w; frame = f }) (body_in s f))
        (request_brings (body_in s f) (bytes_part s f.start f.size y) q w (words_in (list_in w (body_in s f))) f.kind k)
    asked_typed f None k = r

    framed_typed : (f : Result Frame Unread) → InTypes (taken_on sp s at (taken_framed s at f)).spare
    framed_typed (Err (Torn x)) = r
    framed_typed (Err (BadKind x)) = r
    framed_typed (Err (BadField x)) = r
    framed_typed (Ok f) = asked_typed f (request_of f.kind (body_in s f)) refl

    pub step_typed : InTypes (step_on sp s at).spare
    unfolding taken_at
    step_typed = subst (λ (z : Step). InTypes z.spare) (sym (step_sound sp s at e)) (framed_typed (frame_at s at in_feed))

-- ---- an accepted image
module _ (s : List ℕ) (y : Bytes s) where
  record_fit : {R : Type 0} (c : Codec R) → Lawful c → (due at next : ℕ) (x : R) → record_at c due s at ≡ Ok (x, next) → Fit c.layout (c.numbers x)
  record_fit c w due at next x e =
      let t = taken c due s at x next e in
      subst (λ z. Fit c.layout (c.numbers z)) t.made (decoded_fit c w (part s t.frame.start t.frame.size) (bytes_part s t.frame.start t.frame.size y) (omega (arith, t.size)) t.right)

  run_fit : {R : Type 0} (d : Listed R) → Lawful d.codec → (n low at : ℕ) (l : List R) (m : ℕ) → run_at d true s n low at ≡ Ok (l, m) → (x : R) → Mem x l → Fit d.codec.layout (d.codec.numbers x)
  run_fit d w zero low at l m q x u = absurd (Memᴰ.not-nil (subst (Mem x) (none d true s low at l m q).0 u))
  run_fit d w (suc n) low at l m q x u =
      let f = first d true s n low at l m q in
      go f (λ v. run_fit d w n (low_after true (d.id f.one)) f.next f.rest m f.others x v) (subst (Mem x) f.all u)
    where
      go : (f : First d true s n low at l m) → (Mem x f.rest → Fit d.codec.layout (d.codec.numbers x)) → Mem x (f.one ∷ f.rest) → Fit d.codec.layout (d.codec.numbers x)
      go f others (Memᴰ.head e) = subst (λ z. Fit d.codec.layout (d.codec.numbers z)) (sym e) (record_fit d.codec w d.place at f.next f.one f.read)
      go f others (Memᴰ.tail v) = others v

  pub record ReadIn (x : ImageHeld) : Type 0 where
    pub ranged : Ranged x.model
    pub expected : x.expected < 2 ^ 32

  held_typed : (x : ImageHeld) (end : ℕ) → held_in s ≡ Ok (x, end) → ReadIn x
  unfolding held_by lists_at
  held_typed x end e =
      let w = then_got (record_at wire.head at_head s 0) (lists_at true s) x end e in
      let h : Head = w.0 in
      let v = then_got (run_at active_list true s h.actives 0 w.1) _ x end w.3 in
      let u = then_got (run_at defunct_list true s h.defuncts 0 v.1) _ x end v.3 in
      let c = cond_got (ltb u.1 (length s)) (BadOrder u.1) (Ok (held_of h v.0 u.0, u.1)) x end u.3 in
      let f = record_fit wire.head head_lawful at_head 0 w.1 h w.2 in
      subst ReadIn (got_one c.1).0
      (record {
        ranged =
            record {
              revision = f.0;
              held =
                  record {
                    active = run_fit active_list active_lawful h.actives 0 w.1 v.0 v.1 v.2;
                    defunct = run_fit defunct_list defunct_lawful h.defuncts 0 v.1 u.0 u.1 u.2;
                  };
            };
        expected = f.1.0;
      })

  pub accepted_typed : (sp : Spare) → read_on s ≡ record { told = Ok tt; spare = sp } → InTypes sp
  accepted_typed sp e =
      let a = accepted s sp e in
      let m : Model = a.held.model in
      let r = held_typed a.held a.end a.is in
      let q : model_of sp.state ≡ m = ap (λ (z : Spare). model_of z.state) a.spare ∙ model-of-state m in
      let t : Yes (fits full m) = ap (fits full) (sym q) ∙ (stands_of full (model_of sp.state) (sound_of sp.state a.sound)).room in
      subst InTypes (sym a.spare) (from_ranged m t r.ranged a.held.expected r.expected)
