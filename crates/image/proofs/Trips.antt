-- Both round trips of an image, and what follows from them. Document 01: "equal images mean equal locks".
-- Assumes nothing.
use mathlib.Core.Path.{◌≡◌, refl, sym, ap, ap₂, ◌∙◌, subst}
use mathlib.Core.Bool.{Bool, true, false, cond}
use mathlib.Core.List.Memᴰ
use mathlib.Core.List.{List, ◌++◌}
use Prim.Native.Nat.{ℕ, ◌≤◌}
use native.Mathlib.Omega.{arith}
use lib.ListN.{length, take, drop, take-append-drop}
use lib.Seq.{take_at}
use lib.Dec.{ltb}
use borrow.Author.Tests.{le-leb, le-ltb, leb-true}
use Rattle.lists.specs.Tests.{Yes}
use Rattle.lists.specs.Lists.{Mem}
use Rattle.lists.proofs.Tests.{and_l, and_r, and_i, against, cond_false}
use Rattle.lists.proofs.Lists.{all→}
use Rattle.state.specs.declared.Lock.{Lock}
use Rattle.state.specs.declared.ActiveLock.{ActiveLock}
use Rattle.state.specs.declared.DefunctLock.{DefunctLock}
use Rattle.state.specs.declared.LockState.{LockState}
use Rattle.state.specs.Model.{Model, model_of, state_of, fits}
use Rattle.state.proofs.Laws.{model-of-state}
use Rattle.std.specs.Prelude.{Result, Ok, Err, ⊤}
use Rattle.rules.specs.declared.Unsound.{Unsound}
use Rattle.rules.specs.Rules.{zero_id, zero_set, neat_l, neat_a, neat_d, neat, in_order, broken_rule}
use Rattle.rules.proofs.Sound.{facts_of_state, tidy_of_sound}
use Rattle.records.specs.Wire as wire
use Rattle.records.proofs.Numbers.{Bytes}
use Rattle.records.proofs.Wire.{lock_neat, active_neat, defunct_neat, head_faithful, active_faithful, defunct_faithful}
use Rattle.image.specs.declared.Spare.{Spare}
use Rattle.image.specs.declared.Imaged.{Imaged}
use Rattle.image.specs.declared.ImageRefusal.{ImageRefusal}
use Rattle.image.specs.declared.WriteRefusal.{WriteRefusal}
use Rattle.image.specs.declared.WriteRefusal.TheVariants.{ShortOutput}
use Rattle.image.specs.Refusals.{unsound, not_written}
use Rattle.image.specs.Image.{Got, Held, held_in, spare_of, no_spare, refusal, imaged, records_of, judged, tested, read_on, head_of, image_of, Written, done, fitted, written_by, write_on, reading_paper}
use Rattle.image.specs.Ranges.{InTypes}
use Rattle.image.proofs.There.{WellHeld, held_there}
use Rattle.image.proofs.Back.{held_back}
use Rattle.image.proofs.Papers.{reading_one}

-- ---- the records of a sound state are right: "parts that don't apply zero" is what a record asks
lock_right_lem : (l : Lock) → Yes (neat_l l) → Yes ((wire.lock_start).right ((wire.lock_start).numbers l))
unfolding neat_l zero_set
lock_right_lem l t = lock_neat l ∙ t

active_right : (a : ActiveLock) → Yes (neat_a a) → Yes ((wire.active).right ((wire.active).numbers a))
unfolding neat_a zero_id
active_right a t = active_neat a ∙ and_i _ _ (lock_right_lem a.lock (and_l _ _ t)) (and_r _ _ t)

defunct_right : (d : DefunctLock) → Yes (neat_d d) → Yes ((wire.defunct).right ((wire.defunct).numbers d))
unfolding neat_d
defunct_right d t = defunct_neat d ∙ lock_right_lem d.lock t

-- members of the first places are members
pub mem_take : {A : Type 0} (n : ℕ) (l : List A) {a : A} → Mem a (take n l) → Mem a l
mem_take n l {a} m = subst (Mem a) (take-append-drop n l) (Memᴰ.append_left (drop n l) m)

-- ---- a sound state within the types can be written
module _ (sp : Spare) (r : InTypes sp) (q : broken_rule sp.state ≡ Ok tt) where
  pub well_held : WellHeld (model_of sp.state) sp.expected
  unfolding fits in_order neat
  well_held =
      let m : Model = model_of sp.state in
      let f = facts_of_state sp.state q in
      let na : length m.active ≤ 64 = leb-true _ _ (and_l _ _ f.room) in
      let nd : length m.defunct ≤ 128 = leb-true _ _ (and_r _ _ f.room) in
      record {
        head =
            record {
              fit = (r.revision, (r.expected, (omega arith, (omega arith, tt))));
              right = and_i _ _ (le-leb (length m.active) 64 na) (le-leb (length m.defunct) 128 nd);
              same = head_faithful (head_of m sp.expected);
            };
        active = λ a i. record { fit = r.active a (mem_take sp.state.actives sp.state.active i); right = active_right a (all→ neat_a (and_l _ _ f.tidy) i); same = active_faithful a };
        defunct = λ d i. record { fit = r.defunct d (mem_take sp.state.defuncts sp.state.defunct i); right = defunct_right d (all→ neat_d (and_r _ _ f.tidy) i); same = defunct_faithful d };
        rises = and_l _ _ f.order;
        climbs = and_r _ _ f.order;
      }

  abbrev there : Imaged
  there = record { told = Ok tt; spare = sp }

  -- A written image reads back as the same state and expected number.
  pub read_written : read_on (image_of (model_of sp.state) sp.expected) ≡ there
  unfolding read_on records_of
  read_written =
      let t = tidy_of_sound sp.state r.actives r.defuncts q in
      ap (λ (g : Got Held). tested (imaged g) (imaged g).told) (held_there (model_of sp.state) sp.expected well_held)
      ∙ ap (λ (s : LockState). judged (record { told = Ok tt; spare = record { state = s; expected = sp.expected } }) (broken_rule s)) t.same
      ∙ ap (judged there) q

-- as the call leaves it in a buffer
fit_done : (c : Bool) (m k n : ℕ) (out out' x : List ℕ) → cond c (done (Err (ShortOutput m)) out) (done (Ok k) x) ≡ done (Ok n) out' → (n ≡ k) × (out' ≡ x)
fit_done true m k n out out' x e = let q : Err (ShortOutput m) ≡ Ok n = ap (λ (w : Written). w.told) e in cc
fit_done false m k n out out' x e = let q : ◌≡◌ {A = Result ℕ WriteRefusal} (Ok k) (Ok n) = ap (λ (w : Written). w.told) e in (cc, sym (ap (λ (w : Written). w.out) e))

write_done : (v : Result ⊤ Unsound) (b out out' : List ℕ) (n : ℕ) → written_by v b out ≡ done (Ok n) out' → (v ≡ Ok tt) × (take n out' ≡ b)
write_done (Ok u) b out out' n e = let w = fit_done (ltb (length out) (length b)) _ _ n out out' _ e in (refl, ap₂ take w.0 w.1 ∙ take_at b (drop (length b) out) (length b) refl)
write_done (Err u) b out out' n e = let q : Err (not_written u) ≡ Ok n = ap (λ (w : Written). w.told) e in cc

pub read_what_was_written : (sp : Spare) → InTypes sp → (out out' : List ℕ) (n : ℕ) → write_on sp out ≡ done (Ok n) out' → read_on (take n out') ≡ record { told = Ok tt; spare = sp }
unfolding write_on
read_what_was_written sp r out out' n e =
    let w = write_done (broken_rule sp.state) (image_of (model_of sp.state) sp.expected) out out' n e in
    ap read_on w.1 ∙ read_written sp r w.0

-- ---- an accepted image
pub record Accepted (s : List ℕ) (sp : Spare) : Type 0 where
  pub held : Held
  pub end : ℕ
  pub is : held_in s ≡ Ok (held, end)
  pub spare : sp ≡ spare_of held
  pub sound : broken_rule sp.state ≡ Ok tt

module _ (s : List ℕ) (sp : Spare) where
  done_by : (h : Held) (v : Result ⊤ Unsound) → broken_rule (state_of h.model) ≡ v → judged (record { told = Ok tt; spare = spare_of h }) v ≡ record { told = Ok tt; spare = sp } → (sp ≡ spare_of h) × (broken_rule sp.state ≡ Ok tt)
  done_by h (Ok u) q e = let w = ap (λ (x : Imaged). x.spare) e in (sym w, ap (λ (x : Spare). broken_rule x.state) (sym w) ∙ q)
  done_by h (Err u) q e = let w : Err (unsound u) ≡ Ok tt = ap (λ (x : Imaged). x.told) e in cc

  accepted_by : (g : Got Held) → held_in s ≡ g → tested (imaged g) (imaged g).told ≡ record { told = Ok tt; spare = sp } → Accepted s sp
  accepted_by (Err x) q e = let w : Err x ≡ Ok tt = ap (λ (i : Imaged). i.told) e in cc
  accepted_by (Ok (h, n)) q e = let w = done_by h (broken_rule (state_of h.model)) refl e in record { held = h; end = n; is = q; spare = w.0; sound = w.1 }

  pub accepted : read_on s ≡ record { told = Ok tt; spare = sp } → Accepted s sp
  unfolding read_on records_of
  accepted e = accepted_by (held_in s) refl e

  module _ (y : Bytes s) (e : read_on s ≡ record { told = Ok tt; spare = sp }) where
    -- An accepted image writes back as the same bytes.
    pub write_read : image_of (model_of sp.state) sp.expected ≡ s
    write_read =
        let a = accepted e in
        ap (λ (z : Spare). image_of (model_of z.state) z.expected) a.spare
        ∙ ap (λ (m : Model). image_of m a.held.expected) (model-of-state a.held.model)
        ∙ (held_back true s y a.held a.end a.is).0

    -- into any buffer with room for it
    pub write_what_was_read : (out : List ℕ) → length s ≤ length out → write_on sp out ≡ done (Ok (length s)) (s ++ drop (length s) out)
    unfolding write_on
    write_what_was_read out h =
        ap (λ (v : Result ⊤ Unsound). written_by v (image_of (model_of sp.state) sp.expected) out) (accepted e).sound
        ∙ ap (λ (b : List ℕ). fitted b out) write_read
        ∙ cond_false _ _ _ (le-ltb (length out) (length s) h)

-- ---- Equal images mean equal locks: of sound states the state and the expected number are one.
pub one_image : (sp sp' : Spare) → InTypes sp → InTypes sp' → broken_rule sp.state ≡ Ok tt → broken_rule sp'.state ≡ Ok tt
    → image_of (model_of sp.state) sp.expected ≡ image_of (model_of sp'.state) sp'.expected → sp ≡ sp'
one_image sp sp' r r' q q' e = ap (λ (i : Imaged). i.spare) (sym (read_written sp r q) ∙ ap read_on e ∙ read_written sp' r' q')

-- and of accepted byte strings: two that read as one spare are one
pub one_reading : (s s' : List ℕ) → Bytes s → Bytes s' → (sp : Spare) → read_on s ≡ record { told = Ok tt; spare = sp } → read_on s' ≡ record { told = Ok tt; spare = sp } → s ≡ s'
one_reading s s' y y' sp e e' = sym (write_read s sp y e) ∙ write_read s' sp y' e'

-- ---- every byte string gets exactly one answer, and a refusal no spare
pub one_answer : (s : List ℕ) → (a : Result ⊤ ImageRefusal) × ((read_on s).told ≡ a) × ((b : Result ⊤ ImageRefusal) → reading_paper (read_on s).told ≡ reading_paper b → b ≡ a)
one_answer s = ((read_on s).told, refl, λ b e. reading_one b (read_on s).told (sym e))

judged_empty : (i : Imaged) (v : Result ⊤ Unsound) → i.told ≡ Ok tt → ((judged i v).told ≡ Ok tt → ⊥) → (judged i v).spare ≡ no_spare
judged_empty i (Ok u) q k = absurd (k q)
judged_empty i (Err u) q k = refl

pub no_spare_lem : (s : List ℕ) → ((read_on s).told ≡ Ok tt → ⊥) → (read_on s).spare ≡ no_spare
unfolding read_on records_of
no_spare_lem s k = go (held_in s) refl k
  where
    go : (g : Got Held) → held_in s ≡ g → ((tested (imaged g) (imaged g).told).told ≡ Ok tt → ⊥) → (tested (imaged g) (imaged g).told).spare ≡ no_spare
    go (Err x) q f = refl
    go (Ok (h, n)) q f = judged_empty (record { told = Ok tt; spare = spare_of h }) (broken_rule (state_of h.model)) refl f
