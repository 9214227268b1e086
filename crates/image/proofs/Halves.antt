-- From runs to the image's lists: what a run that was read or refused says, and the two halves of reading.
-- Assumes nothing.
use mathlib.Core.Path.{◌≡◌, refl, sym, ap, ◌∙◌, subst}
use mathlib.Core.Bool.{Bool, true, false, cond, true≢false, false≢true}
use mathlib.Core.List.{List, [], ◌∷◌, ◌++◌}
use mathlib.Core.Logic.{◌⊎◌, inl, inr}
use Prim.Native.Nat.{ℕ, zero, suc, ◌-◌, ◌≤◌, ◌<◌}
use native.Mathlib.Omega.{arith}
use lib.ListN.{length, get_or, take, drop, replicate}
use lib.Seq.{length-take-le}
use Rattle.std.proofs.lemmas.List.{length-replicate, drop-replicate}
use lib.Dec.{eqb, ltb, leb}
use borrow.Author.Tests.{lt-ltb, le-ltb, leb-true}
use Rattle.lists.specs.Tests.{◌and◌, Yes, No}
use Rattle.lists.specs.Places.{in_places}
use Rattle.lists.proofs.Tests.{and_l, and_r, cond_true, cond_false, cond_both}
use Rattle.state.specs.declared.ActiveLock.{ActiveLock}
use Rattle.state.specs.declared.DefunctLock.{DefunctLock}
use Rattle.state.specs.Locks.{blank_active, blank_defunct}
use Rattle.records.specs.declared.frame.Frame.{Frame}
use Rattle.std.specs.Prelude.{Result, Ok, Err, ⊤}
use Rattle.records.specs.declared.frame.Unread.{Unread}
use Rattle.records.specs.declared.bodies.Head.{Head}
use Rattle.records.specs.Numbers.{part}
use Rattle.records.specs.Layouts.{total}
use Rattle.records.specs.Codecs.{Codec, in_body, decode_by}
use Rattle.records.specs.Table.{at_head}
use Rattle.records.specs.Framing.{frame_at}
use Rattle.records.specs.Wire as wire
use Rattle.records.proofs.Codecs.{passed}
use Rattle.image.proofs.Stepping.{got_one}
use Rattle.rules.specs.declared.Unsound.{Unsound}
use Rattle.rules.specs.Rules.{broken_rule}
use Rattle.image.specs.declared.Imaged.{Imaged}
use Rattle.image.specs.declared.ImageRefusal.{ImageRefusal}
use Rattle.image.specs.declared.ImageRefusal.TheVariants.{BadField, BadOrder}
use Rattle.image.specs.Code.{on_ok}
use Rattle.image.specs.Image.{Got, and_then, of_frame, record_at, Listed, active_list, defunct_list, ahead, low_after, run_at, Held, held_of, lists_at, held_by, spare_of, records_of, judged, tested, read_on}
use Rattle.std.specs.Result.{is_ok}

-- ---- a record that was read: its frame, and its body
module _ {R : Type 0} (c : Codec R) (due : ℕ) (s : List ℕ) (at : ℕ) where
  pub record Taken (r : R) (next : ℕ) : Type 0 where
    pub frame : Frame
    pub framed : frame_at s at due ≡ Ok frame
    pub size : length (part s frame.start frame.size) ≡ total c.layout
    pub right : Yes (c.right (in_body c (part s frame.start frame.size)))
    pub made : c.made (in_body c (part s frame.start frame.size)) ≡ r
    pub after : frame.next ≡ next

  taken_of : (f : Result Frame Unread) (r : R) (next : ℕ) → frame_at s at due ≡ f → of_frame c s at f ≡ Ok (r, next) → Taken r next
  taken_of (Err u) r next q e = cc
  taken_of (Ok f) r next q e =
      let b : List ℕ = part s f.start f.size in
      let good : Got R = Ok (c.made (in_body c b), f.next) in
      let want : Got R = Ok (r, next) in
      let a = passed (length b) (total c.layout) (c.right (in_body c b)) good (Err (BadField at)) want (λ z. cc) e in
      record { frame = f; framed = q; size = a.0; right = a.1; made = (got_one a.2).0; after = (got_one a.2).1 }

  pub taken : (r : R) (next : ℕ) → record_at c due s at ≡ Ok (r, next) → Taken r next
  unfolding record_at
  taken r next e = taken_of (frame_at s at due) r next refl e

-- the counts that HEAD may have
pub head_counts : (s : List ℕ) (at next : ℕ) (h : Head) → record_at wire.head at_head s at ≡ Ok (h, next) → (h.actives ≤ 64) × (h.defuncts ≤ 128)
head_counts s at next h e =
    let t = taken wire.head at_head s at h next e in
    let v : List ℕ = in_body wire.head (part s t.frame.start t.frame.size) in (
      subst (λ (x : Head). x.actives ≤ 64) t.made (leb-true _ _ (and_l (leb (get_or v 2 0) 64) (leb (get_or v 3 0) 128) t.right)),
      subst (λ (x : Head). x.defuncts ≤ 128) t.made (leb-true _ _ (and_r (leb (get_or v 2 0) 64) (leb (get_or v 3 0) 128) t.right)),
    )

-- ---- a run that was read: its first record, and the others
pub then_got : {A B : Type 0} (o : Got A) (f : A → ℕ → Got B) (b : B) (n : ℕ) → and_then o f ≡ Ok (b, n) → (a : A) × (m : ℕ) × (o ≡ Ok (a, m)) × (f a m ≡ Ok (b, n))
unfolding and_then
then_got (Err x) f b n e = absurd (let z : ◌≡◌ {A = ℕ} 0 1 = cc in omega arith)
then_got (Ok (a, m)) f b n e = (a, m, refl, e)

pub cond_got : {A : Type 0} (c : Bool) (x : ImageRefusal) (g : Got A) (a : A) (n : ℕ) → cond c (Err x) g ≡ Ok (a, n) → No c × (g ≡ Ok (a, n))
cond_got true x g a n e = absurd (let z : ◌≡◌ {A = ℕ} 0 1 = cc in omega arith)
cond_got false x g a n e = (refl, e)

module _ {R : Type 0} (e : Listed R) (strict : Bool) (s : List ℕ) where
  ahead_got : (r : R) (g : Got (List R)) (l : List R) (m : ℕ) → ahead e r g ≡ Ok (l, m) → (rs : List R) × (g ≡ Ok (rs, m)) × (l ≡ r ∷ rs)
  ahead_got r (Err x) l m q = absurd (let z : ◌≡◌ {A = ℕ} 0 1 = cc in omega arith)
  ahead_got r (Ok (rs, n)) l m q = let w = got_one q in (rs, ap (λ (k : ℕ). Ok (rs, k)) w.1, sym w.0)

  pub record First (n low at : ℕ) (l : List R) (m : ℕ) : Type 0 where
    pub one : R
    pub next : ℕ
    pub rest : List R
    pub read : record_at e.codec e.place s at ≡ Ok (one, next)
    pub order : No (ltb (e.id one) low)
    pub others : run_at e strict s n (low_after strict (e.id one)) next ≡ Ok (rest, m)
    pub all : l ≡ one ∷ rest

  pub first : (n low at : ℕ) (l : List R) (m : ℕ) → run_at e strict s (suc n) low at ≡ Ok (l, m) → First n low at l m
  unfolding run_at
  first n low at l m q =
      let w = then_got (record_at e.codec e.place s at) _ l m q in
      let u = cond_got (ltb (e.id w.0) low) (BadOrder at) (ahead e w.0 (run_at e strict s n (low_after strict (e.id w.0)) w.1)) l m w.3 in
      let v = ahead_got w.0 (run_at e strict s n (low_after strict (e.id w.0)) w.1) l m u.1 in
      record { one = w.0; next = w.1; rest = v.0; read = w.2; order = u.0; others = v.1; all = v.2 }

  pub none : (low at : ℕ) (l : List R) (m : ℕ) → run_at e strict s 0 low at ≡ Ok (l, m) → (l ≡ []) × (m ≡ at)
  unfolding run_at
  none low at l m q = let w = got_one q in (sym w.0, sym w.1)

  -- as many as were asked for
  pub run_length : (n low at : ℕ) (l : List R) (m : ℕ) → run_at e strict s n low at ≡ Ok (l, m) → length l ≡ n
  run_length zero low at l m q = ap length (none low at l m q).0
  run_length (suc n) low at l m q = let f = first n low at l m q in ap length f.all ∙ ap suc (run_length n (low_after strict (e.id f.one)) f.next f.rest m f.others)

-- ---- the first half: what each way out of HEAD and the lists says
pub head_stops : (strict : Bool) (s : List ℕ) (x : ImageRefusal) → record_at wire.head at_head s 0 ≡ Err x → held_by strict s ≡ Err x
unfolding held_by and_then
head_stops strict s x e = ap (λ (o : Got Head). and_then o (lists_at strict s)) e

-- a part of blank places that is lent to be filled, and the places after it
pub part_size : {A : Type 0} (k m : ℕ) (b : A) (l : List A) → l ≡ replicate m b → k ≤ m → length (take k (drop 0 l)) ≡ k
part_size k m b l e h = length-take-le k l (omega (arith, ap length e, length-replicate m b))

pub part_put : {A : Type 0} (k m : ℕ) (b : A) (l xs : List A) → l ≡ replicate m b → length xs ≡ k → xs ++ drop k (drop 0 l) ≡ in_places m b xs
part_put {A} k m b l xs e h = ap (λ (x : List A). xs ++ x) (ap (drop k) e ∙ drop-replicate k m b ∙ ap (λ (n : ℕ). replicate (m - n) b) (sym h))

-- both lists, of an image that begins with h
module _ (strict : Bool) (s : List ℕ) (h : Head) (at : ℕ) (eh : record_at wire.head at_head s 0 ≡ Ok (h, at)) where
  abbrev actives : Got (List ActiveLock)
  actives = run_at active_list strict s h.actives 0 at

  abbrev defuncts : ℕ → Got (List DefunctLock)
  defuncts next = run_at defunct_list strict s h.defuncts 0 next

  abbrev end : List ActiveLock → List DefunctLock → ℕ → Got Held
  end xs ys n = cond (ltb n (length s)) (Err (BadOrder n)) (Ok (held_of h xs ys, n))

  lists : (o : Got (List ActiveLock)) → actives ≡ o → held_by strict s ≡ and_then o (λ xs next. and_then (defuncts next) (end xs))
  unfolding held_by lists_at and_then
  lists o e = ap (λ (o : Got Head). and_then o (lists_at strict s)) eh ∙ ap (λ (o : Got (List ActiveLock)). and_then o (λ xs next. and_then (defuncts next) (end xs))) e

  pub active_stops : (x : ImageRefusal) → actives ≡ Err x → held_by strict s ≡ Err x
  unfolding and_then
  active_stops x e = lists (Err x) e

  module _ (xs : List ActiveLock) (next : ℕ) (ea : actives ≡ Ok (xs, next)) where
    second : (o : Got (List DefunctLock)) → defuncts next ≡ o → held_by strict s ≡ and_then o (end xs)
    unfolding and_then
    second o e = lists (Ok (xs, next)) ea ∙ ap (λ (o : Got (List DefunctLock)). and_then o (end xs)) e

    pub defunct_stops : (x : ImageRefusal) → defuncts next ≡ Err x → held_by strict s ≡ Err x
    unfolding and_then
    defunct_stops x e = second (Err x) e

    module _ (ys : List DefunctLock) (n : ℕ) (ed : defuncts next ≡ Ok (ys, n)) where
      last : held_by strict s ≡ end xs ys n
      unfolding and_then
      last = second (Ok (ys, n)) ed

      pub extra : n < length s → held_by strict s ≡ Err (BadOrder n)
      extra q = last ∙ cond_true _ _ _ (lt-ltb _ _ q)

      -- the empty spare, with both lists in their first places
      pub all_read : length s ≤ n → (active : List ActiveLock) (defunct : List DefunctLock) → active ≡ in_places 64 blank_active xs → defunct ≡ in_places 128 blank_defunct ys
          → Ok (record { state = record { revision = h.revision; active = active; actives = h.actives; defunct = defunct; defuncts = h.defuncts }; expected = h.expected }) ≡ on_ok (λ g. spare_of g.0) (held_by strict s)
      all_read q active defunct pa pd =
          let na : length xs ≡ h.actives = run_length active_list strict s h.actives 0 at xs next ea in
          let nd : length ys ≡ h.defuncts = run_length defunct_list strict s h.defuncts 0 next ys n ed in
          (λ i. Ok (record { state = record { revision = h.revision; active = pa i; actives = sym na i; defunct = pd i; defuncts = sym nd i }; expected = h.expected }))
          ∙ sym (ap (on_ok (λ g. spare_of g.0)) (last ∙ cond_false _ _ _ (le-ltb _ _ q)))

-- ---- then the test
pub tested_not : (i : Imaged) (t : Result ⊤ ImageRefusal) → No (is_ok t) → tested i t ≡ i
tested_not i (Ok tt) k = absurd (true≢false k)
tested_not i (Err x) k = refl

tested_is : (i : Imaged) (t : Result ⊤ ImageRefusal) → Yes (is_ok t) → tested i t ≡ judged i (broken_rule i.spare.state)
tested_is i (Ok tt) k = refl
tested_is i (Err x) k = absurd (false≢true k)

module _ (s : List ℕ) (i : Imaged) (e : i ≡ records_of s) where
  read_is : tested i i.told ≡ read_on s
  unfolding read_on
  read_is = ap (λ (x : Imaged). tested x x.told) e

  pub not_tested : No (is_ok i.told) → i ≡ read_on s
  not_tested k = sym (tested_not i i.told k) ∙ read_is

  pub judged_by : (v : Result ⊤ Unsound) → Yes (is_ok i.told) → v ≡ broken_rule i.spare.state → judged i v ≡ read_on s
  judged_by v k q = ap (judged i) q ∙ sym (tested_is i i.told k) ∙ read_is
