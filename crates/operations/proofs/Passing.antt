-- The single pass over the defunct entries: those that go are read out, those that stay are led on through them and moved
-- down, the places left over are blanked.
-- Assumes nothing.
use mathlib.Core.Bool.{Bool, true, false, cond}
use mathlib.Core.List.{List, [], ◌∷◌, ◌++◌, map, append_assoc, append-nil}
use mathlib.Core.Path.{◌≡◌, refl, sym, ap, ◌∙◌}
use Prim.Native.Nat.{ℕ, ◌+◌, ◌-◌, ◌≤◌, ◌<◌}
use native.Mathlib.Omega.{arith}
use lib.ListN.{length, get_or, set, take, drop, replicate, length-append, length-map, length-take, length-drop, replicate-append-replicate}
use lib.Seq.{take_at, drop_at, take-length}
use Rattle.std.proofs.lemmas.List.{take_all, drop_all}
use Rattle.lists.specs.Tests.{non, Yes}
use Rattle.lists.specs.Lists.{filter, ascending}
use Rattle.lists.specs.Places.{in_places, Holds}
use Rattle.lists.proofs.Tests.{non_t, non_f}
use Rattle.lists.proofs.Lists.{filter_le, from_filter}
use Rattle.lists.proofs.Loops.{front, push, sift_yes, sift_no, filter_split}
use Rattle.state.specs.declared.DefunctLock.{DefunctLock}
use Rattle.state.specs.Locks.{dkey, blank_defunct}
use Rattle.ids.specs.Order.{no_id}
use Rattle.operations.specs.declared.defuncts.Gone.{Gone}
use Rattle.operations.specs.Defuncts.{remove_all}
use Rattle.operations.specs.Code.{unflagged, landed, left_by, Settled, Ready, with_entries}
use Rattle.state.specs.declared.LockState.{LockState}
use Rattle.state.specs.Model.{model_of}
use Rattle.state.proofs.Laws.{defunct_count, defunct_in_lem}
use Rattle.rules.specs.Rules.{rule9}
use Rattle.operations.proofs.Leaving.{remove_all_le}
use Rattle.operations.proofs.Over.{over, over_read, over_push, over_long}
use Rattle.operations.proofs.Flags.{marked_filter}
use Rattle.operations.proofs.Landing.{landing}

abbrev pub nothing : Gone
nothing = record { id = no_id; target = no_id; holder = 0 }

unmarked : (p : DefunctLock → Bool) (f : DefunctLock → DefunctLock) (l : List DefunctLock) → unflagged (map p l) (map f l) ≡ map f (filter (λ d. non (p d)) l)
unfolding non
unmarked p f [] = refl
unmarked p f (d ∷ ds) = go (p d) (unmarked p f ds)
  where
    go : (b : Bool) → unflagged (map p ds) (map f ds) ≡ map f (filter (λ d. non (p d)) ds) → cond b (unflagged (map p ds) (map f ds)) (f d ∷ unflagged (map p ds) (map f ds)) ≡ map f (cond (non b) (d ∷ filter (λ d. non (p d)) ds) (filter (λ d. non (p d)) ds))
    go true e = e
    go false e = ap (λ (t : List DefunctLock). f d ∷ t) e

module _ (p : DefunctLock → Bool) (l : List DefunctLock) where
  -- of the first i entries those that stay, led on through all that go
  abbrev pub staying : ℕ → List DefunctLock
  staying i = map (landed (filter p l)) (filter (λ d. non (p d)) (take i l))

  staying_le : (i : ℕ) → length (staying i) ≤ i
  staying_le i = omega (arith, length-map (filter (λ d. non (p d)) (take i l)) (landed (filter p l)), filter_le (λ d. non (p d)) (take i l), length-take i l)

  module _ (i : ℕ) (h : i < length l) (out : List DefunctLock) (w : ℕ) (e : out ≡ over (staying i) l) (n : w ≡ length (staying i)) (b : Bool) (q : b ≡ p (get_or out i blank_defunct)) where
    was : get_or out i blank_defunct ≡ get_or l i blank_defunct
    was = ap (λ (o : List DefunctLock). get_or o i blank_defunct) e ∙ over_read (staying i) l i blank_defunct (staying_le i)

    pub stay : b ≡ false → (x : DefunctLock) → x ≡ landed (filter p l) (get_or out i blank_defunct) → (set out w x ≡ over (staying (i + 1)) l) × (w + 1 ≡ length (staying (i + 1)))
    stay t x f =
        let more : staying (i + 1) ≡ staying i ++ (landed (filter p l) (get_or l i blank_defunct) ∷ []) = sift_yes (landed (filter p l)) (λ d. non (p d)) l i blank_defunct h (non_f _ (ap p (sym was) ∙ sym q ∙ t)) in (
          ap (λ (o : List DefunctLock). set o w x) e ∙ over_push (staying i) l x blank_defunct w n (omega (arith, staying_le i))
              ∙ ap (λ (y : DefunctLock). over (staying i ++ (y ∷ [])) l) (f ∙ ap (landed (filter p l)) was) ∙ ap (λ (s : List DefunctLock). over s l) (sym more),
          omega (arith, ap length more, length-append (staying i) (landed (filter p l) (get_or l i blank_defunct) ∷ [])),
        )

    pub go_out : b ≡ true → (out ≡ over (staying (i + 1)) l) × (w ≡ length (staying (i + 1)))
    go_out t =
        let same : staying (i + 1) ≡ staying i = sift_no (landed (filter p l)) (λ d. non (p d)) l i blank_defunct h (non_t _ (ap p (sym was) ∙ sym q ∙ t)) in
        (e ∙ ap (λ (s : List DefunctLock). over s l) (sym same), n ∙ ap length (sym same))

  module _ (t : Settled l) where
    left_all : staying (length l) ≡ remove_all (filter p l) l
    left_all =
        let all : take (length l) (map p l) ≡ map p l = take_all (length l) (map p l) (omega (arith, length-map l p)) in
        ap (λ (s : List DefunctLock). map (landed (filter p l)) (filter (λ d. non (p d)) s)) (take-length l)
        ∙ sym (unmarked p (landed (filter p l)) l)
        ∙ (rw (all, marked_filter p l) at (landing (map p l) l t.order t.free (omega (arith, length-map l p))))

    pub shed_done : (i : ℕ) → length l ≤ i → i ≤ length l → (out : List DefunctLock) (w : ℕ) → out ≡ over (staying i) l → w ≡ length (staying i)
        → (m : List DefunctLock) (b : DefunctLock) → b ≡ blank_defunct → m ≡ replicate (length (take (length out - w) (drop w out))) b
        → Holds (length l) blank_defunct (remove_all (filter p l) l) (take w out ++ (m ++ drop (length out - w) (drop w out))) w
    shed_done i h g out w e n m b f q =
        let z : i ≡ length l = omega arith in
        let few : length (staying i) ≤ length l = omega (arith, staying_le i) in
        let long : length out ≡ length l = over_long (staying i) l out (length l) e refl few in
        let rest : drop (length out - w) (drop w out) ≡ [] = drop_all (length out - w) (drop w out) (omega (arith, length-drop w out)) in
        let size : length (take (length out - w) (drop w out)) ≡ length l - length (staying i) = omega (arith, length-take (length out - w) (drop w out), length-drop w out) in
        let all : staying i ≡ remove_all (filter p l) l = ap staying z ∙ left_all in (
          (rw (rest, append-nil m, q, size, f) (ap (λ (s : List DefunctLock). take w s ++ replicate (length l - length (staying i)) blank_defunct) e ∙ ap (λ (s : List DefunctLock). s ++ replicate (length l - length (staying i)) blank_defunct) (take_at (staying i) (drop (length (staying i)) l) w (sym n))))
              ∙ ap (in_places (length l) blank_defunct) all,
          n ∙ ap length all,
        )

    -- where all go
    pub shed_none : (n : ℕ) → n ≡ length (map left_by (filter p l)) → n ≡ length l → (m : List DefunctLock) (b : DefunctLock) → b ≡ blank_defunct → m ≡ replicate (length l) b → Holds (length l) blank_defunct (remove_all (filter p l) l) m 0
    shed_none n k e m b f q =
        let none : remove_all (filter p l) l ≡ [] = sym left_all ∙ ap (λ (s : List DefunctLock). map (landed (filter p l)) (filter (λ d. non (p d)) s)) (take-length l) ∙ empty (filter (λ d. non (p d)) l) (omega (arith, k, length-map (filter p l) left_by, filter_split p l)) in
        let z : length l - 0 ≡ length l = omega arith in
        rw (none, z, q, f) (refl, refl)
      where
        empty : (s : List DefunctLock) → length s ≡ 0 → map (landed (filter p l)) s ≡ []
        empty [] z = refl
        empty (d ∷ ds) z = absurd (omega arith)

    pub gone_order : Yes (ascending dkey (filter p l))
    gone_order = from_filter dkey p 0 l t.order

  -- ---- those that go, read out
  module _ (gone : List Gone) (n i : ℕ) where
    pub read_yes : Holds 128 nothing (map left_by (filter p (take i l))) gone n → n < 128 → i < length l → p (get_or l i blank_defunct) ≡ true → Holds 128 nothing (map left_by (filter p (take (i + 1) l))) (set gone n (left_by (get_or l i blank_defunct))) (n + 1)
    read_yes h k g e = push 128 nothing (map left_by (filter p (take i l))) (map left_by (filter p (take (i + 1) l))) gone n (left_by (get_or l i blank_defunct)) h k (sift_yes left_by p l i blank_defunct g e)

    pub read_no : Holds 128 nothing (map left_by (filter p (take i l))) gone n → i < length l → p (get_or l i blank_defunct) ≡ false → Holds 128 nothing (map left_by (filter p (take (i + 1) l))) gone n
    read_no h g e = rw (sift_no left_by p l i blank_defunct g e) h

    pub read_all : Holds 128 nothing (map left_by (filter p (take i l))) gone n → length l ≤ i → (take n gone ≡ map left_by (filter p l)) × (n ≡ length (map left_by (filter p l)))
    read_all h g =
        let k = rw (take_all i l g) at h in
        (rw (k.0, k.1) (front (map left_by (filter p l)) _), k.1)

-- ---- within a state
module _ (s : LockState) (r : Ready s) where
  pub settled_of : Settled (model_of s).defunct
  unfolding rule9
  settled_of = record { few = omega (arith, defunct_count s r.tidy, r.tidy.defunct); order = r.order; free = r.free }

  pub shed_state : (ds : List DefunctLock) (m : List DefunctLock) (w : ℕ) → Holds (length (model_of s).defunct) blank_defunct (remove_all ds (model_of s).defunct) m w
      → record { revision = s.revision; active = s.active; actives = s.actives; defunct = m ++ drop s.defuncts s.defunct; defuncts = w } ≡ with_entries s (remove_all ds (model_of s).defunct)
  shed_state ds m w h = λ j. record { revision = s.revision; active = s.active; actives = s.actives; defunct = places j; defuncts = h.1 j }
    where
      l : List DefunctLock
      l = remove_all ds (model_of s).defunct

      few : length l ≤ s.defuncts
      few = omega (arith, remove_all_le ds (model_of s).defunct, defunct_count s r.tidy)

      rest : drop s.defuncts s.defunct ≡ replicate (128 - s.defuncts) blank_defunct
      rest = ap (drop s.defuncts) (sym (defunct_in_lem s r.tidy)) ∙ drop_at (model_of s).defunct (replicate (128 - length (model_of s).defunct) blank_defunct) s.defuncts (defunct_count s r.tidy) ∙ ap (λ (k : ℕ). replicate (128 - k) blank_defunct) (defunct_count s r.tidy)

      sum : s.defuncts - length l + (128 - s.defuncts) ≡ 128 - length l
      sum = omega (arith, few, r.tidy.defunct)

      places : m ++ drop s.defuncts s.defunct ≡ in_places 128 blank_defunct l
      places =
          ap (λ (x : List DefunctLock). x ++ drop s.defuncts s.defunct) (h.0 ∙ ap (λ (k : ℕ). in_places k blank_defunct l) (defunct_count s r.tidy))
          ∙ ap (λ (x : List DefunctLock). in_places s.defuncts blank_defunct l ++ x) rest
          ∙ append_assoc l (replicate (s.defuncts - length l) blank_defunct) (replicate (128 - s.defuncts) blank_defunct)
          ∙ ap (λ (x : List DefunctLock). l ++ x) (replicate-append-replicate (s.defuncts - length l) (128 - s.defuncts) blank_defunct ∙ ap (λ (k : ℕ). replicate k blank_defunct) sum)
