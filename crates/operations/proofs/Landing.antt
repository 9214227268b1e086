-- Defunct entries that go in a single pass. An entry that stays follows the targets of those that go until one isn't among
-- them, and takes over the last one's target and holder: where no walk meets an id twice, that is what the removals one
-- after the other leave of it.
-- Assumes nothing.
use mathlib.Core.Bool.{Bool, true, false, cond, not}
use mathlib.Core.List.Memᴰ
use mathlib.Core.List.{List, [], ◌∷◌, ◌++◌, map}
use mathlib.Core.Logic.{inl, inr}
use Rattle.std.specs.Prelude.{Option, None, Some}
use Rattle.lists.proofs.Options.{None_ne_Some, Some_injective}
use mathlib.Core.Path.{◌≡◌, refl, sym, ap, ◌∙◌, subst}
use Prim.Native.Nat.{ℕ, zero, suc, ◌+◌, ◌-◌, ◌≤◌, ◌<◌}
use native.Mathlib.Omega.{arith}
use native.Mathlib.Decide.{ℕ_discrete}
use lib.Dec.{eqb, leb, ltb}
use Rattle.std.proofs.lemmas.Bool.{cases_lt}
use lib.ListN.{length, get_or, take, length-map}
use lib.Seq.{ext_get_or, take-suc, take-length, length-take-le}
use borrow.Author.Tests.{eqb-true, eq-eqb, ne_eqb, lt-ltb, le-ltb}
use Rattle.std.specs.Prelude.{position}
use Rattle.std.specs.List.{position_or_len}
use Rattle.std.specs.Option.{unwrap_or}
use Rattle.lists.specs.Tests.{◌and◌, Yes}
use Rattle.lists.specs.Lists.{Mem, from, ascending}
use Rattle.lists.proofs.Tests.{against, non_yes}
use Rattle.lists.proofs.Lists.{find→, →any, find_none→, find_miss, find_cases, find_key}
use Rattle.lists.proofs.Places.{mem_at}
use Rattle.ids.specs.declared.LockId.{LockId}
use Rattle.ids.specs.Order.{key}
use Rattle.state.specs.declared.DefunctLock.{DefunctLock}
use Rattle.state.specs.declared.Lock.{Lock}
use Rattle.state.specs.Locks.{dkey, blank_defunct}
use Rattle.rules.specs.Code.{keyed}
use Rattle.rules.specs.Rules.{find_d, has_d, Meets, here, on, NoRing, rule9}
use Rattle.rules.proofs.Ends.{Ends, done, step, leaves, leaves_all, ends_anywhere}
use Rattle.rules.proofs.Meeting.{ring_free}
use Rattle.operations.specs.Defuncts.{redirect, remove_all}
use Rattle.operations.specs.Code.{flagged, unflagged, took_over, hand_step, hand_on, entry_at, last_from, handed_on, landed, Led, left_by, gone_key}
use Rattle.operations.specs.declared.defuncts.Gone.{Gone}
use Rattle.operations.proofs.Putting.{place_or_end}
use Rattle.operations.proofs.Flags.{flag_yes, flag_no}
use Rattle.operations.proofs.Leaving.{redirect_yes, redirect_no, hand_long, hand_all}

-- ---- the walk of an entry through the list of those that go: what it is at the end
data Walk (gone : List DefunctLock) : DefunctLock → DefunctLock → Type 0 where
  stop : {d : DefunctLock} → find_d gone (key d.target) ≡ None → Walk gone d d
  turn : {d e r : DefunctLock} → find_d gone (key d.target) ≡ Some e → Walk gone (took_over e d) r → Walk gone d r

walk_lock : {gone : List DefunctLock} {d r : DefunctLock} → Walk gone d r → r.lock ≡ d.lock
walk_lock (stop e) = refl
walk_lock (turn e w) = walk_lock w

-- ---- one more goes
module _ (x : DefunctLock) where
  found_more : (gone : List DefunctLock) (k : ℕ) {e : DefunctLock} → find_d gone k ≡ Some e → find_d (gone ++ (x ∷ [])) k ≡ Some e
  found_more [] k {e} f = absurd (None_ne_Some e f)
  found_more (y ∷ ys) k {e} f = go (eqb (dkey y) k) f (λ q. found_more ys k q)
    where
      go : (b : Bool) → cond b (Some y) (find_d ys k) ≡ Some e → (find_d ys k ≡ Some e → find_d (ys ++ (x ∷ [])) k ≡ Some e) → cond b (Some y) (find_d (ys ++ (x ∷ [])) k) ≡ Some e
      go true q ih = q
      go false q ih = ih q

  -- not among the others: it is the new one, or none
  found_last : (gone : List DefunctLock) (k : ℕ) → find_d gone k ≡ None → find_d (gone ++ (x ∷ [])) k ≡ find_d (x ∷ []) k
  found_last [] k f = refl
  found_last (y ∷ ys) k f = go (eqb (dkey y) k) f (λ q. found_last ys k q)
    where
      go : (b : Bool) → cond b (Some y) (find_d ys k) ≡ None → (find_d ys k ≡ None → find_d (ys ++ (x ∷ [])) k ≡ find_d (x ∷ []) k) → cond b (Some y) (find_d (ys ++ (x ∷ [])) k) ≡ find_d (x ∷ []) k
      go true q ih = absurd (None_ne_Some y (sym q))
      go false q ih = ih q

  module _ (gone : List DefunctLock) where
    abbrev more : List DefunctLock
    more = gone ++ (x ∷ [])

    found_new : (k : ℕ) → find_d gone k ≡ None → k ≡ dkey x → find_d more k ≡ Some x
    found_new k f q = found_last gone k f ∙ rw (eq-eqb (dkey x) k (sym q))

    found_none : (k : ℕ) → find_d gone k ≡ None → (k ≡ dkey x → ⊥) → find_d more k ≡ None
    found_none k f q = found_last gone k f ∙ rw (ne_eqb (dkey x) k (λ e. q (sym e)))

    -- a walk that ends elsewhere is as it was
    walk_same : {d r : DefunctLock} → Walk gone d r → (key r.target ≡ dkey x → ⊥) → Walk more d r
    walk_same (stop {d = d} e) q = stop (found_none (key d.target) e q)
    walk_same (turn {d = d} e w) q = turn (found_more gone (key d.target) e) (walk_same w q)

    -- what took over from a goes where a goes
    walk_along : {a r : DefunctLock} (d : DefunctLock) → Walk gone a r → (key r.target ≡ dkey x → ⊥) → Walk more (took_over a d) (took_over r d)
    walk_along d (stop {d = a} e) q = stop (found_none (key a.target) e q)
    walk_along d (turn {d = a} e w) q = turn (found_more gone (key a.target) e) (walk_along d w q)

    -- one that ends at x goes on as x does
    walk_on : {d r y : DefunctLock} → Walk gone d r → key r.target ≡ dkey x → Walk gone x y → (key y.target ≡ dkey x → ⊥) → Walk more d (took_over y r)
    walk_on (stop {d = d} e) h w q = turn (found_new (key d.target) e h) (walk_along d w q)
    walk_on (turn {d = d} e v) h w q = turn (found_more gone (key d.target) e) (walk_on v h w q)

-- ---- those that go are entries of the list
module _ (l : List DefunctLock) (t : Yes (ascending dkey l)) (gone : List DefunctLock) (part : (d : DefunctLock) → Mem d gone → Mem d l) where
  found_in : (k : ℕ) {e : DefunctLock} → find_d gone k ≡ Some e → find_d l k ≡ Some e
  found_in k {e} f = let w = find→ (λ d. eqb (dkey d) k) gone f in find_key dkey l t k (part e w.0) (eqb-true (dkey e) k w.1)

  -- a walk that ends at an entry meets its id
  walk_meets : {d r x : DefunctLock} → Walk gone d r → find_d l (key r.target) ≡ Some x → (ks : List ℕ) × Meets l (key d.target) ks × Mem (key r.target) ks
  walk_meets (stop {d = d} e) f = (key d.target ∷ [], on f here, Memᴰ.head refl)
  walk_meets (turn {d = d} e w) f = let v = walk_meets w f in (key d.target ∷ v.0, on (found_in (key d.target) e) v.1, Memᴰ.tail v.2)

  -- so it doesn't come back to where it began
  no_return : NoRing (record { revision = 0; active = []; defunct = l }) → {x y : DefunctLock} → Mem x l → Walk gone x y → key y.target ≡ dkey x → ⊥
  no_return ring {x} {y} m w q =
      let f : find_d l (dkey x) ≡ Some x = find_key dkey l t (dkey x) m refl in
      let v = walk_meets w (ap (find_d l) q ∙ f) in
      (ring x m (dkey x ∷ v.0) (on f v.1)).0 (subst (λ (k : ℕ). Mem k v.0) q v.2)

  -- and through those that go alone it ends, too
  ends_part : {k : ℕ} → Ends l k → Ends gone k
  ends_part {k} (done f) = done (find_miss (λ d. eqb (dkey d) k) gone (λ d m u. find_none→ (λ d. eqb (dkey d) k) l f (part d m) u))
  ends_part {k} (step {d = d} f r) = elim (find_cases (λ d. eqb (dkey d) k) gone) [
    | inl w ↦ step w.1 (subst (λ (x : DefunctLock). Ends gone (key x.target)) (Some_injective d w.0 (sym f ∙ found_in k w.1)) (ends_part r))
    | inr e ↦ done e
  ]

-- ---- the walk by turns: from d on, which is what took over from `last`, if from any
turned : {gone : List DefunctLock} {d r : DefunctLock} (n : ℕ) → Walk gone d r → Yes (leaves n gone (key d.target)) → (last : Option DefunctLock) (s : DefunctLock) → d ≡ handed_on last s → r ≡ handed_on (last_from n gone (find_d gone (key d.target)) last) s
unfolding last_from leaves
turned zero (stop e) h last s q = q
turned (suc n) (stop e) h last s q = rw e q
turned {gone} zero (turn {d = d} e w) h last s q =
    let f = find→ (λ x. eqb (dkey x) (key d.target)) gone e in
    absurd (against (non_yes (has_d gone (key d.target)) h) (→any (λ x. eqb (dkey x) (key d.target)) f.0 f.1))
turned {gone} (suc n) (turn {d = d} {e = e} f w) h last s q = rw f (turned n w (rw (f, leaves) at h) (Some e) s (ap (took_over e) q ∙ over last))
  where
    over : (o : Option DefunctLock) → took_over e (handed_on o s) ≡ took_over e s
    over None = refl
    over (Some x) = refl

-- ---- the marks up to place i
flagged_part : {A : Type 0} (fs : List Bool) (l : List A) {a : A} → Mem a (flagged fs l) → Mem a l
flagged_part [] l m = absurd (Memᴰ.not-nil m)
flagged_part (b ∷ bs) [] m = absurd (Memᴰ.not-nil m)
flagged_part (true ∷ bs) (x ∷ xs) (Memᴰ.head e) = Memᴰ.head e
flagged_part (true ∷ bs) (x ∷ xs) (Memᴰ.tail m) = Memᴰ.tail (flagged_part bs xs m)
flagged_part (false ∷ bs) (x ∷ xs) m = Memᴰ.tail (flagged_part bs xs m)

at_of : {A B : Type 0} (f : A → B) (l : List A) (j : ℕ) (e : B) (d : A) → j < length l → get_or (map f l) j e ≡ f (get_or l j d)
at_of f [] j e d k = absurd (omega arith)
at_of f (x ∷ xs) zero e d k = refl
at_of f (x ∷ xs) (suc j) e d k = at_of f xs j e d (omega arith)

lt_suc : (a b : ℕ) → ltb (suc a) (suc b) ≡ ltb a b
lt_suc a b = elim (cases_lt a b) [
  | inl u ↦ lt-ltb (suc a) (suc b) (omega arith) ∙ sym (lt-ltb a b u)
  | inr u ↦ le-ltb (suc a) (suc b) (omega arith) ∙ sym (le-ltb a b u)
]

-- the place of a key, and the entry there
same_place : (k : ℕ) (l : List DefunctLock) → position_or_len (keyed gone_key k) (map left_by l) ≡ position_or_len (keyed dkey k) l
same_place k [] = refl
same_place k (d ∷ ds) = ap (λ (n : ℕ). cond (not (eqb (dkey d) k)) (1 + n) 0) (same_place k ds)

entry_found : (k : ℕ) (l : List DefunctLock) → entry_at l (position_or_len (keyed dkey k) l) ≡ find_d l k
entry_found k [] = refl
entry_found k (d ∷ ds) = go (eqb (dkey d) k) (entry_found k ds)
  where
    go : (b : Bool) → entry_at ds (position_or_len (keyed dkey k) ds) ≡ find_d ds k → entry_at (d ∷ ds) (cond (not b) (1 + position_or_len (keyed dkey k) ds) 0) ≡ cond b (Some d) (find_d ds k)
    go true q = rw (lt-ltb 0 (suc (length ds)) (omega arith))
    go false q = let e : 1 + position_or_len (keyed dkey k) ds ≡ suc (position_or_len (keyed dkey k) ds) = omega arith in rw (e, lt_suc (position_or_len (keyed dkey k) ds) (length ds)) q

pub at_map : {A : Type 0} (f : A → A) (l : List A) (j : ℕ) (d : A) → j < length l → get_or (map f l) j d ≡ f (get_or l j d)
at_map f [] j d k = absurd (omega arith)
at_map f (x ∷ xs) zero d k = refl
at_map f (x ∷ xs) (suc j) d k = at_map f xs j d (omega arith)

module _ (goes : List Bool) (l : List DefunctLock) (t : Yes (ascending dkey l)) (nine : rule9 (record { revision = 0; active = []; defunct = l }) ≡ true) where
  abbrev marked : ℕ → List DefunctLock
  marked i = flagged (take i goes) l

  abbrev was : ℕ → DefunctLock
  was j = get_or l j blank_defunct

  abbrev now : ℕ → ℕ → DefunctLock
  now i j = get_or (hand_on goes i l) j blank_defunct

  -- by then each entry has walked through those of them that go
  walked : (i : ℕ) → i ≤ length l → i ≤ length goes → (j : ℕ) → j < length l → Walk (marked i) (was j) (now i j)
  unfolding hand_on
  walked zero h g j k = stop refl
  walked (suc i) h g j k = rw (take-suc goes i false (omega arith)) (go (get_or goes i false) (walked i (omega arith) (omega arith)))
    where
      listed : flagged (take i goes ++ (true ∷ [])) l ≡ marked i ++ (was i ∷ [])
      listed = rw (length-take-le i goes (omega arith)) at (flag_yes (take i goes) l blank_defunct (omega (arith, length-take-le i goes (omega arith))))

      handed : Walk (marked i) (was i) (now i i) → Walk (marked i) (was j) (now i j) → Walk (marked i ++ (was i ∷ [])) (was j) (redirect (now i i) (now i j))
      handed w v =
          let own : dkey (now i i) ≡ dkey (was i) = ap (λ (y : Lock). key y.id) (walk_lock w) in
          let out : (key (now i i).target ≡ dkey (was i) → ⊥) = no_return l t (marked i) (λ d m. flagged_part (take i goes) l m) (ring_free _ nine) (mem_at l i blank_defunct (omega arith)) w in
          elim (ℕ_discrete (key (now i j).target) (dkey (now i i))) [
            | yes q ↦ subst (Walk (marked i ++ (was i ∷ [])) (was j)) (redirect_yes (now i i) (now i j) (eq-eqb (key (now i j).target) (dkey (now i i)) q)) (walk_on (was i) (marked i) v (q ∙ own) w out)
            | no q ↦ subst (Walk (marked i ++ (was i ∷ [])) (was j)) (redirect_no (now i i) (now i j) (ne_eqb (key (now i j).target) (dkey (now i i)) q)) (walk_same (was i) (marked i) v (λ u. q (u ∙ sym own)))
          ]

      go : (b : Bool) → ((j : ℕ) → j < length l → Walk (marked i) (was j) (now i j)) → Walk (flagged (take i goes ++ (b ∷ [])) l) (was j) (get_or (hand_step b i (hand_on goes i l)) j blank_defunct)
      go false ih = rw (flag_no (take i goes) l) (ih j k)
      go true ih = rw (listed, at_map (redirect (now i i)) (hand_on goes i l) j blank_defunct (omega (arith, hand_long goes l i))) (handed (ih i (omega arith)) (ih j k))

  abbrev gone : List DefunctLock
  gone = flagged (take (length l) goes) l

  landed_all : length l ≤ length goes → hand_on goes (length l) l ≡ map (landed gone) l
  unfolding landed
  landed_all h = ext_get_or blank_defunct (hand_on goes (length l) l) (map (landed gone) l) (hand_long goes l (length l) ∙ sym (length-map l (landed gone))) (λ j k.
      let g : j < length l = omega (arith, hand_long goes l (length l)) in
      turned (length gone) (walked (length l) (omega arith) h j g) (leaves_all gone (ends_part l t gone (λ d m. flagged_part (take (length l) goes) l m) (ends_anywhere _ nine (key (get_or l j blank_defunct).target)))) None (get_or l j blank_defunct) refl
      ∙ sym (at_map (landed gone) l j blank_defunct g))

  -- what is left once the marked entries are gone
  pub landing : length l ≤ length goes → unflagged (take (length l) goes) (map (landed gone) l) ≡ remove_all gone l
  landing h = ap (unflagged (take (length l) goes)) (sym (landed_all h)) ∙ hand_all goes l t (length l) (omega arith) h

-- ---- the same by places in columns of those that go
module _ (gone : List DefunctLock) (n : ℕ) (long : length gone ≡ n) where
  here_at : (r : ℕ) → r < n → entry_at gone r ≡ Some (get_or gone r blank_defunct)
  here_at r h = rw (lt-ltb r (length gone) (omega arith))

  pub past_end : (r : ℕ) → n ≤ r → entry_at gone r ≡ None
  past_end r h = rw (le-ltb r (length gone) (omega arith))

module _ (gone : List DefunctLock) (n : ℕ) (next : List ℕ) (c : Led gone n next) where
  pub walk_starts : (first : ℕ) → last_from n gone (entry_at gone first) (entry_at gone n) ≡ last_from n gone (entry_at gone first) None
  walk_starts first = rw (past_end gone n c.long n (omega arith))

  pub walk_turns : (i at last : ℕ) → i < n → at < n → last_from (n - (i + 1)) gone (entry_at gone (get_or next at 0)) (entry_at gone at) ≡ last_from (n - i) gone (entry_at gone at) (entry_at gone last)
  unfolding last_from
  walk_turns i at last h g =
      let m : n - i ≡ suc (n - (i + 1)) = omega arith in
      rw (m, c.at_next at g, here_at gone n c.long at g)

  pub walk_stops : (m at last : ℕ) → n ≤ at → entry_at gone last ≡ last_from m gone (entry_at gone at) (entry_at gone last)
  unfolding last_from
  walk_stops zero at last h = refl
  walk_stops (suc m) at last h = rw (past_end gone n c.long at h)

  pub walk_spent : (i at last : ℕ) → n ≤ i → entry_at gone last ≡ last_from (n - i) gone (entry_at gone at) (entry_at gone last)
  unfolding last_from
  walk_spent i at last h = let e : n - i ≡ 0 = omega arith in rw e

-- ---- what those that go leave
module _ (l : List DefunctLock) where
  left_long : length (map left_by l) ≡ length l
  left_long = length-map l left_by

  pub left_at : (i : ℕ) (g : Gone) → i < length l → get_or (map left_by l) i g ≡ left_by (get_or l i blank_defunct)
  left_at i g h = at_of left_by l i g blank_defunct h

  -- the place of an id among them, as it is found, and the entry there
  pub found_place : (k r : ℕ) (o : Option ℕ) → o ≡ position (keyed gone_key k) (map left_by l) → r ≡ unwrap_or o (length (map left_by l)) → entry_at l r ≡ find_d l k
  found_place k r o e f =
      ap (entry_at l) (f ∙ ap (λ (x : Option ℕ). unwrap_or x (length (map left_by l))) e ∙ place_or_end (keyed gone_key k) (map left_by l) ∙ same_place k l) ∙ entry_found k l

left_order : (b : ℕ) (l : List DefunctLock) → from gone_key b (map left_by l) ≡ from dkey b l
left_order b [] = refl
left_order b (d ∷ ds) = ap (λ (t : Bool). leb b (dkey d) and t) (left_order (suc (dkey d)) ds)

pub left_ascend : (l : List DefunctLock) → Yes (ascending dkey l) → ascending gone_key (map left_by l) ≡ true
left_ascend l t = left_order 0 l ∙ t

module _ (l : List DefunctLock) (gone : List Gone) (e : gone ≡ map left_by l) where
  pub gone_count : length gone ≡ length l
  gone_count = ap length e ∙ length-map l left_by

  pub gone_at : (i : ℕ) (g : Gone) → i < length gone → get_or gone i g ≡ left_by (get_or l i blank_defunct)
  gone_at i g h = ap (λ (m : List Gone). get_or m i g) e ∙ left_at l i g (omega (arith, gone_count))

  -- an id among them, as it is looked for
  pub sought : Yes (ascending dkey l) → (k : ℕ) (o : Option ℕ) → (ascending gone_key gone ≡ true → o ≡ position (keyed gone_key k) gone) → (r : ℕ) → r ≡ unwrap_or o (length gone) → entry_at l r ≡ find_d l k
  sought t k o f r q = found_place l k r o (rw e at (f (rw e (left_ascend l t)))) (rw e at q)

  -- where a walk ends that begins at the place of an id
  pub walk_end : (next : List ℕ) → Led l (length l) next → (k first i : ℕ) → ((m : List DefunctLock) → Led m (length gone) next → entry_at m k ≡ last_from (length gone) m (entry_at m first) None) → entry_at l first ≡ find_d l i → entry_at l k ≡ last_from (length l) l (find_d l i) None
  walk_end next c k first i f q =
      subst (λ (n : ℕ). entry_at l k ≡ last_from n l (entry_at l first) None) gone_count (f l (subst (λ (n : ℕ). Led l n next) (sym gone_count) c))
      ∙ ap (λ (x : Option DefunctLock). last_from (length l) l x None) q

module _ (gone : List DefunctLock) (d : DefunctLock) (k : ℕ) (e : entry_at gone k ≡ last_from (length gone) gone (find_d gone (key d.target)) None) where
  last_is : (o : Option DefunctLock) → entry_at gone k ≡ o → handed_on o d ≡ landed gone d
  unfolding landed
  last_is o f = ap (λ (x : Option DefunctLock). handed_on x d) (sym f ∙ e)

  pub lands_here : length gone ≤ k → d ≡ landed gone d
  lands_here h = last_is None (past_end gone (length gone) refl k h)

  pub lands_there : k < length gone → (g : Gone) → g ≡ left_by (get_or gone k blank_defunct) → record { lock = d.lock; target = g.target; expires = d.expires; broken = d.broken; breaker = d.breaker; holder = g.holder } ≡ landed gone d
  lands_there h g f = rw f (last_is (Some (get_or gone k blank_defunct)) (here_at gone (length gone) refl k h))
