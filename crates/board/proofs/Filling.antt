-- What the loops over a board keep: an entry turned, those of a coverage turned one after the other, the locks put in from the last
-- to the first. Assumes nothing.
use Rattle.std.proofs.Common.{◌≡◌, ℕ, suc, ◌+◌, ◌*◌, ◌<◌, ◌≤◌, Bool, cond, ltb, List, [], ◌∷◌, ◌++◌, length, get_or, take, drop, set, sym, refl, ap, ◌∙◌, subst, ap₂, mod-eq_of_lt, add-one, arith, length-drop, length-set, drop_of_length-le, get_or-drop, drop-cons, get_or-take, ltb-false, ltb-true, le-ltb, lt-ltb, le-leb}
use native.Mathlib.Decide.{ℕ_discrete}
use Rattle.std.specs.Prelude.{Option, None, Some, unwrap_or}
use lib.Seq.{set_split, append_snoc}
use Rattle.lists.specs.Tests.{◌and◌, Yes, No}
use Rattle.lists.specs.Lists.{filter}
use Rattle.lists.proofs.Tests.{by, cond_true, cond_false, cond_both, and_t, and_f, and_i, and_comm}
use Rattle.lists.proofs.Lists.{filter_le}
use Rattle.ids.specs.declared.LockId.{LockId}
use Rattle.ids.specs.Order.{no_id}
use Rattle.coverage.specs.declared.LockCoverage.{LockCoverage}
use Rattle.coverage.specs.Coverage.{covers}
use Rattle.state.specs.declared.ActiveLock.{ActiveLock}
use Rattle.records.specs.Numbers.{splice, stored}
use Rattle.records.specs.Wire.{id_bytes}
use Rattle.records.proofs.Numbers.{splice_splice, length_splice}
use Rattle.records.proofs.Runs.{length_id}
use Rattle.board.specs.Board.{on, count_on, lowest_on, entry_of, entry_at, refreshed}
use Rattle.board.specs.Code.{Covers, EmptyIn, Next, count_after, turned, touched}
use Rattle.board.proofs.Rows.{made_by, by_same, size_by, entry_by, size_at, stored_here, stored_off}

-- ---- one entry: its count, then its id
set_one : (b : List ℕ) (at v : ℕ) → at < length b → set b at v ≡ splice b at (v ∷ [])
unfolding splice
set_one b at v h = set_split b at v h ∙ sym (append_snoc (take at b) v (drop (suc at) b)) ∙ ap (λ (n : ℕ). take at b ++ (v ∷ []) ++ drop n b) (sym (add-one at))

pub entry_put : (b : List ℕ) (at v : ℕ) (id : LockId) → at + 17 ≤ length b → stored (set b at v) (at + 1) (id_bytes id) ≡ splice b at (v ∷ id_bytes id)
unfolding stored
entry_put b at v id h =
    cond_true _ _ _ (le-leb (at + 1 + length (id_bytes id)) (length (set b at v)) (omega (arith, length_id id, length-set b at v)))
    ∙ ap (λ (s : List ℕ). splice s (at + 1) (id_bytes id)) (set_one b at v (omega arith))
    ∙ splice_splice b at 1 (v ∷ []) (id_bytes id) refl (omega (arith, length_id id))

pub count_at : (b : List ℕ) (e : ℕ) → get_or b (e * 17) 0 ≡ get_or (entry_at b e) 0 0
count_at b e = sym (get_or-take 17 (drop (e * 17) b) 0 0 (omega arith) ∙ get_or-drop (e * 17) b 0 0 ∙ ap (λ (k : ℕ). get_or b k 0) (let q : e * 17 + 0 ≡ e * 17 = omega arith in q))

pub turn_put : (b : List ℕ) (e v : ℕ) (o : Option LockId) → length b ≡ 4352 → e < 256 → v ≡ count_after o (get_or b (e * 17) 0)
    → stored (set b (e * 17) v) (e * 17 + 1) (id_bytes (unwrap_or o no_id)) ≡ splice b (e * 17) (turned o (entry_at b e))
unfolding turned
turn_put b e v o l h q =
    entry_put b (e * 17) v (unwrap_or o no_id) (omega arith)
    ∙ ap (λ (n : ℕ). splice b (e * 17) (n ∷ id_bytes (unwrap_or o no_id))) (q ∙ ap (count_after o) (count_at b e))

pub size_turned : (o : Option LockId) (old : List ℕ) → length (turned o old) ≡ 17
unfolding turned
size_turned o old = ap suc (length_id (unwrap_or o no_id))

pub size_put : (b : List ℕ) (e : ℕ) (o : Option LockId) → length b ≡ 4352 → e < 256 → length (splice b (e * 17) (turned o (entry_at b e))) ≡ length b
size_put b e o l h = length_splice b (e * 17) (turned o (entry_at b e)) (omega (arith, size_turned o (entry_at b e)))

-- ---- the entries of a coverage, up to the ECU e
module _ (p : ℕ → Bool) (o : Option LockId) (b : List ℕ) where
  abbrev turn : ℕ → List ℕ
  turn k = turned o (entry_at b k)

  pub record Turning (board : List ℕ) (e : ℕ) : Type 0 where
    pub size : length board ≡ 4352
    pub most : e ≤ 256
    pub here : e < 256 → Yes (p e)
    pub entries : (k : ℕ) → k < 256 → entry_at board k ≡ cond (ltb k e and p k) (turn k) (entry_at b k)

  -- a number that was passed over, or not yet reached, keeps its entry
  off : (e k : ℕ) → No (ltb k e and p k) → cond (ltb k e and p k) (turn k) (entry_at b k) ≡ entry_at b k
  off e k n = cond_false _ _ _ n

  pub turning_starts : (e : ℕ) → length b ≡ 4352 → Next p 0 e → Turning b e
  turning_starts e l n =
      record {
        size = l;
        most = n.most;
        here = n.here;
        entries = λ k h. sym (by (ltb k e) (cond (ltb k e and p k) (turn k) (entry_at b k) ≡ entry_at b k)
            (λ t. off e k (and_comm (ltb k e) (p k) ∙ and_f (p k) (ltb k e) (n.passed k (omega arith) (ltb-true k e t))))
            (λ t. off e k (and_f (ltb k e) (p k) t)));
      }

  pub turning_turns : (board board' : List ℕ) (e e' : ℕ) → Turning board e → e < 256 → board' ≡ splice board (e * 17) (turned o (entry_at board e)) → Next p (e + 1) e' → Turning board' e'
  turning_turns board board' e e' g h q n =
      record {
        size = ap length q ∙ size_put board e o g.size h ∙ g.size;
        most = n.most;
        here = n.here;
        entries = λ k l. ap (λ (s : List ℕ). entry_at s k) q ∙ elim (ℕ_discrete k e) [ yes z ↦ here k z | no z ↦ stored_off board x e g.size h w k z ∙ g.entries k l ∙ same k z ];
      }
    where
      x : List ℕ
      x = turned o (entry_at board e)

      w : length x ≡ 17
      w = size_turned o (entry_at board e)

      was : entry_at board e ≡ entry_at b e
      was = g.entries e h ∙ off e e (and_f (ltb e e) (p e) (le-ltb e e (omega arith)))

      now_turned : entry_at (splice board (e * 17) x) e ≡ cond (ltb e e' and p e) (turn e) (entry_at b e)
      now_turned = stored_here board x e g.size h w ∙ ap (turned o) was ∙ sym (cond_true _ _ _ (and_i (ltb e e') (p e) (lt-ltb e e' (omega (arith, n.after))) (g.here h)))

      here : (k : ℕ) → k ≡ e → entry_at (splice board (e * 17) x) k ≡ cond (ltb k e' and p k) (turn k) (entry_at b k)
      here k z = subst (λ (j : ℕ). entry_at (splice board (e * 17) x) j ≡ cond (ltb j e' and p j) (turn j) (entry_at b j)) (sym z) now_turned

      beyond : (k : ℕ) → e + 1 ≤ k → No (ltb k e' and p k)
      beyond k z = by (ltb k e') (No (ltb k e' and p k)) (λ t. and_comm (ltb k e') (p k) ∙ and_f (p k) (ltb k e') (n.passed k z (ltb-true k e' t))) (λ t. and_f (ltb k e') (p k) t)

      same : (k : ℕ) → (k ≡ e → ⊥) → cond (ltb k e and p k) (turn k) (entry_at b k) ≡ cond (ltb k e' and p k) (turn k) (entry_at b k)
      same k z =
          by (ltb k e) (cond (ltb k e and p k) (turn k) (entry_at b k) ≡ cond (ltb k e' and p k) (turn k) (entry_at b k))
          (λ t. ap (λ (y : Bool). cond (y and p k) (turn k) (entry_at b k)) (t ∙ sym (lt-ltb k e' (let q = ltb-true k e t in omega (arith, n.after)))))
          (λ t. off e k (and_f (ltb k e) (p k) t) ∙ sym (off e' k (beyond k (let q = ltb-false k e t in omega arith))))

  pub turning_ends : (board : List ℕ) (e : ℕ) → Turning board e → 256 ≤ e → board ≡ touched p o b
  unfolding touched
  turning_ends board e g h = made_by board _ g.size (λ k l. g.entries k l ∙ ap (λ (t : Bool). cond t (turn k) (entry_at b k)) (and_t (ltb k e) (p k) (lt-ltb k e (omega arith))))

  -- the entries afterwards
  module _ (l : length b ≡ 4352) where
    row_size : (k : ℕ) → k < 256 → length (cond (p k) (turn k) (entry_at b k)) ≡ 17
    row_size k h = cond_both (λ (s : List ℕ). length s ≡ 17) (turn k) (entry_at b k) (p k) (λ t. size_turned o (entry_at b k)) (λ t. size_at b k l h)

    pub size_touched : length (touched p o b) ≡ 4352
    unfolding touched
    size_touched = size_by (λ k. cond (p k) (turn k) (entry_at b k)) row_size

    pub touched_at : (k : ℕ) → k < 256 → entry_at (touched p o b) k ≡ cond (p k) (turn k) (entry_at b k)
    unfolding touched
    touched_at k h = entry_by (λ k. cond (p k) (turn k) (entry_at b k)) row_size k h

-- emptied, and then worked out: what was there is gone, and the others stay
pub emptied : (c : LockCoverage) (b : List ℕ) → length b ≡ 4352 → EmptyIn c (touched (covers c) None b)
unfolding turned entry_of count_on lowest_on
emptied c b l e h t = touched_at (covers c) None b l e h ∙ cond_true _ _ _ t

pub refreshed_again : (p : ℕ → Bool) (o : Option LockId) (l : List ActiveLock) (b : List ℕ) → length b ≡ 4352 → refreshed p l (touched p o b) ≡ refreshed p l b
unfolding refreshed
refreshed_again p o l b s =
    by_same _ _ (λ e h. by (p e) (cond (p e) (entry_of l e) (entry_at (touched p o b) e) ≡ cond (p e) (entry_of l e) (entry_at b e))
    (λ t. cond_true _ _ _ t ∙ sym (cond_true _ _ _ t))
    (λ t. ap (λ (r : List ℕ). cond (p e) (entry_of l e) r) (touched_at p o b s e h ∙ cond_false _ _ _ t)))

-- ---- a lock put in before the others
entry_yes : (x : ActiveLock) (l : List ActiveLock) (e : ℕ) → length l < 255 → Yes (on e x) → entry_of (x ∷ l) e ≡ turned (Some x.lock.id) (entry_of l e)
unfolding entry_of count_on lowest_on turned
entry_yes x l e h t = rw t (ap (λ (n : ℕ). n ∷ id_bytes x.lock.id) (let q : suc (length (filter (on e) l)) ≡ length (filter (on e) l) + 1 = omega arith in q ∙ sym (mod-eq_of_lt (omega (arith, filter_le (on e) l)))))

entry_no : (x : ActiveLock) (l : List ActiveLock) (e : ℕ) → No (on e x) → entry_of (x ∷ l) e ≡ entry_of l e
unfolding entry_of count_on lowest_on
entry_no x l e t = rw t

-- the locks from the i-th on are in
module _ (c : LockCoverage) (b : List ℕ) (l : List ActiveLock) where
  pub record Filling (board : List ℕ) (i : ℕ) : Type 0 where
    pub most : i ≤ length l
    pub size : length board ≡ 4352
    pub entries : (k : ℕ) → k < 256 → entry_at board k ≡ cond (covers c k) (entry_of (drop i l) k) (entry_at b k)

  pub filling_starts : (i : ℕ) → i ≡ length l → length b ≡ 4352 → EmptyIn c b → Filling b i
  filling_starts i q s z =
      record {
        most = omega arith;
        size = s;
        entries = λ k h. sym (cond_both (λ (r : List ℕ). r ≡ entry_at b k) (entry_of (drop i l) k) (entry_at b k) (covers c k) (λ t. ap (λ (m : List ActiveLock). entry_of m k) none_left ∙ sym (z k h t)) (λ t. refl));
      }
    where
      none_left : drop i l ≡ []
      none_left = drop_of_length-le l {i = i} (omega arith)

  pub filling_turns : (d x : ActiveLock) (board board' : List ℕ) (i j : ℕ) (r : LockCoverage) → get_or l j d ≡ x → Filling board i → length l < 255 → j + 1 ≡ i → Covers r (λ e. covers c e and covers x.lock.coverage e)
      → board' ≡ touched (covers r) (Some x.lock.id) board → Filling board' j
  unfolding on
  filling_turns d x board board' i j r z g m q v u =
      record { most = omega (arith, g.most); size = ap length u ∙ size_touched (covers r) (Some x.lock.id) board g.size; entries = λ k h. ap (λ (s : List ℕ). entry_at s k) u ∙ touched_at (covers r) (Some x.lock.id) board g.size k h ∙ entry k h }
    where
      next : drop j l ≡ x ∷ drop i l
      next = drop-cons l j d (omega (arith, g.most)) ∙ ap₂ (λ (y : ActiveLock) (n : ℕ). y ∷ drop n l) z (let e : suc j ≡ i = omega arith in e)

      put : ℕ → List ℕ
      put k = turned (Some x.lock.id) (entry_at board k)

      short : length (drop i l) < 255
      short = omega (arith, length-drop i l)

      inside : (k : ℕ) → k < 256 → Yes (covers c k) → cond (covers r k) (put k) (entry_at board k) ≡ entry_of (drop j l) k
      inside k h t =
          let was : entry_at board k ≡ entry_of (drop i l) k = g.entries k h ∙ cond_true _ _ _ t in
          let hits : covers r k ≡ on k x = v k ∙ and_t (covers c k) (on k x) t in
          ap (λ (y : Bool). cond y (put k) (entry_at board k)) hits
          ∙ cond_both (λ (s : List ℕ). s ≡ entry_of (x ∷ drop i l) k) (put k) (entry_at board k) (on k x)
          (λ y. ap (turned (Some x.lock.id)) was ∙ sym (entry_yes x (drop i l) k short y)) (λ y. was ∙ sym (entry_no x (drop i l) k y))
          ∙ ap (λ (m : List ActiveLock). entry_of m k) (sym next)

      outside : (k : ℕ) → k < 256 → No (covers c k) → cond (covers r k) (put k) (entry_at board k) ≡ entry_at b k
      outside k h t = cond_false _ _ _ (v k ∙ and_f (covers c k) (on k x) t) ∙ g.entries k h ∙ cond_false _ _ _ t

      entry : (k : ℕ) → k < 256 → cond (covers r k) (put k) (entry_at board k) ≡ cond (covers c k) (entry_of (drop j l) k) (entry_at b k)
      entry k h =
          by (covers c k) (cond (covers r k) (put k) (entry_at board k) ≡ cond (covers c k) (entry_of (drop j l) k) (entry_at b k))
          (λ t. inside k h t ∙ sym (cond_true _ _ _ t)) (λ t. outside k h t ∙ sym (cond_false _ _ _ t))

  pub filling_ends : (board : List ℕ) (i : ℕ) → Filling board i → i ≡ 0 → board ≡ refreshed (covers c) l b
  unfolding refreshed
  filling_ends board i g z = let f = subst (Filling board) z g in made_by board _ f.size f.entries
