-- What the code's calls come to: the ECUs of the locks that came or went as one coverage, and the board worked out over it.
-- Assumes nothing.
use Rattle.std.proofs.Common.{◌≡◌, ℕ, zero, suc, ◌+◌, ◌-◌, ◌*◌, ◌/◌, ◌%◌, ◌<◌, ◌≤◌, Bool, false, cond, ltb, List, [], ◌∷◌, ◌++◌, length, get_or, take, replicate, sym, refl, ap, ◌∙◌, ap₂, arith, take_all, take_at, drop_at, ltb-false, ltb-true, eq-eqb, ne_eqb}
use lib.Pointwise.{pointwise}
use lib.Dec.{eqb}
use Prim.Native.Nat.{min}
use Rattle.std.proofs.lemmas.List.{length-take}
use Rattle.lists.specs.Tests.{◌and◌}
use Rattle.lists.proofs.Tests.{by, and_code}
use Rattle.names.specs.Bytes.{same_bytes}
use lib.ListN.{length-replicate, replicate-append-replicate}
use Rattle.lists.specs.Tests.{◌or◌, Yes}
use Rattle.lists.specs.Lists.{any}
use Rattle.lists.proofs.Tests.{cond_true, cond_false, or_f, or_comm, or_assoc}
use Rattle.lists.proofs.Loops.{more}
use Rattle.bits.specs.Bits.{bit_at}
use Rattle.bits.proofs.Bits.{bit_of_zero}
use Rattle.coverage.specs.declared.LockCoverage.{LockCoverage}
use Rattle.coverage.specs.Coverage.{no_coverage, whole_vehicle, word_of, in_set, covers}
use Rattle.state.specs.declared.ActiveLock.{ActiveLock}
use Rattle.state.specs.declared.LockState.{LockState}
use Rattle.state.specs.Model.{model_of}
use Rattle.records.specs.declared.requests.Request.{Request}
use Rattle.records.specs.Numbers.{part, bytes_of, digits}
use Rattle.board.specs.Board.{on, entry_of, board_of, count_on, lowest_on, brings, arrived, moved, entry_at, refreshed, updated}
use Rattle.board.specs.Code.{Covers, EmptyIn}
use Rattle.board.proofs.Rows.{by_same}

-- ---- one lock, and none
pub one_on : (x : ActiveLock) → Covers x.lock.coverage (λ e. any (on e) (x ∷ []))
unfolding on
one_on x e = sym (or_comm (covers x.lock.coverage e) false ∙ or_f false (covers x.lock.coverage e) refl)

pub none_on : Covers no_coverage (λ e. any (on e) [])
unfolding covers in_set word_of ◌or◌
none_on e = go (e / 64)
  where
    go : (i : ℕ) → bit_at (word_of no_coverage i) (e % 64) ≡ false
    go zero = bit_of_zero (e % 64)
    go (suc zero) = bit_of_zero (e % 64)
    go (suc (suc zero)) = bit_of_zero (e % 64)
    go (suc (suc (suc i))) = bit_of_zero (e % 64)

-- ---- what came: where the answer's number is 0
module _ (r : Request) (n : ℕ) (c : LockCoverage) where
  pub came_yes : n ≡ 0 → Covers c (λ e. any (on e) (brings r)) → Covers c (λ e. any (on e) (arrived r n))
  came_yes q h e = h e ∙ ap (any (on e)) (sym (cond_true _ _ _ (eq-eqb n 0 q)))

  pub came_no : (n ≡ 0 → ⊥) → c ≡ no_coverage → Covers c (λ e. any (on e) (arrived r n))
  came_no q z e = ap (λ (d : LockCoverage). covers d e) z ∙ none_on e ∙ ap (any (on e)) (sym (cond_false _ _ _ (ne_eqb n 0 q)))

-- ---- what went: one more
any_append : (p : ActiveLock → Bool) (l m : List ActiveLock) → any p (l ++ m) ≡ (any p l or any p m)
unfolding ◌or◌
any_append p [] m = refl
any_append p (y ∷ l) m = ap (λ (t : Bool). p y or t) (any_append p l m) ∙ sym (or_assoc (p y) (any p l) (any p m))

module _ (c : LockCoverage) (removed : List ActiveLock) where
  pub none_went : Covers c (λ e. covers c e or any (on e) (take 0 removed))
  none_went e = sym (or_comm (covers c e) false ∙ or_f false (covers c e) refl)

  pub went_more : (d : ActiveLock) (all all' : LockCoverage) (i : ℕ) → i < length removed → Covers all (λ e. covers c e or any (on e) (take i removed))
      → Covers all' (λ e. covers all e or covers (get_or removed i d).lock.coverage e) → Covers all' (λ e. covers c e or any (on e) (take (i + 1) removed))
  went_more d all all' i h g v e =
      v e ∙ ap₂ ◌or◌ (g e) (one_on (get_or removed i d) e)
      ∙ or_assoc (covers c e) (any (on e) (take i removed)) (any (on e) (get_or removed i d ∷ []))
      ∙ ap (λ (t : Bool). covers c e or t) (sym (ap (any (on e)) (more removed i d h) ∙ any_append (on e) (take i removed) (get_or removed i d ∷ [])))

-- ---- the board over a coverage, over the locks
pub followed : (c : LockCoverage) (r : Request) (n : ℕ) (went l : List ActiveLock) (b : List ℕ) → Covers c (λ e. any (on e) (arrived r n) or any (on e) went) → refreshed (covers c) l b ≡ updated (arrived r n ++ went) l b
unfolding updated refreshed
followed c r n went l b h = by_same _ _ (λ e k. ap (λ (t : Bool). cond t (entry_of l e) (entry_at b e)) (h e ∙ sym (any_append (on e) (arrived r n) went)))

-- ---- a whole board
all_on : (e : ℕ) → Yes (covers whole_vehicle e)
unfolding covers ◌or◌
all_on e = refl

pub whole_board : (c : LockCoverage) → c ≡ whole_vehicle → (l : List ActiveLock) (b : List ℕ) → refreshed (covers c) l b ≡ board_of l
unfolding refreshed
whole_board c q l b = by_same _ _ (λ e k. cond_true _ _ _ (ap (λ (d : LockCoverage). covers d e) q ∙ all_on e))

-- ---- a buffer of zeros is the board of no locks
part_of_one : (at k m x : ℕ) → part (replicate (at + (k + m)) x) at k ≡ replicate k x
part_of_one at k m x =
    ap (λ (l : List ℕ). part l at k) (sym (replicate-append-replicate at (k + m) x) ∙ ap (λ (l : List ℕ). replicate at x ++ l) (sym (replicate-append-replicate k m x)))
    ∙ ap (take k) (drop_at (replicate at x) (replicate k x ++ replicate m x) at (length-replicate at x))
    ∙ take_at (replicate k x) (replicate m x) k (length-replicate k x)

no_locks : (e : ℕ) → replicate 17 0 ≡ entry_of [] e
unfolding entry_of count_on lowest_on bytes_of digits
no_locks e = refl

pub zeros_empty : (c : LockCoverage) (n : ℕ) → n ≡ 4352 → EmptyIn c (replicate n 0)
zeros_empty c n q e h t =
    let k : n ≡ e * 17 + (17 + (4352 - (e * 17 + 17))) = omega arith in
    ap (λ (j : ℕ). entry_at (replicate j 0) e) k ∙ part_of_one (e * 17) 17 (4352 - (e * 17 + 17)) 0 ∙ no_locks e

-- ---- slices of the same bytes, as the library compares them
pub same_listed : (a b : List ℕ) → pointwise eqb a b ≡ same_bytes a b
unfolding same_bytes
same_listed [] [] = refl
same_listed [] (y ∷ b) = refl
same_listed (x ∷ a) [] = refl
same_listed (x ∷ a) (y ∷ b) = and_code (eqb x y) (pointwise eqb a b) ∙ ap (λ (t : Bool). eqb x y and t) (same_listed a b)

-- no more active locks than there are places
pub actives_most : (s : LockState) (l : List ActiveLock) → length s.active ≡ 64 → l ≡ (model_of s).active → length l ≤ 64
actives_most s l h e = omega (arith, ap length e, length-take s.actives s.active)

-- the locks that came or went: a count past the array's end counts as its end
pub all_moved : (r : Request) (n gone : ℕ) (removed : List ActiveLock) → length removed ≡ 64 → arrived r n ++ take (min gone 64) removed ≡ moved r n gone removed
unfolding moved
all_moved r n gone removed h = ap (λ (l : List ActiveLock). arrived r n ++ l) (by (ltb 64 gone) (take (min gone 64) removed ≡ take gone removed)
    (λ t. let g = ltb-true 64 gone t in take_all (min gone 64) removed (omega arith) ∙ sym (take_all gone removed (omega arith)))
    (λ f. let g = ltb-false 64 gone f in let z : min gone 64 ≡ gone = omega arith in ap (λ (k : ℕ). take k removed) z))

-- .. in a board that follows them: n and m are the answer's number, k how many went
pub follow_moved : (r : Request) (n m gone k : ℕ) (removed l active : List ActiveLock) (b b' : List ℕ) → length removed ≡ 64 → k ≡ min gone 64 → m ≡ n → l ≡ active
    → b' ≡ updated (arrived r m ++ take k removed) l b → b' ≡ updated (moved r n gone removed) active b
follow_moved r n m gone k removed l active b b' h p q u e =
    e ∙ ap₂ (λ (cs ls : List ActiveLock). updated cs ls b) (ap₂ (λ (j i : ℕ). arrived r j ++ take i removed) q p ∙ all_moved r n gone removed h) u
