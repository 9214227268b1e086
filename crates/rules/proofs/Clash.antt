-- Rule 8: two locks that clash, and the set that all non-vehicle locks so far are in. Assumes nothing.
use mathlib.Core.Path.{◌≡◌, refl, sym, ap, ◌∙◌, subst}
use mathlib.Core.Bool.{Bool, true, false, not, ◌&&◌, false≢true}
use mathlib.Core.List.{List, []}
use mathlib.Core.Logic.{◌⊎◌, inl, inr}
use Prim.Native.Nat.{ℕ, zero, suc, ◌+◌, ◌/◌, ◌%◌, ◌<◌}
use borrow.Author.Tests.{eq-eqb, eqb-true}
use lib.Dec.{eqb}
use lib.Bits.{bit_or}
use lib.ListN.{length, get_or, take}
use Rattle.std.specs.List.{list_all}
use Rattle.lists.specs.Tests.{◌and◌, ◌or◌, ◌imp◌, non}
use Rattle.lists.specs.Lists.{all, Mem}
use Rattle.lists.specs.Below.{all_below, any_below}
use Rattle.lists.proofs.Tests.{and_l, and_r, and_i, and_f, or_l, or_r, imp_e, imp_i, →no, against, by, non_t, non_f, and_code, non_code}
use Rattle.lists.proofs.Lists.{→all}
use Rattle.lists.proofs.Std.{all_as}
use Rattle.lists.proofs.Below.{all_of, all_at, any_of, any_at}
use Rattle.bits.specs.Bits.{bit_at}
use Rattle.bits.proofs.Bits.{or_bit}
use Rattle.coverage.specs.declared.LockCoverage.{LockCoverage}
use Rattle.coverage.specs.Coverage.{word_of, in_set, overlap, within}
use Rattle.coverage.proofs.Laws.{overlap_sym, within_trans}
use Rattle.state.specs.declared.Lock.{Lock}
use Rattle.state.specs.declared.ActiveLock.{ActiveLock}
use Rattle.state.specs.Locks.{is_vehicle, blank_active}
use Rattle.rules.specs.Rules.{clash}
use Rattle.rules.specs.Code.{union, Kept}
use Rattle.rules.proofs.Keys.{mem_more}

-- ---- a set that has another's ECUs
-- what meets a part meets the whole
pub overlap_in : (a x y : LockCoverage) → within y a ≡ true → overlap y x ≡ true → overlap a x ≡ true
unfolding within overlap ◌or◌ ◌and◌ non
overlap_in a x y p q = go a.whole y.whole x.whole p q
  where
    meet : LockCoverage → LockCoverage → Bool
    meet u v = any_below 256 (λ e. in_set u e and in_set v e)

    go : (wa wy wx : Bool) → (wa or (non wy and all_below 256 (λ e. in_set y e imp in_set a e))) ≡ true → (wy or wx or meet y x) ≡ true → (wa or wx or meet a x) ≡ true
    go true wy wx p q = refl
    go false true wx p q = absurd (false≢true p)
    go false false true p q = refl
    go false false false p q =
        let w = any_at 256 (λ e. in_set y e and in_set x e) q in
        any_of 256 (λ e. in_set a e and in_set x e) w.0 w.1
        (and_i (in_set a w.0) (in_set x w.0)
        (imp_e (in_set y w.0) (in_set a w.0) (all_at 256 (λ e. in_set y e imp in_set a e) p w.0 w.1) (and_l (in_set y w.0) (in_set x w.0) w.2))
        (and_r (in_set y w.0) (in_set x w.0) w.2))

word_union : (a b : LockCoverage) (i : ℕ) → word_of (union a b) i ≡ bit_or (word_of a i) (word_of b i)
unfolding word_of
word_union a b zero = refl
word_union a b (suc zero) = refl
word_union a b (suc (suc zero)) = refl
word_union a b (suc (suc (suc i))) = refl

set_union : (a b : LockCoverage) (e : ℕ) → in_set (union a b) e ≡ (in_set a e or in_set b e)
unfolding in_set
set_union a b e = ap (λ (w : ℕ). bit_at w (e % 64)) (word_union a b (e / 64)) ∙ or_bit (word_of a (e / 64)) (word_of b (e / 64)) (e % 64)

within_of : (a b : LockCoverage) → (a.whole ≡ true → b.whole ≡ true) → ((e : ℕ) → in_set a e ≡ true → in_set b e ≡ true) → within a b ≡ true
unfolding within ◌or◌ ◌and◌ non
within_of a b f g = go a.whole b.whole f
  where
    go : (wa wb : Bool) → (wa ≡ true → wb ≡ true) → (wb or (non wa and all_below 256 (λ e. in_set a e imp in_set b e))) ≡ true
    go wa true h = refl
    go true false h = h refl
    go false false h = all_of 256 (λ e. in_set a e imp in_set b e) (λ e l. imp_i (in_set a e) (in_set b e) (g e))

union_l : (a b : LockCoverage) → within a (union a b) ≡ true
union_l a b = within_of a (union a b) (or_l a.whole b.whole) (λ e t. set_union a b e ∙ or_l (in_set a e) (in_set b e) t)

union_r : (a b : LockCoverage) → within b (union a b) ≡ true
union_r a b = within_of b (union a b) (or_r a.whole b.whole) (λ e t. set_union a b e ∙ or_r (in_set a e) (in_set b e) t)

-- ---- two locks
and_last : (a b : Bool) → b ≡ false → (a and b) ≡ false
unfolding ◌and◌
and_last true b e = e
and_last false b e = refl

-- what rules a clash out
module _ (x y : Lock) where
  pub a_vehicle : is_vehicle x.scope ≡ true → non (clash x y) ≡ true
  unfolding clash
  a_vehicle e = non_f _ (and_f _ _ (and_f _ _ (and_f _ _ (non_t _ e))))

  other_vehicle : is_vehicle y.scope ≡ true → non (clash x y) ≡ true
  unfolding clash
  other_vehicle e = non_f _ (and_f _ _ (and_f _ _ (and_last _ _ (non_t _ e))))

  no_overlap : overlap x.coverage y.coverage ≡ false → non (clash x y) ≡ true
  unfolding clash
  no_overlap e = non_f _ (and_f _ _ (and_last _ _ e))

  one_subject : x.subject ≡ y.subject → non (clash x y) ≡ true
  unfolding clash
  one_subject e = non_f _ (and_last _ _ (non_t _ (eq-eqb x.subject y.subject e)))

-- ---- a lock and some others
pub clear_law : (x : Lock) (l : List ActiveLock) → list_all (λ y. not (clash x y.lock)) l ≡ all (λ y. non (clash x y.lock)) l
clear_law x l = all_as (λ (y : ActiveLock). non (clash x y.lock)) (λ y. not (clash x y.lock)) (λ y. non_code (clash x y.lock)) l

pub lone_vehicle : (x : Lock) (l : List ActiveLock) → is_vehicle x.scope ≡ true → all (λ y. non (clash x y.lock)) l ≡ true
lone_vehicle x l e = →all (λ y. non (clash x y.lock)) l (λ y i. a_vehicle x y.lock e)

module _ (x : Lock) (l : List ActiveLock) (same : Bool) (set : LockCoverage) (w : Kept l x.subject same set) where
  pub all_friends : same ≡ true → all (λ y. non (clash x y.lock)) l ≡ true
  all_friends t = →all (λ y. non (clash x y.lock)) l (λ y i. by (is_vehicle y.lock.scope) (non (clash x y.lock) ≡ true)
      (λ u. other_vehicle x y.lock u)
      (λ u. one_subject x y.lock (sym (w.friends t y i u))))

  pub none_met : overlap set x.coverage ≡ false → all (λ y. non (clash x y.lock)) l ≡ true
  none_met t = →all (λ y. non (clash x y.lock)) l (λ y i. by (is_vehicle y.lock.scope) (non (clash x y.lock) ≡ true)
      (λ u. other_vehicle x y.lock u)
      (λ u. no_overlap x y.lock (→no (overlap x.coverage y.lock.coverage) (λ o. against t (overlap_in set x.coverage y.lock.coverage (w.covered y i u) (overlap_sym y.lock.coverage x.coverage ∙ o))))))

-- ---- one more lock
pub kept_none : (s : ℕ) (set : LockCoverage) → Kept [] s true set
kept_none s set = record { friends = λ t y i. none i; covered = λ y i. none i }
  where
    none : {P : Type 0} {y : ActiveLock} → Mem y [] → P
    none i = elim i [ ]

module _ (l : List ActiveLock) (i : ℕ) (h : i < length l) (s : ℕ) (same : Bool) (set : LockCoverage) (w : Kept (take i l) s same set) where
  abbrev x : ActiveLock
  x = get_or l i blank_active

  one_of : {y : ActiveLock} → Mem y (take (i + 1) l) → Mem y (take i l) ⊎ (y ≡ x)
  one_of m = mem_more l i blank_active h m

  -- the vehicle lock doesn't join
  pub kept_vehicle : is_vehicle x.lock.scope ≡ true → Kept (take (i + 1) l) s same set
  kept_vehicle v = record {
    friends = λ t y m u. elim (one_of m) [ inl a ↦ w.friends t y a u | inr a ↦ absurd (against u (ap (λ (z : ActiveLock). is_vehicle z.lock.scope) a ∙ v)) ];
    covered = λ y m u. elim (one_of m) [ inl a ↦ w.covered y a u | inr a ↦ absurd (against u (ap (λ (z : ActiveLock). is_vehicle z.lock.scope) a ∙ v)) ];
  }

  pub kept_subject : Kept (take i l) x.lock.subject (same && eqb x.lock.subject s) set
  kept_subject = record { friends = λ t y m u. let q = halves t in w.friends q.0 y m u ∙ sym (eqb-true x.lock.subject s q.1); covered = w.covered }
    where
      halves : (same && eqb x.lock.subject s) ≡ true → (same ≡ true) × (eqb x.lock.subject s ≡ true)
      halves t = let r = sym (and_code same (eqb x.lock.subject s)) ∙ t in (and_l _ _ r, and_r _ _ r)

  joined : Kept (take (i + 1) l) s (same && eqb x.lock.subject s) (union set x.lock.coverage)
  joined = record {
    friends = λ t y m u. let r = sym (and_code same (eqb x.lock.subject s)) ∙ t in
        elim (one_of m) [ inl a ↦ w.friends (and_l _ _ r) y a u | inr a ↦ ap (λ (z : ActiveLock). z.lock.subject) a ∙ eqb-true x.lock.subject s (and_r _ _ r) ];
    covered = λ y m u. elim (one_of m) [
      | inl a ↦ within_trans y.lock.coverage set (union set x.lock.coverage) (w.covered y a u) (union_l set x.lock.coverage)
      | inr a ↦ subst (λ (z : ActiveLock). within z.lock.coverage (union set x.lock.coverage) ≡ true) (sym a) (union_r set x.lock.coverage)
    ];
  }

  pub kept_more : (r : LockCoverage) → r ≡ union set x.lock.coverage → Kept (take (i + 1) l) s (same && eqb x.lock.subject s) r
  kept_more r e = subst (λ (u : LockCoverage). Kept (take (i + 1) l) s (same && eqb x.lock.subject s) u) (sym e) joined
