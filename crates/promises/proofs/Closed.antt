-- A tree is closed under parents: in a sound state what stays keeps its parent, where one tree goes and where several do;
-- overlap is symmetric, so neither of two locks is the one that conflicts; the empty set overlaps no set. Assumes nothing.
use mathlib.Core.Path.{◌≡◌, refl, ap, ◌∙◌}
use Prim.Native.Nat.{ℕ, zero, suc, ◌/◌, ◌%◌}
use mathlib.Core.Bool.{false, false≢true}
use mathlib.Core.List.{List}
use mathlib.Core.Logic.{inl, inr}
use Rattle.bits.specs.Bits.{bit_at}
use Rattle.bits.proofs.Bits.{bit_of_zero}
use Rattle.lists.specs.Tests.{◌and◌, ◌or◌, Yes, No}
use Rattle.lists.specs.Below.{any_below}
use Rattle.lists.proofs.Tests.{against, →no, and_l, or_e}
use Rattle.lists.proofs.Below.{any_at}
use Rattle.lists.specs.Lists.{Mem}
use Rattle.coverage.specs.declared.LockCoverage.{LockCoverage}
use Rattle.coverage.specs.Coverage.{no_coverage, word_of, in_set, overlap}
use Rattle.coverage.proofs.Laws.{overlap_sym}
use Rattle.state.specs.declared.ActiveLock.{ActiveLock}
use Rattle.state.specs.Model.{Model, Limits}
use Rattle.rules.specs.Rules.{sound}
use Rattle.operations.specs.Trees.{in_tree}
use Rattle.operations.specs.Delete.{tree_out}
use Rattle.operations.specs.Replace.{cut_of}
use Rattle.promises.proofs.Core.{Parent, stands_of}
use Rattle.promises.proofs.Removal.{tree_closed, core_tree, cut_roots}

pub overlap_symmetric : (a b : LockCoverage) → overlap a b ≡ overlap b a
overlap_symmetric = overlap_sym

-- "The empty set overlaps no set."
no_word : (i : ℕ) → word_of no_coverage i ≡ 0
unfolding word_of
no_word zero = refl
no_word (suc zero) = refl
no_word (suc (suc zero)) = refl
no_word (suc (suc (suc i))) = refl

no_ecu : (e : ℕ) → No (in_set no_coverage e)
unfolding in_set
no_ecu e = ap (λ (w : ℕ). bit_at w (e % 64)) (no_word (e / 64)) ∙ bit_of_zero (e % 64)

pub empty_apart : (c : LockCoverage) → No c.whole → No (overlap no_coverage c)
unfolding overlap
empty_apart c n =
    →no _ (λ t. elim (or_e (false or c.whole) (any_below 256 (λ e. in_set no_coverage e and in_set c e)) t) [
      | inl u ↦ elim (or_e false c.whole u) [ inl f ↦ false≢true f | inr v ↦ against n v ]
      | inr w ↦ let x = any_at 256 (λ e. in_set no_coverage e and in_set c e) w in against (no_ecu x.0) (and_l _ _ x.2)
    ])

module _ (k : Limits) (m : Model) (s : Yes (sound k m)) where
  -- a lock outside the tree of r has its parent outside it
  pub parent_outside : (r a p : ActiveLock) → Mem a m.active → Yes a.child → No (in_tree r a) → Parent m.active a p → No (in_tree r p)
  parent_outside r a p = tree_closed m r (stands_of k m s).core a p

  -- what one tree leaves
  pub parent_stays : (r a : ActiveLock) → Mem a (tree_out m r).kept → Yes a.child → (p : ActiveLock) × Parent (tree_out m r).kept a p
  parent_stays r = (core_tree m r m.revision (stands_of k m s).core).parents

  -- what the trees of the listed roots leave
  pub parents_stay : (ws : List ℕ) (a : ActiveLock) → Mem a (cut_of m ws).kept → Yes a.child → (p : ActiveLock) × Parent (cut_of m ws).kept a p
  parents_stay ws = (cut_roots m ws (stands_of k m s).core).core.parents
