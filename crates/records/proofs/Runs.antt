-- Elements of one size stored one after the other: their bytes, and the turns of the loop that stores them. Assumes nothing.
use mathlib.Core.Path.{◌≡◌, refl, sym, ap, ◌∙◌}
use mathlib.Core.List.{List, [], ◌∷◌, ◌++◌, append_assoc, append-nil}
use Prim.Native.Nat.{ℕ, ◌+◌, ◌*◌, ◌≤◌, ◌<◌}
use native.Mathlib.Nat.{mul-le-mul_right}
use native.Mathlib.Omega.{arith}
use lib.ListN.{length, take, get_or, length-append}
use lib.Seq.{length-take-le}
use borrow.Author.Tests.{le-leb, lt-leb}
use Rattle.lists.proofs.Tests.{cond_true, cond_false}
use Rattle.lists.proofs.Loops.{more}
use Rattle.ids.specs.declared.LockId.{LockId}
use Rattle.records.specs.Numbers.{splice, bytes_of_all, big, bytes_of}
use Rattle.records.specs.Numbers as N
use Rattle.records.specs.Wire.{id_bytes}
use Rattle.records.proofs.Numbers.{length_bytes_of, length_splice, splice_splice}
use Rattle.records.proofs.Layouts.{splice_none}

-- ---- f gives an element's bytes, z of them
module _ {R : Type 0} (f : R → List ℕ) (z : ℕ) (w : (r : R) → length (f r) ≡ z) where
  pub length_all : (l : List R) → length (bytes_of_all f l) ≡ length l * z
  unfolding bytes_of_all
  length_all [] = omega arith
  length_all (r ∷ rs) = length-append (f r) (bytes_of_all f rs) ∙ omega (arith, w r, length_all rs)

  all_more : (l : List R) (r : R) → bytes_of_all f (l ++ (r ∷ [])) ≡ bytes_of_all f l ++ f r
  unfolding bytes_of_all
  all_more [] r = append-nil (f r)
  all_more (x ∷ xs) r = ap (λ (b : List ℕ). f x ++ b) (all_more xs r) ∙ sym (append_assoc (f x) (bytes_of_all f xs) (f r))

  -- ---- the loop: i elements are stored
  module _ (s : List ℕ) (from n : ℕ) (locks : List R) where
    pub record Put (out : List ℕ) (i : ℕ) : Type 0 where
      pub most : i ≤ n
      pub size : length out ≡ length s
      pub stored : out ≡ splice s from (bytes_of_all f (take i locks))

    pub starts : from ≤ length s → Put s 0
    unfolding bytes_of_all
    starts h = record { most = omega arith; size = refl; stored = splice_none s from h }

    module _ (hn : n ≤ length locks) (h : from + n * z ≤ length s) where
      run_size : (i : ℕ) → i ≤ n → length (bytes_of_all f (take i locks)) ≡ i * z
      run_size i k = length_all (take i locks) ∙ ap (λ (m : ℕ). m * z) (length-take-le i locks (omega arith))

      room : (i : ℕ) → i < n → from + i * z + z ≤ length s
      room i k = omega (arith, mul-le-mul_right {m = i + 1} {n = n} z (omega arith))

      pub turns : (d : R) (out out' : List ℕ) (i : ℕ) → i < n → Put out i → out' ≡ N.stored out (from + i * z) (f (get_or locks i d)) → Put out' (i + 1)
      unfolding N.stored
      turns d out out' i k g q =
          let r : R = get_or locks i d in
          let fits : from + i * z + length (f r) ≤ length out = omega (arith, room i k, g.size, w r) in
          let q' : out' ≡ splice out (from + i * z) (f r) = q ∙ cond_true _ _ _ (le-leb _ _ fits) in
          record {
            most = omega arith;
            size = ap length q' ∙ length_splice out (from + i * z) (f r) fits ∙ g.size;
            stored =
                q' ∙ ap (λ (x : List ℕ). splice x (from + i * z) (f r)) g.stored
                ∙ splice_splice s from (i * z) (bytes_of_all f (take i locks)) (f r) (run_size i (omega arith)) (omega (arith, fits, g.size))
                ∙ ap (splice s from) (sym (all_more (take i locks) r) ∙ ap (bytes_of_all f) (sym (more locks i d (omega arith))));
          }

      pub ends : (out : List ℕ) (i : ℕ) → n ≤ i → Put out i → out ≡ splice s from (bytes_of_all f (take n locks))
      ends out i k g = g.stored ∙ ap (λ (m : ℕ). splice s from (bytes_of_all f (take m locks))) (let q : i ≡ n = omega (arith, g.most) in q)

-- ---- an id's bytes
pub length_id : (i : LockId) → length (id_bytes i) ≡ 16
length_id i = length-append (bytes_of (big 8) i.hi) (bytes_of (big 8) i.lo) ∙ omega (arith, length_bytes_of (big 8) i.hi, length_bytes_of (big 8) i.lo)

pub id_not_stored : (s : List ℕ) (at : ℕ) (i : LockId) → length s < at + 16 → s ≡ N.stored s at (id_bytes i)
unfolding N.stored
id_not_stored s at i h = sym (cond_false _ _ _ (lt-leb (at + length (id_bytes i)) (length s) (omega (arith, length_id i))))

pub id_stored : (s : List ℕ) (at : ℕ) (i : LockId) → at + 16 ≤ length s
    → splice (splice s at (bytes_of (big 8) i.hi)) (at + 8) (bytes_of (big 8) i.lo) ≡ N.stored s at (id_bytes i)
unfolding N.stored
id_stored s at i h =
    splice_splice s at 8 (bytes_of (big 8) i.hi) (bytes_of (big 8) i.lo) (length_bytes_of (big 8) i.hi) (omega (arith, length_bytes_of (big 8) i.lo))
    ∙ sym (cond_true _ _ _ (le-leb (at + length (id_bytes i)) (length s) (omega (arith, length_id i))))
