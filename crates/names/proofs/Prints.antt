-- Laws of fingerprints: equal names have equal ones, so that a name whose fingerprint does not stand before it is new.
-- Assumes nothing.
use mathlib.Core.Path.{◌≡◌, refl, sym, ap, ◌∙◌}
use mathlib.Core.Bool.{Bool, true, false, ◌||◌}
use mathlib.Core.List.{List, ◌++◌, map}
use Prim.Native.Nat.{ℕ, zero, suc, ◌+◌, ◌*◌, ◌%◌, ◌≤◌, ◌<◌}
use native.Mathlib.Decide.{dec_lt}
use native.Mathlib.Numerals.{add-one}
use native.Mathlib.Omega.{arith}
use lib.Dec.{eqb, leb, ltb}
use lib.ListN.{length, get_or, set, drop, replicate, drop_of_length-le}
use lib.Seq.{drop-cons}
use borrow.Author.Tests.{eq-eqb, le-leb, lt-leb, lt-ltb, le-ltb, ltb-true}
use Rattle.lists.specs.Tests.{non, Yes}
use Rattle.lists.specs.Below.{any_below}
use Rattle.lists.specs.Places.{Holds}
use Rattle.lists.proofs.Tests.{→no, against, non_t, non_f, or_code}
use Rattle.lists.proofs.Below.{any_of}
use Rattle.lists.proofs.Loops.{push, map_more}
use Rattle.names.specs.Bytes.{kept, known, place_of}
use Rattle.names.specs.Table.{most, entry_at, name_of, names_from}
use Rattle.names.specs.Code.{print_from, print_of, prints_of}
use Rattle.names.proofs.Bytes.{kept_plain}
use Rattle.names.proofs.Lists.{known_place, names_length, names_last, names_at, at_place}

-- ---- one name's, byte by byte
module _ (name : List ℕ) (h i : ℕ) (was : print_from h (drop i name) ≡ print_of name) where
  pub print_more : i < length name → print_from ((h * 16777619 + get_or name i 0) % 4294967296) (drop (i + 1) name) ≡ print_of name
  unfolding print_from
  print_more k = rw (add-one i) (ap (print_from h) (sym (drop-cons name i 0 k)) ∙ was)

  pub print_end : length name ≤ i → h ≡ print_of name
  unfolding print_from
  print_end k = ap (print_from h) (sym (drop_of_length-le name k)) ∙ was

-- ---- those of a table's names
pub prints_start : (t : List ℕ) → Holds most 0 (map print_of (names_from t 0 0)) (replicate most 0) 0
unfolding names_from
prints_start t = (refl, refl)

pub prints_more : (t ps : List ℕ) (i x : ℕ) → Holds most 0 (map print_of (names_from t 0 i)) ps i → i < most → x ≡ print_of (name_of (entry_at t i)) → Holds most 0 (map print_of (names_from t 0 (i + 1))) (set ps i x) (i + 1)
prints_more t ps i x g k e =
    let z : 0 + i ≡ i = omega arith in
    push most 0 (map print_of (names_from t 0 i)) (map print_of (names_from t 0 (i + 1))) ps i x g k
    (rw (add-one i, names_last t 0 i, z, e) (map_more print_of (names_from t 0 i) (name_of (entry_at t i))))

pub prints_end : (t ps : List ℕ) (n i : ℕ) → i ≤ n → n ≤ i → Holds most 0 (map print_of (names_from t 0 i)) ps i → ps ≡ prints_of n t
unfolding prints_of
prints_end t ps n i h k g = let e : n ≡ i = omega arith in rw e g.0

print_from_lem : (t r : List ℕ) (i k j : ℕ) → j < k → get_or (map print_of (names_from t i k) ++ r) j 0 ≡ print_of (name_of (entry_at t (i + j)))
unfolding names_from
print_from_lem t r i zero j h = absurd (omega arith)
print_from_lem t r i (suc k) zero h = let e : i + 0 ≡ i = omega arith in rw e
print_from_lem t r i (suc k) (suc j) h = let e : i + suc j ≡ suc i + j = omega arith in rw e (print_from_lem t r (suc i) k j (omega arith))

-- ---- whether a fingerprint stands before itself, place by place
pub any_more : (f : ℕ → Bool) (j : ℕ) (b : Bool) → b ≡ any_below j f → (b || f j) ≡ any_below (j + 1) f
unfolding any_below
any_more f j b e = or_code b (f j) ∙ rw (add-one j, e)

pub any_end : (f : ℕ → Bool) (i j : ℕ) (b : Bool) → j ≤ i → i ≤ j → b ≡ any_below j f → b ≡ any_below i f
any_end f i j b h k e = let q : i ≡ j = omega arith in rw q e

-- ---- the i-th name among those before it
module _ (t : List ℕ) (n i : ℕ) (h : i < n) where
  abbrev name : List ℕ
  name = name_of (entry_at t i)

  abbrev earlier : List (List ℕ)
  earlier = names_from t 0 i

  module _ (ps : List ℕ) (e : ps ≡ prints_of n t) where
    print_at : (j : ℕ) → j < n → get_or ps j 0 ≡ print_of (name_of (entry_at t j))
    unfolding prints_of
    print_at j k = let z : 0 + j ≡ j = omega arith in rw (e, print_from_lem t _ 0 n j k, z)

    abbrev alike : ℕ → Bool
    alike j = eqb (get_or ps j 0) (get_or ps i 0)

    print_there : Yes (known name earlier) → Yes (any_below i alike)
    print_there y =
        let p = place_of name earlier in
        let k : p < i = omega (arith, ltb-true p (length earlier) (sym (known_place name earlier) ∙ y), names_length t 0 i) in
        let z : 0 + p ≡ p = omega arith in
        let q : name_of (entry_at t p) ≡ name = rw z at (sym (names_at t 0 i p k) ∙ at_place name earlier y) in
        any_of i alike p k (eq-eqb _ _ (print_at p (omega arith) ∙ ap print_of q ∙ sym (print_at i h)))

    pub no_print : (r : Bool) → r ≡ any_below i alike → r ≡ false → true ≡ non (known name earlier)
    no_print r u g = sym (non_f _ (→no (known name earlier) (λ y. against (sym u ∙ g) (print_there y))))

  pub by_place : (s : List ℕ) (p : ℕ) → s ≡ name → p ≡ place_of (kept false s) earlier → leb i p ≡ non (known name earlier)
  by_place s p b c = elim (dec_lt p i) [
    | yes k ↦ lt-leb i p k ∙ sym (non_t _ (is_known ∙ lt-ltb p i k))
    | no k ↦ le-leb i p (omega arith) ∙ sym (non_f _ (is_known ∙ le-ltb p i (omega arith)))
  ]
    where
      is_known : known name earlier ≡ ltb p i
      is_known = known_place name earlier ∙ rw (names_length t 0 i, c, kept_plain s, b)
