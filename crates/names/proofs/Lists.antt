-- Laws of the list of a table's names: its places, the search for a name, no name twice.
-- Assumes nothing.
use mathlib.Core.Path.{◌≡◌, refl, sym, ap, ap₂, ◌∙◌}
use mathlib.Core.Bool.{Bool, true, false, cond, true≢false, false≢true}
use mathlib.Core.List.{List, [], ◌∷◌, ◌++◌}
use Prim.Native.Nat.{ℕ, zero, suc, ◌+◌, ◌-◌, ◌≤◌, ◌<◌}
use native.Mathlib.Numerals.{add-one}
use native.Mathlib.Omega.{arith}
use lib.Dec.{ltb, leb-suc-suc}
use lib.ListN.{length, get_or}
use borrow.Author.Tests.{lt-ltb, le-ltb, ltb-true}
use Rattle.lists.specs.Tests.{◌and◌, ◌or◌, non, Yes, No}
use Rattle.lists.proofs.Tests.{by, and_f, and_l, and_r, and_i, and_comm, or_t, or_f, or_l, or_no, or_comm, non_t, non_f, non_yes, →no, against}
use Rattle.names.specs.Bytes.{same_bytes, known, place_of, none_twice}
use Rattle.names.specs.Table.{count_of, entry_at, name_of, names_from, names_of}
use Rattle.names.proofs.Bytes.{same→, →same}

-- a test whose negation fails passes
pub non_no : (b : Bool) → No (non b) → Yes b
unfolding non
non_no true n = refl
non_no false n = absurd (true≢false n)

-- ---- a list of names from a place on
pub names_step : (t : List ℕ) (n i : ℕ) → i < n → names_from t i (n - i) ≡ name_of (entry_at t i) ∷ names_from t (i + 1) (n - (i + 1))
unfolding names_from
names_step t n i h = let e : n - i ≡ suc (n - (i + 1)) = omega arith in rw (e, add-one i)

pub names_end : (t : List ℕ) (n i : ℕ) → n ≤ i → names_from t i (n - i) ≡ []
unfolding names_from
names_end t n i h = let e : n - i ≡ 0 = omega arith in rw e

-- ---- the search
pub search_starts : (t x : List ℕ) (n : ℕ) → 0 + place_of x (names_from t 0 (n - 0)) ≡ place_of x (names_from t 0 n)
search_starts t x n = let e : n - 0 ≡ n = omega arith in let z : 0 + place_of x (names_from t 0 n) ≡ place_of x (names_from t 0 n) = omega arith in rw (e, z)

module _ (t x : List ℕ) (n i w : ℕ) (was : i + place_of x (names_from t i (n - i)) ≡ w) where
  pub found_there : (s : List ℕ) (r : Bool) → i < n → s ≡ name_of (entry_at t i) → r ≡ same_bytes s x → r ≡ true → i ≡ w
  unfolding place_of
  found_there s r h q u g =
      let y : same_bytes (name_of (entry_at t i)) x ≡ true = rw (← q) (sym u ∙ g) in
      let z : place_of x (names_from t i (n - i)) ≡ 0 = rw (names_step t n i h, y) in
      omega arith

  pub not_there : (s : List ℕ) (r : Bool) → i < n → s ≡ name_of (entry_at t i) → r ≡ same_bytes s x → r ≡ false → i + 1 + place_of x (names_from t (i + 1) (n - (i + 1))) ≡ w
  unfolding place_of
  not_there s r h q u g =
      let y : same_bytes (name_of (entry_at t i)) x ≡ false = rw (← q) (sym u ∙ g) in
      let z : place_of x (names_from t i (n - i)) ≡ suc (place_of x (names_from t (i + 1) (n - (i + 1)))) = rw (names_step t n i h, y) in
      omega arith

  pub nowhere : i ≤ n → n ≤ i → n ≡ w
  unfolding place_of
  nowhere g h =
      let z : place_of x (names_from t i (n - i)) ≡ 0 = rw (names_end t n i h) in
      omega arith

-- ---- a name is known where its place is one of the list's
pub known_place : (x : List ℕ) (l : List (List ℕ)) → known x l ≡ ltb (place_of x l) (length l)
unfolding known place_of
known_place x [] = sym (le-ltb 0 0 (omega arith))
known_place x (y ∷ ys) = go (same_bytes y x) (known_place x ys)
  where
    go : (b : Bool) → known x ys ≡ ltb (place_of x ys) (length ys) → (b or known x ys) ≡ ltb (cond b zero (suc (place_of x ys))) (suc (length ys))
    go true h = or_t true (known x ys) refl ∙ sym (lt-ltb 0 (suc (length ys)) (omega arith))
    go false h = or_f false (known x ys) refl ∙ h ∙ sym (leb-suc-suc (suc (place_of x ys)) (length ys))

pub names_length : (t : List ℕ) (i k : ℕ) → length (names_from t i k) ≡ k
unfolding names_from
names_length t i zero = refl
names_length t i (suc k) = ap suc (names_length t (suc i) k)

-- ---- names one after the other
pub names_same : (t u : List ℕ) (i k : ℕ) → ((j : ℕ) → i ≤ j → j < i + k → entry_at t j ≡ entry_at u j) → names_from t i k ≡ names_from u i k
unfolding names_from
names_same t u i zero f = refl
names_same t u i (suc k) f =
    ap₂ {C = List (List ℕ)} (λ n l. n ∷ l) (ap name_of (f i (omega arith) (omega arith))) (names_same t u (suc i) k (λ j h g. f j (omega arith) (omega arith)))

pub names_last : (t : List ℕ) (i k : ℕ) → names_from t i (suc k) ≡ names_from t i k ++ (name_of (entry_at t (i + k)) ∷ [])
unfolding names_from
names_last t i zero = let e : i + 0 ≡ i = omega arith in rw e
names_last t i (suc k) =
    let e : i + suc k ≡ suc i + k = omega arith in
    rw e (ap (λ (l : List (List ℕ)). name_of (entry_at t i) ∷ l) (names_last t (suc i) k))

pub names_split : (t : List ℕ) (i k m : ℕ) → names_from t i (k + m) ≡ names_from t i k ++ names_from t (i + k) m
unfolding names_from
names_split t i zero m = let e : i + 0 ≡ i = omega arith in let z : 0 + m ≡ m = omega arith in rw (e, z)
names_split t i (suc k) m =
    let e : i + suc k ≡ suc i + k = omega arith in
    let z : suc k + m ≡ suc (k + m) = omega arith in
    rw (e, z) (ap (λ (l : List (List ℕ)). name_of (entry_at t i) ∷ l) (names_split t (suc i) k m))

-- ---- a name among names one after the other
pub known_append : (x : List ℕ) (l m : List (List ℕ)) → known x (l ++ m) ≡ (known x l or known x m)
unfolding known ◌or◌
known_append x [] m = refl
known_append x (n ∷ ns) m = go (same_bytes n x) (known_append x ns m)
  where
    go : (c : Bool) → known x (ns ++ m) ≡ (known x ns or known x m) → (c or known x (ns ++ m)) ≡ (c or known x ns or known x m)
    go true h = refl
    go false h = h

pub known_last : (x b : List ℕ) (l : List (List ℕ)) → known x (l ++ (b ∷ [])) ≡ (known x l or same_bytes b x)
unfolding known
known_last x b l = known_append x l (b ∷ []) ∙ ap (λ (c : Bool). known x l or c) (or_comm (same_bytes b x) false ∙ or_f false (same_bytes b x) refl)

-- ---- no name twice, from the first on
pub twice_there : (b : List ℕ) (l m : List (List ℕ)) → Yes (known b l) → No (none_twice (l ++ (b ∷ m)))
unfolding none_twice known
twice_there b [] m y = absurd (false≢true y)
twice_there b (x ∷ xs) m y = by (same_bytes x b) (No (none_twice (x ∷ (xs ++ (b ∷ m)))))
    (λ s. and_f _ _ (non_t _ (known_append x xs (b ∷ m) ∙ or_comm (known x xs) (known x (b ∷ m)) ∙ or_t _ _ (or_l (same_bytes b x) (known x m) (→same b x (sym (same→ x b s)))))))
    (λ s. and_comm _ _ ∙ and_f _ _ (twice_there b xs m (sym (or_f (same_bytes x b) (known b xs) s) ∙ y)))

pub once_more : (b : List ℕ) (l : List (List ℕ)) → Yes (none_twice l) → No (known b l) → Yes (none_twice (l ++ (b ∷ [])))
unfolding none_twice known ◌and◌ ◌or◌ non
once_more b [] y n = refl
once_more b (x ∷ xs) y n =
    let p = or_no (same_bytes x b) (known b xs) n in
    let q : No (same_bytes b x) = →no (same_bytes b x) (λ s. against p.0 (→same x b (sym (same→ b x s)))) in
    let k : No (known x xs) = non_yes (known x xs) (and_l (non (known x xs)) (none_twice xs) y) in
    and_i (non (known x (xs ++ (b ∷ [])))) (none_twice (xs ++ (b ∷ [])))
    (non_f (known x (xs ++ (b ∷ []))) (known_last x b xs ∙ or_f (known x xs) (same_bytes b x) k ∙ q))
    (once_more b xs (and_r (non (known x xs)) (none_twice xs) y) p.1)

pub none_before : (t : List ℕ) → Yes (none_twice (names_from t 0 0))
unfolding none_twice names_from
none_before t = refl

-- what a loop over a table's names finds at the i-th of them
module _ (t : List ℕ) (i : ℕ) (r : Bool) (u : r ≡ non (known (name_of (entry_at t i)) (names_from t 0 i))) where
  pub twice : (n : ℕ) → i < n → r ≡ false → false ≡ none_twice (names_from t 0 n)
  twice n h g =
      let e : n ≡ i + (n - i) = omega arith in
      let z : 0 + i ≡ i = omega arith in
      let y : Yes (known (name_of (entry_at t i)) (names_from t 0 i)) = non_no _ (sym u ∙ g) in
      sym (ap (λ (k : ℕ). none_twice (names_from t 0 k)) e ∙ rw (names_split t 0 i (n - i), z, names_step t n i h) (twice_there (name_of (entry_at t i)) (names_from t 0 i) _ y))

  pub once : r ≡ true → Yes (none_twice (names_from t 0 i)) → Yes (none_twice (names_from t 0 (i + 1)))
  once g y = let z : 0 + i ≡ i = omega arith in rw (add-one i, names_last t 0 i, z) (once_more (name_of (entry_at t i)) (names_from t 0 i) y (non_yes _ (sym u ∙ g)))

pub none_left : (t : List ℕ) (n i : ℕ) → i ≤ n → n ≤ i → Yes (none_twice (names_from t 0 i)) → true ≡ none_twice (names_from t 0 n)
none_left t n i h k y = let e : n ≡ i = omega arith in rw e (sym y)

-- ---- places in a list of names
pub place_kept : (x b : List ℕ) (l : List (List ℕ)) → Yes (known x l) → place_of x (l ++ (b ∷ [])) ≡ place_of x l
unfolding known place_of ◌or◌
place_kept x b [] y = absurd (false≢true y)
place_kept x b (n ∷ ns) y = go (same_bytes n x) y (place_kept x b ns)
  where
    go : (c : Bool) → Yes (c or known x ns) → (Yes (known x ns) → place_of x (ns ++ (b ∷ [])) ≡ place_of x ns) → cond c zero (suc (place_of x (ns ++ (b ∷ [])))) ≡ cond c zero (suc (place_of x ns))
    go true z h = refl
    go false z h = ap suc (h z)

pub place_last : (b : List ℕ) (l : List (List ℕ)) → No (known b l) → place_of b (l ++ (b ∷ [])) ≡ length l
unfolding known place_of ◌or◌
place_last b [] n = rw (→same b b refl)
place_last b (x ∷ xs) n = go (same_bytes x b) n (place_last b xs)
  where
    go : (c : Bool) → No (c or known b xs) → (No (known b xs) → place_of b (xs ++ (b ∷ [])) ≡ length xs) → cond c zero (suc (place_of b (xs ++ (b ∷ [])))) ≡ suc (length xs)
    go true z h = absurd (true≢false z)
    go false z h = ap suc (h z)

pub at_place : (x : List ℕ) (l : List (List ℕ)) → Yes (known x l) → get_or l (place_of x l) [] ≡ x
unfolding known place_of ◌or◌
at_place x [] y = absurd (false≢true y)
at_place x (n ∷ ns) y = go (same_bytes n x) refl y (at_place x ns)
  where
    go : (c : Bool) → same_bytes n x ≡ c → Yes (c or known x ns) → (Yes (known x ns) → get_or ns (place_of x ns) [] ≡ x) → get_or (n ∷ ns) (cond c zero (suc (place_of x ns))) [] ≡ x
    go true e z h = same→ n x e
    go false e z h = h z

pub names_count : (t : List ℕ) → length (names_of t) ≡ count_of t
unfolding names_of
names_count t = names_length t 0 (count_of t)

pub place_below : (t x : List ℕ) → Yes (known x (names_of t)) → place_of x (names_of t) < count_of t
place_below t x y = omega (arith, ltb-true (place_of x (names_of t)) (length (names_of t)) (sym (known_place x (names_of t)) ∙ y), names_count t)

pub names_at : (t : List ℕ) (i k j : ℕ) → j < k → get_or (names_from t i k) j [] ≡ name_of (entry_at t (i + j))
unfolding names_from
names_at t i zero j h = absurd (omega arith)
names_at t i (suc k) zero h = let e : i + 0 ≡ i = omega arith in rw e
names_at t i (suc k) (suc j) h = let e : i + suc j ≡ suc i + j = omega arith in rw e (names_at t (suc i) k j (omega arith))
