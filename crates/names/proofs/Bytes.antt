-- Laws of names as bytes: what folding does, when two names are the same, a name's place in a list of names.
-- Assumes nothing.
use mathlib.Core.Path.{◌≡◌, refl, sym, ap, ap₂, ◌∙◌, subst}
use mathlib.Core.Bool.{Bool, true, false, false≢true}
use mathlib.Core.List.{List, [], ◌∷◌, map}
use Prim.Native.Nat.{ℕ, ◌+◌, ◌≤◌, ◌<◌}
use native.Mathlib.Omega.{arith}
use lib.Dec.{eqb, leb}
use lib.ListN.{length, get_or, length-map, get_or-map}
use borrow.Author.Tests.{ltb-true, ltb-false, eq-eqb, eqb-true, le-leb, lt-leb, leb-true}
use Rattle.lists.specs.Tests.{◌and◌, ◌imp◌, non, Yes, No}
use Rattle.lists.proofs.Tests.{→no, by, and_l, and_r, and_i, and_f, and_code, non_yes, yes_non}
use Rattle.std.specs.Prelude.{◌==◌, not, ltb}
use Rattle.std.specs.List.{list_all, zip}
use Rattle.std.specs.Char.{to_ascii_lowercase, is_ascii_uppercase}
use Rattle.lists.proofs.Tests.{cond_both, non_code}
use Rattle.lists.proofs.Std.{all_std, all_as}
use Rattle.names.specs.Bytes.{is_upper, fold1, keep1, kept, folded, same_bytes}
use Rattle.names.specs.Table.{zeros}

-- ---- a byte
fold_low : (b : ℕ) → b < 0x41 → b ≡ fold1 b
unfolding fold1 is_upper
fold_low b h = rw (and_f _ (leb b 0x5A) (lt-leb 0x41 b h))

fold_high : (b : ℕ) → 0x5A < b → b ≡ fold1 b
unfolding fold1 is_upper ◌and◌
fold_high b h = rw (lt-leb b 0x5A h, le-leb 0x41 b (omega arith))

fold_upper : (b : ℕ) → 0x41 ≤ b → b ≤ 0x5A → b + 0x20 ≡ fold1 b
unfolding fold1 is_upper ◌and◌
fold_upper b h k = rw (le-leb 0x41 b h, le-leb b 0x5A k)

-- the library's folding is the one of the definitions
pub to_lower : (b : ℕ) → to_ascii_lowercase b ≡ fold1 b
to_lower b = cond_both (λ r. r ≡ fold1 b) _ _ (ltb b 65) (λ l. fold_low b (ltb-true b 65 l)) (λ h.
    cond_both (λ r. r ≡ fold1 b) _ _ (ltb b 91) (λ l. fold_upper b (ltb-false b 65 h) (omega (arith, ltb-true b 91 l))) (λ g. fold_high b (omega (arith, ltb-false b 91 g))))

pub keep_folding : (f : Bool) (b r : ℕ) → f ≡ true → r ≡ fold1 b → r ≡ keep1 f b
unfolding keep1
keep_folding f b r e g = rw e g

pub keep_as_is : (f : Bool) (b : ℕ) → f ≡ false → b ≡ keep1 f b
unfolding keep1
keep_as_is f b e = rw e

-- ---- the same name
pub same→ : (a b : List ℕ) → Yes (same_bytes a b) → a ≡ b
unfolding same_bytes
same→ [] [] t = refl
same→ [] (y ∷ ys) t = absurd (false≢true t)
same→ (x ∷ xs) [] t = absurd (false≢true t)
same→ (x ∷ xs) (y ∷ ys) t = ap₂ {C = List ℕ} (λ h l. h ∷ l) (eqb-true x y (and_l (eqb x y) (same_bytes xs ys) t)) (same→ xs ys (and_r (eqb x y) (same_bytes xs ys) t))

same_self : (a : List ℕ) → Yes (same_bytes a a)
unfolding same_bytes
same_self [] = refl
same_self (x ∷ xs) = and_i (eqb x x) (same_bytes xs xs) (eq-eqb x x refl) (same_self xs)

pub →same : (a b : List ℕ) → a ≡ b → Yes (same_bytes a b)
→same a b e = subst (λ (l : List ℕ). Yes (same_bytes a l)) e (same_self a)

pub not_same : (a b : List ℕ) → (a ≡ b → ⊥) → No (same_bytes a b)
not_same a b f = →no (same_bytes a b) (λ t. f (same→ a b t))

-- ---- a name as a table keeps it, by its bytes
pub kept_length : (f : Bool) (n : List ℕ) → length (kept f n) ≡ length n
unfolding kept
kept_length f n = length-map n (keep1 f)

keep_zero : (f : Bool) → keep1 f 0 ≡ 0
unfolding keep1
keep_zero true = sym (fold_low 0 (omega arith))
keep_zero false = refl

pub kept_at : (f : Bool) (n : List ℕ) (i : ℕ) → get_or (kept f n) i 0 ≡ keep1 f (get_or n i 0)
unfolding kept
kept_at f n i = ap (get_or (map (keep1 f) n) i) (sym (keep_zero f)) ∙ get_or-map (keep1 f) n i 0

pub kept_plain : (n : List ℕ) → kept false n ≡ n
unfolding kept keep1
kept_plain [] = refl
kept_plain (x ∷ xs) = ap (λ (l : List ℕ). x ∷ l) (kept_plain xs)

module _ (s n : List ℕ) (f : Bool) where
  pub other_length : (length s ≡ length n → ⊥) → false ≡ same_bytes s (kept f n)
  other_length h = sym (not_same s (kept f n) (λ e. h (ap length e ∙ kept_length f n)))

-- with the library's tests: byte by byte, lengths being equal
pub same_std : (s n : List ℕ) (f : Bool) → length s ≡ length n → list_all (λ (p : ℕ × ℕ). p.0 == keep1 f p.1) (zip s n) ≡ same_bytes s (kept f n)
unfolding same_bytes kept
same_std [] [] f e = refl
same_std [] (y ∷ ys) f e = absurd (omega arith)
same_std (x ∷ xs) [] f e = absurd (omega arith)
same_std (x ∷ xs) (y ∷ ys) f e = and_code (x == keep1 f y) _ ∙ ap (λ (b : Bool). (x == keep1 f y) and b) (same_std xs ys f (omega arith))

pub zeros_std : (b : List ℕ) → list_all (λ x. x == 0) b ≡ zeros b
unfolding zeros
zeros_std b = all_std (λ (x : ℕ). x == 0) b

upper_std : (b : ℕ) → not (is_ascii_uppercase b) ≡ non (is_upper b)
unfolding is_upper non ◌and◌
upper_std b = ap not (and_code (leb 0x41 b) (leb b 0x5A)) ∙ non_code (leb 0x41 b and leb b 0x5A)

pub folded_std : (b : List ℕ) → list_all (λ x. not (is_ascii_uppercase x)) b ≡ folded b
unfolding folded
folded_std b = all_as (λ (x : ℕ). non (is_upper x)) (λ (x : ℕ). not (is_ascii_uppercase x)) upper_std b

-- ---- what folding leaves
upper_from : (b : ℕ) → Yes (is_upper b) → 0x41 ≤ b
unfolding is_upper
upper_from b y = leb-true 0x41 b (and_l (leb 0x41 b) (leb b 0x5A) y)

upper_to : (b : ℕ) → Yes (is_upper b) → b ≤ 0x5A
unfolding is_upper
upper_to b y = leb-true b 0x5A (and_r (leb 0x41 b) (leb b 0x5A) y)

-- a letter is folded to one byte from either case
pub either_case : (b : ℕ) → Yes (is_upper b) → fold1 (b + 0x20) ≡ fold1 b
either_case b y = sym (fold_high (b + 0x20) (omega (arith, upper_from b y))) ∙ fold_upper b (upper_from b y) (upper_to b y)

fold_other : (b : ℕ) → No (is_upper b) → fold1 b ≡ b
unfolding fold1
fold_other b n = rw n

fold_small : (b : ℕ) → No (is_upper (fold1 b))
fold_small b = by (is_upper b) (No (is_upper (fold1 b)))
    (λ y. →no (is_upper (fold1 b)) (λ z. absurd (omega (arith, upper_from b y, upper_to (fold1 b) z, fold_upper b (upper_from b y) (upper_to b y)))))
    (λ n. ap is_upper (fold_other b n) ∙ n)

all_small : (name : List ℕ) → Yes (folded (kept true name))
unfolding folded kept keep1
all_small [] = refl
all_small (x ∷ xs) = and_i (non (is_upper (fold1 x))) (folded (kept true xs)) (yes_non (is_upper (fold1 x)) (fold_small x)) (all_small xs)

pub kept_folded : (f : Bool) (name : List ℕ) → Yes (f imp folded (kept f name))
unfolding ◌imp◌
kept_folded true name = all_small name
kept_folded false name = refl

-- a name that is folded is kept as it is, so that folding twice is folding once
pub folded_kept : (name : List ℕ) → Yes (folded name) → kept true name ≡ name
unfolding folded kept keep1
folded_kept [] y = refl
folded_kept (x ∷ xs) y =
    ap₂ {C = List ℕ} (λ h l. h ∷ l) (fold_other x (non_yes (is_upper x) (and_l (non (is_upper x)) (folded xs) y))) (folded_kept xs (and_r (non (is_upper x)) (folded xs) y))

pub kept_kept : (f : Bool) (name : List ℕ) → kept f (kept f name) ≡ kept f name
kept_kept true name = folded_kept (kept true name) (all_small name)
kept_kept false name = kept_plain (kept false name)
