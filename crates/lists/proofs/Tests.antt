-- Laws of the connectives: what a test that passes or fails says of its parts.
-- Assumes nothing.
use mathlib.Core.Path.{◌≡◌, refl, sym, ◌∙◌}
use mathlib.Core.Bool.{Bool, true, false, cond, not, ◌&&◌, ◌||◌, true≢false, false≢true}
use mathlib.Core.Logic.{◌⊎◌, inl, inr}
use borrow.Author.Tests.{eq-eqb, ne_eqb}
use Rattle.lists.specs.Tests.{◌and◌, ◌or◌, ◌imp◌, non, Yes, No}

pub against : {b : Bool} → No b → Yes b → ⊥
against n y = true≢false (sym y ∙ n)

pub →no : (b : Bool) → (Yes b → ⊥) → No b
→no true f = absurd (f refl)
→no false f = refl

pub non_yes : (b : Bool) → Yes (non b) → No b
unfolding non
non_yes true t = sym t
non_yes false t = refl

pub yes_non : (b : Bool) → No b → Yes (non b)
unfolding non
yes_non true t = sym t
yes_non false t = refl

pub and_l : (a b : Bool) → Yes (a and b) → Yes a
unfolding ◌and◌
and_l true b t = refl
and_l false b t = t

pub and_r : (a b : Bool) → Yes (a and b) → Yes b
unfolding ◌and◌
and_r true b t = t
and_r false b t = absurd (false≢true t)

pub and_i : (a b : Bool) → Yes a → Yes b → Yes (a and b)
unfolding ◌and◌
and_i true b s t = t
and_i false b s t = s

pub or_e : (a b : Bool) → Yes (a or b) → Yes a ⊎ Yes b
unfolding ◌or◌
or_e true b t = inl refl
or_e false b t = inr t

pub or_l : (a b : Bool) → Yes a → Yes (a or b)
unfolding ◌or◌
or_l true b t = refl
or_l false b t = absurd (false≢true t)

pub or_r : (a b : Bool) → Yes b → Yes (a or b)
unfolding ◌or◌
or_r true b t = refl
or_r false b t = t

pub or_no : (a b : Bool) → No (a or b) → No a × No b
unfolding ◌or◌
or_no true b t = absurd (true≢false t)
or_no false b t = (refl, t)

pub and_no : (a b : Bool) → No (a and b) → Yes a → No b
unfolding ◌and◌
and_no true b n t = n
and_no false b n t = absurd (false≢true t)

pub imp_e : (a b : Bool) → Yes (a imp b) → Yes a → Yes b
unfolding ◌imp◌
imp_e true b t s = t
imp_e false b t s = absurd (false≢true s)

pub imp_i : (a b : Bool) → (Yes a → Yes b) → Yes (a imp b)
unfolding ◌imp◌
imp_i true b f = f refl
imp_i false b f = refl

pub and_comm : (a b : Bool) → (a and b) ≡ (b and a)
unfolding ◌and◌
and_comm true true = refl
and_comm true false = refl
and_comm false true = refl
and_comm false false = refl

pub or_comm : (a b : Bool) → (a or b) ≡ (b or a)
unfolding ◌or◌
or_comm true true = refl
or_comm true false = refl
or_comm false true = refl
or_comm false false = refl

pub or_assoc : (a b c : Bool) → ((a or b) or c) ≡ (a or (b or c))
unfolding ◌or◌
or_assoc true b c = refl
or_assoc false b c = refl

-- ---- the connectives' laws as conditional equations, for `simp` and `search`
pub and_t : (a b : Bool) → a ≡ true → (a and b) ≡ b
unfolding ◌and◌
and_t a b e = rw e

pub and_f : (a b : Bool) → a ≡ false → (a and b) ≡ false
unfolding ◌and◌
and_f a b e = rw e

pub or_t : (a b : Bool) → a ≡ true → (a or b) ≡ true
unfolding ◌or◌
or_t a b e = rw e

pub or_f : (a b : Bool) → a ≡ false → (a or b) ≡ b
unfolding ◌or◌
or_f a b e = rw e

pub non_t : (a : Bool) → a ≡ true → non a ≡ false
unfolding non
non_t a e = rw e

pub non_f : (a : Bool) → a ≡ false → non a ≡ true
unfolding non
non_f a e = rw e

pub ruleset tests = (and_t, and_f, or_t, or_f, non_t, non_f, eq-eqb, ne_eqb)

-- by the test
pub by : (b : Bool) (P : Type 0) → (Yes b → P) → (No b → P) → P
by true P f g = f refl
by false P f g = g refl

module _ {ℓ} {A : Type ℓ} where
  pub cond_true : (c : Bool) (a b : A) → Yes c → cond c a b ≡ a
  cond_true true a b t = refl
  cond_true false a b t = absurd (false≢true t)

  pub cond_false : (c : Bool) (a b : A) → No c → cond c a b ≡ b
  cond_false true a b t = absurd (true≢false t)
  cond_false false a b t = refl

  -- a property of both arms
  pub cond_both : (P : A → Type 0) (a b : A) (c : Bool) → (Yes c → P a) → (No c → P b) → P (cond c a b)
  cond_both P a b true f g = f refl
  cond_both P a b false f g = g refl

-- ---- two tests that pass together are one
pub same_test : (a b : Bool) → (Yes a → Yes b) → (Yes b → Yes a) → a ≡ b
same_test true b f g = sym (f refl)
same_test false true f g = g refl
same_test false false f g = refl

-- b implies a, if and only if a and b together are b
pub and_of_imp : (a b : Bool) → Yes (b imp a) → (a and b) ≡ b
unfolding ◌and◌ ◌imp◌
and_of_imp true b p = refl
and_of_imp false true p = p
and_of_imp false false p = refl

pub imp_of_and : (a b : Bool) → (a and b) ≡ b → Yes (b imp a)
unfolding ◌and◌ ◌imp◌
imp_of_and true true p = refl
imp_of_and true false p = refl
imp_of_and false true p = p
imp_of_and false false p = refl

pub imp_refl : (a : Bool) → Yes (a imp a)
unfolding ◌imp◌
imp_refl true = refl
imp_refl false = refl

pub imp_trans : (x y z : Bool) → Yes (x imp y) → Yes (y imp z) → Yes (x imp z)
unfolding ◌imp◌
imp_trans true true z p q = q
imp_trans true false z p q = absurd (false≢true p)
imp_trans false y z p q = refl

-- ---- the code's connectives
pub and_code : (a b : Bool) → (a && b) ≡ (a and b)
unfolding ◌and◌
and_code true b = refl
and_code false b = refl

pub or_code : (a b : Bool) → (a || b) ≡ (a or b)
unfolding ◌or◌
or_code true b = refl
or_code false b = refl

pub non_code : (a : Bool) → not a ≡ non a
unfolding non
non_code true = refl
non_code false = refl

pub imp_code : (a b : Bool) → (non a or b) ≡ (a imp b)
unfolding ◌or◌ ◌imp◌ non
imp_code true b = refl
imp_code false b = refl

pub ruleset codes = (and_code, or_code, non_code)
