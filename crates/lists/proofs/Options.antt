-- What an optional value is and isn't.
use Rattle.std.proofs.Common.{◌≡◌, T, ap, subst, sym}
use Rattle.std.specs.Prelude.{Option, None, Some, is_some}
use Rattle.std.specs.Option.{unwrap_or}

pub None_ne_Some : {A : Type 0} (x : A) → ◌≡◌ {A = Option A} None (Some x) → ⊥
None_ne_Some x e = let h : ◌≡◌ {A = Option _} (Some x) None = sym e in subst T (ap is_some h) tt

pub Some_ne_None : {A : Type 0} (x : A) → ◌≡◌ {A = Option A} (Some x) None → ⊥
Some_ne_None x e = subst T (ap is_some e) tt

pub Some_injective : {A : Type 0} (x y : A) → Some x ≡ Some y → x ≡ y
Some_injective x y e = ap (λ o. unwrap_or o x) e
