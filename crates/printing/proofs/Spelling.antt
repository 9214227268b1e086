-- Eight groups of four digits, read place by place, are an id's text. Assumes nothing.
use mathlib.Core.Path.{◌≡◌}
use mathlib.Core.List.{List, [], ◌∷◌}
use Prim.Native.Nat.{ℕ, ◌/◌, ◌^◌}
use lib.ListN.{get_or}
use Rattle.ids.specs.declared.LockId.{LockId}
use Rattle.printing.specs.Text.{four_of, id_text}

pub spelled : (id : LockId) {a b c d e f g h : List ℕ} → a ≡ four_of (id.hi / 2 ^ 48) → b ≡ four_of (id.hi / 2 ^ 32) → c ≡ four_of (id.hi / 2 ^ 16) → d ≡ four_of id.hi → e ≡ four_of (id.lo / 2 ^ 48) → f ≡ four_of (id.lo / 2 ^ 32) → g ≡ four_of (id.lo / 2 ^ 16) → h ≡ four_of id.lo → (get_or a 0 0 ∷ get_or a 1 0 ∷ get_or a 2 0 ∷ get_or a 3 0 ∷ get_or b 0 0 ∷ get_or b 1 0 ∷ get_or b 2 0 ∷ get_or b 3 0 ∷ 45 ∷ get_or c 0 0 ∷ get_or c 1 0 ∷ get_or c 2 0 ∷ get_or c 3 0 ∷ 45 ∷ get_or d 0 0 ∷ get_or d 1 0 ∷ get_or d 2 0 ∷ get_or d 3 0 ∷ 45 ∷ get_or e 0 0 ∷ get_or e 1 0 ∷ get_or e 2 0 ∷ get_or e 3 0 ∷ 45 ∷ get_or f 0 0 ∷ get_or f 1 0 ∷ get_or f 2 0 ∷ get_or f 3 0 ∷ get_or g 0 0 ∷ get_or g 1 0 ∷ get_or g 2 0 ∷ get_or g 3 0 ∷ get_or h 0 0 ∷ get_or h 1 0 ∷ get_or h 2 0 ∷ get_or h 3 0 ∷ []) ≡ id_text id
unfolding id_text four_of
spelled id p q r s t u v w = rw (p, q, r, s, t, u, v, w)
