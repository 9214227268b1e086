-- Name tables at the boundary, answer by answer. Assumes nothing.
use mathlib.Core.Path.{◌≡◌, sym, ap, ◌∙◌}
use mathlib.Core.Bool.{Bool}
use mathlib.Core.List.{List, [], ◌∷◌, ◌++◌}
use Prim.Native.Nat.{ℕ, ◌+◌, ◌-◌, ◌≤◌, ◌<◌}
use native.Mathlib.Omega.{arith}
use lib.ListN.{length, take, drop, length-take, length-drop}
use lib.Seq.{take-length}
use borrow.Author.Tests.{le-ltb}
use Rattle.lists.proofs.Tests.{cond_false}
use Rattle.lists.specs.Papers.{paper}
use Rattle.std.specs.Prelude.{Result, Option, Ok, Err, Some, None}
use Rattle.names.specs.declared.Named.{Named}
use Rattle.names.specs.declared.NameRefusal.{NameRefusal}
use Rattle.names.specs.declared.Place.{Place}
use Rattle.names.specs.declared.TableRefusal.{TableRefusal}
use Rattle.names.specs.declared.TableRefusal.TheVariants as table
use Rattle.names.specs.Answers as names
use Rattle.names.specs.Answers.{number_of, place_at, name_at}
use Rattle.names.proofs.Theorems.{part_told}
use Rattle.cablegorse.specs.declared.Told.{Told}
use Rattle.cablegorse.specs.Telling.{told_of, named_told, kept, fitted}
use Rattle.cablegorse.specs.Boundary.{name_number_of, name_put, name_at_of}
use Rattle.cablegorse.proofs.Buffers.{too_short}

pub named : (f : Bool) (t name : List ℕ) (n : Result Named NameRefusal) (u : List ℕ) (r : Told) → names.done n u ≡ number_of f t name → r ≡ named_told n → kept r u ≡ name_number_of f t name
unfolding name_number_of
named f t name n u r e q = ap (λ (x : Told). kept x u) q ∙ ap (λ (d : names.Done). kept (named_told d.told) d.table) e

pub inside : (f : Bool) (t : List ℕ) (i : ℕ) (p : Result (Option Place) TableRefusal) (s l : ℕ) → p ≡ place_at f t i → p ≡ Ok (Some (names.place s l)) → s + l ≤ length t
inside f t i p s l e h = (part_told f t i s l (sym e ∙ h)).0

-- ---- a number's name: p is where it stands
module _ (f : Bool) (t : List ℕ) (i : ℕ) (out : List ℕ) (p : Result (Option Place) TableRefusal) (e : p ≡ place_at f t i) (r : Told) where
  by_place : name_put (name_at f t i) out p ≡ name_at_of f t i out
  unfolding name_at_of
  by_place = ap (name_put (name_at f t i) out) e

  pub no_table : (x : TableRefusal) → p ≡ Err x → r ≡ told_of (paper 27 []) → kept r out ≡ name_at_of f t i out
  no_table table.BadTable h q = ap (λ (x : Told). kept x out) q ∙ ap (name_put (name_at f t i) out) (sym h) ∙ by_place

  pub no_name : p ≡ Ok None → r ≡ told_of (paper 0 (0 ∷ [])) → kept r out ≡ name_at_of f t i out
  no_name h q = ap (λ (x : Told). kept x out) q ∙ ap (name_put (name_at f t i) out) (sym h) ∙ by_place

  module _ (s l : ℕ) (h : p ≡ Ok (Some (names.place s l))) where
    at_place : place_at f t i ≡ Ok (Some (names.place s l))
    at_place = sym e ∙ h

    name_size : length (name_at f t i) ≡ l
    name_size = ap length (part_told f t i s l at_place).1 ∙ length-take l (drop s t) ∙ omega (arith, length-drop s t, (part_told f t i s l at_place).0)

    found : fitted (told_of (paper 0 (1 ∷ (length (name_at f t i) ∷ [])))) (name_at f t i) out ≡ name_at_of f t i out
    found = ap (name_put (name_at f t i) out) (sym h) ∙ by_place

    pub name_short : length out < l → r ≡ told_of (paper 21 (l ∷ [])) → kept r out ≡ name_at_of f t i out
    name_short k q = too_short _ (name_at f t i) out l (sym name_size) k r q ∙ found

    -- b is the part of the table that was copied
    pub name_copied : l ≤ length out → (n : ℕ) (u b : List ℕ) → b ≡ take (s + l - s) (drop s t) → n ≡ length b → u ≡ take (length b) b ++ drop (length b) out → r ≡ told_of (paper 0 (1 ∷ (n ∷ []))) → kept r u ≡ name_at_of f t i out
    name_copied k n u b eb en eu q =
        let m : s + l - s ≡ l = omega arith in
        let w : b ≡ name_at f t i = eb ∙ ap (λ (x : ℕ). take x (drop s t)) m ∙ sym (part_told f t i s l at_place).1 in
        ap (λ (x : Told). kept x u) (q ∙ ap (λ (x : ℕ). told_of (paper 0 (1 ∷ (x ∷ [])))) en)
        ∙ ap (kept (told_of (paper 0 (1 ∷ (length b ∷ []))))) (eu ∙ ap (λ (x : List ℕ). x ++ drop (length b) out) (take-length b))
        ∙ ap (λ (x : List ℕ). kept (told_of (paper 0 (1 ∷ (length x ∷ [])))) (x ++ drop (length x) out)) w
        ∙ sym (cond_false _ _ _ (le-ltb (length out) (length (name_at f t i)) (omega (arith, name_size))))
        ∙ found
