-- Answers as they cross the boundary: document 01's number ("Numbers of the answers") and the values beside it, of which no
-- answer has more than five. Each is made of the paper that its crate defines. Assumes nothing.
use Rattle.std.specs.Prelude.{cond, List, [], ◌∷◌, ◌++◌, ℕ, ltb, length, get_or, drop}
use Rattle.lists.specs.Papers.{Paper, paper}
use Rattle.locks.specs.declared.Response.{Response}
use Rattle.locks.specs.declared.Response.TheVariants as response
use Rattle.names.specs.declared.NameRefusal.{NameRefusal}
use Rattle.names.specs.declared.Named.{Named}
use Rattle.names.specs.Answers as names
use Rattle.std.specs.Prelude.{Result, Option, Some, None, ⊤}
use Rattle.image.specs.declared.ImageRefusal.{ImageRefusal}
use Rattle.image.specs.Image.{reading_paper}
use Rattle.cablegorse.specs.declared.Told.{Told}

-- the first five values, zeros after them
abbrev pub told_of : Paper → Told
told_of p =
    record {
      number = p.number;
      count = length p.values;
      v0 = get_or p.values 0 0;
      v1 = get_or p.values 1 0;
      v2 = get_or p.values 2 0;
      v3 = get_or p.values 3 0;
      v4 = get_or p.values 4 0;
    }

unfoldable pub reading_told : Result ⊤ ImageRefusal → Told
reading_told x = told_of (reading_paper x)

unfoldable pub named_told : Result Named NameRefusal → Told
named_told n = told_of (paper (names.paper_of n) (names.values_of n))

-- "The response class of a refusal number"
unfoldable pub class_number : Option Response → ℕ
class_number None = 0
class_number (Some response.BadRequest) = 1
class_number (Some response.Conflict) = 2
class_number (Some response.InternalServerError) = 3
class_number (Some response.Forbidden) = 4

-- ---- the answer, and a lent buffer as the call leaves it
pub record Kept : Type 0 where
  pub told : Told
  pub out : List ℕ

abbrev pub kept : Told → List ℕ → Kept
kept t out = record { told = t; out = out }

-- 21: "ShortOutput, bytes needed"
abbrev pub short_of : ℕ → Told
short_of n = told_of (paper 21 (n ∷ []))

-- the bytes b at the buffer's start, and the answer t; "a success keeps bytes past its output"
abbrev pub fitted : Told → List ℕ → List ℕ → Kept
fitted t b out = cond (ltb (length out) (length b)) (kept (short_of (length b)) out) (kept t (b ++ drop (length b) out))
