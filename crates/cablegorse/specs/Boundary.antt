-- What each exported function answers, for all bytes and numbers. Assumes nothing.
use Rattle.std.specs.Prelude.{Bool, cond, List, [], ◌∷◌, ℕ, eqb, length}
use Rattle.lists.specs.Papers.{paper}
use Rattle.locks.specs.Locks.{response_of, prepare_update_on, update_paper}
use Rattle.std.specs.Prelude.{Result, Option, Ok, Err, Some, None}
use Rattle.names.specs.declared.Place.{Place}
use Rattle.names.specs.declared.TableRefusal.{TableRefusal}
use Rattle.names.specs.declared.TableRefusal.TheVariants as table
use Rattle.names.specs.Answers.{number_of, place_at, name_at}
use Rattle.image.specs.declared.Spare.{Spare}
use Rattle.image.specs.Image.{read_on}
use Rattle.cablegorse.specs.declared.Told.{Told}
use Rattle.cablegorse.specs.Telling.{told_of, reading_told, named_told, class_number, Kept, kept, fitted}

unfoldable pub class_of : ℕ → ℕ
class_of n = class_number (response_of n)

-- ---- images: 17 to 20 with the offset, 12 with the rule; else what is told of the spare
unfoldable pub on_image : {A : Type 0} → List ℕ → (Told → A) → (Spare → A) → A
on_image s refused go = cond (eqb (reading_told (read_on s).told).number 0) (go (read_on s).spare) (refused (reading_told (read_on s).told))

abbrev pub summary : Spare → Told
summary sp = told_of (paper 0 (sp.state.revision ∷ (sp.expected ∷ (sp.state.actives ∷ (sp.state.defuncts ∷ [])))))

unfoldable pub test_of : List ℕ → Told
test_of s = on_image s (λ t. t) summary

unfoldable pub prepare_of : List ℕ → ℕ → Told
prepare_of s generation = on_image s (λ t. t) (λ sp. told_of (update_paper (prepare_update_on sp.state generation)))

-- ---- name tables: 27, 22, 23, or the number; the table at exit
unfoldable pub name_number_of : Bool → List ℕ → List ℕ → Kept
name_number_of folding t name = kept (named_told (number_of folding t name).told) (number_of folding t name).table

-- 27; 0 where the number has no name; else 1, the name's length and its bytes
abbrev pub name_put : List ℕ → List ℕ → Result (Option Place) TableRefusal → Kept
name_put name out (Err table.BadTable) = kept (told_of (paper 27 [])) out
name_put name out (Ok None) = kept (told_of (paper 0 (0 ∷ []))) out
name_put name out (Ok (Some p)) = fitted (told_of (paper 0 (1 ∷ (length name ∷ [])))) name out

unfoldable pub name_at_of : Bool → List ℕ → ℕ → List ℕ → Kept
name_at_of folding t number out = name_put (name_at folding t number) out (place_at folding t number)
