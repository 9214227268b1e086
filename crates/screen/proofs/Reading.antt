-- The board that is shown, and the id in sixteen of its bytes. Assumes nothing.
use mathlib.Core.Path.{◌≡◌, sym, ap, ◌∙◌}
use mathlib.Core.List.{List, [], ◌∷◌, ◌++◌, append-nil}
use Prim.Native.Nat.{ℕ, ◌≤◌}
use native.Mathlib.Omega.{arith}
use lib.ListN.{length, get_or, drop_of_length-le}
use lib.Seq.{take_all}
use Rattle.lists.specs.Places.{in_places}
use Rattle.state.specs.declared.LockState.{LockState}
use Rattle.state.specs.Model.{model_of}
use Rattle.std.specs.Prelude.{Result, Ok}
use Rattle.rules.specs.Rules.{broken_rule}
use Rattle.records.specs.Numbers.{big, bytes_of, field}
use Rattle.records.specs.Layouts.{pack}
use Rattle.records.specs.Feeds.{words_in}
use Rattle.records.specs.Wire.{id, id_bytes}
use Rattle.records.proofs.Numbers.{Bytes}
use Rattle.records.proofs.Layouts.{pack_fields}
use Rattle.image.specs.declared.WriteRefusal.{WriteRefusal}
use Rattle.board.specs.Board.{board_of}
use Rattle.board.specs.Forms.{Boarded, boarded, fresh_on}
use Rattle.board.proofs.Theorems.{fresh_is}

-- nothing stands after it in a buffer of its size
pub board_alone : (s : LockState) (out : List ℕ) {r : (Result ℕ WriteRefusal)} {o : List ℕ} → broken_rule s ≡ Ok tt → length out ≡ 4352 → boarded r o ≡ fresh_on s out → o ≡ board_of (model_of s).active
board_alone s out e l f =
    let h : length out ≤ 4352 = omega arith in
    ap (λ (w : Boarded (Result ℕ WriteRefusal)). w.board) (f ∙ fresh_is s e out (omega arith))
    ∙ ap (λ (rest : List ℕ). board_of (model_of s).active ++ rest) (drop_of_length-le out h)
    ∙ append-nil (board_of (model_of s).active)

-- sixteen bytes are two words
words_in_lem : (s : List ℕ) → length s ≡ 16 → words_in s ≡ field (big 8) s 0 ∷ field (big 8) s 8 ∷ []
unfolding words_in
words_in_lem s l = rw l

pub id_of_words : (s : List ℕ) {w : List ℕ} → Bytes s → length s ≡ 16 → w ≡ in_places 128 0 (words_in s) → id_bytes (id (get_or w 0 0) (get_or w 1 0)) ≡ s
unfolding pack
id_of_words s y l e =
    rw (e, words_in_lem s l)
    (ap (λ (b : List ℕ). bytes_of (big 8) (field (big 8) s 0) ++ b) (sym (append-nil (bytes_of (big 8) (field (big 8) s 8))))
    ∙ pack_fields (big 8 ∷ big 8 ∷ []) s 0 y (omega arith)
    ∙ take_all 16 s (omega arith))
