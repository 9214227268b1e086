-- A board as 256 entries of 17 bytes: made entry by entry, and read so. Assumes nothing.
use Rattle.std.proofs.Common.{◌≡◌, ℕ, zero, suc, ◌+◌, ◌*◌, ◌<◌, ◌≤◌, ltb, List, ◌++◌, length, take, drop, sym, refl, ap, ◌∙◌, ap₂, arith, length-append, take-append-drop, drop_of_length-le, drop-drop, take_at, ltb-false, ltb-true}
use lib.Seq.{drop-append-add}
use Rattle.lists.proofs.Tests.{by}
use Rattle.names.proofs.Puts.{part_before, drop_there, drop_after}
use Rattle.state.specs.declared.ActiveLock.{ActiveLock}
use Rattle.records.specs.Numbers.{splice, bytes_of_all}
use Rattle.records.proofs.Numbers.{length_part}
use Rattle.records.proofs.Runs.{length_id}
use Rattle.board.specs.Board.{lowest_on, entry_of, count_from, board_by, board_of, entry_at}

-- ---- over any run of numbers
same_from : (f g : ℕ → List ℕ) (e n : ℕ) → ((i : ℕ) → e ≤ i → i < e + n → f i ≡ g i) → bytes_of_all f (count_from e n) ≡ bytes_of_all g (count_from e n)
unfolding count_from bytes_of_all
same_from f g e zero h = refl
same_from f g e (suc n) h = ap₂ {C = List ℕ} (λ a b. a ++ b) (h e (omega arith) (omega arith)) (same_from f g (suc e) n (λ i j k. h i (omega arith) (omega arith)))

module _ (f : ℕ → List ℕ) where
  size_from : (e n : ℕ) → ((i : ℕ) → i < e + n → length (f i) ≡ 17) → length (bytes_of_all f (count_from e n)) ≡ n * 17
  unfolding count_from bytes_of_all
  size_from e zero w = refl
  size_from e (suc n) w = length-append (f e) (bytes_of_all f (count_from (suc e) n)) ∙ omega (arith, w e (omega arith), size_from (suc e) n (λ i k. w i (omega arith)))

  row_from : (e n i : ℕ) → ((i : ℕ) → i < e + n → length (f i) ≡ 17) → i < n → entry_at (bytes_of_all f (count_from e n)) i ≡ f (e + i)
  unfolding count_from bytes_of_all
  row_from e zero i w h = absurd (omega arith)
  row_from e (suc n) zero w h = take_at (f e) (bytes_of_all f (count_from (suc e) n)) 17 (w e (omega arith)) ∙ ap f (omega arith)
  row_from e (suc n) (suc i) w h =
      let k : suc i * 17 ≡ length (f e) + i * 17 = omega (arith, w e (omega arith)) in
      ap (λ (j : ℕ). take 17 (drop j (f e ++ bytes_of_all f (count_from (suc e) n)))) k
      ∙ ap (take 17) (drop-append-add (f e) (bytes_of_all f (count_from (suc e) n)) (i * 17))
      ∙ row_from (suc e) n i (λ i k. w i (omega arith)) (omega arith)
      ∙ ap f (omega arith)

rows_from : (b : List ℕ) (e n : ℕ) → length b ≡ (e + n) * 17 → bytes_of_all (entry_at b) (count_from e n) ≡ drop (e * 17) b
unfolding count_from bytes_of_all
rows_from b e zero h = sym (drop_of_length-le b {i = e * 17} (omega arith))
rows_from b e (suc n) h =
    let k : suc e * 17 ≡ e * 17 + 17 = omega arith in
    ap (λ (l : List ℕ). entry_at b e ++ l) (rows_from b (suc e) n (omega arith) ∙ ap (λ (j : ℕ). drop j b) k ∙ sym (drop-drop 17 (e * 17) b))
    ∙ take-append-drop 17 (drop (e * 17) b)

-- ---- over the 256
module _ (f : ℕ → List ℕ) (w : (e : ℕ) → e < 256 → length (f e) ≡ 17) where
  pub size_by : length (board_by f) ≡ 4352
  unfolding board_by
  size_by = size_from f 0 256 (λ e k. w e (omega arith))

  pub entry_by : (e : ℕ) → e < 256 → entry_at (board_by f) e ≡ f e
  unfolding board_by
  entry_by e h = row_from f 0 256 e (λ e k. w e (omega arith)) h ∙ ap f (omega arith)

pub by_entries : (b : List ℕ) → length b ≡ 4352 → board_by (entry_at b) ≡ b
unfolding board_by
by_entries b h = rows_from b 0 256 h

pub by_same : (f g : ℕ → List ℕ) → ((e : ℕ) → e < 256 → f e ≡ g e) → board_by f ≡ board_by g
unfolding board_by
by_same f g h = same_from f g 0 256 (λ e j k. h e (omega arith))

-- a buffer whose entries are known
pub made_by : (b : List ℕ) (f : ℕ → List ℕ) → length b ≡ 4352 → ((e : ℕ) → e < 256 → entry_at b e ≡ f e) → b ≡ board_by f
made_by b f l h = sym (by_entries b l) ∙ by_same (entry_at b) f h

-- ---- the entries
pub size_entry : (l : List ActiveLock) (e : ℕ) → length (entry_of l e) ≡ 17
unfolding entry_of
size_entry l e = ap suc (length_id (lowest_on l e))

pub size_at : (b : List ℕ) (e : ℕ) → length b ≡ 4352 → e < 256 → length (entry_at b e) ≡ 17
size_at b e h k = length_part b (e * 17) 17 (omega arith)

pub size_board : (l : List ActiveLock) → length (board_of l) ≡ 4352
size_board l = size_by (entry_of l) (λ e k. size_entry l e)

-- ---- an entry stored in a buffer is that one; the others stay
module _ (b x : List ℕ) (e : ℕ) (l : length b ≡ 4352) (h : e < 256) (w : length x ≡ 17) where
  pub stored_here : entry_at (splice b (e * 17) x) e ≡ x
  stored_here = ap (take 17) (drop_there b x (e * 17) (omega arith)) ∙ take_at x (drop (e * 17 + length x) b) 17 w

  pub stored_off : (k : ℕ) → (k ≡ e → ⊥) → entry_at (splice b (e * 17) x) k ≡ entry_at b k
  stored_off k n =
      by (ltb k e) (entry_at (splice b (e * 17) x) k ≡ entry_at b k)
      (λ t. let q = ltb-true k e t in part_before b x (e * 17) (omega arith) (k * 17) 17 (omega arith))
      (λ t. let q = ltb-false k e t in ap (take 17) (drop_after b x (e * 17) (omega arith) (k * 17) (omega arith)))
