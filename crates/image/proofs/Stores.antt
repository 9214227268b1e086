-- Counts past a limit, the size of an image, and a run stored from a buffer's start on. Assumes nothing.
use mathlib.Core.Path.{◌≡◌, refl, sym, ap, ap₂, ◌∙◌}
use mathlib.Core.Bool.{Bool, true, false, cond}
use mathlib.Core.List.{List}
use Prim.Native.Nat.{ℕ, ◌+◌, ◌*◌, ◌≤◌, ◌<◌, min}
use native.Mathlib.Nat.{min-eq_left, min-eq_right, min-le_right}
use native.Mathlib.Omega.{arith}
use lib.ListN.{length, take}
use lib.Seq.{take_all, length-take-le}
use lib.Dec.{leb}
use borrow.Author.Tests.{le-leb, lt-leb, leb-true, leb-false}
use Rattle.lists.proofs.Tests.{cond_true, cond_false}
use Rattle.records.specs.Numbers.{splice, stored, bytes_of_all}
use Rattle.records.specs.Codecs.{encode_by}
use Rattle.records.specs.Framing.{record_of}
use Rattle.records.specs.Wire as wire
use Rattle.records.proofs.Runs.{length_all}
use Rattle.state.specs.declared.ActiveLock.{ActiveLock}
use Rattle.state.specs.declared.DefunctLock.{DefunctLock}
use Rattle.state.specs.Model.{Model, model_of}
use Rattle.image.specs.declared.Spare.{Spare}
use Rattle.image.specs.Image.{active_list, defunct_list, bytes_of_run, head_of, image_of}
use Rattle.image.proofs.Writes.{head_plain, active_plain, defunct_plain, length_whole, length_run, length_image, pieces}

-- ---- the first n of a list that has `most` elements are the first r
pub record Capped {A : Type 0} (l : List A) (n most r : ℕ) : Type 0 where
  pub small : r ≤ most
  pub same : take r l ≡ take n l
  pub count : length (take n l) ≡ r

pub capped : {A : Type 0} (l : List A) (n most r : ℕ) → length l ≡ most → r ≡ min n most → Capped l n most r
capped l n most r e q = go (leb n most) refl
  where
    go : (b : Bool) → leb n most ≡ b → Capped l n most r
    go true t =
        let h : n ≤ most = leb-true n most t in
        let w : r ≡ n = q ∙ min-eq_left h in
        record { small = omega arith; same = ap (λ (k : ℕ). take k l) w; count = length-take-le n l (omega arith) ∙ sym w }
    go false t =
        let h : most < n = leb-false n most t in
        let w : r ≡ most = q ∙ min-eq_right (omega arith) in
        let s : take r l ≡ take n l = take_all r l (omega arith) ∙ sym (take_all n l (omega arith)) in
        record { small = omega arith; same = s; count = ap length (take_all n l (omega arith)) ∙ omega arith }

pub cap_small : (n most r : ℕ) → r ≡ min n most → r ≤ most
cap_small n most r q = omega (arith, q, min-le_right n most)

-- ---- the spare's image, by the two lists that the code takes from its state
module _ (sp : Spare) (xs : List ActiveLock) (ys : List DefunctLock) (ex : xs ≡ (model_of sp.state).active) (ey : ys ≡ (model_of sp.state).defunct) where
  abbrev image : List ℕ
  image = image_of (model_of sp.state) sp.expected

  pub size_of : 20 + length xs * 91 + length ys * 104 ≡ length image
  size_of = omega (arith, length_image (model_of sp.state) sp.expected, ap length ex, ap length ey)

  pub no_room : (out : List ℕ) → length out < 20 + length xs * 91 + length ys * 104 → out ≡ stored out 0 image
  unfolding stored
  no_room out h = sym (cond_false _ _ _ (lt-leb (0 + length image) (length out) (omega (arith, size_of))))

  pub image_stored : (out : List ℕ) → 20 + length xs * 91 + length ys * 104 ≤ length out → (s₁ s₂ s₃ : List ℕ)
      → s₁ ≡ stored out 0 (record_of 1 (encode_by wire.head (record { revision = sp.state.revision; expected = sp.expected; actives = length xs; defuncts = length ys })))
      → s₂ ≡ splice s₁ 20 (bytes_of_run active_list xs)
      → s₃ ≡ splice s₂ (20 + length xs * 91) (bytes_of_run defunct_list ys)
      → s₃ ≡ stored out 0 image
  unfolding stored image_of
  image_stored out h s₁ s₂ s₃ e₁ e₂ e₃ =
      let head : List ℕ = record_of 1 (encode_by wire.head (record { revision = sp.state.revision; expected = sp.expected; actives = length xs; defuncts = length ys })) in
      let lh : length head ≡ 20 = length_whole wire.head head_plain (record { revision = sp.state.revision; expected = sp.expected; actives = length xs; defuncts = length ys }) in
      let lx : length (bytes_of_run active_list xs) ≡ length xs * 91 = length_run active_list active_plain xs in
      let ly : length (bytes_of_run defunct_list ys) ≡ length ys * 104 = length_run defunct_list defunct_plain ys in
      let held : image_of (record { revision = sp.state.revision; active = xs; defunct = ys }) sp.expected ≡ image = λ i. image_of (record { revision = sp.state.revision; active = ex i; defunct = ey i }) sp.expected in
      e₃ ∙ ap (λ (x : List ℕ). splice x (20 + length xs * 91) (bytes_of_run defunct_list ys)) (e₂ ∙ ap (λ (x : List ℕ). splice x 20 (bytes_of_run active_list xs)) (e₁ ∙ cond_true _ _ _ (le-leb (0 + length head) (length out) (omega arith))))
      ∙ pieces out head (bytes_of_run active_list xs) (bytes_of_run defunct_list ys) 20 (20 + length xs * 91) lh (omega arith) (omega arith)
      ∙ ap (splice out 0) held
      ∙ sym (cond_true _ _ _ (le-leb (0 + length image) (length out) (omega (arith, size_of))))

-- ---- a list stored from the buffer's start on: f gives an element's bytes, z of them
module _ {R : Type 0} (f : R → List ℕ) (z : ℕ) (w : (r : R) → length (f r) ≡ z) (s : List ℕ) (l : List R) where
  pub none_stored : length s < length l * z → s ≡ stored s 0 (bytes_of_all f l)
  unfolding stored
  none_stored h = sym (cond_false _ _ _ (lt-leb (0 + length (bytes_of_all f l)) (length s) (omega (arith, length_all f z w l))))

  pub run_stored : length l * z ≤ length s → (u : List ℕ) → u ≡ splice s 0 (bytes_of_all f l) → u ≡ stored s 0 (bytes_of_all f l)
  unfolding stored
  run_stored h u e = e ∙ sym (cond_true _ _ _ (le-leb (0 + length (bytes_of_all f l)) (length s) (omega (arith, length_all f z w l))))

-- ---- f gives an element's bytes, z of them; k is the count that was stored
module _ {R : Type 0} (f : R → List ℕ) (z : ℕ) (w : (r : R) → length (f r) ≡ z) (s : List ℕ) (l : List R) (n most k : ℕ) (g : Capped l n most k) where
  all_size : length (bytes_of_all f (take n l)) ≡ k * z
  all_size = length_all f z w (take n l) ∙ ap (λ (m : ℕ). m * z) g.count

  pub not_stored : length s < k * z → s ≡ stored s 0 (bytes_of_all f (take n l))
  unfolding stored
  not_stored h = sym (cond_false _ _ _ (lt-leb (0 + length (bytes_of_all f (take n l))) (length s) (omega (arith, all_size))))

  pub all_stored : k * z ≤ length s → (u : List ℕ) → u ≡ splice s 0 (bytes_of_all f (take k l)) → u ≡ stored s 0 (bytes_of_all f (take n l))
  unfolding stored
  all_stored h u e = e ∙ ap (λ (x : List R). splice s 0 (bytes_of_all f x)) g.same ∙ sym (cond_true _ _ _ (le-leb (0 + length (bytes_of_all f (take n l))) (length s) (omega (arith, all_size))))
