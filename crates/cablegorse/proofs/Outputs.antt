-- Outputs of a change: each answer of the code is the definition's. Assumes nothing.
use mathlib.Core.Path.{◌≡◌, sym, ap, ◌∙◌}
use mathlib.Core.Bool.{Bool, true, false, not, cond, ◌||◌}
use mathlib.Core.List.{List, [], ◌∷◌}
use Prim.Native.Nat.{ℕ, ◌*◌, ◌≤◌, ◌<◌}
use native.Mathlib.Omega.{arith}
use lib.Dec.{ltb}
use lib.ListN.{length, take}
use borrow.Author.Tests.{lt-ltb, le-ltb, not-true, not-false}
use Rattle.lists.specs.Tests.{◌or◌}
use Rattle.lists.proofs.Tests.{or_code, cond_true, cond_false}
use Rattle.lists.specs.Papers.{paper}
use Rattle.locks.specs.Locks.{Dropped}
use Rattle.locks.specs.Locks.{dropping_paper}
use Rattle.records.specs.Numbers.{stored}
use Rattle.records.specs.Wire.{id_bytes}
use Rattle.records.proofs.Runs.{length_all, length_id}
use Rattle.image.specs.Image.{active_list}
use Rattle.image.proofs.Writes.{length_run, active_plain}
use Rattle.image.proofs.Stores.{Capped}
use Rattle.feed.specs.declared.events.Step.{Step}
use Rattle.feed.specs.declared.following.Run.{Run}
use Rattle.feed.specs.Feed.{event_paper, is_applied, is_unsound}
use Rattle.cablegorse.specs.declared.Told.{Told}
use Rattle.cablegorse.specs.declared.Applied.{Applied}
use Rattle.cablegorse.specs.declared.Followed.{Followed}
use Rattle.cablegorse.specs.Telling.{told_of}
use Rattle.cablegorse.specs.Changes.{applied, still, short_told, image_bytes, size_of, changed, removed_bytes, expired_bytes, any_short, short_put, whole_put, step_put, left, is_gone, spare_after, drop_put}
use Rattle.cablegorse.specs.Code.{step_shown}
use Rattle.cablegorse.specs.Chunks.{followed, stop_told, stop_part, chunked, run_put}

-- ---- the bytes of the locks removed and of the entries expired
pub gone_size : (st : Step) (g : ℕ) → Capped st.told.removed st.told.gone 64 g → g * 91 ≡ length (removed_bytes st.told)
gone_size st g e = ap (λ (k : ℕ). k * 91) (sym e.count) ∙ sym (length_run active_list active_plain (take st.told.gone st.told.removed))

pub lapsed_size : (st : Step) (l : ℕ) → Capped st.told.ids st.told.lapsed 128 l → l * 16 ≡ length (expired_bytes st.told)
lapsed_size st l e = ap (λ (k : ℕ). k * 16) (sym e.count) ∙ sym (length_all id_bytes 16 length_id (take st.told.lapsed st.told.ids))

-- ---- a record of a feed
module _ (at : ℕ) (st : Step) (n m x : List ℕ) (t : Told) (et : t ≡ told_of (event_paper st.told.event)) (b : Bool) (eb : b ≡ is_applied st.told.event) where
  pub not_applied : not b ≡ true → (r : Applied) → r ≡ still t 1 st.told.sequence st.told.next → changed r n m x ≡ step_put at st n m x
  unfolding step_put
  not_applied h r er =
      ap (λ (y : Applied). changed y n m x) (er ∙ ap (λ (y : Told). still y 1 st.told.sequence st.told.next) et)
      ∙ sym (cond_false _ _ _ (sym eb ∙ not-true b h))

  -- a, g and l: the bytes of the next image, the locks removed, the entries expired
  module _ (h : not b ≡ false) (a g l : ℕ) (ea : a ≡ size_of st.spare) (eg : Capped st.told.removed st.told.gone 64 g) (el : Capped st.told.ids st.told.lapsed 128 l) where
    applies : cond (any_short at st n m x) (short_put at st n m x) (whole_put at st n m x) ≡ step_put at st n m x
    unfolding step_put
    applies = sym (cond_true _ _ _ (sym eb ∙ not-false b h))

    short_test : ((ltb (length n) a || ltb (length m) (g * 91)) || ltb (length x) (l * 16)) ≡ any_short at st n m x
    unfolding any_short
    short_test =
        or_code (ltb (length n) a || ltb (length m) (g * 91)) (ltb (length x) (l * 16))
        ∙ ap (λ (z : Bool). z or ltb (length x) (l * 16)) (or_code (ltb (length n) a) (ltb (length m) (g * 91)))
        ∙ ap (λ (k : ℕ). (ltb (length n) k or ltb (length m) (g * 91)) or ltb (length x) (l * 16)) ea
        ∙ ap (λ (k : ℕ). (ltb (length n) (size_of st.spare) or ltb (length m) k) or ltb (length x) (l * 16)) (gone_size st g eg)
        ∙ ap (λ (k : ℕ). (ltb (length n) (size_of st.spare) or ltb (length m) (length (removed_bytes st.told))) or ltb (length x) k) (lapsed_size st l el)

    pub some_short : ((ltb (length n) a || ltb (length m) (g * 91)) || ltb (length x) (l * 16)) ≡ true → (s : Told) → s ≡ told_of (paper 21 (a ∷ (g * 91 ∷ (l * 16 ∷ [])))) → (r : Applied) → r ≡ still s 3 st.told.sequence at → changed r n m x ≡ step_put at st n m x
    some_short k s es r er =
        let e : s ≡ short_told (size_of st.spare) (length (removed_bytes st.told)) (length (expired_bytes st.told)) =
        es ∙ ap (λ (y : ℕ). short_told y (g * 91) (l * 16)) ea
        ∙ ap (λ (y : ℕ). short_told (size_of st.spare) y (l * 16)) (gone_size st g eg)
        ∙ ap (λ (y : ℕ). short_told (size_of st.spare) (length (removed_bytes st.told)) y) (lapsed_size st l el) in
        ap (λ (y : Applied). changed y n m x) (er ∙ ap (λ (y : Told). still y 3 st.told.sequence at) e)
        ∙ sym (cond_true _ _ _ (sym short_test ∙ k))
        ∙ applies

    pub all_put : ((ltb (length n) a || ltb (length m) (g * 91)) || ltb (length x) (l * 16)) ≡ false → (n' m' x' : List ℕ) → n' ≡ stored n 0 (image_bytes st.spare) → m' ≡ stored m 0 (removed_bytes st.told) → x' ≡ stored x 0 (expired_bytes st.told) → (r : Applied) → r ≡ applied t 2 st.told.sequence st.told.next a g l → changed r n' m' x' ≡ step_put at st n m x
    all_put f n' m' x' en em ex r er =
        let o : Told = told_of (event_paper st.told.event) in
        let sq : ℕ = st.told.sequence in
        let nx : ℕ = st.told.next in
        let sz : ℕ = size_of st.spare in
        let gn : ℕ = length (take st.told.gone st.told.removed) in
        let lp : ℕ = length (take st.told.lapsed st.told.ids) in
        let e : r ≡ applied o 2 sq nx sz gn lp =
        er ∙ ap (λ (y : Told). applied y 2 sq nx a g l) et
        ∙ ap (λ (y : ℕ). applied o 2 sq nx y g l) ea
        ∙ ap (λ (y : ℕ). applied o 2 sq nx sz y l) (sym eg.count)
        ∙ ap (λ (y : ℕ). applied o 2 sq nx sz gn y) (sym el.count) in
        ap (λ (y : Applied). changed y n' m' x') e
        ∙ ap (λ (y : List ℕ). changed (applied o 2 sq nx sz gn lp) y m' x') en
        ∙ ap (λ (y : List ℕ). changed (applied o 2 sq nx sz gn lp) (stored n 0 (image_bytes st.spare)) y x') em
        ∙ ap (λ (y : List ℕ). changed (applied o 2 sq nx sz gn lp) (stored n 0 (image_bytes st.spare)) (stored m 0 (removed_bytes st.told)) y) ex
        ∙ sym (cond_false _ _ _ (sym short_test ∙ f))
        ∙ applies

-- ---- 12 is the image's refusal
module _ (at : ℕ) (st : Step) (n m x : List ℕ) (b : Bool) (eb : b ≡ is_unsound st.told.event) where
  pub shown_unsound : b ≡ true → (t : Told) → t ≡ told_of (event_paper st.told.event) → (r : Applied) → r ≡ still t 0 0 at → changed r n m x ≡ step_shown at st n m x
  unfolding step_shown
  shown_unsound h t et r er = ap (λ (y : Applied). changed y n m x) (er ∙ ap (λ (y : Told). still y 0 0 at) et) ∙ sym (cond_true _ _ _ (sym eb ∙ h))

  pub shown_put : b ≡ false → step_put at st n m x ≡ step_shown at st n m x
  unfolding step_shown
  shown_put h = sym (cond_false _ _ _ (sym eb ∙ h))

-- ---- a deletion of a defunct entry
module _ (e : ℕ) (d : Dropped) (n : List ℕ) (t : Told) (et : t ≡ told_of (dropping_paper d.told)) (b : Bool) (eb : b ≡ is_gone d.told) where
  pub not_gone : not b ≡ true → (r : Applied) → r ≡ still t 2 0 0 → left r n ≡ drop_put e d n
  unfolding drop_put
  not_gone h r er = ap (λ (y : Applied). left y n) (er ∙ ap (λ (y : Told). still y 2 0 0) et) ∙ sym (cond_false _ _ _ (sym eb ∙ not-true b h))

  module _ (h : not b ≡ false) (a : ℕ) (ea : a ≡ size_of (spare_after e d)) where
    pub next_short : length n < a → (s : Told) → s ≡ told_of (paper 21 (a ∷ (0 ∷ (0 ∷ [])))) → (r : Applied) → r ≡ still s 3 0 0 → left r n ≡ drop_put e d n
    unfolding drop_put
    next_short k s es r er =
        ap (λ (y : Applied). left y n) (er ∙ ap (λ (y : Told). still y 3 0 0) (es ∙ ap (λ (y : ℕ). short_told y 0 0) ea))
        ∙ sym (cond_true _ _ _ (lt-ltb (length n) (size_of (spare_after e d)) (omega arith)))
        ∙ sym (cond_true _ _ _ (sym eb ∙ not-false b h))

    pub next_put : a ≤ length n → (n' : List ℕ) → n' ≡ stored n 0 (image_bytes (spare_after e d)) → (r : Applied) → r ≡ applied t 2 0 0 a 0 0 → left r n' ≡ drop_put e d n
    unfolding drop_put
    next_put f n' en r er =
        let o : Told = told_of (dropping_paper d.told) in
        ap (λ (y : Applied). left y n') (er ∙ ap (λ (y : Told). applied y 2 0 0 a 0 0) et ∙ ap (λ (y : ℕ). applied o 2 0 0 y 0 0) ea)
        ∙ ap (λ (y : List ℕ). left (applied o 2 0 0 (size_of (spare_after e d)) 0 0) y) en
        ∙ sym (cond_false _ _ _ (le-ltb (length n) (size_of (spare_after e d)) (omega arith)))
        ∙ sym (cond_true _ _ _ (sym eb ∙ not-false b h))

-- ---- a chunk
module _ (run : Run) (n : List ℕ) (a : ℕ) (ea : a ≡ size_of run.spare) where
  pub run_short : length n < a → (s : Told) → s ≡ told_of (paper 21 (a ∷ [])) → (r : Followed) → r ≡ followed s 3 0 0 0 0 0 → chunked r n ≡ run_put run n
  unfolding run_put
  run_short k s es r er =
      ap (λ (y : Followed). chunked y n) (er ∙ ap (λ (y : Told). followed y 3 0 0 0 0 0) (es ∙ ap (λ (y : ℕ). told_of (paper 21 (y ∷ []))) ea))
      ∙ sym (cond_true _ _ _ (lt-ltb (length n) (size_of run.spare) (omega arith)))

  pub run_put_lem : a ≤ length n → (n' : List ℕ) → n' ≡ stored n 0 (image_bytes run.spare) → (t : Told) → t ≡ stop_told run.stop → (p : ℕ) → p ≡ stop_part run.stop
      → (r : Followed) → r ≡ followed t p run.spare.expected run.place run.read run.applied a → chunked r n' ≡ run_put run n
  unfolding run_put
  run_put_lem f n' en t et p ep r er =
      let o : Told = stop_told run.stop in
      ap (λ (y : Followed). chunked y n')
      (er ∙ ap (λ (y : Told). followed y p run.spare.expected run.place run.read run.applied a) et
      ∙ ap (λ (y : ℕ). followed o y run.spare.expected run.place run.read run.applied a) ep
      ∙ ap (λ (y : ℕ). followed o (stop_part run.stop) run.spare.expected run.place run.read run.applied y) ea)
      ∙ ap (λ (y : List ℕ). chunked (followed o (stop_part run.stop) run.spare.expected run.place run.read run.applied (size_of run.spare)) y) en
      ∙ sym (cond_false _ _ _ (le-ltb (length n) (size_of run.spare) (omega arith)))
