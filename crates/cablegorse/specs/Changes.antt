-- Changes at the boundary: what each answers, and what it leaves in the lent buffers. A refusal of the image or of the record,
-- and an output that is too short, write nothing. A record that was applied writes the next image even where its operation was
-- refused, since the expected number moved on. Assumes nothing.
use Rattle.std.specs.Prelude.{Bool, true, false, cond, List, [], ◌∷◌, ℕ, ltb, length, take}
use Rattle.lists.specs.Tests.{◌or◌}
use Rattle.state.specs.declared.ScopeKey.{ScopeKey}
use Rattle.state.specs.Model.{model_of}
use Rattle.lists.specs.Papers.{paper}
use Rattle.std.specs.Prelude.{Result, Option, Ok, Err, Some, None}
use Rattle.locks.specs.declared.DroppingRefusal.{DroppingRefusal}
use Rattle.locks.specs.declared.DroppingRefusal.TheVariants.{RevisionOverflow, UnsoundState, Forbidden}
use Rattle.locks.specs.Locks.{Dropped}
use Rattle.locks.specs.Locks.{delete_defunct_on, dropping_paper}
use Rattle.records.specs.Numbers.{stored, bytes_of_all}
use Rattle.records.specs.Wire.{id, id_bytes}
use Rattle.image.specs.declared.Spare.{Spare}
use Rattle.image.specs.Image.{active_list, bytes_of_run, image_of}
use Rattle.feed.specs.declared.events.Told as fed
use Rattle.feed.specs.declared.events.Step.{Step}
use Rattle.feed.specs.Feed.{step_on, event_paper, is_applied}
use Rattle.cablegorse.specs.declared.Told.{Told}
use Rattle.cablegorse.specs.declared.Applied.{Applied}
use Rattle.cablegorse.specs.Telling.{told_of}
use Rattle.cablegorse.specs.Boundary.{on_image}
use Rattle.cablegorse.specs.Questions.{scoped_of}

-- ---- the answer. part: 0 the image was refused, 1 the record or an argument was, 2 applied, 3 an output is too short
abbrev pub applied : Told → ℕ → ℕ → ℕ → ℕ → ℕ → ℕ → Applied
applied t part sequence place written gone lapsed =
    record {
      number = t.number;
      count = t.count;
      v0 = t.v0;
      v1 = t.v1;
      v2 = t.v2;
      v3 = t.v3;
      v4 = t.v4;
      part = part;
      sequence = sequence;
      place = place;
      written = written;
      gone = gone;
      lapsed = lapsed;
    }

-- nothing was written
abbrev pub still : Told → ℕ → ℕ → ℕ → Applied
still t part sequence place = applied t part sequence place 0 0 0

-- 21 with the bytes needed in the three outputs
abbrev pub short_told : ℕ → ℕ → ℕ → Told
short_told a b c = told_of (paper 21 (a ∷ (b ∷ (c ∷ []))))

-- the image of a spare, and its size
abbrev pub image_bytes : Spare → List ℕ
image_bytes sp = image_of (model_of sp.state) sp.expected

abbrev pub size_of : Spare → ℕ
size_of sp = length (image_bytes sp)

-- ---- a record of a feed
-- the answer, and the three buffers as the call leaves them
pub record Changed : Type 0 where
  pub told : Applied
  pub next : List ℕ
  pub removed : List ℕ
  pub expired : List ℕ

abbrev pub changed : Applied → List ℕ → List ℕ → List ℕ → Changed
changed t n m x = record { told = t; next = n; removed = m; expired = x }

-- the removed locks as ACTIVE records, and the ids of the entries that expired
abbrev pub removed_bytes : fed.Told → List ℕ
removed_bytes t = bytes_of_run active_list (take t.gone t.removed)

abbrev pub expired_bytes : fed.Told → List ℕ
expired_bytes t = bytes_of_all id_bytes (take t.lapsed t.ids)

module _ (at : ℕ) (st : Step) (n m x : List ℕ) where
  unfoldable pub any_short : Bool
  any_short = ltb (length n) (size_of st.spare) or ltb (length m) (length (removed_bytes st.told)) or ltb (length x) (length (expired_bytes st.told))

  abbrev pub short_put : Changed
  short_put = changed (still (short_told (size_of st.spare) (length (removed_bytes st.told)) (length (expired_bytes st.told))) 3 st.told.sequence at) n m x

  abbrev pub whole_put : Changed
  whole_put =
      changed
      (applied (told_of (event_paper st.told.event)) 2 st.told.sequence st.told.next (size_of st.spare) (length (take st.told.gone st.told.removed)) (length (take st.told.lapsed st.told.ids)))
      (stored n 0 (image_bytes st.spare))
      (stored m 0 (removed_bytes st.told))
      (stored x 0 (expired_bytes st.told))

  unfoldable pub step_put : Changed
  step_put =
      cond (is_applied st.told.event) (cond any_short short_put whole_put)
      (changed (still (told_of (event_paper st.told.event)) 1 st.told.sequence st.told.next) n m x)

unfoldable pub apply_of : List ℕ → List ℕ → ℕ → List ℕ → List ℕ → List ℕ → Changed
apply_of s f at n m x = on_image s (λ t. changed (still t 0 0 at) n m x) (λ sp. step_put at (step_on sp f at) n m x)

-- ---- a deletion of a defunct entry
-- the answer, and the buffer as the call leaves it
pub record Left : Type 0 where
  pub told : Applied
  pub next : List ℕ

abbrev pub left : Applied → List ℕ → Left
left t n = record { told = t; next = n }

-- the entry is gone: true, or 8
unfoldable pub is_gone : Result Bool DroppingRefusal → Bool
is_gone (Ok true) = true
is_gone (Ok false) = false
is_gone (Err RevisionOverflow) = true
is_gone (Err (UnsoundState n)) = false
is_gone (Err Forbidden) = false

abbrev pub spare_after : ℕ → Dropped → Spare
spare_after e d = record { state = d.state; expected = e }

unfoldable pub drop_put : ℕ → Dropped → List ℕ → Left
drop_put e d n =
    cond (is_gone d.told)
    (cond (ltb (length n) (size_of (spare_after e d)))
    (left (still (short_told (size_of (spare_after e d)) 0 0) 3 0 0) n)
    (left (applied (told_of (dropping_paper d.told)) 2 0 0 (size_of (spare_after e d)) 0 0) (stored n 0 (image_bytes (spare_after e d)))))
    (left (still (told_of (dropping_paper d.told)) 2 0 0) n)

-- 19 for a scope that there is not
abbrev pub on_scoped_left : List ℕ → (ScopeKey → Left) → Option ScopeKey → Left
on_scoped_left n go None = left (still (told_of (paper 19 (0 ∷ []))) 1 0 0) n
on_scoped_left n go (Some k) = go k

unfoldable pub delete_of : List ℕ → ℕ → ℕ → ℕ → ℕ → ℕ → List ℕ → Left
delete_of s hi lo kind number subject n =
    on_image s (λ t. left (still t 0 0 0) n)
    (λ sp. on_scoped_left n (λ k. drop_put sp.expected (delete_defunct_on sp.state (id hi lo) k subject) n) (scoped_of kind number))
