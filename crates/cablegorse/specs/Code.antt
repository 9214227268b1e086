-- What only the contracts of the crate's own functions name: a reader of the boundary need not believe or read any of it.
use Rattle.std.specs.Prelude.{cond, List, ℕ, length, [], ◌∷◌}
use Rattle.lists.specs.Papers.{paper}
use Rattle.state.specs.declared.LockState.{LockState}
use Rattle.lookups.specs.Reads.{on_sound}
use Rattle.records.specs.declared.requests.Request.{Request}
use Rattle.records.specs.Sending.{request_bytes, needed_on}
use Rattle.image.specs.declared.Spare.{Spare}
use Rattle.feed.specs.declared.events.Step.{Step}
use Rattle.feed.specs.Feed.{step_on, event_paper, is_unsound}
use Rattle.cablegorse.specs.declared.Told.{Told}
use Rattle.cablegorse.specs.declared.Applied.{Applied}
use Rattle.cablegorse.specs.declared.sending.Sizes.{Sizes}
use Rattle.cablegorse.specs.Telling.{told_of}
use Rattle.cablegorse.specs.Changes.{still, Changed, changed, step_put, size_of, removed_bytes, expired_bytes}
use Rattle.cablegorse.specs.Sending.{Performed, quiet, own_put_lem, needed_put}

-- a step over the records of an image that is not tested yet: 12 is the image's refusal
unfoldable pub step_shown : ℕ → Step → List ℕ → List ℕ → List ℕ → Changed
step_shown at st n m x = cond (is_unsound st.told.event) (changed (still (told_of (event_paper st.told.event)) 0 0 at) n m x) (step_put at st n m x)

-- the bytes of a step's outputs
abbrev pub sizes_in : Step → Sizes
sizes_in st = record { image = size_of st.spare; locks = length (removed_bytes st.told); ids = length (expired_bytes st.told) }

-- what was asked is refused, but 12 comes first
unfoldable pub refused_told : LockState → Told → Applied
refused_told s t = on_sound s (λ n. still (told_of (paper 12 (n ∷ []))) 0 0 0) (still t 1 0 0)

-- the primary's own record over such an image; and a request
unfoldable pub own_shown : Step → List ℕ → List ℕ → List ℕ → List ℕ → List ℕ → Performed
own_shown st bytes n m x f = cond (is_unsound st.told.event) (quiet n m x f (still (told_of (event_paper st.told.event)) 0 0 0)) (own_put_lem n m x f st bytes)

abbrev pub own_of : Spare → Request → List ℕ → List ℕ → List ℕ → List ℕ → List ℕ → Performed
own_of sp r ws n m x f = own_shown (step_on sp (request_bytes sp.expected r ws) 0) (request_bytes sp.expected r ws) n m x f

unfoldable pub request_shown : Spare → Request → List ℕ → List ℕ → List ℕ → List ℕ → List ℕ → Performed
request_shown sp r ws n m x f = on_sound sp.state (λ k. quiet n m x f (still (told_of (paper 12 (k ∷ []))) 0 0 0)) (needed_put n m x f sp r ws (needed_on r ws))
