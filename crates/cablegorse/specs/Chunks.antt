-- A whole chunk of a feed at the boundary: what is told, and what is left in the lent buffer. The image after the last record that
-- was read is written, also where the next one can't be read (17 to 19); a refusal of the image, and an output that is too
-- short, write nothing. Assumes nothing.
use Rattle.std.specs.Prelude.{cond, List, [], ℕ, ltb, length}
use Rattle.lists.specs.Papers.{paper}
use Rattle.records.specs.Numbers.{stored}
use Rattle.feed.specs.declared.following.Run.{Run}
use Rattle.std.specs.Prelude.{Result, Ok, Err, ⊤}
use Rattle.feed.specs.declared.events.FeedRefusal.{FeedRefusal}
use Rattle.feed.specs.Feed.{event_paper}
use Rattle.feed.specs.Runs.{fresh, follow_on}
use Rattle.cablegorse.specs.declared.Told.{Told}
use Rattle.cablegorse.specs.declared.Followed.{Followed}
use Rattle.cablegorse.specs.Telling.{told_of, short_of}
use Rattle.cablegorse.specs.Boundary.{on_image}
use Rattle.cablegorse.specs.Changes.{image_bytes, size_of}

-- ---- the answer. part: 0 the image was refused, 1 a record can't be read, 2 the chunk ended, 3 the output is too short
abbrev pub followed : Told → ℕ → ℕ → ℕ → ℕ → ℕ → ℕ → Followed
followed t part expected place read applied written =
    record {
      number = t.number;
      count = t.count;
      v0 = t.v0;
      v1 = t.v1;
      v2 = t.v2;
      v3 = t.v3;
      v4 = t.v4;
      part = part;
      expected = expected;
      place = place;
      read = read;
      applied = applied;
      written = written;
    }

unfoldable pub stop_told : Result ⊤ FeedRefusal → Told
stop_told (Ok _) = told_of (paper 0 [])
stop_told (Err why) = told_of (event_paper (Err why))

unfoldable pub stop_part : Result ⊤ FeedRefusal → ℕ
stop_part (Ok _) = 2
stop_part (Err why) = 1

-- the answer, and the buffer as the call leaves it
pub record Chunked : Type 0 where
  pub told : Followed
  pub next : List ℕ

abbrev pub chunked : Followed → List ℕ → Chunked
chunked t n = record { told = t; next = n }

unfoldable pub run_put : Run → List ℕ → Chunked
run_put r n =
    cond (ltb (length n) (size_of r.spare)) (chunked (followed (short_of (size_of r.spare)) 3 0 0 0 0 0) n)
    (chunked (followed (stop_told r.stop) (stop_part r.stop) r.spare.expected r.place r.read r.applied (size_of r.spare)) (stored n 0 (image_bytes r.spare)))

unfoldable pub follow_of : List ℕ → List ℕ → List ℕ → Chunked
follow_of s f n = on_image s (λ t. chunked (followed t 0 0 0 0 0 0) n) (λ sp. run_put (follow_on (length f) (fresh sp) f) n)
