-- The primary at the boundary. Document 02, C-12: "operation and sequence in, bytes out"; and "A primary that numbers its records
-- in turn from its expected sequence, applies each operation it writes and nothing else": in one call the record is written and
-- applied. That this is the operation done directly is a theorem (crates/doors, proofs/Own.antt). Assumes nothing.
use Rattle.std.specs.Prelude.{Bool, cond, List, [], ◌∷◌, ℕ, eqb, leb, ltb, length}
use Rattle.lists.specs.Tests.{◌and◌, ◌or◌}
use Rattle.lists.specs.Papers.{paper}
use Rattle.state.specs.declared.ActiveLock.{ActiveLock}
use Rattle.records.specs.declared.requests.Request.{Request}
use Rattle.records.specs.declared.requests.Request.TheVariants as request
use Rattle.std.specs.Prelude.{Result, Ok, Err}
use Rattle.records.specs.declared.sending.Unsent.{Unsent}
use Rattle.records.specs.Numbers.{splice}
use Rattle.records.specs.Wire.{id, scope_of}
use Rattle.records.specs.Sending.{request_bytes, needed_on, send_on, sent_paper}
use Rattle.image.specs.declared.Spare.{Spare}
use Rattle.feed.specs.declared.events.Step.{Step}
use Rattle.feed.specs.Feed.{step_on, is_applied}
use Rattle.cablegorse.specs.declared.Told.{Told}
use Rattle.cablegorse.specs.declared.Applied.{Applied}
use Rattle.cablegorse.specs.declared.Operation.{Operation}
use Rattle.cablegorse.specs.Telling.{told_of, Kept, kept}
use Rattle.cablegorse.specs.Boundary.{on_image}
use Rattle.cablegorse.specs.Changes.{still, Changed, size_of, removed_bytes, expired_bytes, any_short, step_put}

-- ---- the operation as numbers: 18 for a kind that no feed has, 19 for a number that its field can't have
abbrev pub bad_asked : Result Request Told
bad_asked = Err (told_of (paper 19 (0 ∷ [])))

abbrev pub lock_right : Operation → Bool
lock_right o = leb o.scope 2 and leb o.exclusive 1 and leb o.coverage 1 and leb o.child 1

-- its lock; parts that don't apply are taken as zero by the writer and by the operation
abbrev pub lock_in : Operation → ActiveLock
lock_in o =
    record {
      lock =
          record {
            id = id o.hi o.lo;
            coverage = record { w0 = o.w0; w1 = o.w1; w2 = o.w2; w3 = o.w3; whole = eqb o.coverage 0 };
            principal = o.principal;
            metadata = o.metadata;
            subject = o.subject;
            scope = scope_of o.scope o.number;
            exclusive = eqb o.exclusive 1;
          };
      parent = id o.parenthi o.parentlo;
      expires = o.expires;
      child = eqb o.child 1;
    }

unfoldable pub asked_lock : Operation → Result Request Told
asked_lock o =
    cond (lock_right o)
    (cond (eqb o.kind 16) (Ok (request.Insert (lock_in o)))
    (cond (eqb o.kind 17) (Ok (request.InsertVehicle (lock_in o)))
    (Ok (request.Replace (record { lock = lock_in o; broken = o.now; breaker = o.breaker })))))
    bad_asked

unfoldable pub asked_renewal : Operation → Result Request Told
asked_renewal o =
    cond (leb o.given 1)
    (Ok (request.Renew (record { id = id o.hi o.lo; expires = o.expires; now = o.now; metadata = o.metadata; given = eqb o.given 1 })))
    bad_asked

unfoldable pub asked_as : ℕ → Operation → Result Request Told
asked_as k o =
    cond (eqb k 16) (asked_lock o)
    (cond (eqb k 17) (asked_lock o)
    (cond (eqb k 18) (asked_renewal o)
    (cond (eqb k 19) (Ok (request.Delete (id o.hi o.lo)))
    (cond (eqb k 20) (Ok (request.BeginExpiration (record { id = id o.hi o.lo; now = o.now })))
    (cond (eqb k 21) (asked_lock o)
    (cond (eqb k 22) (Ok (request.Acknowledge (id o.hi o.lo)))
    (cond (eqb k 23) (Ok (request.ExpireDefunct o.now))
    (Err (told_of (paper 18 (0 ∷ [])))))))))))

abbrev pub asked_of : Operation → Result Request Told
asked_of o = asked_as o.kind o

abbrev pub on_asked : {A : Type 0} → (Told → A) → (Request → A) → Result Request Told → A
on_asked refused go (Err t) = refused t
on_asked refused go (Ok r) = go r

-- ---- the record alone: "Refusals: 14, 29 ListTooLong (over 64 ids), 21, in this order."
abbrev pub record_put : ℕ → List ℕ → List ℕ → Request → Kept
record_put sequence ws out r = kept (told_of (sent_paper (send_on sequence r ws out).told)) (send_on sequence r ws out).out

unfoldable pub write_of : ℕ → Operation → List ℕ → List ℕ → Kept
write_of sequence o ws out = on_asked (λ t. kept t out) (record_put sequence ws out) (asked_of o)

-- ---- the operation and its record
-- the answer, and the four buffers as the call leaves them
pub record Performed : Type 0 where
  pub told : Applied
  pub next : List ℕ
  pub removed : List ℕ
  pub expired : List ℕ
  pub sent : List ℕ

abbrev pub performed : Applied → List ℕ → List ℕ → List ℕ → List ℕ → Performed
performed t n m x f = record { told = t; next = n; removed = m; expired = x; sent = f }

-- what `cablegorse_apply` leaves, and the record
abbrev pub with_record : Changed → List ℕ → Performed
with_record c f = performed c.told c.next c.removed c.expired f

module _ (n m x f : List ℕ) where
  -- nothing was written
  abbrev pub quiet : Applied → Performed
  quiet t = performed t n m x f

  -- the record applied as a spare would: its outputs and the record itself, or 21 with the bytes needed in the four
  unfoldable pub own_put_lem : Step → List ℕ → Performed
  own_put_lem st bytes =
      cond (is_applied st.told.event and (any_short 0 st n m x or ltb (length f) (length bytes)))
      (quiet (still (told_of (paper 21 (size_of st.spare ∷ length (removed_bytes st.told) ∷ length (expired_bytes st.told) ∷ length bytes ∷ []))) 3 st.told.sequence 0))
      (with_record (step_put 0 st n m x) (cond (is_applied st.told.event) (splice f 0 bytes) f))

  -- 14 and 29 of the list, then the record that is due
  abbrev pub needed_put : Spare → Request → List ℕ → Result ℕ Unsent → Performed
  needed_put sp r ws (Ok size) = own_put_lem (step_on sp (request_bytes sp.expected r ws) 0) (request_bytes sp.expected r ws)
  needed_put sp r ws (Err why) = quiet (still (told_of (sent_paper (Err why))) 1 0 0)

  -- 18 and 19 of the numbers before them
  abbrev pub asked_put : Spare → List ℕ → Result Request Told → Performed
  asked_put sp ws a = on_asked (λ t. quiet (still t 1 0 0)) (λ r. needed_put sp r ws (needed_on r ws)) a

unfoldable pub perform_of : List ℕ → Operation → List ℕ → List ℕ → List ℕ → List ℕ → List ℕ → Performed
perform_of s o ws n m x f = on_image s (λ t. quiet n m x f (still t 0 0 0)) (λ sp. asked_put n m x f sp ws (asked_of o))
