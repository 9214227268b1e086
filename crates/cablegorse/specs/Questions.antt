-- Reads at the boundary: each question by its number, its arguments as numbers or as a record, and what is replied. The reads
-- themselves are those of crates/lookups and crates/locks. Assumes nothing.
use Rattle.std.specs.Prelude.{cond, List, [], ◌∷◌, ℕ, ◌/◌, ◌%◌, eqb, leb}
use Rattle.lists.specs.Tests.{◌and◌}
use Rattle.state.specs.declared.ScopeKey.{ScopeKey}
use Rattle.state.specs.declared.ActiveLock.{ActiveLock}
use Rattle.state.specs.declared.DefunctLock.{DefunctLock}
use Rattle.state.specs.declared.LockState.{LockState}
use Rattle.std.specs.Prelude.{Result, Option, Ok, Err, Some, None, Bool}
use Rattle.rules.specs.declared.Unsound.{Unsound}
use Rattle.lookups.specs.Papers.{verdict_paper}
use Rattle.lookups.specs.declared.Narrow.{Narrow}
use Rattle.lookups.specs.declared.TesterPresent.{TesterPresent}
use Rattle.lookups.specs.declared.TesterPresent.TheVariants as present
use Rattle.lookups.specs.declared.Holder.{Holder}
use Rattle.lookups.specs.Reads.{revision_on, active_for_scope_on, active_by_id_on, defunct_by_id_on, active_at_on, defunct_at_on, covered_narrow_on, covering_group_on, tester_present_for_on, tester_present_needed_on, uncovered_defunct_on, current_holder_on}
use Rattle.lists.specs.Papers.{paper}
use Rattle.locks.specs.Locks.{vehicle_owner_on, has_non_vehicle_on}
use Rattle.records.specs.Wire.{id, flag, scope_right, scope_of}
use Rattle.image.specs.declared.ImageRefusal.{ImageRefusal}
use Rattle.image.specs.Steps.{active_at, defunct_at}
use Rattle.cablegorse.specs.declared.Told.{Told}
use Rattle.cablegorse.specs.declared.questions.Body.{Body}
use Rattle.cablegorse.specs.declared.questions.Body.TheVariants as body
use Rattle.cablegorse.specs.declared.questions.Reply.{Reply}
use Rattle.cablegorse.specs.Telling.{told_of, reading_told}

-- ---- replies: the answer, and what stands in the buffer beside it
abbrev pub bare : Told → Body → Reply
bare t b = record { told = t; body = b }

abbrev pub plain_reply : Told → Reply
plain_reply t = bare t body.Nothing

-- 12 UnsoundState with its rule; 19 for a number out of its range; 18 for a question that there is not
abbrev pub unsound_told : Unsound → Told
unsound_told u = told_of (verdict_paper (Err u))

abbrev pub bad_told : Told
bad_told = told_of (paper 19 (0 ∷ []))

abbrev pub bad_reply : Reply
bad_reply = plain_reply bad_told

abbrev pub unknown_reply : Reply
unknown_reply = plain_reply (told_of (paper 18 (0 ∷ [])))

-- no refusal: its values alone
abbrev pub says : List ℕ → Reply
says vs = plain_reply (told_of (paper 0 vs))

-- the reply of a refusal is the refusal alone
abbrev pub settled : Result Reply Told → Reply
settled (Ok r) = r
settled (Err t) = plain_reply t

-- ---- each kind of answer: of a sound state, and of any
abbrev pub on_found : {A : Type 0} → (A → Reply) → Result A Unsound → Reply
on_found found (Err u) = plain_reply (unsound_told u)
on_found found (Ok a) = found a

abbrev pub active_found : Option ActiveLock → Reply
active_found None = says (0 ∷ [])
active_found (Some a) = bare (told_of (paper 0 (1 ∷ []))) (body.Active a)

unfoldable pub active_reply : Result (Option ActiveLock) Unsound → Reply
active_reply f = on_found active_found f

abbrev pub defunct_found : Option DefunctLock → Reply
defunct_found None = says (0 ∷ [])
defunct_found (Some d) = bare (told_of (paper 0 (1 ∷ []))) (body.Defunct d)

unfoldable pub defunct_reply : Result (Option DefunctLock) Unsound → Reply
defunct_reply f = on_found defunct_found f

abbrev pub revision_found : ℕ → Reply
revision_found r = says (r ∷ [])

unfoldable pub revision_reply : Result ℕ Unsound → Reply
revision_reply v = on_found revision_found v

abbrev pub truth_found : Bool → Reply
truth_found b = says (flag b ∷ [])

unfoldable pub truth_reply : Result Bool Unsound → Reply
truth_reply t = on_found truth_found t

abbrev pub narrow_found : Narrow → Reply
narrow_found w = bare (told_of (paper 0 (w.count ∷ []))) (body.Ids w)

unfoldable pub narrow_reply : Result Narrow Unsound → Reply
narrow_reply w = on_found narrow_found w

-- 1 and the ECU, or 2 and the group
abbrev pub needed_found : Option TesterPresent → Reply
needed_found None = says (0 ∷ [])
needed_found (Some (present.Ecu e)) = says (1 ∷ (e ∷ []))
needed_found (Some (present.Functional g)) = says (2 ∷ (g ∷ []))

unfoldable pub needed_reply : Result (Option TesterPresent) Unsound → Reply
needed_reply n = on_found needed_found n

abbrev pub holder_found : Holder → Reply
holder_found h = says (h.subject ∷ (h.links ∷ []))

unfoldable pub holder_reply : Result Holder Unsound → Reply
holder_reply h = on_found holder_found h

abbrev pub owner_found : Option ℕ → Reply
owner_found None = says (0 ∷ [])
owner_found (Some subject) = says (1 ∷ (subject ∷ []))

unfoldable pub owner_reply : Result (Option ℕ) Unsound → Reply
owner_reply o = on_found owner_found o

-- ---- arguments: what is given, or the refusal of it
abbrev pub on_given : {R : Type 0} → (R → Reply) → Result R Told → Reply
on_given go (Err t) = plain_reply t
on_given go (Ok r) = go r

-- a scope of a kind and a number, each one byte in a record
unfoldable pub scoped_of : ℕ → ℕ → Option ScopeKey
scoped_of k n = cond (leb k 255 and leb n 255 and scope_right k n) (Some (scope_of k n)) None

abbrev pub scope_told : Option ScopeKey → Result ScopeKey Told
scope_told None = Err bad_told
scope_told (Some k) = Ok k

-- the record that stands at the start of the bytes: 17 to 19, or what it says
abbrev pub record_told : {R : Type 0} → Result (R × ℕ) ImageRefusal → Result R Told
record_told (Ok (r, next)) = Ok r
record_told (Err x) = Err (reading_told (Err x))

unfoldable pub lock_given : List ℕ → Result ActiveLock Told
lock_given b = record_told (active_at b 0)

unfoldable pub entry_given : List ℕ → Result DefunctLock Told
entry_given b = record_told (defunct_at b 0)

-- 1 is an ECU's, 2 a group's
unfoldable pub tester_of : ℕ → ℕ → TesterPresent
tester_of x n = cond (eqb x 1) (present.Ecu n) (present.Functional n)

unfoldable pub tester_told : ℕ → ℕ → Result TesterPresent Told
tester_told x n = cond (leb 1 x and leb x 2 and leb n 255) (Ok (tester_of x n)) (Err bad_told)

-- ---- the questions that have arguments to be judged
module _ (s : LockState) where
  unfoldable pub scope_asked : ℕ → ℕ → Reply
  scope_asked k n = on_given (λ x. active_reply (active_for_scope_on s x)) (scope_told (scoped_of k n))

  unfoldable pub narrow_asked : List ℕ → Reply
  narrow_asked b = on_given (λ a. narrow_reply (covered_narrow_on s a)) (lock_given b)

  unfoldable pub group_asked : ℕ → ℕ → Reply
  group_asked subject e = cond (leb subject 65535 and leb e 255) (active_reply (covering_group_on s subject e)) bad_reply

  unfoldable pub present_asked : ℕ → ℕ → Reply
  present_asked subject y = cond (leb subject 65535) (on_given (λ x. needed_reply (tester_present_for_on s subject x)) (scope_told (scoped_of (y / 256) (y % 256)))) bad_reply

  unfoldable pub needed_asked : ℕ → ℕ → Reply
  needed_asked x n = on_given (λ t. truth_reply (tester_present_needed_on s t)) (tester_told x n)

  unfoldable pub uncovered_asked : List ℕ → ℕ → Reply
  uncovered_asked b time = on_given (λ a. defunct_reply (uncovered_defunct_on s a.lock.subject a.lock.scope a.lock.coverage time)) (lock_given b)

  unfoldable pub holder_asked : List ℕ → Reply
  holder_asked b = on_given (λ d. holder_reply (current_holder_on s d)) (entry_given b)

  -- ---- every question by its number
  unfoldable pub reply_on : ℕ → ℕ → ℕ → List ℕ → Reply
  reply_on q x y b =
      cond (eqb q 1) (revision_reply (revision_on s))
      (cond (eqb q 2) (scope_asked x y)
      (cond (eqb q 3) (active_reply (active_by_id_on s (id x y)))
      (cond (eqb q 4) (defunct_reply (defunct_by_id_on s (id x y)))
      (cond (eqb q 5) (active_reply (active_at_on s x))
      (cond (eqb q 6) (defunct_reply (defunct_at_on s x))
      (cond (eqb q 7) (narrow_asked b)
      (cond (eqb q 8) (group_asked x y)
      (cond (eqb q 9) (present_asked x y)
      (cond (eqb q 10) (needed_asked x y)
      (cond (eqb q 11) (uncovered_asked b x)
      (cond (eqb q 12) (holder_asked b)
      (cond (eqb q 13) (owner_reply (vehicle_owner_on s))
      (cond (eqb q 14) (truth_reply (has_non_vehicle_on s))
      unknown_reply)))))))))))))
