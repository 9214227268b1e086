-- The papers of the reads (lists, specs/Papers.antt): 12 UnsoundState with the rule, or 0 and what was found; and locks as
-- values, for every crate's papers.
use Rattle.std.specs.Prelude.{Bool, cond, List, [], ◌∷◌, ℕ}
use Rattle.lists.specs.Papers.{Paper, paper}
use Rattle.ids.specs.declared.LockId.{LockId}
use Rattle.coverage.specs.declared.LockCoverage.{LockCoverage}
use Rattle.state.specs.declared.ScopeKey.{ScopeKey}
use Rattle.state.specs.declared.ScopeKey.TheVariants.{Vehicle, Ecu, FunctionalGroup}
use Rattle.state.specs.declared.Lock.{Lock}
use Rattle.state.specs.declared.ActiveLock.{ActiveLock}
use Rattle.state.specs.declared.DefunctLock.{DefunctLock}
use Rattle.std.specs.Prelude.{Result, Option, Ok, Err, Some, None, ⊤}
use Rattle.rules.specs.declared.Unsound.{Unsound}
use Rattle.rules.specs.declared.Unsound.TheVariants.{Rule}
use Rattle.lookups.specs.declared.Narrow.{Narrow}
use Rattle.lookups.specs.declared.TesterPresent.TheVariants as present
use Rattle.lookups.specs.declared.TesterPresent.{TesterPresent}
use Rattle.lookups.specs.declared.Holder.{Holder}

-- ---- locks as values: an id is its two halves
abbrev pub id_values : LockId → List ℕ → List ℕ
id_values i vs = i.hi ∷ (i.lo ∷ vs)

abbrev pub flag_value : Bool → ℕ
flag_value b = cond b 1 0

-- "scope kind (0 vehicle, 1 ECU, 2 group) 1, scope number 1"
abbrev pub scope_values : ScopeKey → List ℕ → List ℕ
scope_values Vehicle vs = 0 ∷ (0 ∷ vs)
scope_values (Ecu n) vs = 1 ∷ (n ∷ vs)
scope_values (FunctionalGroup n) vs = 2 ∷ (n ∷ vs)

abbrev pub coverage_values : LockCoverage → List ℕ → List ℕ
coverage_values c vs = flag_value c.whole ∷ (c.w0 ∷ (c.w1 ∷ (c.w2 ∷ (c.w3 ∷ vs))))

-- a lock by the parts of its "lock start"
abbrev pub lock_values : Lock → List ℕ → List ℕ
lock_values l vs =
    id_values l.id
    (scope_values l.scope
    (flag_value l.exclusive ∷ coverage_values l.coverage (l.subject ∷ (l.principal ∷ (l.metadata ∷ vs)))))

abbrev pub active_values : ActiveLock → List ℕ
active_values a = lock_values a.lock (a.expires ∷ (flag_value a.child ∷ id_values a.parent []))

abbrev pub defunct_values : DefunctLock → List ℕ
defunct_values d = lock_values d.lock (d.expires ∷ (d.broken ∷ (d.breaker ∷ id_values d.target (d.holder ∷ []))))

-- ---- the test of a state: "The lowest broken rule is named."
unfoldable pub verdict_paper : Result ⊤ Unsound → Paper
verdict_paper (Ok tt) = paper 0 []
verdict_paper (Err (Rule n)) = paper 12 (n ∷ [])

-- ---- the reads: a first value tells the cases of number 0 apart
unfoldable pub found_active_paper : Result (Option ActiveLock) Unsound → Paper
found_active_paper (Err (Rule n)) = paper 12 (n ∷ [])
found_active_paper (Ok None) = paper 0 (0 ∷ [])
found_active_paper (Ok (Some a)) = paper 0 (1 ∷ active_values a)

unfoldable pub found_defunct_paper : Result (Option DefunctLock) Unsound → Paper
found_defunct_paper (Err (Rule n)) = paper 12 (n ∷ [])
found_defunct_paper (Ok None) = paper 0 (0 ∷ [])
found_defunct_paper (Ok (Some d)) = paper 0 (1 ∷ defunct_values d)

unfoldable pub revision_paper : Result ℕ Unsound → Paper
revision_paper (Err (Rule n)) = paper 12 (n ∷ [])
revision_paper (Ok r) = paper 0 (r ∷ [])

unfoldable pub truth_paper : Result Bool Unsound → Paper
truth_paper (Err (Rule n)) = paper 12 (n ∷ [])
truth_paper (Ok b) = paper 0 (flag_value b ∷ [])

-- the count; the ids stand beside it
abbrev pub count_told : Result Narrow Unsound → Result ℕ Unsound
count_told (Err (Rule n)) = Err (Rule n)
count_told (Ok w) = Ok w.count

unfoldable pub listed_paper : Result ℕ Unsound → Paper
listed_paper (Err (Rule n)) = paper 12 (n ∷ [])
listed_paper (Ok n) = paper 0 (n ∷ [])

unfoldable pub needed_paper : Result (Option TesterPresent) Unsound → Paper
needed_paper (Err (Rule n)) = paper 12 (n ∷ [])
needed_paper (Ok None) = paper 0 (0 ∷ [])
needed_paper (Ok (Some (present.Ecu e))) = paper 0 (1 ∷ (e ∷ []))
needed_paper (Ok (Some (present.Functional g))) = paper 0 (2 ∷ (g ∷ []))

-- the subject, and the count of links
unfoldable pub holder_paper : Result Holder Unsound → Paper
holder_paper (Err (Rule n)) = paper 12 (n ∷ [])
holder_paper (Ok h) = paper 0 (h.subject ∷ (h.links ∷ []))
