-- The papers of the answers between records and the crates above (lists, specs/Papers.antt): 0 and what was read, as the
-- numbers of its fields; "kind not due here, 18", "count .. or field wrong, 19", whose offset the caller adds. Assumes nothing.
use Rattle.std.specs.Prelude.{ℕ, List, [], ◌∷◌}
use Rattle.lists.specs.Papers.{Paper, paper}
use Rattle.std.specs.Prelude.{Option, Some, None}
use Rattle.records.specs.declared.kinds.Kind.{Kind}
use Rattle.records.specs.declared.bodies.Head.{Head}
use Rattle.state.specs.declared.ActiveLock.{ActiveLock}
use Rattle.state.specs.declared.DefunctLock.{DefunctLock}
use Rattle.records.specs.declared.requests.Request.{Request}
use Rattle.records.specs.declared.requests.Request.TheVariants.{Insert, InsertVehicle, Renew, Delete, BeginExpiration, Replace, Acknowledge, ExpireDefunct}
use Rattle.records.specs.Wire.{head, active, defunct}
use Rattle.records.specs.Feeds.{target, renewal, expiration, replacement}

unfoldable pub row_paper : Option Kind → Paper
row_paper (Some k) = paper 0 (k.kind ∷ k.base ∷ k.unit ∷ k.place ∷ [])
row_paper None = paper 18 []

unfoldable pub head_paper : Option Head → Paper
head_paper (Some h) = paper 0 (head.numbers h)
head_paper None = paper 19 []

unfoldable pub active_paper : Option ActiveLock → Paper
active_paper (Some a) = paper 0 (active.numbers a)
active_paper None = paper 19 []

unfoldable pub defunct_paper : Option DefunctLock → Paper
defunct_paper (Some d) = paper 0 (defunct.numbers d)
defunct_paper None = paper 19 []

-- a request by its kind and the numbers of its body
abbrev pub request_values : Request → List ℕ
request_values (Insert a) = 16 ∷ active.numbers a
request_values (InsertVehicle a) = 17 ∷ active.numbers a
request_values (Renew r) = 18 ∷ renewal.numbers r
request_values (Delete i) = 19 ∷ target.numbers i
request_values (BeginExpiration e) = 20 ∷ expiration.numbers e
request_values (Replace r) = 21 ∷ replacement.numbers r
request_values (Acknowledge i) = 22 ∷ target.numbers i
request_values (ExpireDefunct t) = 23 ∷ t ∷ []

unfoldable pub asked_paper : Option (ℕ × Request) → Paper
asked_paper (Some (sequence, r)) = paper 0 (sequence ∷ request_values r)
asked_paper None = paper 19 []
