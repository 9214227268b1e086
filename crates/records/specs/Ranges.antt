-- What a feed record can hold. The numbers are within the types of the code, so of whatever the code is handed only the list's
-- count can be refused (crates/doors, proofs/Own.antt, typed_sendable). Assumes nothing.
use Rattle.std.specs.Prelude.{◌≡◌, true, List, ℕ, ◌^◌, ◌≤◌, ◌<◌}
use Rattle.lists.specs.Tests.{No}
use Rattle.lists.specs.Lists.{Mem}
use Rattle.ids.specs.Words.{odd_words}
use Rattle.records.specs.declared.requests.Request.{Request}
use Rattle.records.specs.declared.requests.Request.TheVariants.{Insert, InsertVehicle, Renew, Delete, BeginExpiration, Replace, Acknowledge, ExpireDefunct}
use Rattle.records.specs.Layouts.{Fit}
use Rattle.records.specs.Codecs.{Codec, number}
use Rattle.records.specs.Wire.{active}
use Rattle.records.specs.Feeds.{renewal, target, expiration, replacement}
use Rattle.records.specs.Sending.{has_list, ids_in}

-- each number fits its field, whose width is its type's
abbrev pub InFields : {R : Type 0} → Codec R → R → Type 0
InFields c x = Fit c.layout (c.numbers x)

abbrev pub InTypes : Request → Type 0
InTypes (Insert a) = InFields active a
InTypes (InsertVehicle a) = InFields active a
InTypes (Renew r) = InFields renewal r
InTypes (Delete i) = InFields target i
InTypes (BeginExpiration e) = InFields expiration e
InTypes (Replace r) = InFields replacement r
InTypes (Acknowledge i) = InFields target i
InTypes (ExpireDefunct now) = InFields (number 8) now

-- 01: "An id list holds two u64 words an id"; 02: "over 64 ids"
abbrev pub Words : List ℕ → Type 0
Words ws = (w : ℕ) → Mem w ws → w < 2 ^ 64

pub record IdList (ws : List ℕ) : Type 0 where
  pub even : No (odd_words ws)
  pub few : ids_in ws ≤ 64
  pub words : Words ws

pub record Sendable (q : ℕ) (r : Request) (ws : List ℕ) : Type 0 where
  pub sequence : q < 2 ^ 32
  pub numbers : InTypes r
  pub list : has_list r ≡ true → IdList ws
