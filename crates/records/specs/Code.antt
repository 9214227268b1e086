-- What only the contracts of the crate's own functions name: a reader of the records need not believe or read any of it.
use Rattle.std.specs.Prelude.{ℕ, ◌≤◌, List, ◌≡◌, length, true}
use Rattle.records.specs.declared.requests.Request.{Request}
use Rattle.records.specs.Sending.{has_list, body_of}

-- n bytes hold the request's body, and its list is one that a count of 0..=64 can have
abbrev pub Held : Request → List ℕ → ℕ → Type 0
Held r ws n = (has_list r ≡ true → length ws ≤ 128) × (length (body_of 0 r ws) ≤ n)
