-- The bodies of feed records, as document 01 lays them out: "Feed bodies begin with a sequence (u32)". Assumes nothing.
use Rattle.std.specs.Prelude.{ℕ, ◌/◌, min, Bool, true, cond, List, [], ◌∷◌, length, get_or, drop, replicate, eqb, leb}
use Rattle.lists.specs.Tests.{◌and◌, ◌imp◌}
use Rattle.ids.specs.declared.LockId.{LockId}
use Rattle.state.specs.declared.ActiveLock.{ActiveLock}
use Rattle.records.specs.declared.requests.RenewRequest.{RenewRequest}
use Rattle.records.specs.declared.requests.ExpirationRequest.{ExpirationRequest}
use Rattle.records.specs.declared.requests.ReplaceRequest.{ReplaceRequest}
use Rattle.records.specs.declared.requests.Request.{Request}
use Rattle.records.specs.declared.requests.Request.TheVariants.{Insert, InsertVehicle, Renew, Delete, BeginExpiration, Replace, Acknowledge, ExpireDefunct}
use Rattle.std.specs.Prelude.{Option, Some, None}
use Rattle.records.specs.Numbers.{little, big}
use Rattle.records.specs.Layouts.{fields_at, total}
use Rattle.records.specs.Codecs.{Codec, decode_by, decode_counted, counted, joined, number, pair}
use Rattle.records.specs.Wire.{id, flag, active}

-- a body after its sequence
abbrev pub numbered : {R : Type 0} → Codec R → Codec (ℕ × R)
numbered c = joined (number 4) c pair (λ p. p.0) (λ p. p.1)

abbrev pub target : Codec LockId
target =
    record {
      layout = big 8 ∷ big 8 ∷ [];
      made = λ v. id (get_or v 0 0) (get_or v 1 0);
      numbers = λ i. i.hi ∷ i.lo ∷ [];
      right = λ v. true;
    }

unfoldable pub metadata_right : ℕ → ℕ → Bool
metadata_right g m = leb g 1 and (eqb g 0 imp eqb m 0)

-- "18 id, expiry 8, now 8, has-metadata 1, metadata 4"
abbrev pub renewal : Codec RenewRequest
renewal =
    record {
      layout = big 8 ∷ big 8 ∷ little 8 ∷ little 8 ∷ little 1 ∷ little 4 ∷ [];
      made = λ v.
          record { id = id (get_or v 0 0) (get_or v 1 0); expires = get_or v 2 0; now = get_or v 3 0; metadata = get_or v 5 0; given = eqb (get_or v 4 0) 1 };
      numbers = λ r. r.id.hi ∷ r.id.lo ∷ r.expires ∷ r.now ∷ flag r.given ∷ r.metadata ∷ [];
      right = λ v. metadata_right (get_or v 4 0) (get_or v 5 0);
    }

-- "20 id, now 8"
abbrev pub expiration : Codec ExpirationRequest
expiration =
    record {
      layout = big 8 ∷ big 8 ∷ little 8 ∷ [];
      made = λ v. record { id = id (get_or v 0 0) (get_or v 1 0); now = get_or v 2 0 };
      numbers = λ e. e.id.hi ∷ e.id.lo ∷ e.now ∷ [];
      right = λ v. true;
    }

-- "broken by 4, broken at 8"
abbrev pub breaking : Codec (ℕ × ℕ)
breaking =
    record {
      layout = little 4 ∷ little 8 ∷ [];
      made = λ v. (get_or v 0 0, get_or v 1 0);
      numbers = λ b. b.0 ∷ b.1 ∷ [];
      right = λ v. true;
    }

abbrev pub replacement_with : ActiveLock → ℕ × ℕ → ReplaceRequest
replacement_with a b = record { lock = a; broken = b.1; breaker = b.0 }

abbrev pub replacement_rest : ReplaceRequest → ℕ × ℕ
replacement_rest r = (r.breaker, r.broken)

-- "21 ACTIVE body, broken by 4, broken at 8"
abbrev pub replacement : Codec ReplaceRequest
replacement = joined active breaking replacement_with (λ r. r.lock) replacement_rest

-- a sequence and what is asked under it
abbrev pub asked : {R : Type 0} → (R → Request) → ℕ × R → Option (ℕ × Request)
asked ask p = Some (p.0, (ask p.1))

-- "16 ACTIVE body; 17 ACTIVE body, count 2, ids; 18 id, expiry 8, now 8, has-metadata 1, metadata 4; 19 and 22 id; 20 id,
-- now 8; 21 ACTIVE body, broken by 4, broken at 8, count 2, ids; 23 now 8"
abbrev pub insert_of : List ℕ → Option (ℕ × Request)
insert_of = decode_by (numbered active) (asked Insert) None

abbrev pub insert_vehicle_of : List ℕ → Option (ℕ × Request)
insert_vehicle_of = decode_counted (numbered active) (asked InsertVehicle) None

abbrev pub renew_of : List ℕ → Option (ℕ × Request)
renew_of = decode_by (numbered renewal) (asked Renew) None

abbrev pub delete_of : List ℕ → Option (ℕ × Request)
delete_of = decode_by (numbered target) (asked Delete) None

abbrev pub begin_expiration_of : List ℕ → Option (ℕ × Request)
begin_expiration_of = decode_by (numbered expiration) (asked BeginExpiration) None

abbrev pub replace_of : List ℕ → Option (ℕ × Request)
replace_of = decode_counted (numbered replacement) (asked Replace) None

abbrev pub acknowledge_of : List ℕ → Option (ℕ × Request)
acknowledge_of = decode_by (numbered target) (asked Acknowledge) None

abbrev pub expire_defunct_of : List ℕ → Option (ℕ × Request)
expire_defunct_of = decode_by (numbered (number 8)) (asked ExpireDefunct) None

unfoldable pub request_of : ℕ → List ℕ → Option (ℕ × Request)
request_of k s =
    cond (eqb k 16) (insert_of s)
    (cond (eqb k 17) (insert_vehicle_of s)
    (cond (eqb k 18) (renew_of s)
    (cond (eqb k 19) (delete_of s)
    (cond (eqb k 20) (begin_expiration_of s)
    (cond (eqb k 21) (replace_of s)
    (cond (eqb k 22) (acknowledge_of s)
    (cond (eqb k 23) (expire_defunct_of s) None)))))))

-- "17 ACTIVE body, count 2, ids", "21 ACTIVE body, broken by 4, broken at 8, count 2, ids": the bytes of the ids, which follow
-- what the count ends; no other body has any
abbrev pub past_count : {R : Type 0} → Codec R → List ℕ → List ℕ
past_count c b = drop (total (counted c).layout) b

abbrev pub list_in : Request → List ℕ → List ℕ
list_in (Insert x) b = []
list_in (InsertVehicle x) b = past_count (numbered active) b
list_in (Renew r) b = []
list_in (Delete i) b = []
list_in (BeginExpiration e) b = []
list_in (Replace r) b = past_count (numbered replacement) b
list_in (Acknowledge i) b = []
list_in (ExpireDefunct now) b = []

-- "An id list holds two u64 words an id, first half first, each big-endian": the words of a part, at most 128
unfoldable pub words_in : List ℕ → List ℕ
words_in s = fields_at (replicate (min (length s / 8) 128) (big 8)) s 0
