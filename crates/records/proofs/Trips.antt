-- Both round trips of each kind of record, from the codec's law. Assumes nothing.
use mathlib.Core.Path.{◌≡◌, refl, ap}
use mathlib.Core.List.{[], ◌∷◌, map}
use Prim.Native.Nat.{ℕ, ◌+◌}
use native.Mathlib.Omega.{arith}
use Rattle.std.specs.Prelude.{Option, Some, None}
use Rattle.records.specs.declared.requests.Request.{Request}
use Rattle.records.specs.declared.requests.Request.TheVariants.{Insert, InsertVehicle, Renew, Delete, BeginExpiration, Replace, Acknowledge, ExpireDefunct}
use Rattle.records.specs.Layouts.{total}
use Rattle.records.specs.Table.{rows}
use Rattle.records.specs.Codecs.{Codec, number, counted}
use Rattle.records.specs.Wire.{head, active, defunct}
use Rattle.records.specs.Feeds.{asked, numbered, target, renewal, expiration, replacement}
use Rattle.records.proofs.Codecs.{Lawful, Apart, RoundTrips, round_trips, CountedTrips, counted_trips}
use Rattle.records.proofs.Wire.{head_lawful, active_lawful, defunct_lawful}
use Rattle.records.proofs.Feeds.{numbered_lawful, counted_lawful, number_lawful, target_lawful, renewal_lawful, expiration_lawful, replacement_lawful}

-- ---- images
pub head_trips : RoundTrips head Some None
head_trips = round_trips head Some None head_lawful record { one = λ x y e. cc; never = λ x e. let z : ◌≡◌ {A = ℕ} 0 1 = cc in omega arith }

pub active_trips : RoundTrips active Some None
active_trips = round_trips active Some None active_lawful record { one = λ x y e. cc; never = λ x e. let z : ◌≡◌ {A = ℕ} 0 1 = cc in omega arith }

pub defunct_trips : RoundTrips defunct Some None
defunct_trips = round_trips defunct Some None defunct_lawful record { one = λ x y e. cc; never = λ x e. let z : ◌≡◌ {A = ℕ} 0 1 = cc in omega arith }

-- ---- feeds: a sequence and what is asked
module _ {R : Type 0} (ask : R → Request) (one : (x y : R) → ask x ≡ ask y → x ≡ y) where
  told : (x y : ℕ) (a b : Request) → ◌≡◌ {A = Option (ℕ × Request)} (Some (x, a)) (Some (y, b)) → (x ≡ y) × (a ≡ b)
  told x y a b e =
      let p : ◌≡◌ {A = ℕ × Request} (x, a) (y, b) = cc in (
        ap (λ (z : ℕ × Request). z.0) p,
        ap (λ (z : ℕ × Request). z.1) p,
      )

  asked_apart : Apart (asked ask) None
  asked_apart =
      record {
        one = λ x y e. let p = told x.0 y.0 (ask x.1) (ask y.1) e in λ i. (p.0 i, one x.1 y.1 p.1 i);
        never = λ x e. let z : ◌≡◌ {A = ℕ} 0 1 = cc in omega arith;
      }

  pub asked_trips : (c : Codec R) → Lawful c → RoundTrips (numbered c) (asked ask) None
  asked_trips c w = round_trips (numbered c) (asked ask) None (numbered_lawful c w) asked_apart

  pub asked_counted : (c : Codec R) → Lawful c → CountedTrips 2 16 (numbered c) (asked ask) None
  asked_counted c w = counted_trips 2 16 (numbered c) (asked ask) None (counted_lawful 2 (numbered c) (numbered_lawful c w)) asked_apart

pub insert_trips : RoundTrips (numbered active) (asked Insert) None
insert_trips = asked_trips Insert (λ x y e. cc) active active_lawful

pub insert_vehicle_trips : CountedTrips 2 16 (numbered active) (asked InsertVehicle) None
insert_vehicle_trips = asked_counted InsertVehicle (λ x y e. cc) active active_lawful

pub renew_trips : RoundTrips (numbered renewal) (asked Renew) None
renew_trips = asked_trips Renew (λ x y e. cc) renewal renewal_lawful

pub delete_trips : RoundTrips (numbered target) (asked Delete) None
delete_trips = asked_trips Delete (λ x y e. cc) target target_lawful

pub begin_expiration_trips : RoundTrips (numbered expiration) (asked BeginExpiration) None
begin_expiration_trips = asked_trips BeginExpiration (λ x y e. cc) expiration expiration_lawful

pub replace_trips : CountedTrips 2 16 (numbered replacement) (asked Replace) None
replace_trips = asked_counted Replace (λ x y e. cc) replacement replacement_lawful

pub acknowledge_trips : RoundTrips (numbered target) (asked Acknowledge) None
acknowledge_trips = asked_trips Acknowledge (λ x y e. cc) target target_lawful

pub expire_defunct_trips : RoundTrips (numbered (number 8)) (asked ExpireDefunct) None
expire_defunct_trips = asked_trips ExpireDefunct (λ x y e. cc) (number 8) (number_lawful 8)

-- ---- the table's lengths are those of the bodies, and of the kind before each
pub lengths : map (λ r. r.base) rows
    ≡ map (λ n. n + 2)
    (total head.layout ∷ total active.layout ∷ total defunct.layout
    ∷ total (numbered active).layout ∷ total (counted (numbered active)).layout ∷ total (numbered renewal).layout ∷ total (numbered target).layout
    ∷ total (numbered expiration).layout ∷ total (counted (numbered replacement)).layout ∷ total (numbered target).layout ∷ total (numbered (number 8)).layout ∷ [])
unfolding rows
lengths = refl
