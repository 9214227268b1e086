-- No two answers have one paper: from the number and the values the answer is read back. Assumes nothing.
use mathlib.Core.List.{List, [], ◌∷◌}
use mathlib.Core.Path.{◌≡◌, refl, ap}
use Prim.Native.Nat.{ℕ}
use lib.ListN.{get_or, drop}
use Rattle.lists.specs.Papers.{Paper}
use Rattle.lists.proofs.Papers.{pick, one_to_one, value_at}
use Rattle.std.specs.Prelude.{Result, Option, Ok, Err, Some, None}
use Rattle.records.specs.declared.kinds.Kind.{Kind}
use Rattle.records.specs.declared.bodies.Head.{Head}
use Rattle.state.specs.declared.ActiveLock.{ActiveLock}
use Rattle.state.specs.declared.DefunctLock.{DefunctLock}
use Rattle.records.specs.declared.requests.Request.{Request}
use Rattle.records.specs.declared.requests.Request.TheVariants.{Insert, InsertVehicle, Renew, Delete, BeginExpiration, Replace, Acknowledge, ExpireDefunct}
use Rattle.records.specs.declared.sending.Unsent.{Unsent}
use Rattle.records.specs.declared.sending.Unsent.TheVariants.{BadList, ListTooLong, ShortOutput}
use Rattle.records.specs.Wire.{head, active, defunct}
use Rattle.records.specs.Feeds.{target, renewal, expiration, replacement}
use Rattle.records.specs.Papers.{row_paper, head_paper, active_paper, defunct_paper, asked_paper}
use Rattle.records.specs.Sending.{sent_paper}
use Rattle.records.proofs.Wire.{active_faithful, defunct_faithful}
use Rattle.records.proofs.Feeds.{renewal_faithful, replacement_faithful}

row_in : Paper → Option Kind
row_in p = pick p.number ((18, None) ∷ []) (Some (record { kind = value_at p 0; base = value_at p 1; unit = value_at p 2; place = value_at p 3 }))

row_back : (a : Option Kind) → row_in (row_paper a) ≡ a
unfolding row_in row_paper
row_back (Some k) = refl
row_back None = refl

pub row_one : (a b : Option Kind) → row_paper a ≡ row_paper b → a ≡ b
row_one = one_to_one row_paper row_in row_back

-- ---- the bodies of an image
head_in : Paper → Option Head
head_in p = pick p.number ((19, None) ∷ []) (Some (head.made p.values))

head_back : (a : Option Head) → head_in (head_paper a) ≡ a
unfolding head_in head_paper
head_back (Some h) = refl
head_back None = refl

pub head_one : (a b : Option Head) → head_paper a ≡ head_paper b → a ≡ b
head_one = one_to_one head_paper head_in head_back

active_in : Paper → Option ActiveLock
active_in p = pick p.number ((19, None) ∷ []) (Some (active.made p.values))

active_back : (a : Option ActiveLock) → active_in (active_paper a) ≡ a
unfolding active_in active_paper
active_back (Some a) = ap Some (active_faithful a)
active_back None = refl

pub active_one : (a b : Option ActiveLock) → active_paper a ≡ active_paper b → a ≡ b
active_one = one_to_one active_paper active_in active_back

defunct_in : Paper → Option DefunctLock
defunct_in p = pick p.number ((19, None) ∷ []) (Some (defunct.made p.values))

defunct_back : (a : Option DefunctLock) → defunct_in (defunct_paper a) ≡ a
unfolding defunct_in defunct_paper
defunct_back (Some d) = ap Some (defunct_faithful d)
defunct_back None = refl

pub defunct_one : (a b : Option DefunctLock) → defunct_paper a ≡ defunct_paper b → a ≡ b
defunct_one = one_to_one defunct_paper defunct_in defunct_back

-- ---- requests
request_in : ℕ → List ℕ → Request
request_in k v =
    pick k
    ((16, Insert (active.made v))
    ∷ (17, InsertVehicle (active.made v))
    ∷ (18, Renew (renewal.made v))
    ∷ (19, Delete (target.made v))
    ∷ (20, BeginExpiration (expiration.made v))
    ∷ (21, Replace (replacement.made v))
    ∷ (22, Acknowledge (target.made v))
    ∷ [])
    (ExpireDefunct (get_or v 0 0))

asked_in : Paper → Option (ℕ × Request)
asked_in p = pick p.number ((19, None) ∷ []) (Some ((value_at p 0), (request_in (value_at p 1) (drop 2 p.values))))

asked_back : (a : Option (ℕ × Request)) → asked_in (asked_paper a) ≡ a
unfolding asked_in request_in asked_paper
asked_back (Some (n, (Insert a))) = ap (λ x. (Some (n, (Insert x)))) (active_faithful a)
asked_back (Some (n, (InsertVehicle a))) = ap (λ x. (Some (n, (InsertVehicle x)))) (active_faithful a)
asked_back (Some (n, (Renew r))) = ap (λ x. (Some (n, (Renew x)))) (renewal_faithful r)
asked_back (Some (n, (Delete i))) = refl
asked_back (Some (n, (BeginExpiration e))) = refl
asked_back (Some (n, (Replace r))) = ap (λ x. (Some (n, (Replace x)))) (replacement_faithful r)
asked_back (Some (n, (Acknowledge i))) = refl
asked_back (Some (n, (ExpireDefunct t))) = refl
asked_back None = refl

pub asked_one : (a b : Option (ℕ × Request)) → asked_paper a ≡ asked_paper b → a ≡ b
asked_one = one_to_one asked_paper asked_in asked_back

-- ---- the writer
sent_in : Paper → Result ℕ Unsent
sent_in p = pick p.number ((14, (Err BadList)) ∷ (29, (Err ListTooLong)) ∷ (21, (Err (ShortOutput (value_at p 0)))) ∷ []) (Ok (value_at p 0))

sent_back : (a : Result ℕ Unsent) → sent_in (sent_paper a) ≡ a
unfolding sent_in sent_paper
sent_back (Ok n) = refl
sent_back (Err BadList) = refl
sent_back (Err ListTooLong) = refl
sent_back (Err (ShortOutput n)) = refl

pub sent_one : (a b : Result ℕ Unsent) → sent_paper a ≡ sent_paper b → a ≡ b
sent_one = one_to_one sent_paper sent_in sent_back
