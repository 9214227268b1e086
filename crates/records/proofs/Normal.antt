-- Parts that don't apply as zero: the numbers of a normal request are within their fields and right, and one whose numbers are
-- right is normal. Assumes nothing.
use mathlib.Core.Path.{◌≡◌, refl, sym, ap, ◌∙◌}
use mathlib.Core.Bool.{Bool, true, false, cond}
use Prim.Native.Nat.{ℕ, ◌<◌, ◌^◌}
use lib.Dec.{lit<, eqb}
use borrow.Author.Tests.{eqb-true}
use Rattle.lists.specs.Tests.{◌and◌, ◌imp◌, ◌or◌, Yes}
use Rattle.lists.proofs.Tests.{against, and_i, and_l, and_r, imp_e, imp_i, or_f, or_l, or_r, cond_true, cond_false, cond_both, by}
use Rattle.ids.specs.declared.LockId.{LockId}
use Rattle.ids.specs.Order.{no_id}
use Rattle.coverage.specs.declared.LockCoverage.{LockCoverage}
use Rattle.coverage.specs.Coverage.{whole_vehicle}
use Rattle.state.specs.declared.ActiveLock.{ActiveLock}
use Rattle.state.specs.Locks.{with_coverage, normal_coverage, normal}
use Rattle.records.specs.declared.requests.ReplaceRequest.{ReplaceRequest}
use Rattle.records.specs.declared.requests.Request.{Request}
use Rattle.records.specs.declared.requests.Request.TheVariants.{Insert, InsertVehicle, Renew, Delete, BeginExpiration, Replace, Acknowledge, ExpireDefunct}
use Rattle.records.specs.Wire.{flag, active}
use Rattle.records.specs.Feeds.{metadata_right, renewal, breaking, replacement, replacement_rest}
use Rattle.records.specs.Sending.{normal_request}
use Rattle.records.specs.Ranges.{InFields, InTypes}
use Rattle.records.proofs.Layouts.{fit_append}
use Rattle.records.proofs.Wire.{lock_neat, active_neat}
use Rattle.records.proofs.Fits.{fit_split, fit_normal}

-- ---- the set of a whole vehicle
abbrev zero_words : LockCoverage → Bool
zero_words c = eqb c.w0 0 and eqb c.w1 0 and eqb c.w2 0 and eqb c.w3 0

set_right_lem : (c : LockCoverage) → Yes ((normal_coverage c).whole imp zero_words (normal_coverage c))
set_right_lem c = cond_both (λ (x : LockCoverage). Yes (x.whole imp zero_words x)) whole_vehicle c c.whole
    (λ t. imp_i _ _ (λ u. and_i _ _ (and_i _ _ (and_i _ _ refl refl) refl) refl))
    (λ t. imp_i _ _ (λ u. absurd (against t u)))

set_kept : (c : LockCoverage) → Yes (c.whole imp zero_words c) → normal_coverage c ≡ c
set_kept c h = by c.whole (normal_coverage c ≡ c)
    (λ t.
    let z = imp_e c.whole (zero_words c) h t in
    let z3 = and_l (eqb c.w0 0 and eqb c.w1 0 and eqb c.w2 0) _ z in
    let z2 = and_l (eqb c.w0 0 and eqb c.w1 0) _ z3 in
    cond_true c.whole whole_vehicle c t
    ∙ sym (λ i.
    record {
      w0 = eqb-true c.w0 0 (and_l (eqb c.w0 0) _ z2) i;
      w1 = eqb-true c.w1 0 (and_r (eqb c.w0 0) _ z2) i;
      w2 = eqb-true c.w2 0 (and_r (eqb c.w0 0 and eqb c.w1 0) _ z3) i;
      w3 = eqb-true c.w3 0 (and_r (eqb c.w0 0 and eqb c.w1 0 and eqb c.w2 0) _ z) i;
      whole = t i;
    }))
    (λ t. cond_false c.whole whole_vehicle c t)

-- ---- the parent of a lock that has none
abbrev zero_halves : LockId → Bool
zero_halves i = eqb i.hi 0 and eqb i.lo 0

parent_right_lem : (b : Bool) (i : LockId) → Yes (b or zero_halves (cond b i no_id))
parent_right_lem true i = or_l true _ refl
parent_right_lem false i = or_r false _ (and_i _ _ refl refl)

parent_kept : (b : Bool) (i : LockId) → Yes (b or zero_halves i) → cond b i no_id ≡ i
parent_kept true i h = refl
parent_kept false i h =
    let z : Yes (zero_halves i) = sym (or_f false _ refl) ∙ h in
    sym (λ j. record { hi = eqb-true i.hi 0 (and_l (eqb i.hi 0) _ z) j; lo = eqb-true i.lo 0 (and_r (eqb i.hi 0) _ z) j })

-- ---- a lock
pub normal_right : (a : ActiveLock) → Yes (active.right (active.numbers (normal a)))
unfolding normal
normal_right a = active_neat (normal a) ∙ and_i _ _ (lock_neat (normal a).lock ∙ set_right_lem a.lock.coverage) (parent_right_lem a.child a.parent)

pub normal_kept : (a : ActiveLock) → Yes (active.right (active.numbers a)) → normal a ≡ a
unfolding normal
normal_kept a t =
    let u = sym (active_neat a) ∙ t in
    let c = set_kept a.lock.coverage (sym (lock_neat a.lock) ∙ and_l _ _ u) in
    let p = parent_kept a.child a.parent (and_r _ _ u) in
    λ i. record { lock = with_coverage (c i) a.lock; parent = p i; expires = a.expires; child = a.child }

-- ---- metadata that isn't given
metadata_right_lem : (g : Bool) (m : ℕ) → Yes (metadata_right (flag g) (cond g m 0))
unfolding metadata_right ◌and◌ ◌imp◌
metadata_right_lem true m = refl
metadata_right_lem false m = refl

metadata_kept : (g : Bool) (m : ℕ) → Yes (metadata_right (flag g) m) → cond g m 0 ≡ m
unfolding metadata_right ◌and◌ ◌imp◌
metadata_kept true m t = refl
metadata_kept false m t = sym (eqb-true m 0 t)

-- ---- requests
abbrev pub Right : Request → Type 0
Right (Insert a) = Yes (active.right (active.numbers a))
Right (InsertVehicle a) = Yes (active.right (active.numbers a))
Right (Renew r) = Yes (renewal.right (renewal.numbers r))
Right (Delete i) = Unit {0}
Right (BeginExpiration e) = Unit {0}
Right (Replace r) = Yes (active.right (active.numbers r.lock))
Right (Acknowledge i) = Unit {0}
Right (ExpireDefunct now) = Unit {0}

pub request_right : (r : Request) → Right (normal_request r)
request_right (Insert a) = normal_right a
request_right (InsertVehicle a) = normal_right a
request_right (Renew r) = metadata_right_lem r.given r.metadata
request_right (Delete i) = tt
request_right (BeginExpiration e) = tt
request_right (Replace r) = normal_right r.lock
request_right (Acknowledge i) = tt
request_right (ExpireDefunct now) = tt

pub request_kept : (r : Request) → Right r → normal_request r ≡ r
request_kept (Insert a) t = ap Insert (normal_kept a t)
request_kept (InsertVehicle a) t = ap InsertVehicle (normal_kept a t)
request_kept (Renew r) t =
    let m = metadata_kept r.given r.metadata t in
    λ i. Renew (record { id = r.id; expires = r.expires; now = r.now; metadata = m i; given = r.given })
request_kept (Delete i) t = refl
request_kept (BeginExpiration e) t = refl
request_kept (Replace r) t = ap (λ (a : ActiveLock). Replace (record { lock = a; broken = r.broken; breaker = r.breaker })) (normal_kept r.lock t)
request_kept (Acknowledge i) t = refl
request_kept (ExpireDefunct now) t = refl

-- ---- and within the types
replace_parts : (r : ReplaceRequest) → InFields replacement r → InFields active r.lock × InFields breaking (replacement_rest r)
replace_parts r f = fit_split active.layout breaking.layout (active.numbers r.lock) (breaking.numbers (replacement_rest r)) refl f

pub request_fits : (r : Request) → InTypes r → InTypes (normal_request r)
request_fits (Insert a) f = fit_normal a f
request_fits (InsertVehicle a) f = fit_normal a f
request_fits (Renew r) f =
    let m : cond r.given r.metadata 0 < 2 ^ 32 = cond_both (λ (n : ℕ). n < 2 ^ 32) r.metadata 0 r.given (λ t. f.1.1.1.1.1.0) (λ t. lit< tt) in
    (f.0, (f.1.0, (f.1.1.0, (f.1.1.1.0, (f.1.1.1.1.0, (m, tt))))))
request_fits (Delete i) f = f
request_fits (BeginExpiration e) f = f
request_fits (Replace r) f =
    let p = replace_parts r f in
    fit_append active.layout breaking.layout (active.numbers (normal r.lock)) (breaking.numbers (replacement_rest r)) (fit_normal r.lock p.0) p.1
request_fits (Acknowledge i) f = f
request_fits (ExpireDefunct now) f = f
