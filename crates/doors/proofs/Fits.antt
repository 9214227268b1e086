-- The numbers of locks within the fields of their records: each way in which an operation makes a lock keeps them there.
-- Assumes nothing.
use mathlib.Core.Path.{refl}
use mathlib.Core.Bool.{Bool, cond}
use Prim.Native.Nat.{ℕ, ◌<◌, ◌^◌}
use lib.Dec.{lit<, eqb}
use Rattle.lists.proofs.Tests.{cond_both}
use Rattle.ids.specs.Order.{key}
use Rattle.state.specs.declared.ActiveLock.{ActiveLock}
use Rattle.state.specs.declared.DefunctLock.{DefunctLock}
use Rattle.state.specs.Locks.{dkey, blank_active, blank_defunct}
use Rattle.operations.specs.Defuncts.{redirect, to_defunct}
use Rattle.operations.specs.Vehicle.{nest}
use Rattle.operations.specs.Renew.{extended}
use Rattle.records.specs.Layouts.{Fit}
use Rattle.records.specs.Wire as wire
use Rattle.records.proofs.Layouts.{fit_append}
use Rattle.records.proofs.Fits.{FitL, FitA, fit_split, parts, whole}

abbrev pub FitD : DefunctLock → Type 0
FitD d = Fit (wire.defunct).layout ((wire.defunct).numbers d)

-- ---- the start and the rest of a defunct lock
abbrev FitEndD : DefunctLock → Type 0
FitEndD d = Fit (wire.defunct_end).layout ((wire.defunct_end).numbers (wire.defunct_rest d))

parts_d : (d : DefunctLock) → FitD d → FitL d.lock × FitEndD d
parts_d d f = fit_split (wire.lock_start).layout (wire.defunct_end).layout ((wire.lock_start).numbers d.lock) ((wire.defunct_end).numbers (wire.defunct_rest d)) refl f

whole_d : (d : DefunctLock) → FitL d.lock → FitEndD d → FitD d
whole_d d f g = fit_append (wire.lock_start).layout (wire.defunct_end).layout ((wire.lock_start).numbers d.lock) ((wire.defunct_end).numbers (wire.defunct_rest d)) f g

-- ---- the ways
pub fit_nest : (x a : ActiveLock) → FitA x → FitA a → FitA (nest x a)
unfolding nest
fit_nest x a f g = let p = (parts x f).0 in let q = parts a g in whole (nest x a) q.0 (q.1.0, (lit< tt, (p.0, (p.1.0, tt))))

pub fit_extend : (e : ℕ) (has : Bool) (d : ℕ) → e < 2 ^ 64 → d < 2 ^ 32 → (a : ActiveLock) → FitA a → FitA (extended e has d a)
unfolding extended
fit_extend e has d he hd a f =
    let q = parts a f in
    let l = q.0 in
    let m : cond has d a.lock.metadata < 2 ^ 32 = cond_both (λ (n : ℕ). n < 2 ^ 32) d a.lock.metadata has (λ t. hd) (λ t. l.1.1.1.1.1.1.1.1.1.1.1.1.0) in
    whole (extended e has d a)
    (l.0, (l.1.0, (l.1.1.0, (l.1.1.1.0, (l.1.1.1.1.0, (l.1.1.1.1.1.0, (l.1.1.1.1.1.1.0, (l.1.1.1.1.1.1.1.0, (l.1.1.1.1.1.1.1.1.0, (l.1.1.1.1.1.1.1.1.1.0, (l.1.1.1.1.1.1.1.1.1.1.0, (l.1.1.1.1.1.1.1.1.1.1.1.0, (m, tt)))))))))))))
    (he, q.1.1)

pub fit_enter : (x : ActiveLock) (by at : ℕ) → FitA x → by < 2 ^ 32 → at < 2 ^ 64 → (a : ActiveLock) → FitA a → FitD (to_defunct x by at a)
unfolding to_defunct
fit_enter x by at f hb ha a g =
    let p = (parts x f).0 in
    let q = parts a g in
    whole_d (to_defunct x by at a) q.0 (q.1.0, (ha, (hb, (p.0, (p.1.0, (p.1.1.1.1.1.1.1.1.1.1.0, tt))))))

pub fit_redirect : (g d : DefunctLock) → FitD g → FitD d → FitD (redirect g d)
unfolding redirect
fit_redirect g d f h =
    let p = (parts_d g f).1 in
    let q = parts_d d h in
    let n : DefunctLock = record { lock = d.lock; target = g.target; expires = d.expires; broken = d.broken; breaker = d.breaker; holder = g.holder } in
    cond_both FitD n d (eqb (key d.target) (dkey g)) (λ t. whole_d n q.0 (q.1.0, (q.1.1.0, (q.1.1.1.0, (p.1.1.1.0, (p.1.1.1.1.0, (p.1.1.1.1.1.0, tt))))))) (λ t. h)

pub fit_blank : FitA blank_active
unfolding blank_active
fit_blank = (lit< tt, (lit< tt, (lit< tt, (lit< tt, (lit< tt, (lit< tt, (lit< tt, (lit< tt, (lit< tt, (lit< tt, (lit< tt, (lit< tt, (lit< tt, (lit< tt, (lit< tt, (lit< tt, (lit< tt, tt)))))))))))))))))

pub fit_blank_d : FitD blank_defunct
unfolding blank_defunct
fit_blank_d = (lit< tt, (lit< tt, (lit< tt, (lit< tt, (lit< tt, (lit< tt, (lit< tt, (lit< tt, (lit< tt, (lit< tt, (lit< tt, (lit< tt, (lit< tt, (lit< tt, (lit< tt, (lit< tt, (lit< tt, (lit< tt, (lit< tt, tt)))))))))))))))))))
