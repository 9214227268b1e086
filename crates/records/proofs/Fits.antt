-- The numbers of an active lock within the fields of its record: of its start, of the rest, of its normal form.
-- Assumes nothing.
use mathlib.Core.Path.{◌≡◌, refl}
use mathlib.Core.Bool.{cond, not}
use mathlib.Core.List.{List, [], ◌∷◌, ◌++◌}
use Prim.Native.Nat.{ℕ, ◌<◌, ◌^◌}
use native.Mathlib.Omega.{arith}
use lib.ListN.{length}
use lib.Dec.{lit<}
use Rattle.lists.proofs.Tests.{cond_both}
use Rattle.ids.specs.declared.LockId.{LockId}
use Rattle.ids.specs.Order.{no_id}
use Rattle.coverage.specs.declared.LockCoverage.{LockCoverage}
use Rattle.coverage.specs.Coverage.{whole_vehicle}
use Rattle.state.specs.declared.Lock.{Lock}
use Rattle.state.specs.declared.ActiveLock.{ActiveLock}
use Rattle.state.specs.Locks.{normal}
use Rattle.records.specs.Numbers.{Field}
use Rattle.records.specs.Layouts.{Fit}
use Rattle.records.specs.Wire as wire
use Rattle.records.proofs.Layouts.{fit_append}

abbrev pub FitL : Lock → Type 0
FitL l = Fit (wire.lock_start).layout ((wire.lock_start).numbers l)

abbrev pub FitA : ActiveLock → Type 0
FitA a = Fit (wire.active).layout ((wire.active).numbers a)

pub fit_split : (fs gs : List Field) (vs ws : List ℕ) → length fs ≡ length vs → Fit (fs ++ gs) (vs ++ ws) → Fit fs vs × Fit gs ws
fit_split [] gs [] ws e k = (tt, k)
fit_split [] gs (v ∷ vs) ws e k = absurd (omega (arith, e))
fit_split (f ∷ fs) gs [] ws e k = absurd (omega (arith, e))
fit_split (f ∷ fs) gs (v ∷ vs) ws e k = let w = fit_split fs gs vs ws (omega (arith, e)) k.1 in ((k.0, w.0), w.1)

-- ---- the start and the rest
abbrev pub FitEnd : ActiveLock → Type 0
FitEnd a = Fit (wire.active_end).layout ((wire.active_end).numbers (wire.active_rest a))

pub parts : (a : ActiveLock) → FitA a → FitL a.lock × FitEnd a
parts a f = fit_split (wire.lock_start).layout (wire.active_end).layout ((wire.lock_start).numbers a.lock) ((wire.active_end).numbers (wire.active_rest a)) refl f

pub whole : (a : ActiveLock) → FitL a.lock → FitEnd a → FitA a
whole a f g = fit_append (wire.lock_start).layout (wire.active_end).layout ((wire.lock_start).numbers a.lock) ((wire.active_end).numbers (wire.active_rest a)) f g

-- a lock as an operation takes it
abbrev FitI : LockId → Type 0
FitI i = (i.hi < 2 ^ 64) × (i.lo < 2 ^ 64)

abbrev FitC : LockCoverage → Type 0
FitC c = (wire.flag (not c.whole) < 256) × (c.w0 < 2 ^ 64) × (c.w1 < 2 ^ 64) × (c.w2 < 2 ^ 64) × (c.w3 < 2 ^ 64)

pub fit_normal : (y : ActiveLock) → FitA y → FitA (normal y)
unfolding normal
fit_normal y f =
    let q = parts y f in
    let l = q.0 in
    let e = q.1 in
    let i : FitI (cond y.child y.parent no_id) = cond_both FitI y.parent no_id y.child (λ t. (e.1.1.0, e.1.1.1.0)) (λ t. (lit< tt, lit< tt)) in
    let c : FitC (cond y.lock.coverage.whole whole_vehicle y.lock.coverage) =
    cond_both FitC whole_vehicle y.lock.coverage y.lock.coverage.whole
    (λ t. (lit< tt, lit< tt, lit< tt, lit< tt, lit< tt))
    (λ t. (l.1.1.1.1.1.0, l.1.1.1.1.1.1.0, l.1.1.1.1.1.1.1.0, l.1.1.1.1.1.1.1.1.0, l.1.1.1.1.1.1.1.1.1.0)) in
    whole (normal y)
    (l.0, (l.1.0, (l.1.1.0, (l.1.1.1.0, (l.1.1.1.1.0, (c.0, (c.1, (c.2, (c.3, (c.4, l.1.1.1.1.1.1.1.1.1.1))))))))))
    (e.0, (e.1.0, (i.0, (i.1, tt))))
