-- The walk of current_holder, in a sound state: it ends (more fuel changes nothing), its count is the number of the
-- entries it passed, which are the only ones that can be followed from the record, at most as many as there are, and for a
-- stored record one less. Assumes nothing.
use mathlib.Core.Path.{◌≡◌}
use mathlib.Core.List.{List}
use Prim.Native.Nat.{ℕ, suc, ◌≤◌, ◌<◌}
use native.Mathlib.Omega.{arith}
use lib.ListN.{length}
use borrow.Author.Tests.{leb-true}
use Rattle.lists.specs.Tests.{Yes}
use Rattle.lists.specs.Lists.{Mem}
use Rattle.lists.proofs.Tests.{and_r}
use Rattle.ids.specs.Order.{key}
use Rattle.state.specs.declared.DefunctLock.{DefunctLock}
use Rattle.state.specs.declared.LockState.{LockState}
use Rattle.state.specs.Model.{Model, model_of, Limits, full, fits}
use Rattle.std.specs.Prelude.{Ok}
use Rattle.rules.specs.Rules.{rule9, broken_rule, sound}
use Rattle.rules.proofs.Sound.{sound_of}
use Rattle.lookups.specs.Reads.{Follows, walk, holder_of}
use Rattle.lookups.proofs.Walk.{holder_links, stored_links, holder_fuel}
use Rattle.lookups.proofs.Follow.{Way, holder_follows, holder_exact}
use Rattle.promises.proofs.Core.{stands_of}

module _ (k : Limits) (m : Model) (s : Yes (sound k m)) where
  nine : Yes (rule9 m)
  unfolding sound
  nine = and_r _ _ s

  -- the count is the number of the entries passed
  pub holder_passes : (d : DefunctLock) → Way m (key d.target) d.holder 0 (holder_of m d)
  holder_passes d = holder_follows m nine d

  pub links_exact : (d : DefunctLock) (ds : List DefunctLock) (u : ℕ) → Follows m (key d.target) d.holder ds u → ((holder_of m d).links ≡ length ds) × ((holder_of m d).subject ≡ u)
  links_exact d ds u f = holder_exact m nine d ds u f

  -- at most as many as the limits allow (128)
  pub links_bound : (d : DefunctLock) → (holder_of m d).links ≤ k.defunct
  unfolding fits
  links_bound d = omega (arith, holder_links m nine d, leb-true (length m.defunct) k.defunct (and_r _ _ (stands_of k m s).room))

  -- and one less (127) for a stored record
  pub links_stored : (d : DefunctLock) → Mem d m.defunct → (holder_of m d).links < length m.defunct
  links_stored d u = stored_links m nine (stands_of k m s).core.order_d d u

  -- the walk ends: any fuel from there on gives the same answer
  pub walk_ends : (d : DefunctLock) (n : ℕ) → length m.defunct ≤ n → walk (suc n) m (key d.target) d.holder 0 ≡ holder_of m d
  walk_ends d n h = holder_fuel m nine d n h

-- in the code's states
pub links_full : (s : LockState) → broken_rule s ≡ Ok tt → (d : DefunctLock) → ((holder_of (model_of s) d).links ≤ 128) × (Mem d (model_of s).defunct → (holder_of (model_of s) d).links ≤ 127)
unfolding fits
links_full s e d =
    let t = sound_of s e in (
      links_bound full (model_of s) t d,
      λ u. omega (arith, links_stored full (model_of s) t d u, leb-true (length (model_of s).defunct) 128 (and_r _ _ (stands_of full (model_of s) t).room)),
    )
