-- The holder's walk as the code does it, from id to id. On a sound state each entry has one entry more ahead of it than
-- the id that it leads to (rule 9), so the walk ends, and passes 128 entries at most.
-- Assumes nothing.
use mathlib.Core.Path.{◌≡◌, sym, ap, ◌∙◌}
use mathlib.Core.List.{List}
use Rattle.std.specs.Prelude.{Option, None, Some}
use Prim.Native.Nat.{ℕ, suc, ◌+◌, ◌≤◌, ◌<◌}
use native.Mathlib.Numerals.{add-one}
use native.Mathlib.Omega.{arith}
use lib.ListN.{length, length-take}
use Rattle.lists.specs.Lists.{find}
use Rattle.ids.specs.declared.LockId.{LockId}
use Rattle.ids.specs.Order.{key}
use Rattle.state.specs.declared.ActiveLock.{ActiveLock}
use Rattle.state.specs.declared.DefunctLock.{DefunctLock}
use Rattle.state.specs.declared.LockState.{LockState}
use Rattle.state.specs.Locks.{has_id, has_id_d}
use Rattle.state.specs.Model.{model_of}
use Rattle.std.specs.Prelude.{Ok}
use Rattle.rules.specs.Rules.{find_a, find_d, broken_rule}
use Rattle.rules.proofs.Ends.{Ends, ends_anywhere}
use Rattle.rules.proofs.Sound.{facts_of_state}
use Rattle.lookups.specs.Reads.{held, walk}
use Rattle.lookups.proofs.Verdicts.{defuncts_fit}
use Rattle.lookups.proofs.Walk.{walk_held, walk_out, walk_on, ahead, ahead_le, ahead_on, enough}

-- ---- what is found by an id
pub held_at : (s : LockState) (id : LockId) (r : Option ActiveLock) → r ≡ find (has_id id) (model_of s).active → r ≡ find_a (model_of s).active (key id)
unfolding has_id
held_at s id r e = e

pub entry_at : (s : LockState) (id : LockId) (r : Option DefunctLock) → r ≡ find (has_id_d id) (model_of s).defunct → r ≡ find_d (model_of s).defunct (key id)
unfolding has_id_d
entry_at s id r e = e

-- ---- along the walk: i and h the target and holder of the record asked for
pub record Along (s : LockState) (i : LockId) (h : ℕ) (id : LockId) (holder links : ℕ) : Type 0 where
  pub room : links + ahead (model_of s).defunct (key id) ≤ 128
  pub same : walk (suc (ahead (model_of s).defunct (key id))) (model_of s) (key id) holder links ≡ walk (suc (length (model_of s).defunct)) (model_of s) (key i) h 0

module _ (s : LockState) (e : broken_rule s ≡ Ok tt) (i : LockId) (h : ℕ) where
  abbrev entries : List DefunctLock
  entries = (model_of s).defunct

  ends : (k : ℕ) → Ends entries k
  ends k = ends_anywhere (model_of s) (facts_of_state s e).nine k

  pub starts : Along s i h i h 0
  starts =
      let q = ahead_le entries (key i) in
      record {
        room = omega (arith, length-take s.defuncts s.defunct, defuncts_fit s e);
        same = enough (model_of s) (ends (key i)) (ahead entries (key i)) (length entries) (omega arith) q h 0;
      }

  module _ (id : LockId) (holder links : ℕ) (v : Along s i h id holder links) where
    pub ends_held : (a : ActiveLock) → find_a (model_of s).active (key id) ≡ Some a → held a.lock.subject links ≡ walk (suc (length entries)) (model_of s) (key i) h 0
    ends_held a f = sym (walk_held (model_of s) (ahead entries (key id)) (key id) holder links a f) ∙ v.same

    module _ (f : find_a (model_of s).active (key id) ≡ None) where
      pub ends_out : find_d entries (key id) ≡ None → held holder links ≡ walk (suc (length entries)) (model_of s) (key i) h 0
      ends_out g = sym (walk_out (model_of s) (ahead entries (key id)) (key id) holder links f g) ∙ v.same

      module _ (d : DefunctLock) (g : find_d entries (key id) ≡ Some d) where
        one_on : ahead entries (key id) ≡ suc (ahead entries (key d.target))
        one_on = ahead_on entries (key id) (ends (key id)) d g

        pub link_fits : links + 1 ≤ 128
        link_fits = omega (arith, v.room, one_on)

        pub fewer : ahead entries (key d.target) < ahead entries (key id)
        fewer = omega (arith, one_on)

        pub turns : Along s i h d.target d.holder (links + 1)
        turns = record {
          room = omega (arith, v.room, one_on);
          same = rw (add-one links) (sym (walk_on (model_of s) (suc (ahead entries (key d.target))) (key id) holder links d f g) ∙ ap (λ (n : ℕ). walk (suc n) (model_of s) (key id) holder links) (sym one_on) ∙ v.same);
        }
