-- C-20 at the library's door: old is the spare of the image handed in, new that of the image that was written. Assumes
-- nothing.
use mathlib.Core.Path.{◌≡◌, subst}
use mathlib.Core.List.{List}
use Prim.Native.Nat.{ℕ}
use native.Mathlib.Omega.{arith}
use lib.ListN.{length, take}
use Rattle.lists.specs.Tests.{Yes}
use Rattle.state.specs.Model.{model_of}
use Rattle.locks.specs.Locks.{delete_defunct_on}
use Rattle.records.specs.Wire.{id}
use Rattle.records.proofs.Numbers.{Bytes}
use Rattle.image.specs.declared.Spare.{Spare}
use Rattle.image.proofs.Trips.{accepted}
use Rattle.feed.specs.Feed.{step_on}
use Rattle.feed.specs.Runs.{run_on}
use Rattle.takeover.specs.Deeds.{feeding, deed_on}
use Rattle.cablegorse.specs.Changes.{Changed, apply_of, Left, spare_after, delete_of}
use Rattle.cablegorse.specs.Chunks.{Chunked, follow_of}
use Rattle.doors.specs.Reads.{reads}
use Rattle.doors.proofs.Doors.{one_spare}
use Rattle.doors.proofs.Doors as doors
use Rattle.stories.specs.Deeds.{deed_stated, deeds_stated, run_deeds}
use Rattle.stories.specs.Again.{ToldTheSame}
use Rattle.stories.proofs.Again.{delete_defunct_told}
use Rattle.stories.proofs.Deeds.{deed_told, deeds_told, run_deeds_lem}

-- what is left of the one spare that an image holds is the one spare that the next image holds
same_end : (s b : List ℕ) (left : Spare → Spare) (z old new : Spare) → reads s z → reads s old → reads b (left z) → reads b new → left old ≡ new
same_end s b left z old new ez e back g = one_spare b (left old) new (subst (λ (w : Spare). reads b (left w)) (one_spare s z old ez e) back) g

module _ (s f : List ℕ) (ys : Bytes s) (yf : Bytes f) (old new : Spare) (e : reads s old) where
  -- ---- cablegorse_apply, where the record was applied
  module _ (at : ℕ) (n m x : List ℕ) where
    abbrev c : Changed
    c = apply_of s f at n m x

    abbrev Told : Spare → Type 0
    Told z = Yes (deed_stated old (feeding f at) (model_of z.state)) → ToldTheSame old.state z.state

    stepped : Told (step_on old f at).spare
    unfolding deed_on
    stepped = deed_told old (accepted s old e).sound (feeding f at)

    pub apply_told : c.told.part ≡ 2 → reads (take c.told.written c.next) new → Yes (deed_stated old (feeding f at) (model_of new.state)) → ToldTheSame old.state new.state
    apply_told part g = go (doors.apply_door s f ys yf at n m x)
      where
        go : doors.Door s f at n m x c → Told new
        go (doors.kept a b d h i) = absurd (b part)
        go (doors.unreached z ez q d h i a b k) = absurd (omega (arith, part, q))
        go (doors.wrote z ez q nz back a d) = subst Told (same_end s _ (λ w. (step_on w f at).spare) z old new ez e back g) stepped

  -- ---- cablegorse_follow, where an image was written: the records that its run reads
  module _ (n : List ℕ) where
    abbrev chunk : Chunked
    chunk = follow_of s f n

    pub follow_told : (chunk.told.written ≡ 0 → ⊥) → reads (take chunk.told.written chunk.next) new → Yes (deeds_stated old (run_deeds (length f) old f 0)) → ToldTheSame old.state new.state
    follow_told some g t = go (doors.follow_door s f ys yf n)
      where
        ran : ToldTheSame old.state (run_on (length f) old f 0).state
        ran = subst (λ (w : Spare). ToldTheSame old.state w.state) (run_deeds_lem (length f) old f 0) (deeds_told old (accepted s old e).sound (run_deeds (length f) old f 0) t)

        go : doors.Chunk s f n chunk → ToldTheSame old.state new.state
        go (doors.kept w q) = absurd (some w)
        go (doors.wrote z ez nz back q) = subst (λ (w : Spare). ToldTheSame old.state w.state) (same_end s _ (λ w. run_on (length f) w f 0) z old new ez e back g) ran

-- ---- cablegorse_delete_defunct, where an image was written
module _ (s : List ℕ) (ys : Bytes s) (hi lo kind number subject : ℕ) (n : List ℕ) (old new : Spare) (e : reads s old) where
  abbrev d : Left
  d = delete_of s hi lo kind number subject n

  pub drop_told : (d.told.written ≡ 0 → ⊥) → reads (take d.told.written d.next) new → ToldTheSame old.state new.state
  drop_told some g = go (doors.delete_door s ys hi lo kind number subject n)
    where
      go : doors.Deleted s (id hi lo) subject n d → ToldTheSame old.state new.state
      go (doors.kept w q) = absurd (some w)
      go (doors.wrote z k ez q nz back r) =
          subst (λ (w : Spare). ToldTheSame old.state w.state) (same_end s _ (λ w. spare_after w.expected (delete_defunct_on w.state (id hi lo) k subject)) z old new ez e back g)
          (delete_defunct_told old.state (accepted s old e).sound (id hi lo) k subject)
