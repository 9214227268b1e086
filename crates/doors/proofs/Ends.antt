-- The two ends of a feed at the library's door (02, C-12): "a spare that began equal and has applied as many records are equal states,
-- whatever was lost, repeated or reordered on the way".
--     two_ends_door  a primary calls cablegorse_perform, image to image; a spare of the same first image calls cablegorse_follow on
--                    the records that it received: its image is byte for byte the primary's after as many calls as it has applied
--     last_door      so where it has applied all, the primary's last one
-- Assumes nothing.
use mathlib.Core.Path.{◌≡◌, refl, sym, ap, ap₂, subst, ◌∙◌}
use mathlib.Core.List.{List, [], ◌∷◌, ◌++◌, map}
use Prim.Native.Nat.{ℕ, zero, suc, ◌≤◌, ◌^◌}
use native.Mathlib.Omega.{arith}
use lib.ListN.{length, take}
use lib.Seq.{take_all}
use borrow.Author.Tests.{le-ltb}
use Rattle.lists.proofs.Tests.{cond_false}
use Rattle.std.specs.Prelude.{Ok}
use Rattle.rules.specs.Rules.{broken_rule}
use Rattle.records.specs.declared.requests.Request.{Request}
use Rattle.records.specs.Numbers.{bytes_of_all}
use Rattle.records.specs.Ranges.{InTypes as RequestTyped}
use Rattle.records.proofs.Numbers.{Bytes}
use Rattle.image.specs.declared.Spare.{Spare}
use Rattle.image.specs.Ranges.{InTypes as SpareTyped}
use Rattle.image.proofs.Trips.{accepted, read_written, write_read}
use Rattle.calls.specs.Calls.{perform_on}
use Rattle.feed.specs.declared.following.Run.{Run}
use Rattle.feed.specs.Runs.{fresh, follow_on}
use Rattle.feed.proofs.Chunks.{reached}
use Rattle.takeover.specs.Feeding.{moved}
use Rattle.takeover.specs.Ends.{Wish, stamped_from, sent_bytes, done_all, picked, applied, Arrives, bytes_from, Writable, Each}
use Rattle.takeover.proofs.Keeping.{performs_keep}
use Rattle.takeover.proofs.Arriving.{picked_map, enough, two_ends_follow}
use Rattle.cablegorse.specs.Changes.{image_bytes, size_of}
use Rattle.cablegorse.specs.Chunks.{Chunked, stop_told, stop_part, run_put, follow_of}
use Rattle.doors.specs.Reads.{reads}
use Rattle.doors.specs.Ends.{Sends, Call, Callable, image_in, called, Calls, last_image, sent_in, arrived, SameEnd}
use Rattle.doors.proofs.Own.{own_typed, stored_front, image_read, Performing, stayed, wrote, known_door}
use Rattle.doors.proofs.Doors.{one_spare}
use Rattle.doors.proofs.Typed.{accepted_typed}

-- ---- the calls of a primary as wishes
record Primary (s : List ℕ) (sp : Spare) (cs : List Call) : Type 0 where
  wishes : List Wish
  many : length wishes ≡ length cs
  writable : Each Writable wishes
  records : sent_in s cs ≡ map sent_bytes (stamped_from sp.expected wishes)
  images : (k : ℕ) → last_image s (take k cs) ≡ image_bytes (done_all sp (take k wishes))

none : (s : List ℕ) (sp : Spare) → s ≡ image_bytes sp → Primary s sp []
unfolding sent_in stamped_from last_image done_all
none s sp e = record { wishes = []; many = refl; writable = tt; records = refl; images = first }
  where
    first : (k : ℕ) → last_image s (take k []) ≡ image_bytes (done_all sp (take k []))
    first zero = e
    first (suc k) = e

-- the spare after a call
abbrev next : Spare → Request → List ℕ → Spare
next sp r ws = moved (perform_on sp.state r ws).state sp

abbrev Sent : List ℕ → Call → Spare → Request → Type 0
Sent s c sp r = Sends s c.operation c.words c.next c.removed c.expired c.sent sp r (called s c)

more : (s : List ℕ) (sp : Spare) (c : Call) (cs : List Call) → s ≡ image_bytes sp → (r : Request)
    → Sent s c sp r → Primary (image_in (called s c)) (next sp r c.words) cs → Primary s sp (c ∷ cs)
unfolding sent_in stamped_from last_image done_all
more s sp c cs e r z p =
    let x : Wish = record { request = r; words = c.words } in
    record {
      wishes = x ∷ p.wishes;
      many = ap suc p.many;
      writable = ((λ q h. record { sequence = h; numbers = z.sendable.numbers; list = z.sendable.list }), p.writable);
      records = ap₂ (λ (a : List ℕ) (l : List (List ℕ)). a ∷ l) z.bytes p.records;
      images = all;
    }
  where
    all : (k : ℕ) → last_image s (take k (c ∷ cs)) ≡ image_bytes (done_all sp (take k (record { request = r; words = c.words } ∷ p.wishes)))
    all zero = e
    all (suc k) = p.images k

primary : (cs : List Call) (s : List ℕ) (sp : Spare) → s ≡ image_bytes sp → SpareTyped sp → broken_rule sp.state ≡ Ok tt → Each Callable cs → Calls s cs → Primary s sp cs
unfolding Calls
primary [] s sp e y q t h = none s sp e
primary (c ∷ cs) s sp e y q t h =
    go (λ r i f. primary cs (image_in (called s c)) (next sp r c.words) i (own_typed sp y q r c.words f) (performs_keep (record { number = 0; request = r; list = c.words }) sp.state q) t.1 h.1)
    (known_door s c.operation c.words c.next c.removed c.expired c.sent t.0.0 t.0.1 sp is y)
  where
    is : reads s sp
    is = subst (λ (b : List ℕ). reads b sp) (sym e) (read_written sp y q)

    go : ((r : Request) → image_in (called s c) ≡ image_bytes (next sp r c.words) → RequestTyped r → Primary (image_in (called s c)) (next sp r c.words) cs)
        → Performing s c.operation c.words c.next c.removed c.expired c.sent (called s c) → Primary s sp (c ∷ cs)
    go rest (stayed k a b d g) = absurd (k h.0)
    go rest (wrote sp' e' r p z') =
        let z : Sent s c sp r = subst (λ (v : Spare). Sent s c v r) (one_spare s sp' sp e' is) z' in
        more s sp c cs e r z (rest r z.image z.sendable.numbers)

-- ---- the spare
bytes_map : {A : Type 0} (f : A → List ℕ) (xs : List A) → bytes_of_all (λ b. b) (map f xs) ≡ bytes_of_all f xs
unfolding bytes_of_all
bytes_map f [] = refl
bytes_map f (x ∷ xs) = ap (λ (l : List ℕ). f x ++ l) (bytes_map f xs)

-- into a buffer with room
run_ends : (z : Spare) (place read many : ℕ) (n : List ℕ) → size_of z ≤ length n → (c : Chunked) → run_put (reached z place read many) n ≡ c
    → (c.told.part ≡ 2) × (c.told.read ≡ read) × (c.told.applied ≡ many) × (take c.told.written c.next ≡ image_bytes z)
unfolding run_put stop_told stop_part
run_ends z place read many n h c e =
    let g = sym e ∙ cond_false _ _ _ (le-ltb _ _ h) in (
      ap (λ (x : Chunked). x.told.part) g,
      ap (λ (x : Chunked). x.told.read) g,
      ap (λ (x : Chunked). x.told.applied) g,
      ap (λ (x : Chunked). take x.told.written x.next) g ∙ stored_front n (image_bytes z) h,
    )

module _ (s : List ℕ) (y : Bytes s) (sp : Spare) (e : reads s sp) (cs : List Call) (t : Each Callable cs) (h : Calls s cs) (js : List ℕ) (a : Arrives (2 ^ 31) (length cs) js) (n : List ℕ) where
  pub two_ends_door : length (last_image s (take (applied 0 js) cs)) ≤ length n → SameEnd s cs js (follow_of s (arrived s cs js) n)
  unfolding follow_of
  two_ends_door room =
      let u = accepted_typed s y sp e in
      let q = (accepted s sp e).sound in
      let p = primary cs s sp (sym (write_read s sp y e)) u q t h in
      let b = subst (λ (k : ℕ). Arrives (2 ^ 31) k js) (sym p.many) a in
      let f : List ℕ = arrived s cs js in
      let g : List ℕ = bytes_from sp.expected p.wishes js in
      let z : Spare = done_all sp (take (applied 0 js) p.wishes) in
      let same : f ≡ g =
      ap (λ (l : List (List ℕ)). bytes_of_all (λ b. b) (picked l js)) p.records
      ∙ ap (bytes_of_all (λ b. b)) (sym (picked_map sent_bytes (stamped_from sp.expected p.wishes) js))
      ∙ bytes_map sent_bytes (picked (stamped_from sp.expected p.wishes) js) in
      let ran : follow_on (length f) (fresh sp) f ≡ reached z (length g) (length js) (applied 0 js) =
      ap (λ (l : List ℕ). follow_on (length l) (fresh sp) l) same
      ∙ two_ends_follow sp q u.expected p.wishes p.writable js b (length g) (enough sp q u.expected p.wishes p.writable js b) in
      let is = p.images (applied 0 js) in
      let w = run_ends z (length g) (length js) (applied 0 js) n (subst (λ (l : List ℕ). length l ≤ length n) is room) (follow_of s f n)
      (ap (λ (r : Run). run_put r n) (sym ran) ∙ sym (image_read s sp e _ _)) in
      record { part = w.0; read = w.1; count = w.2; image = w.3 ∙ sym is }

  pub last_door : applied 0 js ≡ length cs → length (last_image s cs) ≤ length n → take (follow_of s (arrived s cs js) n).told.written (follow_of s (arrived s cs js) n).next ≡ last_image s cs
  last_door k room =
      let all : take (applied 0 js) cs ≡ cs = ap (λ (m : ℕ). take m cs) k ∙ take_all (length cs) cs (omega arith) in
      (two_ends_door (subst (λ (l : List Call). length (last_image s l) ≤ length n) (sym all) room)).image ∙ ap (last_image s) all
