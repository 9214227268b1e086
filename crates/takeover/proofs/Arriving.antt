-- The two ends of a feed as bytes.
--     two_ends_bytes   a spare that runs over the records received, as the writer wrote them, one after the other, ends as a primary
--                      that has done as many operations as the spare has applied records
--     two_ends_follow  the same of a chunk: every receipt is read, those that count are applied, and it ends at its end
-- Assumes nothing.
use mathlib.Core.Path.{◌≡◌, refl, sym, ap, subst, ◌∙◌}
use mathlib.Core.Bool.{Bool, true, false, cond}
use mathlib.Core.List.{List, [], ◌∷◌, ◌++◌, map, append-nil, append_assoc}
use Prim.Native.Nat.{ℕ, zero, suc, ◌+◌, ◌≤◌, ◌<◌, ◌^◌}
use native.Mathlib.Nat.{add-zero, zero-add, min-eq_left, not-suc-le-zero, le_of_suc-le-suc}
use native.Mathlib.Omega.{arith}
use lib.Dec.{eqb, leb}
use lib.ListN.{length, take, drop, length-append, length-take}
use borrow.Author.Tests.{eqb-true, eqb-false}
use Rattle.std.specs.Prelude.{Ok, Err}
use Rattle.rules.specs.Rules.{broken_rule}
use Rattle.records.specs.Numbers.{bytes_of, digits, bytes_of_all}
use Rattle.records.specs.Framing.{record_of}
use Rattle.records.specs.Sending.{normal_request, request_bytes}
use Rattle.records.specs.Ranges.{Sendable}
use Rattle.records.proofs.Sends.{sent_frame, framed, sent_read}
use Rattle.image.specs.declared.Spare.{Spare}
use Rattle.feed.specs.declared.events.FeedRefusal.TheVariants.{Repeat, Ahead}
use Rattle.feed.specs.declared.events.Step.{Step}
use Rattle.feed.specs.declared.following.Run.{Run}
use Rattle.feed.specs.Feed.{distance, after, Numbered, body_in, taken_asked, taken_framed, taken_at, still, act_on, turn_on, step_on, is_applied}
use Rattle.feed.specs.Runs.{stops, run_on, fresh, passed, follow_on}
use Rattle.feed.proofs.Turning.{turn_next, turn_goes, step_takes}
use Rattle.feed.proofs.Chunks.{reached, follow_end, follow_go, follow_runs}
use Rattle.takeover.specs.Feeding.{fed, fed_all, in_turn, number_of, performs}
use Rattle.takeover.specs.Ends.{Wish, stamped_from, sent_bytes, as_read, numbered_from, done_all, Receipts, picked, applied, Arrives, received_from, bytes_from, Writable, Each}
use Rattle.takeover.proofs.Any as any
use Rattle.takeover.proofs.Keeping.{performs_keep}
use Rattle.takeover.proofs.Receipts.{after_small, applied_within, turn_picked}
use Rattle.takeover.proofs.Running.{fed_all_records, turn_fed}
use Rattle.takeover.proofs.Ends.{numbered_turns, stamped_length, numbered_length, arrives_numbered, two_ends}

-- ---- what holds of every element holds of the receipts
module _ {X : Type 0} where
  module _ (P : X → Type 0) where
    each_drop : (j : ℕ) (xs : List X) → Each P xs → Each P (drop j xs)
    each_drop zero xs h = h
    each_drop (suc j) [] h = tt
    each_drop (suc j) (x ∷ xs) h = each_drop j xs h.1

    each_one : (xs ys : List X) → Each P xs → Each P ys → Each P (take 1 xs ++ ys)
    each_one [] ys h k = k
    each_one (x ∷ xs) ys h k = (h.0, k)

    each_picked : (xs : List X) → Each P xs → (js : List ℕ) → Each P (picked xs js)
    unfolding picked
    each_picked xs h [] = tt
    each_picked xs h (j ∷ js) = each_one (drop j xs) (picked xs js) (each_drop j xs h) (each_picked xs h js)

  one_length : (j : ℕ) (xs ys : List X) → j < length xs → length (take 1 (drop j xs) ++ ys) ≡ suc (length ys)
  one_length j [] ys h = absurd (not-suc-le-zero h)
  one_length zero (x ∷ xs) ys h = refl
  one_length (suc j) (x ∷ xs) ys h = one_length j xs ys (le_of_suc-le-suc h)

  picked_length : (xs : List X) (js : List ℕ) → Receipts (length xs) js → length (picked xs js) ≡ length js
  unfolding picked
  picked_length xs [] r = refl
  picked_length xs (j ∷ js) r = one_length j xs (picked xs js) r.0 ∙ ap suc (picked_length xs js r.1)

  module _ {Y : Type 0} (f : X → Y) where
    one_map : (j : ℕ) (xs ys : List X) → map f (take 1 (drop j xs) ++ ys) ≡ take 1 (drop j (map f xs)) ++ map f ys
    one_map zero [] ys = refl
    one_map zero (x ∷ xs) ys = refl
    one_map (suc j) [] ys = refl
    one_map (suc j) (x ∷ xs) ys = one_map j xs ys

    pub picked_map : (xs : List X) (js : List ℕ) → map f (picked xs js) ≡ picked (map f xs) js
    unfolding picked
    picked_map xs [] = refl
    picked_map xs (j ∷ js) = one_map j xs (picked xs js) ∙ ap (λ (l : List Y). take 1 (drop j (map f xs)) ++ l) (picked_map xs js)

add_suc_out : (a b : ℕ) → a + 1 + b ≡ a + suc b
add_suc_out a b = omega arith

-- ---- a record that is read
module _ (sp : Spare) (e : broken_rule sp.state ≡ Ok tt) (n : ℕ) (x : Numbered) where
  turn_applied : is_applied (turn_on sp n x).told.event ≡ eqb (distance x.number sp.expected) 0
  unfolding turn_on act_on is_applied
  turn_applied = go (eqb (distance x.number sp.expected) 0) (leb (distance x.number sp.expected) 2147483647)
    where
      go : (c d : Bool) → is_applied (cond c (act_on sp n x) (cond d (still sp (Err (Ahead sp.expected)) x.number n) (still sp (Err (Repeat sp.expected)) x.number n))).told.event ≡ c
      go true d = refl
      go false true = refl
      go false false = refl

  passed_on : (at read many : ℕ) → passed (reached sp at read many) (turn_on sp n x) ≡ reached (fed number_of performs sp x) n (read + 1) (many + cond (eqb (distance x.number sp.expected) 0) 1 0)
  passed_on at read many = λ i. reached (turn_fed sp n x e i) (turn_next sp n x i) (read + 1) (many + cond (turn_applied i) 1 0)

  -- those that come in turn are counted
  count_turn : (xs : List Numbered) (many : ℕ) → (many + cond (eqb (distance x.number sp.expected) 0) 1 0) + length (in_turn number_of (fed number_of performs sp x).expected xs) ≡ many + length (in_turn number_of sp.expected (x ∷ xs))
  unfolding in_turn
  count_turn xs many = go (eqb (distance x.number sp.expected) 0) refl
    where
      go : (b : Bool) → eqb (distance x.number sp.expected) 0 ≡ b
          → (many + cond b 1 0) + length (in_turn number_of (fed number_of performs sp x).expected xs) ≡ many + length (cond b (x ∷ in_turn number_of (after sp.expected) xs) (in_turn number_of sp.expected xs))
      go true t = ap (λ (k : ℕ). (many + 1) + length (in_turn number_of k xs)) (any.fed_due number_of performs sp x e (eqb-true _ _ t)) ∙ add_suc_out many _
      go false t = ap (λ (y : Spare). (many + 0) + length (in_turn number_of y.expected xs)) (any.fed_other number_of performs sp x (eqb-false _ _ t)) ∙ ap (λ (k : ℕ). k + length (in_turn number_of sp.expected xs)) (add-zero many)

-- ---- a list of records, each as the writer wrote it
sent_some : (x : Numbered) → 0 < length (sent_bytes x)
unfolding request_bytes record_of bytes_of digits
sent_some x = omega arith

sent_many : (xs : List Numbered) → length xs ≤ length (bytes_of_all sent_bytes xs)
unfolding bytes_of_all
sent_many [] = omega arith
sent_many (x ∷ xs) = let a = sent_some x in let b = sent_many xs in let c = length-append (sent_bytes x) (bytes_of_all sent_bytes xs) in omega arith

abbrev Sends : Numbered → Type 0
Sends x = Sendable x.number x.request x.list

-- a step at its place
pub step_sent : (sp : Spare) → broken_rule sp.state ≡ Ok tt → (x : Numbered) → Sends x → (p t : List ℕ) → step_on sp (p ++ (sent_bytes x ++ t)) (length p) ≡ turn_on sp (length (p ++ sent_bytes x)) (as_read x)
unfolding taken_at
step_sent sp e x h p t =
    let s = p ++ (sent_bytes x ++ t) in
    let r = normal_request x.request in
    let f = sent_frame (length p) x.number x.request x.list in
    let read = sent_read x.number x.request x.list h p t (body_in s f) refl in
    step_takes sp s (length p) e (record { sequence = x.number; request = r; frame = f })
    (ap (taken_framed s (length p)) (framed x.number x.request x.list h p t) ∙ ap (taken_asked (length p) f) read.0)
    ∙ (λ i. turn_on sp (sym (length-append p (sent_bytes x)) i) (record { number = x.number; request = r; list = read.1 i }))

follow_sent : (xs : List Numbered) → Each Sends xs → (sp : Spare) → broken_rule sp.state ≡ Ok tt → (p : List ℕ) (read many n : ℕ) → length xs ≤ n
    → follow_on n (reached sp (length p) read many) (p ++ bytes_of_all sent_bytes xs)
    ≡ reached (fed_all_records sp (map as_read xs)) (length (p ++ bytes_of_all sent_bytes xs)) (read + length xs) (many + length (in_turn number_of sp.expected (map as_read xs)))
unfolding fed_all in_turn bytes_of_all
follow_sent [] h sp e p read many n l =
    let z : length (p ++ []) ≡ length p = ap length (append-nil p) in
    follow_end (reached sp (length p) read many) (p ++ []) n (omega arith) ∙ (λ i. reached sp (sym z i) (sym (add-zero read) i) (sym (add-zero many) i))
follow_sent (x ∷ xs) h sp e p read many zero l = absurd (not-suc-le-zero l)
follow_sent (x ∷ xs) h sp e p read many (suc n) l =
    let r = reached sp (length p) read many in
    let t = bytes_of_all sent_bytes xs in
    let s = p ++ (sent_bytes x ++ t) in
    let y = as_read x in
    let at = length (p ++ sent_bytes x) in
    let next = fed number_of performs sp y in
    let count = many + cond (eqb (distance x.number sp.expected) 0) 1 0 in
    let step = step_sent sp e x h.0 p t in
    let room : length p < length s = let a = sent_some x in let b = length-append p (sent_bytes x ++ t) in let c = length-append (sent_bytes x) t in omega arith in
    follow_go r s n room (ap (λ (st : Step). stops st.told.event) step ∙ turn_goes sp at y)
    ∙ ap (λ (st : Step). follow_on n (passed r st) s) step
    ∙ ap (λ (r' : Run). follow_on n r' s) (passed_on sp e at y (length p) read many)
    ∙ ap (follow_on n (reached next at (read + 1) count)) (sym (append_assoc p (sent_bytes x) t))
    ∙ follow_sent xs h.1 next (any.fed_keeps number_of performs performs_keep sp y e) (p ++ sent_bytes x) (read + 1) count n (le_of_suc-le-suc l)
    ∙ (λ i. reached (fed_all_records next (map as_read xs)) (length (append_assoc p (sent_bytes x) t i)) (add_suc_out read (length xs) i) (count_turn sp e at y (map as_read xs) many i))

-- ---- the receipts of what a primary sent
stamped_send : (ws : List Wish) → Each Writable ws → (e : ℕ) → e < 2 ^ 32 → Each Sends (stamped_from e ws)
unfolding stamped_from
stamped_send [] h e l = tt
stamped_send (x ∷ xs) h e l = (h.0 e l, stamped_send xs h.1 (after e) (after_small e))

module _ (sp : Spare) (e : broken_rule sp.state ≡ Ok tt) (small : sp.expected < 2 ^ 32) (wishes : List Wish) (can : Each Writable wishes)
    (js : List ℕ) (a : Arrives (2 ^ 31) (length wishes) js) where
  read_all : length (picked (stamped_from sp.expected wishes) js) ≡ length js
  read_all = picked_length (stamped_from sp.expected wishes) js (subst (λ (m : ℕ). Receipts m js) (sym (stamped_length wishes sp.expected)) a.sent)

  all_applied : length (in_turn number_of sp.expected (received_from sp.expected wishes js)) ≡ applied 0 js
  all_applied =
      let xs = numbered_from sp.expected wishes in
      let len = numbered_length wishes sp.expected in
      let few = applied_within (length wishes) js 0 a.sent (omega arith) in
      ap length (turn_picked number_of xs sp.expected small (numbered_turns wishes sp.expected) (2 ^ 31) (omega arith) js (arrives_numbered (2 ^ 31) wishes sp.expected js a))
      ∙ length-take (applied 0 js) xs ∙ min-eq_left (omega arith)

  -- as many turns as there are bytes are enough
  pub enough : length js ≤ length (bytes_from sp.expected wishes js)
  enough = omega (arith, read_all, sent_many (picked (stamped_from sp.expected wishes) js))

  pub two_ends_follow : (n : ℕ) → length js ≤ n
      → follow_on n (fresh sp) (bytes_from sp.expected wishes js) ≡ reached (done_all sp (take (applied 0 js) wishes)) (length (bytes_from sp.expected wishes js)) (length js) (applied 0 js)
  two_ends_follow n l =
      let xs = picked (stamped_from sp.expected wishes) js in
      let same : map as_read xs ≡ received_from sp.expected wishes js = picked_map as_read (stamped_from sp.expected wishes) js in
      follow_sent xs (each_picked Sends _ (stamped_send wishes can sp.expected small) js) sp e [] 0 0 n (omega (arith, read_all, l))
      ∙ (λ i.
      reached ((ap (fed_all_records sp) same ∙ two_ends sp e small wishes js a) i) (length (bytes_from sp.expected wishes js)) ((zero-add (length xs) ∙ read_all) i)
      ((zero-add _ ∙ ap (λ (l : List Numbered). length (in_turn number_of sp.expected l)) same ∙ all_applied) i))

  pub two_ends_bytes : (n : ℕ) → length js ≤ n → run_on n sp (bytes_from sp.expected wishes js) 0 ≡ done_all sp (take (applied 0 js) wishes)
  two_ends_bytes n l = sym (follow_runs n (fresh sp) _) ∙ ap (λ (x : Run). x.spare) (two_ends_follow n l)
