-- 02, C-12 computed: three operations, numbered round 2^32, and receipts of them: the second early, the first twice, the third
-- early, the second twice, and the third not again.
--     round     the numbers
--     unread    words beside an operation that has no ids are not sent
--     counted   two are applied
--     in_order  the first two, in their order
--     arrives   none was late or early by 2 or more
-- Assumes nothing.
use mathlib.Core.Path.{◌≡◌, refl}
use mathlib.Core.List.{List, [], ◌∷◌, map}
use Prim.Native.Nat.{ℕ}
use native.Mathlib.Omega.{arith}
use lib.ListN.{length, take}
use Rattle.records.specs.declared.requests.Request.TheVariants.{ExpireDefunct}
use Rattle.feed.specs.Feed.{distance, after, Numbered}
use Rattle.takeover.specs.Feeding.{in_turn, number_of}
use Rattle.takeover.specs.Ends.{Wish, stamped_from, numbered_from, picked, applied, Arrives}

abbrev wish : ℕ → Wish
wish now = record { request = ExpireDefunct now; words = 7 ∷ [] }

abbrev wishes : List Wish
wishes = wish 1 ∷ wish 2 ∷ wish 3 ∷ []

abbrev receipts : List ℕ
receipts = 1 ∷ 0 ∷ 0 ∷ 2 ∷ 1 ∷ 1 ∷ []

pub record Computed : Type 0 where
  round : map number_of (numbered_from 4294967295 wishes) ≡ 4294967295 ∷ 0 ∷ 1 ∷ []
  unread : map (λ (x : Numbered). x.list) (numbered_from 4294967295 wishes) ≡ [] ∷ [] ∷ [] ∷ []
  counted : applied 0 receipts ≡ 2
  in_order_lem : in_turn number_of 4294967295 (picked (numbered_from 4294967295 wishes) receipts) ≡ numbered_from 4294967295 (take 2 wishes)
  arrives : Arrives 2 (length wishes) receipts

pub computed : Computed
unfolding stamped_from after distance in_turn picked applied
computed =
    record {
      round = refl;
      unread = refl;
      counted = refl;
      in_order_lem = refl;
      arrives = record { sent = (omega arith, (omega arith, (omega arith, (omega arith, (omega arith, (omega arith, tt)))))); near = (omega arith, omega arith, (omega arith, omega arith, (omega arith, omega arith, (omega arith, omega arith, (omega arith, omega arith, (omega arith, omega arith, tt)))))) };
    }
