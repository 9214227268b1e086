-- The ids of a record as words: handed on as a part of an array, and always an even number of them, so that 14 is never the
-- answer to a record that was read. Assumes nothing.
use Rattle.std.proofs.Common.{◌≡◌, ℕ, ◌+◌, ◌-◌, ◌*◌, ◌/◌, ◌%◌, ◌≤◌, min, eqb, leb, ◌⊎◌, List, [], length, take, drop, sym, refl, ap, ◌∙◌, inl, inr, ⊎_elim, arith, length-drop, eq-eqb, eqb-true, leb-false, leb-true}
use native.Mathlib.Nat.{min-eq_left, min-eq_right, sub-zero}
use Rattle.lists.specs.Tests.{◌and◌, non, No}
use Rattle.lists.specs.Places.{in_places}
use Rattle.lists.proofs.Tests.{and_l, non_t, by, cond_both}
use Rattle.ids.specs.Words.{odd_words}
use Rattle.state.proofs.Laws.{back}
use Rattle.records.specs.declared.requests.Request.{Request}
use Rattle.records.specs.declared.requests.Request.TheVariants.{Insert, InsertVehicle, Renew, Delete, BeginExpiration, Replace, Acknowledge, ExpireDefunct}
use Rattle.std.specs.Prelude.{Option, Some, None}
use Rattle.records.specs.Numbers.{big}
use Rattle.records.specs.Layouts.{total}
use Rattle.records.specs.Codecs.{Codec, in_body, decode_by, counted, decode_counted, number}
use Rattle.records.specs.Wire.{active}
use Rattle.records.specs.Feeds.{numbered, target, renewal, expiration, replacement, asked as takes, request_of, list_in, words_in}
use Rattle.records.proofs.Feeds.{length_words}

words_length : (ids : List ℕ) → length (words_in ids) ≡ min (length ids / 8) 128
unfolding words_in
words_length ids = length_words (min (length ids / 8) 128) (big 8) ids 0

-- the words of a part of bytes, handed on as a part of the array that holds them
pub words_part : (n : ℕ) (ids words : List ℕ) → words ≡ in_places 128 0 (words_in ids) → n ≡ min (length ids / 8) 128 → take (n - 0) (drop 0 words) ≡ words_in ids
words_part n ids words e h =
    ap (λ (m : ℕ). take m words) (sub-zero n ∙ h ∙ sym (words_length ids)) ∙ ap (take (length (words_in ids))) e ∙ back 128 0 (words_in ids)

-- ---- 14 never: sixteen bytes an id give an even number of words
double_even : (n m : ℕ) → m ≡ n + n → m % 2 ≡ 0
double_even n m h = omega arith

least_even : (n : ℕ) → min (n + n) 128 % 2 ≡ 0
least_even n =
    ⊎_elim (λ h. double_even n _ (min-eq_left h)) (λ h. ap (λ (m : ℕ). m % 2) (min-eq_right h)) (by (leb (n + n) 128) ((n + n ≤ 128) ⊎ (128 ≤ n + n)) (λ t. inl (leb-true _ _ t)) (λ t. inr (let z = leb-false (n + n) 128 t in omega arith)))

even_ids : (k n : ℕ) (b : List ℕ) → length b ≡ k + n * 16 → No (odd_words (words_in (drop k b)))
unfolding odd_words
even_ids k n b h =
    let len : length (drop k b) / 8 ≡ n + n = omega (arith, length-drop k b) in
    let even : length (words_in (drop k b)) % 2 ≡ 0 = ap (λ (m : ℕ). m % 2) (words_length (drop k b) ∙ ap (λ (m : ℕ). min m 128) len) ∙ least_even n in
    non_t _ (eq-eqb _ _ even)

-- of a record that was read, whatever it asks for
abbrev pub EvenIds : List ℕ → Request → Type 0
EvenIds b r = No (odd_words (words_in (list_in r b)))

abbrev pub EvenAsked : List ℕ → Option (ℕ × Request) → Type 0
EvenAsked b (Some (q, r)) = EvenIds b r
EvenAsked b None = Unit {0}

counted_even : {R : Type 0} (c : Codec R) (good : R → Option (ℕ × Request)) (b : List ℕ) → ((n : ℕ) → length b ≡ total (counted c).layout + n * 16 → (r : R) → EvenAsked b (good r)) → EvenAsked b (decode_counted c good None b)
counted_even c good b f =
    cond_both (EvenAsked b) _ None (eqb (length b) (total (counted c).layout + ((counted c).made (in_body (counted c) b)).1 * 16) and (counted c).right (in_body (counted c) b))
    (λ t. f _ (eqb-true _ _ (and_l _ _ t)) _) (λ t. tt)

plain_even : {R : Type 0} (c : Codec R) (good : R → Option (ℕ × Request)) (b : List ℕ) → ((r : R) → EvenAsked b (good r)) → EvenAsked b (decode_by c good None b)
plain_even c good b f = cond_both (EvenAsked b) _ None (eqb (length b) (total c.layout) and c.right (in_body c b)) (λ t. f _) (λ t. tt)

none_even : No (odd_words (words_in []))
unfolding odd_words words_in non
none_even = refl

pub asked_even : (k : ℕ) (b : List ℕ) → EvenAsked b (request_of k b)
unfolding request_of
asked_even k b =
    cond_both P _ _ (eqb k 16) (λ t. plain_even (numbered active) (takes Insert) b (λ r. none_even)) (λ t.
    cond_both P _ _ (eqb k 17) (λ t. counted_even (numbered active) (takes InsertVehicle) b (λ n h r. even_ids _ n b h)) (λ t.
    cond_both P _ _ (eqb k 18) (λ t. plain_even (numbered renewal) (takes Renew) b (λ r. none_even)) (λ t.
    cond_both P _ _ (eqb k 19) (λ t. plain_even (numbered target) (takes Delete) b (λ r. none_even)) (λ t.
    cond_both P _ _ (eqb k 20) (λ t. plain_even (numbered expiration) (takes BeginExpiration) b (λ r. none_even)) (λ t.
    cond_both P _ _ (eqb k 21) (λ t. counted_even (numbered replacement) (takes Replace) b (λ n h r. even_ids _ n b h)) (λ t.
    cond_both P _ _ (eqb k 22) (λ t. plain_even (numbered target) (takes Acknowledge) b (λ r. none_even)) (λ t.
    cond_both P _ _ (eqb k 23) (λ t. plain_even (numbered (number 8)) (takes ExpireDefunct) b (λ r. none_even)) (λ t. tt))))))))
  where
    P : Option (ℕ × Request) → Type 0
    P = EvenAsked b
