-- What a feed's bytes ask for is within the fields that it was read from. Assumes nothing.
use mathlib.Core.Path.{◌≡◌, refl, sym, ap, subst}
use mathlib.Core.Bool.{Bool, true, false, cond}
use mathlib.Core.List.{List, [], ◌∷◌}
use Prim.Native.Nat.{ℕ, ◌+◌, ◌*◌, ◌≤◌}
use native.Mathlib.Omega.{arith}
use lib.ListN.{length}
use lib.Dec.{eqb}
use Rattle.lists.specs.Tests.{Yes}
use Rattle.records.specs.declared.requests.Request.{Request}
use Rattle.records.specs.declared.requests.Request.TheVariants.{Insert, InsertVehicle, Renew, Delete, BeginExpiration, Replace, Acknowledge, ExpireDefunct}
use Rattle.std.specs.Prelude.{Option, Some, None}
use Rattle.lists.proofs.Options.{Some_injective}
use Rattle.records.specs.Numbers.{little}
use Rattle.records.specs.Layouts.{total, Fit}
use Rattle.records.specs.Codecs.{Codec, in_body, decode_by, number, counted, decode_counted}
use Rattle.records.specs.Wire.{active}
use Rattle.records.specs.Feeds.{numbered, target, renewal, expiration, replacement, breaking, asked, request_of}
use Rattle.records.proofs.Numbers.{Bytes}
use Rattle.records.proofs.Codecs.{Lawful, passed, well_read}
use Rattle.records.proofs.Wire.{active_lawful}
use Rattle.records.proofs.Feeds.{number_lawful, numbered_lawful, counted_lawful, target_lawful, renewal_lawful, expiration_lawful, replacement_lawful}
use Rattle.records.proofs.Fits.{fit_split}
use Rattle.promises.specs.Results.{op_of}
use Rattle.doors.proofs.Ranged.{Brought}

pub decoded_fit : {R : Type 0} (c : Codec R) → Lawful c → (s : List ℕ) → Bytes s → total c.layout ≤ length s → Yes (c.right (in_body c s)) → Fit c.layout (c.numbers (c.made (in_body c s)))
decoded_fit c w s y h t = (well_read c w s (c.made (in_body c s)) y h t refl).1.fit

never : (q : ℕ) (r : Request) → ◌≡◌ {A = Option (ℕ × Request)} None (Some (q, r)) → ⊥
never q r e = let z : ◌≡◌ {A = ℕ} 0 1 = cc in omega arith

same_request : (p q : ℕ) (a r : Request) → ◌≡◌ {A = Option (ℕ × Request)} (Some (p, a)) (Some (q, r)) → a ≡ r
same_request p q a r e = ap (λ (x : ℕ × Request). x.1) (Some_injective (p, a) (q, r) e)

module _ (b : List ℕ) (y : Bytes b) (q : ℕ) (r : Request) (ws : List ℕ) where
  -- one of c, asked for by ask
  module _ {R : Type 0} (c : Codec R) (w : Lawful c) (ask : R → Request) (brings : (x : R) → Fit c.layout (c.numbers x) → Brought (op_of (ask x) ws)) where
    plain_brings : decode_by (numbered c) (asked ask) None b ≡ Some (q, r) → Brought (op_of r ws)
    plain_brings e =
        let v = in_body (numbered c) b in
        let a = passed (length b) (total (numbered c).layout) ((numbered c).right v) (asked ask ((numbered c).made v)) None (Some (q, r)) (never q r) e in
        let f = decoded_fit (numbered c) (numbered_lawful c w) b y (omega (arith, a.0)) a.1 in
        subst (λ (z : Request). Brought (op_of z ws)) (same_request _ q _ r a.2) (brings ((numbered c).made v).1 f.1)

    counted_brings : decode_counted (numbered c) (asked ask) None b ≡ Some (q, r) → Brought (op_of r ws)
    counted_brings e =
        let d = counted (numbered c) in
        let v = in_body d b in
        let a = passed (length b) (total d.layout + (d.made v).1 * 16) (d.right v) (asked ask (d.made v).0) None (Some (q, r)) (never q r) e in
        let k = numbered_lawful c w in
        let f = decoded_fit (counted (numbered c)) (counted_lawful 2 (numbered c) k) b y (omega (arith, a.0)) a.1 in
        subst (λ (z : Request). Brought (op_of z ws)) (same_request _ q _ r a.2) (brings (d.made v).0.1 (fit_split (numbered c).layout (little 2 ∷ []) ((numbered c).numbers (d.made v).0) ((d.made v).1 ∷ []) (sym (k.count (d.made v).0)) f).0.1)

  one_of : (k : Bool) (x z : Option (ℕ × Request)) → (x ≡ Some (q, r) → Brought (op_of r ws)) → (z ≡ Some (q, r) → Brought (op_of r ws)) → cond k x z ≡ Some (q, r) → Brought (op_of r ws)
  one_of true x z f g e = f e
  one_of false x z f g e = g e

  pub request_brings : (k : ℕ) → request_of k b ≡ Some (q, r) → Brought (op_of r ws)
  unfolding request_of
  request_brings k =
      one_of (eqb k 16) _ _ (plain_brings active active_lawful Insert (λ x f. f))
      (one_of (eqb k 17) _ _ (counted_brings active active_lawful InsertVehicle (λ x f. f))
      (one_of (eqb k 18) _ _ (plain_brings renewal renewal_lawful Renew (λ x f. (f.1.1.0, f.1.1.1.1.1.0)))
      (one_of (eqb k 19) _ _ (plain_brings target target_lawful Delete (λ x f. tt))
      (one_of (eqb k 20) _ _ (plain_brings expiration expiration_lawful BeginExpiration (λ x f. tt))
      (one_of (eqb k 21) _ _ (counted_brings replacement replacement_lawful Replace
      (λ x f. let p = fit_split active.layout breaking.layout (active.numbers x.lock) (breaking.numbers (x.breaker, x.broken)) refl f in (p.0, p.1.0, p.1.1.0)))
      (one_of (eqb k 22) _ _ (plain_brings target target_lawful Acknowledge (λ x f. tt))
      (one_of (eqb k 23) _ _ (plain_brings (number 8) (number_lawful 8) ExpireDefunct (λ x f. tt))
      (λ e. absurd (never q r e)))))))))
