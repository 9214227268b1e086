use mathlib.Core.Path.{sym, ap, ◌∙◌}
use Prim.Native.Nat.{ℕ}
use borrow.Author.Rules.{rules}
use Rattle.records.specs.declared.requests.Request.TheVariants.{Insert, InsertVehicle, Renew, Delete, BeginExpiration, Replace, Acknowledge, ExpireDefunct}
use Rattle.records.specs.Codecs.{number}
use Rattle.records.specs.Wire.{active}
use Rattle.records.specs.Feeds.{target, renewal, expiration, replacement, request_of}
use Rattle.records.proofs.Feeds.{not_asked}
use Rattle.records.proofs.Reading.{asked_numbered, asked_listed}
use Rattle.records.proofs.requests.decode_request.Goals as goal

pub returns-in-16 : goal.returns-in-16
unfolding request_of
returns-in-16 c = asked_numbered active Insert c.args.s.now _ _ c.map.ensures.cases (λ x y p. search rules) c.decode_numbered.ensures ∙ sym (ap (λ (k : ℕ). request_of k c.args.s.now) c.in-16.is)

pub returns-in-17 : goal.returns-in-17
unfolding request_of
returns-in-17 c = asked_listed active InsertVehicle c.args.s.now _ _ c.map-in-17.ensures.cases (λ x y p. search rules) c.decode_listed.ensures ∙ sym (ap (λ (k : ℕ). request_of k c.args.s.now) c.in-17.is)

pub returns-in-18 : goal.returns-in-18
unfolding request_of
returns-in-18 c = asked_numbered renewal Renew c.args.s.now _ _ c.map-in-18.ensures.cases (λ x y p. search rules) c.decode_numbered-in-18.ensures ∙ sym (ap (λ (k : ℕ). request_of k c.args.s.now) c.in-18.is)

pub returns-in-19 : goal.returns-in-19
unfolding request_of
returns-in-19 c = asked_numbered target Delete c.args.s.now _ _ c.map-in-19.ensures.cases (λ x y p. search rules) c.decode_numbered-in-19.ensures ∙ sym (ap (λ (k : ℕ). request_of k c.args.s.now) c.in-19.is)

pub returns-in-20 : goal.returns-in-20
unfolding request_of
returns-in-20 c = asked_numbered expiration BeginExpiration c.args.s.now _ _ c.map-in-20.ensures.cases (λ x y p. search rules) c.decode_numbered-in-20.ensures ∙ sym (ap (λ (k : ℕ). request_of k c.args.s.now) c.in-20.is)

pub returns-in-21 : goal.returns-in-21
unfolding request_of
returns-in-21 c = asked_listed replacement Replace c.args.s.now _ _ c.map-in-21.ensures.cases (λ x y p. search rules) c.decode_listed-in-21.ensures ∙ sym (ap (λ (k : ℕ). request_of k c.args.s.now) c.in-21.is)

pub returns-in-22 : goal.returns-in-22
unfolding request_of
returns-in-22 c = asked_numbered target Acknowledge c.args.s.now _ _ c.map-in-22.ensures.cases (λ x y p. search rules) c.decode_numbered-in-22.ensures ∙ sym (ap (λ (k : ℕ). request_of k c.args.s.now) c.in-22.is)

pub returns-in-23 : goal.returns-in-23
unfolding request_of
returns-in-23 c = asked_numbered (number 8) ExpireDefunct c.args.s.now _ _ c.map-in-23.ensures.cases (λ x y p. search rules) c.decode_numbered-in-23.ensures ∙ sym (ap (λ (k : ℕ). request_of k c.args.s.now) c.in-23.is)

pub returns-in_default : goal.returns-in_default
returns-in_default c =
    let r = c.in_default.in_default-own.rest in
    not_asked c.args.kind c.args.s.now r.0.0.0.0.0.0.0.1 r.0.0.0.0.0.0.1 r.0.0.0.0.0.1 r.0.0.0.0.1 r.0.0.0.1 r.0.0.1 r.0.1 r.1
