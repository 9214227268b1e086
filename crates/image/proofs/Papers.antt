-- No two answers have one paper: from document 01's number and values the answer is read back. Assumes nothing.
use mathlib.Core.List.{List, [], ◌∷◌}
use mathlib.Core.Path.{◌≡◌, refl, ap}
use Prim.Native.Nat.{ℕ}
use lib.ListN.{drop}
use Rattle.lists.specs.Papers.{Paper}
use Rattle.lists.proofs.Papers.{pick, one_to_one, value_at}
use Rattle.state.specs.declared.ActiveLock.{ActiveLock}
use Rattle.state.specs.declared.DefunctLock.{DefunctLock}
use Rattle.records.specs.Codecs.{Codec}
use Rattle.records.specs.Wire as wire
use Rattle.records.proofs.Wire.{active_faithful, defunct_faithful}
use Rattle.std.specs.Prelude.{Result, Ok, Err, ⊤}
use Rattle.image.specs.declared.ImageRefusal.{ImageRefusal}
use Rattle.image.specs.declared.ImageRefusal.TheVariants.{Torn, BadKind, BadField, BadOrder, UnsoundState}
use Rattle.image.specs.declared.WriteRefusal.{WriteRefusal}
use Rattle.image.specs.declared.WriteRefusal.TheVariants as W
use Rattle.records.specs.declared.bodies.Head.{Head}
use Rattle.image.specs.Image.{reading_paper, writing_paper}
use Rattle.image.specs.Steps.{step_paper, head_paper, active_paper, defunct_paper}

reading_of : Paper → Result ⊤ ImageRefusal
reading_of p =
    pick p.number
    ((12, Err (UnsoundState (value_at p 0))) ∷ (17, Err (Torn (value_at p 0))) ∷ (18, Err (BadKind (value_at p 0))) ∷ (19, Err (BadField (value_at p 0))) ∷ (20, Err (BadOrder (value_at p 0))) ∷ [])
    (Ok tt)

reading_back : (a : Result ⊤ ImageRefusal) → reading_of (reading_paper a) ≡ a
unfolding reading_of reading_paper
reading_back (Ok tt) = refl
reading_back (Err (Torn at)) = refl
reading_back (Err (BadKind at)) = refl
reading_back (Err (BadField at)) = refl
reading_back (Err (BadOrder at)) = refl
reading_back (Err (UnsoundState rule)) = refl

pub reading_one : (a b : Result ⊤ ImageRefusal) → reading_paper a ≡ reading_paper b → a ≡ b
reading_one = one_to_one reading_paper reading_of reading_back

writing_of : Paper → Result ℕ WriteRefusal
writing_of p = pick p.number ((12, Err (W.UnsoundState (value_at p 0))) ∷ (21, Err (W.ShortOutput (value_at p 0))) ∷ []) (Ok (value_at p 0))

writing_back : (a : Result ℕ WriteRefusal) → writing_of (writing_paper a) ≡ a
unfolding writing_of writing_paper
writing_back (Ok bytes) = refl
writing_back (Err (W.UnsoundState rule)) = refl
writing_back (Err (W.ShortOutput bytes)) = refl

pub writing_one : (a b : Result ℕ WriteRefusal) → writing_paper a ≡ writing_paper b → a ≡ b
writing_one = one_to_one writing_paper writing_of writing_back

-- ---- steps: what was read, or a refusal. Beside number 0 only what was read has values.
module _ {A : Type 0} (read : Paper → A) where
  abbrev with_read : A → Result ⊤ ImageRefusal → Result A ImageRefusal
  with_read a (Ok tt) = Ok a
  with_read a (Err x) = Err x

  abbrev step_in : Paper → Result A ImageRefusal
  step_in p = with_read (read p) (reading_of p)

  refused_back : (x : ImageRefusal) → step_in (reading_paper (Err x)) ≡ Err x
  refused_back x = ap (with_read (read (reading_paper (Err x)))) (reading_back (Err x))

abbrev body_in : Paper → ℕ × ℕ
body_in p = (value_at p 0, value_at p 1)

step_back : (a : Result (ℕ × ℕ) ImageRefusal) → step_in body_in (step_paper a) ≡ a
unfolding step_paper reading_of
step_back (Ok (from, end)) = refl
step_back (Err x) = refused_back body_in x

pub step_one : (a b : Result (ℕ × ℕ) ImageRefusal) → step_paper a ≡ step_paper b → a ≡ b
step_one = one_to_one step_paper (step_in body_in) step_back

-- a record's numbers and the place after it
module _ {R : Type 0} (c : Codec R) where
  abbrev record_in : Paper → R × ℕ
  record_in p = (c.made (drop 1 p.values), value_at p 0)

head_back : (a : Result (Head × ℕ) ImageRefusal) → step_in (record_in wire.head) (head_paper a) ≡ a
unfolding head_paper reading_of
head_back (Ok (h, next)) = refl
head_back (Err x) = refused_back (record_in wire.head) x

pub head_one : (a b : Result (Head × ℕ) ImageRefusal) → head_paper a ≡ head_paper b → a ≡ b
head_one = one_to_one head_paper (step_in (record_in wire.head)) head_back

active_back : (a : Result (ActiveLock × ℕ) ImageRefusal) → step_in (record_in wire.active) (active_paper a) ≡ a
unfolding active_paper reading_of
active_back (Ok (a, next)) = ap (λ (x : ActiveLock). Ok (x, next)) (active_faithful a)
active_back (Err x) = refused_back (record_in wire.active) x

pub active_one : (a b : Result (ActiveLock × ℕ) ImageRefusal) → active_paper a ≡ active_paper b → a ≡ b
active_one = one_to_one active_paper (step_in (record_in wire.active)) active_back

defunct_back : (a : Result (DefunctLock × ℕ) ImageRefusal) → step_in (record_in wire.defunct) (defunct_paper a) ≡ a
unfolding defunct_paper reading_of
defunct_back (Ok (d, next)) = ap (λ (x : DefunctLock). Ok (x, next)) (defunct_faithful d)
defunct_back (Err x) = refused_back (record_in wire.defunct) x

pub defunct_one : (a b : Result (DefunctLock × ℕ) ImageRefusal) → defunct_paper a ≡ defunct_paper b → a ≡ b
defunct_one = one_to_one defunct_paper (step_in (record_in wire.defunct)) defunct_back
