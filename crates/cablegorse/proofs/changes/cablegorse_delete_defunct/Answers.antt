use mathlib.Core.Path.{◌≡◌, ap, ◌∙◌}
use mathlib.Core.List.{List}
use Prim.Native.Nat.{ℕ}
use Rattle.std.specs.Prelude.{Option, Some, None, Ok, Err}
use Rattle.state.specs.declared.ScopeKey.{ScopeKey}
use Rattle.locks.specs.Locks.{Dropped}
use Rattle.locks.specs.Locks.{delete_defunct_on}
use Rattle.records.specs.Wire.{id}
use Rattle.cablegorse.specs.declared.Told.{Told}
use Rattle.cablegorse.specs.declared.Applied.{Applied}
use Rattle.cablegorse.specs.Questions.{bad_told, scope_told, scoped_of}
use Rattle.cablegorse.specs.Changes.{still, Left, left, drop_put, on_scoped_left, delete_of}
use Rattle.cablegorse.proofs.Images.{image_refused, image_read}
use Rattle.cablegorse.proofs.changes.cablegorse_delete_defunct.Goals as goal

-- o is what is said of the scope
not_scoped : (o : Option ScopeKey) (t : Told) (n : List ℕ) (go : ScopeKey → Left) → Err t ≡ scope_told o → left (still t 1 0 0) n ≡ on_scoped_left n go o
not_scoped None t n go h = let e : t ≡ bad_told = cc in ap (λ (y : Told). left (still y 1 0 0) n) e
not_scoped (Some k) t n go h = absurd (cc)

scoped : (o : Option ScopeKey) (k : ScopeKey) (n : List ℕ) (go : ScopeKey → Left) → Ok k ≡ scope_told o → go k ≡ on_scoped_left n go o
scoped None k n go h = absurd (cc)
scoped (Some x) k n go h = let e : k ≡ x = cc in ap go e

pub returns-in-Err : goal.returns-in-Err
unfolding delete_of
returns-in-Err c = let a = c.args in ap (λ (y : Applied). left y a.next.now) (c.still.ensures ∙ ap (λ (t : Told). still t 0 0 0) c.from.ensures) ∙ image_refused _ (λ t. left (still t 0 0 0) a.next.now) (λ sp. on_scoped_left a.next.now (λ k. drop_put sp.expected (delete_defunct_on sp.state (id a.hi a.lo) k a.subject) a.next.now) (scoped_of a.kind a.number)) _ c.read_image-i.ensures _ c.in-Err.is

pub returns-in-Err-scope_in : goal.returns-in-Err-scope_in
unfolding delete_of
returns-in-Err-scope_in c =
    let a = c.args in
    let sp = c.read_image-i.result.spare in
    ap (λ (y : Applied). left y a.next.now) c.still-in-Err-scope_in.ensures
    ∙ not_scoped _ _ a.next.now (λ k. drop_put sp.expected (delete_defunct_on sp.state (id a.hi a.lo) k a.subject) a.next.now) c.in-Err-scope_in.ensures
    ∙ image_read _ (λ t. left (still t 0 0 0) a.next.now) (λ sp. on_scoped_left a.next.now (λ k. drop_put sp.expected (delete_defunct_on sp.state (id a.hi a.lo) k a.subject) a.next.now) (scoped_of a.kind a.number)) _ c.read_image-i.ensures c.in_default.is

pub returns-in-Ok : goal.returns-in-Ok
unfolding delete_of
returns-in-Ok c =
    let a = c.args in
    let sp = c.read_image-i.result.spare in
    c.put_dropped.ensures ∙ ap (λ (z : Dropped). drop_put sp.expected z a.next.now) c.delete_defunct-d.ensures
    ∙ scoped _ _ a.next.now (λ k. drop_put sp.expected (delete_defunct_on sp.state (id a.hi a.lo) k a.subject) a.next.now) c.in-Ok.ensures
    ∙ image_read _ (λ t. left (still t 0 0 0) a.next.now) (λ sp. on_scoped_left a.next.now (λ k. drop_put sp.expected (delete_defunct_on sp.state (id a.hi a.lo) k a.subject) a.next.now) (scoped_of a.kind a.number)) _ c.read_image-i.ensures c.in_default.is
