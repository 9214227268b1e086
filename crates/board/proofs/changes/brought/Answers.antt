use Rattle.std.proofs.Common.{◌≡◌, [], ◌∷◌, sym, ap, ◌∙◌, inl, inr}
use Rattle.lists.specs.Lists.{any}
use Rattle.coverage.specs.declared.LockCoverage.{LockCoverage}
use Rattle.coverage.specs.Coverage.{covers}
use Rattle.board.specs.Board.{on, brings}
use Rattle.board.proofs.Followed.{one_on, none_on}
use Rattle.board.proofs.changes.brought.Goals as goal

pub returns-in-Insert : goal.returns-in-Insert
returns-in-Insert c =
    let q : brings c.args.request ≡ c.in-Insert.lock ∷ [] = elim c.in-Insert.is [ inl h ↦ ap brings h | inr h ↦ ap brings h ] in
    λ e. one_on _ e ∙ sym (ap (any (on e)) q)

pub returns-in-Replace : goal.returns-in-Replace
returns-in-Replace c = λ e. one_on _ e ∙ sym (ap (any (on e)) (ap brings c.in-Replace.is))

pub returns-in-Renew : goal.returns-in-Renew
returns-in-Renew c =
    let q : brings c.args.request ≡ [] =
    elim c.in-Renew.is [
      | inl h ↦ ap brings h.1
      | inr r ↦ elim r [ inl h ↦ ap brings h.1 | inr r ↦ elim r [ inl h ↦ ap brings h.1 | inr r ↦ elim r [ inl h ↦ ap brings h.1 | inr h ↦ ap brings h.1 ] ] ]
    ] in
    λ e. ap (λ (d : LockCoverage). covers d e) c.empty.ensures ∙ none_on e ∙ sym (ap (any (on e)) q)
