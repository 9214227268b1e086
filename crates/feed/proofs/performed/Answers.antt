use Rattle.std.proofs.Common.{ap, ◌∙◌}
use Rattle.records.specs.Feeds.{words_in}
use Rattle.calls.specs.Calls.{perform_on}
use Rattle.feed.proofs.Words.{words_part}
use Rattle.feed.proofs.performed.Goals as goal

pub returns : goal.returns
returns c =
    let a = c.args in
    c.perform.ensures
    ∙ ap (perform_on a.state a.placed.request)
    (words_part _ _ _ c.words_of-words.ensures c.word_count-n.ensures ∙ ap words_in c.list_in-list.ensures)
