use native.Mathlib.Omega.{arith}
use Rattle.records.proofs.Numbers.{bytes_of_lem}
use Rattle.screen.proofs.Reading.{id_of_words}
use Rattle.screen.proofs.id_in.Goals as goal

pub returns : goal.returns
returns c =
    let s = c.args.bytes.now in
    id_of_words s (bytes_of_lem s (λ i. omega (arith, c.type_inv.bytes i))) c.requires c.words_of-words.ensures
