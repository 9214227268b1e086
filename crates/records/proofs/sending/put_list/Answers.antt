use native.Mathlib.Omega.{arith}
use mathlib.Core.Path.{◌∙◌, ap}
use mathlib.Core.List.{List}
use Prim.Native.Nat.{ℕ, ◌+◌}
use Rattle.records.specs.Numbers.{little, bytes_of, splice}
use Rattle.records.specs.Sending.{ids_in, word_bytes}
use Rattle.records.proofs.Numbers.{length_bytes_of, splice_splice}
use Rattle.records.proofs.Words.{length_word_bytes}
use Rattle.records.proofs.sending.put_list.Goals as goal

pub returns : goal.returns
returns c = let a = c.args in let ws = a.list.now in c.put_words.ensures ∙ ap (λ (z : List ℕ). splice z (a.at + 2) (word_bytes ws)) c.put_u16.ensures ∙ splice_splice a.out.now a.at 2 (bytes_of (little 2) (ids_in ws)) (word_bytes ws) (length_bytes_of (little 2) (ids_in ws)) (omega (arith, length_word_bytes ws, c.requires.1))
