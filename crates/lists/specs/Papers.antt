-- An answer on paper: document 01's number of it ("Numbers of the answers") and the values beside it. 01: "The promises use a
-- definition for any answer that is an enum. For each case of the enum, the definition gives this paper's number and values."
use Rattle.std.specs.Prelude.{ℕ, List}

pub record Paper : Type 0 where
  pub number : ℕ
  pub values : List ℕ

abbrev pub paper : ℕ → List ℕ → Paper
paper n vs = record { number = n; values = vs }
