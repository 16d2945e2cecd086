-- Two records that pass every test, and what is left to compare.
use Rattle.std.specs.Prelude.{List, [], ◌∷◌, ℕ}
use Rattle.model.specs.Record.{compared, timestamp_in}
use Rattle.model.specs.Answers.{CompareAnswer}
use Rattle.record_tags.specs.Places.{parts_in}
use Rattle.record_tests.specs.RecordTested.{state_read, Accepted}

-- nothing is lent to be filled: room for the largest grid stands for that
abbrev pub rooms : List ℕ
rooms = 4096 ∷ []

pub record BothRead (first second : List ℕ) : Type 0 where
  pub first_read : Accepted first rooms
  pub second-read : Accepted second rooms

-- what the comparison of two such records answers
abbrev pub compared_read : List ℕ → List ℕ → CompareAnswer
compared_read first second = compared (state_read first) (timestamp_in (parts_in first)) (state_read second) (timestamp_in (parts_in second))
