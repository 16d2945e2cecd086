-- What is told of an answer: eight numbers without a sign, and beside them what has one.
use Rattle.std.specs.Prelude.{◌≡◌, refl, List, [], ◌∷◌, ◌++◌, map, ℕ, pos, get_or, take, drop, replicate}
use Rattle.model.specs.Answers.{read_numbers, constants_in, told_read}
use Rattle.std.specs.Prelude.{Result, Ok, Err}
use Rattle.model.specs.Answers.{ReadAnswer}
use Rattle.model.specs.declared.Refusal.TheVariants.{Grid, Lengths, Constants, Value, ClosedEdge, Record, Destination, Milliseconds, NoSuchCell}

-- eight places: the numbers first, the others 0
abbrev pub eight : List ℕ → List ℕ
eight numbers = take 8 (numbers ++ replicate 8 0)

-- numbers are told: the first is returned, and all of them are in the answer
pub record Told (numbers : List ℕ) (r : ℕ) (answer : List ℕ) : Type 0 where
  pub returns : r ≡ get_or numbers 0 0
  pub holds : answer ≡ eight numbers

-- what is told of a `Result`: that of its value, or of its error
abbrev pub of-result : {A E : Type 0} → (A → List ℕ) → (E → List ℕ) → Result A E → List ℕ
of-result value error (Ok x) = value x
of-result value error (Err e) = error e

-- what a lent place holds after the call: what is told, or what it held where nothing is
abbrev pub or_kept : {A : Type 0} → List A → List A → List A
or_kept [] kept = kept
or_kept (x ∷ l) kept = x ∷ l

-- the eight numbers and the constants of a record that is read hold all that 01 tells of it: the constants go before the timestamp, and a
-- refusal has none and three numbers at most
pub read_told : (a : ReadAnswer) → told_read a ≡ take 4 (map pos (read_numbers a)) ++ constants_in a ++ drop 4 (map pos (read_numbers a))
read_told (Ok x) = refl
read_told (Err Grid) = refl
read_told (Err Lengths) = refl
read_told (Err Constants) = refl
read_told (Err (Value f k)) = refl
read_told (Err (ClosedEdge f k)) = refl
read_told (Err (Record k)) = refl
read_told (Err Destination) = refl
read_told (Err Milliseconds) = refl
read_told (Err NoSuchCell) = refl
