-- Parts of a list.
use Rattle.std.specs.Prelude.{List, ◌++◌, ℕ, ◌+◌, length, take, drop}

module _ {A : Type 0} where
  -- the m elements from place a on
  abbrev pub part : ℕ → ℕ → List A → List A
  part a m d = take m (drop a d)

  -- d with the elements of l from place a on
  unfoldable pub replaced : ℕ → List A → List A → List A
  replaced a l d = take a d ++ l ++ drop (a + length l) d
