-- Fields of a record as bytes, and what each part of the writer asks.
use Rattle.std.specs.Prelude.{List, [], ◌∷◌, ◌++◌, ℕ, ◌≤◌, ◌<◌, ℤ, length}
use Rattle.std.specs.Int.{w16, w32}
use Rattle.model.specs.State.{State, WithinLimits}
use Rattle.model.specs.Record.{bytes, bytes2, bytes4, each_by, record_length}
use Rattle.model.specs.declared.Parameters.{Parameters}
use Rattle.theorems.specs.NumbersAsBytes.{EachFits}

-- the bytes of a field: tag, length and value
unfoldable pub field_of : ℕ → List ℕ → List ℕ
field_of tag value = (tag ∷ bytes 2 (length value)) ++ value

-- tags 1 to 3, tags 4 to 7, tag 8, and tag 9
abbrev pub grid_of : Parameters → List ℕ
grid_of p = field_of 1 (p.w ∷ p.n ∷ p.kind ∷ [])

abbrev pub constants_of : List ℤ → List ℕ
constants_of f = field_of 2 (each_by bytes4 f)

abbrev pub scalars_of : Parameters → (seconds : ℕ) → List ℕ
scalars_of p s = grid_of p ++ (constants_of (p.g ∷ p.c ∷ p.r ∷ []) ++ field_of 3 (bytes 8 s))

abbrev pub fields_of : (h b u v : List ℤ) → List ℕ
fields_of h b u v = field_of 4 (each_by bytes4 h) ++ (field_of 5 (each_by bytes4 b) ++ (field_of 6 (each_by bytes2 u) ++ field_of 7 (each_by bytes2 v)))

abbrev pub milliseconds_of : ℕ → List ℕ
milliseconds_of ms = field_of 8 (bytes 2 ms)

abbrev pub barriers_of : List ℕ → List ℕ
barriers_of barriers = field_of 9 barriers

-- scalars that fit their bytes
pub record ScalarsReady (p : Parameters) : Type 0 where
  pub columns : p.w < 256
  pub rows : p.n < 256
  pub constants : EachFits w32 (p.g ∷ p.c ∷ p.r ∷ [])

-- fields of numbers that fit their bytes
pub record FieldsReady (h b u v : List ℤ) : Type 0 where
  pub depths : EachFits w32 h
  pub bottoms : EachFits w32 b
  pub us : EachFits w16 u
  pub vs : EachFits w16 v

-- a state within the limits, and room for its record
pub record WriteReady (s : State) (d : List ℕ) : Type 0 where
  pub state : WithinLimits s
  pub room : record_length s ≤ length d
