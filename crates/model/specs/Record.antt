-- The record: fields of a one-byte tag, a two-byte length and the value; numbers big-endian, negative ones two's complement.
use Rattle.std.specs.Prelude.{Bool, true, false, not, cond, ◌&&◌, ◌||◌, List, [], ◌∷◌, ◌++◌, map, ℕ, zero, suc, ◌+◌, ◌*◌, ◌/◌, ◌%◌, ◌^◌, eqb, leb, ltb, ℤ, length, get_or, take, drop, replicate}
use Rattle.std.specs.Prelude.{Option, None, Some}
use Rattle.std.specs.Int.{w16, w32}
use Rattle.std.proofs.Common.{to_z, of_z}
use Rattle.model.specs.Numbers.{all, any, eqℤ, same_by}
use Rattle.model.specs.Grid.{tabulate}
use Rattle.model.specs.State.{State, parameters_of, cells}
use Rattle.model.specs.Tests.{Test, asks, found, first_found}
use Rattle.model.specs.Refusals.{fields_of, grid_test, room_tests, timed_content_tests}
use Rattle.model.specs.declared.Timestamp.{Timestamp}
use Rattle.model.specs.declared.Refusal.{Refusal}
use Rattle.model.specs.declared.Refusal.TheVariants.{Lengths, Record}
use Rattle.std.specs.Prelude.{Ok, Err}
use Rattle.model.specs.Answers.{CompareAnswer}
use Rattle.model.specs.declared.Comparison.TheVariants.{Same, FirstNewer, SecondNewer, Conflict}
use Rattle.model.specs.declared.CompareError.TheVariants.{First, Second}

-- ---- numbers as bytes

-- the last k bytes of x, and the number that bytes stand for
abbrev pub bytes : ℕ → ℕ → List ℕ
bytes zero x = []
bytes (suc k) x = (x / 256 ^ k % 256) ∷ bytes k x

abbrev pub unsigned_from : ℕ → List ℕ → ℕ
unsigned_from a [] = a
unsigned_from a (x ∷ l) = unsigned_from (a * 256 + x) l

abbrev pub unsigned : List ℕ → ℕ
unsigned l = unsigned_from 0 l

-- signed numbers of 2 and of 4 bytes: `of_z` and `to_z` are the kit's two's complement
abbrev pub bytes2 : ℤ → List ℕ
bytes2 x = bytes 2 (of_z w16 x)

abbrev pub bytes4 : ℤ → List ℕ
bytes4 x = bytes 4 (of_z w32 x)

abbrev pub signed2 : List ℕ → ℤ
signed2 l = to_z w16 (unsigned l)

abbrev pub signed4 : List ℕ → ℤ
signed4 l = to_z w32 (unsigned l)

-- ---- the table of tags

-- how many bytes the value of a tag has: so many, or so many a cell
pub data Size : Type 0 where
  fixed : ℕ → Size
  per_cell : ℕ → Size

pub record TagRow : Type 0 where
  pub tag : ℕ
  pub size : Size
  pub required : Bool

-- tag 1: w, n, kind. 2: G, c, R. 3: the timestamp's seconds. 4 to 7: h, b, u, v. 8: the timestamp's milliseconds, of which absence means 0.
-- 9: the barriers, of which absence means none
abbrev pub tag_table : List TagRow
tag_table =
    record { tag = 1; size = fixed 3; required = true }
    ∷ record { tag = 2; size = fixed 12; required = true }
    ∷ record { tag = 3; size = fixed 8; required = true }
    ∷ record { tag = 4; size = per_cell 4; required = true }
    ∷ record { tag = 5; size = per_cell 4; required = true }
    ∷ record { tag = 6; size = per_cell 2; required = true }
    ∷ record { tag = 7; size = per_cell 2; required = true }
    ∷ record { tag = 8; size = fixed 2; required = false }
    ∷ record { tag = 9; size = per_cell 1; required = false }
    ∷ []

-- ---- the writer: by rising tag

abbrev pub each_by : (ℤ → List ℕ) → List ℤ → List ℕ
each_by f [] = []
each_by f (x ∷ l) = f x ++ each_by f l

-- a field of the record
pub record Part : Type 0 where
  pub tag : ℕ
  pub value : List ℕ

abbrev pub joined : List Part → List ℕ
joined [] = []
joined (p ∷ l) = p.tag ∷ (bytes 2 (length p.value) ++ (p.value ++ joined l))

unfoldable pub parts_of : State → Timestamp → List Part
parts_of s t =
    record { tag = 1; value = s.w ∷ s.n ∷ s.kind ∷ [] }
    ∷ record { tag = 2; value = bytes4 s.G ++ (bytes4 s.c ++ bytes4 s.R) }
    ∷ record { tag = 3; value = bytes 8 t.seconds }
    ∷ record { tag = 4; value = each_by bytes4 s.h }
    ∷ record { tag = 5; value = each_by bytes4 s.b }
    ∷ record { tag = 6; value = each_by bytes2 s.u }
    ∷ record { tag = 7; value = each_by bytes2 s.v }
    ∷ record { tag = 8; value = bytes 2 t.milliseconds }
    ∷ record { tag = 9; value = s.barriers }
    ∷ []

unfoldable pub encode : State → Timestamp → List ℕ
encode s t = joined (parts_of s t)

-- its length
abbrev pub record_length : State → ℕ
record_length s = 52 + 13 * cells s

-- ---- the reader: fields in any order

abbrev pub has : ℕ → List Part → Bool
has t parts = any (λ p. eqb p.tag t) parts

-- the value of a tag; none where it is absent, which stands for 0
abbrev pub value_of : ℕ → List Part → List ℕ
value_of t [] = []
value_of t (p ∷ l) = cond (eqb p.tag t) p.value (value_of t l)

-- at offset k of a record: the tag, the length, the value
abbrev pub tag_at : List ℕ → ℕ → ℕ
tag_at rec k = get_or rec k 0

abbrev pub size_at : List ℕ → ℕ → ℕ
size_at rec k = unsigned (take 2 (drop (k + 1) rec))

abbrev pub part_at : List ℕ → ℕ → Part
part_at rec k = record { tag = tag_at rec k; value = take (size_at rec k) (drop (k + 3) rec) }

abbrev pub known_tag : ℕ → Bool
known_tag t = any (λ row. eqb t row.tag) tag_table

-- a size that the table has for a tag; what it says of an unknown tag does not matter, as that is refused first
abbrev pub size_in : List TagRow → ℕ → Size
size_in [] t = per_cell 0
size_in (row ∷ l) t = cond (eqb t row.tag) row.size (size_in l t)

-- whether it allows so many bytes, whatever the grid
abbrev pub allows : Size → ℕ → Bool
allows (fixed k) size = eqb size k
allows (per_cell k) size = true

abbrev pub right_size : ℕ → ℕ → Bool
right_size t size = allows (size_in tag_table t) size

-- 7, at the tag at offset k, past the fields found so far:
-- 1 or 2 bytes left; unknown tag; repeated tag; value past the end; tag 1, 2, 3, 8 of wrong length
unfoldable pub tag_test : List ℕ → ℕ → List Part → Option Refusal
tag_test rec k parts =
    first_found
    (asks (leb (k + 3) (length rec)) (Record k)
    ∷ asks (known_tag (tag_at rec k)) (Record k)
    ∷ asks (not (has (tag_at rec k) parts)) (Record k)
    ∷ asks (leb (k + 3 + size_at rec k) (length rec)) (Record k)
    ∷ asks (right_size (tag_at rec k) (size_at rec k)) (Record k)
    ∷ [])

-- 7, at the end: a tag missing
unfoldable pub missing_test : List ℕ → List Part → Option Refusal
missing_test rec parts = found (asks (all (λ row. not row.required || has row.tag parts) tag_table) (Record (length rec)))

-- the fields in the order in which they stand, or refusal 7
pub data Walked : Type 0 where
  damaged : Refusal → Walked
  whole : List Part → Walked

abbrev pub unless : Option Refusal → Walked → Walked
unless None more = more
unless (Some r) more = damaged r

-- from offset k on; at most m fields more, where m is the record's length and each field has 3 bytes at least
unfoldable pub walk : List ℕ → ℕ → ℕ → List Part → Walked
walk rec zero k parts = unless (missing_test rec parts) (whole parts)
walk rec (suc m) k parts =
    let onward = walk rec m (k + 3 + size_at rec k) (parts ++ (part_at rec k ∷ [])) in
    cond (leb (length rec) k) (unless (missing_test rec parts) (whole parts)) (unless (tag_test rec k parts) onward)

unfoldable pub walked : List ℕ → Walked
walked rec = walk rec (length rec) 0 []

-- ---- what the fields mean

-- m numbers of z bytes each
abbrev pub numbers : (List ℕ → ℤ) → ℕ → ℕ → List ℕ → List ℤ
numbers f z m value = tabulate m (λ k. f (take z (drop (k * z) value)))

unfoldable pub state_in : List Part → State
state_in parts =
    let grid = value_of 1 parts in
    let constants = value_of 2 parts in
    let m = get_or grid 0 0 * get_or grid 1 0 in
    record {
      w = get_or grid 0 0;
      n = get_or grid 1 0;
      kind = get_or grid 2 0;
      G = signed4 (take 4 constants);
      c = signed4 (take 4 (drop 4 constants));
      R = signed4 (take 4 (drop 8 constants));
      h = numbers signed4 4 m (value_of 4 parts);
      b = numbers signed4 4 m (value_of 5 parts);
      u = numbers signed2 2 m (value_of 6 parts);
      v = numbers signed2 2 m (value_of 7 parts);
      barriers = tabulate m (λ k. get_or (value_of 9 parts) k 0);
    }

unfoldable pub timestamp_in : List Part → Timestamp
timestamp_in parts = record { seconds = unsigned (value_of 3 parts); milliseconds = unsigned (value_of 8 parts) }

-- 2, in a record of m cells: the value of a tag that is there has other than the bytes of m numbers
abbrev pub bytes_test : ℕ → (there : Bool) (value : List ℕ) → Size → List (Test Refusal)
bytes_test m there value (fixed k) = []
bytes_test m there value (per_cell k) = asks (not there || eqb (length value) (k * m)) Lengths ∷ []

abbrev pub bytes_tests : ℕ → List Part → List TagRow → List (Test Refusal)
bytes_tests m parts [] = []
bytes_tests m parts (row ∷ l) = bytes_test m (has row.tag parts) (value_of row.tag parts) row.size ++ bytes_tests m parts l

-- ---- a record read: 7, then 1, 2, 8, 3, 9, 4, 5

pub data Decoded : Type 0 where
  accepted : State → Timestamp → Decoded
  refused : Refusal → Decoded

abbrev pub judged : Option Refusal → State → Timestamp → Decoded
judged None s t = accepted s t
judged (Some r) s t = refused r

abbrev pub record_tests : State → Timestamp → List Part → (rooms : List ℕ) → List (Test Refusal)
record_tests s t parts rooms =
    grid_test (parameters_of s) ∷ (bytes_tests (cells s) parts tag_table ++ (room_tests (cells s) rooms ++ timed_content_tests s t (fields_of s)))

unfoldable pub record_test : State → Timestamp → List Part → List ℕ → Option Refusal
record_test s t parts rooms = first_found (record_tests s t parts rooms)

abbrev pub read_by : List ℕ → Walked → Decoded
read_by rooms (damaged r) = refused r
read_by rooms (whole parts) = let s = state_in parts in let t = timestamp_in parts in judged (record_test s t parts rooms) s t

-- `rooms` are the lengths of the destinations: none in a comparison
unfoldable pub decode : List ℕ → List ℕ → Decoded
decode rec rooms = read_by rooms (walked rec)

-- ---- a record read and written again

-- each number is above the one before
abbrev pub rises : List ℕ → Bool
rises [] = true
rises (x ∷ []) = true
rises (x ∷ y ∷ l) = ltb x y && rises (y ∷ l)

-- whether the tags of a record that passes test 7 rise
abbrev pub rising_by : Walked → Bool
rising_by (damaged r) = false
rising_by (whole parts) = rises (map (λ p. p.tag) parts)

unfoldable pub rising : List ℕ → Bool
rising rec = rising_by (walked rec)

-- how many bytes a value has, in a record of m cells
abbrev pub bytes_for : ℕ → Size → ℕ
bytes_for m (fixed k) = k
bytes_for m (per_cell k) = k * m

-- a field of the table: the record's own, or zeros where it has none
abbrev pub own_or_zeros : ℕ → List Part → TagRow → Part
own_or_zeros m parts row =
    record { tag = row.tag; value = cond (has row.tag parts) (value_of row.tag parts) (replicate (bytes_for m row.size) 0) }

-- what comes back of a record: every field of the table, by rising tag
abbrev pub restored_by : Walked → List ℕ
restored_by (damaged r) = []
restored_by (whole parts) = joined (map (own_or_zeros (cells (state_in parts)) parts) tag_table)

unfoldable pub restored : List ℕ → List ℕ
restored rec = restored_by (walked rec)

-- its fields before the first one that it lacks, and how many bytes they have: where its tags rise, so many of its bytes return
abbrev pub leading : List Part → List TagRow → List Part
leading parts [] = []
leading parts (row ∷ l) = cond (has row.tag parts) (record { tag = row.tag; value = value_of row.tag parts } ∷ leading parts l) []

abbrev pub kept_by : Walked → ℕ
kept_by (damaged r) = 0
kept_by (whole parts) = length (joined (leading parts tag_table))

unfoldable pub kept : List ℕ → ℕ
kept rec = kept_by (walked rec)

-- ---- comparison

-- by second, then millisecond
unfoldable pub newer : Timestamp → Timestamp → Bool
newer a b = ltb b.seconds a.seconds || (eqb b.seconds a.seconds && ltb b.milliseconds a.milliseconds)

-- tags 1, 2, 4 to 7 and 9 mean the same
unfoldable pub same_state : State → State → Bool
same_state s t =
    eqb s.w t.w && eqb s.n t.n && eqb s.kind t.kind
    && eqℤ s.G t.G && eqℤ s.c t.c && eqℤ s.R t.R
    && same_by eqℤ s.h t.h && same_by eqℤ s.b t.b && same_by eqℤ s.u t.u && same_by eqℤ s.v t.v
    && same_by eqb s.barriers t.barriers

-- the newer timestamp tells; under one timestamp the states do
unfoldable pub compared : State → Timestamp → State → Timestamp → CompareAnswer
compared s a t b = cond (newer a b) (Ok FirstNewer) (cond (newer b a) (Ok SecondNewer) (cond (same_state s t) (Ok Same) (Ok Conflict)))

-- the first record wholly, then the second
abbrev pub compare_second : State → Timestamp → Decoded → CompareAnswer
compare_second s a (accepted t b) = compared s a t b
compare_second s a (refused r) = Err (Second r)

abbrev pub compare_by : Decoded → Decoded → CompareAnswer
compare_by (accepted s a) second = compare_second s a second
compare_by (refused r) second = Err (First r)

unfoldable pub compare_answer : List ℕ → List ℕ → CompareAnswer
compare_answer first second = compare_by (decode first []) (decode second [])
