-- Where the fields of a record stand: of each tag the offset, or none where the tag has not been seen.
use Rattle.std.specs.Prelude.{◌≡◌, true, List, [], ◌⊎◌, ℕ, ◌+◌, ◌≤◌, ◌<◌, length, get_or, Option, None, Some, Result, MatchResult, is_some}
use Rattle.model.specs.Record.{Part, has, value_of, tag_at, size_at, part_at, right_size, tag_test, Walked, damaged, whole, walked}
use Rattle.model.specs.declared.Refusal.{Refusal}
use Rattle.theorems.specs.TagLaws.{last_required}
use Rattle.record_bytes.specs.declared.Tag.{Tag}
use Rattle.record_bytes.specs.Tags.{tags, place_of, number_of}

-- the field of tag t, which is among those found, has its tag at offset k and lies within the record
pub record Stands (rec : List ℕ) (parts : List Part) (t k : ℕ) : Type 0 where
  pub inside : k + 3 + size_at rec k ≤ length rec
  pub value : value_of t parts ≡ (part_at rec k).value
  pub sized : right_size t (size_at rec k) ≡ true

-- the place of a tag
abbrev pub offset_of : Tag → List (Option ℕ) → Option ℕ
offset_of t at = get_or at (place_of t) None

-- the places of the fields found so far
pub record Seen (rec : List ℕ) (parts : List Part) (at : List (Option ℕ)) : Type 0 where
  pub long : length at ≡ tags
  pub found : (t : Tag) → has (number_of t) parts ≡ is_some (offset_of t at)
  pub stands : (t : Tag) (k : ℕ) → offset_of t at ≡ Some k → Stands rec parts (number_of t) k

-- what test 7 at offset k finds: the tag there, or its refusal
abbrev pub Tested : List ℕ → ℕ → List Part → Result Tag Refusal → Type 0
Tested rec k parts r = MatchResult r (λ t. (number_of t ≡ tag_at rec k) × (tag_test rec k parts ≡ None)) (λ x. tag_test rec k parts ≡ Some x)

-- the fields of a record that passes test 7
abbrev pub parts_by : Walked → List Part
parts_by (damaged r) = []
parts_by (whole parts) = parts

unfoldable pub parts_in : List ℕ → List Part
parts_in rec = parts_by (walked rec)

-- the places of all of them
pub record Placed (rec : List ℕ) (at : List (Option ℕ)) : Type 0 where
  pub walks : walked rec ≡ whole (parts_in rec)
  pub seen : Seen rec (parts_in rec) at

-- a tag's value: it has a length that test 7 allows, or it has no bytes, of a tag that may be absent
pub record IsValue (rec : List ℕ) (tag : ℕ) (value : List ℕ) : Type 0 where
  pub is : value ≡ value_of tag (parts_in rec)
  pub sized : (right_size tag (length value) ≡ true) ⊎ ((last_required < tag) × (value ≡ []))
