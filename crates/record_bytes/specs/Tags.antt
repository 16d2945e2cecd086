-- The tags of a record and their table, as the code has them. Assumes nothing.
use Rattle.std.specs.Prelude.{◌≡◌, refl, false, List, ◌++◌, ℕ, zero, suc, ◌<◌, length, get_or, drop, Result, MatchResult}
use Rattle.std.proofs.Common.{lit<, arith}
use Rattle.model.specs.Record.{Size, fixed, per_cell, tag_table, Part, has, value_of, known_tag, size_in, bytes_test, bytes_tests}
use Rattle.record_bytes.specs.declared.Tag.{Tag}
use Rattle.record_bytes.specs.declared.Tag.TheVariants.{Grid, Constants, Seconds, Depth, Bottom, VelocityU, VelocityV, Milliseconds, Barriers}
use Rattle.record_bytes.specs.declared.UnknownTag.{UnknownTag}
use Rattle.record_bytes.specs.declared.TheConstants.{TAGS}
use Rattle.record_bytes.specs.declared.TagSize.{TagSize}
use Rattle.record_bytes.specs.declared.TagSize.TheVariants.{Fixed, PerCell}

-- a tag's place among all of them, and the number that stands for it in a record
abbrev pub place_of : Tag → ℕ
place_of Grid = 0
place_of Constants = 1
place_of Seconds = 2
place_of Depth = 3
place_of Bottom = 4
place_of VelocityU = 5
place_of VelocityV = 6
place_of Milliseconds = 7
place_of Barriers = 8

abbrev pub number_of : Tag → ℕ
number_of t = suc (place_of t)

-- the tag that has a number, or none where the number is no known tag's
abbrev pub Numbers : ℕ → Result Tag UnknownTag → Type 0
Numbers n r = MatchResult r (λ t. number_of t ≡ n) (λ e. known_tag n ≡ false)

abbrev pub tag_size_of : Size → TagSize
tag_size_of (fixed k) = Fixed k
tag_size_of (per_cell k) = PerCell k

-- how many tags there are
abbrev pub tags : ℕ
tags = length tag_table

pub place-most : (t : Tag) → place_of t < tags
place-most Grid = lit< tt
place-most Constants = lit< tt
place-most Seconds = lit< tt
place-most Depth = lit< tt
place-most Bottom = lit< tt
place-most VelocityU = lit< tt
place-most VelocityV = lit< tt
place-most Milliseconds = lit< tt
place-most Barriers = lit< tt

-- they stand in the order of their places
pub in-place : (k : ℕ) (d : Tag) → k < tags → place_of (get_or TAGS k d) ≡ k
in-place zero d h = refl
in-place (suc zero) d h = refl
in-place (suc (suc zero)) d h = refl
in-place (suc (suc (suc zero))) d h = refl
in-place (suc (suc (suc (suc zero)))) d h = refl
in-place (suc (suc (suc (suc (suc zero))))) d h = refl
in-place (suc (suc (suc (suc (suc (suc zero)))))) d h = refl
in-place (suc (suc (suc (suc (suc (suc (suc zero))))))) d h = refl
in-place (suc (suc (suc (suc (suc (suc (suc (suc zero)))))))) d h = refl
in-place (suc (suc (suc (suc (suc (suc (suc (suc (suc k))))))))) d h = absurd (omega arith)

-- test 2 by rising tag: the row of a tag, and the rows after it
pub rows-left : (m : ℕ) (parts : List Part) (t : Tag)
    → bytes_tests m parts (drop (place_of t) tag_table) ≡ bytes_test m (has (number_of t) parts) (value_of (number_of t) parts) (size_in tag_table (number_of t)) ++ bytes_tests m parts (drop (number_of t) tag_table)
rows-left m parts Grid = refl
rows-left m parts Constants = refl
rows-left m parts Seconds = refl
rows-left m parts Depth = refl
rows-left m parts Bottom = refl
rows-left m parts VelocityU = refl
rows-left m parts VelocityV = refl
rows-left m parts Milliseconds = refl
rows-left m parts Barriers = refl
