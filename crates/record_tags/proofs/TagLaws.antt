-- The tests at a tag and at the record's end, as the code makes them: by the places of the tags seen. Assumes nothing.
use Rattle.std.specs.Prelude.{◌≡◌, ◌⊎◌, true, false, List, ℕ, zero, suc, ◌<◌, T, length, take, get_or, Option, None, Some, Ok, Err, is_some}
use Rattle.std.proofs.Common.{sym, ap, subst, ◌∙◌, inl, inr, lt_of_not-le, lit<, arith}
use Rattle.std.proofs.lemmas.Grind.{common_steps}
use Rattle.model.specs.Record.{tag_table, Part, has, known_tag, tag_test, missing_test}
use Rattle.model.specs.Promises.{answer_of}
use Rattle.model.specs.Claims.{Among, BadTag}
use Rattle.model.specs.declared.Refusal.TheVariants.{Record}
use Rattle.theorems.specs.Truth.{true-T}
use Rattle.theorems.specs.TagLaws.{last_required, known-iff, each-required, told, tag-judged, end-judged, none-missing, among-iff, absent}
use Rattle.record_bytes.specs.declared.Tag.{Tag}
use Rattle.record_bytes.specs.declared.Tag.TheVariants.{Grid, Constants, Seconds, Depth, Bottom, VelocityU, VelocityV}
use Rattle.record_bytes.specs.declared.TheConstants.{TAGS}
use Rattle.record_bytes.specs.Tags.{place_of, number_of, in-place}
use Rattle.record_tags.specs.Places.{offset_of, Seen}

-- ---- at a tag

pub tag-refused : (rec : List ℕ) (k : ℕ) (parts : List Part) → BadTag rec k parts → tag_test rec k parts ≡ Some (Record k)
tag-refused rec k parts b = told (tag-judged rec k parts) b

-- a number that no tag has
pub unknown : (n : ℕ) → known_tag n ≡ false → (n < 1) ⊎ (length tag_table < n)
unknown zero e = inl (lit< tt)
unknown (suc n) e = inr (lt_of_not-le (λ h. subst T e ((known-iff (suc n)).1 (omega arith, h))))

-- a tag was seen exactly where it has a place
module _ {rec : List ℕ} {at : List (Option ℕ)} {parts : List Part} (s : Seen rec parts at) (t : Tag) where
  pub seen-among : is_some (offset_of t at) ≡ true → Among (number_of t) parts
  seen-among l = (among-iff (number_of t) parts).0 (true-T (s.found t ∙ l))

  pub not_seen : is_some (offset_of t at) ≡ false → has (number_of t) parts ≡ false
  not_seen l = s.found t ∙ l

-- ---- at the end

-- the first m tags were seen
abbrev pub FoundTo : List (Option ℕ) → ℕ → Type 0
FoundTo at m = (k : ℕ) → k < m → is_some (get_or at k None) ≡ true

module _ {rec : List ℕ} {at : List (Option ℕ)} {parts : List Part} (s : Seen rec parts at) where
  -- the places that the loop goes through are those of the tags that must be there, no more and no fewer
  pub all-required : length (take last_required at) ≡ last_required
  all-required = let l = s.long in grind (arith, common_steps)

  pub complete : FoundTo at last_required → Ok tt ≡ answer_of (missing_test rec parts)
  complete f =
      let each : (t : Tag) → place_of t < last_required → Among (number_of t) parts = λ t h. seen-among s t (f (place_of t) h) in
      let all =
      each-required (λ n. Among n parts)
      (each Grid (lit< tt), (each Constants (lit< tt), (each Seconds (lit< tt), (each Depth (lit< tt), (each Bottom (lit< tt), (each VelocityU (lit< tt), (each VelocityV (lit< tt), tt)))))))
      in
      ap answer_of (sym (none-missing rec parts (λ m. m.3 (all m.0 m.1 m.2))))

  pub incomplete : (k : ℕ) → k < last_required → is_some (get_or at k None) ≡ false → Err (Record (length rec)) ≡ answer_of (missing_test rec parts)
  incomplete k h l =
      let t : Tag = get_or TAGS k Grid in
      let e : place_of t ≡ k = in-place k Grid (omega arith) in
      ap answer_of (sym (told (end-judged rec parts) (suc (place_of t), omega arith, omega arith, (absent (number_of t) parts).0 (not_seen s t (ap (λ k. is_some (get_or at k None)) e ∙ l)))))
