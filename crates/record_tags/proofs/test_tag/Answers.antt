-- `record_tags::test_tag` meets its contract. Assumes nothing.
use Rattle.std.specs.Prelude.{◌≡◌, ℕ, List, ◌+◌, ◌≤◌, ◌<◌, true, false, not, T, length, get_or, Option, None, Some, is_some}
use Rattle.std.proofs.Common.{sym, ap, ap₂, subst, ◌∙◌, inl, inr, arith}
use Rattle.model.specs.Record.{Part, has, tag_at, size_at, right_size, tag_test}
use Rattle.model.specs.Claims.{Among}
use Rattle.model.specs.declared.Refusal.TheVariants.{Record}
use Rattle.theorems.specs.Truth.{true-T}
use Rattle.theorems.specs.Walks.{sound-iff}
use Rattle.theorems.specs.TagLaws.{known-iff, wrong-iff}
use Rattle.record_bytes.specs.declared.Tag.{Tag}
use Rattle.record_bytes.specs.Tags.{number_of, place-most}
use Rattle.record_tags.specs.Places.{offset_of, Seen}
use Rattle.record_tags.proofs.TagLaws.{tag-refused, unknown, seen-among, not_seen}
use Rattle.record_tags.proofs.test_tag.Goals as goal

module _ (rec : List ℕ) (at : List (Option ℕ)) (k : ℕ) (t : Tag) (is : number_of t ≡ tag_at rec k) (parts : List Part) (s : Seen rec parts at) where
  again : is_some (offset_of t at) ≡ true → tag_test rec k parts ≡ Some (Record k)
  again l = tag-refused rec k parts (inr (inr (inl (subst (λ n. Among n parts) is (seen-among s t l)))))

  module _ (size : ℕ) (e : size ≡ size_at rec k) where
    past : length rec < k + 3 + size → tag_test rec k parts ≡ Some (Record k)
    past h = tag-refused rec k parts (inr (inr (inr (inl (subst (λ n. length rec < k + 3 + n) e h)))))

    right : right_size (tag_at rec k) (size_at rec k) ≡ right_size (number_of t) size
    right = sym (ap₂ right_size is e)

    wrong : right_size (number_of t) size ≡ false → tag_test rec k parts ≡ Some (Record k)
    wrong r = tag-refused rec k parts (inr (inr (inr (inr ((wrong-iff (tag_at rec k) (size_at rec k)).0 (right ∙ r))))))

    sound : is_some (offset_of t at) ≡ false → k + 3 + size ≤ length rec → right_size (number_of t) size ≡ true → tag_test rec k parts ≡ None
    sound l h r =
        (sound-iff rec k parts).1
        (record {
          head = omega arith;
          tag = (known-iff (tag_at rec k)).1 (let m = place-most t in omega arith, let m = place-most t in omega arith);
          new = subst (λ n. T (not (has n parts))) is (rw (not_seen s t l) tt);
          room = subst (λ n. k + 3 + n ≤ length rec) e h;
          right = true-T (right ∙ r);
        })

pub returns-then-remaining-lt3 : goal.returns-then-remaining-lt3
returns-then-remaining-lt3 c parts s = tag-refused c.args.rec.now c.args.k parts (inl (omega arith))

pub returns-in_default : goal.returns-in_default
returns-in_default c parts s = tag-refused c.args.rec.now c.args.k parts (inr (inl (unknown (tag_at c.args.rec.now c.args.k) c.in_default.ensures)))

pub returns-then-is_some : goal.returns-then-is_some
returns-then-is_some c parts s = again c.args.rec.now c.args.at.now c.args.k c.in-Ok.tag c.in-Ok.ensures parts s (ap (λ i. is_some (get_or c.args.at.now i None)) (sym c.place.ensures) ∙ sym c.is_some.ensures ∙ c.if-is_some.true)

pub returns-then-remaining-size : goal.returns-then-remaining-size
returns-then-remaining-size c parts s = past c.args.rec.now c.args.at.now c.args.k c.in-Ok.tag c.in-Ok.ensures parts s c.size_at-size.result c.size_at-size.ensures.0 (omega arith)

pub returns-then-not-right_size : goal.returns-then-not-right_size
returns-then-not-right_size c parts s = wrong c.args.rec.now c.args.at.now c.args.k c.in-Ok.tag c.in-Ok.ensures parts s c.size_at-size.result c.size_at-size.ensures.0 (sym c.right_size.ensures ∙ c.if-not-right_size.true)

pub returns : goal.returns
returns c parts s = (
  c.in-Ok.ensures,
  sound c.args.rec.now c.args.at.now c.args.k c.in-Ok.tag c.in-Ok.ensures parts s c.size_at-size.result c.size_at-size.ensures.0 (ap (λ i. is_some (get_or c.args.at.now i None)) (sym c.place.ensures) ∙ sym c.is_some.ensures ∙ c.if-is_some.false) (omega arith) (sym c.right_size.ensures ∙ c.if-not-right_size.false),
)
