-- Of the tags from one on, the first that finds something decides. Assumes nothing.
use Rattle.std.proofs.Common.{◌≡◌, ◌++◌, ◌+◌, ◌<◌, ℕ, List, get_or, sym, ap, ◌∙◌, arith, drop}
use Rattle.std.proofs.lemmas.Result.{err_from_is_err_and}
use Rattle.model.specs.Record.{tag_table, size_in, Part, has, value_of, bytes_test, bytes_tests}
use Rattle.tests.specs.Links.{answers, passed_first, refused_first}
use Rattle.record_bytes.specs.declared.Tag.{Tag}
use Rattle.record_bytes.specs.declared.Tag.TheVariants.{Grid}
use Rattle.record_bytes.specs.declared.TheConstants.{TAGS}
use Rattle.record_bytes.specs.Tags.{tags, number_of, in-place, rows-left}
use Rattle.record_tags.specs.Places.{parts_in}
use Rattle.record_tests.proofs.test_values.Goals as goal

-- the tag of this turn, and the rows of the table from it on
abbrev tag : ℕ → Tag
tag k = get_or TAGS k Grid

rows : (m : ℕ) (parts : List Part) (k : ℕ) → k < tags
    → answers (bytes_tests m parts (drop k tag_table)) ≡ answers (bytes_test m (has (number_of (tag k)) parts) (value_of (number_of (tag k)) parts) (size_in tag_table (number_of (tag k))) ++ bytes_tests m parts (drop (k + 1) tag_table))
rows m parts k h =
    let t = number_of (tag k) in
    let e = in-place k Grid h in
    let q : t ≡ k + 1 = omega arith in
    ap answers
    (ap (λ k. bytes_tests m parts (drop k tag_table)) (sym e) ∙ rows-left m parts (tag k)
    ∙ ap (λ k. bytes_test m (has t parts) (value_of t parts) (size_in tag_table t) ++ bytes_tests m parts (drop k tag_table)) q)

pub returns-in_err-test_bytes : goal.returns-in_err-test_bytes
returns-in_err-test_bytes c =
    let a = c.args in
    let parts = parts_in a.rec.now.bytes.now in
    let k = c.loop-tag.tag-index in
    let t = number_of (tag k) in
    let p = err_from_is_err_and c.from_residual.result c.from_residual.ensures.1 in
    rw (p.1, p.2) (sym (c.loop-tag.invariant ∙ rows a.m parts k c.loop-tag-test.true
    ∙ refused_first (bytes_test a.m (has t parts) (value_of t parts) (size_in tag_table t)) (bytes_tests a.m parts (drop (k + 1) tag_table)) (sym c.in_err-test_bytes.ensures)))

pub loop-tag-preserved : goal.loop-tag-preserved
loop-tag-preserved c =
    let a = c.args in
    let parts = parts_in a.rec.now.bytes.now in
    let k = c.loop-tag.tag-index in
    let t = number_of (tag k) in
    c.loop-tag.invariant ∙ rows a.m parts k c.loop-tag-test.true
    ∙ passed_first (bytes_test a.m (has t parts) (value_of t parts) (size_in tag_table t)) (bytes_tests a.m parts (drop (k + 1) tag_table)) (sym c.in_ok-test_bytes.ensures)
