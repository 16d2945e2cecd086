-- The tags from this one on decide.
use Rattle.std.specs.Prelude.{◌≡◌, drop}
use Rattle.model.specs.Record.{tag_table, bytes_tests}
use Rattle.tests.specs.Links.{answers}
use Rattle.record_tags.specs.Places.{parts_in}
use Rattle.record_tests.proofs.test_values.Given as goal

abbrev pub invariant-loop-tag : goal.invariant-loop-tag
invariant-loop-tag l = let parts = parts_in l.rec.bytes.now in answers (bytes_tests l.m parts tag_table) ≡ answers (bytes_tests l.m parts (drop l.tag-index tag_table))
