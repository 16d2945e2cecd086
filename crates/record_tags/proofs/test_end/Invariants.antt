-- The tags before this one were seen.
use Rattle.record_tags.proofs.TagLaws.{FoundTo}
use Rattle.record_tags.proofs.test_end.Given as goal

abbrev pub invariant-loop-place : goal.invariant-loop-place
invariant-loop-place l = FoundTo l.at l.place-index
