use Rattle.record_compare.specs.SameLaws.{SameTo}
use Rattle.record_compare.proofs.same_state.Given as goal

abbrev pub invariant-loop-tag : goal.invariant-loop-tag
invariant-loop-tag l = SameTo l.first.bytes.now l.second.bytes.now l.tag-index
