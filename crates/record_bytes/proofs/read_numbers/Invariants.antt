use Rattle.grid.specs.WritingLoops.{Writing}
use Rattle.record_bytes.specs.NumberSizes.{numbers_by}
use Rattle.record_bytes.proofs.read_numbers.Given as goal

abbrev pub invariant-loop-i : goal.invariant-loop-i
invariant-loop-i l = Writing 0 (numbers_by l.size l.m l.value) l.initial.x-items l.i l.x-items
