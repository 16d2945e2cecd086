use Rattle.std.proofs.Common.{take}
use Rattle.record_bytes.specs.NumberSizes.{value_by}
use Rattle.record_bytes.specs.Puts.{Puts}
use Rattle.record_bytes.proofs.Writer.put_numbers.Given as goal

abbrev pub invariant-loop-x : goal.invariant-loop-x
invariant-loop-x l = Puts l.initial.self (value_by l.size (take l.x-index l.f)) l.self
