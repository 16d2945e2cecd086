-- The fields before k have been walked.
use Rattle.record_tags.proofs.WalkLaws.{Walking}
use Rattle.record_tags.proofs.Record.walk.Given as goal
use Prim.Native.Nat.{◌-◌}
use lib.ListN.{length}

abbrev pub invariant-loop-k : goal.invariant-loop-k
invariant-loop-k l = Walking l.rec l.at l.k

abbrev pub decreases-loop-k : goal.decreases-loop-k
decreases-loop-k l = length l.rec - l.k
