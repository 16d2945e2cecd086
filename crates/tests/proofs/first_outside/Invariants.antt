use Rattle.std.specs.Prelude.{length}
use Rattle.grid.specs.Scanning.{Scanned}
use Rattle.tests.specs.Sought.{outside_in}
use Rattle.tests.proofs.first_outside.Given as goal

-- the loop has passed the numbers before k
abbrev pub invariant-loop-k : goal.invariant-loop-k
invariant-loop-k g l = let f = g.N.Numbers.numbers l.f in Scanned (outside_in l.l f) (length f) l.k
