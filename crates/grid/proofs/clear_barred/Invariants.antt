-- The loop has passed k cells.
use Rattle.grid.specs.Barred.{Clearing}
use Rattle.grid.proofs.clear_barred.Given as goal

abbrev pub invariant-loop-k : goal.invariant-loop-k
invariant-loop-k l = Clearing l.edge l.barriers l.at l.initial.f l.k l.f
