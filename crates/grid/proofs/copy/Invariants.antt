-- The loop has copied k elements.
use Rattle.std.proofs.Common.{◌≡◌, take}
use Rattle.grid.proofs.copy.Given as goal

abbrev pub invariant-loop-k : goal.invariant-loop-k
invariant-loop-k g l = take l.k l.to ≡ take l.k l.from
