use Rattle.std.proofs.Common.{◌≡◌, ◌≤◌, pos, length, get_or}
use Rattle.model.specs.Grid.{sum_to}
use Rattle.scheme_totals.proofs.sum_depths.Given as goal

-- what has been added is the sum over the cells passed
abbrev pub invariant-loop-depth : goal.invariant-loop-depth
invariant-loop-depth l = (l.depth-index ≤ length l.h) × (l.sum ≡ sum_to l.depth-index (λ k. get_or l.h k (pos 0)))
