-- The product of the sides fits, since test 1 has passed. Assumes nothing.
use Rattle.std.proofs.Common.{arith, sym}
use Rattle.tests.specs.Links.{grid-passed, few-cells}
use Rattle.tests.proofs.test_outline.Goals as goal

pub overflow_mul-s : goal.overflow_mul-s
overflow_mul-s c = omega (arith, few-cells (grid-passed c.args.s.now.p (sym c.in_ok-test_grid.ensures)))
