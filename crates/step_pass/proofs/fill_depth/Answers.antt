-- `step_pass::fill_depth` meets its contract. Assumes nothing.
use Rattle.std.proofs.Common.{w64}
use Rattle.integers.specs.Bounds.{held-is}
use Rattle.grid.specs.WritingLoops.{row-filled, field-filled}
use Rattle.step_pass.proofs.fill_depth.Goals as goal

pub loop-i-preserved : goal.loop-i-preserved
loop-i-preserved c = row-filled _ _ _ c.loop-i.invariant c.loop-i-test.true c.loop-j-test.true (held-is w64 c.new_depth-depth.type_inv c.new_depth-depth.ensures)

pub returns : goal.returns
returns c = field-filled _ _ _ c.loop-j.invariant.1 c.loop-j-test.false c.requires.1
