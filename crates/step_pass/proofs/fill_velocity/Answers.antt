-- `step_pass::fill_velocity` meets its contract. Assumes nothing.
use Rattle.grid.specs.WritingLoops.{field-filled}
use Rattle.step_pass.proofs.fill_velocity.Goals as goal

pub returns : goal.returns
returns c =
    let inv = c.loop-j.invariant in
    let all = c.loop-j-test.false in
    (field-filled _ _ _ inv.1 all c.requires.1, field-filled _ _ _ inv.2 all c.requires.2)
