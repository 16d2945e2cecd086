-- `step_pass::fill_flows` meets its contract. Assumes nothing.
use borrow.Author.Rules.{rules}
use mir.Syntax.{w64}
use Rattle.integers.specs.Bounds.{held-is}
use Rattle.grid.specs.WritingLoops.{row-filled, field-filled}
use Rattle.step_pass.proofs.fill_flows.Goals as goal

pub loop-i-preserved : goal.loop-i-preserved
loop-i-preserved c =
    let inv = c.loop-i.invariant in
    let p = c.loop-i-test.true in
    let r = c.loop-j-test.true in
    let e = c.flows_at-west.ensures in
    (row-filled _ _ _ inv.0 p r (held-is w64 (search rules) e.0), row-filled _ _ _ inv.1 p r (held-is w64 (search rules) e.1))

pub returns : goal.returns
returns c =
    let inv = c.loop-j.invariant in
    let all = c.loop-j-test.false in
    (field-filled _ _ _ inv.1 all c.requires.1, field-filled _ _ _ inv.2 all c.requires.2)
