-- row by row, column by column.
use Rattle.std.proofs.Common.{◌*◌, ◌≤◌}
use Rattle.grid.specs.WritingLoops.{Writing, RowWriting, field}
use Rattle.step_pass.specs.Spaces.{depth_by}
use Rattle.step_pass.proofs.fill_depth.Given as goal

abbrev pub invariant-loop-i : goal.invariant-loop-i
invariant-loop-i l =
    let p = l.p in
    RowWriting p.w p.n (depth_by p.w p.n l.h l.x l.y l.inflow) 0 l.j l.initial.d l.i l.d

abbrev pub invariant-loop-j : goal.invariant-loop-j
invariant-loop-j l =
    let p = l.p in
    (l.j ≤ p.n)
    × Writing 0 (field p.w p.n (depth_by p.w p.n l.h l.x l.y l.inflow)) l.initial.d (l.j * p.w) l.d
