-- row by row, column by column.
use Prim.Native.Nat.{◌*◌, ◌≤◌}
use Rattle.model.specs.State.{lent_state}
use Rattle.model.specs.Step.{X, Y}
use Rattle.grid.specs.WritingLoops.{Writing, RowWriting, field}
use Rattle.step_pass.proofs.fill_flows.Given as goal

abbrev pub invariant-loop-i : goal.invariant-loop-i
invariant-loop-i l =
    let t = lent_state l.s in
    RowWriting t.w t.n (X t) 0 l.j l.initial.x l.i l.x
    × RowWriting t.w t.n (Y t) 0 l.j l.initial.y l.i l.y

abbrev pub invariant-loop-j : goal.invariant-loop-j
invariant-loop-j l =
    let t = lent_state l.s in
    (l.j ≤ t.n)
    × Writing 0 (field t.w t.n (X t)) l.initial.x (l.j * t.w) l.x
    × Writing 0 (field t.w t.n (Y t)) l.initial.y (l.j * t.w) l.y
