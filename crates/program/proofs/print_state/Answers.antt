-- What is printed is the total's line, and then the cells' lines.
use Rattle.std.proofs.Common.{◌∙◌, ap, w64}
use Rattle.model.specs.State.{lent_state}
use Rattle.model.specs.Totals.{total_depth}
use Rattle.model.specs.Program.{total_line}
use Rattle.integers.specs.Bounds.{held-is}
use Rattle.text.specs.Sink.{puts}
use Rattle.program.specs.StepLaws.{state-printed}
use Rattle.program.proofs.print_state.Goals as goal

pub returns : goal.returns
unfolding total_depth
returns c =
    let a = c.args in
    let s = lent_state a.s.now in
    state-printed s a.out.now c.requires.depths.long
    (c.put_total.ensures ∙ ap (λ y. puts (total_line y) a.out.now) (held-is w64 c.sum_depths.type_inv c.sum_depths.ensures))
    c.put_cells.ensures
