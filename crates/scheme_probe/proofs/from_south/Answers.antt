-- `scheme_probe::from_south` meets its contract. Assumes nothing.
use mathlib.Core.Path.{subst}
use native.Mathlib.Omega.{arith}
use Rattle.std.proofs.lemmas.Grind.{common_steps}
use Rattle.model.specs.State.{lent_state}
use Rattle.grid.specs.Places.{each_more}
use Rattle.scheme_probe.specs.Cells.{IsGiven, given}
use Rattle.scheme_probe.proofs.from_south.Goals as goal

pub loop-i-preserved : goal.loop-i-preserved
loop-i-preserved c =
    let i = c.loop-i.i in
    let g = given c.cell_at.ensures c.to_north.ensures in
    each_more c.loop-i.invariant (grind (arith, common_steps))
    (record { given = λ o. subst (λ j. IsGiven (lent_state c.args.s.now) c.args.q.now i j c.to_north.result) c.previous-south.ensures.0 g })
