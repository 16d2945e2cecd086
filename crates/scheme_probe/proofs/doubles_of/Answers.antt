-- The doubles are the model's, on a closed edge 0. Assumes nothing.
use mathlib.Core.Path.{refl, ◌∙◌}
use Rattle.model.specs.State.{lent_state}
use Rattle.scheme_probe.specs.Cells.{convergence-is, at-west, at-south}
use Rattle.scheme_probe.proofs.doubles_of.Goals as goal

pub returns : goal.returns
returns c q cells =
    let s = lent_state c.args.s.now in
    record {
      h = c.convergence.ensures ∙ convergence-is cells;
      u = at-west cells (c.is_closed-closed_west.ensures s refl refl) c.momentum_u.ensures c.edge_tendency.ensures;
      v = at-south cells (c.is_closed-closed_south.ensures s refl refl) c.momentum_v.ensures c.edge_tendency-2.ensures;
    }
