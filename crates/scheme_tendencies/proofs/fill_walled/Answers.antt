-- `scheme_tendencies::fill_walled` meets its contract. Assumes nothing.
use Rattle.model.specs.Scheme.{h_tendencies, u_tendencies, v_tendencies}
use Rattle.grid.specs.WritingLoops.{rows-filled}
use Rattle.scheme_tendencies.proofs.fill_walled.Goals as goal

pub returns : goal.returns
unfolding h_tendencies u_tendencies v_tendencies
returns c =
    let inv = c.loop-j.invariant in
    let all = c.loop-j-test.false in
    (rows-filled _ _ _ inv.1 all, rows-filled _ _ _ inv.2 all, rows-filled _ _ _ inv.3 all)
