-- `scheme_probe::fill` meets its contract. Assumes nothing.
use mathlib.Core.Path.{sym, subst}
use native.Mathlib.Omega.{arith}
use Rattle.model.specs.State.{lent_state}
use Rattle.model.specs.Doubles.{h_doubles, u_doubles, v_doubles}
use Rattle.grid.specs.Cells.{previous-after}
use Rattle.grid.specs.WritingLoops.{row-filled, row_done, rows-filled}
use Rattle.scheme_probe.specs.Cells.{IsCell, given}
use Rattle.scheme_probe.specs.Rows.{handing-south, handing-more, handing-all}
use Rattle.scheme_probe.proofs.fill.Goals as goal

pub loop-i-preserved : goal.loop-i-preserved
loop-i-preserved c =
    let s = lent_state c.args.s.now in
    let q = c.args.q.now in
    let inv = c.loop-i.invariant in
    let p = c.loop-i-test.true in
    let r = c.loop-j-test.true in
    let own = c.cell_at-own in
    -- what the turn works out
    let d = c.doubles_of-d.ensures q (record { here = own.ensures; to-west = inv.3; to-south = handing-south inv.4 _ p }) in (
      row-filled _ _ _ inv.0 p r d.h,
      row-filled _ _ _ inv.1 p r d.u,
      row-filled _ _ _ inv.2 p r d.v,
      subst (λ i. IsCell s q i c.loop-j.j own.result) (sym (previous-after p)) own.ensures,
      handing-more inv.4 p r (given own.ensures c.to_north.ensures),
    )

pub loop-j-preserved : goal.loop-j-preserved
loop-j-preserved c =
    let row = c.loop-i.invariant in
    let all = c.loop-i-test.false in
    let inv = c.loop-j.invariant in
    let room = c.requires.1 in
    let j = c.loop-j.j in (
      omega arith,
      row_done _ _ _ j row.0 all (omega (arith, room.h)) inv.1,
      row_done _ _ _ j row.1 all (omega (arith, room.u)) inv.2,
      row_done _ _ _ j row.2 all (omega (arith, room.v)) inv.3,
      handing-all row.4 all,
    )

pub returns : goal.returns
unfolding h_doubles u_doubles v_doubles
returns c =
    let inv = c.loop-j.invariant in
    let all = c.loop-j-test.false in
    (rows-filled _ _ _ inv.1 all, rows-filled _ _ _ inv.2 all, rows-filled _ _ _ inv.3 all)
