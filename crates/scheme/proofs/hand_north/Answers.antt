-- `scheme::hand_north` meets its contract: the first `i` places have what row 0 needs there. Assumes nothing.
use mathlib.Core.Path.{refl, sym, subst}
use lib.ListN.{length-set}
use mir.Syntax.{w64}
use native.Mathlib.Omega.{arith}
use Rattle.integers.specs.Bounds.{held-is}
use Rattle.grid.specs.Places.{each_more}
use Rattle.scheme.specs.Ready.{walled}
use Rattle.scheme.specs.Handing.{FromSouth}
use Rattle.scheme.proofs.hand_north.Goals as goal

pub loop-i-preserved : goal.loop-i-preserved
loop-i-preserved c =
    let inv = c.loop-i.invariant in
    let x = c.from_south in (
      each_more inv.0 (omega arith) (subst (FromSouth (walled c.args.s.now) c.args.q.now c.loop-i.i 0) (sym (held-is w64 x.type_inv refl)) x.ensures),
      rw length-set inv.1,
    )
