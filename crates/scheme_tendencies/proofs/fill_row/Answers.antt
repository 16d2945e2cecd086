-- `scheme_tendencies::fill_row` meets its contract. Assumes nothing.
use mathlib.Core.Path.{refl, sym, subst, ◌∙◌}
use native.Mathlib.Omega.{arith}
use borrow.Author.Rules.{rules}
use mir.Syntax.{w64}
use Rattle.integers.specs.Bounds.{abs-as, held-is}
use Rattle.grid.specs.WritingLoops.{row-none, row-filled, row-whole}
use Rattle.scheme.specs.Ready.{walled}
use Rattle.scheme.specs.SchemeSizes.{share-held, east-size, north-size, fit-in}
use Rattle.scheme.specs.Handing.{FromWest, to-east, handing-none, handing-more, handing-all}
use Rattle.scheme_tendencies.proofs.fill_row.Goals as goal

pub loop-i-init : goal.loop-i-init
loop-i-init c =
    let a = c.args in
    let x = c.from_west-from_west in
    (row-none _ _ _ a.j, row-none _ _ _ a.j, row-none _ _ _ a.j, handing-none c.requires.2, subst (FromWest (walled a.s.now) a.q.now 0 a.j) (sym (held-is w64 x.type_inv refl)) x.ensures)

pub loop-i-preserved : goal.loop-i-preserved
loop-i-preserved c =
    let inv = c.loop-i.invariant in
    let p = c.loop-i-test.true in
    let r = c.requires.1 in
    let fit = fit-in c.requires.0 p r in
    let e = c.tendencies_at-depth.ensures in (
      row-filled _ _ _ inv.0 p r (held-is w64 (search rules) e.depth),
      row-filled _ _ _ inv.1 p r (held-is w64 (search rules) e.u),
      row-filled _ _ _ inv.2 p r (held-is w64 (search rules) e.v),
      handing-more inv.3 (omega (arith, inv.3.long, c.requires.2.long)) r (share-held (abs-as e.north (north-size fit)) ∙ e.north),
      to-east p (share-held (abs-as e.east (east-size fit)) ∙ e.east),
    )

pub returns : goal.returns
returns c =
    let inv = c.loop-i.invariant in
    let all = c.loop-i-test.false in
    (row-whole _ _ _ inv.0 all, row-whole _ _ _ inv.1 all, row-whole _ _ _ inv.2 all, handing-all inv.3 all c.requires.2.long)
