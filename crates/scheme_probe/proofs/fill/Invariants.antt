-- j rows are filled and i cells of the next, the cell to the west is at hand, and what that row gives to the north is put in place of what
-- came from the south.
use Prim.Native.Nat.{◌*◌, ◌≤◌}
use Rattle.model.specs.Grid.{previous}
use Rattle.model.specs.State.{lent_state}
use Rattle.model.specs.Doubles.{tendency_h, tendency_u, tendency_v}
use Rattle.grid.specs.WritingLoops.{Writing, RowWriting, field}
use Rattle.scheme_probe.specs.Cells.{IsCell}
use Rattle.scheme_probe.specs.Rows.{RowFromSouth, Handing}
use Rattle.scheme_probe.proofs.fill.Given as goal

abbrev pub invariant-loop-i : goal.invariant-loop-i
invariant-loop-i l =
    let t = lent_state l.s in
    RowWriting t.w t.n (tendency_h t) 0 l.j l.initial.dh l.i l.dh
    × RowWriting t.w t.n (tendency_u t l.q) 0 l.j l.initial.du l.i l.du
    × RowWriting t.w t.n (tendency_v t l.q) 0 l.j l.initial.dv l.i l.dv
    × IsCell t l.q (previous t.w l.i) l.j l.west
    × Handing t l.q l.j l.i l.below

abbrev pub invariant-loop-j : goal.invariant-loop-j
invariant-loop-j l =
    let t = lent_state l.s in
    (l.j ≤ t.n)
    × Writing 0 (field t.w t.n (tendency_h t)) l.initial.dh (l.j * t.w) l.dh
    × Writing 0 (field t.w t.n (tendency_u t l.q)) l.initial.du (l.j * t.w) l.du
    × Writing 0 (field t.w t.n (tendency_v t l.q)) l.initial.dv (l.j * t.w) l.dv
    × RowFromSouth t l.q l.j l.below
