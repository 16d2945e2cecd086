-- i cells of the row are stored, the share of the cell to the west is at hand, and the shares for the row to the north are put in place of
-- those that came from the south.
use Rattle.model.specs.Step.{new_u, new_v}
use Rattle.grid.specs.WritingLoops.{RowWriting}
use Rattle.scheme.specs.Ready.{walled}
use Rattle.scheme.specs.Handing.{FromWest, Handing}
use Rattle.step_pass.specs.Spaces.{moving}
use Rattle.step_pass.proofs.velocity_row.Given as goal

abbrev pub invariant-loop-i : goal.invariant-loop-i
invariant-loop-i l =
    let t = walled l.s in
    let base = moving t l.base_u l.base_v in
    RowWriting t.w t.n (new_u t base l.q) 0 l.j l.initial.u l.i l.u
    × RowWriting t.w t.n (new_v t base l.q) 0 l.j l.initial.v l.i l.v
    × Handing t l.q l.j l.initial.handed l.i l.handed
    × FromWest t l.q l.i l.j l.from_west
