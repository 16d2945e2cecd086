-- i cells of the row are filled, the share of the cell to the west is at hand, and the shares for the row to the north are put in place of
-- those that came from the south.
use lib.IntN.{neg_ℤ}
use Rattle.model.specs.Scheme.{D, tendency_u, tendency_v}
use Rattle.grid.specs.WritingLoops.{RowWriting}
use Rattle.scheme.specs.Ready.{walled}
use Rattle.scheme.specs.Handing.{FromWest, Handing}
use Rattle.scheme_tendencies.proofs.fill_row.Given as goal

abbrev pub invariant-loop-i : goal.invariant-loop-i
invariant-loop-i l =
    let t = walled l.s in
    RowWriting t.w t.n (λ i j. neg_ℤ (D t i j)) 0 l.j l.initial.dh l.i l.dh
    × RowWriting t.w t.n (tendency_u t l.q) 0 l.j l.initial.du l.i l.du
    × RowWriting t.w t.n (tendency_v t l.q) 0 l.j l.initial.dv l.i l.dv
    × Handing t l.q l.j l.initial.handed l.i l.handed
    × FromWest t l.q l.i l.j l.from_west
