-- Corners are doubles of whole numbers within bounds, so each sum of them is its row of the table, bit by bit. Assumes nothing.
use Rattle.integers.specs.Bounds.{∎, ◌◂◌}
use Rattle.doubles.specs.Corners.{CornerSizes, p-row, m-row, e-row, f-row}
use Rattle.scheme_probe.proofs.weights_of.Goals as goal

pub returns : goal.returns
returns c =
    let h = c.requires in
    let sizes : CornerSizes h.ne.number h.nw.number h.sw.number h.se.number = h.ne.small ◂ h.nw.small ◂ h.sw.small ◂ h.se.small ◂ ∎ in
    rw (h.ne.is, h.nw.is, h.sw.is, h.se.is) (p-row sizes, m-row sizes, e-row sizes, f-row sizes)
