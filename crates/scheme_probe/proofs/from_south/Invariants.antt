-- the first i places have what is needed there.
use Rattle.model.specs.State.{lent_state}
use Rattle.grid.specs.Places.{Each}
use Rattle.scheme_probe.specs.Cells.{FromSouth}
use Rattle.scheme_probe.proofs.from_south.Given as goal

abbrev pub invariant-loop-i : goal.invariant-loop-i
invariant-loop-i l = Each (λ i r. FromSouth (lent_state l.s) l.q i l.j r) 0 l.i l.given-items
