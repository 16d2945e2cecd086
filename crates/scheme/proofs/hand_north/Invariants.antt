use lib.ListN.{length}
use mathlib.Core.Path.{◌≡◌}
use Rattle.scheme.specs.Ready.{walled}
use Rattle.scheme.specs.Handing.{Handed}
use Rattle.scheme.proofs.hand_north.Given as goal

abbrev pub invariant-loop-i : goal.invariant-loop-i
invariant-loop-i l = Handed (walled l.s) l.q 0 0 l.i l.handed × (length l.handed ≡ length l.initial.handed)
