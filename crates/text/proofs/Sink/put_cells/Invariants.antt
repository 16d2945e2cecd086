use Rattle.std.proofs.Common.{◌≡◌, length}
use Rattle.model.specs.Grid.{tabulate}
use Rattle.model.specs.Program.{cell_line, lines}
use Rattle.text.specs.Sink.{puts}
use Rattle.text.proofs.Sink.put_cells.Given as goal

-- the lines of the first cells are put
abbrev pub invariant-loop-k : goal.invariant-loop-k
invariant-loop-k l = l.self ≡ puts (lines (tabulate (length l.yielded) (cell_line l.w l.h l.u l.v))) l.fn.self
