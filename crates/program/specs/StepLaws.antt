-- From what the calls answer to what is printed. Assumes nothing.
use Rattle.std.specs.Prelude.{◌≡◌, List, ℕ, ℤ, length}
use Rattle.std.proofs.Common.{sym, subst}
use Rattle.model.specs.State.{State, cells, WithinLimits}
use Rattle.model.specs.Totals.{total_depth}
use Rattle.model.specs.Grid.{tabulate}
use Rattle.model.specs.Promises.{StepPromise}
use Rattle.model.specs.Program.{total_line, cell_line, lines, state_lines}
use Rattle.model.specs.Answers.{StepAnswer}
use Rattle.theorems.specs.Stepping.{step-leaves}
use Rattle.text.specs.declared.Sink.{Sink}
use Rattle.text.specs.Sink.{puts, follows}
use Rattle.program.specs.Stepped.{Printable}

-- ---- a state that may be printed

-- one within the limits may
pub printable : (s : State) → WithinLimits s → Printable s
printable s l = record { columns = l.columns; rows = l.rows; depths = l.depths; us = l.us.long; vs = l.vs.long }

-- the line of its total and the lines of its cells
pub state-printed : (s : State) (out : Sink) {t e : Sink} {m : ℕ} → m ≡ cells s
    → t ≡ puts (total_line (total_depth s)) out → e ≡ puts (lines (tabulate m (cell_line s.w s.h s.u s.v))) t
    → e ≡ puts (state_lines s) out
state-printed s out {t} {e} k p q =
    let f = cell_line s.w s.h s.u s.v in
    follows (total_line (total_depth s)) (lines (tabulate (cells s) f)) out p (subst (λ m. e ≡ puts (lines (tabulate m f)) t) k q)

-- ---- what is printed after a step

module _ {s s' : State} {inflow work work' : List ℤ} {a : StepAnswer} (p : StepPromise s inflow work a s' work') where
  -- it is within the limits
  pub after-within : WithinLimits s → WithinLimits s'
  after-within l = subst WithinLimits (sym p.steps) (step-leaves s inflow (length work) l).0
