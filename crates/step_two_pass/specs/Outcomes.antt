-- What a scan finds and what a step comes to, as the code tells it, and what a step asks. Assumes nothing.
use Rattle.std.specs.Prelude.{◌≡◌, List, ℕ, ◌≤◌, ℤ, length}
use Rattle.std.specs.Prelude.{Option, None, Some, Result, Ok, Err}
use Rattle.model.specs.Numbers.{inflow_limits}
use Rattle.model.specs.State.{State, cells, corners, FieldWithin, WithinLimits}
use Rattle.model.specs.Fields.{limits_of}
use Rattle.model.specs.Tests.{Test}
use Rattle.model.specs.Refusals.{value_test}
use Rattle.model.specs.Answers.{breach}
use Rattle.model.specs.Step.{Place, place, Outcome, moved, stuck, after_step}
use Rattle.model.specs.declared.Breach.{Breach}
use Rattle.model.specs.declared.Field.{Field}
use Rattle.step_pass.specs.Spaces.{Alike}

-- ---- a scan

-- what is told of the place at which a pass leaves a bound, if it does
abbrev pub bounds_by : (pass : ℕ) → Option Place → Result Unit Breach
bounds_by pass None = Ok tt
bounds_by pass (Some x) = Err (breach pass x.field x.cell)

-- the test of m cells of a field, as refusal 6 makes it
abbrev pub field_test : Field → ℕ → List ℤ → Test Place
field_test field m f = value_test place (record { field = field; count = m; limits = limits_of field; numbers = f })

-- ---- a step

abbrev pub outcome_by : Outcome → Result Unit Breach
outcome_by (moved t) = Ok tt
outcome_by (stuck p x) = Err (breach p x.field x.cell)

-- a step from s that comes to o answers so, and leaves the state t
pub record Stepped (s : State) (o : Outcome) (answer : Result Unit Breach) (t : State) : Type 0 where
  pub answers : answer ≡ outcome_by o
  pub leads : t ≡ after_step s o

-- a number a cell in each field that a pass makes
pub record Sized (t : State) : Type 0 where
  pub h : length t.h ≡ cells t
  pub u : length t.u ≡ cells t
  pub v : length t.v ≡ cells t

-- t may take the result of a pass from s: it differs from s in what a pass makes alone, and has a place for each number
pub record Room (s t : State) : Type 0 where
  pub alike : Alike s t
  pub sized : Sized t

-- the tests have passed, and there is room for a potential vorticity, and for the results of both passes
pub record StepReady (s : State) (inflow : List ℤ) (room : ℕ) (first second : State) : Type 0 where
  pub state : WithinLimits s
  pub entering : FieldWithin inflow_limits (cells s) inflow
  pub fits : corners s ≤ room
  pub room-first : Room s first
  pub room-second : Room s second
