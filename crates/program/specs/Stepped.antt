-- What the step program's functions leave: a state stepped, and the same in the first places of lent fields. Assumes nothing.
use Rattle.std.specs.Prelude.{◌≡◌, List, ℕ, ◌*◌, ◌≤◌, ℤ, length, take}
use Rattle.model.specs.Grid.{filled}
use Rattle.model.specs.Numbers.{depth_limits}
use Rattle.model.specs.State.{State, Fields, cells, state_from, Side, FieldWithin, WithinLimits}
use Rattle.model.specs.Step.{step_test, step_answer, step_state, work_left}
use Rattle.model.specs.Program.{step_lines}
use Rattle.model.specs.declared.Parameters.{Parameters}
use Rattle.text.specs.declared.Sink.{Sink}
use Rattle.text.specs.Sink.{puts}

-- s', work' and out' are what is left of s, work and out, where what is printed is put
pub record Stepped (s : State) (inflow work : List ℤ) (s' : State) (work' : List ℤ) (out out' : Sink) : Type 0 where
  pub steps : s' ≡ step_state s inflow (length work)
  pub clears : work' ≡ work_left (step_test s inflow (length work)) s work
  pub prints : out' ≡ puts (step_lines (step_answer s inflow (length work)) (step_state s inflow (length work))) out

abbrev pub count : Parameters → ℕ
count p = p.w * p.n

-- lent fields whose first w·n places hold a state within the limits
pub record Ready (p : Parameters) (d : Fields) : Type 0 where
  pub inside : WithinLimits (state_from p d)
  pub room-h : count p ≤ length d.h
  pub room-b : count p ≤ length d.b
  pub room-u : count p ≤ length d.u
  pub room-v : count p ≤ length d.v
  pub room-barriers : count p ≤ length d.barriers

-- a step of that state: b and the barriers stay
pub record SteppedParts (p : Parameters) (d : Fields) (inflow work : List ℤ) (out : Sink) (h' u' v' work' : List ℤ) (out' : Sink) : Type 0 where
  pub after : State
  pub steps : after ≡ step_state (state_from p d) (take (count p) inflow) (length work)
  pub fills-h : h' ≡ filled (count p) after.h d.h
  pub fills-u : u' ≡ filled (count p) after.u d.u
  pub fills-v : v' ≡ filled (count p) after.v d.v
  pub clears : work' ≡ work_left (step_test (state_from p d) (take (count p) inflow) (length work)) (state_from p d) work
  pub prints : out' ≡ puts (step_lines (step_answer (state_from p d) (take (count p) inflow) (length work)) after) out

-- what is printed of a state may be printed: its depths are within their limits, and each field has w·n numbers
pub record Printable (s : State) : Type 0 where
  pub columns : Side s.w
  pub rows : Side s.n
  pub depths : FieldWithin depth_limits (cells s) s.h
  pub us : length s.u ≡ cells s
  pub vs : length s.v ≡ cells s
