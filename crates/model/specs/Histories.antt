-- Lists of step and run calls, each of which takes the whole state that the last one left.
use Rattle.std.specs.Prelude.{List, [], ◌∷◌, ℕ, ℤ, pos, ◌+ℤ◌, ◌*ℤ◌, length}
use Rattle.model.specs.Numbers.{total}
use Rattle.model.specs.State.{State}
use Rattle.model.specs.Step.{step_answer, step_state, run_of}
use Rattle.model.specs.Promises.{StepPromise, RunPromise}
use Rattle.std.specs.Prelude.{Ok, Err}
use Rattle.model.specs.Answers.{RunAnswer, StepAnswer}
use Rattle.model.specs.declared.StepError.{StepError}
use Rattle.model.specs.declared.RunError.{RunError}

-- a call with its own inflow, run length and work space, which may be ones that are refused
pub data Call : Type 0 where
  step : (inflow work : List ℤ) → Call
  run : (inflow : List ℤ) (steps : ℕ) (work : List ℤ) → Call

abbrev pub inflow_of : Call → List ℤ
inflow_of (step inflow work) = inflow
inflow_of (run inflow m work) = inflow

-- ---- steps done, from the first state and the calls alone

-- a refused step does none, any other step one
abbrev pub step_count : StepAnswer → ℕ
step_count (Ok x) = 1
step_count (Err (StepError.Refused r)) = 0
step_count (Err (StepError.OutOfBounds x)) = 0

-- a run refused with a number other than 6 does none; any other run does the steps that it counts
abbrev pub run_count : RunAnswer → ℕ
run_count (Ok m) = m
run_count (Err (RunError.Refused r)) = 0
run_count (Err (RunError.Stopped m x)) = m

abbrev pub steps_done : State → Call → ℕ
steps_done s (step inflow work) = step_count (step_answer s inflow (length work))
steps_done s (run inflow m work) = run_count (run_of s inflow m (length work)).answer

-- the state that a call leaves, accepted or refused
abbrev pub state_after : State → Call → State
state_after s (step inflow work) = step_state s inflow (length work)
state_after s (run inflow m work) = (run_of s inflow m (length work)).state

-- the sum, over the calls, of steps done times the sum of that call's inflow
unfoldable pub inflow_due : State → List Call → ℤ
inflow_due s [] = pos 0
inflow_due s (c ∷ calls) = pos (steps_done s c) *ℤ total (inflow_of c) +ℤ inflow_due (state_after s c) calls

-- ---- a history: calls made one after the other, from a state to a state; each link is the promise of the public step or run

pub data History : State → List Call → State → Type 0 where
  nothing : {s : State} → History s [] s
  stepped : {s t e : State} {inflow work work' : List ℤ} {answer : StepAnswer} {calls : List Call}
      → StepPromise s inflow work answer t work' → History t calls e → History s (step inflow work ∷ calls) e
  ran : {s t e : State} {inflow work work' : List ℤ} {m : ℕ} {answer : RunAnswer} {calls : List Call}
      → RunPromise s inflow m work answer t work' → History t calls e → History s (run inflow m work ∷ calls) e
