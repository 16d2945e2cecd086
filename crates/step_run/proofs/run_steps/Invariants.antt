-- `done` steps have led to the state at hand, which is ready for the next one
use Rattle.std.proofs.Common.{length}
use Rattle.model.specs.State.{state_at, SameSlices}
use Rattle.step_two_pass.specs.Outcomes.{StepReady}
use Rattle.step_run.specs.Running.{Running}
use Rattle.step_run.proofs.run_steps.Given as goal

abbrev pub invariant-loop-done : goal.invariant-loop-done
invariant-loop-done l =
    let s = state_at l.fn.s in
    StepReady (state_at l.s) l.inflow (length l.q) (state_at l.first) (state_at l.second)
    × Running s l.inflow l.steps l.done (state_at l.s)
    × SameSlices l.fn.s l.s
