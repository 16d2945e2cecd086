-- Calls of `step`, `run` and `total_depth` as a caller sees them: what goes in, the answer, and what is left in the lent parameters
-- (marked '), by name; `lent` is the state that a call is lent to step, and `left` the one that it leaves in the same slices. Each is read off
-- `Learnt`, once: what a caller learns of a call, the function's `ensures` in src/lib.rt as the checker reads it, of the arguments a, the
-- answer, and the parameters e as the call returns, both in the order of the signature. The theorems of Applied are of these calls. Assumes
-- nothing.
use mathlib.Core.List.{List}
use Prim.Native.Nat.{ℕ}
use contract.Lifetimes.{Lfts}
use denote.Triple.Clauses.{AtExit}
use borrow.Fn.Kinds.{Dens, res_t, ended_of}
use lib.IntN.{ℤ}
use Rattle.model.specs.State.{State, lent_state, state_at, SameSlices}
use Rattle.model.specs.Promises.{StepPromise, RunPromise, TotalDepthPromise}
use Rattle.model.specs.Answers.{RunAnswer, StepAnswer, TotalAnswer}
use Rattle.model.specs.declared.LentMut.{LentMut}
use Rattle.scheme_totals.proofs.total_depth.Kinds as depth-kinds
use Rattle.scheme_totals.proofs.total_depth.Reads as depth-reads
use Rattle.step_run.proofs.step.Kinds as step-kinds
use Rattle.step_run.proofs.step.Reads as step-reads
use Rattle.step_run.proofs.run.Kinds as run-kinds
use Rattle.step_run.proofs.run.Reads as run-reads

-- ---- `step`

pub record StepCall : Type 0 where
  pub lent : LentMut
  pub left : LentMut
  pub inflow : List ℤ
  pub work : List ℤ
  pub work' : List ℤ
  pub answer : StepAnswer
  pub promise : StepPromise (state_at lent) inflow work answer (state_at left) work'
  pub slices : SameSlices lent left

module _ (κs : Lfts 4) (a : Dens κs step-kinds.ps) (answer : (res_t step-kinds.r κs).Denot) (e : AtExit (ended_of 4 step-kinds.ps step-kinds.r) κs) where
  abbrev pub step_call : step-reads.Learnt κs a answer e → StepCall
  step_call told =
      let (s, (inflow, (work, _))) = a in
      let (s', (_, (work', _))) = e in
      record { lent = s.now; left = s'.now; inflow = inflow.now; work = work.now; work' = work'.now; answer = answer; promise = told.0; slices = told.1 }

-- ---- `run`

pub record RunCall : Type 0 where
  pub lent : LentMut
  pub left : LentMut
  pub inflow : List ℤ
  pub steps : ℕ
  pub work : List ℤ
  pub work' : List ℤ
  pub answer : RunAnswer
  pub promise : RunPromise (state_at lent) inflow steps work answer (state_at left) work'
  pub slices : SameSlices lent left

module _ (κs : Lfts 4) (a : Dens κs run-kinds.ps) (answer : (res_t run-kinds.r κs).Denot) (e : AtExit (ended_of 4 run-kinds.ps run-kinds.r) κs) where
  abbrev pub run_call : run-reads.Learnt κs a answer e → RunCall
  run_call told =
      let (s, (inflow, (steps, (work, _)))) = a in
      let (s', (_, (_, (work', _)))) = e in
      record { lent = s.now; left = s'.now; inflow = inflow.now; steps = steps; work = work.now; work' = work'.now; answer = answer; promise = told.0; slices = told.1 }

-- ---- `total_depth`

pub record DepthCall : Type 0 where
  pub state : State
  pub answer : TotalAnswer
  pub promise : TotalDepthPromise state answer

module _ (κs : Lfts 2) (a : Dens κs depth-kinds.ps) (answer : (res_t depth-kinds.r κs).Denot) (e : AtExit (ended_of 2 depth-kinds.ps depth-kinds.r) κs) where
  abbrev pub depth_call : depth-reads.Learnt κs a answer e → DepthCall
  depth_call told =
      let (s, _) = a in
      record { state = lent_state s.now; answer = answer; promise = told }
