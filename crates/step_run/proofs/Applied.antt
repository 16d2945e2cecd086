-- The balance speaks of this code, by calls of `step`, `run` and `total_depth` (Calls). A list of calls of `step` and `run`, each of which
-- takes the state that the last one left, is a history of the model; so what `total_depth` answers after it is what it answered before,
-- plus the inflow due. Assumes nothing.
use mathlib.Core.Path.{◌≡◌}
use mathlib.Core.List.{List, [], ◌∷◌}
use contract.Lifetimes.{Lfts}
use denote.Triple.Clauses.{AtExit}
use borrow.Fn.Kinds.{Dens, res_t, ended_of}
use Rattle.model.specs.State.{State, lent_state, state_at, WithinLimits}
use Rattle.model.specs.Claims.{raised}
use Rattle.model.specs.Histories.{Call, step, run, History, nothing, stepped, ran, inflow_due}
use Rattle.theorems.specs.Theorems.{theorems}
use Rattle.scheme_totals.proofs.total_depth.Kinds as depth-kinds
use Rattle.scheme_totals.proofs.total_depth.Reads as depth-reads
use Rattle.step_run.proofs.step.Kinds as step-kinds
use Rattle.step_run.proofs.step.Reads as step-reads
use Rattle.step_run.proofs.run.Kinds as run-kinds
use Rattle.step_run.proofs.run.Reads as run-reads
use Rattle.step_run.proofs.Calls.{StepCall, RunCall, DepthCall, step_call, run_call, depth_call}

-- calls made one after the other, accepted or refused
pub data Made : State → List Call → State → Type 0 where
  none_made : {s : State} → Made s [] s
  step-made : (c : StepCall) {calls : List Call} {t : State} → Made (state_at c.left) calls t → Made (state_at c.lent) (step c.inflow c.work ∷ calls) t
  run-made : (c : RunCall) {calls : List Call} {t : State} → Made (state_at c.left) calls t → Made (state_at c.lent) (run c.inflow c.steps c.work ∷ calls) t

pub made-history : {s t : State} {calls : List Call} → Made s calls t → History s calls t
made-history none_made = nothing
made-history (step-made c more) = stepped c.promise (made-history more)
made-history (run-made c more) = ran c.promise (made-history more)

-- ---- over any such list

-- total depth is exact to the millimetre
pub balance : (first last : DepthCall) {calls : List Call} → Made first.state calls last.state → last.answer ≡ raised (inflow_due first.state calls) first.answer
balance first last {calls} made = theorems.balance first.state last.state calls first.answer last.answer (made-history made) first.promise last.promise

-- and the limits are kept
pub limits-kept : {s t : State} {calls : List Call} → WithinLimits s → Made s calls t → WithinLimits t
limits-kept {s} {t} {calls} l made = theorems.limits-kept s t calls l (made-history made)

-- ---- the same of the code itself: from what a caller learns of a call, of its own parameters

-- a call of `step`, or of `run`, is the first of a list: from the state lent, by the state left
module _ (κs : Lfts 4) (a : Dens κs step-kinds.ps) (answer : (res_t step-kinds.r κs).Denot) (e : AtExit (ended_of 4 step-kinds.ps step-kinds.r) κs) where
  pub code-step-made : step-reads.Learnt κs a answer e → {calls : List Call} {t : State}
      → let (s, (inflow, (work, _))) = a in
      let (s', _) = e in
      Made (state_at s'.now) calls t → Made (state_at s.now) (step inflow.now work.now ∷ calls) t
  code-step-made told more = step-made (step_call κs a answer e told) more

module _ (κs : Lfts 4) (a : Dens κs run-kinds.ps) (answer : (res_t run-kinds.r κs).Denot) (e : AtExit (ended_of 4 run-kinds.ps run-kinds.r) κs) where
  pub code-run-made : run-reads.Learnt κs a answer e → {calls : List Call} {t : State}
      → let (s, (inflow, (steps, (work, _)))) = a in
      let (s', _) = e in
      Made (state_at s'.now) calls t → Made (state_at s.now) (run inflow.now steps work.now ∷ calls) t
  code-run-made told more = run-made (run_call κs a answer e told) more

-- two calls of `total_depth`, before and after such a list
module _ (κs κs' : Lfts 2) (a : Dens κs depth-kinds.ps) (a' : Dens κs' depth-kinds.ps) (answer : (res_t depth-kinds.r κs).Denot) (answer' : (res_t depth-kinds.r κs').Denot)
    (e : AtExit (ended_of 2 depth-kinds.ps depth-kinds.r) κs) (e' : AtExit (ended_of 2 depth-kinds.ps depth-kinds.r) κs') where
  pub code-balance : depth-reads.Learnt κs a answer e → depth-reads.Learnt κs' a' answer' e' → {calls : List Call}
      → let (s, _) = a in
      let (t, _) = a' in
      Made (lent_state s.now) calls (lent_state t.now) → answer' ≡ raised (inflow_due (lent_state s.now) calls) answer
  code-balance first last made = balance (depth_call κs a answer e first) (depth_call κs' a' answer' e' last) made
