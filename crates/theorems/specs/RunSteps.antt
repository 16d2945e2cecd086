-- A run that is not refused leaves what as many public step calls leave. Assumes nothing.
use Rattle.std.specs.Prelude.{◌≡◌, refl, List, ℕ, ◌≤◌, ℤ, length, replicate}
use Rattle.std.proofs.Common.{sym, ap, subst, ◌∙◌}
use Rattle.std.proofs.Math.Path.{ap₂}
use Rattle.std.specs.Prelude.{Option, None, Some}
use Rattle.model.specs.Numbers.{inflow_limits}
use Rattle.model.specs.State.{State, FieldWithin}
use Rattle.model.specs.Answers.{told_step}
use Rattle.model.specs.Refusals.{work_for, work_length}
use Rattle.model.specs.Step.{place, Outcome, moved, stuck, Ran, two_pass, step_test, step_answer_by, step_state_by, step_answer, step_state, run_from, run_test, run_by, run_of, work_left}
use Rattle.model.specs.Promises.{StepPromise}
use Rattle.model.specs.Histories.{step, History, nothing, stepped, run_count}
use Rattle.model.specs.Claims.{StepTaken, Steps, start, onward, Ended, NextStep, RunStepsClaim}
use Rattle.model.specs.declared.Refusal.{Refusal}
use Rattle.std.specs.Prelude.{Ok, Err}
use Rattle.model.specs.Answers.{RunAnswer}
use Rattle.model.specs.declared.RunError.{RunError}
use Rattle.theorems.specs.Limits.{step-taken, run-taken}
use Rattle.theorems.specs.Stepping.{step-within, step-cells}
use Rattle.theorems.specs.Runs.{run-counts}

module _ (inflow : List ℤ) (room : ℕ) where
  -- with nothing wrong, nor is there with the state that it leads to
  next : (s t : State) → StepTaken s inflow room → two_pass s inflow ≡ moved t → StepTaken t inflow room
  next s t r h =
      let e = sym (step-cells s t inflow h) in (
        ((step-within.moves s t inflow r.0).0 h).1,
        subst (λ m. FieldWithin inflow_limits m inflow) e r.1,
        subst (λ m. work_for m ≤ room) e r.2,
      )

  answer-by : (s : State) (o : Outcome) → StepTaken s inflow room → two_pass s inflow ≡ o → step_answer s inflow room ≡ step_answer_by None o
  unfolding step_answer
  answer-by s o r h = ap₂ step_answer_by ((step-taken s inflow room).1 r) h

  state-by : (s : State) (o : Outcome) → StepTaken s inflow room → two_pass s inflow ≡ o → step_state s inflow room ≡ step_state_by None s o
  unfolding step_state
  state-by s o r h = ap₂ (λ x y. step_state_by x s y) ((step-taken s inflow room).1 r) h

module _ (inflow lent : List ℤ) where
  promise : (s t : State) → StepTaken s inflow (length lent) → two_pass s inflow ≡ moved t → StepPromise s inflow lent (Ok tt) t (work_left (step_test s inflow (length lent)) s lent)
  promise s t r h =
      let e = sym (answer-by inflow (length lent) s (moved t) r h) in
      record { answers = e; tells = ap told_step e; steps = sym (state-by inflow (length lent) s (moved t) r h); clears = refl }

  -- definition steps are step calls
  as-calls : (k : ℕ) (s t : State) → StepTaken s inflow (length lent) → Steps inflow k s t → History s (replicate k (step inflow lent)) t
  as-calls k s t r (start {s = x}) = nothing
  as-calls k s t r (onward {m = m} {s = x} {t = y} {e = z} h more) = stepped (promise x y r h) (as-calls m y z (next inflow (length lent) x y r h) more)

  ready-after : (k : ℕ) (s t : State) → StepTaken s inflow (length lent) → Steps inflow k s t → StepTaken t inflow (length lent)
  ready-after k s t r (start {s = x}) = r
  ready-after k s t r (onward {m = m} {s = x} {t = y} {e = z} h more) = ready-after m y z (next inflow (length lent) x y r h) more

  next-step : (m : ℕ) (answer : RunAnswer) (t : State) → StepTaken t inflow (length lent) → Ended inflow m answer t → NextStep inflow (length lent) answer t
  next-step m (Err (RunError.Refused r)) t x e = tt
  next-step m (Ok k) t x e = tt
  next-step m (Err (RunError.Stopped k b)) t x e = answer-by inflow (length lent) t (stuck b.pass (place b.field b.cell)) x e.1

-- a run that is not refused passed its tests
tested : (s : State) (x : Option Refusal) (r : Ran) → ((y : Refusal) → (run_by x s r).answer ≡ Err (RunError.Refused y) → ⊥) → x ≡ None
tested s None r n = refl
tested s (Some y) r n = absurd (n y refl)

ready : (s : State) (inflow : List ℤ) (m room lent : ℕ) → ((y : Refusal) → (run_of s inflow m room).answer ≡ Err (RunError.Refused y) → ⊥) → work_length s ≤ lent → StepTaken s inflow lent
unfolding run_of
ready s inflow m room lent n l =
    let a = (run-taken s inflow m room).0 (tested s (run_test s inflow m room) (run_from m 0 s inflow) n) in (a.0.0, a.0.1, l)

pub run-steps : RunStepsClaim
run-steps s s' inflow work work' lent m answer p n l =
    let r = ready s inflow m (length work) (length lent) (λ y e. n y (p.answers ∙ e)) l in
    let c = run-counts s s' inflow work work' m answer p in
    (as-calls inflow lent (run_count answer) s s' r c.0, next-step inflow lent m answer s' (ready-after inflow lent (run_count answer) s s' r c.0) c.1)
