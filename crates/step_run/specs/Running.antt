-- A run under way: the steps to come give what the whole run gives. Assumes nothing.
use Rattle.std.specs.Prelude.{◌≡◌, List, ℤ}
use Rattle.std.proofs.Common.{sym, subst, ◌∙◌, add-one}
use Rattle.std.proofs.Math.Path.{ap}
use Prim.Native.Nat.{ℕ, suc, ◌+◌, ◌-◌, ◌≤◌, ◌<◌}
use native.Mathlib.Omega.{arith}
use Rattle.model.specs.State.{State}
use Rattle.model.specs.Step.{Place}
use Rattle.model.specs.Step.{Outcome, moved, stuck, two_pass, run_on, run_from}
use Rattle.std.specs.Prelude.{Ok, Err}
use Rattle.model.specs.Answers.{breach}
use Rattle.model.specs.declared.RunError.{RunError}

-- of a run of `steps` steps from s₀, `done` have led to s
pub record Running (s₀ : State) (inflow : List ℤ) (steps done : ℕ) (s : State) : Type 0 where
  pub so_far : done ≤ steps
  pub to-come : run_from steps 0 s₀ inflow ≡ run_from (steps - done) done s inflow

module _ {s₀ : State} {inflow : List ℤ} {steps : ℕ} where
  -- the next step goes by what it comes to
  next : {done : ℕ} {s : State} {o : Outcome} → Running s₀ inflow steps done s → done < steps → two_pass s inflow ≡ o
      → run_from steps 0 s₀ inflow ≡ run_on (λ t. run_from (steps - suc done) (suc done) t inflow) done s o
  unfolding run_from
  next {done} {s} r l e =
      r.to-come ∙ ap (λ (m : ℕ). run_from m done s inflow) (one_less steps done l) ∙ ap (run_on (λ t. run_from (steps - suc done) (suc done) t inflow) done s) e
    where
      one_less : (n k : ℕ) → k < n → n - k ≡ suc (n - suc k)
      one_less n k l = omega arith

  pub running_more : {done : ℕ} {s t : State} → Running s₀ inflow steps done s → done < steps → two_pass s inflow ≡ moved t → Running s₀ inflow steps (done + 1) t
  running_more {done} {t = t} r l e = subst (λ (k : ℕ). Running s₀ inflow steps k t) (sym (add-one done)) (record { so_far = l; to-come = next r l e })

  pub running-stuck : {done p : ℕ} {s : State} {x : Place} → Running s₀ inflow steps done s → done < steps → two_pass s inflow ≡ stuck p x
      → run_from steps 0 s₀ inflow ≡ record { answer = (Err (RunError.Stopped done (breach p x.field x.cell))); state = s }
  running-stuck r l e = next r l e

  pub running-done : {done : ℕ} {s : State} → Running s₀ inflow steps done s → steps ≤ done → run_from steps 0 s₀ inflow ≡ record { answer = (Ok steps); state = s }
  unfolding run_from
  running-done {done} {s} r l =
      let e : steps - done ≡ 0 = omega arith in
      let f : done ≡ steps = omega (arith, r.so_far) in
      r.to-come ∙ ap (λ (m : ℕ). run_from m done s inflow) e ∙ ap (λ k. record { answer = (Ok k); state = s }) f
