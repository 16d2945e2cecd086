-- The number that a run answers is the number of definition steps that lead to the state left. Assumes nothing.
use Rattle.std.specs.Prelude.{◌≡◌, refl, List, ℕ, zero, suc, ◌+◌, ◌<◌, ℤ, length}
use Rattle.std.proofs.Common.{sym, subst, ◌∙◌, arith}
use Rattle.std.specs.Prelude.{Option, None, Some}
use Rattle.model.specs.State.{State}
use Rattle.model.specs.Step.{Outcome, moved, stuck, Ran, two_pass, run_on, run_from, run_test, run_by, run_of}
use Rattle.model.specs.Histories.{run_count}
use Rattle.model.specs.Claims.{Steps, start, onward, Ended, RunClaim}
use Rattle.model.specs.declared.Refusal.{Refusal}
use Rattle.model.specs.Answers.{RunAnswer}

-- k steps lead from s to the state left, and the answer counts them; m is the whole run's length
record Counted (inflow : List ℤ) (m done : ℕ) (s : State) (r : Ran) : Type 0 where
  k : ℕ
  counts : run_count r.answer ≡ done + k
  leads : Steps inflow k s r.state
  ends : Ended inflow m r.answer r.state

none_more : (done : ℕ) → done ≡ done + 0
none_more done = omega arith

one_more : (done k x : ℕ) → x ≡ suc done + k → x ≡ done + suc k
one_more done k x e = omega arith

-- by the outcome of the next step
linked : (inflow : List ℤ) (m done : ℕ) (s : State) (more : State → Ran) → done < m → ((t : State) → Counted inflow m (suc done) t (more t))
    → (o : Outcome) → two_pass s inflow ≡ o → Counted inflow m done s (run_on more done s o)
linked inflow m done s more l h (moved t) e =
    record { k = suc (h t).k; counts = one_more done (h t).k _ (h t).counts; leads = onward e (h t).leads; ends = (h t).ends }
linked inflow m done s more l h (stuck p x) e = record { k = 0; counts = none_more done; leads = start; ends = (l, e) }

counted : (inflow : List ℤ) (left done m : ℕ) (s : State) → m ≡ done + left → Counted inflow m done s (run_from left done s inflow)
unfolding run_from
counted inflow zero done m s e = record { k = 0; counts = none_more done; leads = start; ends = sym (e ∙ sym (none_more done)) }
counted inflow (suc left) done m s e =
    linked inflow m done s (λ t. run_from left (suc done) t inflow) (omega arith) (λ t. counted inflow left (suc done) m t (omega arith)) (two_pass s inflow) refl

-- steps and end of a run that was tested; a refused run does none
abbrev Told : List ℤ → ℕ → State → RunAnswer → State → Type 0
Told inflow m s answer t = Steps inflow (run_count answer) s t × Ended inflow m answer t

tested : (inflow : List ℤ) (m : ℕ) (s : State) (r : Ran) → Counted inflow m 0 s r → (t : Option Refusal) → Told inflow m s (run_by t s r).answer (run_by t s r).state
tested inflow m s r c None = (subst (λ k. Steps inflow k s r.state) (plain c.k _ c.counts) c.leads, c.ends)
  where
    plain : (k x : ℕ) → x ≡ 0 + k → k ≡ x
    plain k x e = omega arith
tested inflow m s r c (Some x) = (start, tt)

pub run-told : (s : State) (inflow : List ℤ) (m room : ℕ) → Told inflow m s (run_of s inflow m room).answer (run_of s inflow m room).state
unfolding run_of
run-told s inflow m room = tested inflow m s (run_from m 0 s inflow) (counted inflow m 0 m s (omega arith)) (run_test s inflow m room)

pub run-counts : RunClaim
run-counts s s' inflow work work' m answer p =
    subst (λ a. Told inflow m s a s') (sym p.answers) (subst (λ t. Told inflow m s (run_of s inflow m (length work)).answer t) (sym p.steps) (run-told s inflow m (length work)))
