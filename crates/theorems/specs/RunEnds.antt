-- A run with nothing wrong finishes, or stops with 6, exactly where its steps do. That it then ends so is RunClaim; here the way back: a
-- run from a state that k steps lead on is what is left of the run, from the state that they lead to. Assumes nothing.
use Rattle.std.specs.Prelude.{◌≡◌, refl, List, ℕ, suc, ◌+◌, ◌-◌, ◌<◌, ℤ, length}
use Rattle.std.proofs.Common.{sym, ap, subst, ◌∙◌, zero-add, arith}
use Rattle.std.specs.Prelude.{Option, None, Some}
use Rattle.model.specs.State.{State}
use Rattle.model.specs.Answers.{told_run}
use Rattle.model.specs.Step.{place, stuck, Ran, two_pass, run_on, run_from, run_test, run_by, run_of, work_left, cleared}
use Rattle.model.specs.Promises.{RunPromise}
use Rattle.model.specs.Claims.{Steps, start, onward, RunEndsClaim}
use Rattle.model.specs.declared.Field.{Field}
use Rattle.model.specs.declared.Refusal.{Refusal}
use Rattle.std.specs.Prelude.{Ok, Err}
use Rattle.model.specs.Answers.{RunAnswer, breach}
use Rattle.model.specs.declared.RunError.{RunError}
use Rattle.theorems.specs.Truth.{differ}
use Rattle.theorems.specs.Limits.{run-taken}
use Rattle.theorems.specs.Runs.{run-counts}

-- ---- nothing wrong

finished-passed : (o : Option Refusal) (s : State) (x : Ran) (k : ℕ) → Ok k ≡ (run_by o s x).answer → o ≡ None
finished-passed None s x k e = refl
finished-passed (Some r) s x k e = differ (cc e)

stopped-passed : (o : Option Refusal) (s : State) (x : Ran) (k p c : ℕ) (f : Field) → Err (RunError.Stopped k (breach p f c)) ≡ (run_by o s x).answer → o ≡ None
stopped-passed None s x k p c f e = refl
stopped-passed (Some r) s x k p c f e = differ (cc e)

-- ---- the way back

run-onward : (inflow : List ℤ) (k n done : ℕ) (s t : State) → Steps inflow k s t → run_from (k + n) done s inflow ≡ run_from n (done + k) t inflow
unfolding run_from
run-onward inflow k n done s t (start) = λ i. run_from (zero-add n i) (more-none done i) s inflow
  where
    more-none : (d : ℕ) → d ≡ d + 0
    more-none d = omega arith
run-onward inflow k n done s t (onward {m = j} {t = x} e r) =
    ap (λ z. run_from z done s inflow) (up j n)
    ∙ ap (run_on (λ y. run_from (j + n) (suc done) y inflow) done s) e
    ∙ run-onward inflow j n (suc done) x t r
    ∙ ap (λ z. run_from n z t inflow) (along done j)
  where
    up : (j n : ℕ) → suc j + n ≡ suc (j + n)
    up j n = omega arith

    along : (d j : ℕ) → suc d + j ≡ d + suc j
    along d j = omega arith

abbrev ended : RunAnswer → State → Ran
ended a t = record { answer = a; state = t }

run-finished : (inflow : List ℤ) (m : ℕ) (s t : State) → Steps inflow m s t → run_from m 0 s inflow ≡ ended (Ok m) t
unfolding run_from
run-finished inflow m s t r = ap (λ z. run_from z 0 s inflow) (whole m) ∙ run-onward inflow m 0 0 s t r ∙ ap (λ z. ended (Ok z) t) (zero-add m)
  where
    whole : (m : ℕ) → m ≡ m + 0
    whole m = omega arith

run-stopped : (inflow : List ℤ) (m k p c : ℕ) (f : Field) (s t : State) → k < m → Steps inflow k s t → two_pass t inflow ≡ stuck p (place f c)
    → run_from m 0 s inflow ≡ ended (Err (RunError.Stopped k (breach p f c))) t
unfolding run_from
run-stopped inflow m k p c f s t l r e =
    let n = m - suc k in
    ap (λ z. run_from z 0 s inflow) (parts m k l)
    ∙ run-onward inflow k (suc n) 0 s t r
    ∙ ap (run_on (λ y. run_from n (suc (0 + k)) y inflow) (0 + k) t) e
    ∙ ap (λ z. ended (Err (RunError.Stopped z (breach p f c))) t) (zero-add k)
  where
    parts : (m k : ℕ) → k < m → m ≡ k + suc (m - suc k)
    parts m k l = omega arith

-- a run that takes what it needs and ends so meets its promise with that end
run_is : (s s' : State) (inflow : List ℤ) (m : ℕ) (work work' : List ℤ) (a : RunAnswer) → run_test s inflow m (length work) ≡ None → run_from m 0 s inflow ≡ ended a s'
    → work' ≡ cleared s work → RunPromise s inflow m work a s' work'
unfolding run_of work_left
run_is s s' inflow m work work' a e f w =
    let x : run_of s inflow m (length work) ≡ ended a s' = ap (λ o. run_by o s (run_from m 0 s inflow)) e ∙ f in
    record {
      answers = ap (λ (r : Ran). r.answer) (sym x);
      tells = ap (λ (r : Ran). told_run r.answer) (sym x);
      steps = ap (λ (r : Ran). r.state) (sym x);
      clears = w ∙ ap (λ o. work_left o s work) (sym e);
    }

pub run_ends : RunEndsClaim
unfolding run_of work_left
run_ends = record {
  finished = λ s s' inflow work work' m k. (
    λ p.
        let e = finished-passed (run_test s inflow m (length work)) s (run_from m 0 s inflow) k p.answers in
        let c = run-counts s s' inflow work work' m (Ok k) p in
        ((run-taken s inflow m (length work)).0 e, c.1, subst (λ j. Steps inflow j s s') c.1 c.0, p.clears ∙ ap (λ o. work_left o s work) e),
    λ b.
        subst (λ j. RunPromise s inflow m work (Ok j) s' work') (sym b.1)
        (run_is s s' inflow m work work' (Ok m) ((run-taken s inflow m (length work)).1 b.0) (run-finished inflow m s s' b.2) b.3),
  );
  stopped = λ s s' inflow work work' m k p c f. (
    λ q.
        let e = stopped-passed (run_test s inflow m (length work)) s (run_from m 0 s inflow) k p c f q.answers in
        let d = run-counts s s' inflow work work' m (Err (RunError.Stopped k (breach p f c))) q in
        ((run-taken s inflow m (length work)).0 e, d.1.0, d.0, d.1.1, q.clears ∙ ap (λ o. work_left o s work) e),
    λ b.
        run_is s s' inflow m work work' (Err (RunError.Stopped k (breach p f c))) ((run-taken s inflow m (length work)).1 b.0) (run-stopped inflow m k p c f s s' b.1 b.2 b.3) b.4,
  );
}
