-- Each call on a state is refused exactly where a cause holds in the list of its tests. A call answers by cases on what its tests find; so
-- an answer `Err r` says that they found r, and `finds` says where they do. Assumes nothing.
use Rattle.std.specs.Prelude.{◌≡◌, refl, ◌↔◌, Bool, true, false, List, [], ◌∷◌, ℕ, zero, suc, ℤ, length, Float}
use Rattle.std.proofs.Common.{sym, ap, ◌∙◌}
use Rattle.std.specs.Prelude.{Option, None, Some}
use Rattle.model.specs.State.{State}
use Rattle.model.specs.Answers.{told_answer, told_probe, told_probe_grid, told_write, told_total, told_step, told_run}
use Rattle.model.specs.Step.{place, Outcome, moved, stuck, Ran, run_on, two_pass, step_tests, step_test, after_step, step_answer_by, step_state_by, step_answer, step_state, run_from, run_tests, run_test, run_by, run_of, work_left}
use Rattle.model.specs.Doubles.{narrow}
use Rattle.model.specs.Totals.{total_depth, energy4}
use Rattle.model.specs.Record.{record_length}
use Rattle.model.specs.Promises.{answer_of, Filling, filled_by, Fills, vorticity_tests, vorticity_test, tendencies_tests, tendencies_test, probe_tests, probe_test, probe_answer, probe_of, probe_grid_answer, total_tests, total_test, total_answer, write_tests, write_test, write_answer, StepPromise}
use Rattle.model.specs.Claims.{held, CausesClaim}
use Rattle.model.specs.declared.Field.{Field}
use Rattle.model.specs.declared.Refusal.{Refusal}
use Rattle.std.specs.Prelude.{Ok, Err}
use Rattle.model.specs.declared.ProbeAnswer.{ProbeAnswer}
use Rattle.model.specs.Answers.{StepAnswer, breach}
use Rattle.model.specs.declared.StepError.{StepError}
use Rattle.model.specs.declared.RunError.{RunError}
use Rattle.theorems.specs.Truth.{◌⟫◌, differ, some≢}
use Rattle.theorems.specs.TestLaws.{finds}
use Rattle.theorems.specs.Limits.{step-taken}

-- ---- from an answer back to what the tests found

answer-some : (o : Option Refusal) (r : Refusal) → Err r ≡ answer_of o → o ≡ Some r
answer-some None r e = differ (cc e)
answer-some (Some x) r e = let h : x ≡ r = cc e in ap Some h

probe-iff : (o : Option Refusal) (exact : Bool) (a b c : Float) (r : Refusal)
    → (ProbeAnswer.Refused r ≡ probe_answer o exact a b c) ↔ (o ≡ Some r)
probe-iff None true a b c r = (λ e. differ (cc e), λ e. some≢ (sym e))
probe-iff None false a b c r = (λ e. differ (cc e), λ e. some≢ (sym e))
probe-iff (Some x) exact a b c r = (λ e. let h : x ≡ r = cc e in ap Some h, λ e. let h : x ≡ r = cc e in ap ProbeAnswer.Refused (sym h))

probe-grid-some : (o : Option Refusal) (exact : Bool) (r : Refusal) → Err r ≡ probe_grid_answer exact o → o ≡ Some r
probe-grid-some None true r e = differ (cc e)
probe-grid-some None false r e = differ (cc e)
probe-grid-some (Some x) exact r e = let h : x ≡ r = cc e in ap Some h

write-some : (m : ℕ) (o : Option Refusal) (r : Refusal) → Err r ≡ write_answer m o → o ≡ Some r
write-some m None r e = differ (cc e)
write-some m (Some x) r e = let h : x ≡ r = cc e in ap Some h

total-some : (o : Option Refusal) (x : ℤ) (r : Refusal) → Err r ≡ total_answer o x → o ≡ Some r
total-some None x r e = differ (cc e)
total-some (Some y) x r e = let h : y ≡ r = cc e in ap Some h

step-some : (o : Option Refusal) (x : Outcome) (r : Refusal) → Err (StepError.Refused r) ≡ step_answer_by o x → o ≡ Some r
step-some None (moved t) r e = differ (cc e)
step-some None (stuck p t) r e = differ (cc e)
step-some (Some y) x r e = let h : y ≡ r = cc e in ap Some h

-- ---- a step: with nothing wrong it answers by what the two passes come to

step_is : (s s' : State) (inflow work work' : List ℤ) (a : StepAnswer) (o : Option Refusal) (x : Outcome) → step_test s inflow (length work) ≡ o → two_pass s inflow ≡ x
    → a ≡ step_answer_by o x → s' ≡ step_state_by o s x → work' ≡ work_left o s work → StepPromise s inflow work a s' work'
unfolding step_answer step_state
step_is s s' inflow work work' a o x e f p q w =
    let e' = sym e in
    let f' = sym f in
    let pa : a ≡ step_answer s inflow (length work) = p ∙ ap (λ z. step_answer_by z x) e' ∙ ap (step_answer_by (step_test s inflow (length work))) f' in
    record {
      answers = pa;
      tells = ap told_step pa;
      steps = q ∙ ap (λ z. step_state_by z s x) e' ∙ ap (step_state_by (step_test s inflow (length work)) s) f';
      clears = w ∙ ap (λ z. work_left z s work) e';
    }

by-6 : (o : Option Refusal) (x : Outcome) (p k : ℕ) (f : Field) → Err (StepError.OutOfBounds (breach p f k)) ≡ step_answer_by o x → (o ≡ None) × (x ≡ stuck p (place f k))
by-6 None (moved t) p k f e = differ (cc e)
by-6 None (stuck q y) p k f e =
    let h : breach q y.field y.cell ≡ breach p f k = cc e in
    (refl, ap (λ x. stuck x.pass (place x.field x.cell)) h)
by-6 (Some r) x p k f e = differ (cc e)

by-done : (o : Option Refusal) (s s' : State) (x : Outcome) → Ok tt ≡ step_answer_by o x → s' ≡ step_state_by o s x → (o ≡ None) × (x ≡ moved s')
by-done None s s' (moved t) e q = (refl, ap moved (sym q))
by-done None s s' (stuck p y) e q = differ (cc e)
by-done (Some r) s s' x e q = differ (cc e)

-- ---- a run: once its tests have passed, it is never refused with 1 to 5, however many steps it takes

run-some : (o : Option Refusal) (s : State) (x : Ran) (r : Refusal) → ((z : Refusal) → x.answer ≡ Err (RunError.Refused z) → ⊥) → Err (RunError.Refused r) ≡ (run_by o s x).answer → o ≡ Some r
run-some None s x r n e = absurd (n r (sym e))
run-some (Some y) s x r n e = let h : y ≡ r = cc e in ap Some h

onward : (more : State → Ran) (done : ℕ) (s : State) (z : Refusal) → ((t : State) → (more t).answer ≡ Err (RunError.Refused z) → ⊥) → (o : Outcome) → (run_on more done s o).answer ≡ Err (RunError.Refused z) → ⊥
onward more done s z n (moved t) e = n t e
onward more done s z n (stuck p x) e = differ (cc e)

never : (m done : ℕ) (s : State) (inflow : List ℤ) (z : Refusal) → (run_from m done s inflow).answer ≡ Err (RunError.Refused z) → ⊥
unfolding run_from
never zero done s inflow z e = differ (cc e)
never (suc m) done s inflow z e = onward (λ t. run_from m (suc done) t inflow) done s z (λ t. never m (suc done) t inflow z) (two_pass s inflow) e

-- ---- calls that fill: a refused one leaves what each destination held

pub kept : {A : Type 0} (r : Refusal) (m : ℕ) (ds : List (Filling A)) → filled_by (Some r) m ds ≡ held ds
kept r m [] = refl
kept r m (d ∷ ds) = ap (λ l. d.old ∷ l) (kept r m ds)

fill-iff : {B A : Type 0} (by : Option Refusal → B) (tell : B → List ℤ) (test : Option Refusal) (m : ℕ) (ds : List (Filling A)) (ds' : List (List A)) (r : Refusal)
    → (by (Some r) ≡ by test → test ≡ Some r)
    → Fills by tell test m ds (by (Some r)) ds' ↔ ((test ≡ Some r) × (ds' ≡ held ds))
fill-iff by tell test m ds ds' r back = (
  λ p. let e = back p.answers in (e, p.fills ∙ ap (λ o. filled_by o m ds) e ∙ kept r m ds),
  λ c.
      let e = sym c.0 in
      let a = ap by e in
      record { answers = a; tells = ap tell a; fills = c.1 ∙ sym (kept r m ds) ∙ ap (λ o. filled_by o m ds) e },
)

-- ---- each call, both ways

pub causes : CausesClaim
unfolding vorticity_test tendencies_test probe_test probe_of write_test total_test step_test step_answer step_state run_test run_of work_left
causes = record {
  vorticity = λ s d d' r.
      let l = vorticity_tests s (length d) in
      fill-iff answer_of told_answer _ _ _ _ r (answer-some _ r) ⟫ (λ p. ((finds l r).0 p.0, cc p.1), λ c. ((finds l r).1 c.0, ap (λ x. x ∷ []) c.1));
  tendencies = λ s q dh du dv dh' du' dv' r.
      let l = tendencies_tests s q (length dh) (length du) (length dv) in
      fill-iff answer_of told_answer _ _ _ _ r (answer-some _ r)
      ⟫ (λ p. ((finds l r).0 p.0, cc p.1, cc p.1, cc p.1), λ c. ((finds l r).1 c.0, λ i. c.1 i ∷ c.2 i ∷ c.3 i ∷ []));
  probe = λ s q k r.
      let i = probe-iff (probe_test s q k) (narrow s q) _ _ _ r ⟫ finds (probe_tests s q k) r in
      (λ p. i.0 p.answers, λ c. let a = i.1 c in record { answers = a; tells = ap told_probe a });
  probe-grid = λ s q dh du dv dh' du' dv' r.
      let l = tendencies_tests s q (length dh) (length du) (length dv) in
      fill-iff (probe_grid_answer (narrow s q)) told_probe_grid _ _ _ _ r (probe-grid-some _ (narrow s q) r)
      ⟫ (λ p. ((finds l r).0 p.0, cc p.1, cc p.1, cc p.1), λ c. ((finds l r).1 c.0, λ i. c.1 i ∷ c.2 i ∷ c.3 i ∷ []));
  write = λ s t d d' r.
      let l = write_tests s t (length d) in
      fill-iff (write_answer (record_length s)) told_write _ _ _ _ r (write-some (record_length s) _ r)
      ⟫ (λ p. ((finds l r).0 p.0, cc p.1), λ c. ((finds l r).1 c.0, ap (λ x. x ∷ []) c.1));
  depth = λ s r.
      let i = finds (total_tests s) r in (
        λ p. i.0 (total-some (total_test s) (total_depth s) r p.answers),
        λ c. let a = sym (ap (λ o. total_answer o (total_depth s)) (i.1 c)) in record { answers = a; tells = ap told_total a },
      );
  energy = λ s r.
      let i = finds (total_tests s) r in (
        λ p. i.0 (total-some (total_test s) (energy4 s) r p.answers),
        λ c. let a = sym (ap (λ o. total_answer o (energy4 s)) (i.1 c)) in record { answers = a; tells = ap told_total a },
      );
  step = λ s s' inflow work work' r.
      let i = finds (step_tests s inflow (length work)) r in (
        λ p. let e = step-some (step_test s inflow (length work)) (two_pass s inflow) r p.answers in (i.0 e, p.steps ∙ ap (λ o. step_state_by o s (two_pass s inflow)) e, p.clears ∙ ap (λ o. work_left o s work) e),
        λ c. step_is s s' inflow work work' (Err (StepError.Refused r)) (Some r) (two_pass s inflow) (i.1 c.0) refl refl c.1 c.2,
      );
  run = λ s s' inflow m work work' r.
      let i = finds (run_tests s inflow m (length work)) r in
      let x = run_from m 0 s inflow in (
        λ p. let e = run-some (run_test s inflow m (length work)) s x r (never m 0 s inflow) p.answers in (i.0 e, p.steps ∙ ap (λ o. (run_by o s x).state) e, p.clears ∙ ap (λ o. work_left o s work) e),
        λ c.
            let e = sym (i.1 c.0) in
            let a = ap (λ o. (run_by o s x).answer) e in
            record { answers = a; tells = ap told_run a; steps = c.1 ∙ ap (λ o. (run_by o s x).state) e; clears = c.2 ∙ ap (λ o. work_left o s work) e },
      );
  step-6 = λ s s' inflow work work' p k f.
      let i = step-taken s inflow (length work) in (
        λ q.
            let b = by-6 (step_test s inflow (length work)) (two_pass s inflow) p k f q.answers in
            (i.0 b.0, b.1, q.steps ∙ ap (λ o. step_state_by o s (two_pass s inflow)) b.0 ∙ ap (after_step s) b.1, q.clears ∙ ap (λ o. work_left o s work) b.0),
        λ c. step_is s s' inflow work work' (Err (StepError.OutOfBounds (breach p f k))) None (stuck p (place f k)) (i.1 c.0) c.1 refl c.2 c.3,
      );
  step-done = λ s s' inflow work work'.
      let i = step-taken s inflow (length work) in (
        λ q.
            let b = by-done (step_test s inflow (length work)) s s' (two_pass s inflow) q.answers q.steps in
            (i.0 b.0, b.1, q.clears ∙ ap (λ o. work_left o s work) b.0),
        λ c. step_is s s' inflow work work' (Ok tt) None (moved s') (i.1 c.0) c.1 refl refl c.2,
      );
}
