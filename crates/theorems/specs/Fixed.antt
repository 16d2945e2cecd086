-- Each promise can be met, and leaves nothing free. Assumes nothing.
use Rattle.std.specs.Prelude.{◌≡◌, refl, List, [], ◌∷◌, length}
use Rattle.std.proofs.Common.{sym, subst, ◌∙◌}
use Rattle.model.specs.State.{State}
use Rattle.model.specs.Totals.{total_depth, energy4}
use Rattle.model.specs.Step.{step_test, step_answer, step_state, run_test, run_of, work_left}
use Rattle.model.specs.Record.{compare_answer}
use Rattle.model.specs.Promises.{filled_by, probe_of, total_test, total_answer, read_answer, read_into, read_of}
use Rattle.model.specs.Histories.{Call, step, run, state_after, History, nothing, stepped, ran}
use Rattle.model.specs.Claims.{FillMet, MetClaim, FillFixed, FixedClaim}

made : (s : State) (calls : List Call) → (t : State) × History s calls t
made s [] = (s, nothing)
made s (step inflow work ∷ calls) =
    let r = made (state_after s (step inflow work)) calls in
    (r.0, stepped {work' = work_left (step_test s inflow (length work)) s work} {answer = step_answer s inflow (length work)} (record { answers = refl; tells = refl; steps = refl; clears = refl }) r.1)
made s (run inflow m work ∷ calls) =
    let r = made (state_after s (run inflow m work)) calls in
    (r.0, ran {work' = work_left (run_test s inflow m (length work)) s work} {answer = (run_of s inflow m (length work)).answer} (record { answers = refl; tells = refl; steps = refl; clears = refl }) r.1)

fill-met : {B A : Type 0} → FillMet B A
fill-met by tell test m ds = (by test, filled_by test m ds, record { answers = refl; tells = refl; fills = refl })

pub met : MetClaim
met = record {
  fill = fill-met;
  probe-grid = fill-met;
  probe = λ s q k. (probe_of s q k, record { answers = refl; tells = refl });
  write = fill-met;
  step = λ s inflow work. (
    step_answer s inflow (length work),
    step_state s inflow (length work),
    work_left (step_test s inflow (length work)) s work,
    record { answers = refl; tells = refl; steps = refl; clears = refl },
  );
  run = λ s inflow m work. (
    (run_of s inflow m (length work)).answer,
    (run_of s inflow m (length work)).state,
    work_left (run_test s inflow m (length work)) s work,
    record { answers = refl; tells = refl; steps = refl; clears = refl },
  );
  depth = λ s. (total_answer (total_test s) (total_depth s), record { answers = refl; tells = refl });
  energy = λ s. (total_answer (total_test s) (energy4 s), record { answers = refl; tells = refl });
  read = λ rec d. (read_answer (read_of rec d), read_into (read_of rec d) d, record { answers = refl; tells = refl; fills = refl });
  compare = λ first second. (compare_answer first second, record { answers = refl; tells = refl });
  history = made;
}

-- the state after a list, worked out from the first state and the calls alone
abbrev after : State → List Call → State
after s [] = s
after s (c ∷ calls) = after (state_after s c) calls

leads : (s t : State) (calls : List Call) → History s calls t → t ≡ after s calls
leads s t calls (nothing {s = x}) = refl
leads s t calls (stepped {t = y} {e = z} {calls = cs} p r) = subst (λ (x : State). z ≡ after x cs) p.steps (leads y z cs r)
leads s t calls (ran {t = y} {e = z} {calls = cs} p r) = subst (λ (x : State). z ≡ after x cs) p.steps (leads y z cs r)

fill-fixed : {B A : Type 0} → FillFixed B A
fill-fixed by tell test m ds a b x y p q = (p.answers ∙ sym q.answers, p.fills ∙ sym q.fills)

pub fixed : FixedClaim
fixed = record {
  fill = fill-fixed;
  probe-grid = fill-fixed;
  probe = λ s q k a b x y. x.answers ∙ sym y.answers;
  write = fill-fixed;
  step = λ s x y inflow work k l a b p q. (p.answers ∙ sym q.answers, p.steps ∙ sym q.steps, p.clears ∙ sym q.clears);
  run = λ s x y inflow m work k l a b p q. (p.answers ∙ sym q.answers, p.steps ∙ sym q.steps, p.clears ∙ sym q.clears);
  depth = λ s a b p q. p.answers ∙ sym q.answers;
  energy = λ s a b p q. p.answers ∙ sym q.answers;
  read = λ rec d x y a b p q. (p.answers ∙ sym q.answers, p.fills ∙ sym q.fills);
  compare = λ first second a b p q. p.answers ∙ sym q.answers;
  history = λ s x y calls p q. leads s x calls p ∙ sym (leads s y calls q);
}
