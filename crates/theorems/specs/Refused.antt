-- What a refused call leaves, and what every step and run leaves in its work space. Assumes nothing.
use Rattle.std.specs.Prelude.{◌≡◌, refl, List, [], ◌∷◌, ◌++◌, ℤ, length}
use Rattle.std.proofs.Common.{sym, subst, ◌∙◌, arith, lit≤}
use Rattle.std.specs.Prelude.{Option, None, Some}
use Prim.Native.Nat.{ℕ, zero, suc, ◌≤◌}
use Rattle.model.specs.State.{State, Fields, cells}
use Rattle.model.specs.Answers.{number}
use Rattle.model.specs.Tests.{Test}
use Rattle.model.specs.Refusals.{Taken, taken, fields_of, run_length_test, work_test, length_tests, value_tests, state_tests}
use Rattle.model.specs.Step.{Outcome, moved, stuck, two_pass, step_tests, step_test, step_answer_by, step_state_by, step_answer, step_state, Ran, run_on, run_from, run_tests, run_test, run_by, run_of, work_left}
use Rattle.model.specs.Record.{Decoded, accepted, refused}
use Rattle.model.specs.Promises.{read_answer, read_into, read_of}
use Rattle.model.specs.Claims.{FillRefused, RefusedClaim, WorkClaim, RefusedWork, StepWork, RunWork}
use Rattle.model.specs.declared.Field.{Field}
use Rattle.model.specs.declared.Field.TheVariants.{Inflow}
use Rattle.model.specs.declared.Refusal.{Refusal}
use Rattle.model.specs.declared.Refusal.TheVariants.{Grid, Lengths, Constants, Value, ClosedEdge, Record, Destination, Milliseconds, NoSuchCell}
use Rattle.std.specs.Prelude.{Ok, Err}
use Rattle.model.specs.Answers.{RunAnswer, breach}
use Rattle.model.specs.declared.StepError.{StepError}
use Rattle.model.specs.declared.RunError.{RunError}
use Rattle.theorems.specs.Truth.{differ}
use Rattle.theorems.specs.TestLaws.{Only, EachOnly, only-append, found-only}
use Rattle.theorems.specs.Causes.{kept}

-- ---- destinations

fill-refused : {B A : Type 0} → FillRefused B A
fill-refused by tell None m ds a ds' n p = absurd (n p.answers)
fill-refused by tell (Some r) m ds a ds' n p = p.fills ∙ kept r m ds

read-refused : {r : Refusal} (x : Decoded) (d : Fields) → Err r ≡ read_answer x → read_into x d ≡ d
read-refused (accepted s t) d h = differ (cc h)
read-refused (refused r) d h = refl

-- ---- states

step-refused : {r : Refusal} (s : State) (o : Outcome) (x : Option Refusal) → Err (StepError.Refused r) ≡ step_answer_by x o → step_state_by x s o ≡ s
step-refused s (moved t) None h = differ (cc h)
step-refused s (stuck p x) None h = refl
step-refused s o (Some y) h = refl

step-out : {p k : ℕ} {f : Field} (s : State) (o : Outcome) (x : Option Refusal) → Err (StepError.OutOfBounds (breach p f k)) ≡ step_answer_by x o → step_state_by x s o ≡ s
step-out s (moved t) None h = differ (cc h)
step-out s (stuck p x) None h = refl
step-out s o (Some y) h = refl

-- a run that passes its tests is finished or stopped
module _ (Q : RunAnswer → Type 0) (finished : (k : ℕ) → Q (Ok k)) (stopped : (k p : ℕ) (f : Field) (c : ℕ) → Q (Err (RunError.Stopped k (breach p f c)))) where
  by-outcome : (more : State → Ran) → ((t : State) → Q (more t).answer) → (done : ℕ) (s : State) (o : Outcome) → Q (run_on more done s o).answer
  by-outcome more h done s (moved t) = h t
  by-outcome more h done s (stuck p x) = stopped done p x.field x.cell

  ran : (m done : ℕ) (s : State) (inflow : List ℤ) → Q (run_from m done s inflow).answer
  unfolding run_from
  ran zero done s inflow = finished done
  ran (suc m) done s inflow = by-outcome (λ t. run_from m (suc done) t inflow) (λ t. ran m (suc done) t inflow) done s (two_pass s inflow)

run-refused : {r : Refusal} (s : State) (x : Option Refusal) (q : Ran) → (Err (RunError.Refused r) ≡ q.answer → ⊥) → Err (RunError.Refused r) ≡ (run_by x s q).answer → (run_by x s q).state ≡ s
run-refused s None q n h = absurd (n h)
run-refused s (Some y) q n h = refl

pub refused-leaves : RefusedClaim
unfolding step_state step_answer run_of
refused-leaves = record {
  fill = fill-refused;
  probe-grid = fill-refused;
  write = fill-refused;
  step = λ s s' inflow work work' r p. p.steps ∙ step-refused s (two_pass s inflow) (step_test s inflow (length work)) p.answers;
  step-6 = λ s s' inflow work work' a k f p. p.steps ∙ step-out s (two_pass s inflow) (step_test s inflow (length work)) p.answers;
  run = λ s s' inflow work work' m r p. p.steps ∙ run-refused s (run_test s inflow m (length work)) (run_from m 0 s inflow) (ran (λ a. (Err (RunError.Refused r)) ≡ a → ⊥) (λ k h. differ (cc h)) (λ k p f c h. differ (cc h)) m 0 s inflow) p.answers;
  read = λ rec d d' r p. p.fills ∙ read-refused (read_of rec d) d p.answers;
}

-- ---- the work space

abbrev UpTo5 : Refusal → Type 0
UpTo5 r = number r ≤ 5

lengths-only : (l : List Taken) → EachOnly UpTo5 (length_tests l)
lengths-only [] = tt
lengths-only (f ∷ l) = (lit≤ tt, lengths-only l)

values-only : (l : List Taken) → EachOnly UpTo5 (value_tests Value l)
values-only [] = tt
values-only (f ∷ l) = (λ k. lit≤ tt, values-only l)

state-only : (s : State) (further : List Taken) (run work : List (Test Refusal)) → EachOnly UpTo5 run → EachOnly UpTo5 work
    → EachOnly UpTo5 (state_tests s further run work)
state-only s further run work p q =
    let fields = fields_of s ++ further in (
      lit≤ tt,
      only-append UpTo5 run _ p
          (only-append UpTo5 (length_tests fields) _ (lengths-only fields)
          (only-append UpTo5 work _ q
          (lit≤ tt, only-append UpTo5 (value_tests Value fields) _ (values-only fields) (λ k. lit≤ tt, (λ k. lit≤ tt, tt))))),
    )

step-only : (s : State) (inflow : List ℤ) (room : ℕ) → Only UpTo5 (step_test s inflow room)
unfolding step_test
step-only s inflow room = found-only UpTo5 (step_tests s inflow room) (state-only s (taken s Inflow inflow ∷ []) [] (work_test (cells s) room ∷ []) tt (lit≤ tt, tt))

run_only : (s : State) (inflow : List ℤ) (m room : ℕ) → Only UpTo5 (run_test s inflow m room)
unfolding run_test
run_only s inflow m room = found-only UpTo5 (run_tests s inflow m room) (state-only s (taken s Inflow inflow ∷ []) (run_length_test m ∷ []) (work_test (cells s) room ∷ []) (lit≤ tt, tt) (lit≤ tt, tt))

-- what each of them leaves
refused-work : (r : Refusal) (s : State) (work : List ℤ) → UpTo5 r → RefusedWork r s work (work_left (Some r) s work)
unfolding work_left
refused-work Grid s work h = (h, λ l. refl, λ l. absurd (omega arith))
refused-work Lengths s work h = (h, λ l. refl, λ l. absurd (omega arith))
refused-work Constants s work h = (h, λ l. absurd (omega arith), λ l. refl)
refused-work (Value f k) s work h = (h, λ l. absurd (omega arith), λ l. refl)
refused-work (ClosedEdge f k) s work h = (h, λ l. absurd (omega arith), λ l. refl)
refused-work (Record k) s work h = absurd (omega arith)
refused-work Destination s work h = absurd (omega arith)
refused-work Milliseconds s work h = absurd (omega arith)
refused-work NoSuchCell s work h = absurd (omega arith)

step-work : (s : State) (work : List ℤ) (x : Option Refusal) (o : Outcome) → Only UpTo5 x → StepWork (step_answer_by x o) s work (work_left x s work)
unfolding work_left
step-work s work None (moved t) h = refl
step-work s work None (stuck p y) h = refl
step-work s work (Some r) o h = refused-work r s work h

run-work : (s : State) (work : List ℤ) (x : Option Refusal) (q : Ran) → Only UpTo5 x → RunWork q.answer s work (work_left None s work) → RunWork (run_by x s q).answer s work (work_left x s work)
run-work s work None q h w = w
run-work s work (Some r) q h w = refused-work r s work h

pub work-left : WorkClaim
unfolding step_answer run_of work_left
work-left = record {
  step = λ s s' inflow work work' answer p.
      subst (λ a. StepWork a s work work') (sym p.answers)
      (subst (λ l. StepWork (step_answer s inflow (length work)) s work l) (sym p.clears) (step-work s work (step_test s inflow (length work)) (two_pass s inflow) (step-only s inflow (length work))));
  run = λ s s' inflow work work' m answer p.
      subst (λ a. RunWork a s work work') (sym p.answers)
      (subst (λ l. RunWork (run_of s inflow m (length work)).answer s work l) (sym p.clears)
      (run-work s work (run_test s inflow m (length work)) (run_from m 0 s inflow) (run_only s inflow m (length work)) (ran (λ a. RunWork a s work (work_left None s work)) (λ k. refl) (λ k p f c. refl) m 0 s inflow)));
}
