-- From the tests of a run, as the code makes them, and what it has come to, to its promise; and from a run of one to a step. Assumes
-- nothing.
use mathlib.Core.Path.{◌≡◌, refl, sym, ap, ◌∙◌}
use mathlib.Core.Bool.{true, false}
use mathlib.Core.List.{List, [], ◌∷◌, ◌++◌}
use Rattle.std.specs.Prelude.{Option, None, Some}
use Prim.Native.Nat.{ℕ, ◌*◌, ◌≤◌}
use lib.IntN.{ℤ, pos}
use lib.ListN.{length, replicate, drop}
use Rattle.std.proofs.Common.{drop_at}
use Rattle.model.specs.Grid.{filled}
use Rattle.model.specs.State.{State, parameters_of, cells}
use Rattle.model.specs.Answers.{told_step, told_run}
use Rattle.model.specs.Tests.{Test, ◌then◌, first_found}
use Rattle.model.specs.Refusals.{taken, fields_of, work_length, grid_test, run_length_test, length_tests, work_test, content_tests}
use Rattle.model.specs.Step.{Ran, Outcome, moved, stuck, two_pass, leaves_all, step_test, step_answer, step_state, step_answer_by, step_state_by, run_test, run_by, run_of, run_from, run_on, work_left}
use Rattle.model.specs.Promises.{answer_of, StepPromise, RunPromise}
use Rattle.model.specs.Claims.{EachPasses, StepTaken}
use Rattle.model.specs.declared.Field.TheVariants.{Inflow}
use Rattle.model.specs.declared.Refusal.{Refusal}
use Rattle.std.specs.Prelude.{Ok, Err}
use Rattle.model.specs.Answers.{RunAnswer, StepAnswer}
use Rattle.model.specs.declared.RunError.{RunError}
use Rattle.theorems.specs.Truth.{le_iff, differ}
use Rattle.theorems.specs.TestLaws.{passes, found-append, Only, EachOnly, found-only}
use Rattle.theorems.specs.Limits.{run-taken}
use Rattle.tests.specs.Links.{accepted-none, refused-some}
use Rattle.step_run.specs.AsStep.{as_step}

-- ---- a refusal that clears the work space comes after the tests of the grid and of the work space

abbrev Leaves : Refusal → Type 0
Leaves r = leaves_all r ≡ true

-- tests a that refuse only with what leaves everything, before tests b
not_there : (x y : Option Refusal) (r : Refusal) → Only Leaves x → x then y ≡ Some r → leaves_all r ≡ false → x ≡ None
not_there None y r l e f = refl
not_there (Some z) y r l e f = let h : z ≡ r = cc e in differ (cc (sym l ∙ ap leaves_all h ∙ f))

passed-before : (a b : List (Test Refusal)) (r : Refusal) → EachOnly Leaves a → first_found (a ++ b) ≡ Some r → leaves_all r ≡ false → EachPasses a
passed-before a b r l e f = (passes a).0 (not_there (first_found a) (first_found b) r (found-only Leaves a l) (sym (found-append a b) ∙ e) f)

-- so the work space has its numbers
abbrev Room : State → List ℤ → Type 0
Room s work = 8 * cells s ≤ length work

-- ---- what is cleared

-- past the part x that a run has used, the work space is as it was
cleared-all : (s : State) (work x : List ℤ) {d : List ℤ} → length x ≡ 8 * cells s → d ≡ filled (8 * cells s) (replicate (8 * cells s) (pos 0)) (x ++ drop (8 * cells s) work) → d ≡ work_left None s work
unfolding work_left
cleared-all s work x l e = e ∙ ap (λ y. replicate (8 * cells s) (pos 0) ++ y) (drop_at x (drop (8 * cells s) work) (8 * cells s) l)

-- ---- the run

module _ (s : State) (inflow : List ℤ) (m : ℕ) (work : List ℤ) where
  abbrev test : Option Refusal
  test = run_test s inflow m (length work)

  abbrev ran : Ran
  ran = run_from m 0 s inflow

  pub run-passed : (Ok tt) ≡ answer_of test → StepTaken s inflow (length work)
  run-passed e = ((run-taken s inflow m (length work)).0 (accepted-none test e)).0

  pub run-done : {answer : RunAnswer} {t : State} (x : List ℤ) {d : List ℤ} → Ok tt ≡ answer_of test → answer ≡ ran.answer → t ≡ ran.state → length x ≡ 8 * cells s
      → d ≡ filled (8 * cells s) (replicate (8 * cells s) (pos 0)) (x ++ drop (8 * cells s) work) → RunPromise s inflow m work answer t d
  unfolding run_of
  run-done x e a b r f =
      let o = accepted-none test e in
      let answers = a ∙ sym (ap (λ x. (run_by x s ran).answer) o) in
      record { answers = answers; tells = ap told_run answers; steps = b ∙ sym (ap (λ x. (run_by x s ran).state) o); clears = cleared-all s work x r f ∙ sym (ap (λ x. work_left x s work) o) }

  pub run-refused : {r : Refusal} {d : List ℤ} → Err r ≡ answer_of test → d ≡ work_left (Some r) s work → RunPromise s inflow m work (Err (RunError.Refused r)) s d
  unfolding run_of
  run-refused {r} e f =
      let o = refused-some test r e in
      let answers = sym (ap (λ x. (run_by x s ran).answer) o) in
      record { answers = answers; tells = ap told_run answers; steps = sym (ap (λ x. (run_by x s ran).state) o); clears = f ∙ sym (ap (λ x. work_left x s work) o) }

  pub run_room : {r : Refusal} → Err r ≡ answer_of test → leaves_all r ≡ false → Room s work
  unfolding run_test
  run_room {r} e f =
      let fields = fields_of s ++ (taken s Inflow inflow ∷ []) in
      let first = grid_test (parameters_of s) ∷ run_length_test m ∷ (length_tests fields ++ (work_test (cells s) (length work) ∷ [])) in
      let p = passed-before first (content_tests s fields) r (refl, (refl, (refl, (refl, (refl, (refl, (refl, (refl, (refl, tt))))))))) (refused-some test r e) f in
      (le_iff (work_length s) (length work)).0 p.1.1.1.1.1.1.1.1.0

-- ---- a step is a run of one

module _ (s : State) (inflow : List ℤ) where
  one_answer : (o : Option Refusal) (x : Outcome) → step_answer_by o x ≡ as_step (run_by o s (run_on (λ t. run_from 0 1 t inflow) 0 s x)).answer
  unfolding run_from
  one_answer None (moved t) = refl
  one_answer None (stuck p x) = refl
  one_answer (Some r) x = refl

  one_state : (o : Option Refusal) (x : Outcome) → step_state_by o s x ≡ (run_by o s (run_on (λ t. run_from 0 1 t inflow) 0 s x)).state
  unfolding run_from
  one_state None (moved t) = refl
  one_state None (stuck p x) = refl
  one_state (Some r) x = refl

  pub as_one : {work work' : List ℤ} {t : State} {a : RunAnswer} {x : StepAnswer} → RunPromise s inflow 1 work a t work' → x ≡ as_step a → StepPromise s inflow work x t work'
  unfolding step_answer step_state step_test run_of run_test run_from
  as_one {work} p e =
      let o = step_test s inflow (length work) in
      let answers = e ∙ ap as_step p.answers ∙ sym (one_answer o (two_pass s inflow)) in
      record { answers = answers; tells = ap told_step answers; steps = p.steps ∙ sym (one_state o (two_pass s inflow)); clears = p.clears }
