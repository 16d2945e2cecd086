-- The two-pass step, the run, and the work space.
use Rattle.std.specs.Prelude.{Bool, cond, List, [], ◌∷◌, ℕ, zero, suc, eqb, ℤ, pos, ◌+ℤ◌, ◌-ℤ◌, ◌*ℤ◌, replicate}
use Rattle.std.specs.Prelude.{Option, None, Some}
use Rattle.model.specs.Numbers.{rnd, tendency_scale, any}
use Rattle.model.specs.Grid.{at, by_cell, filled}
use Rattle.model.specs.State.{State, with_flow, cells}
use Rattle.model.specs.Answers.{number}
use Rattle.model.specs.Tests.{Test, first_found}
use Rattle.model.specs.Refusals.{taken, value_tests, run_length_test, work_length, work_test, state_tests}
use Rattle.model.specs.Scheme.{flux_u, flux_v, to_east, to_north, vorticity, tendency_u, tendency_v}
use Rattle.model.specs.declared.Field.{Field}
use Rattle.model.specs.declared.Field.TheVariants.{Depth, VelocityU, VelocityV, Inflow}
use Rattle.model.specs.declared.Refusal.{Refusal}
use Rattle.std.specs.Prelude.{Ok, Err}
use Rattle.model.specs.Answers.{RunAnswer, StepAnswer, breach}
use Rattle.model.specs.declared.StepError.{StepError}
use Rattle.model.specs.declared.RunError.{RunError}

-- ---- a pass from a base state with the tendencies of a given state

module _ (given : State) where
  -- the flows through a cell's west and south edge, each rounded once
  unfoldable pub X : ℕ → ℕ → ℤ
  X i j = rnd (flux_u given i j) (pos 2 *ℤ given.R)

  unfoldable pub Y : ℕ → ℕ → ℤ
  Y i j = rnd (flux_v given i j) (pos 2 *ℤ given.R)

  module _ (base : State) where
    unfoldable pub new_depth : List ℤ → ℕ → ℕ → ℤ
    new_depth inflow i j =
        at base.w base.h i j
        -ℤ (X (to_east given i) j -ℤ X i j +ℤ Y i (to_north given j) -ℤ Y i j)
        +ℤ at base.w inflow i j

    -- q is the given state's own potential vorticity
    unfoldable pub new_u : List ℤ → ℕ → ℕ → ℤ
    new_u q i j = at base.w base.u i j +ℤ rnd (tendency_u given q i j) (tendency_scale *ℤ given.R)

    unfoldable pub new_v : List ℤ → ℕ → ℕ → ℤ
    new_v q i j = at base.w base.v i j +ℤ rnd (tendency_v given q i j) (tendency_scale *ℤ given.R)

unfoldable pub pass : State → State → List ℤ → State
pass base given inflow =
    let q = vorticity given in
    with_flow base
    (by_cell base.w base.n (new_depth given base inflow))
    (by_cell base.w base.n (new_u given base q))
    (by_cell base.w base.n (new_v given base q))

-- ---- the two-pass step, of a state and an inflow that passed the tests

-- a field and a cell of it
pub record Place : Type 0 where
  pub field : Field
  pub cell : ℕ

abbrev pub place : Field → ℕ → Place
place f k = record { field = f; cell = k }

-- 6: where a pass leaves a bound: h, u, v, then lowest cell
abbrev pub leaves_tests : State → List (Test Place)
leaves_tests s = value_tests place (taken s Depth s.h ∷ taken s VelocityU s.u ∷ taken s VelocityV s.v ∷ [])

unfoldable pub leaves : State → Option Place
leaves s = first_found (leaves_tests s)

-- what a step comes to: the state that it leads to, or the pass and the place at which it leaves a bound
pub data Outcome : Type 0 where
  moved : State → Outcome
  stuck : (pass : ℕ) → Place → Outcome

abbrev pub passed : Option Place → ℕ → Outcome → Outcome
passed None p later = later
passed (Some x) p later = stuck p x

-- the base of both passes is the start state s. Pass 1 uses the start state, pass 2 uses pass 1's result.
unfoldable pub second : State → State → List ℤ → Outcome
second s first inflow = let r = pass s first inflow in passed (leaves r) 2 (moved r)

unfoldable pub two_pass : State → List ℤ → Outcome
two_pass s inflow = let r = pass s s inflow in passed (leaves r) 1 (second s r inflow)

-- ---- the step call; `room` is the length of its work space

-- 1 to 5, with the inflow and the work space
abbrev pub step_tests : State → (inflow : List ℤ) (room : ℕ) → List (Test Refusal)
step_tests s inflow room = state_tests s (taken s Inflow inflow ∷ []) [] (work_test (cells s) room ∷ [])

unfoldable pub step_test : State → List ℤ → ℕ → Option Refusal
step_test s inflow room = first_found (step_tests s inflow room)

abbrev pub outcome_answer : Outcome → StepAnswer
outcome_answer (moved t) = Ok tt
outcome_answer (stuck p x) = Err (StepError.OutOfBounds (breach p x.field x.cell))

-- refusal 6 leaves the state before that step
abbrev pub after_step : State → Outcome → State
after_step s (moved t) = t
after_step s (stuck p x) = s

abbrev pub step_answer_by : Option Refusal → Outcome → StepAnswer
step_answer_by None o = outcome_answer o
step_answer_by (Some r) o = Err (StepError.Refused r)

abbrev pub step_state_by : Option Refusal → State → Outcome → State
step_state_by None s o = after_step s o
step_state_by (Some r) s o = s

-- the answer of a step, and the state that it leaves
unfoldable pub step_answer : State → List ℤ → ℕ → StepAnswer
step_answer s inflow room = step_answer_by (step_test s inflow room) (two_pass s inflow)

unfoldable pub step_state : State → List ℤ → ℕ → State
step_state s inflow room = step_state_by (step_test s inflow room) s (two_pass s inflow)

-- ---- the run call: the step again and again with the same inflow, until its length is reached or the next step is refused with 6

pub record Ran : Type 0 where
  pub answer : RunAnswer
  pub state : State

-- by what the next step comes to, after `done` steps
abbrev pub run_on : (State → Ran) → ℕ → State → Outcome → Ran
run_on more done s (moved t) = more t
run_on more done s (stuck p x) = record { answer = Err (RunError.Stopped done (breach p x.field x.cell)); state = s }

-- m steps more, from a state after `done` steps
unfoldable pub run_from : ℕ → ℕ → State → List ℤ → Ran
run_from zero done s inflow = record { answer = Ok done; state = s }
run_from (suc m) done s inflow = run_on (λ t. run_from m (suc done) t inflow) done s (two_pass s inflow)

abbrev pub run_tests : State → (inflow : List ℤ) (m room : ℕ) → List (Test Refusal)
run_tests s inflow m room = state_tests s (taken s Inflow inflow ∷ []) (run_length_test m ∷ []) (work_test (cells s) room ∷ [])

unfoldable pub run_test : State → List ℤ → ℕ → ℕ → Option Refusal
run_test s inflow m room = first_found (run_tests s inflow m room)

abbrev pub run_by : Option Refusal → State → Ran → Ran
run_by None s r = r
run_by (Some x) s r = record { answer = Err (RunError.Refused x); state = s }

-- a run of m steps
unfoldable pub run_of : State → List ℤ → ℕ → ℕ → Ran
run_of s inflow m room = let r = run_from m 0 s inflow in run_by (run_test s inflow m room) s r

-- ---- the work space: once the length test has passed, its first 8w·n numbers are zero after the call, accepted or not

-- the refusals that leave everything as it was, by the table's last column; step and run know 1 and 2 alone of them. All others, and
-- those added later, leave all but the work space
abbrev pub leaves_all : Refusal → Bool
leaves_all r = any (eqb (number r)) (1 ∷ 2 ∷ 7 ∷ 8 ∷ [])

abbrev pub cleared : State → List ℤ → List ℤ
cleared s work = filled (work_length s) (replicate (work_length s) (pos 0)) work

unfoldable pub work_left : Option Refusal → State → List ℤ → List ℤ
work_left None s work = cleared s work
work_left (Some r) s work = cond (leaves_all r) work (cleared s work)
