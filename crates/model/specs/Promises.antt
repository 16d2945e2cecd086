-- The promises of the public calls, which their `ensures` cite. Each says, for any numbers and any lengths, what the call answers
-- (`answers`), what that means in 01's numbers and values (`tells`), and what each lent slice holds afterwards, refused calls too.
-- A prime marks what stands in a lent slice as the call returns. No call changes any other slice.
-- The public calls are the nine of 01 (potential vorticity, tendencies, step, run, two totals, write, read, compare) and the two probes of
-- 02. Their promises are here; that of the step program is in Program.antt. Every other `pub fn` serves a crate above it.
-- A call's tests stand as a list (`…Tests`); its test (`…Test`) is what this list finds first.
use Rattle.std.specs.Prelude.{◌≡◌, Bool, true, false, List, [], ◌∷◌, ◌++◌, ℕ, ◌/◌, ◌%◌, ℤ, length, Float}
use Rattle.std.specs.Prelude.{Option, None, Some}
use Rattle.model.specs.Grid.{filled}
use Rattle.model.specs.State.{State, parameters_of, cells, corners, Fields}
use Rattle.model.specs.Answers.{told_answer, told_probe, told_probe_grid, told_step, told_run, told_total, told_write, told_read, told_compare}
use Rattle.model.specs.Tests.{Test, first_found}
use Rattle.model.specs.Refusals.{taken, cell_test, room_tests, state_tests, timed_tests, call_tests}
use Rattle.model.specs.Scheme.{vorticity, h_tendencies, u_tendencies, v_tendencies}
use Rattle.model.specs.Doubles.{tendency_h, tendency_u, tendency_v, h_doubles, u_doubles, v_doubles, narrow}
use Rattle.model.specs.Totals.{total_depth, energy4}
use Rattle.model.specs.Step.{step_test, step_answer, step_state, run_test, run_of, work_left}
use Rattle.model.specs.Record.{Decoded, accepted, refused, decode, encode, record_length, compare_answer}
use Rattle.model.specs.declared.Timestamp.{Timestamp}
use Rattle.model.specs.declared.Field.TheVariants.{Vorticity}
use Rattle.model.specs.declared.Refusal.{Refusal}
use Rattle.std.specs.Prelude.{Ok, Err}
use Rattle.model.specs.declared.ProbeAnswer.{ProbeAnswer}
use Rattle.model.specs.Answers.{Answer, CompareAnswer, ProbeGridAnswer, ReadAnswer, RunAnswer, StepAnswer, TotalAnswer, WriteAnswer, header}
use Rattle.model.specs.declared.Precision.{Precision}

-- a refusal leaves a destination as it was
abbrev pub left_by : {A : Type 0} → Option Refusal → List A → List A → List A
left_by None new old = new
left_by (Some r) new old = old

abbrev pub answer_of : Option Refusal → Answer
answer_of None = Ok tt
answer_of (Some r) = Err r

-- ---- calls that fill

-- a destination of such a call: the numbers that belong into its first places, and what it holds before
pub record Filling (A : Type 0) : Type 0 where
  pub new : List A
  pub old : List A

infix 70 ◌into◌
abbrev pub ◌into◌ : {A : Type 0} → List A → List A → Filling A
new into old = record { new = new; old = old }

-- what it holds afterwards
abbrev pub filled_by : {A : Type 0} → Option Refusal → ℕ → List (Filling A) → List (List A)
filled_by test m [] = []
filled_by test m (d ∷ l) = left_by test (filled m d.new d.old) d.old ∷ filled_by test m l

-- the promise of such a call: its answer, and m places filled in each destination where its test refuses nothing; the rest as it was
pub record Fills {B A : Type 0} (by : Option Refusal → B) (tell : B → List ℤ) (test : Option Refusal) (m : ℕ) (ds : List (Filling A)) (answer : B) (ds' : List (List A)) : Type 0 where
  pub answers : answer ≡ by test
  pub tells : tell answer ≡ tell (by test)
  pub fills : ds' ≡ filled_by test m ds

-- ---- potential vorticity, into d: 1, 2, 3, 4, 5, 8

abbrev pub vorticity_tests : State → (room : ℕ) → List (Test Refusal)
vorticity_tests s room = call_tests s [] (corners s) (room ∷ [])

unfoldable pub vorticity_test : State → ℕ → Option Refusal
vorticity_test s room = first_found (vorticity_tests s room)

-- It rules out, for instance: q of the neighbour's corner; a wall corner that takes a depth across the wall; a refusal that has filled a part
-- of d.
abbrev pub VorticityPromise : State → (d : List ℤ) (answer : Answer) (d' : List ℤ) → Type 0
VorticityPromise s d answer d' = Fills answer_of told_answer (vorticity_test s (length d)) (corners s) (vorticity s into d ∷ []) answer (d' ∷ [])

-- ---- tendencies, from a lent q into dh (-D), du (Tu) and dv (Tv): 1, 2, 3, 4, 5, 8

abbrev pub tendencies_tests : State → (q : List ℤ) (h u v : ℕ) → List (Test Refusal)
tendencies_tests s q h u v = call_tests s (taken s Vorticity q ∷ []) (cells s) (h ∷ u ∷ v ∷ [])

unfoldable pub tendencies_test : State → List ℤ → ℕ → ℕ → ℕ → Option Refusal
tendencies_test s q h u v = first_found (tendencies_tests s q h u v)

-- It rules out: tendencies of zeros; β's weights from the edge's own cell; 8 told before 4.
abbrev pub TendenciesPromise : State → (q dh du dv : List ℤ) (answer : Answer) (dh' du' dv' : List ℤ) → Type 0
TendenciesPromise s q dh du dv answer dh' du' dv' =
    Fills answer_of told_answer (tendencies_test s q (length dh) (length du) (length dv)) (cells s)
    (h_tendencies s into dh ∷ u_tendencies s q into du ∷ v_tendencies s q into dv ∷ []) answer (dh' ∷ du' ∷ dv' ∷ [])

-- ---- the same in doubles (02, U3)

-- the probe of the cell with index k: 1, 2, 3, 4, 5, 10
abbrev pub probe_tests : State → (q : List ℤ) (k : ℕ) → List (Test Refusal)
probe_tests s q k = state_tests s (taken s Vorticity q ∷ []) [] [] ++ (cell_test (cells s) k ∷ [])

unfoldable pub probe_test : State → List ℤ → ℕ → Option Refusal
probe_test s q k = first_found (probe_tests s q k)

-- exact where the grid is narrow, near where it is not
abbrev pub marked : Bool → (a b c : Float) → ProbeAnswer
marked true a b c = ProbeAnswer.Exact a b c
marked false a b c = ProbeAnswer.Near a b c

abbrev pub probe_answer : Option Refusal → Bool → (a b c : Float) → ProbeAnswer
probe_answer None exact a b c = marked exact a b c
probe_answer (Some r) exact a b c = ProbeAnswer.Refused r

unfoldable pub probe_of : State → List ℤ → ℕ → ProbeAnswer
probe_of s q k =
    let i = k % s.w in
    let j = k / s.w in
    probe_answer (probe_test s q k) (narrow s q) (tendency_h s i j) (tendency_u s q i j) (tendency_v s q i j)

-- It rules out: narrow judged at the probed cell alone; products summed from the right; the double of a whole tendency in its place.
pub record ProbePromise (s : State) (q : List ℤ) (k : ℕ) (answer : ProbeAnswer) : Type 0 where
  pub answers : answer ≡ probe_of s q k
  pub tells : told_probe answer ≡ told_probe (probe_of s q k)

-- the probe of the grid, into dh, du and dv: 1, 2, 3, 4, 5, 8, as the tendency call
abbrev pub precision_of : (narrow : Bool) → Precision
precision_of true = Precision.Exact
precision_of false = Precision.Near

abbrev pub probe_grid_answer : Bool → Option Refusal → ProbeGridAnswer
probe_grid_answer exact None = Ok (precision_of exact)
probe_grid_answer exact (Some r) = Err r

-- It rules out: a closed edge's double that is not 0; near told as exact; 8 told before 4.
abbrev pub ProbeGridPromise : State → (q : List ℤ) (dh du dv : List Float) (answer : ProbeGridAnswer) (dh' du' dv' : List Float) → Type 0
ProbeGridPromise s q dh du dv answer dh' du' dv' =
    Fills (probe_grid_answer (narrow s q)) told_probe_grid (tendencies_test s q (length dh) (length du) (length dv)) (cells s)
    (h_doubles s into dh ∷ u_doubles s q into du ∷ v_doubles s q into dv ∷ []) answer (dh' ∷ du' ∷ dv' ∷ [])

-- ---- step and run: 1 to 6. s is the state before, s' the state after (its parameters, b and barriers are s's).

-- It rules out: a step that returns its state; pass 1 returned; a refusal that leaves pass 1 behind or the work space uncleared.
pub record StepPromise (s : State) (inflow work : List ℤ) (answer : StepAnswer) (s' : State) (work' : List ℤ) : Type 0 where
  pub answers : answer ≡ step_answer s inflow (length work)
  pub tells : told_step answer ≡ told_step (step_answer s inflow (length work))
  pub steps : s' ≡ step_state s inflow (length work)
  pub clears : work' ≡ work_left (step_test s inflow (length work)) s work

-- It rules out: a run that reports steps it never took; one that stops before step one.
pub record RunPromise (s : State) (inflow : List ℤ) (m : ℕ) (work : List ℤ) (answer : RunAnswer) (s' : State) (work' : List ℤ) : Type 0 where
  pub answers : answer ≡ (run_of s inflow m (length work)).answer
  pub tells : told_run answer ≡ told_run (run_of s inflow m (length work)).answer
  pub steps : s' ≡ (run_of s inflow m (length work)).state
  pub clears : work' ≡ work_left (run_test s inflow m (length work)) s work

-- ---- totals: 1 to 5

abbrev pub total_tests : State → List (Test Refusal)
total_tests s = state_tests s [] [] []

unfoldable pub total_test : State → Option Refusal
total_test s = first_found (total_tests s)

abbrev pub total_answer : Option Refusal → ℤ → TotalAnswer
total_answer None x = Ok x
total_answer (Some r) x = Err r

-- They rule out: a total that leaves a cell out; the total of a state that is to be refused.
pub record TotalDepthPromise (s : State) (answer : TotalAnswer) : Type 0 where
  pub answers : answer ≡ total_answer (total_test s) (total_depth s)
  pub tells : told_total answer ≡ told_total (total_answer (total_test s) (total_depth s))

pub record TotalEnergyPromise (s : State) (answer : TotalAnswer) : Type 0 where
  pub answers : answer ≡ total_answer (total_test s) (energy4 s)
  pub tells : told_total answer ≡ told_total (total_answer (total_test s) (energy4 s))

-- ---- record writer, into d: 1, 2, 3, 9, 4, 5, 8

abbrev pub write_tests : State → Timestamp → (room : ℕ) → List (Test Refusal)
write_tests s t room = timed_tests s t ++ room_tests (record_length s) (room ∷ [])

unfoldable pub write_test : State → Timestamp → ℕ → Option Refusal
write_test s t room = first_found (write_tests s t room)

abbrev pub write_answer : ℕ → Option Refusal → WriteAnswer
write_answer m None = Ok m
write_answer m (Some r) = Err r

-- It rules out: a field little-endian; a byte written past the record; milliseconds cut to two bytes before test 9.
abbrev pub WritePromise : State → Timestamp → (d : List ℕ) (answer : WriteAnswer) (d' : List ℕ) → Type 0
WritePromise s t d answer d' =
    Fills (write_answer (record_length s)) told_write (write_test s t (length d)) (record_length s) (encode s t into d ∷ []) answer (d' ∷ [])

-- ---- record reader, into the five fields d: 7, 1, 2, 8, 3, 9, 4, 5

abbrev pub read_answer : Decoded → ReadAnswer
read_answer (accepted s t) = Ok (header (parameters_of s) t)
read_answer (refused r) = Err r

-- the room in the five destinations
abbrev pub rooms_in : Fields → List ℕ
rooms_in d = length d.h ∷ length d.b ∷ length d.u ∷ length d.v ∷ length d.barriers ∷ []

-- a state put into their first w·n places
abbrev pub put : State → Fields → Fields
put s d = record {
  h = filled (cells s) s.h d.h;
  b = filled (cells s) s.b d.b;
  u = filled (cells s) s.u d.u;
  v = filled (cells s) s.v d.v;
  barriers = filled (cells s) s.barriers d.barriers;
}

-- what a reader leaves in them
abbrev pub read_into : Decoded → Fields → Fields
read_into (accepted s t) d = put s d
read_into (refused r) d = d

unfoldable pub read_of : List ℕ → Fields → Decoded
read_of rec d = decode rec (rooms_in d)

-- It rules out: fields filled before test 5; the sign of a velocity lost; a record without tag 8 or 9 refused; barriers left as they were
-- where a record has none.
pub record ReadPromise (rec : List ℕ) (d : Fields) (answer : ReadAnswer) (d' : Fields) : Type 0 where
  pub answers : answer ≡ read_answer (read_of rec d)
  pub tells : told_read answer ≡ told_read (read_answer (read_of rec d))
  pub fills : d' ≡ read_into (read_of rec d) d

-- ---- comparison: 7, 1, 2, 3, 9, 4, 5 of the first record, then of the second

-- It rules out: an answer by timestamp before the second record is tested; same where only the states are the same; a conflict where
-- the milliseconds differ.
pub record ComparePromise (first second : List ℕ) (answer : CompareAnswer) : Type 0 where
  pub answers : answer ≡ compare_answer first second
  pub tells : told_compare answer ≡ told_compare (compare_answer first second)
