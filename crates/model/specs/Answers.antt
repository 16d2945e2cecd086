-- What each answer means: the number of 01 or 02, then the values returned with it in 01's order, as one list. 0 stands for no refusal.
-- 01 leaves open how a comparison's answer and the refused record are numbered: the numbers here are ours.
use Rattle.std.specs.Prelude.{List, [], ◌∷◌, ◌++◌, map, ℕ, ℤ, pos, get_or, drop, Float}
use Rattle.model.specs.Fields.{field_number}
use Rattle.model.specs.declared.Refusal.{Refusal}
use Rattle.model.specs.declared.Refusal.TheVariants.{Grid, Lengths, Constants, Value, ClosedEdge, Record, Destination, Milliseconds, NoSuchCell}
use Rattle.std.specs.Prelude.{Result, Ok, Err}
use Rattle.model.specs.declared.Parameters.{Parameters}
use Rattle.model.specs.declared.Timestamp.{Timestamp}
use Rattle.model.specs.declared.Field.{Field}
use Rattle.model.specs.declared.Breach.{Breach}
use Rattle.model.specs.declared.Header.{Header}
use Rattle.model.specs.declared.Comparison.{Comparison}
use Rattle.model.specs.declared.Comparison.TheVariants.{Same, FirstNewer, SecondNewer, Conflict}
use Rattle.model.specs.declared.CompareError.{CompareError}
use Rattle.model.specs.declared.CompareError.TheVariants.{First, Second}
use Rattle.model.specs.declared.StepError.{StepError}
use Rattle.model.specs.declared.RunError.{RunError}
use Rattle.model.specs.declared.ProbeAnswer.{ProbeAnswer}
use Rattle.model.specs.declared.Precision.{Precision}

-- ---- what each call answers

-- of tests, and of a call that fills: nothing, or the first refusal
abbrev pub Answer : Type 0
Answer = Result Unit Refusal

abbrev pub ProbeGridAnswer : Type 0
ProbeGridAnswer = Result Precision Refusal

abbrev pub StepAnswer : Type 0
StepAnswer = Result Unit StepError

-- the number of steps done
abbrev pub RunAnswer : Type 0
RunAnswer = Result ℕ RunError

abbrev pub TotalAnswer : Type 0
TotalAnswer = Result ℤ Refusal

-- the number of bytes written
abbrev pub WriteAnswer : Type 0
WriteAnswer = Result ℕ Refusal

abbrev pub ReadAnswer : Type 0
ReadAnswer = Result Header Refusal

abbrev pub CompareAnswer : Type 0
CompareAnswer = Result Comparison CompareError

-- by their parts
abbrev pub breach : ℕ → Field → ℕ → Breach
breach p f k = record { pass = p; field = f; cell = k }

abbrev pub header : Parameters → Timestamp → Header
header p t = record { parameters = p; timestamp = t }

-- a step is a run of one: why it is not done, by why that run is not finished
abbrev pub step_error : RunError → StepError
step_error (RunError.Refused r) = StepError.Refused r
step_error (RunError.Stopped m x) = StepError.OutOfBounds x

-- ---- refusals: the number, then what is told with it; one line for each

abbrev pub refusal_numbers : Refusal → List ℕ
refusal_numbers Grid = 1 ∷ []
refusal_numbers Lengths = 2 ∷ []
refusal_numbers Constants = 3 ∷ []
refusal_numbers (Value f k) = 4 ∷ field_number f ∷ k ∷ []
refusal_numbers (ClosedEdge f k) = 5 ∷ field_number f ∷ k ∷ []
refusal_numbers (Record k) = 7 ∷ k ∷ []
refusal_numbers Destination = 8 ∷ []
refusal_numbers Milliseconds = 9 ∷ []
refusal_numbers NoSuchCell = 10 ∷ []

abbrev pub number : Refusal → ℕ
number r = get_or (refusal_numbers r) 0 0

abbrev pub values : Refusal → List ℕ
values r = drop 1 (refusal_numbers r)

-- ---- whole answers

abbrev whole : List ℕ → List ℤ
whole l = map pos l

-- `…Numbers` are naturals, which is what a caller of the C interface reads
abbrev pub told : Refusal → List ℤ
told r = whole (refusal_numbers r)

-- of the tests, and of a call that fills
abbrev pub answer_numbers : Answer → List ℕ
answer_numbers (Ok x) = 0 ∷ []
answer_numbers (Err r) = refusal_numbers r

abbrev pub told_answer : Answer → List ℤ
told_answer a = whole (answer_numbers a)

-- of a probe: after the 0, 0 for exact and 1 for near. Its doubles stand beside the numbers
abbrev pub precision_numbers : Precision → List ℕ
precision_numbers Precision.Exact = 0 ∷ 0 ∷ []
precision_numbers Precision.Near = 0 ∷ 1 ∷ []

abbrev pub probe_numbers : ProbeAnswer → List ℕ
probe_numbers (ProbeAnswer.Exact a b c) = 0 ∷ 0 ∷ []
probe_numbers (ProbeAnswer.Near a b c) = 0 ∷ 1 ∷ []
probe_numbers (ProbeAnswer.Refused r) = refusal_numbers r

abbrev pub doubles_in : ProbeAnswer → List Float
doubles_in (ProbeAnswer.Exact a b c) = a ∷ b ∷ c ∷ []
doubles_in (ProbeAnswer.Near a b c) = a ∷ b ∷ c ∷ []
doubles_in (ProbeAnswer.Refused r) = []

abbrev pub told_probe : ProbeAnswer → List ℤ × List Float
told_probe a = (whole (probe_numbers a), doubles_in a)

abbrev pub probe_grid_numbers : ProbeGridAnswer → List ℕ
probe_grid_numbers (Ok x) = precision_numbers x
probe_grid_numbers (Err r) = refusal_numbers r

abbrev pub told_probe_grid : ProbeGridAnswer → List ℤ
told_probe_grid a = whole (probe_grid_numbers a)

-- refusal 6: pass, field, cell
abbrev pub step_numbers : StepAnswer → List ℕ
step_numbers (Ok x) = 0 ∷ []
step_numbers (Err (StepError.Refused r)) = refusal_numbers r
step_numbers (Err (StepError.OutOfBounds x)) = 6 ∷ x.pass ∷ field_number x.field ∷ x.cell ∷ []

abbrev pub told_step : StepAnswer → List ℤ
told_step a = whole (step_numbers a)

-- the number of steps done; beside it the refusal 6 that stopped the run
abbrev pub run_numbers : RunAnswer → List ℕ
run_numbers (Ok m) = 0 ∷ m ∷ []
run_numbers (Err (RunError.Refused r)) = refusal_numbers r
run_numbers (Err (RunError.Stopped m x)) = 6 ∷ x.pass ∷ field_number x.field ∷ x.cell ∷ m ∷ []

abbrev pub told_run : RunAnswer → List ℤ
told_run a = whole (run_numbers a)

-- a total has a sign, so a caller of the C interface reads it beside the numbers
abbrev pub total_numbers : TotalAnswer → List ℕ
total_numbers (Ok x) = 0 ∷ []
total_numbers (Err r) = refusal_numbers r

abbrev pub total_in : TotalAnswer → List ℤ
total_in (Ok x) = x ∷ []
total_in (Err r) = []

abbrev pub told_total : TotalAnswer → List ℤ
told_total a = whole (total_numbers a) ++ total_in a

abbrev pub write_numbers : WriteAnswer → List ℕ
write_numbers (Ok m) = 0 ∷ m ∷ []
write_numbers (Err r) = refusal_numbers r

abbrev pub told_write : WriteAnswer → List ℤ
told_write a = whole (write_numbers a)

-- w, n, kind, seconds and milliseconds; G, c and R have a sign, so they stand beside the numbers, as a total does
abbrev pub read_numbers : ReadAnswer → List ℕ
read_numbers (Ok x) =
    0 ∷ x.parameters.w ∷ x.parameters.n ∷ x.parameters.kind ∷ x.timestamp.seconds ∷ x.timestamp.milliseconds ∷ []
read_numbers (Err r) = refusal_numbers r

abbrev pub constants_in : ReadAnswer → List ℤ
constants_in (Ok x) = x.parameters.g ∷ x.parameters.c ∷ x.parameters.r ∷ []
constants_in (Err r) = []

-- in 01's order: w, n, kind, G, c, R and the timestamp; its milliseconds come last
abbrev pub told_read : ReadAnswer → List ℤ
told_read (Ok x) =
    let p = x.parameters in
    let t = x.timestamp in
    pos 0 ∷ pos p.w ∷ pos p.n ∷ pos p.kind ∷ p.g ∷ p.c ∷ p.r ∷ pos t.seconds ∷ pos t.milliseconds ∷ []
told_read (Err r) = told r

-- which record is refused stands straight after the number
abbrev pub refusal_numbers_of : ℕ → Refusal → List ℕ
refusal_numbers_of k r = number r ∷ k ∷ values r

abbrev pub compare_numbers : CompareAnswer → List ℕ
compare_numbers (Ok Same) = 0 ∷ 0 ∷ []
compare_numbers (Ok FirstNewer) = 0 ∷ 1 ∷ []
compare_numbers (Ok SecondNewer) = 0 ∷ 2 ∷ []
compare_numbers (Ok Conflict) = 0 ∷ 3 ∷ []
compare_numbers (Err (First r)) = refusal_numbers_of 1 r
compare_numbers (Err (Second r)) = refusal_numbers_of 2 r

abbrev pub told_compare : CompareAnswer → List ℤ
told_compare a = whole (compare_numbers a)
