-- The step program: what it prints for the bytes on its standard input.
use Rattle.std.specs.Prelude.{◌≡◌, cond, List, [], ◌∷◌, ◌++◌, ℕ, zero, suc, ◌+◌, ◌/◌, ◌%◌, min, leb, ltb, ℤ, pos, negsuc, length, get_or, replicate, take}
use Prim.Native.Char.{code}
use Prim.Native.String.{String, [] as end, ◌∷◌ as char}
use Rattle.std.proofs.lemmas.List.Edits.{sets}
use Rattle.model.specs.Grid.{tabulate}
use Rattle.model.specs.State.{State, cells, Fields}
use Rattle.model.specs.Answers.{number}
use Rattle.model.specs.Totals.{total_depth}
use Rattle.model.specs.Step.{step_test, step_answer, step_state, work_left}
use Rattle.model.specs.Record.{Decoded, accepted, refused, decode}
use Rattle.model.specs.Promises.{rooms_in, put}
use Rattle.model.specs.declared.Refusal.TheVariants.{Record}
use Rattle.std.specs.Prelude.{Ok, Err}
use Rattle.model.specs.Answers.{StepAnswer}
use Rattle.model.specs.declared.StepError.{StepError}

-- ---- text, as bytes

abbrev pub text : String → List ℕ
text end = []
text (char c t) = code c ∷ text t

-- the decimal digits of x in front of l; at most m digits
abbrev pub digits_onto : ℕ → ℕ → List ℕ → List ℕ
digits_onto zero x l = l
digits_onto (suc m) x l = let d = code "0" + x % 10 in cond (ltb x 10) (d ∷ l) (digits_onto m (x / 10) (d ∷ l))

abbrev pub decimal : ℤ → List ℕ
decimal (pos x) = digits_onto (suc x) x []
decimal (negsuc x) = code "-" ∷ digits_onto (suc (suc x)) (suc x) []

-- words parted by single spaces, and the end of the line
abbrev pub line : List (List ℕ) → List ℕ
line [] = code "\n" ∷ []
line (word ∷ []) = word ++ (code "\n" ∷ [])
line (word ∷ more ∷ words) = word ++ (code " " ∷ line (more ∷ words))

-- ---- what is printed

abbrev pub refused_line : ℕ → List ℕ
refused_line k = line (text "refused" ∷ decimal (pos k) ∷ [])

abbrev pub total_line : ℤ → List ℕ
total_line x = line (text "total" ∷ decimal x ∷ [])

-- i, j, h, u, v of the cell with index k, on a grid of w columns
abbrev pub cell_line : ℕ → List ℤ → List ℤ → List ℤ → ℕ → List ℕ
cell_line w h u v k =
    line (decimal (pos (k % w)) ∷ decimal (pos (k / w)) ∷ decimal (get_or h k (pos 0)) ∷ decimal (get_or u k (pos 0)) ∷ decimal (get_or v k (pos 0)) ∷ [])

abbrev pub lines : List (List ℕ) → List ℕ
lines [] = []
lines (l ∷ more) = l ++ lines more

-- total depth, then each cell
abbrev pub state_lines : State → List ℕ
state_lines s = lines (total_line (total_depth s) ∷ tabulate (cells s) (cell_line s.w s.h s.u s.v))

abbrev pub step_lines : StepAnswer → State → List ℕ
step_lines (Ok x) s = state_lines s
step_lines (Err (StepError.Refused r)) s = refused_line (number r)
step_lines (Err (StepError.OutOfBounds x)) s = refused_line 6

-- ---- a record read and stepped, over any lent arrays

-- an input of this many bytes, or more, is a 7
abbrev pub input_limit : ℕ
input_limit = 65536

-- ... before anything is read of it. The program prints a number alone, so nobody is told an offset. `rooms` are the lengths of the fields.
unfoldable pub program_read : List ℕ → List ℕ → Decoded
program_read input rooms = cond (leb input_limit (length input)) (refused (Record (length input))) (decode input rooms)

-- what its step takes of a lent inflow: the first w·n numbers
abbrev pub inflow_for : State → List ℤ → List ℤ
inflow_for s inflow = take (cells s) inflow

-- `room` is the length of the work space
abbrev pub stepped_lines : List ℤ → ℕ → Decoded → List ℕ
stepped_lines inflow room (refused r) = refused_line (number r)
stepped_lines inflow room (accepted s t) = step_lines (step_answer s (inflow_for s inflow) room) (step_state s (inflow_for s inflow) room)

abbrev pub stepped_work : List ℤ → List ℤ → Decoded → List ℤ
stepped_work inflow work (refused r) = work
stepped_work inflow work (accepted s t) = work_left (step_test s (inflow_for s inflow) (length work)) s work

-- a text is put into a lent slice, as far as there is room, and its bytes there are counted
pub record Printed (printed entry : List ℕ) (r : ℕ) (exit : List ℕ) : Type 0 where
  pub counts : r ≡ min (length printed) (length entry)
  pub holds : exit ≡ sets entry 0 printed

-- the fields d have the state after its step
abbrev pub stepped_into : List ℤ → List ℤ → Decoded → Fields → Fields
stepped_into inflow work (refused r) d = d
stepped_into inflow work (accepted s t) d = put (step_state s (inflow_for s inflow) (length work)) d

-- by what is read. A prime marks what stands in a lent slice as the call returns.
pub record ProgramLeaves (read : Decoded) (d : Fields) (inflow work : List ℤ) (out : List ℕ) (answer : ℕ) (d' : Fields) (work' : List ℤ) (out' : List ℕ) : Type 0 where
  pub prints : Printed (stepped_lines inflow (length work) read) out answer out'
  pub fills : d' ≡ stepped_into inflow work read d
  pub clears : work' ≡ stepped_work inflow work read

-- It rules out, for instance: the total before the step; a refused step that has printed cells; a grid cut to the room lent.
abbrev pub ProgramPromise : List ℕ → (d : Fields) (inflow work : List ℤ) (out : List ℕ) (answer : ℕ) (d' : Fields) (work' : List ℤ) (out' : List ℕ) → Type 0
ProgramPromise input d inflow work out answer d' work' out' =
    ProgramLeaves (program_read input (rooms_in d)) d inflow work out answer d' work' out'

-- ---- the program's own arrays: fields for up to 1,024 cells, no inflow, and room for what it prints

abbrev pub program_cells : ℕ
program_cells = 1024

abbrev pub program_work : ℕ
program_work = 8192

abbrev pub output_room : ℕ
output_room = 32768

unfoldable pub program_output : List ℕ → List ℕ
program_output input =
    stepped_lines (replicate program_cells (pos 0)) program_work (program_read input (replicate 5 program_cells))
