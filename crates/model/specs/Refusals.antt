-- The table of refusals, as tests: 01's 1 to 5 and 8, and 02's 9 and 10. Test 6 is in Step.antt, test 7 in Record.antt.
use Rattle.std.specs.Prelude.{Bool, not, ◌&&◌, List, [], ◌∷◌, ◌++◌, ℕ, ◌*◌, ◌/◌, ◌%◌, eqb, leb, ltb, ℤ, pos, length, get_or}
use Rattle.model.specs.Numbers.{Limits, within, eqℤ, gravity_limits, coriolis_limits, ratio_limits, longest_side, longest_run, most_milliseconds}
use Rattle.model.specs.Fields.{limits_of, narrow_of}
use Rattle.model.specs.State.{State, parameters_of, cells, corners, barrier_numbers, known, boundary_of, closed_west, closed_south}
use Rattle.model.specs.Tests.{Test, asks, seeks}
use Rattle.model.specs.declared.Parameters.{Parameters}
use Rattle.model.specs.declared.Timestamp.{Timestamp}
use Rattle.model.specs.declared.Field.{Field}
use Rattle.model.specs.declared.Field.TheVariants.{Depth, Bottom, VelocityU, VelocityV, Vorticity, Inflow, Barriers}
use Rattle.model.specs.declared.Refusal.{Refusal}
use Rattle.model.specs.declared.Refusal.TheVariants.{Grid, Lengths, Constants, Value, ClosedEdge, Destination, Milliseconds, NoSuchCell}

-- ---- fields that a call takes

-- a field: its name in a refusal, how many numbers it must have, their limits, and the numbers
pub record Taken : Type 0 where
  pub field : Field
  pub count : ℕ
  pub limits : Limits
  pub numbers : List ℤ

-- how many numbers a field has: q one a corner, every other field one a cell
abbrev pub count_of : State → Field → ℕ
count_of s Depth = cells s
count_of s Bottom = cells s
count_of s VelocityU = cells s
count_of s VelocityV = cells s
count_of s Vorticity = corners s
count_of s Inflow = cells s
count_of s Barriers = cells s

-- m numbers of a field, with 01's bounds; and as many as it has in a state
abbrev pub taken_of : ℕ → Field → List ℤ → Taken
taken_of m f numbers = record { field = f; count = m; limits = limits_of f; numbers = numbers }

abbrev pub taken : State → Field → List ℤ → Taken
taken s f numbers = taken_of (count_of s f) f numbers

-- the same with 02's narrow bounds
abbrev pub narrowed : State → Field → List ℤ → Taken
narrowed s f numbers = record { field = f; count = count_of s f; limits = narrow_of f; numbers = numbers }

-- the state's own, in 01's order, and 02's barriers; a call takes others after these
abbrev pub fields_of : State → List Taken
fields_of s =
    taken s Depth s.h
    ∷ taken s Bottom s.b
    ∷ taken s VelocityU s.u
    ∷ taken s VelocityV s.v
    ∷ taken s Barriers (barrier_numbers s)
    ∷ []

-- ---- the table's tests

-- 1: w, n or kind unknown
unfoldable pub grid_known : Parameters → Bool
grid_known p = leb 1 p.w && leb p.w longest_side && leb 1 p.n && leb p.n longest_side && known (boundary_of p.kind)

abbrev pub grid_test : Parameters → Test Refusal
grid_test p = asks (grid_known p) Grid

-- 1: a run too long
abbrev pub run_length_test : ℕ → Test Refusal
run_length_test steps = asks (leb steps longest_run) Grid

-- 2: a field has other than m numbers
abbrev pub length_test : (m count : ℕ) → Test Refusal
length_test m count = asks (eqb count m) Lengths

abbrev pub length_tests : List Taken → List (Test Refusal)
length_tests [] = []
length_tests (f ∷ l) = length_test f.count (length f.numbers) ∷ length_tests l

-- 2: the work space of a step of m cells is short
abbrev pub work_for : ℕ → ℕ
work_for m = 8 * m

abbrev pub work_length : State → ℕ
work_length s = work_for (cells s)

abbrev pub work_test : (m room : ℕ) → Test Refusal
work_test m room = asks (leb (work_for m) room) Lengths

-- 3: G, c or R outside
unfoldable pub constants_within : Parameters → Bool
constants_within p = within gravity_limits p.g && within coriolis_limits p.c && within ratio_limits p.r

abbrev pub constants_test : Parameters → Test Refusal
constants_test p = asks (constants_within p) Constants

-- 9: milliseconds above 999
abbrev pub time_test : Timestamp → Test Refusal
time_test t = asks (leb t.milliseconds most_milliseconds) Milliseconds

-- 4: a value outside. What is found names the field and the cell; test 6 seeks the same and finds a place
abbrev pub outside : Taken → ℕ → Bool
outside f k = not (within f.limits (get_or f.numbers k (pos 0)))

abbrev pub value_test : {R : Type 0} → (Field → ℕ → R) → Taken → Test R
value_test r f = seeks (outside f) f.count (r f.field)

abbrev pub value_tests : {R : Type 0} → (Field → ℕ → R) → List Taken → List (Test R)
value_tests r [] = []
value_tests r (f ∷ l) = value_test r f ∷ value_tests r l

-- 5: velocity on a closed edge, u before v
abbrev pub moving : State → (State → ℕ → ℕ → Bool) → List ℤ → ℕ → Bool
moving s closed f k = closed s (k % s.w) (k / s.w) && not (eqℤ (get_or f k (pos 0)) (pos 0))

abbrev pub edge_tests : State → List (Test Refusal)
edge_tests s =
    seeks (moving s closed_west s.u) (cells s) (ClosedEdge VelocityU)
    ∷ seeks (moving s closed_south s.v) (cells s) (ClosedEdge VelocityV)
    ∷ []

-- 8: a lent destination is too short for m numbers
abbrev pub room_test : (m room : ℕ) → Test Refusal
room_test m room = asks (leb m room) Destination

abbrev pub room_tests : ℕ → List ℕ → List (Test Refusal)
room_tests m [] = []
room_tests m (room ∷ l) = room_test m room ∷ room_tests m l

-- 10: a probed cell is not one of m cells
abbrev pub cell_test : (m k : ℕ) → Test Refusal
cell_test m k = asks (ltb k m) NoSuchCell

-- ---- in order

-- tests 3 to 5
abbrev pub content_tests : State → List Taken → List (Test Refusal)
content_tests s fields = constants_test (parameters_of s) ∷ (value_tests Value fields ++ edge_tests s)

-- the same with a timestamp: 9 stands straight after 3
abbrev pub timed_content_tests : State → Timestamp → List Taken → List (Test Refusal)
timed_content_tests s t fields = constants_test (parameters_of s) ∷ time_test t ∷ (value_tests Value fields ++ edge_tests s)

-- tests 1 to 5 of a state and of further fields; `run` and `work` are the tests of what else falls under 1 and 2
abbrev pub state_tests : State → List Taken → (run work : List (Test Refusal)) → List (Test Refusal)
state_tests s further run work =
    let fields = fields_of s ++ further in
    grid_test (parameters_of s) ∷ (run ++ (length_tests fields ++ (work ++ content_tests s fields)))

-- tests 1, 2, 3, 9, 4, 5 of a state and its timestamp
abbrev pub timed_tests : State → Timestamp → List (Test Refusal)
timed_tests s t = grid_test (parameters_of s) ∷ (length_tests (fields_of s) ++ timed_content_tests s t (fields_of s))

-- tests 1 to 5, then 8, of a call that fills destinations of m numbers
abbrev pub call_tests : State → List Taken → ℕ → (rooms : List ℕ) → List (Test Refusal)
call_tests s further m rooms = state_tests s further [] [] ++ room_tests m rooms
