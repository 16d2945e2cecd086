-- The theorems, as statements: of the promises of the public calls, and of the definitions behind them. The crate `theorems` proves each.
use Rattle.std.specs.Prelude.{◌≡◌, Bool, false, ◌↔◌, ◌⊎◌, List, [], ◌∷◌, ◌++◌, ℕ, zero, suc, ◌+◌, ◌-◌, ◌*◌, ◌^◌, ◌≤◌, ◌<◌, T, ℤ, pos, neg_ℤ, nat_abs, ◌+ℤ◌, ◌-ℤ◌, ◌*ℤ◌, length, get_or, take, drop, replicate, ◌≤ℤ◌, Float}
use Rattle.std.specs.Prelude.{Option, None, Some}
use Rattle.std.specs.Float.{nan}
use Rattle.model.specs.Numbers.{rnd, vorticity_limits, inflow_limits, longest_run, most_milliseconds, tendency_scale, divergence_scale}
use Rattle.model.specs.Grid.{at, by_cell, first_from}
use Rattle.model.specs.State.{State, Fields, state_from, parameters_of, with_flow, cells, corner_columns, corner_rows, corners, WithinLimits, FieldWithin, OpenEverywhere}
use Rattle.model.specs.Answers.{number}
use Rattle.model.specs.Tests.{Test, asks, seeks, first_found}
use Rattle.model.specs.Refusals.{Taken, work_length, state_tests, call_tests}
use Rattle.model.specs.Weights.{weighted, formula_p, formula_m, formula_e, formula_f}
use Rattle.model.specs.Scheme.{to_east, to_west, to_north, to_south, vorticity_at, vorticity, D, weight, tendency_u, tendency_v, h_tendencies, u_tendencies, v_tendencies}
use Rattle.model.specs.Doubles.{IsWhole, IsNear}
use Rattle.model.specs.Rates.{energy_rate, enstrophy_rate}
use Rattle.model.specs.Totals.{total_depth, energy4}
use Rattle.model.specs.Step.{Place, place, pass, leaves, moved, stuck, two_pass, step_tests, step_test, run_tests, step_answer, cleared, work_left}
use Rattle.model.specs.Record.{bytes, Part, joined, value_of, tag_at, size_at, part_at, state_in, timestamp_in, record_length, rising, restored, kept, record_tests, decode, accepted, refused}
use Rattle.model.specs.Program.{program_cells, program_work, output_room, program_output}
use Rattle.model.specs.Promises.{Filling, Fills, vorticity_tests, tendencies_tests, probe_tests, total_tests, write_tests, VorticityPromise, TendenciesPromise, ProbePromise, ProbeGridPromise, StepPromise, RunPromise, TotalDepthPromise, TotalEnergyPromise, WritePromise, rooms_in, put, ReadPromise, ComparePromise}
use Rattle.model.specs.Histories.{Call, step, History, inflow_due, run_count}
use Rattle.model.specs.declared.Parameters.{Parameters}
use Rattle.model.specs.declared.Timestamp.{Timestamp}
use Rattle.model.specs.declared.Field.{Field}
use Rattle.model.specs.declared.Refusal.{Refusal}
use Rattle.model.specs.declared.Refusal.TheVariants.{Record}
use Rattle.std.specs.Prelude.{Ok, Err}
use Rattle.model.specs.declared.ProbeAnswer.{ProbeAnswer}
use Rattle.model.specs.Answers.{Answer, CompareAnswer, ProbeGridAnswer, ReadAnswer, RunAnswer, StepAnswer, TotalAnswer, WriteAnswer, breach, header}
use Rattle.model.specs.declared.StepError.{StepError}
use Rattle.model.specs.declared.RunError.{RunError}
use Rattle.model.specs.declared.Precision.{Precision}
use Rattle.model.specs.declared.Comparison.TheVariants.{Same, FirstNewer, SecondNewer, Conflict}
use Rattle.model.specs.declared.CompareError.TheVariants.{First, Second}

-- ==== demand 1: the full result, or a refusal where its cause holds and only there

-- a scan finds the lowest index at which its test holds
abbrev pub FirstAt : (ℕ → Bool) → ℕ → ℕ → Type 0
FirstAt bad m k = (k < m) × T (bad k) × ((i : ℕ) → i < k → bad i ≡ false)

abbrev pub Clean : (ℕ → Bool) → ℕ → Type 0
Clean bad m = (i : ℕ) → i < m → bad i ≡ false

abbrev pub ScanClaim : Type 0
ScanClaim = (bad : ℕ → Bool) (m k : ℕ) → (first_from bad m 0 ≡ Some k) ↔ FirstAt bad m k

-- what a test asks, and how it comes to find r: what it asks does not hold, or it names the lowest bad index
abbrev pub Passes : {R : Type 0} → Test R → Type 0
Passes (asks t own) = T t
Passes (seeks bad m own) = Clean bad m

abbrev pub Fails : {R : Type 0} → Test R → R → Type 0
Fails (asks t own) r = (T t → ⊥) × (own ≡ r)
Fails (seeks bad m own) r = (k : ℕ) × (own k ≡ r) × FirstAt bad m k

abbrev pub EachPasses : {R : Type 0} → List (Test R) → Type 0
EachPasses [] = Unit
EachPasses (t ∷ l) = Passes t × EachPasses l

-- why a list of tests finds r: the first one that fails is r's. What each test asks is the model's own (Refusals.antt); this adds the
-- order and the place
abbrev pub Cause : {R : Type 0} → List (Test R) → R → Type 0
Cause [] r = ⊥
Cause (t ∷ l) r = Fails t r ⊎ (Passes t × Cause l r)

-- a list of tests finds nothing exactly where each passes, and r exactly where r's cause holds
pub record TestClaim (R : Type 0) : Type 0 where
  pub passes : (l : List (Test R)) → (first_found l ≡ None) ↔ EachPasses l
  pub finds : (l : List (Test R)) (r : R) → (first_found l ≡ Some r) ↔ Cause l r

-- tests 1 to 5 pass exactly the states within the limits
abbrev pub LimitsClaim : Type 0
LimitsClaim = (s : State) → EachPasses (state_tests s [] [] []) ↔ WithinLimits s

-- the same with what else a call takes: further fields, a run length, a work space and destinations
abbrev pub EachWithin : List Taken → Type 0
EachWithin [] = Unit
EachWithin (f ∷ l) = FieldWithin f.limits f.count f.numbers × EachWithin l

abbrev pub EachRoom : ℕ → List ℕ → Type 0
EachRoom m [] = Unit
EachRoom m (room ∷ l) = (m ≤ room) × EachRoom m l

pub record AcceptedClaim : Type 0 where
  pub state : (s : State) (further : List Taken) (run work : List (Test Refusal))
      → EachPasses (state_tests s further run work) ↔ (WithinLimits s × EachWithin further × EachPasses run × EachPasses work)
  pub call : (s : State) (further : List Taken) (m : ℕ) (rooms : List ℕ)
      → EachPasses (call_tests s further m rooms) ↔ (WithinLimits s × EachWithin further × EachRoom m rooms)

-- what a step takes, with nothing wrong
abbrev pub StepTaken : State → (inflow : List ℤ) (room : ℕ) → Type 0
StepTaken s inflow room = WithinLimits s × FieldWithin inflow_limits (cells s) inflow × (work_length s ≤ room)

-- each call on a state is refused with r exactly where r's cause holds in the list of its tests, and leaves each destination as it was; a
-- step is stuck with 6, or done, exactly where the two passes are
pub record CausesClaim : Type 0 where
  pub vorticity : (s : State) (d d' : List ℤ) (r : Refusal)
      → VorticityPromise s d (Err r) d' ↔ (Cause (vorticity_tests s (length d)) r × (d' ≡ d))
  pub tendencies : (s : State) (q dh du dv dh' du' dv' : List ℤ) (r : Refusal)
      → TendenciesPromise s q dh du dv (Err r) dh' du' dv'
      ↔ (Cause (tendencies_tests s q (length dh) (length du) (length dv)) r × (dh' ≡ dh) × (du' ≡ du) × (dv' ≡ dv))
  pub probe : (s : State) (q : List ℤ) (k : ℕ) (r : Refusal) → ProbePromise s q k (ProbeAnswer.Refused r) ↔ Cause (probe_tests s q k) r
  pub probe-grid : (s : State) (q : List ℤ) (dh du dv dh' du' dv' : List Float) (r : Refusal)
      → ProbeGridPromise s q dh du dv (Err r) dh' du' dv'
      ↔ (Cause (tendencies_tests s q (length dh) (length du) (length dv)) r × (dh' ≡ dh) × (du' ≡ du) × (dv' ≡ dv))
  pub write : (s : State) (t : Timestamp) (d d' : List ℕ) (r : Refusal)
      → WritePromise s t d (Err r) d' ↔ (Cause (write_tests s t (length d)) r × (d' ≡ d))
  pub depth : (s : State) (r : Refusal) → TotalDepthPromise s (Err r) ↔ Cause (total_tests s) r
  pub energy : (s : State) (r : Refusal) → TotalEnergyPromise s (Err r) ↔ Cause (total_tests s) r
  pub step : (s s' : State) (inflow work work' : List ℤ) (r : Refusal)
      → StepPromise s inflow work (Err (StepError.Refused r)) s' work'
      ↔ (Cause (step_tests s inflow (length work)) r × (s' ≡ s) × (work' ≡ work_left (Some r) s work))
  pub run : (s s' : State) (inflow : List ℤ) (m : ℕ) (work work' : List ℤ) (r : Refusal)
      → RunPromise s inflow m work (Err (RunError.Refused r)) s' work'
      ↔ (Cause (run_tests s inflow m (length work)) r × (s' ≡ s) × (work' ≡ work_left (Some r) s work))
  pub step-6 : (s s' : State) (inflow work work' : List ℤ) (p k : ℕ) (f : Field)
      → StepPromise s inflow work (Err (StepError.OutOfBounds (breach p f k))) s' work'
      ↔ (StepTaken s inflow (length work) × (two_pass s inflow ≡ stuck p (place f k)) × (s' ≡ s) × (work' ≡ cleared s work))
  pub step-done : (s s' : State) (inflow work work' : List ℤ)
      → StepPromise s inflow work (Ok tt) s' work' ↔ (StepTaken s inflow (length work) × (two_pass s inflow ≡ moved s') × (work' ≡ cleared s work))

-- ---- why a record is refused: 7, then 1, 2, 8, 3, 9, 4, 5

-- one of these fields of a record has tag t
abbrev pub Among : ℕ → List Part → Type 0
Among t [] = ⊥
Among t (p ∷ l) = (p.tag ≡ t) ⊎ Among t l

-- not 3 bytes for tag 1, 12 for tag 2, 8 for tag 3, 2 for tag 8; for tags 4 to 7 and 9 no length is wrong here
abbrev pub WrongLength : (tag size : ℕ) → Type 0
WrongLength tag size =
    ((tag ≡ 1) × (size ≡ 3 → ⊥)) ⊎ ((tag ≡ 2) × (size ≡ 12 → ⊥)) ⊎ ((tag ≡ 3) × (size ≡ 8 → ⊥)) ⊎ ((tag ≡ 8) × (size ≡ 2 → ⊥))

-- 7, at the tag at offset k, where a byte is left, and past the fields `parts`. Line by line:
-- 1 or 2 bytes left; unknown tag; repeated tag; value past the end; tag 1, 2, 3, 8 of wrong length
abbrev pub BadTag : List ℕ → ℕ → List Part → Type 0
BadTag rec k parts =
    (length rec < k + 3)
    ⊎ ((tag_at rec k < 1) ⊎ (9 < tag_at rec k))
    ⊎ Among (tag_at rec k) parts
    ⊎ (length rec < k + 3 + size_at rec k)
    ⊎ WrongLength (tag_at rec k) (size_at rec k)

-- from the record's start, tag by tag and none of them bad, one gets to offset k, past the fields `parts`
pub data Reaches (rec : List ℕ) : ℕ → List Part → Type 0 where
  outset : Reaches rec 0 []
  past : {k : ℕ} {parts : List Part} → Reaches rec k parts → k < length rec → (BadTag rec k parts → ⊥)
      → Reaches rec (k + 3 + size_at rec k) (parts ++ (part_at rec k ∷ []))

-- there is a tag of 1 to 7 that none of these fields has
abbrev pub Missing : List Part → Type 0
Missing parts = (t : ℕ) × (1 ≤ t) × (t ≤ 7) × (Among t parts → ⊥)

-- 7: one gets to a bad tag, and r tells its offset; or to the record's end, with a tag missing, and r tells the record's length
abbrev pub Damaged : List ℕ → Refusal → Type 0
Damaged rec r =
    ((k : ℕ) × (parts : List Part) × Reaches rec k parts × (k < length rec) × BadTag rec k parts × (Record k ≡ r))
    ⊎ ((parts : List Part) × Reaches rec (length rec) parts × Missing parts × (Record (length rec) ≡ r))

-- no 7: one gets to the record's end, past these fields, and no tag is missing
abbrev pub WholeIn : List ℕ → List Part → Type 0
WholeIn rec parts = Reaches rec (length rec) parts × (Missing parts → ⊥)

-- 2, in a record, asks that each field has the bytes of m numbers: four a cell for h and b (tags 4, 5), two for u and v (tags 6, 7), and
-- one for the barriers, where tag 9 is there
abbrev pub BytesOf : ℕ → List Part → Type 0
BytesOf m parts =
    (length (value_of 4 parts) ≡ 4 * m) × (length (value_of 5 parts) ≡ 4 * m)
    × (length (value_of 6 parts) ≡ 2 * m) × (length (value_of 7 parts) ≡ 2 * m)
    × (Among 9 parts → length (value_of 9 parts) ≡ m)

-- why a record is refused with r: a 7; or no 7, and the cause in the list of its fields' tests
abbrev pub ReadCause : List ℕ → (rooms : List ℕ) → Refusal → Type 0
ReadCause rec rooms r = Damaged rec r ⊎ ((parts : List Part) × WholeIn rec parts × Cause (record_tests (state_in parts) (timestamp_in parts) parts rooms) r)

-- no cause holds of a record: no 7, the bytes of w·n numbers, room, at most 999 milliseconds, and a state within the limits. s and t are
-- what its fields mean
pub record Readable (rec rooms : List ℕ) (s : State) (t : Timestamp) : Type 0 where
  pub parts : List Part
  pub whole : WholeIn rec parts
  pub state : state_in parts ≡ s
  pub timestamp : timestamp_in parts ≡ t
  pub bytes : BytesOf (cells s) parts
  pub room : EachRoom (cells s) rooms
  pub time : t.milliseconds ≤ most_milliseconds
  pub inside : WithinLimits s

-- a record is refused with r exactly where r's cause holds, and read exactly where none does. The reader's promise says the same; where
-- it refuses, each destination is left as it was, and otherwise the first w·n places of each are the state's
pub record ReadCausesClaim : Type 0 where
  pub refuses : (rec rooms : List ℕ) (r : Refusal) → (decode rec rooms ≡ refused r) ↔ ReadCause rec rooms r
  pub accepts : (rec rooms : List ℕ) (s : State) (t : Timestamp) → (decode rec rooms ≡ accepted s t) ↔ Readable rec rooms s t
  pub read-refuses : (rec : List ℕ) (d d' : Fields) (r : Refusal)
      → ReadPromise rec d (Err r) d' ↔ (ReadCause rec (rooms_in d) r × (d' ≡ d))
  pub read-accepts : (rec : List ℕ) (d d' : Fields) (p : Parameters) (t : Timestamp)
      → ReadPromise rec d (Ok (header p t)) d'
      ↔ ((s : State) × Readable rec (rooms_in d) s t × (p ≡ parameters_of s) × (d' ≡ put s d))

-- each promise can be met, for any numbers and any lengths; that of a call that fills for any test, count and destinations
abbrev pub FillMet : (B A : Type 0) → Type 0
FillMet B A = (by : Option Refusal → B) (tell : B → List ℤ) (test : Option Refusal) (m : ℕ) (ds : List (Filling A))
    → (a : B) × (ds' : List (List A)) × Fills by tell test m ds a ds'

pub record MetClaim : Type 0 where
  pub fill : FillMet Answer ℤ
  pub probe-grid : FillMet ProbeGridAnswer Float
  pub probe : (s : State) (q : List ℤ) (k : ℕ) → (a : ProbeAnswer) × ProbePromise s q k a
  pub write : FillMet WriteAnswer ℕ
  pub step : (s : State) (inflow work : List ℤ) → (a : StepAnswer) × (s' : State) × (work' : List ℤ) × StepPromise s inflow work a s' work'
  pub run : (s : State) (inflow : List ℤ) (m : ℕ) (work : List ℤ)
      → (a : RunAnswer) × (s' : State) × (work' : List ℤ) × RunPromise s inflow m work a s' work'
  pub depth : (s : State) → (a : TotalAnswer) × TotalDepthPromise s a
  pub energy : (s : State) → (a : TotalAnswer) × TotalEnergyPromise s a
  pub read : (rec : List ℕ) (d : Fields) → (a : ReadAnswer) × (d' : Fields) × ReadPromise rec d a d'
  pub compare : (first second : List ℕ) → (a : CompareAnswer) × ComparePromise first second a
  -- any list of calls can be made from any state
  pub history : (s : State) (calls : List Call) → (t : State) × History s calls t

-- and leaves nothing free: not the answer, and no lent number afterwards
abbrev pub FillFixed : (B A : Type 0) → Type 0
FillFixed B A = (by : Option Refusal → B) (tell : B → List ℤ) (test : Option Refusal) (m : ℕ) (ds : List (Filling A)) (a b : B) (x y : List (List A))
    → Fills by tell test m ds a x → Fills by tell test m ds b y → (a ≡ b) × (x ≡ y)

pub record FixedClaim : Type 0 where
  pub fill : FillFixed Answer ℤ
  pub probe-grid : FillFixed ProbeGridAnswer Float
  pub probe : (s : State) (q : List ℤ) (k : ℕ) (a b : ProbeAnswer) → ProbePromise s q k a → ProbePromise s q k b → a ≡ b
  pub write : FillFixed WriteAnswer ℕ
  pub step : (s x y : State) (inflow work k l : List ℤ) (a b : StepAnswer) → StepPromise s inflow work a x k
      → StepPromise s inflow work b y l → (a ≡ b) × (x ≡ y) × (k ≡ l)
  pub run : (s x y : State) (inflow : List ℤ) (m : ℕ) (work k l : List ℤ) (a b : RunAnswer) → RunPromise s inflow m work a x k
      → RunPromise s inflow m work b y l → (a ≡ b) × (x ≡ y) × (k ≡ l)
  pub depth : (s : State) (a b : TotalAnswer) → TotalDepthPromise s a → TotalDepthPromise s b → a ≡ b
  pub energy : (s : State) (a b : TotalAnswer) → TotalEnergyPromise s a → TotalEnergyPromise s b → a ≡ b
  pub read : (rec : List ℕ) (d x y : Fields) (a b : ReadAnswer) → ReadPromise rec d a x → ReadPromise rec d b y → (a ≡ b) × (x ≡ y)
  pub compare : (first second : List ℕ) (a b : CompareAnswer) → ComparePromise first second a → ComparePromise first second b → a ≡ b
  -- and the state that it leaves is one alone
  pub history : (s x y : State) (calls : List Call) → History s calls x → History s calls y → x ≡ y

-- a refused call leaves everything but its work space as it was: one that fills leaves each destination, whatever it fills in
abbrev pub held : {A : Type 0} → List (Filling A) → List (List A)
held [] = []
held (d ∷ ds) = d.old ∷ held ds

abbrev pub FillRefused : (B A : Type 0) → Type 0
FillRefused B A = (by : Option Refusal → B) (tell : B → List ℤ) (test : Option Refusal) (m : ℕ) (ds : List (Filling A)) (a : B) (ds' : List (List A))
    → (a ≡ by None → ⊥) → Fills by tell test m ds a ds' → ds' ≡ held ds

pub record RefusedClaim : Type 0 where
  pub fill : FillRefused Answer ℤ
  pub probe-grid : FillRefused ProbeGridAnswer Float
  pub write : FillRefused WriteAnswer ℕ
  pub step : (s s' : State) (inflow work work' : List ℤ) (r : Refusal) → StepPromise s inflow work (Err (StepError.Refused r)) s' work' → s' ≡ s
  pub step-6 : (s s' : State) (inflow work work' : List ℤ) (p k : ℕ) (f : Field)
      → StepPromise s inflow work (Err (StepError.OutOfBounds (breach p f k))) s' work' → s' ≡ s
  pub run : (s s' : State) (inflow work work' : List ℤ) (m : ℕ) (r : Refusal) → RunPromise s inflow m work (Err (RunError.Refused r)) s' work'
      → s' ≡ s
  pub read : (rec : List ℕ) (d d' : Fields) (r : Refusal) → ReadPromise rec d (Err r) d' → d' ≡ d

-- step and run refuse with 1 to 6 alone. After 1 and 2 the work space is untouched; in every other outcome its first 8w·n numbers are
-- zero, and the rest is as it was
abbrev pub RefusedWork : Refusal → State → List ℤ → List ℤ → Type 0
RefusedWork r s work work' = (number r ≤ 5) × (number r ≤ 2 → work' ≡ work) × (2 < number r → work' ≡ cleared s work)

abbrev pub StepWork : StepAnswer → State → List ℤ → List ℤ → Type 0
StepWork (Ok x) s work work' = work' ≡ cleared s work
StepWork (Err (StepError.Refused r)) s work work' = RefusedWork r s work work'
StepWork (Err (StepError.OutOfBounds x)) s work work' = work' ≡ cleared s work

abbrev pub RunWork : RunAnswer → State → List ℤ → List ℤ → Type 0
RunWork (Ok m) s work work' = work' ≡ cleared s work
RunWork (Err (RunError.Refused r)) s work work' = RefusedWork r s work work'
RunWork (Err (RunError.Stopped m x)) s work work' = work' ≡ cleared s work

pub record WorkClaim : Type 0 where
  pub step : (s s' : State) (inflow work work' : List ℤ) (answer : StepAnswer) → StepPromise s inflow work answer s' work'
      → StepWork answer s work work'
  pub run : (s s' : State) (inflow work work' : List ℤ) (m : ℕ) (answer : RunAnswer) → RunPromise s inflow m work answer s' work'
      → RunWork answer s work work'

-- ==== demand 2: the published scheme and 01's rules, at every cell

-- rnd(a/b) is nearest to a/b: twice the distance, times b, is at most b; where it is b, rnd(a/b) is further from zero than a/b
abbrev pub RoundingClaim : Type 0
RoundingClaim = (a b : ℤ) → pos 1 ≤ℤ b → let away = 2 * nat_abs (a -ℤ b *ℤ rnd a b) in
    (away ≤ nat_abs b) × (away ≡ nat_abs b → nat_abs a < nat_abs (b *ℤ rnd a b))

-- a row of the weight table over four corners is its sum of corners, at any four whole numbers
pub record FormulaClaim : Type 0 where
  pub p : (ne nw sw se : ℤ) → formula_p ne nw sw se ≡ weighted 0 ne nw sw se
  pub m : (ne nw sw se : ℤ) → formula_m ne nw sw se ≡ weighted 1 ne nw sw se
  pub e : (ne nw sw se : ℤ) → formula_e ne nw sw se ≡ weighted 2 ne nw sw se
  pub f : (ne nw sw se : ℤ) → formula_f ne nw sw se ≡ weighted 3 ne nw sw se

-- a field holds f at every cell, in its first w·n places
abbrev pub Holds : State → List ℤ → (ℕ → ℕ → ℤ) → Type 0
Holds s d f = (i j : ℕ) → i < s.w → j < s.n → at s.w d i j ≡ f i j

-- the same of every corner, in its first places
abbrev pub HoldsCorners : State → List ℤ → (ℕ → ℕ → ℤ) → Type 0
HoldsCorners s d f = (x y : ℕ) → x < corner_columns s → y < corner_rows s → at (corner_columns s) d x y ≡ f x y

-- the potential vorticity of a state within the limits is within its own limits
abbrev pub OwnVorticityClaim : Type 0
OwnVorticityClaim = (s : State) → WithinLimits s → FieldWithin vorticity_limits (corners s) (vorticity s)

-- an accepted potential vorticity call fills it in, and it may then be lent to the tendency call
abbrev pub VorticityClaim : Type 0
VorticityClaim = (s : State) (d d' : List ℤ) → VorticityPromise s d (Ok tt) d'
    → HoldsCorners s d' (vorticity_at s) × FieldWithin vorticity_limits (corners s) (take (corners s) d')
    × (drop (corners s) d' ≡ drop (corners s) d)

-- ---- corners on a wall (02, U5), in the request's words

-- q of a corner on a wall: c is its Z, and its H is twice the sum of the two cells on its own side, or four times the one where two walls meet
abbrev pub beside_two : State → (h h' : ℤ) → ℤ
beside_two s h h' = rnd (pos 262144 *ℤ s.c) (pos 2 *ℤ (h +ℤ h'))

abbrev pub beside_one : State → (h : ℤ) → ℤ
beside_one s h = rnd (pos 262144 *ℤ s.c) (pos 4 *ℤ h)

-- q of any other corner, by 01's rule
abbrev pub ordinary : State → (x y : ℕ) → ℤ
ordinary s x y =
    let h = at s.w s.h in
    let u = at s.w s.u in
    let v = at s.w s.v in
    rnd (pos 262144 *ℤ (s.c +ℤ v x y -ℤ v (to_west s x) y +ℤ u x (to_south s y) -ℤ u x y))
    (h x y +ℤ h (to_west s x) y +ℤ h x (to_south s y) +ℤ h (to_west s x) (to_south s y))

pub record WallCornerClaim : Type 0 where
  -- how many corners there are
  pub periodic : (s : State) → s.kind ≡ 0 → (corner_columns s ≡ s.w) × (corner_rows s ≡ s.n)
  pub channel : (s : State) → s.kind ≡ 1 → (corner_columns s ≡ s.w) × (corner_rows s ≡ s.n + 1)
  pub basin : (s : State) → s.kind ≡ 2 → (corner_columns s ≡ s.w + 1) × (corner_rows s ≡ s.n + 1)
  -- a channel's rows 0 and n
  pub channel-south : (s : State) (x : ℕ) → s.kind ≡ 1
      → vorticity_at s x 0 ≡ beside_two s (at s.w s.h x 0) (at s.w s.h (to_west s x) 0)
  pub channel-north : (s : State) (x : ℕ) → s.kind ≡ 1 → 1 ≤ s.n
      → vorticity_at s x s.n ≡ beside_two s (at s.w s.h x (s.n - 1)) (at s.w s.h (to_west s x) (s.n - 1))
  -- a basin's rows 0 and n, and its columns 0 and w
  pub basin-south : (s : State) (x : ℕ) → s.kind ≡ 2 → 1 ≤ x → x < s.w
      → vorticity_at s x 0 ≡ beside_two s (at s.w s.h x 0) (at s.w s.h (x - 1) 0)
  pub basin-north : (s : State) (x : ℕ) → s.kind ≡ 2 → 1 ≤ x → x < s.w → 1 ≤ s.n
      → vorticity_at s x s.n ≡ beside_two s (at s.w s.h x (s.n - 1)) (at s.w s.h (x - 1) (s.n - 1))
  pub basin-west : (s : State) (y : ℕ) → s.kind ≡ 2 → 1 ≤ y → y < s.n
      → vorticity_at s 0 y ≡ beside_two s (at s.w s.h 0 y) (at s.w s.h 0 (y - 1))
  pub basin-east : (s : State) (y : ℕ) → s.kind ≡ 2 → 1 ≤ y → y < s.n → 1 ≤ s.w
      → vorticity_at s s.w y ≡ beside_two s (at s.w s.h (s.w - 1) y) (at s.w s.h (s.w - 1) (y - 1))
  -- where two of its walls meet
  pub southwest : (s : State) → s.kind ≡ 2 → vorticity_at s 0 0 ≡ beside_one s (at s.w s.h 0 0)
  pub southeast : (s : State) → s.kind ≡ 2 → 1 ≤ s.w → vorticity_at s s.w 0 ≡ beside_one s (at s.w s.h (s.w - 1) 0)
  pub northwest : (s : State) → s.kind ≡ 2 → 1 ≤ s.n → vorticity_at s 0 s.n ≡ beside_one s (at s.w s.h 0 (s.n - 1))
  pub northeast : (s : State) → s.kind ≡ 2 → 1 ≤ s.w → 1 ≤ s.n
      → vorticity_at s s.w s.n ≡ beside_one s (at s.w s.h (s.w - 1) (s.n - 1))
  -- all others, whatever barriers stand there
  pub periodic-other : (s : State) (x y : ℕ) → s.kind ≡ 0 → vorticity_at s x y ≡ ordinary s x y
  pub channel-other : (s : State) (x y : ℕ) → s.kind ≡ 1 → 1 ≤ y → y < s.n → vorticity_at s x y ≡ ordinary s x y
  pub basin-other : (s : State) (x y : ℕ) → s.kind ≡ 2 → 1 ≤ x → x < s.w → 1 ≤ y → y < s.n → vorticity_at s x y ≡ ordinary s x y

-- each cell uses its own four corners, ne, nw, sw and se: the next corner along a side wraps only where the side has no walls
pub record CellCornersClaim : Type 0 where
  pub periodic : (s : State) (q : List ℤ) (row i j : ℕ) → s.kind ≡ 0 → let c = at s.w q in
      weight s q row i j ≡ weighted row (c (to_east s i) (to_north s j)) (c i (to_north s j)) (c i j) (c (to_east s i) j)
  pub channel : (s : State) (q : List ℤ) (row i j : ℕ) → s.kind ≡ 1 → j < s.n → let c = at s.w q in
      weight s q row i j ≡ weighted row (c (to_east s i) (j + 1)) (c i (j + 1)) (c i j) (c (to_east s i) j)
  pub basin : (s : State) (q : List ℤ) (row i j : ℕ) → s.kind ≡ 2 → i < s.w → j < s.n → let c = at (s.w + 1) q in
      weight s q row i j ≡ weighted row (c (i + 1) (j + 1)) (c i (j + 1)) (c i j) (c (i + 1) j)

-- ---- tendencies

-- the tendency call accepts any state within the limits, any q within its bound and destinations that have room, and these alone
abbrev pub TendenciesAcceptedClaim : Type 0
TendenciesAcceptedClaim = (s : State) (q dh du dv dh' du' dv' : List ℤ) (answer : Answer)
    → TendenciesPromise s q dh du dv answer dh' du' dv'
    → (answer ≡ Ok tt) ↔ (WithinLimits s × FieldWithin vorticity_limits (corners s) q × (cells s ≤ length dh) × (cells s ≤ length du) × (cells s ≤ length dv))

-- it then fills in -D, Tu and Tv
abbrev pub TendenciesClaim : Type 0
TendenciesClaim = (s : State) (q dh du dv dh' du' dv' : List ℤ) → TendenciesPromise s q dh du dv (Ok tt) dh' du' dv'
    → Holds s dh' (λ i j. neg_ℤ (D s i j)) × Holds s du' (tendency_u s q) × Holds s dv' (tendency_v s q)
    × (drop (cells s) dh' ≡ drop (cells s) dh) × (drop (cells s) du' ≡ drop (cells s) du) × (drop (cells s) dv' ≡ drop (cells s) dv)

-- ---- the same in doubles (02, U3)

-- a grid is narrow: every h and b is at most 10,000, every velocity within 500 and every q within 1,000,000
pub record Narrow (s : State) (q : List ℤ) : Type 0 where
  pub depths : (k : ℕ) → k < cells s → get_or s.h k (pos 0) ≤ℤ pos 10000
  pub bottoms : (k : ℕ) → k < cells s → get_or s.b k (pos 0) ≤ℤ pos 10000
  pub us : (k : ℕ) → k < cells s → nat_abs (get_or s.u k (pos 0)) ≤ 500
  pub vs : (k : ℕ) → k < cells s → nat_abs (get_or s.v k (pos 0)) ≤ 500
  pub vorticities : (k : ℕ) → k < corners s → nat_abs (get_or q k (pos 0)) ≤ 1000000

-- what a probe takes, with nothing wrong
abbrev pub ProbeTaken : State → List ℤ → Type 0
ProbeTaken s q = WithinLimits s × FieldWithin vorticity_limits (corners s) q

-- three doubles, and the whole numbers that the tendency call has filled in at index k: -D is the same; Tu and Tv too, or they are whole
-- numbers at most 64 away
pub record Equal (k : ℕ) (a b c : Float) (dh du dv : List ℤ) : Type 0 where
  pub h : IsWhole a (get_or dh k (pos 0))
  pub u : IsWhole b (get_or du k (pos 0))
  pub v : IsWhole c (get_or dv k (pos 0))

pub record Close (k : ℕ) (a b c : Float) (dh du dv : List ℤ) : Type 0 where
  pub h : IsWhole a (get_or dh k (pos 0))
  pub u : IsNear 64 b (get_or du k (pos 0))
  pub v : IsNear 64 c (get_or dv k (pos 0))

-- the probe marks its doubles exact where all is taken and narrow, near where all is taken and not narrow, and nowhere else; against the
-- tendency call on the same state and q, exact ones are equal and near ones close
pub record ProbeClaim : Type 0 where
  pub exact : (s : State) (q : List ℤ) (k : ℕ) (answer : ProbeAnswer) → ProbePromise s q k answer
      → ((a : Float) × (b : Float) × (c : Float) × (answer ≡ ProbeAnswer.Exact a b c)) ↔ (ProbeTaken s q × (k < cells s) × Narrow s q)
  pub near : (s : State) (q : List ℤ) (k : ℕ) (answer : ProbeAnswer) → ProbePromise s q k answer
      → ((a : Float) × (b : Float) × (c : Float) × (answer ≡ ProbeAnswer.Near a b c))
      ↔ (ProbeTaken s q × (k < cells s) × (Narrow s q → ⊥))
  pub equal : (s : State) (q dh du dv dh' du' dv' : List ℤ) (k : ℕ) (a b c : Float) → ProbePromise s q k (ProbeAnswer.Exact a b c)
      → TendenciesPromise s q dh du dv (Ok tt) dh' du' dv'
      → Equal k a b c dh' du' dv'
  pub close : (s : State) (q dh du dv dh' du' dv' : List ℤ) (k : ℕ) (a b c : Float) → ProbePromise s q k (ProbeAnswer.Near a b c)
      → TendenciesPromise s q dh du dv (Ok tt) dh' du' dv'
      → Close k a b c dh' du' dv'

-- destinations of doubles: w·n places in each
abbrev pub DoublesRoom : State → (dh du dv : List Float) → Type 0
DoublesRoom s dh du dv = (cells s ≤ length dh) × (cells s ≤ length du) × (cells s ≤ length dv)

-- the same of the grid, at every cell; at each cell it fills in what the probe of that cell answers, and the places past them keep their
-- values
pub record ProbeGridClaim : Type 0 where
  pub exact : (s : State) (q : List ℤ) (dh du dv dh' du' dv' : List Float) (answer : ProbeGridAnswer)
      → ProbeGridPromise s q dh du dv answer dh' du' dv'
      → (answer ≡ Ok Precision.Exact) ↔ (ProbeTaken s q × DoublesRoom s dh du dv × Narrow s q)
  pub near : (s : State) (q : List ℤ) (dh du dv dh' du' dv' : List Float) (answer : ProbeGridAnswer)
      → ProbeGridPromise s q dh du dv answer dh' du' dv'
      → (answer ≡ Ok Precision.Near) ↔ (ProbeTaken s q × DoublesRoom s dh du dv × (Narrow s q → ⊥))
  pub exact-cell : (s : State) (q : List ℤ) (dh du dv dh' du' dv' : List Float) (k : ℕ) → k < cells s
      → ProbeGridPromise s q dh du dv (Ok Precision.Exact) dh' du' dv'
      → ProbePromise s q k (ProbeAnswer.Exact (get_or dh' k nan) (get_or du' k nan) (get_or dv' k nan))
  pub near-cell : (s : State) (q : List ℤ) (dh du dv dh' du' dv' : List Float) (k : ℕ) → k < cells s
      → ProbeGridPromise s q dh du dv (Ok Precision.Near) dh' du' dv'
      → ProbePromise s q k (ProbeAnswer.Near (get_or dh' k nan) (get_or du' k nan) (get_or dv' k nan))
  pub rest : (s : State) (q : List ℤ) (dh du dv dh' du' dv' : List Float) (answer : ProbeGridAnswer)
      → ProbeGridPromise s q dh du dv answer dh' du' dv'
      → (drop (cells s) dh' ≡ drop (cells s) dh) × (drop (cells s) du' ≡ drop (cells s) du) × (drop (cells s) dv' ≡ drop (cells s) dv)
  pub equal : (s : State) (q th tu tv th' tu' tv' : List ℤ) (dh du dv dh' du' dv' : List Float) (k : ℕ) → k < cells s
      → ProbeGridPromise s q dh du dv (Ok Precision.Exact) dh' du' dv'
      → TendenciesPromise s q th tu tv (Ok tt) th' tu' tv'
      → Equal k (get_or dh' k nan) (get_or du' k nan) (get_or dv' k nan) th' tu' tv'
  pub close : (s : State) (q th tu tv th' tu' tv' : List ℤ) (dh du dv dh' du' dv' : List Float) (k : ℕ) → k < cells s
      → ProbeGridPromise s q dh du dv (Ok Precision.Near) dh' du' dv'
      → TendenciesPromise s q th tu tv (Ok tt) th' tu' tv'
      → Close k (get_or dh' k nan) (get_or du' k nan) (get_or dv' k nan) th' tu' tv'

-- a pass moves the velocities of its base by what the calls of potential vorticity and tendencies fill in for the state that it is given: its own q, and the
-- tendencies with that q
pub record Given (s : State) (du dv : List ℤ) : Type 0 where
  pub d : List ℤ
  pub q : List ℤ
  pub dh₀ : List ℤ
  pub du₀ : List ℤ
  pub dv₀ : List ℤ
  pub dh : List ℤ
  pub vorticity : VorticityPromise s d (Ok tt) q
  pub tendencies : TendenciesPromise s (take (corners s) q) dh₀ du₀ dv₀ (Ok tt) dh du dv

abbrev pub PassClaim : Type 0
PassClaim = (base given : State) (inflow du dv : List ℤ) → given.w ≡ base.w → given.n ≡ base.n → Given given du dv
    → Holds base (pass base given inflow).u (λ i j. at base.w base.u i j +ℤ rnd (at base.w du i j) (tendency_scale *ℤ given.R))
    × Holds base (pass base given inflow).v (λ i j. at base.w base.v i j +ℤ rnd (at base.w dv i j) (tendency_scale *ℤ given.R))

-- of a state within the limits: a step leads on exactly where both passes keep the limits, to pass 2's result; so inside a run only
-- refusal 6 can stop it. It is stuck in pass 1, or else in pass 2, at the first place that this pass leaves
pub record StepClaim : Type 0 where
  pub moves : (s t : State) (inflow : List ℤ) → WithinLimits s
      → (two_pass s inflow ≡ moved t) ↔ (WithinLimits (pass s s inflow) × WithinLimits t × (t ≡ pass s (pass s s inflow) inflow))
  pub stuck-1 : (s : State) (inflow : List ℤ) (x : Place) → leaves (pass s s inflow) ≡ Some x → two_pass s inflow ≡ stuck 1 x
  pub stuck-2 : (s : State) (inflow : List ℤ) (x : Place) → leaves (pass s s inflow) ≡ None
      → leaves (pass s (pass s s inflow) inflow) ≡ Some x
      → two_pass s inflow ≡ stuck 2 x

-- the state after m definition steps, each of which leads on
pub data Steps (inflow : List ℤ) : ℕ → State → State → Type 0 where
  start : {s : State} → Steps inflow zero s s
  onward : {m : ℕ} {s t e : State} → two_pass s inflow ≡ moved t → Steps inflow m t e → Steps inflow (suc m) s e

-- why a run of m steps ended at t: it was refused, its length was reached, or the next step is refused with the 6 that it tells
abbrev pub Ended : List ℤ → ℕ → RunAnswer → State → Type 0
Ended inflow m (Err (RunError.Refused r)) t = Unit
Ended inflow m (Ok k) t = k ≡ m
Ended inflow m (Err (RunError.Stopped k x)) t = (k < m) × (two_pass t inflow ≡ stuck x.pass (place x.field x.cell))

-- the number that a run answers is the number of definition steps that lead to the state left
abbrev pub RunClaim : Type 0
RunClaim = (s s' : State) (inflow work work' : List ℤ) (m : ℕ) (answer : RunAnswer) → RunPromise s inflow m work answer s' work'
    → Steps inflow (run_count answer) s s' × Ended inflow m answer s'

-- what a run takes, with nothing wrong
abbrev pub RunTaken : State → (inflow : List ℤ) (m room : ℕ) → Type 0
RunTaken s inflow m room = StepTaken s inflow room × (m ≤ longest_run)

-- and the other way round: a run with nothing wrong finishes exactly where each of its steps leads on, and stops with 6 after k steps
-- exactly where k steps lead on and the next one is stuck as it tells
pub record RunEndsClaim : Type 0 where
  pub finished : (s s' : State) (inflow work work' : List ℤ) (m k : ℕ)
      → RunPromise s inflow m work (Ok k) s' work'
      ↔ (RunTaken s inflow m (length work) × (k ≡ m) × Steps inflow m s s' × (work' ≡ cleared s work))
  pub stopped : (s s' : State) (inflow work work' : List ℤ) (m k p c : ℕ) (f : Field)
      → RunPromise s inflow m work (Err (RunError.Stopped k (breach p f c))) s' work'
      ↔ (RunTaken s inflow m (length work) × (k < m) × Steps inflow k s s' × (two_pass s' inflow ≡ stuck p (place f c))
      × (work' ≡ cleared s work))

-- a run that is not refused leaves what as many public step calls leave; where it stopped, the next one answers the 6 that it tells
abbrev pub NextStep : List ℤ → (room : ℕ) → RunAnswer → State → Type 0
NextStep inflow room (Err (RunError.Refused r)) t = Unit
NextStep inflow room (Ok k) t = Unit
NextStep inflow room (Err (RunError.Stopped k x)) t = step_answer t inflow room ≡ Err (StepError.OutOfBounds x)

abbrev pub RunStepsClaim : Type 0
RunStepsClaim = (s s' : State) (inflow work work' lent : List ℤ) (m : ℕ) (answer : RunAnswer) → RunPromise s inflow m work answer s' work'
    → ((r : Refusal) → answer ≡ Err (RunError.Refused r) → ⊥) → work_length s ≤ length lent
    → History s (replicate (run_count answer) (step inflow lent)) s' × NextStep inflow (length lent) answer s'

-- on a state within the limits the totals are the sums that 01 says
pub record TotalsClaim : Type 0 where
  pub depth : (s : State) (answer : TotalAnswer) → WithinLimits s → TotalDepthPromise s answer → answer ≡ Ok (total_depth s)
  pub energy : (s : State) (answer : TotalAnswer) → WithinLimits s → TotalEnergyPromise s answer → answer ≡ Ok (energy4 s)

-- ---- the record

-- the writer accepts any state within the limits, at most 999 milliseconds and a destination that has room, and these alone
abbrev pub WriteAcceptedClaim : Type 0
WriteAcceptedClaim = (s : State) (t : Timestamp) (d d' : List ℕ) (answer : WriteAnswer) → WritePromise s t d answer d'
    → (answer ≡ Ok (record_length s))
    ↔ (WithinLimits s × (t.milliseconds ≤ most_milliseconds) × (record_length s ≤ length d))

-- written, then read into destinations that have room: the same state and timestamp
abbrev pub RoundTripClaim : Type 0
RoundTripClaim = (s : State) (t : Timestamp) (d d' : List ℕ) (written : WriteAnswer) (x x' : Fields) (answer : ReadAnswer)
    → WithinLimits s → t.seconds < 2 ^ 64 → t.milliseconds ≤ most_milliseconds
    → record_length s ≤ length d → WritePromise s t d written d'
    → EachRoom (cells s) (rooms_in x) → ReadPromise (take (record_length s) d') x answer x'
    → (written ≡ Ok (record_length s)) × (answer ≡ Ok (header (parameters_of s) t)) × (state_from (parameters_of s) x' ≡ s)

-- what an accepted read fills in is a state within the limits
abbrev pub ReadClaim : Type 0
ReadClaim = (rec : List ℕ) (d d' : Fields) (p : Parameters) (t : Timestamp) → ReadPromise rec d (Ok (header p t)) d'
    → WithinLimits (state_from p d')

-- the step program's own step passes every test: it is refused by the reader, or with 6
abbrev pub ProgramClaim : Type 0
ProgramClaim = (input : List ℕ) (s : State) (t : Timestamp) → decode input (replicate 5 program_cells) ≡ accepted s t
    → step_test s (replicate (cells s) (pos 0)) program_work ≡ None

-- there is room for all that the step program prints
abbrev pub OutputClaim : Type 0
OutputClaim = (input : List ℕ) → length (program_output input) ≤ output_room

-- each number is a byte, as in any slice of bytes
abbrev pub Bytes : List ℕ → Type 0
Bytes rec = (k : ℕ) → get_or rec k 0 < 256

-- an accepted record, read and written again: its fields by rising tag, and each that it lacks of zeros. Where its tags rise, its bytes
-- return up to the first field that it lacks
abbrev pub RewriteClaim : Type 0
RewriteClaim = (rec d d' : List ℕ) (x x' : Fields) (p : Parameters) (t : Timestamp) (written : WriteAnswer)
    → Bytes rec → ReadPromise rec x (Ok (header p t)) x' → WritePromise (state_from p x') t d written d'
    → length (restored rec) ≤ length d
    → (written ≡ Ok (length (restored rec))) × (take (length (restored rec)) d' ≡ restored rec)
    × (T (rising rec) → take (kept rec) d' ≡ take (kept rec) rec)

-- a field of m zeros: tag 8 of no milliseconds has 2, tag 9 without a barrier has w·n
abbrev pub zero_field : (tag m : ℕ) → List ℕ
zero_field tag m = tag ∷ (bytes 2 m ++ replicate m 0)

-- of a record that passes 7 and whose tags rise: all its bytes return, and after them those fields of zeros that it lacks. Where it has tag 9
-- and no tag 8, tag 8 is put in before tag 9, and the bytes return up to there
pub record Restored (rec : List ℕ) (parts : List Part) : Type 0 where
  pub whole : Among 8 parts → Among 9 parts → (restored rec ≡ rec) × (kept rec ≡ length rec)
  pub without-9 : Among 8 parts → (Among 9 parts → ⊥)
      → (restored rec ≡ rec ++ zero_field 9 (cells (state_in parts))) × (kept rec ≡ length rec)
  pub without-both : (Among 8 parts → ⊥) → (Among 9 parts → ⊥)
      → (restored rec ≡ rec ++ (zero_field 8 2 ++ zero_field 9 (cells (state_in parts)))) × (kept rec ≡ length rec)
  pub without-8 : (Among 8 parts → ⊥) → Among 9 parts
      → (restored rec ≡ take (kept rec) rec ++ (zero_field 8 2 ++ drop (kept rec) rec)) × (kept rec + (3 + length (value_of 9 parts)) ≡ length rec)

abbrev pub RestoredClaim : Type 0
RestoredClaim = (rec : List ℕ) (parts : List Part) → Bytes rec → WholeIn rec parts → T (rising rec) → Restored rec parts

-- the same fields in another order
pub data Reordered : List Part → List Part → Type 0 where
  empty : Reordered [] []
  ahead : {p : Part} {a b : List Part} → Reordered a b → Reordered (p ∷ a) (p ∷ b)
  swap : {p q : Part} {a : List Part} → Reordered (p ∷ q ∷ a) (q ∷ p ∷ a)
  chain : {a b c : List Part} → Reordered a b → Reordered b c → Reordered a c

-- the reader takes any order: a record that passes 7, with its fields put into another order, is read as the same state and timestamp, or
-- refused with the same refusal; and what the reader's promise says of the one, it says of the other
pub record AnyOrderClaim : Type 0 where
  pub decoded : (rec rooms : List ℕ) (parts other : List Part) → Bytes rec → WholeIn rec parts → Reordered parts other
      → decode (joined other) rooms ≡ decode rec rooms
  pub read : (rec : List ℕ) (parts other : List Part) (d d' : Fields) (answer : ReadAnswer) → Bytes rec → WholeIn rec parts
      → Reordered parts other → ReadPromise rec d answer d' → ReadPromise (joined other) d answer d'

-- with this field of zeros after it, a record that lacks the tag is read as the same state and timestamp, or refused with the same refusal,
-- and the reader's promise says the same of both
pub record Means0 (tag : ℕ) (size : State → ℕ) : Type 0 where
  pub decoded : (rec rooms : List ℕ) (parts : List Part) → Bytes rec → WholeIn rec parts → (Among tag parts → ⊥)
      → decode (rec ++ zero_field tag (size (state_in parts))) rooms ≡ decode rec rooms
  pub read : (rec : List ℕ) (parts : List Part) (d d' : Fields) (answer : ReadAnswer) → Bytes rec → WholeIn rec parts → (Among tag parts → ⊥)
      → ReadPromise rec d answer d' → ReadPromise (rec ++ zero_field tag (size (state_in parts))) d answer d'

-- a record without tag 8 means 0 milliseconds; one without tag 9 means no barrier
pub record AbsentClaim : Type 0 where
  pub milliseconds : Means0 8 (λ s. 2)
  pub barriers : Means0 9 cells

-- same exactly where both records are accepted, with one state and one timestamp
pub record BothAre (first second : List ℕ) : Type 0 where
  pub state : State
  pub timestamp : Timestamp
  pub in-first : decode first [] ≡ accepted state timestamp
  pub in-second : decode second [] ≡ accepted state timestamp

-- the answer with the records swapped
abbrev pub swapped : CompareAnswer → CompareAnswer
swapped (Ok Same) = Ok Same
swapped (Ok FirstNewer) = Ok SecondNewer
swapped (Ok SecondNewer) = Ok FirstNewer
swapped (Ok Conflict) = Ok Conflict
swapped (Err (First r)) = Err (Second r)
swapped (Err (Second r)) = Err (First r)

-- x is later than y: by second, then millisecond
abbrev pub Later : Timestamp → Timestamp → Type 0
Later x y = (y.seconds < x.seconds) ⊎ ((y.seconds ≡ x.seconds) × (y.milliseconds < x.milliseconds))

pub record CompareClaim : Type 0 where
  pub same : (first second : List ℕ) (answer : CompareAnswer) → ComparePromise first second answer → (answer ≡ Ok Same) ↔ BothAre first second
  -- two accepted records: the newer timestamp tells, and under one timestamp different states conflict
  pub newer : (first second : List ℕ) (answer : CompareAnswer) (s t : State) (x y : Timestamp) → decode first [] ≡ accepted s x
      → decode second [] ≡ accepted t y
      → ComparePromise first second answer
      → ((answer ≡ Ok FirstNewer) ↔ Later x y) × ((answer ≡ Ok SecondNewer) ↔ Later y x) × ((answer ≡ Ok Conflict) ↔ ((x ≡ y) × (s ≡ t → ⊥)))
  -- the first record is refused before the second is looked at
  pub first-refused : (first second : List ℕ) (answer : CompareAnswer) (r : Refusal) → ComparePromise first second answer
      → (answer ≡ Err (First r)) ↔ (decode first [] ≡ refused r)
  pub second-refused : (first second : List ℕ) (answer : CompareAnswer) (r : Refusal) (s : State) (x : Timestamp) → decode first [] ≡ accepted s x
      → ComparePromise first second answer → (answer ≡ Err (Second r)) ↔ (decode second [] ≡ refused r)
  pub swap : (first second : List ℕ) (answer back : CompareAnswer) (s t : State) (x y : Timestamp) → decode first [] ≡ accepted s x
      → decode second [] ≡ accepted t y
      → ComparePromise first second answer → ComparePromise second first back → back ≡ swapped answer

-- ==== demand 3: what is kept, of what the public calls leave

-- the scaled energy rate is the product rule's: let h change by 1,572,864 times its tendency, u and v by theirs, all times e (this is
-- the time of e times 3,145,728 spacings); then four times total energy changes by e times the rate, but for terms in e²
abbrev pub changed : State → ℤ → (dh du dv : List ℤ) → State
changed s e dh du dv =
    with_flow s
    (by_cell s.w s.n (λ i j. at s.w s.h i j +ℤ e *ℤ (divergence_scale *ℤ at s.w dh i j)))
    (by_cell s.w s.n (λ i j. at s.w s.u i j +ℤ e *ℤ at s.w du i j))
    (by_cell s.w s.n (λ i j. at s.w s.v i j +ℤ e *ℤ at s.w dv i j))

abbrev pub EnergyRateClaim : Type 0
EnergyRateClaim = (s : State) (dh du dv : List ℤ) (e : ℤ)
    → (k : ℤ) × (energy4 (changed s e dh du dv) ≡ energy4 s +ℤ e *ℤ energy_rate s dh du dv +ℤ e *ℤ e *ℤ k)

-- the scaled energy rate is zero, for all three kinds and any barriers, at every accepted tendency call
abbrev pub EnergyClaim : Type 0
EnergyClaim = (s : State) (q dh du dv dh' du' dv' : List ℤ) → TendenciesPromise s q dh du dv (Ok tt) dh' du' dv'
    → energy_rate s dh' du' dv' ≡ pos 0

-- and so it is by the definitions with any corners at all (02, U5): q may be any list, of any length and without bounds
abbrev pub AnyCornersEnergyClaim : Type 0
AnyCornersEnergyClaim = (s : State) (q : List ℤ) → WithinLimits s → energy_rate s (h_tendencies s) (u_tendencies s q) (v_tendencies s q) ≡ pos 0

-- the scaled enstrophy rate is zero where the grid wraps both ways: no edge is closed
abbrev pub EnstrophyClaim : Type 0
EnstrophyClaim = (s : State) (q dh du dv dh' du' dv' : List ℤ) → OpenEverywhere s
    → TendenciesPromise s q dh du dv (Ok tt) dh' du' dv'
    → enstrophy_rate s dh' du' dv' q ≡ pos 0

-- which is kind 0 without barriers
abbrev pub PeriodicEnstrophyClaim : Type 0
PeriodicEnstrophyClaim = (s : State) (q dh du dv dh' du' dv' : List ℤ) → s.kind ≡ 0 → s.barriers ≡ replicate (cells s) 0
    → TendenciesPromise s q dh du dv (Ok tt) dh' du' dv'
    → enstrophy_rate s dh' du' dv' q ≡ pos 0

-- over any list of step and run calls from any state, total depth answers after the list what it answered before, plus the inflow
-- due; a refusal stays the same refusal
abbrev pub raised : ℤ → TotalAnswer → TotalAnswer
raised due (Ok x) = Ok (x +ℤ due)
raised due (Err r) = Err r

abbrev pub BalanceClaim : Type 0
BalanceClaim = (s t : State) (calls : List Call) (before after : TotalAnswer) → History s calls t → TotalDepthPromise s before
    → TotalDepthPromise t after
    → after ≡ raised (inflow_due s calls) before

-- any such list keeps the limits
abbrev pub KeptClaim : Type 0
KeptClaim = (s t : State) (calls : List Call) → WithinLimits s → History s calls t → WithinLimits t
