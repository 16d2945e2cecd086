-- Worked examples (01: soundings), as one table that the checker computes from the definitions.
use Rattle.std.specs.Prelude.{Bool, ◌&&◌, List, [], ◌∷◌, ◌++◌, map, ℕ, T, eqb, ℤ, pos, neg_ℤ, length, take, drop, replicate, Float}
use Prim.Native.String.{String}
use Rattle.std.specs.Float.Ieee as Ieee
use Rattle.std.specs.Float.{binary64}
use Rattle.std.specs.Float.Ieee.{to_bits}
use Rattle.model.specs.Numbers.{rnd, eqℤ, same_by, all}
use Rattle.model.specs.Grid.{filled}
use Rattle.model.specs.State.{State, Fields, with_flow, cells, corners}
use Rattle.model.specs.Answers.{told_answer, told_probe, told_probe_grid, told_step, told_run, told_total, told_write, told_read, told_compare}
use Rattle.model.specs.Weights.{weighted, formula_p, formula_m, formula_e, formula_f}
use Rattle.model.specs.Scheme.{vorticity, h_tendencies, u_tendencies, v_tendencies}
use Rattle.model.specs.Doubles.{double, narrow, h_doubles, u_doubles, v_doubles}
use Rattle.model.specs.Rates.{energy_rate, enstrophy_rate}
use Rattle.model.specs.Totals.{total_depth, energy4}
use Rattle.model.specs.Step.{step_test, step_answer, step_state, Ran, run_test, run_of, work_left}
use Rattle.model.specs.Record.{bytes, Decoded, same_state, encode, record_length, restored, kept, compare_answer}
use Rattle.model.specs.Program.{text, program_output}
use Rattle.model.specs.Promises.{answer_of, left_by, probe_of, probe_grid_answer, total_test, total_answer, write_answer, read_answer, read_into, vorticity_test, tendencies_test, write_test, read_of}
use Rattle.model.specs.declared.Timestamp.{Timestamp}
use Rattle.model.specs.Opened.{everything}

-- ---- an example: what a call takes, then what it answers (01's number and values) and what it leaves in each lent slice

pub data Example : Type 0 where
  rounds : (a b r : ℤ) → Example
  weighs : (ne nw sw se : ℤ) → (p m e f : ℤ) → Example
  vorticities : State → (d : List ℤ) → (answer d' : List ℤ) → Example
  tends : State → (q dh du dv : List ℤ) → (answer dh' du' dv' : List ℤ) → Example
  probes : State → (q : List ℤ) (k : ℕ) → (answer doubles : List ℤ) (bits : List ℕ) → Example
  marks : State → (q : List ℤ) (k : ℕ) → (answer : List ℤ) → Example
  probes_grid : State → (q dh du dv : List ℤ) → (answer : List ℤ) (dh' du' dv' : List ℕ) → Example
  rates : State → (q dh du dv : List ℤ) → (energy enstrophy : ℤ) → Example
  steps : State → (inflow work : List ℤ) → (answer h' u' v' work' : List ℤ) → Example
  runs : State → (inflow : List ℤ) (m : ℕ) (work : List ℤ) → (answer h' u' v' work' : List ℤ) → Example
  depth : State → (answer : List ℤ) → Example
  energy : State → (answer : List ℤ) → Example
  writes : State → (t : Timestamp) (d : List ℕ) → (answer : List ℤ) (d' : List ℕ) → Example
  reads : (rec : List ℕ) (d : Fields) → (answer : List ℤ) (d' : Fields) → Example
  rewrites : (rec : List ℕ) → (back : List ℕ) (own : ℕ) → Example
  compares : (first second : List ℕ) → (answer : List ℤ) → Example
  prints : (input : List ℕ) → (output : String) → Example

infix 40 ◌is◌
abbrev ◌is◌ : List ℤ → List ℤ → Bool
a is b = same_by eqℤ a b

-- doubles by their bits, which tell the sign of a zero too, and by their numbers
abbrev bits_are : List Float → List ℕ → Bool
bits_are d bits = same_by eqb (map (to_bits binary64) d) bits

abbrev numbers_are : List Float → List ℤ → Bool
numbers_are d z = same_by Ieee.eq d (map double z)

-- t has s's parameters, bottom and barriers, and these depths and velocities
abbrev state_is : State → State → List ℤ → List ℤ → List ℤ → Bool
state_is s t h u v = same_state t (with_flow s h u v)

abbrev same_fields : Fields → Fields → Bool
same_fields x y = x.h is y.h && x.b is y.b && x.u is y.u && x.v is y.v && same_by eqb x.barriers y.barriers

abbrev read_is : Decoded → (d : Fields) → (answer : List ℤ) (d' : Fields) → Bool
read_is x d a d' = told_read (read_answer x) is a && same_fields (read_into x d) d'

abbrev ran_is : Ran → State → (a h u v : List ℤ) → Bool
ran_is r s a h u v = told_run r.answer is a && state_is s r.state h u v

abbrev pub holds : Example → Bool
holds (rounds a b r) = eqℤ (rnd a b) r
-- by the table, and by the sums of corners
holds (weighs ne nw sw se p m e f) =
    (weighted 0 ne nw sw se ∷ weighted 1 ne nw sw se ∷ weighted 2 ne nw sw se ∷ weighted 3 ne nw sw se ∷ []) is (p ∷ m ∷ e ∷ f ∷ [])
    && (formula_p ne nw sw se ∷ formula_m ne nw sw se ∷ formula_e ne nw sw se ∷ formula_f ne nw sw se ∷ []) is (p ∷ m ∷ e ∷ f ∷ [])
holds (vorticities s d a d') =
    told_answer (answer_of (vorticity_test s (length d))) is a && left_by (vorticity_test s (length d)) (filled (corners s) (vorticity s) d) d is d'
holds (tends s q dh du dv a dh' du' dv') =
    let t = tendencies_test s q (length dh) (length du) (length dv) in
    told_answer (answer_of t) is a
    && left_by t (filled (cells s) (h_tendencies s) dh) dh is dh'
    && left_by t (filled (cells s) (u_tendencies s q) du) du is du'
    && left_by t (filled (cells s) (v_tendencies s q) dv) dv is dv'
holds (probes s q k a d bits) = let t = told_probe (probe_of s q k) in t.0 is a && numbers_are t.1 d && bits_are t.1 bits
holds (marks s q k a) = (told_probe (probe_of s q k)).0 is a
holds (probes_grid s q dh du dv a dh' du' dv') =
    let t = tendencies_test s q (length dh) (length du) (length dv) in
    told_probe_grid (probe_grid_answer (narrow s q) t) is a
    && bits_are (left_by t (filled (cells s) (h_doubles s) (map double dh)) (map double dh)) dh'
    && bits_are (left_by t (filled (cells s) (u_doubles s q) (map double du)) (map double du)) du'
    && bits_are (left_by t (filled (cells s) (v_doubles s q) (map double dv)) (map double dv)) dv'
holds (rates s q dh du dv e z) = eqℤ (energy_rate s dh du dv) e && eqℤ (enstrophy_rate s dh du dv q) z
holds (steps s inflow work a h u v work') =
    told_step (step_answer s inflow (length work)) is a
    && state_is s (step_state s inflow (length work)) h u v
    && work_left (step_test s inflow (length work)) s work is work'
holds (runs s inflow m work a h u v work') =
    ran_is (run_of s inflow m (length work)) s a h u v && work_left (run_test s inflow m (length work)) s work is work'
holds (depth s a) = told_total (total_answer (total_test s) (total_depth s)) is a
holds (energy s a) = told_total (total_answer (total_test s) (energy4 s)) is a
holds (writes s t d a d') =
    told_write (write_answer (record_length s) (write_test s t (length d))) is a
    && same_by eqb (left_by (write_test s t (length d)) (filled (record_length s) (encode s t) d) d) d'
holds (reads rec d a d') = read_is (read_of rec d) d a d'
holds (rewrites rec back own) = same_by eqb (restored rec) back && eqb (kept rec) own
holds (compares x y a) = told_compare (compare_answer x y) is a
holds (prints input output) = same_by eqb (program_output input) (text output)

-- ---- answers and lists

abbrev pub minus : ℕ → ℤ
minus x = neg_ℤ (pos x)

-- 01's number 0: nothing is refused
abbrev pub done : List ℤ
done = pos 0 ∷ []

abbrev just : ℤ → List ℤ
just x = x ∷ []

abbrev pub sevens : ℕ → List ℤ
sevens m = replicate m (pos 7)

abbrev pub zeros : ℕ → List ℤ
zeros m = replicate m (pos 0)

-- m cells without a barrier
abbrev pub unbarred : ℕ → List ℕ
unbarred m = replicate m 0

-- ---- states

-- cases 2, 3, 7, 9 and 10: one cell of depth h
abbrev one : ℤ → State
one h = record { w = 1; n = 1; kind = 0; G = pos 9810; c = pos 10; R = pos 1000; h = h ∷ []; b = pos 0 ∷ []; u = pos 100 ∷ []; v = minus 50 ∷ []; barriers = unbarred 1 }

-- cases 4 to 6: two cells
abbrev two : ℕ → ℤ → State
two kind R = record {
  w = 2;
  n = 1;
  kind = kind;
  G = pos 9810;
  c = pos 0;
  R = R;
  h = pos 2000 ∷ pos 3000 ∷ [];
  b = pos 0 ∷ pos 0 ∷ [];
  u = pos 10 ∷ pos 0 ∷ [];
  v = pos 0 ∷ pos 0 ∷ [];
  barriers = unbarred 2;
}

-- case 8
abbrev four : State
four = record {
  w = 2;
  n = 2;
  kind = 0;
  G = pos 9810;
  c = pos 10000;
  R = pos 1000;
  h = replicate 4 (pos 1000);
  b = replicate 4 (pos 0);
  u = minus 5000 ∷ pos 0 ∷ pos 5000 ∷ pos 0 ∷ [];
  v = pos 5000 ∷ minus 5000 ∷ pos 0 ∷ pos 0 ∷ [];
  barriers = unbarred 4;
}

-- a state with several faults at once, to tell the order of the tests: one row, walled
abbrev faulty : (w : ℕ) (G : ℤ) (h b u v : List ℤ) → State
faulty w G h b u v = record { w = w; n = 1; kind = 2; G = G; c = pos 0; R = pos 1000; h = h; b = b; u = u; v = v; barriers = unbarred w }

-- one cell
abbrev cell : (kind : ℕ) (G c R h b u v : ℤ) → State
cell kind G c R h b u v = record { w = 1; n = 1; kind = kind; G = G; c = c; R = R; h = just h; b = just b; u = just u; v = just v; barriers = unbarred 1 }

-- a grid without fields
abbrev sides : ℕ → ℕ → State
sides w n = record { w = w; n = n; kind = 0; G = pos 1; c = pos 0; R = pos 1000; h = []; b = []; u = []; v = []; barriers = [] }

-- ---- records

abbrev pub time_of : (seconds milliseconds : ℕ) → Timestamp
time_of s ms = record { seconds = s; milliseconds = ms }

-- case 10's record, which has no tag 8 and no tag 9, and the same with seconds and a depth of its own
abbrev pub dock : List ℕ
dock =
    1 ∷ 0 ∷ 3 ∷ 1 ∷ 1 ∷ 0
    ∷ 2 ∷ 0 ∷ 0x0c ∷ 0 ∷ 0 ∷ 0x26 ∷ 0x52 ∷ 0 ∷ 0 ∷ 0 ∷ 0x0a ∷ 0 ∷ 0 ∷ 3 ∷ 0xe8
    ∷ 3 ∷ 0 ∷ 8 ∷ 0 ∷ 0 ∷ 0 ∷ 0 ∷ 0 ∷ 0 ∷ 0 ∷ 0
    ∷ 4 ∷ 0 ∷ 4 ∷ 0 ∷ 0 ∷ 7 ∷ 0xd0
    ∷ 5 ∷ 0 ∷ 4 ∷ 0 ∷ 0 ∷ 0 ∷ 0
    ∷ 6 ∷ 0 ∷ 2 ∷ 0 ∷ 0x64
    ∷ 7 ∷ 0 ∷ 2 ∷ 0xff ∷ 0xce
    ∷ []

abbrev timestamped : ℕ → ℕ → List ℕ
timestamped t h = take 24 dock ++ bytes 8 t ++ (4 ∷ 0 ∷ 4 ∷ []) ++ bytes 4 h ++ drop 39 dock

-- tag 8 of so many milliseconds
abbrev tag8 : ℕ → List ℕ
tag8 ms = 8 ∷ 0 ∷ 2 ∷ bytes 2 ms

-- tag 9 of these barriers
abbrev tag9 : List ℕ → List ℕ
tag9 l = 9 ∷ (bytes 2 (length l) ++ l)

-- five lent fields
abbrev fields : (h b u v : List ℤ) (barriers : List ℕ) → Fields
fields h b u v barriers = record { h = h; b = b; u = u; v = v; barriers = barriers }

-- case 10's record read: its state at this second and millisecond, without a barrier
abbrev reads_dock : List ℕ → (seconds milliseconds : ℕ) → Example
reads_dock rec s ms =
    reads rec (fields (sevens 2) (zeros 1) (zeros 1) (zeros 1) (replicate 2 7))
    (pos 0 ∷ pos 1 ∷ pos 1 ∷ pos 0 ∷ pos 9810 ∷ pos 10 ∷ pos 1000 ∷ pos s ∷ pos ms ∷ [])
    (fields (pos 2000 ∷ pos 7 ∷ []) (zeros 1) (just (pos 100)) (just (minus 50)) (0 ∷ 7 ∷ []))

-- read into these fields, or into five of one number, a record is refused, and they stay: with these numbers, with this number alone, and
-- with 7 and this offset
abbrev refuses_into : List ℕ → Fields → List ℤ → Example
refuses_into rec d answer = reads rec d answer d

abbrev refuses_with : List ℕ → List ℤ → Example
refuses_with rec answer = refuses_into rec (fields (zeros 1) (zeros 1) (zeros 1) (zeros 1) (replicate 1 7)) answer

abbrev refuses_dock : List ℕ → ℕ → Example
refuses_dock rec k = refuses_with rec (just (pos k))

abbrev breaks_at : List ℕ → ℕ → Example
breaks_at rec k = refuses_with rec (pos 7 ∷ pos k ∷ [])

-- three columns and two rows, a channel: its record without tags 8 and 9, and the state that it holds
abbrev six : List ℕ
six =
    1 ∷ 0 ∷ 3 ∷ 3 ∷ 2 ∷ 1
    ∷ 2 ∷ 0 ∷ 0x0c ∷ 0 ∷ 0 ∷ 0x26 ∷ 0x52 ∷ 0 ∷ 0 ∷ 0 ∷ 0x0a ∷ 0 ∷ 0x0f ∷ 0x42 ∷ 0x40
    ∷ 3 ∷ 0 ∷ 8 ∷ 0 ∷ 0 ∷ 0 ∷ 0 ∷ 0 ∷ 0 ∷ 1 ∷ 2
    ∷ 4 ∷ 0 ∷ 24 ∷ 0 ∷ 0 ∷ 4 ∷ 26 ∷ 0 ∷ 0 ∷ 7 ∷ 208 ∷ 0 ∷ 0 ∷ 11 ∷ 184 ∷ 0 ∷ 0 ∷ 5 ∷ 220 ∷ 0 ∷ 0 ∷ 9 ∷ 196 ∷ 0 ∷ 0 ∷ 3 ∷ 242
    ∷ 5 ∷ 0 ∷ 24 ∷ 0 ∷ 0 ∷ 0 ∷ 1 ∷ 0 ∷ 0 ∷ 0 ∷ 2 ∷ 0 ∷ 0 ∷ 0 ∷ 3 ∷ 0 ∷ 0 ∷ 0 ∷ 4 ∷ 0 ∷ 0 ∷ 0 ∷ 5 ∷ 0 ∷ 0 ∷ 0 ∷ 6
    ∷ 6 ∷ 0 ∷ 12 ∷ 0 ∷ 3 ∷ 255 ∷ 252 ∷ 0 ∷ 5 ∷ 255 ∷ 250 ∷ 0 ∷ 7 ∷ 255 ∷ 248
    ∷ 7 ∷ 0 ∷ 12 ∷ 0 ∷ 0 ∷ 0 ∷ 0 ∷ 0 ∷ 0 ∷ 0 ∷ 9 ∷ 255 ∷ 246 ∷ 0 ∷ 11
    ∷ []

abbrev six_state : State
six_state = record {
  w = 3;
  n = 2;
  kind = 1;
  G = pos 9810;
  c = pos 10;
  R = pos 1000000;
  h = pos 1050 ∷ pos 2000 ∷ pos 3000 ∷ pos 1500 ∷ pos 2500 ∷ pos 1010 ∷ [];
  b = pos 1 ∷ pos 2 ∷ pos 3 ∷ pos 4 ∷ pos 5 ∷ pos 6 ∷ [];
  u = pos 3 ∷ minus 4 ∷ pos 5 ∷ minus 6 ∷ pos 7 ∷ minus 8 ∷ [];
  v = pos 0 ∷ pos 0 ∷ pos 0 ∷ pos 9 ∷ minus 10 ∷ pos 11 ∷ [];
  barriers = unbarred 6;
}

-- a lake at rest over an uneven bottom
abbrev lake : State
lake = record {
  w = 3;
  n = 2;
  kind = 2;
  G = pos 9810;
  c = pos 10;
  R = pos 1000;
  h = pos 1010 ∷ pos 1020 ∷ pos 1030 ∷ pos 1040 ∷ pos 1050 ∷ pos 1060 ∷ [];
  b = pos 90 ∷ pos 80 ∷ pos 70 ∷ pos 60 ∷ pos 50 ∷ pos 40 ∷ [];
  u = zeros 6;
  v = zeros 6;
  barriers = unbarred 6;
}

-- ---- 01's cases 1 to 10

abbrev pub worked_examples : List Example
worked_examples =
    -- 1
    rounds (pos 5) (pos 2) (pos 3)
    ∷ rounds (minus 5) (pos 2) (minus 3)
    ∷ rounds (pos 7) (pos 3) (pos 2)
    ∷ rounds (pos 0) (pos 9) (pos 0)
    -- 2
    ∷ vorticities (one (pos 2000)) (zeros 1) done (just (pos 328))
    ∷ tends (one (pos 2000)) (just (pos 328)) (zeros 1) (zeros 1) (zeros 1) done (zeros 1) (just (minus 1574400000)) (just (minus 3148800000))
    ∷ energy (one (pos 2000)) (pos 0 ∷ pos 78530000000 ∷ [])
    -- 3
    ∷ steps (one (pos 2000)) (zeros 1) (sevens 8) done (just (pos 2000)) (just (pos 99)) (just (minus 51)) (zeros 8)
    -- 4
    ∷ tends (two 0 (pos 1000)) (zeros 2) (zeros 2) (zeros 2) (zeros 2) done (pos 50000 ∷ minus 50000 ∷ []) (pos 30859591680000 ∷ minus 30859591680000 ∷ []) (zeros 2)
    ∷ energy (two 0 (pos 1000)) (pos 0 ∷ pos 255060500000 ∷ [])
    -- 5
    ∷ steps (two 0 (pos 100000)) (zeros 2) (sevens 16) done (pos 2005 ∷ pos 2995 ∷ []) (pos 108 ∷ minus 98 ∷ []) (zeros 2) (zeros 16)
    -- 6: refusal 5, field u, cell 0
    ∷ tends (two 2 (pos 1000)) (zeros 6) (zeros 2) (zeros 2) (zeros 2) (pos 5 ∷ pos 2 ∷ pos 0 ∷ []) (zeros 2) (zeros 2) (zeros 2)
    -- 7: refusal 4, field h, cell 0; and accepted
    ∷ vorticities (one (pos 999)) (zeros 1) (pos 4 ∷ pos 0 ∷ pos 0 ∷ []) (zeros 1)
    ∷ tends (one (pos 999)) (just (pos 328)) (zeros 1) (zeros 1) (zeros 1) (pos 4 ∷ pos 0 ∷ pos 0 ∷ []) (zeros 1) (zeros 1) (zeros 1)
    ∷ energy (one (pos 999)) (pos 4 ∷ pos 0 ∷ pos 0 ∷ [])
    ∷ depth (one (pos 1000)) (pos 0 ∷ pos 1000 ∷ [])
    ∷ vorticities (one (pos 1000)) (zeros 1) done (just (pos 655))
    ∷ tends (one (pos 1000)) (just (pos 655)) (zeros 1) (zeros 1) (zeros 1) done (zeros 1) (just (minus 1572000000)) (just (minus 3144000000))
    ∷ energy (one (pos 1000)) (pos 0 ∷ pos 19645000000 ∷ [])
    -- 8: q(0,0), and the other three
    ∷ vorticities four (zeros 4) done (pos 1966080 ∷ pos 0 ∷ pos 0 ∷ pos 655360 ∷ [])
    -- 9
    ∷ steps (one (pos 2000)) (zeros 1) (sevens 7) (just (pos 2)) (just (pos 2000)) (just (pos 100)) (just (minus 50)) (sevens 7)
    ∷ runs (one (pos 2000)) (zeros 1) 0 (sevens 9) (pos 0 ∷ pos 0 ∷ []) (just (pos 2000)) (just (pos 100)) (just (minus 50)) (zeros 8 ++ sevens 1)
    ∷ runs (one (pos 100000)) (just (pos 1)) 10001 (sevens 9) (just (pos 1)) (just (pos 100000)) (just (pos 100)) (just (minus 50)) (sevens 9)
    ∷ runs (one (pos 100000)) (just (pos 1)) 10000 (sevens 7) (just (pos 2)) (just (pos 100000)) (just (pos 100)) (just (minus 50)) (sevens 7)
    -- 10: the program, and its input as a record
    ∷ prints dock "total 2000\n0 0 2000 99 -51\n"
    ∷ writes (one (pos 2000)) (time_of 0 0) (replicate 66 7) (pos 0 ∷ pos 65 ∷ []) (dock ++ tag8 0 ++ tag9 (unbarred 1) ++ (7 ∷ []))
    ∷ reads_dock dock 0 0
    -- and in another order, v first: the same
    ∷ reads_dock (drop 51 dock ++ take 51 dock) 0 0
    ∷ []

-- ---- what 01's cases leave open: which of two causes is told, and what a refusal leaves

abbrev pub orders : List Example
orders =
    -- 1 before 2 before 3 before 4 before 5 before 8
    vorticities (faulty 65 (pos 0) (just (pos 999)) [] (just (pos 1)) (zeros 1)) [] (just (pos 1)) []
    ∷ vorticities (faulty 1 (pos 0) (just (pos 999)) [] (just (pos 1)) (zeros 1)) [] (just (pos 2)) []
    ∷ vorticities (faulty 1 (pos 0) (just (pos 999)) (zeros 1) (just (pos 1)) (zeros 1)) [] (just (pos 3)) []
    ∷ vorticities (faulty 1 (pos 1) (just (pos 999)) (zeros 1) (just (pos 1)) (zeros 1)) [] (pos 4 ∷ pos 0 ∷ pos 0 ∷ []) []
    ∷ vorticities (faulty 1 (pos 1) (just (pos 1000)) (zeros 1) (just (pos 1)) (zeros 1)) [] (pos 5 ∷ pos 2 ∷ pos 0 ∷ []) []
    ∷ vorticities (faulty 1 (pos 1) (just (pos 1000)) (zeros 1) (zeros 1) (zeros 1)) [] (just (pos 8)) []
    -- 4 by h, b, u, v, then q; then lowest cell
    ∷ tends (faulty 2 (pos 1) (pos 1000 ∷ pos 999 ∷ []) (minus 1 ∷ pos 0 ∷ []) (zeros 2) (zeros 2)) (zeros 6) (zeros 2) (zeros 2) (zeros 2) (pos 4 ∷ pos 0 ∷ pos 1 ∷ []) (zeros 2) (zeros 2) (zeros 2)
    ∷ tends (faulty 2 (pos 1) (replicate 2 (pos 1000)) (zeros 2) (pos 0 ∷ pos 5001 ∷ []) (pos 5001 ∷ pos 0 ∷ [])) (zeros 6) (zeros 2) (zeros 2) (zeros 2) (pos 4 ∷ pos 2 ∷ pos 1 ∷ []) (zeros 2) (zeros 2) (zeros 2)
    ∷ tends (faulty 2 (pos 1) (replicate 2 (pos 1000)) (zeros 2) (zeros 2) (zeros 2)) (replicate 6 (pos 2000001)) (zeros 2) (zeros 2) (zeros 2) (pos 4 ∷ pos 4 ∷ pos 0 ∷ []) (zeros 2) (zeros 2) (zeros 2)
    ∷ tends (faulty 2 (pos 1) (replicate 2 (pos 1000)) (zeros 2) (pos 0 ∷ pos 1 ∷ []) (pos 0 ∷ pos 1 ∷ [])) (zeros 6) (zeros 2) (zeros 2) (zeros 2) (pos 5 ∷ pos 3 ∷ pos 1 ∷ []) (zeros 2) (zeros 2) (zeros 2)
    -- 4 and 5 by field, whatever the cell
    ∷ tends (faulty 2 (pos 1) (replicate 2 (pos 1000)) (pos 0 ∷ minus 1 ∷ []) (pos 5001 ∷ pos 0 ∷ []) (zeros 2)) (zeros 6) (zeros 2) (zeros 2) (zeros 2) (pos 4 ∷ pos 1 ∷ pos 1 ∷ []) (zeros 2) (zeros 2) (zeros 2)
    ∷ tends (faulty 2 (pos 1) (replicate 2 (pos 1000)) (zeros 2) (zeros 2) (pos 0 ∷ pos 5001 ∷ [])) (replicate 6 (pos 2000001)) (zeros 2) (zeros 2) (zeros 2) (pos 4 ∷ pos 3 ∷ pos 1 ∷ []) (zeros 2) (zeros 2) (zeros 2)
    ∷ tends (faulty 1 (pos 1) (just (pos 1000)) (zeros 1) (just (pos 1)) (zeros 1)) (replicate 4 (pos 2000001)) (zeros 1) (zeros 1) (zeros 1) (pos 4 ∷ pos 4 ∷ pos 0 ∷ []) (zeros 1) (zeros 1) (zeros 1)
    ∷ depth (faulty 1 (pos 1) (just (pos 1000)) (zeros 1) (just (pos 1)) (just (pos 1))) (pos 5 ∷ pos 2 ∷ pos 0 ∷ [])
    -- 8 of each destination
    ∷ tends (faulty 1 (pos 1) (just (pos 1000)) (zeros 1) (zeros 1) (zeros 1)) (zeros 4) [] (zeros 1) (zeros 1) (just (pos 8)) [] (zeros 1) (zeros 1)
    ∷ tends (faulty 1 (pos 1) (just (pos 1000)) (zeros 1) (zeros 1) (zeros 1)) (zeros 4) (zeros 1) [] (zeros 1) (just (pos 8)) (zeros 1) [] (zeros 1)
    ∷ tends (faulty 1 (pos 1) (just (pos 1000)) (zeros 1) (zeros 1) (zeros 1)) (zeros 4) (zeros 1) (zeros 1) [] (just (pos 8)) (zeros 1) (zeros 1) []
    ∷ writes (one (pos 2000)) (time_of 0 0) (replicate 64 7) (just (pos 8)) (replicate 64 7)
    -- a state alone, with a potential vorticity, with an inflow and a work space, and with a run length too
    ∷ depth (one (pos 2000)) (pos 0 ∷ pos 2000 ∷ [])
    ∷ depth (two 2 (pos 1000)) (pos 5 ∷ pos 2 ∷ pos 0 ∷ [])
    ∷ tends (one (pos 2000)) (just (pos 2000001)) (zeros 1) (zeros 1) (zeros 1) (pos 4 ∷ pos 4 ∷ pos 0 ∷ []) (zeros 1) (zeros 1) (zeros 1)
    ∷ tends (one (pos 2000)) [] (zeros 1) (zeros 1) (zeros 1) (just (pos 2)) (zeros 1) (zeros 1) (zeros 1)
    ∷ steps (one (pos 2000)) (just (pos 1001)) (sevens 8) (pos 4 ∷ pos 5 ∷ pos 0 ∷ []) (just (pos 2000)) (just (pos 100)) (just (minus 50)) (zeros 8)
    ∷ runs (one (pos 2000)) (zeros 1) 1 (sevens 7) (just (pos 2)) (just (pos 2000)) (just (pos 100)) (just (minus 50)) (sevens 7)
    ∷ runs (one (pos 2000)) [] 10001 [] (just (pos 1)) (just (pos 2000)) (just (pos 100)) (just (minus 50)) []
    ∷ runs (one (pos 999)) (zeros 1) 10000 (sevens 7) (just (pos 2)) (just (pos 999)) (just (pos 100)) (just (minus 50)) (sevens 7)
    ∷ runs (one (pos 999)) (just (pos 1001)) 10000 (sevens 8) (pos 4 ∷ pos 0 ∷ pos 0 ∷ []) (just (pos 999)) (just (pos 100)) (just (minus 50)) (zeros 8)
    -- a run of 10,000 steps is short enough: it is refused with 6, not with 1
    ∷ runs (one (pos 100000)) (just (pos 1)) 10000 (sevens 8) (pos 6 ∷ pos 1 ∷ pos 0 ∷ pos 0 ∷ pos 0 ∷ []) (just (pos 100000)) (just (pos 100)) (just (minus 50)) (zeros 8)
    -- a channel has a wall in the south and none in the west
    ∷ depth (cell 1 (pos 1) (pos 0) (pos 1000) (pos 1000) (pos 0) (pos 1) (pos 0)) (pos 0 ∷ pos 1000 ∷ [])
    ∷ depth (cell 1 (pos 1) (pos 0) (pos 1000) (pos 1000) (pos 0) (pos 0) (pos 1)) (pos 5 ∷ pos 3 ∷ pos 0 ∷ [])
    ∷ depth (cell 1 (pos 1) (pos 0) (pos 1000) (pos 1000) (pos 0) (pos 0) (pos 0)) (pos 0 ∷ pos 1000 ∷ [])
    -- 3, 4 and 6 clear the work space; 6 keeps the state
    ∷ steps (faulty 1 (pos 0) (just (pos 1000)) (zeros 1) (zeros 1) (zeros 1)) (zeros 1) (sevens 9) (just (pos 3)) (just (pos 1000)) (zeros 1) (zeros 1) (zeros 8 ++ sevens 1)
    ∷ steps (faulty 1 (pos 1) (just (pos 1000)) (zeros 1) (zeros 1) (zeros 1)) (just (pos 1001)) (sevens 8) (pos 4 ∷ pos 5 ∷ pos 0 ∷ []) (just (pos 1000)) (zeros 1) (zeros 1) (zeros 8)
    ∷ steps (faulty 1 (pos 1) (just (pos 1000)) (zeros 1) (zeros 1) (zeros 1)) (just (minus 1)) (sevens 8) (pos 6 ∷ pos 1 ∷ pos 0 ∷ pos 0 ∷ []) (just (pos 1000)) (zeros 1) (zeros 1) (zeros 8)
    -- 6 by h, u, v: a pass that all three leave, one that u and v leave, one that v alone leaves
    ∷ steps (cell 0 (pos 1) (pos 10000) (pos 1000) (pos 1000) (pos 0) (pos 5000) (pos 5000)) (just (minus 1)) (sevens 8) (pos 6 ∷ pos 1 ∷ pos 0 ∷ pos 0 ∷ []) (just (pos 1000)) (just (pos 5000)) (just (pos 5000)) (zeros 8)
    ∷ steps (cell 0 (pos 1) (pos 10000) (pos 1000) (pos 1000) (pos 0) (pos 5000) (pos 5000)) (zeros 1) (sevens 8) (pos 6 ∷ pos 1 ∷ pos 2 ∷ pos 0 ∷ []) (just (pos 1000)) (just (pos 5000)) (just (pos 5000)) (zeros 8)
    ∷ steps (cell 0 (pos 1) (pos 10000) (pos 1000) (pos 1000) (pos 0) (pos 5000) (pos 0)) (zeros 1) (sevens 8) (pos 6 ∷ pos 1 ∷ pos 3 ∷ pos 0 ∷ []) (just (pos 1000)) (just (pos 5000)) (zeros 1) (zeros 8)
    -- 1 of a run before 2; 2 of the work space before 3; a run refused with 4
    ∷ runs (faulty 1 (pos 1) (just (pos 1000)) [] (zeros 1) (zeros 1)) (zeros 1) 10001 (sevens 8) (just (pos 1)) (just (pos 1000)) (zeros 1) (zeros 1) (sevens 8)
    ∷ runs (one (pos 100000)) (just (pos 1)) 10001 (sevens 7) (just (pos 1)) (just (pos 100000)) (just (pos 100)) (just (minus 50)) (sevens 7)
    ∷ steps (faulty 1 (pos 0) (just (pos 1000)) (zeros 1) (zeros 1) (zeros 1)) (zeros 1) (sevens 7) (just (pos 2)) (just (pos 1000)) (zeros 1) (zeros 1) (sevens 7)
    ∷ runs (faulty 1 (pos 1) (just (pos 999)) (zeros 1) (zeros 1) (zeros 1)) (zeros 1) 1 (sevens 8) (pos 4 ∷ pos 0 ∷ pos 0 ∷ []) (just (pos 999)) (zeros 1) (zeros 1) (zeros 8)
    -- a run that its third step stops, at cell 0 and at cell 1
    ∷ runs (faulty 2 (pos 1) (replicate 2 (pos 1500)) (zeros 2) (zeros 2) (zeros 2)) (pos 0 ∷ minus 200 ∷ []) 5 (sevens 16) (pos 6 ∷ pos 1 ∷ pos 0 ∷ pos 1 ∷ pos 2 ∷ []) (pos 1500 ∷ pos 1100 ∷ []) (zeros 2) (zeros 2) (zeros 16)
    ∷ runs (faulty 1 (pos 1) (just (pos 1500)) (zeros 1) (zeros 1) (zeros 1)) (just (minus 200)) 5 (sevens 8) (pos 6 ∷ pos 1 ∷ pos 0 ∷ pos 0 ∷ pos 2 ∷ []) (just (pos 1100)) (zeros 1) (zeros 1) (zeros 8)
    -- 7 at a tag: 1 or 2 bytes left; unknown tag; repeated tag; value past the end; wrong length; then a tag missing
    ∷ breaks_at (dock ++ (1 ∷ [])) 56
    ∷ breaks_at (dock ++ (1 ∷ 0 ∷ [])) 56
    ∷ breaks_at (dock ++ (10 ∷ 0 ∷ 0 ∷ [])) 56
    ∷ breaks_at (dock ++ (0 ∷ 0 ∷ 0 ∷ [])) 56
    ∷ breaks_at (dock ++ (7 ∷ 0 ∷ 2 ∷ 0 ∷ 0 ∷ [])) 56
    ∷ breaks_at (take 55 dock) 51
    ∷ breaks_at (1 ∷ 0 ∷ 2 ∷ 1 ∷ 1 ∷ drop 6 dock) 0
    ∷ breaks_at (take 51 dock) 51
    ∷ breaks_at [] 0
    -- reading: 7 before 1 before 2 before 8 before 3
    ∷ refuses_into (drop 51 dock ++ take 51 (1 ∷ 0 ∷ 3 ∷ 1 ∷ 1 ∷ 3 ∷ drop 6 dock)) (fields [] [] [] [] []) (just (pos 1))
    ∷ refuses_into (take 3 dock ++ (1 ∷ 1 ∷ 3 ∷ []) ++ take 45 (drop 6 dock) ++ (7 ∷ 0 ∷ 1 ∷ 0 ∷ [])) (fields [] [] [] [] []) (just (pos 1))
    ∷ refuses_into (take 51 dock ++ (7 ∷ 0 ∷ 1 ∷ 0 ∷ [])) (fields [] [] [] [] []) (just (pos 2))
    ∷ refuses_into (take 9 dock ++ replicate 12 0 ++ drop 21 dock) (fields (zeros 1) (zeros 1) (zeros 1) [] (unbarred 1)) (just (pos 8))
    ∷ refuses_dock (take 9 dock ++ replicate 12 0 ++ drop 21 dock) 3
    -- a record of six cells, written and read
    ∷ writes six_state (time_of 258 772) (replicate 131 7) (pos 0 ∷ pos 130 ∷ []) (six ++ tag8 772 ++ tag9 (unbarred 6) ++ (7 ∷ []))
    ∷ reads six (fields (sevens 7) (sevens 7) (sevens 7) (sevens 7) (replicate 7 7))
    (pos 0 ∷ pos 3 ∷ pos 2 ∷ pos 1 ∷ pos 9810 ∷ pos 10 ∷ pos 1000000 ∷ pos 258 ∷ pos 0 ∷ [])
    (fields (six_state.h ++ sevens 1) (six_state.b ++ sevens 1) (six_state.u ++ sevens 1) (six_state.v ++ sevens 1) (unbarred 6 ++ (7 ∷ [])))
    -- the newer timestamp tells; under one timestamp the states do
    ∷ compares dock dock (pos 0 ∷ pos 0 ∷ [])
    ∷ compares (timestamped 0 2001) (timestamped 0 2000) (pos 0 ∷ pos 3 ∷ [])
    ∷ compares (timestamped 256 2000) (timestamped 1 2000) (pos 0 ∷ pos 1 ∷ [])
    ∷ compares (timestamped 255 2001) (timestamped 256 2000) (pos 0 ∷ pos 2 ∷ [])
    ∷ compares [] (take 51 dock) (pos 7 ∷ pos 1 ∷ pos 0 ∷ [])
    ∷ compares dock (take 51 dock) (pos 7 ∷ pos 2 ∷ pos 51 ∷ [])
    -- the program on six cells, each in its line; its refusals carry the number alone
    ∷ prints (encode lake (time_of 0 0)) "total 6210\n0 0 1010 0 0\n1 0 1020 0 0\n2 0 1030 0 0\n0 1 1040 0 0\n1 1 1050 0 0\n2 1 1060 0 0\n"
    ∷ prints (encode (cell 0 (pos 1) (pos 10000) (pos 1000) (pos 1000) (pos 0) (pos 5000) (pos 5000)) (time_of 0 999)) "refused 6\n"
    ∷ prints [] "refused 7\n"
    ∷ prints (timestamped 0 999) "refused 4\n"
    ∷ []

-- ---- timestamps to the millisecond (02: U1)

abbrev pub timestamps : List Example
timestamps =
    -- written, big-endian, after tag 7
    writes (one (pos 2000)) (time_of 5 999) (replicate 65 7) (pos 0 ∷ pos 65 ∷ []) (timestamped 5 2000 ++ (8 ∷ 0 ∷ 2 ∷ 3 ∷ 0xe7 ∷ []) ++ tag9 (unbarred 1))
    -- 9 after 3, and before 4, 5 and 8; at full width, so that 65,536 is no 0
    ∷ writes (one (pos 999)) (time_of 0 1000) [] (just (pos 9)) []
    ∷ writes (one (pos 999)) (time_of 0 65536) [] (just (pos 9)) []
    ∷ writes (one (pos 999)) (time_of 0 999) [] (pos 4 ∷ pos 0 ∷ pos 0 ∷ []) []
    ∷ writes (faulty 1 (pos 1) (just (pos 1000)) (zeros 1) (just (pos 1)) (zeros 1)) (time_of 0 1000) [] (just (pos 9)) []
    ∷ writes (faulty 1 (pos 0) (just (pos 999)) (zeros 1) (just (pos 1)) (zeros 1)) (time_of 0 1000) [] (just (pos 3)) []
    ∷ writes (faulty 1 (pos 0) (just (pos 999)) [] (just (pos 1)) (zeros 1)) (time_of 0 1000) [] (just (pos 2)) []
    ∷ writes (faulty 65 (pos 0) (just (pos 999)) [] (just (pos 1)) (zeros 1)) (time_of 0 1000) [] (just (pos 1)) []
    -- read: 8, then 3, then 9, then 4
    ∷ refuses_dock (timestamped 0 999 ++ tag8 1000) 9
    ∷ refuses_dock (timestamped 0 2000 ++ tag8 65535) 9
    ∷ refuses_into (timestamped 0 999 ++ tag8 1000) (fields (zeros 1) (zeros 1) (zeros 1) [] (unbarred 1)) (just (pos 8))
    ∷ refuses_dock (take 9 dock ++ replicate 12 0 ++ drop 21 dock ++ tag8 1000) 3
    ∷ refuses_with (timestamped 0 999 ++ tag8 999) (pos 4 ∷ pos 0 ∷ pos 0 ∷ [])
    -- anywhere, once, of two bytes; the other seven are still required
    ∷ reads_dock (tag8 250 ++ dock) 0 250
    ∷ reads_dock (take 6 dock ++ tag8 999 ++ drop 6 dock) 0 999
    ∷ breaks_at (dock ++ (8 ∷ 0 ∷ 0 ∷ [])) 56
    ∷ breaks_at (dock ++ (8 ∷ 0 ∷ 1 ∷ 0 ∷ [])) 56
    ∷ breaks_at (dock ++ (8 ∷ 0 ∷ 3 ∷ 0 ∷ 0 ∷ 0 ∷ [])) 56
    ∷ breaks_at (dock ++ tag8 0 ++ tag8 0) 61
    ∷ breaks_at (take 51 dock ++ tag8 0) 56
    -- read and written again
    ∷ rewrites dock (dock ++ tag8 0 ++ tag9 (unbarred 1)) 56
    ∷ rewrites (dock ++ tag8 250) (dock ++ tag8 250 ++ tag9 (unbarred 1)) 61
    ∷ rewrites (tag8 250 ++ dock) (dock ++ tag8 250 ++ tag9 (unbarred 1)) 61
    ∷ rewrites (take 51 dock) [] 0
    -- by second, then millisecond; same and conflict need both equal
    ∷ compares (timestamped 5 2001 ++ tag8 250) (timestamped 5 2000 ++ tag8 249) (pos 0 ∷ pos 1 ∷ [])
    ∷ compares (timestamped 5 2000 ++ tag8 249) (timestamped 5 2000 ++ tag8 250) (pos 0 ∷ pos 2 ∷ [])
    ∷ compares (timestamped 4 2000 ++ tag8 999) (timestamped 5 2000) (pos 0 ∷ pos 2 ∷ [])
    ∷ compares (timestamped 5 2000) (timestamped 4 2001 ++ tag8 999) (pos 0 ∷ pos 1 ∷ [])
    ∷ compares (timestamped 5 2000) (timestamped 5 2000 ++ tag8 0) (pos 0 ∷ pos 0 ∷ [])
    ∷ compares (timestamped 5 2000 ++ tag8 7) (timestamped 5 2001 ++ tag8 7) (pos 0 ∷ pos 3 ∷ [])
    ∷ compares (timestamped 5 2000 ++ tag8 1000) [] (pos 9 ∷ pos 1 ∷ [])
    ∷ compares dock (timestamped 5 2000 ++ tag8 1000) (pos 9 ∷ pos 2 ∷ [])
    -- the step program takes both kinds
    ∷ prints (dock ++ tag8 250) "total 2000\n0 0 2000 99 -51\n"
    ∷ prints (dock ++ tag8 1000) "refused 9\n"
    ∷ []

-- ---- barriers (02: U2)

-- the two cells of case 4 with these velocities and barriers, and of each the fields for a case that is refused
abbrev barred : (u v : List ℤ) (barriers : List ℕ) → State
barred u v barriers = record {
  w = 2;
  n = 1;
  kind = 0;
  G = pos 9810;
  c = pos 0;
  R = pos 100000;
  h = pos 2000 ∷ pos 3000 ∷ [];
  b = zeros 2;
  u = u;
  v = v;
  barriers = barriers;
}

abbrev pair : ℤ → ℤ → List ℤ
pair x y = x ∷ y ∷ []

-- the tendency call refuses such a state, with this q, and fills in nothing
abbrev refuses_tends : State → (q answer : List ℤ) → Example
refuses_tends s q answer = tends s q (sevens 2) (sevens 2) (sevens 2) answer (sevens 2) (sevens 2) (sevens 2)

-- four cells with a jetty of two edges, and a q to lend; with open edges alone, and the tendencies that belong to both
abbrev jetty : List ℕ → State
jetty barriers = record {
  w = 2;
  n = 2;
  kind = 0;
  G = pos 9810;
  c = pos 100;
  R = pos 200000;
  h = pos 2000 ∷ pos 2500 ∷ pos 1500 ∷ pos 3000 ∷ [];
  b = pos 10 ∷ pos 20 ∷ pos 30 ∷ pos 40 ∷ [];
  u = pos 10 ∷ pos 0 ∷ minus 40 ∷ pos 50 ∷ [];
  v = pos 7 ∷ minus 14 ∷ pos 0 ∷ pos 35 ∷ [];
  barriers = barriers;
}

abbrev jetty_vorticity : List ℤ
jetty_vorticity = pos 1000 ∷ minus 2000 ∷ pos 3000 ∷ minus 4000 ∷ []

abbrev rates_of : State → (energy enstrophy : ℤ) → Example
rates_of s = rates s jetty_vorticity (h_tendencies s) (u_tendencies s jetty_vorticity) (v_tendencies s jetty_vorticity)

-- six cells of a basin, whose west wall and a jetty meet; with a velocity on each edge that is open
abbrev corner : (u v : List ℤ) → State
corner u v = record {
  w = 3;
  n = 2;
  kind = 2;
  G = pos 9810;
  c = pos 10;
  R = pos 100000;
  h = replicate 6 (pos 2000);
  b = zeros 6;
  u = u;
  v = v;
  barriers = 0 ∷ 0 ∷ 1 ∷ 3 ∷ 0 ∷ 2 ∷ [];
}

abbrev pub barriers : List Example
barriers =
    -- a barrier on the west edge of cell 1: its tendency is 0, and a step keeps its velocity 0
    tends (barred (pair (pos 10) (pos 0)) (zeros 2) (0 ∷ 1 ∷ [])) (zeros 2) (zeros 2) (zeros 2) (zeros 2) done (pair (pos 50000) (minus 50000)) (pair (pos 30859591680000) (pos 0)) (zeros 2)
    ∷ steps (barred (pair (pos 10) (pos 0)) (zeros 2) (0 ∷ 1 ∷ [])) (zeros 2) (sevens 16) done (pair (pos 2003) (pos 2997)) (pair (pos 108) (pos 0)) (zeros 2) (zeros 16)
    -- 5: u before v, lowest cell, wherever the barrier stands
    ∷ refuses_tends (barred (pair (pos 10) (pos 5)) (zeros 2) (0 ∷ 1 ∷ [])) (zeros 2) (pos 5 ∷ pos 2 ∷ pos 1 ∷ [])
    ∷ refuses_tends (barred (pair (pos 10) (pos 5)) (pair (pos 1) (pos 1)) (2 ∷ 1 ∷ [])) (zeros 2) (pos 5 ∷ pos 2 ∷ pos 1 ∷ [])
    ∷ refuses_tends (barred (zeros 2) (pair (pos 1) (pos 1)) (3 ∷ 0 ∷ [])) (zeros 2) (pos 5 ∷ pos 3 ∷ pos 0 ∷ [])
    ∷ depth (barred (pair (pos 10) (pos 5)) (zeros 2) (2 ∷ 2 ∷ [])) (pos 0 ∷ pos 5000 ∷ [])
    ∷ depth (barred (zeros 2) (pair (pos 1) (pos 1)) (1 ∷ 1 ∷ [])) (pos 0 ∷ pos 5000 ∷ [])
    -- beside a wall: closed by the one or by the other
    ∷ depth (corner (pos 0 ∷ pos 1 ∷ pos 0 ∷ pos 0 ∷ pos 1 ∷ pos 1 ∷ []) (pos 0 ∷ pos 0 ∷ pos 0 ∷ pos 0 ∷ pos 1 ∷ pos 0 ∷ [])) (pos 0 ∷ pos 12000 ∷ [])
    ∷ depth (corner (pos 0 ∷ pos 0 ∷ pos 1 ∷ pos 1 ∷ pos 0 ∷ pos 0 ∷ []) (zeros 6)) (pos 5 ∷ pos 2 ∷ pos 2 ∷ [])
    ∷ depth (corner (pos 0 ∷ pos 0 ∷ pos 0 ∷ pos 1 ∷ pos 0 ∷ pos 0 ∷ []) (pos 1 ∷ zeros 5)) (pos 5 ∷ pos 2 ∷ pos 3 ∷ [])
    ∷ depth (corner (zeros 6) (pos 0 ∷ pos 1 ∷ pos 0 ∷ pos 1 ∷ pos 0 ∷ pos 0 ∷ [])) (pos 5 ∷ pos 3 ∷ pos 1 ∷ [])
    ∷ depth (corner (zeros 6) (pos 0 ∷ pos 0 ∷ pos 0 ∷ pos 0 ∷ pos 0 ∷ pos 1 ∷ [])) (pos 5 ∷ pos 3 ∷ pos 5 ∷ [])
    -- 4: a byte above 3, after v and before q and the inflow; 2: other than w·n bytes
    ∷ refuses_tends (barred (zeros 2) (zeros 2) (255 ∷ 4 ∷ [])) (zeros 2) (pos 4 ∷ pos 6 ∷ pos 0 ∷ [])
    ∷ refuses_tends (barred (zeros 2) (zeros 2) (3 ∷ 128 ∷ [])) (zeros 2) (pos 4 ∷ pos 6 ∷ pos 1 ∷ [])
    ∷ refuses_tends (barred (zeros 2) (pair (pos 0) (pos 5001)) (4 ∷ 0 ∷ [])) (zeros 2) (pos 4 ∷ pos 3 ∷ pos 1 ∷ [])
    ∷ refuses_tends (barred (zeros 2) (zeros 2) (0 ∷ 4 ∷ [])) (pair (pos 2000001) (pos 0)) (pos 4 ∷ pos 6 ∷ pos 1 ∷ [])
    ∷ refuses_tends (barred (zeros 2) (zeros 2) (0 ∷ 3 ∷ [])) (pair (pos 2000001) (pos 0)) (pos 4 ∷ pos 4 ∷ pos 0 ∷ [])
    ∷ steps (barred (zeros 2) (zeros 2) (0 ∷ 4 ∷ [])) (pair (pos 1001) (pos 0)) (sevens 16) (pos 4 ∷ pos 6 ∷ pos 1 ∷ []) (pair (pos 2000) (pos 3000)) (zeros 2) (zeros 2) (zeros 16)
    ∷ refuses_tends (barred (pair (pos 1) (pos 0)) (zeros 2) (1 ∷ 4 ∷ [])) (zeros 2) (pos 4 ∷ pos 6 ∷ pos 1 ∷ [])
    ∷ refuses_tends (barred (zeros 2) (zeros 2) (0 ∷ [])) (zeros 2) (just (pos 2))
    ∷ refuses_tends (barred (zeros 2) (zeros 2) (unbarred 3)) (zeros 2) (just (pos 2))
    -- potential vorticity takes no notice of them
    ∷ vorticities (jetty (0 ∷ 1 ∷ 2 ∷ 0 ∷ [])) (zeros 4) done (vorticity (jetty (unbarred 4)))
    -- the energy rate is zero for any barriers, the enstrophy rate without them
    ∷ rates_of (jetty (0 ∷ 1 ∷ 2 ∷ 0 ∷ [])) (pos 0) (minus 135141859431808000)
    ∷ rates_of (jetty (unbarred 4)) (pos 0) (pos 0)
    -- tag 9: written after tag 8; read wherever it stands; other than w·n bytes are a 2, none too
    ∷ writes (barred (pair (pos 10) (pos 0)) (zeros 2) (2 ∷ 1 ∷ [])) (time_of 0 0) [] (just (pos 8)) []
    ∷ writes (cell 0 (pos 9810) (pos 10) (pos 1000) (pos 2000) (pos 0) (pos 100) (minus 50)) (time_of 0 7) (replicate 65 7) (pos 0 ∷ pos 65 ∷ []) (dock ++ tag8 7 ++ (9 ∷ 0 ∷ 1 ∷ 0 ∷ []))
    ∷ reads_dock (dock ++ tag9 (unbarred 1)) 0 0
    ∷ reads_dock (tag9 (unbarred 1) ++ tag8 250 ++ dock) 0 250
    ∷ reads (encode (barred (pair (pos 10) (pos 0)) (zeros 2) (2 ∷ 1 ∷ [])) (time_of 0 1)) (fields (sevens 2) (sevens 2) (sevens 2) (sevens 2) (replicate 3 7))
    (pos 0 ∷ pos 2 ∷ pos 1 ∷ pos 0 ∷ pos 9810 ∷ pos 0 ∷ pos 100000 ∷ pos 0 ∷ pos 1 ∷ [])
    (fields (pair (pos 2000) (pos 3000)) (zeros 2) (pair (pos 10) (pos 0)) (zeros 2) (2 ∷ 1 ∷ 7 ∷ []))
    ∷ refuses_dock (dock ++ (9 ∷ 0 ∷ 0 ∷ [])) 2
    ∷ refuses_dock (dock ++ tag9 (unbarred 2)) 2
    ∷ refuses_with (dock ++ tag9 (4 ∷ [])) (pos 4 ∷ pos 6 ∷ pos 0 ∷ [])
    ∷ refuses_with (dock ++ tag9 (255 ∷ [])) (pos 4 ∷ pos 6 ∷ pos 0 ∷ [])
    ∷ refuses_with (dock ++ tag9 (3 ∷ [])) (pos 5 ∷ pos 2 ∷ pos 0 ∷ [])
    ∷ refuses_with (dock ++ tag9 (2 ∷ [])) (pos 5 ∷ pos 3 ∷ pos 0 ∷ [])
    ∷ breaks_at (dock ++ tag9 (unbarred 1) ++ tag9 (unbarred 1)) 60
    ∷ refuses_into dock (fields (zeros 1) (zeros 1) (zeros 1) (zeros 1) []) (just (pos 8))
    ∷ refuses_into (dock ++ (9 ∷ 0 ∷ 0 ∷ [])) (fields (zeros 1) (zeros 1) (zeros 1) (zeros 1) []) (just (pos 2))
    -- read and written again: a lacking tag 8 is put in before tag 9, and the bytes return up to there
    ∷ rewrites (dock ++ tag9 (unbarred 1)) (dock ++ tag8 0 ++ tag9 (unbarred 1)) 56
    ∷ rewrites (dock ++ tag8 250 ++ tag9 (unbarred 1)) (dock ++ tag8 250 ++ tag9 (unbarred 1)) 65
    -- same includes them, and an absent tag 9 means none
    ∷ compares dock (dock ++ tag9 (unbarred 1)) (pos 0 ∷ pos 0 ∷ [])
    ∷ compares (encode (barred (zeros 2) (zeros 2) (0 ∷ 1 ∷ [])) (time_of 0 0)) (encode (barred (zeros 2) (zeros 2) (0 ∷ 2 ∷ [])) (time_of 0 0)) (pos 0 ∷ pos 3 ∷ [])
    ∷ compares (encode (barred (zeros 2) (zeros 2) (0 ∷ 1 ∷ [])) (time_of 0 0)) (take 73 (encode (barred (zeros 2) (zeros 2) (unbarred 2)) (time_of 0 0))) (pos 0 ∷ pos 3 ∷ [])
    -- the step program takes them too
    ∷ prints (encode (barred (pair (pos 10) (pos 0)) (zeros 2) (0 ∷ 1 ∷ [])) (time_of 0 0)) "total 5000\n0 0 2003 108 0\n1 0 2997 0 0\n"
    ∷ prints (dock ++ tag9 (1 ∷ [])) "refused 5\n"
    ∷ []

-- ---- 02's U3: the probe

-- -0.0, and 7.0
abbrev minus_zero : ℕ
minus_zero = 9223372036854775808

abbrev seven : ℕ
seven = 4619567317775286272

-- the told numbers of an exact probe, and of a near one
abbrev exact : List ℤ
exact = pos 0 ∷ pos 0 ∷ []

abbrev near : List ℤ
near = pos 0 ∷ pos 1 ∷ []

-- two cells, side by side or one above the other
abbrev two_cells : (w n : ℕ) (G : ℤ) (h b u v : List ℤ) → State
two_cells w n G h b u v = record { w = w; n = n; kind = 0; G = G; c = pos 0; R = pos 1000; h = h; b = b; u = u; v = v; barriers = unbarred 2 }

-- at the ends of the narrow bounds, but for the depth of the second
abbrev narrowest : ℤ → State
narrowest h = two_cells 2 1 (pos 10000) (pair (pos 10000) h) (pair (pos 10000) (pos 0)) (pair (pos 500) (minus 500)) (pair (pos 500) (minus 500))

-- of two cells the far one has this number, and the near one is probed
abbrev far_depth : ℤ → State
far_depth x = two_cells 2 1 (pos 1) (pair (pos 1000) x) (zeros 2) (zeros 2) (zeros 2)

abbrev far_bottom : ℤ → State
far_bottom x = two_cells 2 1 (pos 1) (pair (pos 1000) (pos 1000)) (pair (pos 0) x) (zeros 2) (zeros 2)

abbrev far_u : ℤ → State
far_u x = two_cells 2 1 (pos 1) (pair (pos 1000) (pos 1000)) (zeros 2) (pair (pos 0) x) (zeros 2)

abbrev far_v : ℤ → State
far_v x = two_cells 2 1 (pos 1) (pair (pos 1000) (pos 1000)) (zeros 2) (zeros 2) (pair (pos 0) x)

abbrev lend : ℤ → List ℤ
lend x = pair (pos 0) x

-- a q to lend of a channel of three columns and two rows, which has three rows of corners
abbrev channel_vorticity : List ℤ
channel_vorticity = pos 1000 ∷ minus 2000 ∷ pos 3000 ∷ minus 4000 ∷ pos 5000 ∷ minus 6000 ∷ pos 7000 ∷ minus 8000 ∷ pos 9000 ∷ []

abbrev pub probed : List Example
probed =
    -- 01's case 2: -D of a flow that goes round is -0.0
    probes (one (pos 2000)) (just (pos 328)) 0 exact (pos 0 ∷ minus 1574400000 ∷ minus 3148800000 ∷ []) (minus_zero ∷ 13967762357066137600 ∷ 13972265956693508096 ∷ [])
    -- each narrow bound reached, and one depth past it
    ∷ probes (narrowest (pos 10000)) (pair (pos 1000000) (minus 1000000)) 0 exact (pos 20000000 ∷ minus 314572800000000 ∷ pos 0 ∷ []) (4716133919349538816 ∷ 14047256802941206528 ∷ 0 ∷ [])
    ∷ probes (narrowest (pos 10001)) (pair (pos 1000000) (minus 1000000)) 0 near (pos 20001000 ∷ minus 314541342720000 ∷ pos 0 ∷ []) (4716134187784994816 ∷ 14047256299624726528 ∷ 0 ∷ [])
    -- rounded: the whole numbers are 41965184222088228 and 44646748085517588, then 36016112248688268 and -18212927894737506
    ∷ probes (two_cells 1 2 (pos 9810) (pair (pos 99999) (pos 87654)) (pair (pos 0) (pos 1)) (pair (minus 4999) (minus 4999)) (pair (pos 4997) (pos 4321))) (pair (pos 2000000) (pos 1999997)) 0 near
    (pos 126853428 ∷ pos 41965184222088240 ∷ pos 44646748085517584 ∷ []) (4728285398931865600 ∷ 4855622446705785222 ∷ 4855957642188713890 ∷ [])
    ∷ tends (two_cells 1 2 (pos 9810) (pair (pos 99999) (pos 87654)) (pair (pos 0) (pos 1)) (pair (minus 4999) (minus 4999)) (pair (pos 4997) (pos 4321))) (pair (pos 2000000) (pos 1999997)) (zeros 2) (zeros 2) (zeros 2) done
    (pair (pos 126853428) (minus 126853428)) (pair (pos 41965184222088228) (pos 41965184222088228)) (pair (pos 44646748085517588) (pos 45408609684913428))
    ∷ probes (two_cells 2 1 (pos 10000) (pair (pos 99999) (pos 87654)) (pair (pos 1) (pos 1)) (pair (pos 1) (pos 5000)) (pair (pos 4999) (pos 4997))) (pair (pos 2000000) (pos 1234567)) 0 near
    (minus 938077347 ∷ pos 36016112248688272 ∷ minus 18212927894737504 ∷ []) (13964524408358830080 ∷ 4854877227112825764 ∷ 14073798467879113880 ∷ [])
    -- closed edges have +0.0: a wall, and a barrier
    ∷ probes (record { w = 2; n = 1; kind = 2; G = pos 9810; c = pos 0; R = pos 1000; h = pair (pos 2000) (pos 3000); b = zeros 2; u = pair (pos 0) (pos 10); v = zeros 2; barriers = unbarred 2 }) (pos 1000 ∷ pos 2000 ∷ pos 3000 ∷ pos 4000 ∷ pos 5000 ∷ pos 6000 ∷ []) 0 exact
    (minus 50000 ∷ pos 0 ∷ pos 0 ∷ []) (13900476798111580160 ∷ 0 ∷ 0 ∷ [])
    ∷ probes (barred (pair (pos 10) (pos 0)) (zeros 2) (0 ∷ 1 ∷ [])) (pair (pos 1000) (pos 2000)) 1 exact
    (minus 50000 ∷ pos 0 ∷ minus 900000000 ∷ []) (13900476798111580160 ∷ 0 ∷ 13964204992421167104 ∷ [])
    -- the last cell of a channel
    ∷ probes six_state channel_vorticity 5 exact (pos 31090 ∷ pos 45950228490064 ∷ pos 61318679713648 ∷ []) (4674275168082722816 ∷ 4811222431651047424 ∷ 4813189593407666176 ∷ [])
    -- narrow at both ends and one past, in the cell that is not probed
    ∷ marks (far_depth (pos 9999)) (zeros 2) 0 exact
    ∷ marks (far_depth (pos 10000)) (zeros 2) 0 exact
    ∷ marks (far_depth (pos 10001)) (zeros 2) 0 near
    ∷ marks (far_bottom (pos 10000)) (zeros 2) 0 exact
    ∷ marks (far_bottom (pos 10001)) (zeros 2) 0 near
    ∷ marks (far_u (pos 500)) (zeros 2) 0 exact
    ∷ marks (far_u (pos 501)) (zeros 2) 0 near
    ∷ marks (far_u (minus 500)) (zeros 2) 0 exact
    ∷ marks (far_u (minus 501)) (zeros 2) 0 near
    ∷ marks (far_v (pos 500)) (zeros 2) 0 exact
    ∷ marks (far_v (pos 501)) (zeros 2) 0 near
    ∷ marks (far_v (minus 500)) (zeros 2) 0 exact
    ∷ marks (far_v (minus 501)) (zeros 2) 0 near
    ∷ marks (far_u (pos 0)) (lend (pos 1000000)) 0 exact
    ∷ marks (far_u (pos 0)) (lend (pos 1000001)) 0 near
    ∷ marks (far_u (pos 0)) (lend (minus 1000000)) 0 exact
    ∷ marks (far_u (pos 0)) (lend (minus 1000001)) 0 near
    -- 10: the cell w·n, and any past it; after 1 to 5
    ∷ marks (far_u (pos 0)) (zeros 2) 1 exact
    ∷ marks (far_u (pos 0)) (zeros 2) 2 (just (pos 10))
    ∷ marks (far_u (pos 0)) (zeros 2) 18446744073709551615 (just (pos 10))
    ∷ marks (two 2 (pos 1000)) (zeros 6) 2 (pos 5 ∷ pos 2 ∷ pos 0 ∷ [])
    ∷ marks (far_u (pos 0)) (lend (pos 2000001)) 2 (pos 4 ∷ pos 4 ∷ pos 1 ∷ [])
    ∷ marks (far_u (pos 5001)) (lend (pos 2000001)) 2 (pos 4 ∷ pos 2 ∷ pos 1 ∷ [])
    ∷ marks (cell 0 (pos 0) (pos 0) (pos 1000) (pos 999) (pos 0) (pos 0) (pos 0)) (zeros 1) 1 (just (pos 3))
    ∷ marks (cell 0 (pos 0) (pos 0) (pos 1000) (pos 999) (pos 0) (pos 0) (pos 0)) (zeros 2) 1 (just (pos 2))
    ∷ marks (cell 3 (pos 0) (pos 0) (pos 1000) (pos 999) (pos 0) (pos 0) (pos 0)) (zeros 2) 1 (just (pos 1))
    -- the grid, into destinations of which one is longer
    ∷ probes_grid (narrowest (pos 10000)) (pair (pos 1000000) (minus 1000000)) (zeros 2) (zeros 2) (sevens 3) exact
    (4716133919349538816 ∷ 13939505956204314624 ∷ []) (14047256802941206528 ∷ 4823884766086430720 ∷ []) (0 ∷ 0 ∷ seven ∷ [])
    ∷ probes_grid (narrowest (pos 10001)) (pair (pos 1000000) (minus 1000000)) (zeros 2) (zeros 2) (zeros 2) near
    (4716134187784994816 ∷ 13939506224639770624 ∷ []) (14047256299624726528 ∷ 4823884262769950720 ∷ []) (0 ∷ 0 ∷ [])
    -- 8 of each destination, after 1 to 5; nothing is filled in
    ∷ probes_grid (far_u (pos 0)) (zeros 2) (sevens 1) (sevens 2) (sevens 2) (just (pos 8)) (seven ∷ []) (replicate 2 seven) (replicate 2 seven)
    ∷ probes_grid (far_u (pos 0)) (zeros 2) (sevens 2) (sevens 1) (sevens 2) (just (pos 8)) (replicate 2 seven) (seven ∷ []) (replicate 2 seven)
    ∷ probes_grid (far_u (pos 0)) (zeros 2) (sevens 2) (sevens 2) (sevens 1) (just (pos 8)) (replicate 2 seven) (replicate 2 seven) (seven ∷ [])
    ∷ probes_grid (two 2 (pos 1000)) (zeros 6) [] [] [] (pos 5 ∷ pos 2 ∷ pos 0 ∷ []) [] [] []
    ∷ []

-- ---- corners on a wall (02, U5)

-- a shoal along the south wall and a deep dock along the north wall, of two columns and two rows
abbrev shoal : (kind : ℕ) (u v : List ℤ) (barriers : List ℕ) → State
shoal kind u v barriers = record {
  w = 2;
  n = 2;
  kind = kind;
  G = pos 9810;
  c = pos 100;
  R = pos 1000;
  h = pos 2000 ∷ pos 3000 ∷ pos 50000 ∷ pos 60000 ∷ [];
  b = zeros 4;
  u = u;
  v = v;
  barriers = barriers;
}

abbrev shoal_channel : State
shoal_channel = shoal 1 (pos 30 ∷ minus 20 ∷ pos 10 ∷ pos 40 ∷ []) (pos 0 ∷ pos 0 ∷ pos 7 ∷ minus 9 ∷ []) (unbarred 4)

abbrev shoal_basin : State
shoal_basin = shoal 2 (pos 0 ∷ minus 20 ∷ pos 0 ∷ pos 40 ∷ []) (pos 0 ∷ pos 0 ∷ pos 7 ∷ minus 9 ∷ []) (unbarred 4)

-- a q to lend of such a basin, with this number at its last corner
abbrev nine : ℤ → List ℤ
nine x = pos 1000 ∷ minus 2000 ∷ pos 3000 ∷ minus 4000 ∷ pos 5000 ∷ minus 6000 ∷ pos 7000 ∷ minus 8000 ∷ x ∷ []

-- the tendency call refuses such a grid, with this q, and fills in nothing
abbrev refuses_shoal : State → (q answer : List ℤ) → Example
refuses_shoal s q answer = tends s q (sevens 4) (sevens 4) (sevens 4) answer (sevens 4) (sevens 4) (sevens 4)

-- one column in a channel, and a deeper shoal that is stepped
abbrev narrow_channel : State
narrow_channel = record {
  w = 1;
  n = 2;
  kind = 1;
  G = pos 10;
  c = pos 0;
  R = pos 1000;
  h = pair (pos 2000) (pos 4000);
  b = zeros 2;
  u = pair (pos 50) (minus 50);
  v = pair (pos 0) (pos 20);
  barriers = unbarred 2;
}

abbrev deep_basin : State
deep_basin = record {
  w = 2;
  n = 2;
  kind = 2;
  G = pos 1;
  c = pos 10000;
  R = pos 50000;
  h = pos 20000 ∷ pos 30000 ∷ pos 50000 ∷ pos 60000 ∷ [];
  b = zeros 4;
  u = pos 0 ∷ minus 200 ∷ pos 0 ∷ pos 400 ∷ [];
  v = pos 0 ∷ pos 0 ∷ pos 70 ∷ minus 90 ∷ [];
  barriers = unbarred 4;
}

abbrev pub wall_corners : List Example
wall_corners =
    -- where two walls meet: four times the one cell
    vorticities (cell 2 (pos 9810) (pos 10) (pos 1000) (pos 2000) (pos 0) (pos 0) (pos 0)) (zeros 4) done (replicate 4 (pos 328))
    -- rows 0 and n of a channel, which wraps from west to east; rows 0 and n and columns 0 and w of a basin
    ∷ vorticities shoal_channel (sevens 7) done (pos 2621 ∷ pos 2621 ∷ pos 310 ∷ pos 55 ∷ pos 119 ∷ pos 119 ∷ pos 7 ∷ [])
    ∷ vorticities shoal_basin (zeros 9) done (pos 3277 ∷ pos 2621 ∷ pos 2185 ∷ pos 252 ∷ pos 55 ∷ pos 208 ∷ pos 131 ∷ pos 119 ∷ pos 109 ∷ [])
    -- barriers that end at the walls make no wall corner, and take none away; all along row 0 and column 0 they make no basin
    ∷ vorticities (shoal 2 (pos 0 ∷ minus 20 ∷ pos 0 ∷ pos 0 ∷ []) (pos 0 ∷ pos 0 ∷ pos 0 ∷ minus 9 ∷ []) (0 ∷ 0 ∷ 2 ∷ 1 ∷ [])) (zeros 9) done
    (pos 3277 ∷ pos 2621 ∷ pos 2185 ∷ pos 252 ∷ pos 162 ∷ pos 208 ∷ pos 131 ∷ pos 119 ∷ pos 109 ∷ [])
    ∷ vorticities (shoal 0 (zeros 4) (zeros 4) (3 ∷ 2 ∷ 1 ∷ 0 ∷ [])) (zeros 4) done (replicate 4 (pos 228))
    -- 8: as many places as there are corners, not as there are cells
    ∷ vorticities shoal_channel (sevens 5) (just (pos 8)) (sevens 5)
    ∷ vorticities shoal_basin (sevens 8) (just (pos 8)) (sevens 8)
    ∷ vorticities shoal_basin (sevens 4) (just (pos 8)) (sevens 4)
    -- each cell has its own four corners: the last row those of row n, the last column those of column w
    ∷ tends narrow_channel (pos 1000 ∷ pos 2000 ∷ pos 3000 ∷ []) (zeros 2) (zeros 2) (zeros 2) done (pair (minus 120000) (pos 120000)) (pair (pos 2160000000) (pos 3600000000)) (pair (pos 0) (minus 54514560000))
    ∷ tends shoal_basin (nine (pos 9000)) (zeros 4) (zeros 4) (zeros 4) done
    (minus 264000 ∷ pos 467000 ∷ minus 4036000 ∷ pos 3833000 ∷ [])
    (pos 0 ∷ minus 30857264845824 ∷ pos 0 ∷ minus 308592371965824 ∷ [])
    (pos 0 ∷ pos 0 ∷ minus 1481209144358400 ∷ minus 1758936869478400 ∷ [])
    ∷ probes shoal_basin (nine (pos 9000)) 3 near (pos 3833000 ∷ minus 308592371965824 ∷ minus 1758936869478400 ∷ []) (4705485716170211328 ∷ 14047161116092659712 ∷ 14058266584873861120 ∷ [])
    -- 2: w·n numbers of q, one too few, one too many; 4: the last corner, named by its index
    ∷ refuses_shoal shoal_basin (zeros 4) (just (pos 2))
    ∷ refuses_shoal shoal_basin (zeros 8) (just (pos 2))
    ∷ refuses_shoal shoal_basin (zeros 10) (just (pos 2))
    ∷ refuses_shoal shoal_basin (zeros 6) (just (pos 2))
    ∷ refuses_shoal shoal_channel (zeros 4) (just (pos 2))
    ∷ refuses_shoal shoal_channel (zeros 9) (just (pos 2))
    ∷ refuses_shoal (shoal 0 (zeros 4) (zeros 4) (unbarred 4)) (zeros 9) (just (pos 2))
    ∷ refuses_shoal shoal_basin (nine (pos 2000001)) (pos 4 ∷ pos 4 ∷ pos 8 ∷ [])
    ∷ refuses_shoal shoal_channel (zeros 5 ++ just (minus 2000001)) (pos 4 ∷ pos 4 ∷ pos 5 ∷ [])
    -- narrow looks at the last corner too
    ∷ marks (cell 2 (pos 1) (pos 0) (pos 1000) (pos 1000) (pos 0) (pos 0) (pos 0)) (zeros 3 ++ just (pos 1000000)) 0 exact
    ∷ marks (cell 2 (pos 1) (pos 0) (pos 1000) (pos 1000) (pos 0) (pos 0) (pos 0)) (zeros 3 ++ just (pos 1000001)) 0 near
    -- a step in work space of 8w·n, also where the corners would not fit what is free in it. With 01's corners v would be 48 and -113
    ∷ steps deep_basin (zeros 4) (sevens 32) done (pos 20064 ∷ pos 29995 ∷ pos 49598 ∷ pos 60343 ∷ []) (pos 0 ∷ minus 204 ∷ pos 0 ∷ pos 397 ∷ []) (pos 0 ∷ pos 0 ∷ pos 53 ∷ minus 106 ∷ []) (zeros 32)
    ∷ steps (cell 2 (pos 9810) (pos 10) (pos 1000) (pos 2000) (pos 0) (pos 0) (pos 0)) (just (pos 1)) (sevens 9) done (just (pos 2001)) (zeros 1) (zeros 1) (zeros 8 ++ sevens 1)
    ∷ []

-- ---- weights of four corners (02, U4): ne, nw, sw, se, and then P, M, E, F

abbrev pub weighed : List Example
weighed =
    -- each corner by its own power of ten
    weighs (pos 1) (pos 10) (pos 100) (pos 1000) (pos 1212) (pos 2121) (minus 1089) (minus 891)
    -- the bounds: as far apart as corners can be, and the largest weights
    ∷ weighs (minus 2000000) (pos 2000000) (minus 2000000) (pos 2000000) (minus 4000000) (pos 4000000) (pos 0) (pos 0)
    ∷ weighs (pos 2000000) (pos 2000000) (pos 2000000) (pos 2000000) (pos 12000000) (pos 12000000) (pos 0) (pos 0)
    ∷ weighs (pos 2000000) (pos 2000000) (minus 2000000) (minus 2000000) (pos 0) (pos 0) (pos 8000000) (pos 0)
    ∷ weighs (minus 2000000) (pos 2000000) (pos 2000000) (minus 2000000) (pos 0) (pos 0) (pos 0) (pos 8000000)
    ∷ []

-- ---- each bound at both ends, and one past

abbrev pub bounds : List Example
bounds =
    -- 1: a side of 0 or 65, an unknown kind; 64 by 64 is known, and its empty fields are a 2
    depth (sides 0 1) (just (pos 1))
    ∷ depth (sides 1 0) (just (pos 1))
    ∷ depth (sides 65 64) (just (pos 1))
    ∷ depth (sides 64 65) (just (pos 1))
    ∷ depth (sides 64 64) (just (pos 2))
    ∷ depth (cell 2 (pos 1) (pos 0) (pos 1000) (pos 1000) (pos 0) (pos 0) (pos 0)) (pos 0 ∷ pos 1000 ∷ [])
    ∷ depth (cell 3 (pos 1) (pos 0) (pos 1000) (pos 1000) (pos 0) (pos 0) (pos 0)) (just (pos 1))
    ∷ depth (cell 4 (pos 1) (pos 0) (pos 1000) (pos 1000) (pos 0) (pos 0) (pos 0)) (just (pos 1))
    -- 3: G, c, R
    ∷ depth (cell 0 (pos 1) (pos 0) (pos 1000) (pos 1000) (pos 0) (pos 0) (pos 0)) (pos 0 ∷ pos 1000 ∷ [])
    ∷ depth (cell 0 (pos 0) (pos 0) (pos 1000) (pos 1000) (pos 0) (pos 0) (pos 0)) (just (pos 3))
    ∷ depth (cell 0 (pos 10000) (pos 0) (pos 1000) (pos 1000) (pos 0) (pos 0) (pos 0)) (pos 0 ∷ pos 1000 ∷ [])
    ∷ depth (cell 0 (pos 10001) (pos 0) (pos 1000) (pos 1000) (pos 0) (pos 0) (pos 0)) (just (pos 3))
    ∷ depth (cell 0 (pos 1) (minus 10000) (pos 1000) (pos 1000) (pos 0) (pos 0) (pos 0)) (pos 0 ∷ pos 1000 ∷ [])
    ∷ depth (cell 0 (pos 1) (minus 10001) (pos 1000) (pos 1000) (pos 0) (pos 0) (pos 0)) (just (pos 3))
    ∷ depth (cell 0 (pos 1) (pos 10000) (pos 1000) (pos 1000) (pos 0) (pos 0) (pos 0)) (pos 0 ∷ pos 1000 ∷ [])
    ∷ depth (cell 0 (pos 1) (pos 10001) (pos 1000) (pos 1000) (pos 0) (pos 0) (pos 0)) (just (pos 3))
    ∷ depth (cell 0 (pos 1) (pos 0) (pos 1000) (pos 1000) (pos 0) (pos 0) (pos 0)) (pos 0 ∷ pos 1000 ∷ [])
    ∷ depth (cell 0 (pos 1) (pos 0) (pos 999) (pos 1000) (pos 0) (pos 0) (pos 0)) (just (pos 3))
    ∷ depth (cell 0 (pos 1) (pos 0) (pos 1000000) (pos 1000) (pos 0) (pos 0) (pos 0)) (pos 0 ∷ pos 1000 ∷ [])
    ∷ depth (cell 0 (pos 1) (pos 0) (pos 1000001) (pos 1000) (pos 0) (pos 0) (pos 0)) (just (pos 3))
    -- 4: h, b, u, v
    ∷ depth (cell 0 (pos 1) (pos 0) (pos 1000) (pos 1000) (pos 0) (pos 0) (pos 0)) (pos 0 ∷ pos 1000 ∷ [])
    ∷ depth (cell 0 (pos 1) (pos 0) (pos 1000) (pos 999) (pos 0) (pos 0) (pos 0)) (pos 4 ∷ pos 0 ∷ pos 0 ∷ [])
    ∷ depth (cell 0 (pos 1) (pos 0) (pos 1000) (pos 100000) (pos 0) (pos 0) (pos 0)) (pos 0 ∷ pos 100000 ∷ [])
    ∷ depth (cell 0 (pos 1) (pos 0) (pos 1000) (pos 100001) (pos 0) (pos 0) (pos 0)) (pos 4 ∷ pos 0 ∷ pos 0 ∷ [])
    ∷ depth (cell 0 (pos 1) (pos 0) (pos 1000) (pos 1000) (pos 0) (pos 0) (pos 0)) (pos 0 ∷ pos 1000 ∷ [])
    ∷ depth (cell 0 (pos 1) (pos 0) (pos 1000) (pos 1000) (minus 1) (pos 0) (pos 0)) (pos 4 ∷ pos 1 ∷ pos 0 ∷ [])
    ∷ depth (cell 0 (pos 1) (pos 0) (pos 1000) (pos 1000) (pos 100000) (pos 0) (pos 0)) (pos 0 ∷ pos 1000 ∷ [])
    ∷ depth (cell 0 (pos 1) (pos 0) (pos 1000) (pos 1000) (pos 100001) (pos 0) (pos 0)) (pos 4 ∷ pos 1 ∷ pos 0 ∷ [])
    ∷ depth (cell 0 (pos 1) (pos 0) (pos 1000) (pos 1000) (pos 0) (minus 5000) (pos 0)) (pos 0 ∷ pos 1000 ∷ [])
    ∷ depth (cell 0 (pos 1) (pos 0) (pos 1000) (pos 1000) (pos 0) (minus 5001) (pos 0)) (pos 4 ∷ pos 2 ∷ pos 0 ∷ [])
    ∷ depth (cell 0 (pos 1) (pos 0) (pos 1000) (pos 1000) (pos 0) (pos 5000) (pos 0)) (pos 0 ∷ pos 1000 ∷ [])
    ∷ depth (cell 0 (pos 1) (pos 0) (pos 1000) (pos 1000) (pos 0) (pos 5001) (pos 0)) (pos 4 ∷ pos 2 ∷ pos 0 ∷ [])
    ∷ depth (cell 0 (pos 1) (pos 0) (pos 1000) (pos 1000) (pos 0) (pos 0) (minus 5000)) (pos 0 ∷ pos 1000 ∷ [])
    ∷ depth (cell 0 (pos 1) (pos 0) (pos 1000) (pos 1000) (pos 0) (pos 0) (minus 5001)) (pos 4 ∷ pos 3 ∷ pos 0 ∷ [])
    ∷ depth (cell 0 (pos 1) (pos 0) (pos 1000) (pos 1000) (pos 0) (pos 0) (pos 5000)) (pos 0 ∷ pos 1000 ∷ [])
    ∷ depth (cell 0 (pos 1) (pos 0) (pos 1000) (pos 1000) (pos 0) (pos 0) (pos 5001)) (pos 4 ∷ pos 3 ∷ pos 0 ∷ [])
    -- 4: q and inflow
    ∷ tends (cell 0 (pos 1) (pos 0) (pos 1000) (pos 1000) (pos 0) (pos 0) (pos 0)) (just (minus 2000000)) (zeros 1) (zeros 1) (zeros 1) done (zeros 1) (zeros 1) (zeros 1)
    ∷ tends (cell 0 (pos 1) (pos 0) (pos 1000) (pos 1000) (pos 0) (pos 0) (pos 0)) (just (minus 2000001)) (zeros 1) (zeros 1) (zeros 1) (pos 4 ∷ pos 4 ∷ pos 0 ∷ []) (zeros 1) (zeros 1) (zeros 1)
    ∷ tends (cell 0 (pos 1) (pos 0) (pos 1000) (pos 1000) (pos 0) (pos 0) (pos 0)) (just (pos 2000000)) (zeros 1) (zeros 1) (zeros 1) done (zeros 1) (zeros 1) (zeros 1)
    ∷ tends (cell 0 (pos 1) (pos 0) (pos 1000) (pos 1000) (pos 0) (pos 0) (pos 0)) (just (pos 2000001)) (zeros 1) (zeros 1) (zeros 1) (pos 4 ∷ pos 4 ∷ pos 0 ∷ []) (zeros 1) (zeros 1) (zeros 1)
    ∷ steps (cell 0 (pos 1) (pos 0) (pos 1000) (pos 50000) (pos 0) (pos 0) (pos 0)) (just (minus 1000)) (sevens 8) done (just (pos 49000)) (zeros 1) (zeros 1) (zeros 8)
    ∷ steps (cell 0 (pos 1) (pos 0) (pos 1000) (pos 50000) (pos 0) (pos 0) (pos 0)) (just (minus 1001)) (sevens 8) (pos 4 ∷ pos 5 ∷ pos 0 ∷ []) (just (pos 50000)) (zeros 1) (zeros 1) (zeros 8)
    ∷ steps (cell 0 (pos 1) (pos 0) (pos 1000) (pos 50000) (pos 0) (pos 0) (pos 0)) (just (pos 1000)) (sevens 8) done (just (pos 51000)) (zeros 1) (zeros 1) (zeros 8)
    ∷ steps (cell 0 (pos 1) (pos 0) (pos 1000) (pos 50000) (pos 0) (pos 0) (pos 0)) (just (pos 1001)) (sevens 8) (pos 4 ∷ pos 5 ∷ pos 0 ∷ []) (just (pos 50000)) (zeros 1) (zeros 1) (zeros 8)
    ∷ []

pub all_hold : T (all holds (worked_examples ++ (timestamps ++ (barriers ++ (probed ++ (wall_corners ++ (weighed ++ (bounds ++ orders))))))))
unfolding everything
all_hold = tt
