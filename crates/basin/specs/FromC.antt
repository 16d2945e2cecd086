-- What the C functions return (k), and what they leave in the eight numbers of the answer (exit) and in what else is lent.
use Rattle.std.specs.Prelude.{◌≡◌, Bool, cond, ◌&&◌, List, ℕ, ◌^◌, ℤ, pos, neg_ℤ, get_or, Float}
use Rattle.model.specs.Numbers.{◌to◌, within, rnd}
use Rattle.model.specs.State.{State, Fields}
use Rattle.model.specs.Answers.{answer_numbers, probe_numbers, doubles_in, probe_grid_numbers, step_numbers, run_numbers, total_numbers, total_in, write_numbers, read_numbers, constants_in, compare_numbers}
use Rattle.model.specs.Promises.{VorticityPromise, TendenciesPromise, ProbePromise, ProbeGridPromise, StepPromise, RunPromise, WritePromise, ReadPromise, ComparePromise}
use Rattle.model.specs.declared.Parameters.{Parameters}
use Rattle.model.specs.declared.Timestamp.{Timestamp}
use Rattle.model.specs.declared.ProbeAnswer.{ProbeAnswer}
use Rattle.model.specs.Answers.{Answer, CompareAnswer, ProbeGridAnswer, ReadAnswer, RunAnswer, StepAnswer, TotalAnswer, WriteAnswer}
use Rattle.answers.specs.Told.{Told, or_kept}

-- the parameters, from the six numbers that a C function takes for them
abbrev pub parameters : (w n kind : ℕ) (g c r : ℤ) → Parameters
parameters w n kind g c r = record { w = w; n = n; kind = kind; g = g; c = c; r = r }

-- a call that fills: its promise, of the answer that is told. The promise leaves one answer possible
pub record VorticityFromC (s : State) (q q' : List ℤ) (k : ℕ) (exit : List ℕ) : Type 0 where
  pub answer : Answer
  pub promise : VorticityPromise s q answer q'
  pub told : Told (answer_numbers answer) k exit

pub record TendenciesFromC (s : State) (q dh du dv dh' du' dv' : List ℤ) (k : ℕ) (exit : List ℕ) : Type 0 where
  pub answer : Answer
  pub promise : TendenciesPromise s q dh du dv answer dh' du' dv'
  pub told : Told (answer_numbers answer) k exit

-- the same in doubles: those of a cell are the three lent ones, which a refusal leaves as they were
pub record ProbeFromC (s : State) (q : List ℤ) (cell : ℕ) (doubles doubles' : List Float) (k : ℕ) (exit : List ℕ) : Type 0 where
  pub answer : ProbeAnswer
  pub promise : ProbePromise s q cell answer
  pub holds : doubles' ≡ or_kept (doubles_in answer) doubles
  pub told : Told (probe_numbers answer) k exit

pub record ProbeGridFromC (s : State) (q : List ℤ) (dh du dv dh' du' dv' : List Float) (k : ℕ) (exit : List ℕ) : Type 0 where
  pub answer : ProbeGridAnswer
  pub promise : ProbeGridPromise s q dh du dv answer dh' du' dv'
  pub told : Told (probe_grid_numbers answer) k exit

-- step and run, from a state to the state that they leave
pub record StepFromC (s : State) (inflow work : List ℤ) (s' : State) (work' : List ℤ) (k : ℕ) (exit : List ℕ) : Type 0 where
  pub answer : StepAnswer
  pub promise : StepPromise s inflow work answer s' work'
  pub told : Told (step_numbers answer) k exit

pub record RunFromC (s : State) (inflow : List ℤ) (m : ℕ) (work : List ℤ) (s' : State) (work' : List ℤ) (k : ℕ) (exit : List ℕ) : Type 0 where
  pub answer : RunAnswer
  pub promise : RunPromise s inflow m work answer s' work'
  pub told : Told (run_numbers answer) k exit

-- ---- totals

-- the promise of depth or of energy, of the answer that is told; a refusal leaves the number as it was
pub record TotalFromC (promised : TotalAnswer → Type 0) (total total' : ℤ) (k : ℕ) (exit : List ℕ) : Type 0 where
  pub answer : TotalAnswer
  pub promise : promised answer
  pub holds : total' ≡ get_or (total_in answer) 0 total
  pub told : Told (total_numbers answer) k exit

-- ---- the record

-- the timestamp, from the two numbers that the writer takes for it
abbrev pub timestamp : (seconds milliseconds : ℕ) → Timestamp
timestamp s ms = record { seconds = s; milliseconds = ms }

pub record WriteFromC (s : State) (t : Timestamp) (d d' : List ℕ) (k : ℕ) (exit : List ℕ) : Type 0 where
  pub answer : WriteAnswer
  pub promise : WritePromise s t d answer d'
  pub told : Told (write_numbers answer) k exit

-- G, c and R are the three constants; a refusal leaves them as they were
pub record ReadFromC (rec : List ℕ) (d d' : Fields) (constants constants' : List ℤ) (k : ℕ) (exit : List ℕ) : Type 0 where
  pub answer : ReadAnswer
  pub promise : ReadPromise rec d answer d'
  pub holds : constants' ≡ or_kept (constants_in answer) constants
  pub told : Told (read_numbers answer) k exit

pub record CompareFromC (first second : List ℕ) (k : ℕ) (exit : List ℕ) : Type 0 where
  pub answer : CompareAnswer
  pub promise : ComparePromise first second answer
  pub told : Told (compare_numbers answer) k exit

-- ---- rnd

abbrev pub roundable : ℤ → ℤ → Bool
roundable a b = within (neg_ℤ (pos (2 ^ 58)) to pos (2 ^ 58)) a && within (pos 1 to pos (2 ^ 43)) b

-- a quotient within rnd's range: 0 and the result; else 4, and all as it was
pub record Rounded (a b entry : ℤ) (k : ℕ) (exit : ℤ) : Type 0 where
  pub returns : k ≡ cond (roundable a b) 0 4
  pub holds : exit ≡ cond (roundable a b) (rnd a b) entry

-- ---- version

-- 0.8.0
abbrev pub version : ℕ
version = 800
