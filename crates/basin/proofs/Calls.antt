-- Calls of the C functions as a caller sees them: what goes in, the number returned, and what is left in the lent parameters (marked '), by
-- name. Each is read off `Learnt`, once: what a caller learns of a call, the function's `ensures` in src/lib.rt as the checker reads it,
-- of the arguments a, the number returned, and the parameters e as the call returns, both in the order of the signature. The theorems
-- (Applied, Probed, Balance, Records) are of these calls. Assumes nothing.
use mathlib.Core.List.{List}
use Prim.Native.Nat.{ℕ}
use contract.Lifetimes.{Lfts}
use denote.Triple.Clauses.{AtExit}
use borrow.Fn.Kinds.{Dens, res_t, ended_of}
use lib.IntN.{ℤ}
use lib.Ieee.{Float}
use Rattle.model.specs.State.{State, Fields, state_of}
use Rattle.model.specs.Promises.{TotalDepthPromise}
use Rattle.model.specs.declared.Timestamp.{Timestamp}
use Rattle.basin.specs.FromC.{parameters, timestamp, TendenciesFromC, ProbeFromC, ProbeGridFromC, StepFromC, RunFromC, TotalFromC, WriteFromC, ReadFromC, CompareFromC}
use Rattle.basin.proofs.basin_tendencies.Kinds as tendencies-kinds
use Rattle.basin.proofs.basin_tendencies.Reads as tendencies-reads
use Rattle.basin.proofs.basin_probe.Kinds as probe-kinds
use Rattle.basin.proofs.basin_probe.Reads as probe-reads
use Rattle.basin.proofs.basin_probe_grid.Kinds as probe-grid-kinds
use Rattle.basin.proofs.basin_probe_grid.Reads as probe-grid-reads
use Rattle.basin.proofs.basin_step.Kinds as step-kinds
use Rattle.basin.proofs.basin_step.Reads as step-reads
use Rattle.basin.proofs.basin_run.Kinds as run-kinds
use Rattle.basin.proofs.basin_run.Reads as run-reads
use Rattle.basin.proofs.basin_total_depth.Kinds as depth-kinds
use Rattle.basin.proofs.basin_total_depth.Reads as depth-reads
use Rattle.basin.proofs.basin_write.Kinds as write-kinds
use Rattle.basin.proofs.basin_write.Reads as write-reads
use Rattle.basin.proofs.basin_read.Kinds as read-kinds
use Rattle.basin.proofs.basin_read.Reads as read-reads
use Rattle.basin.proofs.basin_compare.Kinds as compare-kinds
use Rattle.basin.proofs.basin_compare.Reads as compare-reads

-- ---- `basin_tendencies`

pub record TendenciesCall : Type 0 where
  pub state : State
  pub q : List ℤ
  pub dh : List ℤ
  pub du : List ℤ
  pub dv : List ℤ
  pub dh' : List ℤ
  pub du' : List ℤ
  pub dv' : List ℤ
  pub returned : ℕ
  pub answer : List ℕ
  pub told : TendenciesFromC state q dh du dv dh' du' dv' returned answer

module _ (κs : Lfts 10) (a : Dens κs tendencies-kinds.ps) (returned : (res_t tendencies-kinds.r κs).Denot) (e : AtExit (ended_of 10 tendencies-kinds.ps tendencies-kinds.r) κs) where
  abbrev pub tendencies_call : tendencies-reads.Learnt κs a returned e → TendenciesCall
  tendencies_call told =
      let (w, (n, (kind, (g, (c, (r, (h, (b, (u, (v, (barriers, (q, (dh, (du, (dv, (_, _)))))))))))))))) = a in
      let (_, (_, (_, (_, (_, (_, (_, (_, (_, (_, (_, (_, (dh', (du', (dv', (answer', _)))))))))))))))) = e in
      record { state = state_of (parameters w n kind g c r) h.now b.now u.now v.now barriers.now; q = q.now; dh = dh.now; du = du.now; dv = dv.now; dh' = dh'.now; du' = du'.now; dv' = dv'.now; returned = returned; answer = answer'.now; told = told }

-- ---- `basin_probe`

pub record ProbeCall : Type 0 where
  pub state : State
  pub q : List ℤ
  pub cell : ℕ
  pub doubles : List Float
  pub doubles' : List Float
  pub returned : ℕ
  pub answer : List ℕ
  pub told : ProbeFromC state q cell doubles doubles' returned answer

module _ (κs : Lfts 8) (a : Dens κs probe-kinds.ps) (returned : (res_t probe-kinds.r κs).Denot) (e : AtExit (ended_of 8 probe-kinds.ps probe-kinds.r) κs) where
  abbrev pub probe_call : probe-reads.Learnt κs a returned e → ProbeCall
  probe_call told =
      let (w, (n, (kind, (g, (c, (r, (h, (b, (u, (v, (barriers, (q, (cell, (doubles, (_, _))))))))))))))) = a in
      let (_, (_, (_, (_, (_, (_, (_, (_, (_, (_, (_, (_, (_, (doubles', (answer', _))))))))))))))) = e in
      record { state = state_of (parameters w n kind g c r) h.now b.now u.now v.now barriers.now; q = q.now; cell = cell; doubles = doubles.now; doubles' = doubles'.now; returned = returned; answer = answer'.now; told = told }

-- ---- `basin_probe_grid`

pub record ProbeGridCall : Type 0 where
  pub state : State
  pub q : List ℤ
  pub dh : List Float
  pub du : List Float
  pub dv : List Float
  pub dh' : List Float
  pub du' : List Float
  pub dv' : List Float
  pub returned : ℕ
  pub answer : List ℕ
  pub told : ProbeGridFromC state q dh du dv dh' du' dv' returned answer

module _ (κs : Lfts 10) (a : Dens κs probe-grid-kinds.ps) (returned : (res_t probe-grid-kinds.r κs).Denot) (e : AtExit (ended_of 10 probe-grid-kinds.ps probe-grid-kinds.r) κs) where
  abbrev pub probe_grid_call : probe-grid-reads.Learnt κs a returned e → ProbeGridCall
  probe_grid_call told =
      let (w, (n, (kind, (g, (c, (r, (h, (b, (u, (v, (barriers, (q, (dh, (du, (dv, (_, _)))))))))))))))) = a in
      let (_, (_, (_, (_, (_, (_, (_, (_, (_, (_, (_, (_, (dh', (du', (dv', (answer', _)))))))))))))))) = e in
      record { state = state_of (parameters w n kind g c r) h.now b.now u.now v.now barriers.now; q = q.now; dh = dh.now; du = du.now; dv = dv.now; dh' = dh'.now; du' = du'.now; dv' = dv'.now; returned = returned; answer = answer'.now; told = told }

-- ---- `basin_step`

pub record StepCall : Type 0 where
  pub before : State
  pub after : State
  pub inflow : List ℤ
  pub work : List ℤ
  pub work' : List ℤ
  pub returned : ℕ
  pub answer : List ℕ
  pub told : StepFromC before inflow work after work' returned answer

module _ (κs : Lfts 8) (a : Dens κs step-kinds.ps) (returned : (res_t step-kinds.r κs).Denot) (e : AtExit (ended_of 8 step-kinds.ps step-kinds.r) κs) where
  abbrev pub step_call : step-reads.Learnt κs a returned e → StepCall
  step_call told =
      let (w, (n, (kind, (g, (c, (r, (h, (b, (u, (v, (barriers, (inflow, (work, (_, _)))))))))))))) = a in
      let (_, (_, (_, (_, (_, (_, (h', (_, (u', (v', (_, (_, (work', (answer', _)))))))))))))) = e in
      record { before = state_of (parameters w n kind g c r) h.now b.now u.now v.now barriers.now; after = state_of (parameters w n kind g c r) h'.now b.now u'.now v'.now barriers.now; inflow = inflow.now; work = work.now; work' = work'.now; returned = returned; answer = answer'.now; told = told }

-- ---- `basin_run`

pub record RunCall : Type 0 where
  pub before : State
  pub after : State
  pub inflow : List ℤ
  pub work : List ℤ
  pub work' : List ℤ
  pub steps : ℕ
  pub returned : ℕ
  pub answer : List ℕ
  pub told : RunFromC before inflow steps work after work' returned answer

module _ (κs : Lfts 8) (a : Dens κs run-kinds.ps) (returned : (res_t run-kinds.r κs).Denot) (e : AtExit (ended_of 8 run-kinds.ps run-kinds.r) κs) where
  abbrev pub run_call : run-reads.Learnt κs a returned e → RunCall
  run_call told =
      let (w, (n, (kind, (g, (c, (r, (h, (b, (u, (v, (barriers, (inflow, (steps, (work, (_, _))))))))))))))) = a in
      let (_, (_, (_, (_, (_, (_, (h', (_, (u', (v', (_, (_, (_, (work', (answer', _))))))))))))))) = e in
      record { before = state_of (parameters w n kind g c r) h.now b.now u.now v.now barriers.now; after = state_of (parameters w n kind g c r) h'.now b.now u'.now v'.now barriers.now; inflow = inflow.now; work = work.now; work' = work'.now; steps = steps; returned = returned; answer = answer'.now; told = told }

-- ---- `basin_total_depth`

pub record DepthCall : Type 0 where
  pub state : State
  pub total : ℤ
  pub total' : ℤ
  pub returned : ℕ
  pub answer : List ℕ
  pub told : TotalFromC (TotalDepthPromise state) total total' returned answer

module _ (κs : Lfts 7) (a : Dens κs depth-kinds.ps) (returned : (res_t depth-kinds.r κs).Denot) (e : AtExit (ended_of 7 depth-kinds.ps depth-kinds.r) κs) where
  abbrev pub depth_call : depth-reads.Learnt κs a returned e → DepthCall
  depth_call told =
      let (w, (n, (kind, (g, (c, (r, (h, (b, (u, (v, (barriers, (total, (_, _))))))))))))) = a in
      let (_, (_, (_, (_, (_, (_, (_, (_, (_, (_, (_, (total', (answer', _))))))))))))) = e in
      record { state = state_of (parameters w n kind g c r) h.now b.now u.now v.now barriers.now; total = total.now; total' = total'.now; returned = returned; answer = answer'.now; told = told }

-- ---- `basin_write`

pub record WriteCall : Type 0 where
  pub state : State
  pub timestamp : Timestamp
  pub bytes : List ℕ
  pub bytes' : List ℕ
  pub returned : ℕ
  pub answer : List ℕ
  pub told : WriteFromC state timestamp bytes bytes' returned answer

module _ (κs : Lfts 7) (a : Dens κs write-kinds.ps) (returned : (res_t write-kinds.r κs).Denot) (e : AtExit (ended_of 7 write-kinds.ps write-kinds.r) κs) where
  abbrev pub write_call : write-reads.Learnt κs a returned e → WriteCall
  write_call told =
      let (w, (n, (kind, (g, (c, (r, (h, (b, (u, (v, (barriers, (seconds, (milliseconds, (bytes, (_, _))))))))))))))) = a in
      let (_, (_, (_, (_, (_, (_, (_, (_, (_, (_, (_, (_, (_, (bytes', (answer', _))))))))))))))) = e in
      record { state = state_of (parameters w n kind g c r) h.now b.now u.now v.now barriers.now; timestamp = timestamp seconds milliseconds; bytes = bytes.now; bytes' = bytes'.now; returned = returned; answer = answer'.now; told = told }

-- ---- `basin_read`

pub record ReadCall : Type 0 where
  pub bytes : List ℕ
  pub d : Fields
  pub d' : Fields
  pub constants : List ℤ
  pub constants' : List ℤ
  pub returned : ℕ
  pub answer : List ℕ
  pub told : ReadFromC bytes d d' constants constants' returned answer

module _ (κs : Lfts 8) (a : Dens κs read-kinds.ps) (returned : (res_t read-kinds.r κs).Denot) (e : AtExit (ended_of 8 read-kinds.ps read-kinds.r) κs) where
  abbrev pub read_call : read-reads.Learnt κs a returned e → ReadCall
  read_call told =
      let (bytes, (h, (b, (u, (v, (barriers, (constants, (_, _)))))))) = a in
      let (_, (h', (b', (u', (v', (barriers', (constants', (answer', _)))))))) = e in
      record { bytes = bytes.now; d = record { h = h.now; b = b.now; u = u.now; v = v.now; barriers = barriers.now }; d' = record { h = h'.now; b = b'.now; u = u'.now; v = v'.now; barriers = barriers'.now }; constants = constants.now; constants' = constants'.now; returned = returned; answer = answer'.now; told = told }

-- ---- `basin_compare`

pub record CompareCall : Type 0 where
  pub first : List ℕ
  pub second : List ℕ
  pub returned : ℕ
  pub answer : List ℕ
  pub told : CompareFromC first second returned answer

module _ (κs : Lfts 3) (a : Dens κs compare-kinds.ps) (returned : (res_t compare-kinds.r κs).Denot) (e : AtExit (ended_of 3 compare-kinds.ps compare-kinds.r) κs) where
  abbrev pub compare_call : compare-reads.Learnt κs a returned e → CompareCall
  compare_call told =
      let (first, (second, (_, _))) = a in
      let (_, (_, (answer', _))) = e in
      record { first = first.now; second = second.now; returned = returned; answer = answer'.now; told = told }
