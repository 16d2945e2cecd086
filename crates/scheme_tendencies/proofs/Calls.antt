-- Calls of `tendencies` and `potential_vorticity` as a caller sees them: what goes in, the answer, and what is left in the lent parameters
-- (marked '), by name. Each is read off `Learnt`, once: what a caller learns of a call, the function's `ensures` in src/lib.rt as the
-- checker reads it, of the arguments a, the answer, and the parameters e as the call returns, both in the order of the signature. The
-- theorems of Applied are of these calls. Assumes nothing.
use mathlib.Core.List.{List}
use contract.Lifetimes.{Lfts}
use denote.Triple.Clauses.{AtExit}
use borrow.Fn.Kinds.{Dens, res_t, ended_of}
use lib.IntN.{ℤ}
use Rattle.model.specs.State.{State, lent_state}
use Rattle.model.specs.Promises.{VorticityPromise, TendenciesPromise}
use Rattle.model.specs.Answers.{Answer}
use Rattle.scheme_tendencies.proofs.tendencies.Kinds as tendencies-kinds
use Rattle.scheme_tendencies.proofs.tendencies.Reads as tendencies-reads
use Rattle.scheme_tendencies.proofs.potential_vorticity.Kinds as vorticity-kinds
use Rattle.scheme_tendencies.proofs.potential_vorticity.Reads as vorticity-reads

-- ---- `tendencies`

pub record TendenciesCall : Type 0 where
  pub state : State
  pub q : List ℤ
  pub dh : List ℤ
  pub du : List ℤ
  pub dv : List ℤ
  pub dh' : List ℤ
  pub du' : List ℤ
  pub dv' : List ℤ
  pub answer : Answer
  pub promise : TendenciesPromise state q dh du dv answer dh' du' dv'

module _ (κs : Lfts 6) (a : Dens κs tendencies-kinds.ps) (answer : (res_t tendencies-kinds.r κs).Denot) (e : AtExit (ended_of 6 tendencies-kinds.ps tendencies-kinds.r) κs) where
  abbrev pub tendencies_call : tendencies-reads.Learnt κs a answer e → TendenciesCall
  tendencies_call told =
      let (s, (q, (dh, (du, (dv, _))))) = a in
      let (_, (_, (dh', (du', (dv', _))))) = e in
      record { state = lent_state s.now; q = q.now; dh = dh.now; du = du.now; dv = dv.now; dh' = dh'.now; du' = du'.now; dv' = dv'.now; answer = answer; promise = told }

-- ---- `potential_vorticity`

pub record VorticityCall : Type 0 where
  pub state : State
  pub d : List ℤ
  pub d' : List ℤ
  pub answer : Answer
  pub promise : VorticityPromise state d answer d'

module _ (κs : Lfts 3) (a : Dens κs vorticity-kinds.ps) (answer : (res_t vorticity-kinds.r κs).Denot) (e : AtExit (ended_of 3 vorticity-kinds.ps vorticity-kinds.r) κs) where
  abbrev pub vorticity_call : vorticity-reads.Learnt κs a answer e → VorticityCall
  vorticity_call told =
      let (s, (d, _)) = a in
      let (_, (d', _)) = e in
      record { state = lent_state s.now; d = d.now; d' = d'.now; answer = answer; promise = told }
