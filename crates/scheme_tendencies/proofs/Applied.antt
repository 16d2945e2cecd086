-- The theorems speak of this code, by calls of `tendencies` and `potential_vorticity` (Calls): from what a call promises to the rates is
-- one step. Assumes nothing.
use mathlib.Core.Path.{◌≡◌, subst}
use Prim.Native.Nat.{◌*◌, ◌≤◌}
use contract.Lifetimes.{Lfts}
use denote.Triple.Clauses.{AtExit}
use borrow.Fn.Kinds.{Dens, res_t, ended_of}
use lib.IntN.{pos}
use lib.ListN.{length, take, replicate}
use Rattle.model.specs.Numbers.{vorticity_limits}
use Rattle.model.specs.State.{lent_state, cells, corners, FieldWithin, WithinLimits}
use Rattle.model.specs.Rates.{energy_rate, enstrophy_rate}
use Rattle.model.specs.Promises.{VorticityPromise, TendenciesPromise}
use Rattle.std.specs.Prelude.{Ok}
use Rattle.theorems.specs.Theorems.{theorems}
use Rattle.scheme_tendencies.proofs.Calls.{TendenciesCall, VorticityCall, tendencies_call}
use Rattle.scheme_tendencies.proofs.tendencies.Kinds as tendencies-kinds
use Rattle.scheme_tendencies.proofs.tendencies.Reads as tendencies-reads

-- ---- a call of `tendencies`

-- a state within the limits, with any q within its bound and destinations that have room
pub record Taken (call : TendenciesCall) : Type 0 where
  pub state : WithinLimits call.state
  pub vorticity : FieldWithin vorticity_limits (corners call.state) call.q
  pub depth : cells call.state ≤ length call.dh
  pub velocity-u : cells call.state ≤ length call.du
  pub velocity-v : cells call.state ≤ length call.dv

module _ (call : TendenciesCall) where
  promised : call.answer ≡ (Ok tt) → TendenciesPromise call.state call.q call.dh call.du call.dv (Ok tt) call.dh' call.du' call.dv'
  promised d = subst (λ x. TendenciesPromise call.state call.q call.dh call.du call.dv x call.dh' call.du' call.dv') d call.promise

  -- such a call is not refused
  pub done : Taken call → call.answer ≡ Ok tt
  done t = (theorems.tendencies-accepted call.state call.q _ _ _ _ _ _ call.answer call.promise).1 (t.state, t.vorticity, t.depth, t.velocity-u, t.velocity-v)

  -- the scaled energy rate is zero: every boundary, every q within its bound
  pub energy-rate-zero : call.answer ≡ (Ok tt) → energy_rate call.state call.dh' call.du' call.dv' ≡ pos 0
  energy-rate-zero d = theorems.energy call.state call.q _ _ _ _ _ _ (promised d)

  -- and in 01's words: at every state within the limits
  pub energy-rate-zero-within : Taken call → energy_rate call.state call.dh' call.du' call.dv' ≡ pos 0
  energy-rate-zero-within t = energy-rate-zero (done t)

  -- the scaled enstrophy rate is zero where the grid wraps both ways and has no barrier
  pub enstrophy-rate-zero : call.state.kind ≡ 0 → call.state.barriers ≡ replicate (cells call.state) 0 → call.answer ≡ (Ok tt) → enstrophy_rate call.state call.dh' call.du' call.dv' call.q ≡ pos 0
  enstrophy-rate-zero k o d = theorems.periodic-enstrophy call.state call.q _ _ _ _ _ _ k o (promised d)

  -- at every such state within the limits
  pub enstrophy-rate-zero-within : call.state.kind ≡ 0 → call.state.barriers ≡ replicate (cells call.state) 0 → Taken call → enstrophy_rate call.state call.dh' call.du' call.dv' call.q ≡ pos 0
  enstrophy-rate-zero-within k o t = enstrophy-rate-zero k o (done t)

-- ---- a call of `potential_vorticity`

-- what it fills in may be lent to `tendencies`
pub vorticity-may-be-lent : (call : VorticityCall) → call.answer ≡ (Ok tt) → FieldWithin vorticity_limits (corners call.state) (take (corners call.state) call.d')
vorticity-may-be-lent call d =
    (theorems.vorticity call.state call.d call.d' (subst (λ x. VorticityPromise call.state call.d x call.d') d call.promise)).1

-- ---- the same of the code itself: from what a caller learns of a call, of its own parameters

module _ (κs : Lfts 6) (a : Dens κs tendencies-kinds.ps) (answer : (res_t tendencies-kinds.r κs).Denot) (e : AtExit (ended_of 6 tendencies-kinds.ps tendencies-kinds.r) κs) where
  pub code-energy-rate-zero : tendencies-reads.Learnt κs a answer e → answer ≡ Ok tt
      → let (s, _) = a in
      let (_, (_, (dh', (du', (dv', _))))) = e in
      energy_rate (lent_state s.now) dh'.now du'.now dv'.now ≡ pos 0
  code-energy-rate-zero told d = energy-rate-zero (tendencies_call κs a answer e told) d

  pub code-enstrophy-rate-zero : tendencies-reads.Learnt κs a answer e → answer ≡ Ok tt
      → let (s, (q, _)) = a in
      let (_, (_, (dh', (du', (dv', _))))) = e in
      s.now.p.kind ≡ 0 → s.now.barriers.now ≡ replicate (s.now.p.w * s.now.p.n) 0 → enstrophy_rate (lent_state s.now) dh'.now du'.now dv'.now q.now ≡ pos 0
  code-enstrophy-rate-zero told d k o = enstrophy-rate-zero (tendencies_call κs a answer e told) k o d
