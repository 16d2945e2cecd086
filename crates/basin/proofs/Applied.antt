-- The theorems speak of the C interface: where `basin_tendencies` returns 0, and it does for every state within the limits, the rates of
-- what it leaves are zero. Assumes nothing.
use mathlib.Core.Path.{◌≡◌, refl, sym, ap, subst, ◌∙◌}
use native.Mathlib.Omega.{arith}
use Prim.Native.Nat.{◌*◌, ◌≤◌}
use contract.Lifetimes.{Lfts}
use denote.Triple.Clauses.{AtExit}
use borrow.Fn.Kinds.{Dens, res_t, ended_of}
use lib.Dec.{lit≤}
use lib.IntN.{pos}
use lib.ListN.{length, get_or, replicate}
use Rattle.model.specs.Numbers.{vorticity_limits}
use Rattle.model.specs.State.{state_of, cells, corners, FieldWithin, WithinLimits}
use Rattle.model.specs.Answers.{number, answer_numbers}
use Rattle.model.specs.Rates.{energy_rate, enstrophy_rate}
use Rattle.model.specs.Promises.{TendenciesPromise}
use Rattle.model.specs.declared.Refusal.{Refusal}
use Rattle.model.specs.declared.Refusal.TheVariants.{Grid, Lengths, Constants, Value, ClosedEdge, Record, Destination, Milliseconds, NoSuchCell}
use Rattle.std.specs.Prelude.{Ok, Err}
use Rattle.model.specs.Answers.{Answer}
use Rattle.theorems.specs.Theorems.{theorems}
use Rattle.basin.specs.FromC.{parameters}
use Rattle.basin.proofs.basin_tendencies.Kinds as tendencies-kinds
use Rattle.basin.proofs.basin_tendencies.Reads as tendencies-reads
use Rattle.basin.proofs.Calls.{TendenciesCall, tendencies_call}

-- 0 is told of nothing else
pub from_one : (x : Refusal) → 1 ≤ number x
from_one Grid = lit≤ tt
from_one Lengths = lit≤ tt
from_one Constants = lit≤ tt
from_one (Value f k) = lit≤ tt
from_one (ClosedEdge f k) = lit≤ tt
from_one (Record k) = lit≤ tt
from_one Destination = lit≤ tt
from_one Milliseconds = lit≤ tt
from_one NoSuchCell = lit≤ tt

done : (a : Answer) → get_or (answer_numbers a) 0 0 ≡ 0 → a ≡ Ok tt
done (Ok tt) e = refl
done (Err x) e = absurd (omega (arith, from_one x, e))

-- a state within the limits, with any q within its bound and destinations that have room
pub record Taken (call : TendenciesCall) : Type 0 where
  pub state : WithinLimits call.state
  pub vorticity : FieldWithin vorticity_limits (corners call.state) call.q
  pub depth : cells call.state ≤ length call.dh
  pub velocity-u : cells call.state ≤ length call.du
  pub velocity-v : cells call.state ≤ length call.dv

module _ (call : TendenciesCall) where
  abbrev Promised : Answer → Type 0
  Promised x = TendenciesPromise call.state call.q call.dh call.du call.dv x call.dh' call.du' call.dv'

  pub promised : call.returned ≡ 0 → Promised (Ok tt)
  promised z = subst Promised (done call.told.answer (sym call.told.told.returns ∙ z)) call.told.promise

  -- such a call is not refused
  pub returns-0 : Taken call → call.returned ≡ 0
  returns-0 t =
      call.told.told.returns
      ∙ ap (λ x. get_or (answer_numbers x) 0 0) ((theorems.tendencies-accepted call.state call.q _ _ _ _ _ _ call.told.answer call.told.promise).1 (t.state, t.vorticity, t.depth, t.velocity-u, t.velocity-v))

  -- the scaled energy rate is zero: every boundary, every layout of barriers, every q within its bound
  pub energy-rate-zero : call.returned ≡ 0 → energy_rate call.state call.dh' call.du' call.dv' ≡ pos 0
  energy-rate-zero z = theorems.energy call.state call.q _ _ _ _ _ _ (promised z)

  -- and in 01's words: at every state within the limits
  pub energy-rate-zero-within : Taken call → energy_rate call.state call.dh' call.du' call.dv' ≡ pos 0
  energy-rate-zero-within t = energy-rate-zero (returns-0 t)

  -- the scaled enstrophy rate is zero where the grid wraps both ways and has no barrier
  pub enstrophy-rate-zero : call.state.kind ≡ 0 → call.state.barriers ≡ replicate (cells call.state) 0 → call.returned ≡ 0 → enstrophy_rate call.state call.dh' call.du' call.dv' call.q ≡ pos 0
  enstrophy-rate-zero k o z = theorems.periodic-enstrophy call.state call.q _ _ _ _ _ _ k o (promised z)

  -- at every such state within the limits
  pub enstrophy-rate-zero-within : call.state.kind ≡ 0 → call.state.barriers ≡ replicate (cells call.state) 0 → Taken call → enstrophy_rate call.state call.dh' call.du' call.dv' call.q ≡ pos 0
  enstrophy-rate-zero-within k o t = enstrophy-rate-zero k o (returns-0 t)

-- ---- the same of the code itself: from what a caller learns of a call, of its own parameters

module _ (κs : Lfts 10) (a : Dens κs tendencies-kinds.ps) (returned : (res_t tendencies-kinds.r κs).Denot) (e : AtExit (ended_of 10 tendencies-kinds.ps tendencies-kinds.r) κs) where
  pub code-energy-rate-zero : tendencies-reads.Learnt κs a returned e → returned ≡ 0
      → let (w, (n, (kind, (g, (c, (r, (h, (b, (u, (v, (barriers, _))))))))))) = a in
      let (_, (_, (_, (_, (_, (_, (_, (_, (_, (_, (_, (_, (dh', (du', (dv', _))))))))))))))) = e in
      energy_rate (state_of (parameters w n kind g c r) h.now b.now u.now v.now barriers.now) dh'.now du'.now dv'.now ≡ pos 0
  code-energy-rate-zero told z = energy-rate-zero (tendencies_call κs a returned e told) z

  pub code-enstrophy-rate-zero : tendencies-reads.Learnt κs a returned e → returned ≡ 0
      → let (w, (n, (kind, (g, (c, (r, (h, (b, (u, (v, (barriers, (q, _)))))))))))) = a in
      let (_, (_, (_, (_, (_, (_, (_, (_, (_, (_, (_, (_, (dh', (du', (dv', _))))))))))))))) = e in
      kind ≡ 0 → barriers.now ≡ replicate (w * n) 0 → enstrophy_rate (state_of (parameters w n kind g c r) h.now b.now u.now v.now barriers.now) dh'.now du'.now dv'.now q.now ≡ pos 0
  code-enstrophy-rate-zero told z k o = enstrophy-rate-zero (tendencies_call κs a returned e told) k o z
