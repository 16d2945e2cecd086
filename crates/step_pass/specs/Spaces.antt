-- What the parts of a pass ask, and what they make of the slices lent. Assumes nothing.
use Rattle.std.specs.Prelude.{◌≡◌, List, ℕ, ◌*◌, ◌≤◌, ◌<◌, ℤ, pos, ◌+ℤ◌, ◌-ℤ◌, length, get_or}
use Rattle.model.specs.Numbers.{Within, ratio_limits, depth_limits, velocity_limits, inflow_limits}
use Rattle.model.specs.Grid.{next, at}
use Rattle.model.specs.State.{State, with_flow, cells, corners, Side, FieldWithin, WithinLimits}
use Rattle.model.specs.declared.Parameters.{Parameters}
use Rattle.integers.specs.Bounds.{Abs}
use Rattle.scheme.specs.Ready.{TendenciesReady}
use Rattle.scheme.specs.Passing.{most_flow}

-- ---- what is made

-- the base as its velocities are moved: its depths do not enter
abbrev pub moving : State → (u v : List ℤ) → State
moving s u v = with_flow s s.h u v

-- a depth after the pass, from the base's depths h, the flows X and Y and the inflow
unfoldable pub depth_by : (w n : ℕ) (h X Y inflow : List ℤ) → ℕ → ℕ → ℤ
depth_by w n h X Y inflow i j = at w h i j -ℤ (at w X (next w i) j -ℤ at w X i j +ℤ at w Y i (next n j) -ℤ at w Y i j) +ℤ at w inflow i j

-- ---- what is asked

-- m flows, each small
pub record Flows (m : ℕ) (f : List ℤ) : Type 0 where
  pub long : length f ≡ m
  pub each : (k : ℕ) → k < m → Abs (get_or f k (pos 0)) most_flow

-- depths: of the base's, the flows and the inflow
pub record DepthReady (p : Parameters) (h x y inflow : List ℤ) : Type 0 where
  pub columns : Side p.w
  pub rows : Side p.n
  pub depths : FieldWithin depth_limits (p.w * p.n) h
  pub xs : Flows (p.w * p.n) x
  pub ys : Flows (p.w * p.n) y
  pub entering : FieldWithin inflow_limits (p.w * p.n) inflow

-- velocities: of the given state, its potential vorticity q and the base's u and v
pub record VelocityReady (s : State) (q u v : List ℤ) : Type 0 where
  pub given : TendenciesReady s q
  pub ratio : Within ratio_limits s.R
  pub us : FieldWithin velocity_limits (cells s) u
  pub vs : FieldWithin velocity_limits (cells s) v

-- what differs from s in its depths and velocities alone
abbrev pub Alike : State → State → Type 0
Alike s t = t ≡ with_flow s t.h t.u t.v

-- a pass: the given state s and the base b are within the limits, and alike, and there is room for a number at each corner, and for one a cell
-- in h, u and v
pub record PassReady (s b : State) (inflow : List ℤ) (room : ℕ) (h u v : List ℤ) : Type 0 where
  pub given : WithinLimits s
  pub base : WithinLimits b
  pub alike : Alike s b
  pub entering : FieldWithin inflow_limits (cells s) inflow
  pub fits : corners s ≤ room
  pub room-h : length h ≡ cells s
  pub room-u : length u ≡ cells s
  pub room-v : length v ≡ cells s
