-- Every theorem. `theorems` has each claim of the model, proved. Assumes nothing.
use Rattle.model.specs.Claims.{LimitsClaim, AcceptedClaim, ScanClaim, TestClaim, CausesClaim, ReadCausesClaim, MetClaim, FixedClaim, RefusedClaim, WorkClaim, RoundingClaim, FormulaClaim, OwnVorticityClaim, VorticityClaim, WallCornerClaim, CellCornersClaim, TendenciesAcceptedClaim, TendenciesClaim, ProbeClaim, ProbeGridClaim, PassClaim, StepClaim, RunClaim, RunEndsClaim, RunStepsClaim, TotalsClaim, WriteAcceptedClaim, RoundTripClaim, ReadClaim, ProgramClaim, OutputClaim, RewriteClaim, RestoredClaim, AnyOrderClaim, AbsentClaim, CompareClaim, EnergyRateClaim, EnergyClaim, AnyCornersEnergyClaim, EnstrophyClaim, PeriodicEnstrophyClaim, BalanceClaim, KeptClaim}
use Rattle.model.specs.Step.{Place}
use Rattle.model.specs.declared.Refusal.{Refusal}
use Rattle.theorems.specs.Limits.{limits-tested, accepted}
use Rattle.theorems.specs.Scans.{scan}
use Rattle.theorems.specs.TestLaws.{tests}
use Rattle.theorems.specs.Causes.{causes}
use Rattle.theorems.specs.ReadCauses.{read-causes}
use Rattle.theorems.specs.Fixed.{met, fixed}
use Rattle.theorems.specs.Refused.{refused-leaves, work-left}
use Rattle.integers.specs.Rounding.{rounding}
use Rattle.integers.specs.Formulas.{formulas}
use Rattle.theorems.specs.Vorticity.{within-limit, vorticity-within}
use Rattle.theorems.specs.WallCorners.{wall-corners, cell-corners}
use Rattle.theorems.specs.Filling.{tendencies-accepted, tendencies-fill}
use Rattle.theorems.specs.Probes.{probe, probe-grid}
use Rattle.theorems.specs.Stepping.{pass-given, step-within}
use Rattle.theorems.specs.Runs.{run-counts}
use Rattle.theorems.specs.RunEnds.{run_ends}
use Rattle.theorems.specs.RunSteps.{run-steps}
use Rattle.theorems.specs.RoundTrip.{write-accepted, round_trip}
use Rattle.theorems.specs.Rewrite.{read-within, rewritten, restored-record}
use Rattle.theorems.specs.ProgramSteps.{program-steps}
use Rattle.theorems.specs.Output.{output-fits}
use Rattle.theorems.specs.AnyOrder.{any_order}
use Rattle.theorems.specs.AbsentTag.{absent-tag}
use Rattle.theorems.specs.Comparing.{comparison}
use Rattle.theorems.specs.ProductRule.{energy-rate}
use Rattle.theorems.specs.ZeroRates.{energy-zero, any-corners-energy, enstrophy-zero, periodic-enstrophy}
use Rattle.theorems.specs.Balances.{totals, balance, kept}
-- The laws behind energy, enstrophy and total depth, for any fluxes, Bernoulli function, weights of each cell and closed edges
pub use Rattle.theorems.specs.Conservation.{mass-law, energy-law, enstrophy-law}
-- What the checker computes: the worked examples, and the paper's conditions on the weight table
pub use Rattle.model.specs.Examples.{all_hold}
pub use Rattle.model.specs.Weights.{conditions-hold}

pub record Theorems : Type 0 where
  -- demand 1: the full result, or a refusal where its cause holds and only there
  pub limits : LimitsClaim
  pub accepted : AcceptedClaim
  pub scan : ScanClaim
  pub tests : TestClaim Refusal
  pub places : TestClaim Place
  pub causes : CausesClaim
  pub read-causes : ReadCausesClaim
  pub met : MetClaim
  pub fixed : FixedClaim
  pub refused : RefusedClaim
  pub work : WorkClaim
  -- demand 2: the published scheme and 01's rules, at every cell
  pub rounding : RoundingClaim
  pub formulas : FormulaClaim
  pub own-vorticity : OwnVorticityClaim
  pub vorticity : VorticityClaim
  pub wall-corners : WallCornerClaim
  pub cell-corners : CellCornersClaim
  pub tendencies-accepted : TendenciesAcceptedClaim
  pub tendencies : TendenciesClaim
  pub probe : ProbeClaim
  pub probe-grid : ProbeGridClaim
  pub pass : PassClaim
  pub step : StepClaim
  pub run : RunClaim
  pub run_ends : RunEndsClaim
  pub run-steps : RunStepsClaim
  pub totals : TotalsClaim
  pub write-accepted : WriteAcceptedClaim
  pub write-then-read : RoundTripClaim
  pub read : ReadClaim
  pub program : ProgramClaim
  pub output : OutputClaim
  pub read-then-write : RewriteClaim
  pub restored : RestoredClaim
  pub any_order : AnyOrderClaim
  pub absent : AbsentClaim
  pub compare : CompareClaim
  -- demand 3: what is kept
  pub energy-rate : EnergyRateClaim
  pub energy : EnergyClaim
  pub any-corners-energy : AnyCornersEnergyClaim
  pub enstrophy : EnstrophyClaim
  pub periodic-enstrophy : PeriodicEnstrophyClaim
  pub balance : BalanceClaim
  pub limits-kept : KeptClaim

pub theorems : Theorems
theorems =
    record {
      limits = limits-tested;
      accepted = accepted;
      scan = scan;
      tests = tests;
      places = tests;
      causes = causes;
      read-causes = read-causes;
      met = met;
      fixed = fixed;
      refused = refused-leaves;
      work = work-left;
      rounding = rounding;
      formulas = formulas;
      own-vorticity = within-limit;
      vorticity = vorticity-within;
      wall-corners = wall-corners;
      cell-corners = cell-corners;
      tendencies-accepted = tendencies-accepted;
      tendencies = tendencies-fill;
      probe = probe;
      probe-grid = probe-grid;
      pass = pass-given;
      step = step-within;
      run = run-counts;
      run_ends = run_ends;
      run-steps = run-steps;
      totals = totals;
      write-accepted = write-accepted;
      write-then-read = round_trip;
      read = read-within;
      program = program-steps;
      output = output-fits;
      read-then-write = rewritten;
      restored = restored-record;
      any_order = any_order;
      absent = absent-tag;
      compare = comparison;
      energy-rate = energy-rate;
      energy = energy-zero;
      any-corners-energy = any-corners-energy;
      enstrophy = enstrophy-zero;
      periodic-enstrophy = periodic-enstrophy;
      balance = balance;
      limits-kept = kept;
    }
