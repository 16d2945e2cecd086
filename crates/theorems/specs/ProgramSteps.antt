-- The step program's own step passes every test. Assumes nothing.
use Rattle.std.specs.Prelude.{◌≡◌, refl, ℕ, zero, suc, ◌≤◌, pos, length, get_or, replicate}
use Rattle.std.proofs.Common.{sym, ap, subst, arith}
use Rattle.model.specs.Numbers.{Within, inflow_limits}
use Rattle.model.specs.State.{FieldWithin, cells}
use Rattle.model.specs.Program.{program_work}
use Rattle.model.specs.Claims.{ProgramClaim}
use Rattle.theorems.specs.Limits.{step-taken}
use Rattle.theorems.specs.Rewrite.{decoded-within}

calm-long : (m : ℕ) → length (replicate m (pos 0)) ≡ m
calm-long zero = refl
calm-long (suc m) = ap suc (calm-long m)

calm-at : (m k : ℕ) → get_or (replicate m (pos 0)) k (pos 0) ≡ pos 0
calm-at zero k = refl
calm-at (suc m) zero = refl
calm-at (suc m) (suc k) = calm-at m k

zero-within : Within inflow_limits (pos 0)
unfolding inflow_limits
zero-within = record { low = record { le = tt }; high = record { le = tt } }

calm : (m : ℕ) → FieldWithin inflow_limits m (replicate m (pos 0))
calm m = record { long = calm-long m; each = λ k l. subst (Within inflow_limits) (sym (calm-at m k)) zero-within }

pub program-steps : ProgramClaim
program-steps input s t h =
    let d = decoded-within input _ s t h in
    let room : cells s ≤ 1024 = d.1.0 in
    (step-taken s (replicate (cells s) (pos 0)) program_work).1 (d.0, calm (cells s), omega arith)
