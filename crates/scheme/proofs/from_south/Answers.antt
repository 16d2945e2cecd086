-- `scheme::from_south` meets its contract. Assumes nothing.
use mathlib.Core.Path.{sym, ap, ◌∙◌}
use mathlib.Core.Bool.{true≢false}
use native.Mathlib.Omega.{arith}
use Rattle.integers.specs.Bounds.{abs-as}
use Rattle.scheme.specs.Ready.{walled}
use Rattle.scheme.specs.Masking.{south-walled}
use Rattle.scheme.specs.Shares.{north_share_at}
use Rattle.scheme.specs.SchemeSizes.{share-held, north-size, fit-in}
use Rattle.scheme.proofs.from_south.Goals as goal
use Rattle.scheme.proofs.from_south.Goals.{then-s-eq1-via-then-s-eq1, then-s-eq1-via-else-s-eq1+then-is_walled}

-- the share is not used: there is one row, or the edge is closed
pub returns-then-s-eq1 : goal.returns-then-s-eq1
returns-then-s-eq1 c =
    let s = walled c.args.s.now in
    record {
      share = λ o l.
          absurd (elim c.then-s-eq1.branch [
            | then-s-eq1-via-then-s-eq1 w ↦ omega (arith, w.if-s-eq1.true, l)
            | then-s-eq1-via-else-s-eq1+then-is_walled w ↦ true≢false (sym w.if-is_walled.true ∙ w.is_walled.ensures ∙ south-walled s c.args.i c.args.j ∙ o)
          ]);
    }

pub returns : goal.returns
returns c =
    let s = walled c.args.s.now in
    let e = c.shares_at-beyond.ensures.north in
    let k = c.previous-south.ensures in
    record { share = λ o l. share-held (abs-as e (north-size (fit-in c.requires.0 c.requires.1 k.1))) ∙ e ∙ ap (north_share_at s c.args.q.now c.args.i) k.0 }
