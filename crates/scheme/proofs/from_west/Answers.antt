-- `scheme::from_west` meets its contract. Assumes nothing.
use mathlib.Core.Path.{sym, ap, ◌∙◌}
use mathlib.Core.Bool.{true≢false}
use native.Mathlib.Omega.{arith}
use Rattle.integers.specs.Bounds.{abs-as}
use Rattle.scheme.specs.Ready.{walled}
use Rattle.scheme.specs.Masking.{west-walled}
use Rattle.scheme.specs.Shares.{east_share_at}
use Rattle.scheme.specs.SchemeSizes.{share-held, east-size, fit-in}
use Rattle.scheme.proofs.from_west.Goals as goal
use Rattle.scheme.proofs.from_west.Goals.{then-s-eq1-via-then-s-eq1, then-s-eq1-via-else-s-eq1+then-is_walled}

-- the share is not used: there is one column, or the edge is closed
pub returns-then-s-eq1 : goal.returns-then-s-eq1
returns-then-s-eq1 c =
    let s = walled c.args.s.now in
    record {
      share = λ o l.
          absurd (elim c.then-s-eq1.branch [
            | then-s-eq1-via-then-s-eq1 w ↦ omega (arith, w.if-s-eq1.true, l)
            | then-s-eq1-via-else-s-eq1+then-is_walled w ↦ true≢false (sym w.if-is_walled.true ∙ w.is_walled.ensures ∙ west-walled s c.args.i c.args.j ∙ o)
          ]);
    }

pub returns : goal.returns
returns c =
    let s = walled c.args.s.now in
    let e = c.shares_at-beyond.ensures.east in
    let k = c.previous-west.ensures in
    record { share = λ o l. share-held (abs-as e (east-size (fit-in c.requires.0 k.1 c.requires.2))) ∙ e ∙ ap (λ i. east_share_at s c.args.q.now i c.args.j) k.0 }
