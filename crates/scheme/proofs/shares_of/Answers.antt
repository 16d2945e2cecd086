-- `scheme::shares_of` meets its contract. The Bernoulli value is scaled once and fits; each share is then the callee's promise, of that
-- number. Assumes nothing.
use Rattle.std.proofs.Common.{◌≡◌, ap, ◌∙◌, ℤ, pos, w64}
use Rattle.std.specs.Prelude.{◌*ℤ◌}
use Rattle.integers.specs.Bounds.{Abs, ∎, ◌◂◌, held, held-is, exact}
use Rattle.scheme.specs.Shares.{most_bernoulli, west_share, east_share, south_share, north_share}
use Rattle.scheme.specs.SchemeSizes.{head_expr}
use Rattle.scheme.proofs.shares_of.Goals as goal

head-is : {b : ℤ} → Abs b most_bernoulli → held w64 (pos 786432 *ℤ held w64 b) ≡ pos 786432 *ℤ b
head-is h = exact w64 head_expr (h ◂ ∎) tt

pub returns : goal.returns
returns c =
    let w = c.args.w in
    let f = c.args.f in
    let e = head-is c.requires.1 in
    record {
      depth = held-is w64 c.convergence.type_inv c.convergence.ensures;
      west = held-is w64 c.west_share.type_inv (c.west_share.ensures ∙ ap (west_share w f) e);
      east = held-is w64 c.east_share.type_inv (c.east_share.ensures ∙ ap (east_share w f) e);
      south = held-is w64 c.south_share.type_inv (c.south_share.ensures ∙ ap (south_share w f) e);
      north = held-is w64 c.north_share.type_inv (c.north_share.ensures ∙ ap (north_share w f) e);
    }
