-- `scheme_tendencies::fill_tendencies` meets its contract: the tendencies are those without barriers, but for 0 on the edges that these
-- close. Assumes nothing.
use mathlib.Core.Path.{ap, ◌∙◌}
use Prim.Native.Nat.{◌≤◌}
use native.Mathlib.Omega.{arith}
use lib.ListN.{length}
use Rattle.model.specs.Grid.{filled}
use Rattle.model.specs.State.{lent_state, cells}
use Rattle.model.specs.Scheme.{tendency_u, tendency_v, u_tendencies, v_tendencies}
use Rattle.grid.specs.Barred.{cleared-filled}
use Rattle.scheme.specs.Masking.{unbarred, u-masked, v-masked, h-unmasked}
use Rattle.scheme_tendencies.proofs.fill_tendencies.Goals as goal

pub returns : goal.returns
unfolding u_tendencies v_tendencies
returns c =
    let a = c.args in
    let s = lent_state a.s.now in
    let q = a.q.now in
    let pre = c.requires in
    let some = pre.0.state.columns.some in
    let few : length s.barriers ≤ cells s = omega (arith, pre.1) in
    let l = c.fill_walled.ensures in (
      l.0 ∙ ap (λ t. filled (cells s) t a.dh.now) (h-unmasked s),
      cleared-filled c.clear_barred.ensures s.w s.n (tendency_u s q) (tendency_u (unbarred s) q) a.du.now some few pre.2.u l.1 (λ i j p r. u-masked s q i j),
      cleared-filled c.clear_barred-2.ensures s.w s.n (tendency_v s q) (tendency_v (unbarred s) q) a.dv.now some few pre.2.v l.2 (λ i j p r. v-masked s q i j),
    )
