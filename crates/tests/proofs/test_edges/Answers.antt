-- The two tests are the model's, for any depths and bottoms. Assumes nothing.
use Rattle.std.proofs.Common.{sym, ◌∙◌, ap}
use Rattle.std.proofs.lemmas.Result.{err_from_is_err_and}
use Rattle.tests.specs.Links.{answers, refused_first, passed_first}
use Rattle.tests.specs.Sought.{edges_are, still_test}
use Rattle.model.specs.declared.Field.TheVariants.{VelocityU, VelocityV}
use Rattle.grid.specs.declared.Edge.TheVariants.{West, South}
use mathlib.Core.List.{[], ◌∷◌}
use Rattle.tests.proofs.test_edges.Goals as goal

pub returns-in_err-test_still : goal.returns-in_err-test_still
returns-in_err-test_still g c h b =
    let a = c.args in
    let u = still_test a.p a.barriers.now West VelocityU (g.N.Numbers.numbers a.u.now) ∷ [] in
    let v = still_test a.p a.barriers.now South VelocityV (g.N.Numbers.numbers a.v.now) ∷ [] in
    let p = err_from_is_err_and c.from_residual.result c.from_residual.ensures.1 in
    rw (p.1, p.2) (sym (refused_first u v (sym c.in_err-test_still.ensures)) ∙ ap answers (edges_are a.p h b _ _ _))

pub returns : goal.returns
returns g c h b =
    let a = c.args in
    let u = still_test a.p a.barriers.now West VelocityU (g.N.Numbers.numbers a.u.now) ∷ [] in
    let v = still_test a.p a.barriers.now South VelocityV (g.N.Numbers.numbers a.v.now) ∷ [] in
    c.test_still-2.ensures ∙ sym (passed_first u v (sym c.in_ok-test_still.ensures)) ∙ ap answers (edges_are a.p h b _ _ _)
