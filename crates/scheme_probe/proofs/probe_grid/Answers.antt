-- Once the tests have passed, the state is within the limits. Assumes nothing.
use Rattle.model.specs.State.{lent_state}
use Rattle.tests.specs.Links.{accepted-none}
use Rattle.scheme_tendencies.specs.CallLaws.{tendencies-passed}
use Rattle.scheme_probe.proofs.probe_grid.Goals as goal

pub fill-requires : goal.fill-requires
fill-requires c =
    let a = c.args in
    let p = tendencies-passed (lent_state a.s.now) a.q.now a.dh.now a.du.now a.dv.now (accepted-none _ c.in_ok-test_tendencies.ensures) in
    ((p.0, p.1), p.2)

pub precision_of-requires : goal.precision_of-requires
precision_of-requires c =
    let a = c.args in
    (tendencies-passed (lent_state a.s.now) a.q.now a.dh.now a.du.now a.dv.now (accepted-none _ c.in_ok-test_tendencies.ensures)).0
