-- What the tests find is the model's; once they have passed, the state is within the limits. Assumes nothing.
use Rattle.model.specs.State.{lent_state}
use Rattle.tests.specs.Links.{accepted-none}
use Rattle.scheme_tendencies.specs.CallLaws.{tendencies-passed}
use Rattle.scheme_tendencies.proofs.tendencies.Goals as goal

pub fill_tendencies-requires : goal.fill_tendencies-requires
fill_tendencies-requires c =
    let a = c.args in
    tendencies-passed (lent_state a.s.now) a.q.now a.dh.now a.du.now a.dv.now (accepted-none _ c.in_ok-test_tendencies.ensures)
