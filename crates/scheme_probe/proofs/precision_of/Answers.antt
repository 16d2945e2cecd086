-- The tests by narrow bounds are the model's. Assumes nothing.
use Rattle.std.proofs.Common.{sym, ◌∙◌}
use Rattle.model.specs.State.{lent_state}
use Rattle.scheme_probe.specs.Probed.{exact-told, near-told}
use Rattle.scheme_probe.proofs.precision_of.Goals as goal

pub returns-in-Ok : goal.returns-in-Ok
returns-in-Ok c = exact-told (lent_state c.args.s.now) c.args.q.now (sym c.test_narrow.ensures ∙ c.in-Ok.is)

pub returns-in-Err : goal.returns-in-Err
returns-in-Err c = near-told (lent_state c.args.s.now) c.args.q.now (sym c.test_narrow.ensures ∙ c.in-Err.is)
