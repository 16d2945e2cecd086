-- `record_tests::parameters_in` meets its contract. Assumes nothing.
use Rattle.std.proofs.Common.{get_or, take, drop, w64, ap, ◌∙◌}
use Rattle.integers.specs.Bounds.{held-is}
use Rattle.model.specs.Record.{signed4, state_in}
use Rattle.record_tests.specs.RecordTested.{state_read}
use Rattle.record_tests.proofs.parameters_in.Goals as goal

pub returns : goal.returns
unfolding state_read state_in
returns c =
    let grid = c.value_of-grid.ensures.is in
    let constants = c.value_of-constants.ensures.is in
    λ i. record {
      w = (c.from.ensures ∙ ap (λ l. get_or l 0 0) grid) i;
      n = (c.from-2.ensures ∙ ap (λ l. get_or l 1 0) grid) i;
      kind = get_or (grid i) 2 0;
      g = held-is w64 c.number_at.type_inv (c.number_at.ensures ∙ ap (λ l. signed4 (take 4 l)) constants) i;
      c = held-is w64 c.number_at-2.type_inv (c.number_at-2.ensures ∙ ap (λ l. signed4 (take 4 (drop 4 l))) constants) i;
      r = held-is w64 c.number_at-3.type_inv (c.number_at-3.ensures ∙ ap (λ l. signed4 (take 4 (drop 8 l))) constants) i;
    }
