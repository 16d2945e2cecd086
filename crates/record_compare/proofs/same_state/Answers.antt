-- Where a value differs the states do, since each number has one form in bytes; where none does, the barriers decide. Assumes nothing.
use Rattle.std.proofs.Common.{◌*◌, sym, ap, ◌∙◌, arith}
use Rattle.model.specs.declared.Parameters.{Parameters}
use Rattle.record_compare.specs.SameLaws.{same_read, other-read, cells_few}
use Rattle.record_compare.proofs.same_state.Goals as goal

pub returns-then-not-same_value : goal.returns-then-not-same_value
returns-then-not-same_value c =
    other-read c.args.first.now.small c.args.second.now.small c.requires c.loop-tag.tag-index c.loop-tag-test.true
    (sym c.same_value.ensures ∙ c.if-not-same_value.true)

-- the cells of an accepted record are few
pub overflow_mul-m : goal.overflow_mul-m
overflow_mul-m c = omega (arith, ap (λ (p : Parameters). p.w * p.n) c.parameters_in-read.ensures, cells_few c.requires.first_read)

-- the tags compared have the same values: the barriers decide, over the cells of the first record
pub returns : goal.returns
returns c =
    c.same_barriers.ensures
    ∙ same_read c.args.first.now.bytes.now c.args.second.now.bytes.now (λ k h. c.loop-tag.invariant k (omega arith)) (ap (λ (p : Parameters). p.w * p.n) c.parameters_in-read.ensures) c.value_of-a.ensures.is c.value_of-b.ensures.is
