-- `record_tags::test_end` meets its contract: the loop has found the tags before this one. Assumes nothing.
use Rattle.std.proofs.Common.{◌≤◌, ◌<◌, subst, le_trans, arith}
use Rattle.std.proofs.lemmas.Grind.{common_steps}
use Rattle.record_tags.proofs.TagLaws.{all-required, complete, incomplete}
use Rattle.record_tags.proofs.test_end.Goals as goal

pub returns-then-is_none : goal.returns-then-is_none
returns-then-is_none c parts s =
    let k = c.loop-place.place-index in
    incomplete s k (subst (λ n. k < n) (all-required s) c.loop-place-test.true) (let l = s.long in grind (arith, common_steps))

pub returns : goal.returns
returns c parts s = complete s (λ k h. c.loop-place.invariant k (le_trans h (subst (λ n. n ≤ c.loop-place.place-index) (all-required s) c.loop-place-test.false)))
