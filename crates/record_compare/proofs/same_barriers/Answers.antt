-- `record_compare::same_barriers` meets its contract: a test of every place tells two lists of m bytes apart. Assumes nothing.
use Rattle.std.proofs.Common.{rules, refl, eqb, get_or, arith, zero-add, ◌∙◌}
use borrow.Author.Tests.{tests}
use Rattle.std.proofs.lemmas.Iterator.{YieldsList-from_range}
use Rattle.std.proofs.lemmas.Iterator.Search.{all_from_yields_List}
use Rattle.record_compare.specs.SameLaws.{places_same}
use Rattle.record_compare.proofs.same_barriers.Goals as goal

pub returns : goal.returns
returns c =
    let a = c.args.a.now in
    let b = c.args.b.now in
    all_from_yields_List (λ k. eqb (get_or a k 0) (get_or b k 0)) _ _ c.all.result c.all.ensures.ran (YieldsList-from_range 0 c.args.m c.args.m refl (omega arith)) (λ x r q k. search (rules, tests))
    ∙ places_same c.args.m 0 (λ k. eqb (get_or a k 0) (get_or b k 0)) (λ k. get_or a k 0) (λ k. get_or b k 0) (λ i. rw (zero-add i))
