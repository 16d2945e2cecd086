-- `record_tags::walk` meets its contract: the fields before k have been walked. Assumes nothing.
use Rattle.std.proofs.lemmas.Result.{err_from_is_err_and}
use Rattle.theorems.specs.Walks.{sound-iff}
use Rattle.record_tags.proofs.WalkLaws.{walking-none, walking-refused, walking-more, walking-placed, walking-missing}
use Rattle.record_tags.proofs.Record.walk.Goals as goal

pub loop-k-init : goal.loop-k-init
loop-k-init c = walking-none c.args.rec.now

pub returns-in_err-tag : goal.returns-in_err-tag
returns-in_err-tag c =
    let w = c.loop-k.invariant in
    let p = err_from_is_err_and c.from_residual.result c.from_residual.ensures.1 in
    rw (p.1, p.2) (walking-refused w c.loop-k-test.true (c.in_err-tag.ensures w.parts w.seen))

pub size_at-requires : goal.size_at-requires
size_at-requires c =
    let w = c.loop-k.invariant in
    ((sound-iff c.args.rec.now c.loop-k.k w.parts).0 (c.in_ok-tag.ensures w.parts w.seen).1).head

pub loop-k-preserved : goal.loop-k-preserved
loop-k-preserved c =
    let w = c.loop-k.invariant in
    let t = c.in_ok-tag.ensures w.parts w.seen in
    rw (c.size_at.ensures.0, c.place.ensures) (walking-more w c.loop-k-test.true c.in_ok-tag.tag t.0 t.1)

pub returns-in_err-test_end : goal.returns-in_err-test_end
returns-in_err-test_end c =
    let w = c.loop-k.invariant in
    let p = err_from_is_err_and c.from_residual-in_err-test_end.result c.from_residual-in_err-test_end.ensures.1 in
    rw (p.1, p.2) (walking-missing w c.loop-k-test.false (c.in_err-test_end.ensures w.parts w.seen))

pub invariant_of-result : goal.invariant_of-result
invariant_of-result c = let w = c.loop-k.invariant in record { placed = walking-placed w c.loop-k-test.false (c.in_ok-test_end.ensures w.parts w.seen); small = λ k. (c.type_inv.rec k).fits }
