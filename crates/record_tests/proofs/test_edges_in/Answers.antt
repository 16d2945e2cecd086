-- The scans are those of the state that the bytes mean. Assumes nothing.
use Rattle.std.proofs.Common.{[], ◌∷◌, ap, ap₂, sym, ◌∙◌}
use Rattle.tests.specs.Sought.{still_test, edges_are}
use Rattle.tests.specs.Links.{answers}
use Rattle.model.specs.declared.Field.TheVariants.{VelocityU, VelocityV}
use Rattle.grid.specs.declared.Edge.TheVariants.{West, South}
use Rattle.record_bytes.specs.declared.Size.TheVariants.{Two}
use Rattle.record_bytes.specs.ByteLoops.{numbers-long}
use Rattle.record_tests.specs.RecordTested.{state_read}
use Rattle.record_tests.proofs.ValueLaws.{u-is, v-is, value-barriers}
use Rattle.record_tests.proofs.OrderLaws.{cells_are, own-numbers, own-edges, same-still}
use Rattle.record_tests.proofs.test_edges_in.Goals as goal

pub test_edges-requires : goal.test_edges-requires
test_edges-requires c =
    let u = c.numbers_of-u.result in
    let v = c.numbers_of-v.result in
    (numbers-long u.size u.count u.value.now ∙ c.numbers_of-u.ensures.2, numbers-long v.size v.count v.value.now ∙ c.numbers_of-v.ensures.2)

pub returns : goal.returns
returns c =
    let a = c.args in
    let s = state_read a.rec.now.bytes.now in
    let y = c.requires.0 in
    let o = c.value_of.result.now in
    let bytes = value-barriers c.value_of.ensures (cells_are y) c.requires.1 in
    let u = own-numbers y Two 6 c.numbers_of-u.ensures (u-is a.rec.now.bytes.now) in
    let v = own-numbers y Two 7 c.numbers_of-v.ensures (v-is a.rec.now.bytes.now) in
    c.test_edges.ensures [] [] ∙ sym (ap answers (edges_are a.p [] [] _ _ o))
    ∙ ap₂ (λ f g. answers (still_test a.p o West VelocityU f ∷ still_test a.p o South VelocityV g ∷ [])) u v
    ∙ ap₂ (λ t r. answers (t ∷ r ∷ [])) (same-still o s.barriers bytes a.p West VelocityU s.u) (same-still o s.barriers bytes a.p South VelocityV s.v)
    ∙ ap answers (own-edges y)
