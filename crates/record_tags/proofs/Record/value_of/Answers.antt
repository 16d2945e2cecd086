-- `record_tags::value_of` meets its contract: a tag that was not seen has no value. Assumes nothing.
use Rattle.std.proofs.Common.{None, get_or, sym, ap, ◌∙◌}
use Rattle.record_tags.proofs.WalkLaws.{is-value, no_value}
use Rattle.record_tags.proofs.Record.value_of.Goals as goal

pub value_at-requires : goal.value_at-requires
value_at-requires c =
    let r = c.args.self.now in
    (r.placed.seen.stands c.args.tag c.in-Some.k (ap (λ i. get_or r.at i None) (sym c.place.ensures) ∙ c.in-Some.is)).inside

pub returns-in-Some : goal.returns-in-Some
returns-in-Some c =
    let r = c.args.self.now in
    is-value (r.placed.seen.stands c.args.tag c.in-Some.k (ap (λ i. get_or r.at i None) (sym c.place.ensures) ∙ c.in-Some.is)) c.value_at.ensures

pub returns-in-None : goal.returns-in-None
returns-in-None c =
    let r = c.args.self.now in
    no_value c.args.tag r.placed (ap (λ i. get_or r.at i None) (sym c.place.ensures) ∙ c.in-None.is)
