-- The loop has gone through the first cells; a cell more is a line more.
use Rattle.std.proofs.Common.{rules, ◌≡◌, length, ◌∙◌, ap, to_z, of_z, w64}
use Rattle.std.proofs.lemmas.Iterator.Consumers.{YieldsList-turn}
use Rattle.std.proofs.lemmas.List.{length_push}
use Rattle.model.specs.Grid.{tabulate}
use Rattle.model.specs.Program.{cell_line, lines}
use Rattle.text.specs.Sink.{puts, follows}
use Rattle.text.specs.Lines.{lines_more}
use Rattle.text.proofs.Cells.{line_of, cell_at, goes_through, indexed-at}
use Rattle.text.proofs.Sink.put_cells.Goals as goal

pub loop-k-preserved : goal.loop-k-preserved
loop-k-preserved c =
    let a = c.args in
    let n = length c.loop-k.yielded in
    let f = cell_line a.w a.h.now a.u.now a.v.now in
    let cells = goes_through a.h.now a.u.now a.v.now {s = c.into_iter-k-iterator.result} (cc) (cc) (cc) (cc) in
    let turn = YieldsList-turn cells c.loop-k.yielded c.loop-k.k-iterator c.loop-k.yielded_by _ c.next.new.self _ c.in-Some.is c.next.ensures.steps in
    let h = c.in-Some.field-0-1-0-0.now in
    let u = c.in-Some.field-0-1-0-1.now in
    let v = c.in-Some.field-0-1-1.now in
    let depth : to_z w64 (of_z w64 h) ≡ h = search rules in
    let east : to_z w64 (of_z w64 u) ≡ u = search rules in
    let north : to_z w64 (of_z w64 v) ≡ v = search rules in
    let cell : (c.in-Some.k, ((to_z w64 (of_z w64 h), to_z w64 (of_z w64 u)), to_z w64 (of_z w64 v))) ≡ cell_at a.h.now a.u.now a.v.now n
    = rw (depth, east, north) (indexed-at _ _ _ c.requires.1 c.requires.2 _ _ turn) in
    rw (length_push, lines_more) (follows (lines (tabulate n f)) (f n) a.self.now c.loop-k.invariant (c.put_cell.ensures ∙ ap (λ x. puts (line_of a.w x) c.loop-k.self) cell))
