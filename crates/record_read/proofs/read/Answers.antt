-- `record_read::read` meets its contract. Assumes nothing.
use mathlib.Core.Path.{◌≡◌, sym, ap, subst, ◌∙◌}
use mathlib.Core.List.{List}
use Prim.Native.Nat.{ℕ, ◌*◌, min}
use native.Mathlib.Omega.{arith}
use lib.ListN.{length}
use Rattle.std.proofs.lemmas.Result.{err_from_is_err_and}
use Rattle.model.specs.State.{Fields, parameters_of, cells}
use Rattle.model.specs.Promises.{rooms_in}
use Rattle.model.specs.Claims.{EachRoom, BytesOf}
use Rattle.model.specs.declared.Parameters.{Parameters}
use Rattle.record_tags.specs.Places.{parts_in}
use Rattle.record_tests.specs.RecordTested.{state_read, Accepted}
use Rattle.record_read.proofs.ReadLaws.{least, bytes_of, cells-most, read-refused, read-room, read_done}
use Rattle.record_read.proofs.read.Goals as goal

-- the room that is tested for is that of the shortest destination
shortest : (d : Fields) {x y z r : ℕ} → x ≡ min (length d.h) (length d.b) → y ≡ min x (length d.u) → z ≡ min y (length d.v) → r ≡ min z (length d.barriers) → r ≡ least d
shortest d p q e f = f ∙ ap (λ n. min n (length d.barriers)) (e ∙ ap (λ n. min n (length d.v)) (q ∙ ap (λ n. min n (length d.u)) p))

-- the parameters read are the state's
cells_are : (rec : List ℕ) (p : Parameters) → p ≡ parameters_of (state_read rec) → cells (state_read rec) ≡ p.w * p.n
cells_are rec p e = sym (ap (λ (p : Parameters). p.w * p.n) e)

-- the record that was examined has those bytes
own : {rec bytes rooms : List ℕ} → (bytes ≡ rec) × Accepted rec rooms → Accepted bytes rooms
own {rooms = rooms} x = subst (λ b. Accepted b rooms) (sym x.0) x.1

pub returns-in_err-record : goal.returns-in_err-record
returns-in_err-record c =
    let a = c.args in
    let d : Fields = record { h = a.h.now; b = a.b.now; u = a.u.now; v = a.v.now; barriers = a.barriers.now } in
    let l = shortest d c.min.ensures c.min-2.ensures c.min-3.ensures c.min-room.ensures in
    let p = err_from_is_err_and c.from_residual.result c.from_residual.ensures.1 in
    rw (p.1, p.2) (read-refused a.rec.now d l c.in_err-record.ensures)

pub overflow_mul-m : goal.overflow_mul-m
overflow_mul-m c =
    let x = own c.in_ok-record.ensures in
    omega (arith, cells_are c.in_ok-record.record.bytes.now c.parameters_in-parameters.result c.parameters_in-parameters.ensures, cells-most x)

pub fill-requires : goal.fill-requires
fill-requires c =
    let a = c.args in
    let d : Fields = record { h = a.h.now; b = a.b.now; u = a.u.now; v = a.v.now; barriers = a.barriers.now } in
    let rec = c.in_ok-record.record.bytes.now in
    let x = own c.in_ok-record.ensures in
    let e = cells_are rec c.parameters_in-parameters.result c.parameters_in-parameters.ensures in
    let l = shortest d c.min.ensures c.min-2.ensures c.min-3.ensures c.min-room.ensures in
    (e, subst (λ m. BytesOf m (parts_in rec)) e (bytes_of x), subst (λ m. EachRoom m (rooms_in d)) e (read-room rec d l x))

pub returns : goal.returns
returns c =
    let a = c.args in
    let d : Fields = record { h = a.h.now; b = a.b.now; u = a.u.now; v = a.v.now; barriers = a.barriers.now } in
    let l = shortest d c.min.ensures c.min-2.ensures c.min-3.ensures c.min-room.ensures in
    let e = c.in_ok-record.ensures.0 in
    read_done a.rec.now d l c.in_ok-record.ensures.1 (rw (sym e) c.parameters_in-parameters.ensures) (rw (sym e) c.timestamp_in-timestamp.ensures) (rw (sym e) c.fill.ensures)
