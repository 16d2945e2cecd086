-- `record_write::put_record` meets its contract: one field after the other, from the front on, is the record. Assumes nothing.
use Rattle.std.proofs.Common.{rules, refl}
use Rattle.record_bytes.specs.BigEndian.{two_bytes}
use Rattle.record_bytes.specs.Puts.{puts_then, room-first, room-then}
use Rattle.record_write.specs.WriteLaws.{scalars-ready, fields-ready, record-room, record-put}
use Rattle.record_write.proofs.put_record.Goals as goal

pub put_scalars-requires : goal.put_scalars-requires
put_scalars-requires c =
    let a = c.args in
    let s = a.s.now in
    (scalars-ready s.p s.h.now s.b.now s.u.now s.v.now s.barriers.now c.requires, room-first _ (record { room = record-room s.p s.h.now s.b.now s.u.now s.v.now s.barriers.now a.timestamp c.requires }))

pub put_fields-requires : goal.put_fields-requires
put_fields-requires c =
    let a = c.args in
    let s = a.s.now in
    (fields-ready s.p s.h.now s.b.now s.u.now s.v.now s.barriers.now c.requires, room-first _ (room-then c.put_scalars.ensures (record { room = record-room s.p s.h.now s.b.now s.u.now s.v.now s.barriers.now a.timestamp c.requires })))

pub put_field-requires : goal.put_field-requires
put_field-requires c =
    let a = c.args in
    let s = a.s.now in
    rw (two_bytes a.timestamp.milliseconds c.to_be_bytes.ensures)
    (room-first _ (room-then c.put_fields.ensures (room-then c.put_scalars.ensures (record { room = record-room s.p s.h.now s.b.now s.u.now s.v.now s.barriers.now a.timestamp c.requires }))))

pub put_field-requires-2 : goal.put_field-requires-2
put_field-requires-2 c =
    let a = c.args in
    let s = a.s.now in
    room-then (rw (two_bytes a.timestamp.milliseconds c.to_be_bytes.ensures) at c.put_field.ensures)
    (room-then c.put_fields.ensures (room-then c.put_scalars.ensures (record { room = record-room s.p s.h.now s.b.now s.u.now s.v.now s.barriers.now a.timestamp c.requires })))

pub returns : goal.returns
returns c =
    let a = c.args in
    let s = a.s.now in
    let all = puts_then c.put_scalars.ensures (puts_then c.put_fields.ensures (puts_then (rw (two_bytes a.timestamp.milliseconds c.to_be_bytes.ensures) at c.put_field.ensures) c.put_field-2.ensures)) in
    let put = record-put s.p s.h.now s.b.now s.u.now s.v.now s.barriers.now a.timestamp c.requires refl all in
    (put.0, rw (← put.1) (search (rules, all)))
