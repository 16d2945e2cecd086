-- The round trips speak of this code, by calls of `write` and `read` (Calls). Assumes nothing.
use mathlib.Core.Path.{◌≡◌, sym, ap, subst, ◌∙◌}
use mathlib.Core.List.{List}
use Prim.Native.Nat.{◌*◌, ◌^◌, ◌≤◌, ◌<◌}
use contract.Lifetimes.{Lfts}
use denote.Triple.Clauses.{AtExit}
use borrow.Fn.Kinds.{Dens, res_t, ended_of}
use lib.Dec.{T}
use lib.ListN.{length, take}
use Rattle.model.specs.State.{state_of, state_from, parameters_of, cells, WithinLimits}
use Rattle.model.specs.Numbers.{most_milliseconds}
use Rattle.model.specs.Record.{Part, record_length, rising, restored, kept}
use Rattle.model.specs.Promises.{WritePromise, rooms_in, ReadPromise}
use Rattle.model.specs.Claims.{EachRoom, Among, WholeIn, Bytes}
use Rattle.model.specs.declared.Parameters.{Parameters}
use Rattle.model.specs.declared.Timestamp.{Timestamp}
use Rattle.std.specs.Prelude.{Ok}
use Rattle.model.specs.Answers.{header}
use Rattle.theorems.specs.Theorems.{theorems}
use Rattle.record_read.proofs.read.Kinds as read-kinds
use Rattle.record_read.proofs.read.Reads as read-reads
use Rattle.record_read.proofs.Calls.{ReadCall, WriteCall, read_call}

-- ---- a call of `read`

accepted-read : (g : ReadCall) {p : Parameters} {t : Timestamp} → g.answer ≡ (Ok (header p t)) → ReadPromise g.rec g.d (Ok (header p t)) g.d'
accepted-read g e = subst (λ x. ReadPromise g.rec g.d x g.d') e g.promise

-- what it fills in is a state within the limits
pub read-is-within : (g : ReadCall) {p : Parameters} {t : Timestamp} → g.answer ≡ (Ok (header p t)) → WithinLimits (state_from p g.d')
read-is-within g {p} {t} e = theorems.read g.rec g.d g.d' p t (accepted-read g e)

-- ---- and a call of `write`

-- a state within the limits that is written, and what was written read into fields that have room: the same state and timestamp
pub write-then-read : (w : WriteCall) (g : ReadCall)
    → WithinLimits w.state → w.timestamp.seconds < 2 ^ 64 → w.timestamp.milliseconds ≤ most_milliseconds
    → record_length w.state ≤ length w.d → EachRoom (cells w.state) (rooms_in g.d)
    → g.rec ≡ take (record_length w.state) w.d'
    → (w.answer ≡ Ok (record_length w.state)) × (g.answer ≡ Ok (header (parameters_of w.state) w.timestamp))
    × (state_from (parameters_of w.state) g.d' ≡ w.state)
write-then-read w g l t ms room fit q =
    theorems.write-then-read w.state w.timestamp w.d w.d' w.answer g.d g.d' g.answer l t ms room w.promise fit
    (subst (λ r. ReadPromise r g.d g.answer g.d') q g.promise)

-- an accepted record, and what was read of it written again: its fields by rising tag, and zeros for each that it lacks; where its tags
-- rise, its own bytes up to the first field that it lacks
pub read-then-write : (g : ReadCall) (w : WriteCall) {p : Parameters} {t : Timestamp}
    → Bytes g.rec → g.answer ≡ (Ok (header p t)) → w.state ≡ state_from p g.d' → w.timestamp ≡ t → length (restored g.rec) ≤ length w.d
    → (w.answer ≡ Ok (length (restored g.rec))) × (take (length (restored g.rec)) w.d' ≡ restored g.rec)
    × (T (rising g.rec) → take (kept g.rec) w.d' ≡ take (kept g.rec) g.rec)
read-then-write g w {p} {t} bytes q same time room =
    theorems.read-then-write g.rec w.d w.d' g.d g.d' p t w.answer bytes (accepted-read g q)
    (subst (λ x. WritePromise (state_from p g.d') x w.d w.answer w.d') time (subst (λ s. WritePromise s w.timestamp w.d w.answer w.d') same w.promise)) room

-- so all bytes of a record come back whose tags rise, if it has both tags that it may lack
pub own-bytes-return : (g : ReadCall) (w : WriteCall) {p : Parameters} {t : Timestamp} (parts : List Part)
    → Bytes g.rec → WholeIn g.rec parts → T (rising g.rec) → Among 8 parts → Among 9 parts
    → g.answer ≡ (Ok (header p t)) → w.state ≡ state_from p g.d' → w.timestamp ≡ t → length g.rec ≤ length w.d
    → (w.answer ≡ Ok (length g.rec)) × (take (length g.rec) w.d' ≡ g.rec)
own-bytes-return g w parts bytes whole rises eight nine q same time room =
    let e = ((theorems.restored g.rec parts bytes whole rises).whole eight nine).0 in
    let n = ap length e in
    let x = read-then-write g w bytes q same time (subst (λ k. k ≤ length w.d) (sym n) room) in
    (x.0 ∙ ap Ok n, ap (λ k. take k w.d') (sym n) ∙ x.1 ∙ e)

-- ---- the same of the code itself: from what a caller learns of a call, of its own parameters

module _ (κs : Lfts 6) (a : Dens κs read-kinds.ps) (answer : (res_t read-kinds.r κs).Denot) (e : AtExit (ended_of 6 read-kinds.ps read-kinds.r) κs) where
  pub code-read-is-within : read-reads.Learnt κs a answer e → {p : Parameters} {t : Timestamp} → answer ≡ Ok (header p t)
      → let (_, (h', (b', (u', (v', (barriers', _)))))) = e in
      let m = p.w * p.n in WithinLimits (state_of p (take m h'.now) (take m b'.now) (take m u'.now) (take m v'.now) (take m barriers'.now))
  code-read-is-within told q = read-is-within (read_call κs a answer e told) q
