-- Calls of `read` and `write` as a caller sees them: what goes in, the answer, and what is left in the lent parameters (marked '), by name.
-- Each is read off `Learnt`, once: what a caller learns of a call, the function's `ensures` in src/lib.rt as the checker reads it, of the
-- arguments a, the answer, and the parameters e as the call returns, both in the order of the signature. The theorems of Applied are of
-- these calls. Assumes nothing.
use mathlib.Core.List.{List}
use Prim.Native.Nat.{ℕ}
use contract.Lifetimes.{Lfts}
use denote.Triple.Clauses.{AtExit}
use borrow.Fn.Kinds.{Dens, res_t, ended_of}
use Rattle.model.specs.State.{State, Fields, lent_state}
use Rattle.model.specs.Promises.{WritePromise, ReadPromise}
use Rattle.model.specs.declared.Timestamp.{Timestamp}
use Rattle.model.specs.Answers.{ReadAnswer, WriteAnswer}
use Rattle.record_write.proofs.write.Kinds as write-kinds
use Rattle.record_write.proofs.write.Reads as write-reads
use Rattle.record_read.proofs.read.Kinds as read-kinds
use Rattle.record_read.proofs.read.Reads as read-reads

-- ---- `read`

pub record ReadCall : Type 0 where
  pub rec : List ℕ
  pub d : Fields
  pub d' : Fields
  pub answer : ReadAnswer
  pub promise : ReadPromise rec d answer d'

module _ (κs : Lfts 6) (a : Dens κs read-kinds.ps) (answer : (res_t read-kinds.r κs).Denot) (e : AtExit (ended_of 6 read-kinds.ps read-kinds.r) κs) where
  abbrev pub read_call : read-reads.Learnt κs a answer e → ReadCall
  read_call told =
      let (rec, (h, (b, (u, (v, (barriers, _)))))) = a in
      let (_, (h', (b', (u', (v', (barriers', _)))))) = e in
      record { rec = rec.now; d = record { h = h.now; b = b.now; u = u.now; v = v.now; barriers = barriers.now }; d' = record { h = h'.now; b = b'.now; u = u'.now; v = v'.now; barriers = barriers'.now }; answer = answer; promise = told }

-- ---- `write`

pub record WriteCall : Type 0 where
  pub state : State
  pub timestamp : Timestamp
  pub d : List ℕ
  pub d' : List ℕ
  pub answer : WriteAnswer
  pub promise : WritePromise state timestamp d answer d'

module _ (κs : Lfts 3) (a : Dens κs write-kinds.ps) (answer : (res_t write-kinds.r κs).Denot) (e : AtExit (ended_of 3 write-kinds.ps write-kinds.r) κs) where
  abbrev pub write_call : write-reads.Learnt κs a answer e → WriteCall
  write_call told =
      let (s, (timestamp, (d, _))) = a in
      let (_, (_, (d', _))) = e in
      record { state = lent_state s.now; timestamp = timestamp; d = d.now; d' = d'.now; answer = answer; promise = told }
