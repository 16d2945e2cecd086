-- A record is refused exactly where a cause holds, in the order 7, 1, 2, 8, 3, 9, 4, 5, and accepted exactly where none does. Assumes nothing.
use Rattle.std.specs.Prelude.{◌≡◌, refl, ◌↔◌, ◌⊎◌, List, ℕ}
use Rattle.std.proofs.Common.{sym, ap₂, subst₂, ◌∙◌, inl, inr, ⊎_elim}
use Rattle.std.proofs.Math.Path.{ap, subst}
use Rattle.std.specs.Prelude.{Option, None, Some}
use Rattle.model.specs.State.{State, Fields, parameters_of}
use Rattle.model.specs.Answers.{told_read}
use Rattle.model.specs.Record.{Part, Walked, damaged, whole, walked, state_in, timestamp_in, record_tests, record_test, Decoded, accepted, refused, judged, read_by, decode}
use Rattle.model.specs.Promises.{read_answer, rooms_in, put, read_into, read_of, ReadPromise}
use Rattle.model.specs.Claims.{ReadCause, Readable, ReadCausesClaim}
use Rattle.model.specs.declared.Parameters.{Parameters}
use Rattle.model.specs.declared.Timestamp.{Timestamp}
use Rattle.model.specs.declared.Refusal.{Refusal}
use Rattle.std.specs.Prelude.{Ok, Err}
use Rattle.model.specs.Answers.{header}
use Rattle.theorems.specs.Truth.{◌⟫◌, either, differ}
use Rattle.theorems.specs.TestLaws.{finds}
use Rattle.theorems.specs.RoundTrip.{Fit, fields-iff}
use Rattle.theorems.specs.Damage.{damaged-iff, whole-iff}

-- ---- by what the walk found

judged-some : (o : Option Refusal) (s : State) (t : Timestamp) (r : Refusal) → (judged o s t ≡ refused r) ↔ (o ≡ Some r)
judged-some None s t r = (λ e. differ (cc e), λ e. differ (cc e))
judged-some (Some x) s t r = (λ e. let h : x ≡ r = cc e in ap Some h, λ e. let h : x ≡ r = cc e in ap refused h)

judged-none : (o : Option Refusal) (s s' : State) (t t' : Timestamp) → (judged o s t ≡ accepted s' t') ↔ ((o ≡ None) × (s ≡ s') × (t ≡ t'))
judged-none None s s' t t' = (λ e. (refl, cc e, cc e), λ p. ap₂ accepted p.1 p.2)
judged-none (Some x) s s' t t' = (λ e. differ (cc e), λ p. differ (cc p.0))

refused-by : (rooms : List ℕ) (w : Walked) (r : Refusal)
    → (read_by rooms w ≡ refused r) ↔ ((w ≡ damaged r) ⊎ ((parts : List Part) × (w ≡ whole parts) × (record_test (state_in parts) (timestamp_in parts) parts rooms ≡ Some r)))
refused-by rooms (damaged x) r = (
  λ e. let h : x ≡ r = cc e in inl (ap damaged h),
  ⊎_elim (λ e. let h : x ≡ r = cc e in ap refused h) (λ p. differ (cc p.1)),
)
refused-by rooms (whole ps) r =
    let i = judged-some (record_test (state_in ps) (timestamp_in ps) ps rooms) (state_in ps) (timestamp_in ps) r in (
      λ e. inr (ps, refl, i.0 e),
      ⊎_elim (λ e. differ (cc e)) (λ p. let h : p.0 ≡ ps = cc p.1 in i.1 (subst (λ x. record_test (state_in x) (timestamp_in x) x rooms ≡ Some r) h p.2)),
    )

record Found (rooms : List ℕ) (w : Walked) (s : State) (t : Timestamp) : Type 0 where
  parts : List Part
  walks : w ≡ whole parts
  passes : record_test (state_in parts) (timestamp_in parts) parts rooms ≡ None
  state : state_in parts ≡ s
  timestamp : timestamp_in parts ≡ t

accepted-by : (rooms : List ℕ) (w : Walked) (s : State) (t : Timestamp) → (read_by rooms w ≡ accepted s t) ↔ Found rooms w s t
accepted-by rooms (damaged x) s t = (λ e. differ (cc e), λ f. differ (cc f.walks))
accepted-by rooms (whole ps) s t = (
  λ e.
      let p = (judged-none (record_test (state_in ps) (timestamp_in ps) ps rooms) (state_in ps) s (timestamp_in ps) t).0 e in
      record { parts = ps; walks = refl; passes = p.0; state = p.1; timestamp = p.2 },
  λ f. ap (read_by rooms) f.walks ∙ (judged-none (record_test (state_in f.parts) (timestamp_in f.parts) f.parts rooms) (state_in f.parts) s (timestamp_in f.parts) t).1 (f.passes, f.state, f.timestamp),
)

refuses : (rec rooms : List ℕ) (r : Refusal) → (decode rec rooms ≡ refused r) ↔ ReadCause rec rooms r
unfolding decode record_test
refuses rec rooms r =
    refused-by rooms (walked rec) r
    ⟫ either (damaged-iff rec r) (
      λ p. (p.0, (whole-iff rec p.0).0 p.1, (finds (record_tests (state_in p.0) (timestamp_in p.0) p.0 rooms) r).0 p.2),
      λ p. (p.0, (whole-iff rec p.0).1 p.1, (finds (record_tests (state_in p.0) (timestamp_in p.0) p.0 rooms) r).1 p.2),
    )

pub accepts : (rec rooms : List ℕ) (s : State) (t : Timestamp) → (decode rec rooms ≡ accepted s t) ↔ Readable rec rooms s t
unfolding decode
accepts rec rooms s t =
    accepted-by rooms (walked rec) s t
    ⟫ (
      λ f.
          let p = subst₂ (λ x y. Fit x y f.parts rooms) f.state f.timestamp ((fields-iff f.parts rooms ((whole-iff rec f.parts).0 f.walks).1).0 f.passes) in
          record {
            parts = f.parts;
            whole = (whole-iff rec f.parts).0 f.walks;
            state = f.state;
            timestamp = f.timestamp;
            bytes = p.0;
            room = p.1;
            time = p.2;
            inside = p.3;
          },
      λ g.
          let p : Fit s t g.parts rooms = (g.bytes, g.room, g.time, g.inside) in
          record {
            parts = g.parts;
            walks = (whole-iff rec g.parts).1 g.whole;
            passes = (fields-iff g.parts rooms g.whole.1).1 (subst₂ (λ x y. Fit x y g.parts rooms) (sym g.state) (sym g.timestamp) p);
            state = g.state;
            timestamp = g.timestamp;
          },
    )

-- ---- the reader's promise

answer-refused : (x : Decoded) (r : Refusal) → Err r ≡ read_answer x → x ≡ refused r
answer-refused (accepted s t) r e = differ (cc e)
answer-refused (refused y) r e = let h : y ≡ r = cc e in ap refused h

record Holds (x : Decoded) (p : Parameters) (t : Timestamp) : Type 0 where
  state : State
  is : x ≡ accepted state t
  parameters : p ≡ parameters_of state

answer-read : (x : Decoded) (p : Parameters) (t : Timestamp) → Ok (header p t) ≡ read_answer x → Holds x p t
answer-read (accepted s y) p t e =
    let h : header p t ≡ header (parameters_of s) y = cc e in
    record { state = s; is = ap (λ x. accepted s x.timestamp) (sym h); parameters = ap (λ x. x.parameters) h }
answer-read (refused r) p t e = differ (cc e)

module _ (rec : List ℕ) (d d' : Fields) where
  -- what a read leaves, by what it found
  promised : (x : Decoded) → read_of rec d ≡ x → d' ≡ read_into x d → ReadPromise rec d (read_answer x) d'
  promised x e p = let a = ap read_answer (sym e) in record { answers = a; tells = ap told_read a; fills = p ∙ ap (λ x. read_into x d) (sym e) }

  read-refuses : (r : Refusal) → ReadPromise rec d (Err r) d' ↔ (ReadCause rec (rooms_in d) r × (d' ≡ d))
  unfolding read_of
  read-refuses r =
      let i = refuses rec (rooms_in d) r in (
        λ p. let e = answer-refused (read_of rec d) r p.answers in (i.0 e, p.fills ∙ ap (λ x. read_into x d) e),
        λ c. promised (refused r) (i.1 c.0) c.1,
      )

  pub read-accepts : (p : Parameters) (t : Timestamp)
      → ReadPromise rec d (Ok (header p t)) d' ↔ ((s : State) × Readable rec (rooms_in d) s t × (p ≡ parameters_of s) × (d' ≡ put s d))
  unfolding read_of
  read-accepts p t =
      let i = accepts rec (rooms_in d) in (
        λ r.
            let f = answer-read (read_of rec d) p t r.answers in
            (f.state, (i f.state t).0 f.is, f.parameters, r.fills ∙ ap (λ x. read_into x d) f.is),
        λ c. subst (λ q. ReadPromise rec d (Ok (header q t)) d') (sym c.2) (promised (accepted c.0 t) ((i c.0 t).1 c.1) c.3),
      )

pub read-causes : ReadCausesClaim
read-causes = record { refuses = refuses; accepts = accepts; read-refuses = read-refuses; read-accepts = read-accepts }
