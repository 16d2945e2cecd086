-- A state within the limits that is written and read again is the same state with the same timestamp. Assumes nothing.
use Rattle.std.specs.Prelude.{◌≡◌, ◌↔◌, Bool, true, false, not, ◌||◌, ℕ, suc, ◌*◌, ◌^◌, ◌≤◌, ◌<◌, T, eqb, ℤ, pos, negsuc, neg_ℤ, ◌≤ℤ◌, length, take, drop}
use Rattle.std.proofs.Math.Path.{refl, ap, ap₂}
use Rattle.std.proofs.Common.{sym, subst, ◌∙◌, le_trans, lt_of_le_of_lt, mul-le-mul, leb→le, lit<, lit≤, length-append}
use mathlib.Core.List.{List, [], ◌∷◌, ◌++◌, map}
use Rattle.std.specs.Prelude.{Option, None, Some}
use native.Mathlib.Omega.{arith}
use Rattle.std.proofs.Math.ListN.{get_or}
use Rattle.std.proofs.lemmas.List.{length-map}
use mir.Syntax.{Width, w16, w32}
use mir.Val.{SFits, hbits}
use Rattle.model.specs.Numbers.{Limits, Within, depth_limits, bottom_limits, velocity_limits, gravity_limits, coriolis_limits, ratio_limits, most_milliseconds}
use Rattle.model.specs.Grid.{tabulate}
use Rattle.model.specs.State.{State, Fields, state_of, state_from, parameters_of, cells, FieldWithin, WithinLimits}
use Rattle.model.specs.Refusals.{fields_of, length_tests, timed_content_tests, room_tests}
use Rattle.model.specs.Record.{tag_table, bytes4, bytes2, signed4, signed2, each_by, numbers, Part, has, value_of, parts_of, encode, record_length, missing_test, walked, whole, state_in, timestamp_in, bytes_tests, record_tests, record_test, accepted, judged, read_by, decode}
use Rattle.model.specs.Promises.{◌into◌, filled_by, write_tests, write_test, write_answer, WritePromise, read_answer, rooms_in, put, read_into, read_of}
use Rattle.model.specs.Claims.{EachPasses, EachRoom, Missing, BytesOf, WriteAcceptedClaim, RoundTripClaim}
use Rattle.model.specs.declared.Timestamp.{Timestamp}
use Rattle.model.specs.declared.Refusal.{Refusal}
use Rattle.std.specs.Prelude.{Ok}
use Rattle.model.specs.Answers.{WriteAnswer}
use Rattle.theorems.specs.Truth.{◌⟫◌, same, eq_iff, differ}
use Rattle.theorems.specs.TestLaws.{passes, passes_append}
use Rattle.theorems.specs.Limits.{rooms-iff, tested-iff, timed-iff, write-iff}
use Rattle.grid.specs.CellFields.{take-filled, length-tabulate, tabulate-get}
use Rattle.theorems.specs.NumbersAsBytes.{EachFits, there_back, get-put, numbers-put, length-each}
use Rattle.theorems.specs.Walks.{AllShort, all-fine, walks}
use Rattle.theorems.specs.TagLaws.{there, among-iff}
use Rattle.theorems.specs.Damage.{whole-iff}

-- ---- a number within its limits fits its bytes

-- from -k to k, and from a number that is not negative
around : (w : Width) (k : ℕ) (x : ℤ) → suc k < 2 ^ hbits w → neg_ℤ (pos (suc k)) ≤ℤ x → x ≤ℤ pos (suc k) → SFits w x
around w k (pos n) h p q = record { sfits = lt_of_le_of_lt (leb→le n (suc k) q.le) h }
around w k (negsuc n) h p q = record { sfits = lt_of_le_of_lt (le_trans (leb→le n k p.le) (le-suc k)) h }
  where
    le-suc : (k : ℕ) → k ≤ suc k
    le-suc k = omega arith

upward : (w : Width) (a k : ℕ) (x : ℤ) → k < 2 ^ hbits w → pos a ≤ℤ x → x ≤ℤ pos k → SFits w x
upward w a k (pos n) h p q = record { sfits = lt_of_le_of_lt (leb→le n k q.le) h }
upward w a k (negsuc n) h p q = absurd p.le

pub each_fits : {lim : Limits} {m : ℕ} {f : List ℤ} (w : Width) → ((x : ℤ) → Within lim x → SFits w x) → FieldWithin lim m f → EachFits w f
each_fits {f = f} w h p = record { each = λ k l. h (get_or f k (pos 0)) (p.each k (subst (λ m. k < m) p.long l)) }

pub depth-fits : (x : ℤ) → Within depth_limits x → SFits w32 x
unfolding depth_limits
depth-fits x h = upward w32 1000 100000 x (lit< tt) h.low h.high

pub bottom-fits : (x : ℤ) → Within bottom_limits x → SFits w32 x
unfolding bottom_limits
bottom-fits x h = upward w32 0 100000 x (lit< tt) h.low h.high

pub velocity-fits : (x : ℤ) → Within velocity_limits x → SFits w16 x
unfolding velocity_limits
velocity-fits x h = around w16 4999 x (lit< tt) h.low h.high

pub gravity-fits : (x : ℤ) → Within gravity_limits x → SFits w32 x
unfolding gravity_limits
gravity-fits x h = upward w32 1 10000 x (lit< tt) h.low h.high

pub coriolis-fits : (x : ℤ) → Within coriolis_limits x → SFits w32 x
unfolding coriolis_limits
coriolis-fits x h = around w32 9999 x (lit< tt) h.low h.high

pub ratio-fits : (x : ℤ) → Within ratio_limits x → SFits w32 x
unfolding ratio_limits
ratio-fits x h = upward w32 1000 1000000 x (lit< tt) h.low h.high

-- a field of numbers of 4 bytes, and of 2: its length in bytes, and what is read of it
long4 : {lim : Limits} {m : ℕ} (f : List ℤ) → FieldWithin lim m f → length (each_by bytes4 f) ≡ 4 * m
long4 f p = length-each 4 w32 refl f ∙ ap (λ m. 4 * m) p.long

long2 : {lim : Limits} {m : ℕ} (f : List ℤ) → FieldWithin lim m f → length (each_by bytes2 f) ≡ 2 * m
long2 f p = length-each 2 w16 refl f ∙ ap (λ m. 2 * m) p.long

back4 : {lim : Limits} {m : ℕ} (f : List ℤ) → ((x : ℤ) → Within lim x → SFits w32 x) → FieldWithin lim m f → numbers signed4 4 m (each_by bytes4 f) ≡ f
back4 f h p = ap (λ m. numbers signed4 4 m (each_by bytes4 f)) (sym p.long) ∙ numbers-put 4 w32 refl f (each_fits w32 h p)

back2 : {lim : Limits} {m : ℕ} (f : List ℤ) → ((x : ℤ) → Within lim x → SFits w16 x) → FieldWithin lim m f → numbers signed2 2 m (each_by bytes2 f) ≡ f
back2 f h p = ap (λ m. numbers signed2 2 m (each_by bytes2 f)) (sym p.long) ∙ numbers-put 2 w16 refl f (each_fits w16 h p)

-- ---- the tests of a record

-- what is asked of a field where it is there; a field that must be there is
where-there : (h e : Bool) {A B : Type 0} → T h ↔ A → T e ↔ B → T (not h || e) ↔ (A → B)
where-there true e i j = (λ t a. j.0 t, λ f. j.1 (f (i.0 tt)))
where-there false e i j = (λ t a. absurd (i.1 a), λ f. tt)

one_each : (a m : ℕ) → (a ≡ 1 * m) ↔ (a ≡ m)
one_each a m = (λ e. omega arith, λ e. omega arith)

surely : {A B : Type 0} → A → (A → B) ↔ B
surely a = (λ f. f a, λ b x. b)

pub bytes-iff : (m : ℕ) (parts : List Part) → (Missing parts → ⊥) → EachPasses (bytes_tests m parts tag_table) ↔ BytesOf m parts
bytes-iff m parts full =
    let n : (t : ℕ) → ℕ = λ t. length (value_of t parts) in
    let asked : (t k : ℕ) → T (not (has t parts) || eqb (n t) (k * m)) ↔ (T (has t parts) → n t ≡ k * m) = λ t k. where-there (has t parts) (eqb (n t) (k * m)) same (eq_iff (n t) (k * m)) in
    let i = asked 4 4 ⟫ surely (there parts full 4 (lit≤ tt) (lit≤ tt)) in
    let j = asked 5 4 ⟫ surely (there parts full 5 (lit≤ tt) (lit≤ tt)) in
    let k = asked 6 2 ⟫ surely (there parts full 6 (lit≤ tt) (lit≤ tt)) in
    let l = asked 7 2 ⟫ surely (there parts full 7 (lit≤ tt) (lit≤ tt)) in
    let o = where-there (has 9 parts) (eqb (n 9) (1 * m)) (among-iff 9 parts) (eq_iff (n 9) (1 * m) ⟫ one_each (n 9) m) in (
      λ p. (i.0 p.0, j.0 p.1.0, k.0 p.1.1.0, l.0 p.1.1.1.0, o.0 p.1.1.1.1.0),
      λ b. (i.1 b.0, (j.1 b.1, (k.1 b.2, (l.1 b.3, (o.1 b.4, tt))))),
    )

-- what they ask; the state has as many numbers in each field as cells (a state that is read does)
abbrev pub Fit : State → Timestamp → List Part → (rooms : List ℕ) → Type 0
Fit s t parts rooms = BytesOf (cells s) parts × EachRoom (cells s) rooms × (t.milliseconds ≤ most_milliseconds) × WithinLimits s

pub record-iff : (s : State) (t : Timestamp) (parts : List Part) (rooms : List ℕ) → (Missing parts → ⊥) → EachPasses (length_tests (fields_of s))
    → (record_test s t parts rooms ≡ None) ↔ Fit s t parts rooms
unfolding record_test
record-iff s t parts rooms full lengths =
    let m = cells s in
    let content = timed_content_tests s t (fields_of s) in
    let c = timed-iff s t (fields_of s) in
    let i = passes_append (bytes_tests m parts tag_table) (room_tests m rooms ++ content) in
    let j = passes_append (room_tests m rooms) content in
    passes (record_tests s t parts rooms)
    ⟫ (
      λ p.
          let x = i.0 p.1 in
          let y = j.0 x.1 in
          let z = c.0 y.1 in
          ((bytes-iff m parts full).0 x.0, (rooms-iff m rooms).0 y.0, z.1, ((tested-iff s []).0 (record { grid = p.0; lengths = lengths; content = z.0 })).0),
      λ f. let x = (tested-iff s []).1 (f.3, tt) in (x.grid, i.1 ((bytes-iff m parts full).1 f.0, j.1 ((rooms-iff m rooms).1 f.1, c.1 (x.content, f.2)))),
    )

-- those of a record that is read
long-numbers : (f : List ℕ → ℤ) (z m : ℕ) (v : List ℕ) → T (eqb (length (numbers f z m v)) m)
long-numbers f z m v = (eq_iff (length (numbers f z m v)) m).1 (length-tabulate m (λ k. f (take z (drop (k * z) v))))

long-read : (parts : List Part) → EachPasses (length_tests (fields_of (state_in parts)))
unfolding state_in
long-read parts =
    let m = get_or (value_of 1 parts) 0 0 * get_or (value_of 1 parts) 1 0 in
    (long-numbers signed4 4 m (value_of 4 parts), (long-numbers signed4 4 m (value_of 5 parts), (long-numbers signed2 2 m (value_of 6 parts), (long-numbers signed2 2 m (value_of 7 parts), (barred m, tt)))))
  where
    barred : (m : ℕ) → T (eqb (length (map pos (tabulate m (λ k. get_or (value_of 9 parts) k 0)))) m)
    barred m = (eq_iff _ m).1 (length-map (tabulate m (λ k. get_or (value_of 9 parts) k 0)) pos ∙ length-tabulate m (λ k. get_or (value_of 9 parts) k 0))

pub fields-iff : (parts : List Part) (rooms : List ℕ) → (Missing parts → ⊥)
    → (record_test (state_in parts) (timestamp_in parts) parts rooms ≡ None) ↔ Fit (state_in parts) (timestamp_in parts) parts rooms
fields-iff parts rooms full = record-iff (state_in parts) (timestamp_in parts) parts rooms full (long-read parts)

-- ---- the record of a state within the limits

module _ (s : State) (l : WithinLimits s) where
  most : cells s ≤ 4096
  most = mul-le-mul l.columns.most l.rows.most

  -- the values of tags 4 to 7 are short enough for a length of two bytes
  short4 : {lim : Limits} (f : List ℤ) → FieldWithin lim (cells s) f → length (each_by bytes4 f) < 65536
  short4 f p = omega (arith, most, long4 f p)

  short2 : {lim : Limits} (f : List ℤ) → FieldWithin lim (cells s) f → length (each_by bytes2 f) < 65536
  short2 f p = omega (arith, most, long2 f p)

  -- there is a byte of barriers for each cell
  pub bars-long : length s.barriers ≡ cells s
  bars-long = sym (length-map s.barriers pos) ∙ l.bars.long

  pub length-encode : (t : Timestamp) → length (encode s t) ≡ record_length s
  unfolding encode parts_of
  length-encode t = simp (length-append, long4 s.h l.depths, long4 s.b l.bottoms, long2 s.u l.us, long2 s.v l.vs, bars-long) (omega arith)

  walked-encode : (t : Timestamp) → walked (encode s t) ≡ whole (parts_of s t)
  unfolding walked missing_test parts_of encode
  walked-encode t =
      let short : AllShort (parts_of s t) = (lit< tt, (lit< tt, (lit< tt, (short4 s.h l.depths, (short4 s.b l.bottoms, (short2 s.u l.us, (short2 s.v l.vs, (lit< tt, (omega (arith, most, bars-long), tt))))))))) in
      walks (parts_of s t) (encode s t) [] 0 (length (encode s t)) [] refl refl (all-fine [] (parts_of s t) tt short) (subst (λ m. 9 ≤ m) (sym (length-encode t)) (omega arith))

  state-back : (t : Timestamp) → state_in (parts_of s t) ≡ s
  unfolding state_in parts_of
  state-back t = λ i. record {
    w = s.w;
    n = s.n;
    kind = s.kind;
    G = get-put 4 w32 refl s.G (gravity-fits s.G l.gravity) i;
    c = get-put 4 w32 refl s.c (coriolis-fits s.c l.coriolis) i;
    R = get-put 4 w32 refl s.R (ratio-fits s.R l.ratio) i;
    h = back4 s.h depth-fits l.depths i;
    b = back4 s.b bottom-fits l.bottoms i;
    u = back2 s.u velocity-fits l.us i;
    v = back2 s.v velocity-fits l.vs i;
    barriers = tabulate-get (cells s) s.barriers 0 bars-long i;
  }

  timestamp-back : (t : Timestamp) → t.seconds < 2 ^ 64 → t.milliseconds ≤ most_milliseconds → timestamp_in (parts_of s t) ≡ t
  unfolding timestamp_in parts_of
  timestamp-back t h k = λ i. record { seconds = there_back 8 t.seconds h i; milliseconds = there_back 2 t.milliseconds (two k) i }
    where
      two : t.milliseconds ≤ 999 → t.milliseconds < 65536
      two k = omega arith

  right : (t : Timestamp) → BytesOf (cells s) (parts_of s t)
  unfolding parts_of
  right t = (long4 s.h l.depths, long4 s.b l.bottoms, long2 s.u l.us, long2 s.v l.vs, λ a. bars-long)

  -- what the writer writes is read back
  pub decode-encode : (t : Timestamp) → t.seconds < 2 ^ 64 → t.milliseconds ≤ most_milliseconds → (rooms : List ℕ) → EachRoom (cells s) rooms
      → decode (encode s t) rooms ≡ accepted s t
  unfolding decode
  decode-encode t h k rooms r =
      ap (read_by rooms) (walked-encode t)
      ∙ ap₂ (λ x y. judged (record_test x y (parts_of s t) rooms) x y) (state-back t) (timestamp-back t h k)
      ∙ ap (λ x. judged x s t) ((record-iff s t (parts_of s t) rooms ((whole-iff (encode s t) (parts_of s t)).0 (walked-encode t)).1 ((tested-iff s []).1 (l, tt)).lengths).1 (right t, r, k, l))

  -- ---- over the promises of the calls

  pub written : (t : Timestamp) → t.milliseconds ≤ most_milliseconds → (d d' : List ℕ) (a : WriteAnswer) → record_length s ≤ length d → WritePromise s t d a d'
      → (a ≡ write_answer (record_length s) None) × (take (record_length s) d' ≡ encode s t)
  unfolding write_test
  written t k d d' a h p =
      let m = record_length s in
      let e : write_test s t (length d) ≡ None = (passes (write_tests s t (length d))).1 ((write-iff s t (length d)).1 (l, k, h)) in
      let f = p.fills ∙ ap (λ o. filled_by o m (encode s t into d ∷ [])) e in
      (p.answers ∙ ap (write_answer m) e, ap (take m) (ap (λ x. get_or x 0 []) f) ∙ take-filled m (encode s t) d (length-encode t))

  -- a state put into the first places of lent fields stands there
  pub put-there : (d : Fields) → state_from (parameters_of s) (put s d) ≡ s
  put-there d = λ i.
      state_of (parameters_of s)
      (take-filled (cells s) s.h d.h l.depths.long i)
      (take-filled (cells s) s.b d.b l.bottoms.long i)
      (take-filled (cells s) s.u d.u l.us.long i)
      (take-filled (cells s) s.v d.v l.vs.long i)
      (take-filled (cells s) s.barriers d.barriers bars-long i)

-- the writer accepts this, and no more
written_none : (m : ℕ) (o : Option Refusal) → write_answer m o ≡ (Ok m) → o ≡ None
written_none m None e = refl
written_none m (Some r) e = differ (cc e)

pub write-accepted : WriteAcceptedClaim
unfolding write_test
write-accepted s t d d' a p =
    let i = passes (write_tests s t (length d)) ⟫ write-iff s t (length d) in
    (λ e. i.0 (written_none (record_length s) _ (sym p.answers ∙ e)), λ x. p.answers ∙ ap (write_answer (record_length s)) (i.1 x))

pub round_trip : RoundTripClaim
unfolding read_of
round_trip s t d d' written' x x' answer l q ms room wp rooms rp =
    let w = written s l t ms d d' written' room wp in
    let dec : read_of (take (record_length s) d') x ≡ accepted s t = ap (λ r. decode r (rooms_in x)) w.1 ∙ decode-encode s l t q ms (rooms_in x) rooms in
    (w.0, rp.answers ∙ ap read_answer dec, ap (state_from (parameters_of s)) (rp.fills ∙ ap (λ o. read_into o x) dec) ∙ put-there s l x)
