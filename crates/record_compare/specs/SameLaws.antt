-- Two accepted records have the same state exactly where each tag that is required, but for 3, has the same bytes in both, and tag 9 means
-- the same barriers. Assumes nothing.
use Rattle.std.specs.Prelude.{◌≡◌, refl, Bool, true, false, ◌&&◌, List, [], ◌∷◌, ℕ, zero, suc, ◌+◌, ◌*◌, ◌≤◌, ◌<◌, T, eqb, length, take, drop}
use Rattle.std.proofs.Common.{sym, ap₂, subst, ◌∙◌, add-zero, arith, lit<, lit≤, eqb→eq}
use Rattle.std.proofs.Math.Path.{ap}
use Rattle.std.proofs.Math.Dec.{eqb_refl}
use Rattle.std.proofs.Math.ListN.{get_or}
use Rattle.std.specs.Cmp.Lexicographic.{pointwise}
use Rattle.std.specs.List.{list_all, range_with_len}
use Rattle.model.specs.Numbers.{same_by}
use Rattle.model.specs.Grid.{tabulate}
use Rattle.model.specs.State.{State, cells}
use Rattle.model.specs.Record.{Part, value_of, parts_of, signed2, signed4, numbers, state_in, timestamp_in, same_state}
use Rattle.model.specs.declared.Timestamp.{Timestamp}
use Rattle.theorems.specs.Truth.{T_true, true-T, not_T, same_by_lem, by-same}
use Rattle.theorems.specs.Walks.{whole-record}
use Rattle.theorems.specs.TagLaws.{last_required, required-known, there}
use Rattle.theorems.specs.Damage.{whole-iff}
use Rattle.grid.specs.Cells.{cells-most}
use Rattle.theorems.specs.RoundTrip.{fields-iff}
use Rattle.theorems.specs.Written.{all-bytes, as_written}
use Rattle.theorems.specs.Comparing.{same-state, same_self}
use Rattle.record_bytes.specs.declared.Tag.{Tag}
use Rattle.record_bytes.specs.declared.Tag.TheVariants.{Grid}
use Rattle.record_bytes.specs.Tags.{number_of}
use Rattle.record_tags.specs.Places.{parts_in}
use Rattle.record_tests.specs.RecordTested.{state_read, Accepted}
use Rattle.record_tests.proofs.ValueLaws.{barriers-are}
use Rattle.record_compare.specs.declared.TheConstants.{COMPARED}
use Rattle.record_compare.specs.Read.{rooms, BothRead}

-- ---- two lists, by a test of their numbers

-- as `==` compares them
pub same_is : (a b : List ℕ) → pointwise eqb a b ≡ same_by eqb a b
same_is [] [] = refl
same_is [] (y ∷ b) = refl
same_is (x ∷ a) [] = refl
same_is (x ∷ a) (y ∷ b) = ap (λ t. eqb x y && t) (same_is a b)

pub lists-same : {a b : List ℕ} → a ≡ b → true ≡ same_by eqb a b
lists-same {a} {b} e = sym (ap (same_by eqb a) (sym e) ∙ T_true (same_by eqb a a) (by-same eqb eqb_refl a))

-- as a test of every place does
pub places_same : (m k : ℕ) (test : ℕ → Bool) (f g : ℕ → ℕ) → ((i : ℕ) → test (k + i) ≡ eqb (f i) (g i)) → list_all test (range_with_len k m) ≡ same_by eqb (tabulate m f) (tabulate m g)
places_same zero k test f g h = refl
places_same (suc m) k test f g h =
    ap₂ ◌&&◌ (ap test (sym (add-zero k)) ∙ h 0)
    (places_same m (k + 1) test (λ i. f (suc i)) (λ i. g (suc i)) (λ i. ap test (next k i) ∙ h (suc i)))
  where
    next : (k i : ℕ) → k + 1 + i ≡ k + suc i
    next k i = omega arith

-- ---- the state tells the values: they are what the writer makes of it

-- the tags that are compared byte by byte, in their order
abbrev pub tag_at : ℕ → Tag
tag_at k = get_or COMPARED k Grid

abbrev pub compared_tags : ℕ
compared_tags = length COMPARED

abbrev pub value_at : ℕ → List Part → List ℕ
value_at k parts = value_of (number_of (tag_at k)) parts

-- of a state alone, whatever the timestamp, since 3 and 8 are left out
by_state : (s : State) (x y : Timestamp) (k : ℕ) → k < compared_tags → value_at k (parts_of s x) ≡ value_at k (parts_of s y)
unfolding parts_of
by_state s x y zero h = refl
by_state s x y (suc zero) h = refl
by_state s x y (suc (suc zero)) h = refl
by_state s x y (suc (suc (suc zero))) h = refl
by_state s x y (suc (suc (suc (suc zero)))) h = refl
by_state s x y (suc (suc (suc (suc (suc zero))))) h = refl
by_state s x y (suc (suc (suc (suc (suc (suc k)))))) h = absurd (omega arith)

-- each of them is required
required : (k : ℕ) → k < compared_tags → number_of (tag_at k) ≤ last_required
required zero h = lit≤ tt
required (suc zero) h = lit≤ tt
required (suc (suc zero)) h = lit≤ tt
required (suc (suc (suc zero))) h = lit≤ tt
required (suc (suc (suc (suc zero)))) h = lit≤ tt
required (suc (suc (suc (suc (suc zero))))) h = lit≤ tt
required (suc (suc (suc (suc (suc (suc k)))))) h = absurd (omega arith)

module _ {rec : List ℕ} (bytes : (k : ℕ) → get_or rec k 0 < 256) (a : Accepted rec rooms) where
  told : (k : ℕ) → k < compared_tags → value_at k (parts_in rec) ≡ value_at k (parts_of (state_read rec) (timestamp_in (parts_in rec)))
  unfolding state_read
  told k h =
      let parts = parts_in rec in
      let t = number_of (tag_at k) in
      let l : 1 ≤ t = omega arith in
      let w = (whole-iff rec parts).0 a.walks in
      let each = (whole-record rec (all-bytes rec bytes) parts a.walks).each in
      as_written parts w.1 each ((fields-iff parts rooms w.1).0 a.passes).0 t (there parts w.1 t l (required k h)) (required-known t l (required k h))

-- so a tag whose value differs tells two states apart
pub other-read : {first second : List ℕ} → ((k : ℕ) → get_or first k 0 < 256) → ((k : ℕ) → get_or second k 0 < 256) → BothRead first second
    → (k : ℕ) → k < compared_tags → same_by eqb (value_at k (parts_in first)) (value_at k (parts_in second)) ≡ false
    → false ≡ same_state (state_read first) (state_read second)
other-read {first} {second} f s r k h e =
    sym (not_T (same_state (state_read first) (state_read second)) (λ x.
    let same = same-state (state_read first) (state_read second) x in
    let x = timestamp_in (parts_in first) in
    let y = timestamp_in (parts_in second) in
    let value =
    told f r.first_read k h ∙ ap (λ s. value_at k (parts_of s x)) same ∙ by_state (state_read second) x y k h
    ∙ sym (told s r.second-read k h) in
    subst T (lists-same value ∙ e) tt))

-- ---- the values tell the state

-- the first m of the tags compared have the same values in both records
abbrev pub SameTo : (first second : List ℕ) (m : ℕ) → Type 0
SameTo first second m = (k : ℕ) → k < m → value_at k (parts_in first) ≡ value_at k (parts_in second)

module _ (first second : List ℕ) (s : SameTo first second compared_tags) where
  -- all of them have
  cells_same : cells (state_read first) ≡ cells (state_read second)
  unfolding state_read state_in
  cells_same = ap (λ l. get_or l 0 0 * get_or l 1 0) (s 0 (lit< tt))

  state-same : (state_read first).barriers ≡ (state_read second).barriers → state_read first ≡ state_read second
  unfolding state_read state_in
  state-same e9 =
      let e1 = s 0 (lit< tt) in
      let e2 = s 1 (lit< tt) in
      let e4 = s 2 (lit< tt) in
      let e5 = s 3 (lit< tt) in
      let e6 = s 4 (lit< tt) in
      let e7 = s 5 (lit< tt) in
      λ i. record {
        w = get_or (e1 i) 0 0;
        n = get_or (e1 i) 1 0;
        kind = get_or (e1 i) 2 0;
        G = signed4 (take 4 (e2 i));
        c = signed4 (take 4 (drop 4 (e2 i)));
        R = signed4 (take 4 (drop 8 (e2 i)));
        h = numbers signed4 4 (get_or (e1 i) 0 0 * get_or (e1 i) 1 0) (e4 i);
        b = numbers signed4 4 (get_or (e1 i) 0 0 * get_or (e1 i) 1 0) (e5 i);
        u = numbers signed2 2 (get_or (e1 i) 0 0 * get_or (e1 i) 1 0) (e6 i);
        v = numbers signed2 2 (get_or (e1 i) 0 0 * get_or (e1 i) 1 0) (e7 i);
        barriers = e9 i;
      }

  -- then the barriers decide
  by-barriers : (x : Bool) → same_by eqb (state_read first).barriers (state_read second).barriers ≡ x
      → x ≡ same_state (state_read first) (state_read second)
  by-barriers true e =
      let same = state-same (same_by_lem eqb eqb→eq (state_read first).barriers (state_read second).barriers (true-T e)) in
      sym (ap (same_state (state_read first)) (sym same) ∙ T_true _ (same_self (state_read first)))
  by-barriers false e =
      sym (not_T (same_state (state_read first) (state_read second)) (λ x.
      subst T (lists-same (ap (λ s. s.barriers) (same-state (state_read first) (state_read second) x)) ∙ e) tt))

  -- as they are compared, over the m cells of the first record
  pub same_read : {m : ℕ} {a b : List ℕ} → m ≡ cells (state_read first) → a ≡ value_of 9 (parts_in first) → b ≡ value_of 9 (parts_in second)
      → same_by eqb (tabulate m (λ k. get_or a k 0)) (tabulate m (λ k. get_or b k 0)) ≡ same_state (state_read first) (state_read second)
  same_read {m} {a} {b} e p q =
      ap₂ (same_by eqb)
      (ap₂ (λ n l. tabulate n (λ k. get_or l k 0)) e p ∙ sym (barriers-are first))
      (ap₂ (λ n l. tabulate n (λ k. get_or l k 0)) (e ∙ cells_same) q ∙ sym (barriers-are second))
      ∙ by-barriers _ refl

-- ---- the cells of an accepted record are few

pub cells_few : {rec : List ℕ} → Accepted rec rooms → cells (state_read rec) ≤ 4096
unfolding state_read
cells_few {rec} a =
    let l = ((fields-iff (parts_in rec) rooms ((whole-iff rec (parts_in rec)).0 a.walks).1).0 a.passes).3 in
    cells-most l.columns l.rows
