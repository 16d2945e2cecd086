-- What a read puts behind what was read before. Assumes nothing.
use Rattle.std.proofs.Common.{◌≡◌, ℕ, ◌+◌, ◌-◌, ◌≤◌, List, ◌++◌, Option, length, take, sym, ap, ap₂, ◌∙◌, subst, take_at, drop_at, take-add, length-take-le}
use Rattle.std.specs.Io.KnownBytes.{Consumes}
use Rattle.std.proofs.KnownBytes.{Consumes-trans}
use borrow.Rule.Slice.PartMut.{put_mid, post_of}
use lib.Seq.{take-append-le}

-- xs was filled up to k, and then with the first n of ys: that is m places
pub read_more : (a b c : Option (List ℕ)) (k n m : ℕ) (xs ys : List ℕ) → m ≡ k + n → k ≤ length xs → n ≤ length ys
    → Consumes a b (take k xs) → Consumes b c (take n ys) → Consumes a c (take m (put_mid k (length xs - k) xs ys))
read_more a b c k n m xs ys e within fits p q =
    let all = put_mid k (length xs - k) xs ys in
    let rest = post_of k (length xs - k) xs in
    let long = length-take-le k xs within in
    let joined = ap (λ j. take j all) e
    ∙ take-add k n all
    ∙ ap₂ ◌++◌ (take_at (take k xs) (ys ++ rest) k long) (ap (take n) (drop_at (take k xs) (ys ++ rest) k long) ∙ take-append-le n ys rest fits) in
    subst (Consumes a c) (sym joined) (Consumes-trans a b c (take k xs) (take n ys) p q)
