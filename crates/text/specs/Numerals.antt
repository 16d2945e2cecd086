-- The numerals of the library are the model's. Assumes nothing.
use Rattle.std.specs.Prelude.{◌≡◌, [], ◌∷◌, ℕ, suc, ◌^◌, ◌<◌, ◌≤◌, ℤ, pos, negsuc, length}
use Rattle.std.specs.Fmt as Kit
use Rattle.std.specs.Int.RustNames.{FitsSigned}
use Rattle.std.proofs.Common.{sym, ap, subst, ◌∙◌, append-nil, add-one, rules, w64}
use Rattle.std.proofs.lemmas.Fmt.{PrependsLastDigit, decimal_from_prepends, length-decimal-le_succ}
use Rattle.model.specs.Program.{digits_onto, decimal}

prepends : PrependsLastDigit digits_onto
prepends = search rules

pub unsigned-is : (x : ℕ) → x < 2 ^ 64 → Kit.decimal x ≡ decimal (pos x)
unsigned-is x h =
    let enough : length (Kit.decimal x) ≤ suc x = subst (λ k. length (Kit.decimal x) ≤ k) (add-one x) (length-decimal-le_succ x h) in
    sym (decimal_from_prepends digits_onto prepends (suc x) x [] h enough ∙ append-nil (Kit.decimal x))

pub signed-is : (x : ℤ) → FitsSigned w64 x → Kit.signed_decimal x ≡ decimal x
signed-is (pos x) h = unsigned-is x (search rules)
signed-is (negsuc x) h = ap (λ l. 45 ∷ l) (unsigned-is (suc x) (search rules))

pub ruleset numerals = (unsigned-is, signed-is)
