-- Nothing, written with a width: so many spaces. Assumes nothing.
use Rattle.std.proofs.Common.{◌≡◌, ℕ, zero, suc, ◌-◌, ◌^◌, [], ◌∷◌, replicate, refl, ap, arith}
use Rattle.std.specs.Fmt.{styled_text, format_spec, padded, take_chars, char_count}
use Rattle.std.specs.List.{repeat}
use Rattle.std.proofs.lemmas.Grind.{common_steps}

repeat_one : (n x : ℕ) → repeat n (x ∷ []) ≡ replicate n x
repeat_one zero x = refl
repeat_one (suc n) x = ap (λ l. x ∷ l) (repeat_one n x)

pub styled_blanks : (n : ℕ) → styled_text (format_spec 32 0 0 n (2 ^ 64 - 1)) [] ≡ replicate n 32
unfolding padded take_chars char_count
styled_blanks n = grind (arith, common_steps, repeat_one)
