-- The lanes of a number after `|`, `&` and `!`. Assumes nothing.
use Rattle.std.proofs.Common.{◌≡◌, ℕ, zero, suc, ◌-◌, ◌^◌, ◌<◌, min, max, not, ◌&&◌, ◌||◌, ◌==◌, refl, ap, ◌∙◌, arith}
use Rattle.std.proofs.Math.Path.{fun_ext}
use mir.Syntax.{w64}
use Rattle.std.specs.Int.RustNames.{bit_and, bit_or}
use Rattle.std.proofs.lemmas.Nat.Bits.{bit_at-lt, bit_at_and, bit_at_or, bit_at_not, bit_at_ones}
use Rattle.scale.specs.declared.lanes.Lanes.{Lanes as Stored}
use Rattle.scale.specs.Lanes.{lanes, bit, lane_of}

-- one bit, by itself
max_bit : (a b : ℕ) → a < 2 → b < 2 → (max a b == 1) ≡ (a == 1 || b == 1)
max_bit zero zero p q = refl
max_bit zero (suc zero) p q = refl
max_bit (suc zero) zero p q = refl
max_bit (suc zero) (suc zero) p q = refl
max_bit zero (suc (suc b)) p q = absurd (omega arith)
max_bit (suc zero) (suc (suc b)) p q = absurd (omega arith)
max_bit (suc (suc a)) b p q = absurd (omega arith)

min_bit : (a b : ℕ) → a < 2 → b < 2 → (min a b == 1) ≡ (a == 1 && b == 1)
min_bit zero zero p q = refl
min_bit zero (suc zero) p q = refl
min_bit (suc zero) zero p q = refl
min_bit (suc zero) (suc zero) p q = refl
min_bit zero (suc (suc b)) p q = absurd (omega arith)
min_bit (suc zero) (suc (suc b)) p q = absurd (omega arith)
min_bit (suc (suc a)) b p q = absurd (omega arith)

other_bit : (a : ℕ) → a < 2 → (1 - a == 1) ≡ not (a == 1)
other_bit zero p = refl
other_bit (suc zero) p = refl
other_bit (suc (suc a)) p = absurd (omega arith)

pub bit_of_or : (a b i : ℕ) → bit (bit_or a b) i ≡ (bit a i || bit b i)
bit_of_or a b i = ap (λ n. n == 1) (bit_at_or a b i) ∙ max_bit _ _ (bit_at-lt a i) (bit_at-lt b i)

pub bit_of_and : (a b i : ℕ) → bit (bit_and a b) i ≡ (bit a i && bit b i)
bit_of_and a b i = ap (λ n. n == 1) (bit_at_and a b i) ∙ min_bit _ _ (bit_at-lt a i) (bit_at-lt b i)

pub bit_opposite : (a i : ℕ) → a < 2 ^ 64 → i < 64 → bit (18446744073709551615 - a) i ≡ not (bit a i)
bit_opposite a i fits h = ap (λ n. n == 1) (bit_at_not w64 a i fits h) ∙ other_bit _ (bit_at-lt a i)

-- a stored number
abbrev pub stored : ℕ → Stored
stored n = record { bits = n }

pub lanes_or : (a b : ℕ) → lane_of (stored (bit_or a b)) ≡ lanes.join (lane_of (stored a)) (lane_of (stored b))
lanes_or a b = fun_ext (λ i. bit_of_or a b i.number)

pub lanes_and : (a b : ℕ) → lane_of (stored (bit_and a b)) ≡ lanes.meet (lane_of (stored a)) (lane_of (stored b))
lanes_and a b = fun_ext (λ i. bit_of_and a b i.number)

pub lanes_not : (a : ℕ) → a < 2 ^ 64 → lane_of (stored (18446744073709551615 - a)) ≡ lanes.opposite (lane_of (stored a))
lanes_not a fits = fun_ext (λ i. bit_opposite a i.number fits i.within)

pub lanes_all : lane_of (stored 18446744073709551615) ≡ lanes.yes
lanes_all = fun_ext (λ i. ap (λ n. n == 1) (bit_at_ones 64 i.number i.within))
