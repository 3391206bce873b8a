-- Laws of the meaning of formulas, which monitors rest on. Assumes nothing.
use Rattle.std.specs.Prelude.{◌≡◌, ℕ, suc, ◌≤◌}
use Rattle.scale.specs.Algebra.{Algebra, Translation}
use Rattle.rule.specs.declared.operator.UnaryOperator.TheVariants.{Once, Historically}
use Rattle.rule.specs.declared.operator.BinaryOperator.TheVariants.{Since, WeakSince}
use Rattle.meaning.specs.Meaning.{Formula, unary, binary, value}

-- a remembering formula at the first sample, and one sample later from its value before
pub record Recurrences {V : Type 0} (A : Algebra V) : Type 0 where
  pub once_first : (f : Formula) (charge : ℕ → ℕ → V) → value A (unary Once f) charge 0 ≡ value A f charge 0
  pub once_next : (f : Formula) (charge : ℕ → ℕ → V) (t : ℕ) → value A (unary Once f) charge (suc t) ≡ A.join (value A f charge (suc t)) (value A (unary Once f) charge t)
  pub always_first : (f : Formula) (charge : ℕ → ℕ → V) → value A (unary Historically f) charge 0 ≡ value A f charge 0
  pub always_next : (f : Formula) (charge : ℕ → ℕ → V) (t : ℕ) → value A (unary Historically f) charge (suc t) ≡ A.meet (value A f charge (suc t)) (value A (unary Historically f) charge t)
  pub since_first : (f g : Formula) (charge : ℕ → ℕ → V) → value A (binary Since f g) charge 0 ≡ value A g charge 0
  pub since_next : (f g : Formula) (charge : ℕ → ℕ → V) (t : ℕ) → value A (binary Since f g) charge (suc t) ≡ A.join (value A g charge (suc t)) (A.meet (value A f charge (suc t)) (value A (binary Since f g) charge t))
  pub weak_first : (f g : Formula) (charge : ℕ → ℕ → V) → value A (binary WeakSince f g) charge 0 ≡ A.join (value A g charge 0) (value A f charge 0)
  pub weak_next : (f g : Formula) (charge : ℕ → ℕ → V) (t : ℕ) → value A (binary WeakSince f g) charge (suc t) ≡ A.join (value A g charge (suc t)) (A.meet (value A f charge (suc t)) (value A (binary WeakSince f g) charge t))

-- the value at a sample rests on the samples up to it
abbrev pub OnlyThePast : {V : Type 0} → Algebra V → Type 0
OnlyThePast {V} A = (f : Formula) (t : ℕ) (charge other : ℕ → ℕ → V) → ((k n : ℕ) → k ≤ t → charge k n ≡ other k n) → value A f charge t ≡ value A f other t

-- a translation carries the value over a charge to the value over the translated charge
abbrev pub Carried : {V W : Type 0} → Algebra V → Algebra W → Type 0
Carried {V} {W} A B = (h : V → W) → Translation A B h → (f : Formula) (charge : ℕ → ℕ → V) (t : ℕ) → value B f (λ k n. h (charge k n)) t ≡ h (value A f charge t)
