-- A translation carries a formula's value over. Assumes nothing.
use Rattle.std.proofs.Common.{◌≡◌, ℕ, zero, suc, Bool, true, false, List, [], ◌∷◌, sym, refl, ap, ◌∙◌, ap₂}
use mathlib.Core.Path.{fun_ext}
use Rattle.scale.specs.Algebra.{Algebra, Translation}
use Rattle.meaning.specs.Meaning.{Formula, constant, signal, unary, binary, up_to, after, join_of, meet_of, unary_value, binary_value, constant_value, value}
use Rattle.rule.specs.declared.operator.UnaryOperator.{UnaryOperator}
use Rattle.rule.specs.declared.operator.UnaryOperator.TheVariants.{Not, Yesterday, WeakYesterday, Once, Historically}
use Rattle.rule.specs.declared.operator.BinaryOperator.{BinaryOperator}
use Rattle.rule.specs.declared.operator.BinaryOperator.TheVariants.{And, Or, Implies, Iff, Xor, Since, WeakSince}

module _ {V W : Type 0} {A : Algebra V} {B : Algebra W} {h : V → W} (T : Translation A B h) where
  joins_kept : (ks : List ℕ) (f : ℕ → V) (g : ℕ → W) → ((k : ℕ) → g k ≡ h (f k)) → join_of B ks g ≡ h (join_of A ks f)
  joins_kept [] f g e = sym T.keeps_no
  joins_kept (k ∷ ks) f g e = ap₂ B.join (e k) (joins_kept ks f g e) ∙ sym (T.keeps_join (f k) (join_of A ks f))

  meets_kept : (ks : List ℕ) (f : ℕ → V) → meet_of B ks (λ k. h (f k)) ≡ h (meet_of A ks f)
  meets_kept [] f = sym T.keeps_yes
  meets_kept (k ∷ ks) f = ap (B.meet (h (f k))) (meets_kept ks f) ∙ sym (T.keeps_meet (f k) (meet_of A ks f))

  unary_kept : (m : UnaryOperator) (a : ℕ → V) (t : ℕ) → unary_value B m (λ k. h (a k)) t ≡ h (unary_value A m a t)
  unary_kept Not a t = sym (T.keeps_opposite (a t))
  unary_kept Yesterday a zero = sym T.keeps_no
  unary_kept Yesterday a (suc t) = refl
  unary_kept WeakYesterday a zero = sym T.keeps_yes
  unary_kept WeakYesterday a (suc t) = refl
  unary_kept Once a t = joins_kept (up_to t) a (λ k. h (a k)) (λ k. refl)
  unary_kept Historically a t = meets_kept (up_to t) a

  since_kept : (a b : ℕ → V) (t : ℕ) → binary_value B Since (λ k. h (a k)) (λ k. h (b k)) t ≡ h (binary_value A Since a b t)
  since_kept a b t =
      joins_kept (up_to t) (λ k. A.meet (b k) (meet_of A (after k t) a)) (λ k. B.meet (h (b k)) (meet_of B (after k t) (λ j. h (a j))))
      (λ k. ap (B.meet (h (b k))) (meets_kept (after k t) a) ∙ sym (T.keeps_meet (b k) (meet_of A (after k t) a)))

  binary_kept : (m : BinaryOperator) (a b : ℕ → V) (t : ℕ) → binary_value B m (λ k. h (a k)) (λ k. h (b k)) t ≡ h (binary_value A m a b t)
  binary_kept And a b t = sym (T.keeps_meet (a t) (b t))
  binary_kept Or a b t = sym (T.keeps_join (a t) (b t))
  binary_kept Implies a b t = simp (T.keeps_join, T.keeps_opposite)
  binary_kept Iff a b t = simp (T.keeps_meet, T.keeps_join, T.keeps_opposite)
  binary_kept Xor a b t = simp (T.keeps_meet, T.keeps_join, T.keeps_opposite)
  binary_kept Since a b t = since_kept a b t
  binary_kept WeakSince a b t =
      ap₂ B.join (since_kept a b t) (meets_kept (up_to t) a) ∙ sym (T.keeps_join (binary_value A Since a b t) (unary_value A Historically a t))

  constant_kept : (b : Bool) → constant_value B b ≡ h (constant_value A b)
  constant_kept true = sym T.keeps_yes
  constant_kept false = sym T.keeps_no

  module _ (charge : ℕ → ℕ → V) where
    kept : (f : Formula) → value B f (λ t n. h (charge t n)) ≡ (λ t. h (value A f charge t))
    kept (constant b) = fun_ext (λ t. constant_kept b)
    kept (signal n) = refl
    kept (unary m f) = fun_ext (λ t. ap (λ a. unary_value B m a t) (kept f) ∙ unary_kept m (value A f charge) t)
    kept (binary m f g) =
        fun_ext (λ t. ap₂ (λ a b. binary_value B m a b t) (kept f) (kept g) ∙ binary_kept m (value A f charge) (value A g charge) t)

  pub value_kept : (f : Formula) (charge : ℕ → ℕ → V) (t : ℕ) → value B f (λ k n. h (charge k n)) t ≡ h (value A f charge t)
  value_kept f charge t = ap (λ a. a t) (kept charge f)
