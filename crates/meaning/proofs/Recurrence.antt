-- The value of a remembering formula from the sample before. Assumes nothing.
use Rattle.std.proofs.Common.{◌≡◌, ℕ, zero, suc, ◌<◌, ◌≤◌, [], ◌∷◌, sym, refl, ap, ◌∙◌, ap₂, arith}
use Rattle.std.proofs.lemmas.Bool.{lt-ltb, le-ltb}
use Rattle.scale.specs.Algebra.{Algebra, Laws}
use Rattle.meaning.specs.Meaning.{up_to, after, join_of, meet_of, unary_value, binary_value, value}
use Rattle.meaning.specs.Laws.{Recurrences}
use Rattle.rule.specs.declared.operator.UnaryOperator.TheVariants.{Once, Historically}
use Rattle.rule.specs.declared.operator.BinaryOperator.TheVariants.{Since, WeakSince}
use Rattle.scale.proofs.Order.{join_no, meet_yes}

after_none : (k t : ℕ) → t ≤ k → after k t ≡ []
after_none k zero h = rw le-ltb
after_none k (suc t) h = rw (le-ltb k (suc t) h) (after_none k t (omega arith))

after_more : (k t : ℕ) → k ≤ t → after k (suc t) ≡ suc t ∷ after k t
after_more k t h = let within : k < suc t = omega arith in rw (lt-ltb k (suc t) within)

module _ {V : Type 0} {A : Algebra V} (L : Laws A) where
  -- the terms of `a S b` that begin at the samples up to s, one sample later
  later : (a b : ℕ → V) (t s : ℕ) → s ≤ t
      → join_of A (up_to s) (λ k. A.meet (b k) (meet_of A (after k (suc t)) a))
      ≡ A.meet (a (suc t)) (join_of A (up_to s) (λ k. A.meet (b k) (meet_of A (after k t) a)))
  later a b t s h = go s h
    where
      now : ℕ → V
      now k = A.meet (b k) (meet_of A (after k t) a)

      next : ℕ → V
      next k = A.meet (b k) (meet_of A (after k (suc t)) a)

      swap : (x y z : V) → A.meet x (A.meet y z) ≡ A.meet y (A.meet x z)
      swap x y z = sym (L.meet_assoc x y z) ∙ ap (λ w. A.meet w z) (L.meet_comm x y) ∙ L.meet_assoc y x z

      each : (k : ℕ) → k ≤ t → next k ≡ A.meet (a (suc t)) (now k)
      each k le = ap (λ js. A.meet (b k) (meet_of A js a)) (after_more k t le) ∙ swap (b k) (a (suc t)) (meet_of A (after k t) a)

      go : (s : ℕ) → s ≤ t → join_of A (up_to s) next ≡ A.meet (a (suc t)) (join_of A (up_to s) now)
      go zero le = join_no L (next 0) ∙ each 0 le ∙ ap (A.meet (a (suc t))) (sym (join_no L (now 0)))
      go (suc s) le =
          ap₂ A.join (each (suc s) le) (go s (omega arith)) ∙ sym (L.meet_over_join (a (suc t)) (now (suc s)) (join_of A (up_to s) now))

  pub once_first : (a : ℕ → V) → unary_value A Once a 0 ≡ a 0
  once_first a = join_no L (a 0)

  pub once_next : (a : ℕ → V) (t : ℕ) → unary_value A Once a (suc t) ≡ A.join (a (suc t)) (unary_value A Once a t)
  once_next a t = refl

  pub always_first : (a : ℕ → V) → unary_value A Historically a 0 ≡ a 0
  always_first a = meet_yes L (a 0)

  pub always_next : (a : ℕ → V) (t : ℕ) → unary_value A Historically a (suc t) ≡ A.meet (a (suc t)) (unary_value A Historically a t)
  always_next a t = refl

  pub since_first : (a b : ℕ → V) → binary_value A Since a b 0 ≡ b 0
  since_first a b = join_no L (A.meet (b 0) A.yes) ∙ meet_yes L (b 0)

  pub since_next : (a b : ℕ → V) (t : ℕ) → binary_value A Since a b (suc t) ≡ A.join (b (suc t)) (A.meet (a (suc t)) (binary_value A Since a b t))
  since_next a b t =
      ap₂ A.join (ap (λ js. A.meet (b (suc t)) (meet_of A js a)) (after_none (suc t) (suc t) (omega arith)) ∙ meet_yes L (b (suc t))) (later a b t t (omega arith))

  pub weak_first : (a b : ℕ → V) → binary_value A WeakSince a b 0 ≡ A.join (b 0) (a 0)
  weak_first a b = ap₂ A.join (since_first a b) (always_first a)

  pub weak_next : (a b : ℕ → V) (t : ℕ) → binary_value A WeakSince a b (suc t) ≡ A.join (b (suc t)) (A.meet (a (suc t)) (binary_value A WeakSince a b t))
  weak_next a b t =
      let s = binary_value A Since a b t in
      let h = unary_value A Historically a t in
      let x = a (suc t) in
      ap (λ v. A.join v (A.meet x h)) (since_next a b t) ∙ L.join_assoc (b (suc t)) (A.meet x s) (A.meet x h)
      ∙ ap (A.join (b (suc t))) (sym (L.meet_over_join x s h))

pub recurrences : {V : Type 0} {A : Algebra V} → Laws A → Recurrences A
recurrences {A = A} L = record {
  once_first = λ f charge. once_first L (value A f charge);
  once_next = λ f charge t. once_next L (value A f charge) t;
  always_first = λ f charge. always_first L (value A f charge);
  always_next = λ f charge t. always_next L (value A f charge) t;
  since_first = λ f g charge. since_first L (value A f charge) (value A g charge);
  since_next = λ f g charge t. since_next L (value A f charge) (value A g charge) t;
  weak_first = λ f g charge. weak_first L (value A f charge) (value A g charge);
  weak_next = λ f g charge t. weak_next L (value A f charge) (value A g charge) t;
}
