-- A formula's value at a sample rests on the samples up to it. Assumes nothing.
use Rattle.std.proofs.Common.{◌≡◌, ℕ, zero, suc, ◌<◌, ◌≤◌, Bool, true, false, cond, ltb, List, [], ◌∷◌, ◌++◌, length, get_or, filter, refl, ap, ap₂, arith}
use Rattle.std.proofs.lemmas.List.{get_or_append_left}
use Rattle.scale.specs.Algebra.{Algebra}
use Rattle.meaning.specs.Meaning.{Formula, constant, signal, unary, binary, up_to, after, join_of, meet_of, unary_value, binary_value, value, reading}
use Rattle.rule.specs.declared.operator.UnaryOperator.{UnaryOperator}
use Rattle.rule.specs.declared.operator.UnaryOperator.TheVariants.{Not, Yesterday, WeakYesterday, Once, Historically}
use Rattle.rule.specs.declared.operator.BinaryOperator.{BinaryOperator}
use Rattle.rule.specs.declared.operator.BinaryOperator.TheVariants.{And, Or, Implies, Iff, Xor, Since, WeakSince}

module _ {V : Type 0} (A : Algebra V) where
  abbrev UpTo : ℕ → (ℕ → V) → (ℕ → V) → Type 0
  UpTo t f g = (k : ℕ) → k ≤ t → f k ≡ g k

  joins : (t : ℕ) (f g : ℕ → V) → UpTo t f g → join_of A (up_to t) f ≡ join_of A (up_to t) g
  joins zero f g e = ap (λ v. A.join v A.no) (e 0 (omega arith))
  joins (suc t) f g e = ap₂ A.join (e (suc t) (omega arith)) (joins t f g (λ k h. e k (omega arith)))

  meets : (t : ℕ) (f g : ℕ → V) → UpTo t f g → meet_of A (up_to t) f ≡ meet_of A (up_to t) g
  meets zero f g e = ap (λ v. A.meet v A.yes) (e 0 (omega arith))
  meets (suc t) f g e = ap₂ A.meet (e (suc t) (omega arith)) (meets t f g (λ k h. e k (omega arith)))

  meets_by : (p : ℕ → Bool) (t : ℕ) (f g : ℕ → V) → UpTo t f g → meet_of A (filter p (up_to t)) f ≡ meet_of A (filter p (up_to t)) g
  meets_by p t f g e = go t e
    where
      one_more : (b : Bool) (k : ℕ) (ks : List ℕ) → f k ≡ g k → meet_of A ks f ≡ meet_of A ks g
          → meet_of A (cond b (k ∷ ks) ks) f ≡ meet_of A (cond b (k ∷ ks) ks) g
      one_more true k ks here rest = ap₂ A.meet here rest
      one_more false k ks here rest = rest

      go : (t : ℕ) → UpTo t f g → meet_of A (filter p (up_to t)) f ≡ meet_of A (filter p (up_to t)) g
      go zero e = one_more (p 0) 0 [] (e 0 (omega arith)) refl
      go (suc t) e = one_more (p (suc t)) (suc t) (filter p (up_to t)) (e (suc t) (omega arith)) (go t (λ k h. e k (omega arith)))

  sinces : (t : ℕ) (a b c d : ℕ → V) → UpTo t a c → UpTo t b d → binary_value A Since a b t ≡ binary_value A Since c d t
  sinces t a b c d p q =
      joins t (λ k. A.meet (b k) (meet_of A (after k t) a)) (λ k. A.meet (d k) (meet_of A (after k t) c))
      (λ k h. ap₂ A.meet (q k h) (meets_by (λ j. ltb k j) t a c p))

  unaries : (m : UnaryOperator) (t : ℕ) (a c : ℕ → V) → UpTo t a c → unary_value A m a t ≡ unary_value A m c t
  unaries Not t a c p = ap A.opposite (p t (omega arith))
  unaries Yesterday zero a c p = refl
  unaries Yesterday (suc t) a c p = p t (omega arith)
  unaries WeakYesterday zero a c p = refl
  unaries WeakYesterday (suc t) a c p = p t (omega arith)
  unaries Once t a c p = joins t a c p
  unaries Historically t a c p = meets t a c p

  binaries : (m : BinaryOperator) (t : ℕ) (a b c d : ℕ → V) → UpTo t a c → UpTo t b d → binary_value A m a b t ≡ binary_value A m c d t
  binaries And t a b c d p q = ap₂ (λ x y. A.meet x y) (p t (omega arith)) (q t (omega arith))
  binaries Or t a b c d p q = ap₂ (λ x y. A.join x y) (p t (omega arith)) (q t (omega arith))
  binaries Implies t a b c d p q = ap₂ (λ x y. A.join (A.opposite x) y) (p t (omega arith)) (q t (omega arith))
  binaries Iff t a b c d p q =
      ap₂ (λ x y. A.meet (A.join (A.opposite x) y) (A.join (A.opposite y) x)) (p t (omega arith)) (q t (omega arith))
  binaries Xor t a b c d p q =
      ap₂ (λ x y. A.join (A.meet x (A.opposite y)) (A.meet (A.opposite x) y)) (p t (omega arith)) (q t (omega arith))
  binaries Since t a b c d p q = sinces t a b c d p q
  binaries WeakSince t a b c d p q = ap₂ A.join (sinces t a b c d p q) (meets t a c p)

  pub value_causal : (f : Formula) (t : ℕ) (charge other : ℕ → ℕ → V) → ((k n : ℕ) → k ≤ t → charge k n ≡ other k n)
      → value A f charge t ≡ value A f other t
  value_causal (constant b) t charge other e = refl
  value_causal (signal n) t charge other e = e t n (omega arith)
  value_causal (unary m f) t charge other e =
      unaries m t (value A f charge) (value A f other) (λ k h. value_causal f k charge other (λ j n l. e j n (omega arith)))
  value_causal (binary m f g) t charge other e =
      binaries m t (value A f charge) (value A g charge) (value A f other) (value A g other)
      (λ k h. value_causal f k charge other (λ j n l. e j n (omega arith)))
      (λ k h. value_causal g k charge other (λ j n l. e j n (omega arith)))

  -- a charge that goes on changes no value that it had
  pub value_stays : (f : Formula) (charge more : List (List V)) (t : ℕ) → t < length charge
      → value A f (reading A (charge ++ more)) t ≡ value A f (reading A charge) t
  value_stays f charge more t h =
      value_causal f t (reading A (charge ++ more)) (reading A charge)
      (λ k n l. ap (λ s. get_or s n A.no) (get_or_append_left charge more [] k (omega arith)))
