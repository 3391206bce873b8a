-- What a formula means on a scale, over a charge. Assumes nothing.
use Rattle.std.specs.Prelude.{ℕ, zero, suc, Bool, true, false, List, [], ◌∷◌, filter, nat_lt, slice_index_or}
use Rattle.scale.specs.Algebra.{Algebra}
use Rattle.rule.specs.declared.operator.UnaryOperator.{UnaryOperator}
use Rattle.rule.specs.declared.operator.UnaryOperator.TheVariants.{Not, Yesterday, WeakYesterday, Once, Historically}
use Rattle.rule.specs.declared.operator.BinaryOperator.{BinaryOperator}
use Rattle.rule.specs.declared.operator.BinaryOperator.TheVariants.{And, Or, Implies, Iff, Xor, Since, WeakSince}

pub data Formula : Type 0 where
  constant : Bool → Formula
  signal : ℕ → Formula
  unary : UnaryOperator → Formula → Formula
  binary : BinaryOperator → Formula → Formula → Formula

-- the numbers of the samples up to t, and of those after k up to t
abbrev pub up_to : ℕ → List ℕ
up_to zero = 0 ∷ []
up_to (suc t) = suc t ∷ up_to t

abbrev pub after : ℕ → ℕ → List ℕ
after k t = filter (λ j. nat_lt k j) (up_to t)

module _ {V : Type 0} (A : Algebra V) where
  -- the join, and the meet, of the values at some samples
  abbrev pub join_of : List ℕ → (ℕ → V) → V
  join_of [] a = A.no
  join_of (k ∷ ks) a = A.join (a k) (join_of ks a)

  abbrev pub meet_of : List ℕ → (ℕ → V) → V
  meet_of [] a = A.yes
  meet_of (k ∷ ks) a = A.meet (a k) (meet_of ks a)

  abbrev pub implies : V → V → V
  implies u v = A.join (A.opposite u) v

  -- what operators have at sample t, where a and b are the values of their operands at each sample
  abbrev pub always : (ℕ → V) → ℕ → V
  always a t = meet_of (up_to t) a

  abbrev pub since : (ℕ → V) → (ℕ → V) → ℕ → V
  since a b t = join_of (up_to t) (λ k. A.meet (b k) (meet_of (after k t) a))

  abbrev pub unary_value : UnaryOperator → (ℕ → V) → ℕ → V
  unary_value Not a t = A.opposite (a t)
  unary_value Yesterday a zero = A.no
  unary_value Yesterday a (suc t) = a t
  unary_value WeakYesterday a zero = A.yes
  unary_value WeakYesterday a (suc t) = a t
  unary_value Once a t = join_of (up_to t) a
  unary_value Historically a t = always a t

  abbrev pub binary_value : BinaryOperator → (ℕ → V) → (ℕ → V) → ℕ → V
  binary_value And a b t = A.meet (a t) (b t)
  binary_value Or a b t = A.join (a t) (b t)
  binary_value Implies a b t = implies (a t) (b t)
  binary_value Iff a b t = A.meet (implies (a t) (b t)) (implies (b t) (a t))
  binary_value Xor a b t = A.join (A.meet (a t) (A.opposite (b t))) (A.meet (A.opposite (a t)) (b t))
  binary_value Since a b t = since a b t
  binary_value WeakSince a b t = A.join (since a b t) (always a t)

  abbrev pub constant_value : Bool → V
  constant_value true = A.yes
  constant_value false = A.no

  -- the value of a formula at sample t, where signal n reads `charge t n`
  abbrev pub value : Formula → (ℕ → ℕ → V) → ℕ → V
  value (constant b) charge t = constant_value b
  value (signal n) charge t = charge t n
  value (unary o f) charge t = unary_value o (value f charge) t
  value (binary o f g) charge t = binary_value o (value f charge) (value g charge) t

  -- what signal n reads at sample t of a list of samples
  abbrev pub reading : List (List V) → ℕ → ℕ → V
  reading charge t n = slice_index_or (slice_index_or charge t []) n A.no
