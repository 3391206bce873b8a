-- What a scale of truth is: values with five operations, their laws, and the translations that keep them. Assumes nothing.
use Rattle.std.specs.Prelude.{◌≡◌}

pub record Algebra (V : Type 0) : Type 0 where
  pub join : V → V → V
  pub meet : V → V → V
  pub opposite : V → V
  pub yes : V
  pub no : V

-- a distributive lattice between no and yes, with an opposite: a De Morgan algebra
pub record Laws {V : Type 0} (A : Algebra V) : Type 0 where
  pub join_comm : (u v : V) → A.join u v ≡ A.join v u
  pub meet_comm : (u v : V) → A.meet u v ≡ A.meet v u
  pub join_assoc : (u v w : V) → A.join (A.join u v) w ≡ A.join u (A.join v w)
  pub meet_assoc : (u v w : V) → A.meet (A.meet u v) w ≡ A.meet u (A.meet v w)
  pub join_over_meet : (u v w : V) → A.join u (A.meet v w) ≡ A.meet (A.join u v) (A.join u w)
  pub meet_over_join : (u v w : V) → A.meet u (A.join v w) ≡ A.join (A.meet u v) (A.meet u w)
  pub join_absorbs : (u v : V) → A.join u (A.meet u v) ≡ u
  pub meet_absorbs : (u v : V) → A.meet u (A.join u v) ≡ u
  pub twice : (u : V) → A.opposite (A.opposite u) ≡ u
  pub opposite_join : (u v : V) → A.opposite (A.join u v) ≡ A.meet (A.opposite u) (A.opposite v)
  pub no_join : (u : V) → A.join A.no u ≡ u
  pub yes_meet : (u : V) → A.meet A.yes u ≡ u
  pub apart : A.yes ≡ A.no → ⊥

-- h gives each value of one scale a value of a second, and keeps the five operations
pub record Translation {V W : Type 0} (A : Algebra V) (B : Algebra W) (h : V → W) : Type 0 where
  pub keeps_join : (u v : V) → h (A.join u v) ≡ B.join (h u) (h v)
  pub keeps_meet : (u v : V) → h (A.meet u v) ≡ B.meet (h u) (h v)
  pub keeps_opposite : (u : V) → h (A.opposite u) ≡ B.opposite (h u)
  pub keeps_yes : h A.yes ≡ B.yes
  pub keeps_no : h A.no ≡ B.no
