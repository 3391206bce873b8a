-- What the laws of a scale give. Assumes nothing.
use Rattle.std.proofs.Common.{◌≡◌, sym, ap, ◌∙◌}
use Rattle.scale.specs.Algebra.{Algebra, Laws}

module _ {V : Type 0} {A : Algebra V} (L : Laws A) where
  pub join_no : (u : V) → A.join u A.no ≡ u
  join_no u = L.join_comm u A.no ∙ L.no_join u

  pub meet_yes : (u : V) → A.meet u A.yes ≡ u
  meet_yes u = L.meet_comm u A.yes ∙ L.yes_meet u

  pub join_same : (u : V) → A.join u u ≡ u
  join_same u = ap (A.join u) (sym (L.meet_absorbs u u)) ∙ L.join_absorbs u (A.join u u)

  pub meet_same : (u : V) → A.meet u u ≡ u
  meet_same u = ap (A.meet u) (sym (L.join_absorbs u u)) ∙ L.meet_absorbs u (A.meet u u)

  pub meet_no : (u : V) → A.meet u A.no ≡ A.no
  meet_no u = L.meet_comm u A.no ∙ ap (A.meet A.no) (sym (L.no_join u)) ∙ L.meet_absorbs A.no u

  pub join_yes : (u : V) → A.join u A.yes ≡ A.yes
  join_yes u = L.join_comm u A.yes ∙ ap (A.join A.yes) (sym (L.yes_meet u)) ∙ L.join_absorbs A.yes u

  pub opposite_meet : (u v : V) → A.opposite (A.meet u v) ≡ A.join (A.opposite u) (A.opposite v)
  opposite_meet u v =
      let inner = L.opposite_join (A.opposite u) (A.opposite v) in
      let both : A.opposite (A.join (A.opposite u) (A.opposite v)) ≡ A.meet u v = cc (inner, L.twice u, L.twice v) in
      ap A.opposite (sym both) ∙ L.twice (A.join (A.opposite u) (A.opposite v))

  pub opposite_no : A.opposite A.no ≡ A.yes
  opposite_no =
      let n = A.opposite A.no in
      let o = A.opposite A.yes in
      sym (meet_yes n) ∙ cc (L.opposite_join A.no o, L.no_join o, L.twice A.yes)

  pub opposite_yes : A.opposite A.yes ≡ A.no
  opposite_yes = ap A.opposite (sym opposite_no) ∙ L.twice A.no
