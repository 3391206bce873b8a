-- The translations. Assumes nothing.
use Rattle.std.proofs.Common.{true, false, sym, refl, ◌∙◌}
use Rattle.scale.specs.Algebra.{Algebra, Laws, Translation}
use Rattle.scale.specs.TwoWay.{two_way}
use Rattle.scale.specs.Lanes.{Lane, lanes}
use Rattle.scale.specs.Translations.{firm, lane}
use Rattle.scale.proofs.Order.{join_yes, meet_no, opposite_no, opposite_yes}

-- no and yes keep their sense on every scale
pub firm_keeps : {V : Type 0} {A : Algebra V} → Laws A → Translation two_way A (firm A)
firm_keeps {A = A} L = record {
  keeps_join = elim [ true ↦ λ v. sym (L.join_comm A.yes (firm A v) ∙ join_yes L (firm A v)) | false ↦ λ v. sym (L.no_join (firm A v)) ];
  keeps_meet = elim [ true ↦ λ v. sym (L.yes_meet (firm A v)) | false ↦ λ v. sym (L.meet_comm A.no (firm A v) ∙ meet_no L (firm A v)) ];
  keeps_opposite = elim [ true ↦ sym (opposite_yes L) | false ↦ sym (opposite_no L) ];
  keeps_yes = refl;
  keeps_no = refl;
}

pub lane_keeps : (i : Lane) → Translation lanes two_way (lane i)
lane_keeps i = record { keeps_join = λ u v. refl; keeps_meet = λ u v. refl; keeps_opposite = λ u. refl; keeps_yes = refl; keeps_no = refl }
