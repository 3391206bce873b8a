-- The four scales keep the laws. The proofs stand here, since the scales' implementations name them. Assumes nothing.
use Rattle.std.specs.Prelude.{◌≡◌, ℕ, ◌<◌, true, false, ℤ, pos, negsuc, neg_ℤ, ◌≤ℤ◌, refl}
use Rattle.std.proofs.Common.{sym, ap, ◌∙◌, arith}
use Rattle.std.proofs.Math.Path.{fun_ext}
use mathlib.Core.HLevel.{is_prop→PathP}
use denote.Struct.Props.{props}
use Rattle.std.specs.Int.{int_max, int_min}
use Rattle.std.proofs.lemmas.Int.{ints, clamps}
use Rattle.scale.specs.declared.light.Light.{Light}
use Rattle.scale.specs.declared.light.Light.TheVariants.{No, Unknown, Yes}
use Rattle.scale.specs.declared.margin.Margin.{Margin}
use Rattle.scale.specs.Algebra.{Algebra, Laws}
use Rattle.scale.specs.TwoWay.{two_way}
use Rattle.scale.specs.Lights.{lights}
use Rattle.scale.specs.Lanes.{side_by_side, Lane, lanes}
use Rattle.scale.specs.Margins.{margins}

pub two_way_laws : Laws two_way
two_way_laws = record {
  join_comm = elim [ true ↦ elim [ true ↦ refl | false ↦ refl ] | false ↦ elim [ true ↦ refl | false ↦ refl ] ];
  join_assoc = elim [ true ↦ λ v w. refl | false ↦ λ v w. refl ];
  meet_comm = elim [ true ↦ elim [ true ↦ refl | false ↦ refl ] | false ↦ elim [ true ↦ refl | false ↦ refl ] ];
  meet_assoc = elim [ true ↦ λ v w. refl | false ↦ λ v w. refl ];
  join_over_meet = elim [ true ↦ λ v w. refl | false ↦ λ v w. refl ];
  meet_over_join = elim [ true ↦ λ v w. refl | false ↦ λ v w. refl ];
  join_absorbs = elim [ true ↦ λ v. refl | false ↦ λ v. refl ];
  meet_absorbs = elim [ true ↦ λ v. refl | false ↦ λ v. refl ];
  twice = elim [ true ↦ refl | false ↦ refl ];
  opposite_join = elim [ true ↦ λ v. refl | false ↦ λ v. refl ];
  no_join = λ u. refl;
  yes_meet = λ u. refl;
  apart = λ e. let z : ◌≡◌ {A = ℕ} 0 1 = cc in omega arith;
}

-- a scale whose values are levels from -top to top, with join the greater, meet the lesser and opposite the negated one
pub record Levels {V : Type 0} (A : Algebra V) (level : V → ℤ) (top : ℕ) : Type 0 where
  pub told : (u v : V) → level u ≡ level v → u ≡ v
  pub above : (u : V) → neg_ℤ (pos top) ≤ℤ level u
  pub below : (u : V) → level u ≤ℤ pos top
  pub some_room : 0 < top
  pub of_join : (u v : V) → level (A.join u v) ≡ int_max (level u) (level v)
  pub of_meet : (u v : V) → level (A.meet u v) ≡ int_min (level u) (level v)
  pub of_opposite : (u : V) → level (A.opposite u) ≡ neg_ℤ (level u)
  pub of_yes : level A.yes ≡ pos top
  pub of_no : level A.no ≡ neg_ℤ (pos top)

max_comm : (x y : ℤ) → int_max x y ≡ int_max y x
max_comm x y = omega (arith, ints, clamps)

max_assoc : (x y z : ℤ) → int_max (int_max x y) z ≡ int_max x (int_max y z)
max_assoc x y z = omega (arith, ints, clamps)

min_comm : (x y : ℤ) → int_min x y ≡ int_min y x
min_comm x y = omega (arith, ints, clamps)

min_assoc : (x y z : ℤ) → int_min (int_min x y) z ≡ int_min x (int_min y z)
min_assoc x y z = omega (arith, ints, clamps)

max_over_min : (x y z : ℤ) → int_max x (int_min y z) ≡ int_min (int_max x y) (int_max x z)
max_over_min x y z = omega (arith, ints, clamps)

min_over_max : (x y z : ℤ) → int_min x (int_max y z) ≡ int_max (int_min x y) (int_min x z)
min_over_max x y z = omega (arith, ints, clamps)

max_absorbs : (x y : ℤ) → int_max x (int_min x y) ≡ x
max_absorbs x y = omega (arith, ints, clamps)

min_absorbs : (x y : ℤ) → int_min x (int_max x y) ≡ x
min_absorbs x y = omega (arith, ints, clamps)

neg_max : (x y : ℤ) → neg_ℤ (int_max x y) ≡ int_min (neg_ℤ x) (neg_ℤ y)
neg_max x y = omega (arith, ints, clamps)

pub level_laws : {V : Type 0} {A : Algebra V} {level : V → ℤ} {top : ℕ} → Levels A level top → Laws A
level_laws {A = A} {level} {top} L =
    let j = L.of_join in
    let m = L.of_meet in
    let o = L.of_opposite in
    record {
      join_comm = λ u v. L.told _ _ (simp (j, max_comm));
      join_assoc = λ u v w. L.told _ _ (simp j (max_assoc (level u) (level v) (level w)));
      meet_comm = λ u v. L.told _ _ (simp m (min_comm (level u) (level v)));
      meet_assoc = λ u v w. L.told _ _ (simp m (min_assoc (level u) (level v) (level w)));
      join_over_meet = λ u v w. L.told _ _ (simp (j, m) (max_over_min (level u) (level v) (level w)));
      meet_over_join = λ u v w. L.told _ _ (simp (j, m) (min_over_max (level u) (level v) (level w)));
      join_absorbs = λ u v. L.told _ _ (simp (j, m) (max_absorbs (level u) (level v)));
      meet_absorbs = λ u v. L.told _ _ (simp (j, m) (min_absorbs (level u) (level v)));
      twice = λ u. L.told _ _ (simp o (omega (arith, ints)));
      opposite_join = λ u v. L.told _ _ (simp (j, m, o) (neg_max (level u) (level v)));
      no_join = λ u. L.told _ _ (let a = L.above u in simp (j, L.of_no) (omega (arith, ints, clamps)));
      yes_meet = λ u. L.told _ _ (let a = L.below u in simp (m, L.of_yes) (omega (arith, ints, clamps)));
      apart = λ e. let r = L.some_room in let x : pos top ≡ neg_ℤ (pos top) = sym L.of_yes ∙ ap level e ∙ L.of_no in omega (arith, ints);
    }

abbrev level_of : Light → ℤ
level_of No = neg_ℤ (pos 1)
level_of Unknown = pos 0
level_of Yes = pos 1

light_told : (u v : Light) → level_of u ≡ level_of v → u ≡ v
light_told No No e = refl
light_told No Unknown e = absurd (omega (arith, ints))
light_told No Yes e = absurd (omega (arith, ints))
light_told Unknown No e = absurd (omega (arith, ints))
light_told Unknown Unknown e = refl
light_told Unknown Yes e = absurd (omega (arith, ints))
light_told Yes No e = absurd (omega (arith, ints))
light_told Yes Unknown e = absurd (omega (arith, ints))
light_told Yes Yes e = refl

pub lights_laws : Laws lights
lights_laws = level_laws {level = level_of} {top = 1} (record {
  told = light_told;
  above = elim [ No ↦ omega (arith, ints) | Unknown ↦ omega (arith, ints) | Yes ↦ omega (arith, ints) ];
  below = elim [ No ↦ omega (arith, ints) | Unknown ↦ omega (arith, ints) | Yes ↦ omega (arith, ints) ];
  some_room = omega arith;
  of_join = elim [
    | No ↦ elim [ No ↦ refl | Unknown ↦ refl | Yes ↦ refl ]
    | Unknown ↦ elim [ No ↦ refl | Unknown ↦ refl | Yes ↦ refl ]
    | Yes ↦ elim [ No ↦ refl | Unknown ↦ refl | Yes ↦ refl ]
  ];
  of_meet = elim [
    | No ↦ elim [ No ↦ refl | Unknown ↦ refl | Yes ↦ refl ]
    | Unknown ↦ elim [ No ↦ refl | Unknown ↦ refl | Yes ↦ refl ]
    | Yes ↦ elim [ No ↦ refl | Unknown ↦ refl | Yes ↦ refl ]
  ];
  of_opposite = elim [ No ↦ refl | Unknown ↦ refl | Yes ↦ refl ];
  of_yes = refl;
  of_no = refl;
})

-- two margins of one level are one margin
pub same_margin : (u v : Margin) → u.level ≡ v.level → u ≡ v
same_margin u v e = λ i. record {
  level = e i;
  low = is_prop→PathP (λ j. negsuc 29999 ≤ℤ e j) (λ j. hlevel props) u.low v.low i;
  high = is_prop→PathP (λ j. e j ≤ℤ pos 30000) (λ j. hlevel props) u.high v.high i;
}

pub margins_laws : Laws margins
margins_laws = level_laws {level = λ u. u.level} {top = 30000} (record {
  told = same_margin;
  above = λ u. u.low;
  below = λ u. u.high;
  some_room = omega arith;
  of_join = λ u v. refl;
  of_meet = λ u v. refl;
  of_opposite = λ u. refl;
  of_yes = refl;
  of_no = refl;
})

-- laws that hold of each place hold of all side by side
pub side_by_side_laws : {V : Type 0} {A : Algebra V} → Laws A → (I : Type 0) → I → Laws (side_by_side A I)
side_by_side_laws L I here = record {
  join_comm = λ u v. fun_ext (λ i. L.join_comm (u i) (v i));
  join_assoc = λ u v w. fun_ext (λ i. L.join_assoc (u i) (v i) (w i));
  meet_comm = λ u v. fun_ext (λ i. L.meet_comm (u i) (v i));
  meet_assoc = λ u v w. fun_ext (λ i. L.meet_assoc (u i) (v i) (w i));
  join_over_meet = λ u v w. fun_ext (λ i. L.join_over_meet (u i) (v i) (w i));
  meet_over_join = λ u v w. fun_ext (λ i. L.meet_over_join (u i) (v i) (w i));
  join_absorbs = λ u v. fun_ext (λ i. L.join_absorbs (u i) (v i));
  meet_absorbs = λ u v. fun_ext (λ i. L.meet_absorbs (u i) (v i));
  twice = λ u. fun_ext (λ i. L.twice (u i));
  opposite_join = λ u v. fun_ext (λ i. L.opposite_join (u i) (v i));
  no_join = λ u. fun_ext (λ i. L.no_join (u i));
  yes_meet = λ u. fun_ext (λ i. L.yes_meet (u i));
  apart = λ e. L.apart (ap (λ f. f here) e);
}

pub lanes_laws : Laws lanes
lanes_laws = side_by_side_laws two_way_laws Lane (record { number = 0; within = omega arith })
