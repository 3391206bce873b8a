-- Margins: whole numbers from -30,000 (no) to 30,000 (yes). Assumes nothing.
use Rattle.std.proofs.Common.{arith}
use Rattle.std.specs.Prelude.{pos, negsuc, neg_ℤ}
use Rattle.std.specs.Int.{int_max, int_min}
use Rattle.std.proofs.lemmas.Int.{ints, clamps}
use Rattle.scale.specs.Algebra.{Algebra}
use Rattle.scale.specs.declared.margin.Margin.{Margin}

-- join is the greater, meet the lesser, opposite the negated number
abbrev pub margins : Algebra Margin
margins = record {
  join = λ u v. let a = u.low in let b = u.high in let c = v.low in let d = v.high in
      record { level = int_max u.level v.level; low = omega (arith, ints, clamps); high = omega (arith, ints, clamps) };
  meet = λ u v. let a = u.low in let b = u.high in let c = v.low in let d = v.high in
      record { level = int_min u.level v.level; low = omega (arith, ints, clamps); high = omega (arith, ints, clamps) };
  opposite = λ u. let a = u.low in let b = u.high in
      record { level = neg_ℤ u.level; low = omega (arith, ints); high = omega (arith, ints) };
  yes = record { level = pos 30000; low = omega (arith, ints); high = omega (arith, ints) };
  no = record { level = negsuc 29999; low = omega (arith, ints); high = omega (arith, ints) };
}
