-- What reading leaves in the lent strips. Assumes nothing.
use Rattle.std.proofs.Common.{◌≡◌, ℕ, ◌≤◌, List, ◌++◌, length, take, drop, Ok, Err, Result, sym, refl, ap, ◌∙◌, subst, arith, length-append, length-drop, length-take-le}
use lib.Seq.{take-append-le, drop-append-le, drop-append_seam}
use Rattle.std.proofs.lemmas.List.{take-append-drop}
use Rattle.rule.specs.declared.row.Row.{Row}
use Rattle.rule.specs.declared.refusal.Fault.{Fault}
use Rattle.text.specs.declared.span.Span.{Span}
use Rattle.text.specs.declared.span.Counts.{Counts}
use Rattle.text.specs.Texts.{faulty, readable, Filled}
use Rattle.text.specs.Readers.{TextTold, Within, AttemptTold}
use Rattle.text.proofs.OneOutcome.{due_same}

-- a strip whose first n places are the list `front`
module _ {X : Type 0} (n : ℕ) (s front : List X) (long : n ≤ length s) (same : length front ≡ n) where
  pub front_length : length (front ++ drop n s) ≡ length s
  front_length = let a = length-append front (drop n s) in let b = length-drop n s in omega arith

  pub front_within : Within n s (front ++ drop n s)
  front_within = record { same_length = front_length; others_kept = subst (λ k. drop k (front ++ drop n s) ≡ drop n s) same (drop-append_seam front (drop n s)) }

  pub front_filled : (k : ℕ) → Filled k n (take n s) front → Filled k n s (front ++ drop n s)
  front_filled k f =
      let le = f.at_most in
      let t = length-take-le n s long in
      record {
        at_most = le;
        same_length = front_length;
        others_kept = drop-append-le k front (drop n s) (omega arith) ∙ ap (λ l. l ++ drop n s) f.others_kept ∙ sym (drop-append-le k (take n s) (drop n s) (omega arith)) ∙ ap (drop k) (take-append-drop n s);
      }

pub attempted : (text : List ℕ) (rows part_rows : List Row) (spans part_spans : List Span) (r : Result Counts Fault) → 64 ≤ length rows → 16 ≤ length spans → length text ≤ 1024 → length part_rows ≡ 64 → length part_spans ≡ 16
    → TextTold text (take 64 rows) part_rows (take 16 spans) part_spans r → AttemptTold text rows (part_rows ++ drop 64 rows) spans (part_spans ++ drop 16 spans) r
attempted text rows part_rows spans part_spans (Ok c) enough_rows enough_names short rows_64 spans_16 t =
    let a = t.rows_filled.at_most in
    let b = t.names_filled.at_most in
    let rows_are = take-append-le c.rows part_rows (drop 64 rows) (omega arith) in
    let spans_are = take-append-le c.names part_spans (drop 16 spans) (omega arith) in
    let is_due = readable (record { for_rows = enough_rows; for_names = enough_names }) short t.readable (cc) in
    record {
      due = is_due;
      only = λ o d. due_same d is_due;
      left = (front_filled 64 rows part_rows enough_rows rows_64 c.rows t.rows_filled, front_filled 16 spans part_spans enough_names spans_16 c.names t.names_filled);
    }
attempted text rows part_rows spans part_spans (Err e) enough_rows enough_names short rows_64 spans_16 t = record {
  due = faulty (record { for_rows = enough_rows; for_names = enough_names }) short t.due refl;
  only = λ o d. due_same d (faulty (record { for_rows = enough_rows; for_names = enough_names }) short t.due refl);
  left = (front_within 64 rows part_rows enough_rows rows_64, front_within 16 spans part_spans enough_names spans_16, t.no_sample);
}
