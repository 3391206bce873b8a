-- The first and the last part of a list that is cut at some of its elements, as `split` and `rsplit` give it first.
-- Assumes nothing.
use Rattle.std.proofs.Common.{◌≡◌, ℕ, ◌-◌, ◌<◌, Bool, true, false, not, List, [], ◌∷◌, ◌++◌, length, slice_index, take, drop, Option, Some, None, sym, ap, ◌∙◌, append-nil, append_assoc, arith, MatchOption, Bor, unwrap_or, length-append}
use Rattle.std.specs.Bool.{MatchBool}
use Rattle.std.specs.List.{before_first, after_last, position_or_len, suffix_len, IsFirstMatchOrLen, IsAfterLastMatch}
use Rattle.std.proofs.lemmas.List.Sums.{position_or_len_is, prefix_len-drop_no, suffix_len_is}
use Rattle.std.proofs.lemmas.Grind.{common_steps}
use Rattle.report.specs.Excerpts.{is_break}

first_part : (p : ℕ → Bool) (xs part rest : List ℕ) → xs ≡ part ++ rest → IsFirstMatchOrLen p xs (length part) → part ≡ before_first p xs
first_part p xs part rest cut first =
    let at : position_or_len p xs ≡ length part = position_or_len_is p xs (length part) 0 (omega (arith, simp length-append at (ap length cut))) (λ k below. first.0 k 0 (omega arith) below) (λ lt. first.1 lt 0) in
    rw at (grind (arith, common_steps))

last_part : (p : ℕ → Bool) (xs front part : List ℕ) → xs ≡ front ++ part → IsAfterLastMatch p xs (length xs - length part) → part ≡ after_last p xs
last_part p xs front part cut last =
    let start = length xs - length part in
    let at = suffix_len_is (λ x. not (p x)) xs start 0 (omega arith) (λ k above below. ap not (last.0 k 0 above below)) (λ some. ap not (last.1 some 0)) in
    let same : length xs - suffix_len (λ x. not (p x)) xs ≡ length front = omega (arith, at, simp length-append at (ap length cut)) in
    rw same (grind (arith, common_steps))

-- The types come from the step that `next` ensures: `None` says E, and a test of which C holds cuts the list.
pub first_of_split : (E D : Type 0) (C K : (ℕ → Bool) → Type 0) (p : ℕ → Bool) (xs rest : List ℕ) (done : Bool) (r : Option (Bor (List ℕ))) (whole : Bor (List ℕ))
    → MatchOption r E (λ x. D × MatchBool done (xs ≡ x.now) ((y : ℕ) × (xs ≡ x.now ++ (y ∷ rest))) × ((q : ℕ → Bool) → C q → K q × IsFirstMatchOrLen q xs (length x.now)))
    → (E → ⊥) → C p → (unwrap_or r whole).now ≡ before_first p xs
first_of_split E D C K p xs rest done None whole step some computes = absurd (some step)
first_of_split E D C K p xs rest true (Some x) whole step some computes = first_part p xs x.now [] (step.1 ∙ sym (append-nil x.now)) (step.2 p computes).1
first_of_split E D C K p xs rest false (Some x) whole step some computes = first_part p xs x.now (step.1.0 ∷ rest) step.1.1 (step.2 p computes).1

pub first_of_rsplit : (E D : Type 0) (C K : (ℕ → Bool) → Type 0) (p : ℕ → Bool) (xs rest : List ℕ) (done : Bool) (r : Option (Bor (List ℕ))) (whole : Bor (List ℕ))
    → MatchOption r E (λ x. D × MatchBool done (xs ≡ x.now) ((y : ℕ) × (xs ≡ rest ++ (y ∷ x.now))) × ((q : ℕ → Bool) → C q → K q × IsAfterLastMatch q xs (length xs - length x.now)))
    → (E → ⊥) → C p → (unwrap_or r whole).now ≡ after_last p xs
first_of_rsplit E D C K p xs rest done None whole step some computes = absurd (some step)
first_of_rsplit E D C K p xs rest true (Some x) whole step some computes = last_part p xs [] x.now step.1 (step.2 p computes).1
first_of_rsplit E D C K p xs rest false (Some x) whole step some computes = last_part p xs (rest ++ (step.1.0 ∷ [])) x.now (step.1.1 ∙ sym (append_assoc rest (step.1.0 ∷ []) x.now)) (step.2 p computes).1

-- What stands before the first break of what is left at i, put after the first i bytes, is those i where a break is next.
pub until_at_break : (xs : List ℕ) (i n : ℕ) (whole : List ℕ) → i < length xs → n ≡ i → slice_index xs i ≡ 10 → take i xs ++ before_first is_break (drop i xs) ≡ whole → take n xs ≡ whole
until_at_break xs i n whole lt same break before =
    let none : position_or_len is_break (drop i xs) ≡ 0 = prefix_len-drop_no (λ b. not (is_break b)) xs i 0 lt (ap (λ b. not (is_break b)) break) in
    ap (λ k. take k xs) same ∙ sym (append-nil (take i xs)) ∙ ap (λ k. take i xs ++ take k (drop i xs)) (sym none) ∙ before
