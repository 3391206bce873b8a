-- The longest front of name bytes is a name. Assumes nothing.
use Rattle.std.proofs.Common.{◌≡◌, ℕ, ◌<◌, ◌≤◌, true, false, IsTrue, List, [], ◌∷◌, ◌++◌, length, get_or, sym, ap, ◌∙◌, arith}
use Rattle.std.specs.List.{All}
use Rattle.std.proofs.lemmas.Bool.Decides.{nat_tests}
use Rattle.std.proofs.lemmas.List.Elements.{All-tail}
use Rattle.text.proofs.Fronts.{front1, front2, front3}
use Rattle.text.specs.Tokens.{lower, name_byte, Stops, Begins, named}

lower_of : (b : ℕ) → 97 ≤ b → b ≤ 122 → IsTrue (lower b)
lower_of b low high = grind (arith, nat_tests)

lower_fits : (b : ℕ) → 97 ≤ b → b ≤ 122 → IsTrue (name_byte b)
lower_fits b low high = grind (arith, nat_tests)

stops_at : (s : List ℕ) → (0 < length s → false ≡ name_byte (get_or s 0 0)) → Stops s
stops_at [] h = tt
stops_at (b ∷ s) h = sym (h (omega arith))

pub name_begins : (s x left : List ℕ) → 0 < length s → 97 ≤ get_or s 0 0 → get_or s 0 0 ≤ 122 → s ≡ x ++ left → All (λ b. true ≡ name_byte b) x → (0 < length left → false ≡ name_byte (get_or left 0 0)) → Begins s (named x) left
name_begins s [] left some low high split each stops =
    let first = ap (λ l. get_or l 0 0) split in
    let fits = lower_fits (get_or s 0 0) low high in
    let long = ap length split in
    let fails = stops (omega arith) in
    absurd (let e : true ≡ false = sym fits ∙ ap name_byte first ∙ sym fails in cc)
name_begins s (b ∷ x) left some low high split each stops =
    let first = ap (λ l. get_or l 0 0) split in
    record {
      split = split;
      whole = ((lower_of b (omega arith) (omega arith), λ k d lt. sym (All-tail (λ c. true ≡ name_byte c) b x each k d lt)), stops_at left stops);
    }

-- what the reader of one token needs: a front of known bytes, or of bytes of a name
pub ruleset token_fronts = (front1, front2, front3, name_begins)
