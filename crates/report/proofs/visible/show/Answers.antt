use Rattle.std.proofs.Common.{◌≡◌, ℕ, List, [], ◌∷◌, map, take, length, arith, rules}
use Rattle.std.specs.Str.{IsAscii, IsUtf8}
use Rattle.std.proofs.lemmas.Bool.Decides.{nat_tests}
use Rattle.std.proofs.lemmas.Grind.{common_steps}
use Rattle.std.proofs.lemmas.Str.{IsUtf8-from_ascii}
use Rattle.std.proofs.lemmas.Str.Ascii.{IsAscii-nil, IsAscii-cons}
use Rattle.report.specs.Excerpts.{visible}
use Rattle.report.proofs.visible.show.Goals as goal

shown_ascii : (bytes : List ℕ) → IsAscii (map visible bytes)
shown_ascii [] = IsAscii-nil
shown_ascii (b ∷ bytes) = IsAscii-cons (visible b) (map visible bytes) (grind (arith, nat_tests)) (shown_ascii bytes)

pub unwrap-requires : goal.unwrap-requires
unwrap-requires c =
    let all = c.args.bytes.now in
    let shown : take (length all) c.loop-k.places ≡ map visible all = grind (arith, common_steps) in
    let text : IsUtf8 (take (length all) c.loop-k.places) = rw shown (IsUtf8-from_ascii (map visible all) (shown_ascii all)) in
    search (rules, text)
