use Rattle.std.proofs.Common.{◌≡◌, ◌≢◌, rules, arith}
use borrow.Author.Tests.{tests}
use Rattle.std.proofs.lemmas.Iterator.{IsFirst-from_position, YieldsList-from_slice}
use Rattle.text.specs.Readers.{name_at}
use Rattle.text.proofs.Headers.{sought}
use Rattle.text.proofs.header.Header.find.Goals as goal

pub returns : goal.returns
returns c =
    let text = c.args.self.text.now in
    let name = c.args.name.now in
    record { if_short = (omega arith, sought text c.args.self.names.now name _ (IsFirst-from_position _ _ _ (λ n. name_at text n ≡ name) (λ n. name_at text n ≢ name) c.position-found.ensures.ran (YieldsList-from_slice c.args.self.names.now (cc)) (λ x q k. search (rules, tests)) (λ x q k. search (rules, tests)))) }
