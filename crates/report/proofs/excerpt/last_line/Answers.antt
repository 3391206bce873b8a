use Rattle.std.proofs.Common.{sym, ◌∙◌, rules}
use Rattle.std.proofs.lemmas.Bool.{false≢true}
use Rattle.std.proofs.lemmas.Fn.{always_returns_same}
use Rattle.report.specs.Excerpts.{is_break}
use Rattle.report.proofs.Parts.{first_of_rsplit}
use Rattle.report.proofs.excerpt.last_line.Goals as goal

pub returns : goal.returns
returns c =
    let part = first_of_rsplit _ _ _ _ is_break c.rsplit.result.parts.rest.now c.next.new.self.parts.rest.now c.next.new.self.parts.done c.next.result c.args.bytes c.next.ensures.steps (λ (done, _). false≢true (sym c.rsplit.ensures.done ∙ done)) (always_returns_same _ _ _ (λ a r f k. search rules)) in
    record { by_definition = rw (c.unwrap_or.ensures, part, c.rsplit.ensures.rest) }
