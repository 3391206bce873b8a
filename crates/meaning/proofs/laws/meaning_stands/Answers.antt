use Rattle.meaning.proofs.Recurrence.{recurrences}
use Rattle.meaning.proofs.Causal.{value_causal}
use Rattle.meaning.proofs.Carrying.{value_kept}
use Rattle.meaning.proofs.laws.meaning_stands.Goals as goal

pub returns : goal.returns
returns g c = record {
  recurrences = recurrences g.met.S.Scale.lawful;
  only_the_past = λ f t charge other e. value_causal g.S.Scale.ops f t charge other e;
  carried_by_translations = λ h T f charge t. value_kept T f charge t;
}
