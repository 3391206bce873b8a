-- A fault, and how it is written. Assumes nothing.
use Rattle.std.specs.Prelude.{ℕ, List, ◌++◌, codes, decimal}
use Rattle.rule.specs.declared.refusal.Fault.{Fault}
use Rattle.rule.specs.declared.refusal.Refusal.{Refusal}
use Rattle.rule.specs.Refusals.{number, layer}
use Rattle.rule.specs.Reasons.{layer_name}

-- the fault at a place, where no sample is concerned
abbrev pub fault : Refusal → ℕ → Fault
fault r place = record { refusal = r; place = place; sample = 0 }

abbrev pub fault_text : Fault → List ℕ
fault_text f = codes "refused " ++ (decimal (number f.refusal) ++ (codes " at " ++ (decimal f.place ++ (codes " in " ++ layer_name (layer f.refusal)))))
