-- The words for a layer and for the reason of a refusal. Assumes nothing.
use Rattle.std.specs.Prelude.{ℕ, List, codes}
use Rattle.rule.specs.declared.refusal.Layer.{Layer}
use Rattle.rule.specs.declared.refusal.Layer.TheVariants.{Strip, Text, Letters, Grammar, Rows, Table, Sample, Charge, Field}
use Rattle.rule.specs.declared.refusal.Refusal.{Refusal}
use Rattle.rule.specs.declared.refusal.Refusal.TheVariants.{ShortStrip, LongText, NoToken, OutOfPlace, LongName, RepeatedName, ManyNames, UndeclaredName, UnfitRows, ManySignals, ManyStates, ReadingCount, FullCharge, NoSample, NotInTable, CutShort, NoSuchSignal, MissingReading, UnfitField}

abbrev pub layer_name : Layer → List ℕ
layer_name Strip = codes "strip"
layer_name Text = codes "text"
layer_name Letters = codes "letters"
layer_name Grammar = codes "grammar"
layer_name Rows = codes "rows"
layer_name Table = codes "table"
layer_name Sample = codes "sample"
layer_name Charge = codes "charge"
layer_name Field = codes "field"

abbrev pub sentence : Refusal → List ℕ
sentence ShortStrip = codes "The room for rows or names is too small; tell whoever keeps this program."
sentence LongText = codes "The text is longer than 1024 bytes; shorten it or split it into several rules."
sentence NoToken = codes "No name and no sign of a rule begins here; correct or remove this character."
sentence OutOfPlace = codes "The rule does not go on or end like this; check the colon, the brackets and the operators up to this place."
sentence LongName = codes "This name is longer than 12 characters; choose a shorter one."
sentence RepeatedName = codes "This name already stands before the colon; name each signal once."
sentence ManyNames = codes "A rule has at most 16 signals; leave this one or another out."
sentence UndeclaredName = codes "This name is not one of those before the colon."
sentence UnfitRows = codes "The rule has more than 64 parts, or parts that do not fit together; shorten it or split it."
sentence ManySignals = codes "A table needs a rule of at most 6 signals; use fewer of them."
sentence ManyStates = codes "A table has at most 256 states; make the rule remember less."
sentence ReadingCount = codes "The sample does not have one reading for each signal; give as many as there are names before the colon."
sentence FullCharge = codes "The charge has 1,000,000 samples already; begin a new one."
sentence NoSample = codes "The charge has no sample yet; a verdict needs at least one."
sentence NotInTable = codes "The table has no such state or letter; make it again from its rule."
sentence CutShort = codes "The log ends in the middle of a sample; copy the whole log again."
sentence NoSuchSignal = codes "A sample has a reading of a signal that the rule does not have; check that log and rule belong together."
sentence MissingReading = codes "A sample lacks the reading of a signal; this scale needs every reading."
sentence UnfitField = codes "A reading in the log is no value of this scale; check that log and scale belong together."
