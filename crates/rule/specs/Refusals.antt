-- The number and the layer of each refusal. Assumes nothing.
use Rattle.std.specs.Prelude.{ℕ}
use Rattle.rule.specs.declared.refusal.Refusal.{Refusal}
use Rattle.rule.specs.declared.refusal.Refusal.TheVariants.{ShortStrip, LongText, NoToken, OutOfPlace, LongName, RepeatedName, ManyNames, UndeclaredName, UnfitRows, ManySignals, ManyStates, ReadingCount, FullCharge, NoSample, NotInTable, CutShort, NoSuchSignal, MissingReading, UnfitField}
use Rattle.rule.specs.declared.refusal.Layer.{Layer}
use Rattle.rule.specs.declared.refusal.Layer.TheVariants.{Strip, Text, Letters, Grammar, Rows, Table, Sample, Charge, Field}

abbrev pub number : Refusal → ℕ
number ShortStrip = 1
number LongText = 2
number NoToken = 3
number OutOfPlace = 4
number LongName = 5
number RepeatedName = 6
number ManyNames = 7
number UndeclaredName = 8
number UnfitRows = 9
number ManySignals = 10
number ManyStates = 11
number ReadingCount = 12
number FullCharge = 13
number NoSample = 14
number NotInTable = 15
number CutShort = 16
number NoSuchSignal = 17
number MissingReading = 18
number UnfitField = 19

abbrev pub layer : Refusal → Layer
layer ShortStrip = Strip
layer LongText = Text
layer NoToken = Letters
layer OutOfPlace = Grammar
layer LongName = Letters
layer RepeatedName = Grammar
layer ManyNames = Grammar
layer UndeclaredName = Grammar
layer UnfitRows = Rows
layer ManySignals = Table
layer ManyStates = Table
layer ReadingCount = Sample
layer FullCharge = Charge
layer NoSample = Charge
layer NotInTable = Table
layer CutShort = Field
layer NoSuchSignal = Sample
layer MissingReading = Sample
layer UnfitField = Field
