-- The number of a fault, and the layer and the place where one is known.
use Rattle.std.specs.Prelude.{ℕ, Some, None, Option}
use Rattle.automata.specs.declared.Fault.{Fault}
use Rattle.automata.specs.declared.Fault.TheVariants.{ShortBuffer, LongText, StrayByte, LargeNumber, UnknownWord, Unexpected, NoMeasure, TooDeep, TooManySteps, VoidMachine, NoSuchState, WrongHead, WrongRow, RowsUnordered, RowsOverlap, TooManyRows}

-- the number of a fault; there is no 12
abbrev pub number_of : Fault → ℕ
number_of ShortBuffer = 1
number_of LongText = 2
number_of (StrayByte p) = 3
number_of (LargeNumber p) = 4
number_of (UnknownWord p) = 5
number_of (Unexpected p) = 6
number_of (NoMeasure p) = 7
number_of (TooDeep p) = 8
number_of (TooManySteps p) = 9
number_of VoidMachine = 10
number_of NoSuchState = 11
number_of (WrongHead p) = 13
number_of (WrongRow p) = 14
number_of (RowsUnordered p) = 15
number_of (RowsOverlap p) = 16
number_of TooManyRows = 17

-- 0 buffers and lengths, 1 tokens, 2 grammar, 3 meaning, 4 a table's head, 5 its rows
abbrev pub layer_of : Fault → Option ℕ
layer_of ShortBuffer = Some 0
layer_of LongText = Some 0
layer_of (StrayByte p) = Some 1
layer_of (LargeNumber p) = Some 1
layer_of (UnknownWord p) = Some 1
layer_of (Unexpected p) = Some 2
layer_of (NoMeasure p) = Some 3
layer_of (TooDeep p) = Some 2
layer_of (TooManySteps p) = Some 3
layer_of VoidMachine = None
layer_of NoSuchState = None
layer_of (WrongHead p) = Some 4
layer_of (WrongRow p) = Some 5
layer_of (RowsUnordered p) = Some 5
layer_of (RowsOverlap p) = Some 5
layer_of TooManyRows = Some 5

-- the place in bytes
abbrev pub place_of : Fault → Option ℕ
place_of ShortBuffer = Some 0
place_of LongText = Some 16384
place_of (StrayByte p) = Some p
place_of (LargeNumber p) = Some p
place_of (UnknownWord p) = Some p
place_of (Unexpected p) = Some p
place_of (NoMeasure p) = Some p
place_of (TooDeep p) = Some p
place_of (TooManySteps p) = Some p
place_of VoidMachine = None
place_of NoSuchState = None
place_of (WrongHead p) = Some p
place_of (WrongRow p) = Some p
place_of (RowsUnordered p) = Some p
place_of (RowsOverlap p) = Some p
place_of TooManyRows = Some 32778
