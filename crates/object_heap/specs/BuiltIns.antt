-- The numbers of the objects and functions that are there at the start (ES3 15). A prototype comes
-- before the objects that have it.
use Rattle.std.specs.Prelude.{ℕ, List, [], ◌∷◌, Option, slice_get}
use Rattle.object_heap.specs.declared.built_in.BuiltIn.{BuiltIn}
use Rattle.object_heap.specs.declared.built_in.BuiltIn.TheVariants as built

abbrev pub number_of : BuiltIn → ℕ
-- prototypes, and objects that are no functions
number_of built.ObjectPrototype = 0
number_of built.FunctionPrototype = 1
number_of built.ArrayPrototype = 2
number_of built.StringPrototype = 3
number_of built.NumberPrototype = 4
number_of built.BooleanPrototype = 5
number_of built.ErrorPrototype = 6
number_of built.TypeErrorPrototype = 7
number_of built.ReferenceErrorPrototype = 8
number_of built.RangeErrorPrototype = 9
number_of built.Math = 10
number_of built.Host = 11
number_of built.Global = 12
-- functions of the global object
number_of built.Object = 13
number_of built.Array = 14
number_of built.String = 15
number_of built.Number = 16
number_of built.Boolean = 17
number_of built.Error = 18
number_of built.TypeError = 19
number_of built.ReferenceError = 20
number_of built.RangeError = 21
number_of built.ParseInt = 22
number_of built.IsNan = 23
-- of Object.prototype
number_of built.ObjectToString = 24
number_of built.ObjectValueOf = 25
number_of built.HasOwnProperty = 26
number_of built.IsPrototypeOf = 27
number_of built.PropertyIsEnumerable = 28
-- of Function.prototype
number_of built.FunctionToString = 29
number_of built.Apply = 30
number_of built.Call = 31
-- of Array.prototype
number_of built.ArrayToString = 32
number_of built.ArrayConcat = 33
number_of built.Join = 34
number_of built.Pop = 35
number_of built.Push = 36
number_of built.Reverse = 37
number_of built.Shift = 38
number_of built.ArraySlice = 39
number_of built.Splice = 40
number_of built.Unshift = 41
-- of String and String.prototype
number_of built.FromCharCode = 42
number_of built.StringToString = 43
number_of built.StringValueOf = 44
number_of built.CharAt = 45
number_of built.CharCodeAt = 46
number_of built.StringConcat = 47
number_of built.IndexOf = 48
number_of built.LastIndexOf = 49
number_of built.StringSlice = 50
number_of built.Split = 51
number_of built.Substring = 52
-- of Number.prototype, Boolean.prototype and Error.prototype
number_of built.NumberToString = 53
number_of built.NumberValueOf = 54
number_of built.BooleanToString = 55
number_of built.BooleanValueOf = 56
number_of built.ErrorToString = 57
-- of Math
number_of built.Abs = 58
number_of built.Max = 59
number_of built.Min = 60
number_of built.Floor = 61
number_of built.Ceil = 62
number_of built.Round = 63
-- of `host`
number_of built.On = 64

-- all of them, in the order of their numbers
abbrev pub built_ins : List BuiltIn
built_ins =
    built.ObjectPrototype ∷ built.FunctionPrototype ∷ built.ArrayPrototype ∷
    built.StringPrototype ∷ built.NumberPrototype ∷ built.BooleanPrototype ∷
    built.ErrorPrototype ∷ built.TypeErrorPrototype ∷ built.ReferenceErrorPrototype ∷
    built.RangeErrorPrototype ∷ built.Math ∷ built.Host ∷ built.Global ∷ built.Object ∷
    built.Array ∷ built.String ∷ built.Number ∷ built.Boolean ∷ built.Error ∷ built.TypeError ∷
    built.ReferenceError ∷ built.RangeError ∷ built.ParseInt ∷ built.IsNan ∷
    built.ObjectToString ∷ built.ObjectValueOf ∷ built.HasOwnProperty ∷ built.IsPrototypeOf ∷
    built.PropertyIsEnumerable ∷ built.FunctionToString ∷ built.Apply ∷ built.Call ∷
    built.ArrayToString ∷ built.ArrayConcat ∷ built.Join ∷ built.Pop ∷ built.Push ∷
    built.Reverse ∷ built.Shift ∷ built.ArraySlice ∷ built.Splice ∷ built.Unshift ∷
    built.FromCharCode ∷ built.StringToString ∷ built.StringValueOf ∷ built.CharAt ∷
    built.CharCodeAt ∷ built.StringConcat ∷ built.IndexOf ∷ built.LastIndexOf ∷
    built.StringSlice ∷ built.Split ∷ built.Substring ∷ built.NumberToString ∷
    built.NumberValueOf ∷ built.BooleanToString ∷ built.BooleanValueOf ∷ built.ErrorToString ∷
    built.Abs ∷ built.Max ∷ built.Min ∷ built.Floor ∷ built.Ceil ∷ built.Round ∷ built.On ∷ []

-- which one an object is; None for one that was made later
abbrev pub which : ℕ → Option BuiltIn
which o = slice_get built_ins o
