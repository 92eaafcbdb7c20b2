-- The words of the language: the keywords, the literals and the words that are kept for later.
use Rattle.std.specs.Prelude.{ℕ, ◌==◌, ◌&&◌, Bool, List, [], ◌∷◌, length, codes, Option}
use Rattle.std.specs.List.{find}
use Rattle.js_lexer.specs.Characters.{begins}
use Rattle.js_lexer.specs.declared.word.Word.{Word}
use Rattle.js_lexer.specs.declared.word.Word.TheVariants as w

-- how a word is written
abbrev pub spelling : Word → List ℕ
spelling w.Break = codes "break"
spelling w.Case = codes "case"
spelling w.Catch = codes "catch"
spelling w.Continue = codes "continue"
spelling w.Default = codes "default"
spelling w.Delete = codes "delete"
spelling w.Do = codes "do"
spelling w.Else = codes "else"
spelling w.Finally = codes "finally"
spelling w.For = codes "for"
spelling w.Function = codes "function"
spelling w.If = codes "if"
spelling w.In = codes "in"
spelling w.InstanceOf = codes "instanceof"
spelling w.New = codes "new"
spelling w.Return = codes "return"
spelling w.Switch = codes "switch"
spelling w.This = codes "this"
spelling w.Throw = codes "throw"
spelling w.Try = codes "try"
spelling w.TypeOf = codes "typeof"
spelling w.Var = codes "var"
spelling w.Void = codes "void"
spelling w.While = codes "while"
spelling w.With = codes "with"
spelling w.Null = codes "null"
spelling w.True = codes "true"
spelling w.False = codes "false"
spelling w.Abstract = codes "abstract"
spelling w.Boolean = codes "boolean"
spelling w.Byte = codes "byte"
spelling w.Char = codes "char"
spelling w.Class = codes "class"
spelling w.Const = codes "const"
spelling w.Debugger = codes "debugger"
spelling w.Double = codes "double"
spelling w.Enum = codes "enum"
spelling w.Export = codes "export"
spelling w.Extends = codes "extends"
spelling w.Final = codes "final"
spelling w.Float = codes "float"
spelling w.Goto = codes "goto"
spelling w.Implements = codes "implements"
spelling w.Import = codes "import"
spelling w.Int = codes "int"
spelling w.Interface = codes "interface"
spelling w.Long = codes "long"
spelling w.Native = codes "native"
spelling w.Package = codes "package"
spelling w.Private = codes "private"
spelling w.Protected = codes "protected"
spelling w.Public = codes "public"
spelling w.Short = codes "short"
spelling w.Static = codes "static"
spelling w.Super = codes "super"
spelling w.Synchronized = codes "synchronized"
spelling w.Throws = codes "throws"
spelling w.Transient = codes "transient"
spelling w.Volatile = codes "volatile"

-- every word
abbrev pub words : List Word
words = w.Break ∷ w.Case ∷ w.Catch ∷ w.Continue ∷ w.Default ∷ w.Delete ∷ w.Do ∷ w.Else ∷ w.Finally ∷ w.For ∷ w.Function ∷ w.If ∷ w.In ∷ w.InstanceOf ∷ w.New ∷ w.Return ∷ w.Switch ∷ w.This ∷ w.Throw ∷ w.Try ∷ w.TypeOf ∷ w.Var ∷ w.Void ∷ w.While ∷ w.With ∷ w.Null ∷ w.True ∷ w.False ∷ w.Abstract ∷ w.Boolean ∷ w.Byte ∷ w.Char ∷ w.Class ∷ w.Const ∷ w.Debugger ∷ w.Double ∷ w.Enum ∷ w.Export ∷ w.Extends ∷ w.Final ∷ w.Float ∷ w.Goto ∷ w.Implements ∷ w.Import ∷ w.Int ∷ w.Interface ∷ w.Long ∷ w.Native ∷ w.Package ∷ w.Private ∷ w.Protected ∷ w.Public ∷ w.Short ∷ w.Static ∷ w.Super ∷ w.Synchronized ∷ w.Throws ∷ w.Transient ∷ w.Volatile ∷ []

-- the units are these and no more
abbrev pub is_spelled : List ℕ → List ℕ → Bool
is_spelled spelled units = (length spelled == length units) && begins spelled units

-- the word that is written so
abbrev pub word_of : List ℕ → Option Word
word_of units = find (λ word. is_spelled (spelling word) units) words
