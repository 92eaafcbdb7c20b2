-- The marks of the language.
use Rattle.std.specs.Prelude.{ℕ, List, [], ◌∷◌, codes, Option}
use Rattle.std.specs.List.{find}
use Rattle.js_lexer.specs.Characters.{begins}
use Rattle.js_lexer.specs.declared.mark.Mark.{Mark}
use Rattle.js_lexer.specs.declared.mark.Mark.TheVariants as m

-- how a mark is written
abbrev pub spelling : Mark → List ℕ
spelling m.OpenBrace = codes "{"
spelling m.CloseBrace = codes "}"
spelling m.OpenParenthesis = codes "("
spelling m.CloseParenthesis = codes ")"
spelling m.OpenBracket = codes "["
spelling m.CloseBracket = codes "]"
spelling m.Dot = codes "."
spelling m.Semicolon = codes ";"
spelling m.Comma = codes ","
spelling m.Less = codes "<"
spelling m.Greater = codes ">"
spelling m.LessEqual = codes "<="
spelling m.GreaterEqual = codes ">="
spelling m.Equal = codes "=="
spelling m.NotEqual = codes "!="
spelling m.StrictEqual = codes "==="
spelling m.StrictNotEqual = codes "!=="
spelling m.Plus = codes "+"
spelling m.Minus = codes "-"
spelling m.Times = codes "*"
spelling m.Slash = codes "/"
spelling m.Percent = codes "%"
spelling m.PlusPlus = codes "++"
spelling m.MinusMinus = codes "--"
spelling m.ShiftLeft = codes "<<"
spelling m.ShiftRight = codes ">>"
spelling m.ShiftRightUnsigned = codes ">>>"
spelling m.BitAnd = codes "&"
spelling m.BitOr = codes "|"
spelling m.BitXor = codes "^"
spelling m.Not = codes "!"
spelling m.BitNot = codes "~"
spelling m.And = codes "&&"
spelling m.Or = codes "||"
spelling m.Question = codes "?"
spelling m.Colon = codes ":"
spelling m.Assign = codes "="
spelling m.PlusAssign = codes "+="
spelling m.MinusAssign = codes "-="
spelling m.TimesAssign = codes "*="
spelling m.SlashAssign = codes "/="
spelling m.PercentAssign = codes "%="
spelling m.ShiftLeftAssign = codes "<<="
spelling m.ShiftRightAssign = codes ">>="
spelling m.ShiftRightUnsignedAssign = codes ">>>="
spelling m.BitAndAssign = codes "&="
spelling m.BitOrAssign = codes "|="
spelling m.BitXorAssign = codes "^="

-- every mark, the longer ones first
abbrev pub marks : List Mark
marks = m.ShiftRightUnsignedAssign ∷ m.StrictEqual ∷ m.StrictNotEqual ∷ m.ShiftRightUnsigned ∷ m.ShiftLeftAssign ∷ m.ShiftRightAssign ∷ m.LessEqual ∷ m.GreaterEqual ∷ m.Equal ∷ m.NotEqual ∷ m.PlusPlus ∷ m.MinusMinus ∷ m.ShiftLeft ∷ m.ShiftRight ∷ m.And ∷ m.Or ∷ m.PlusAssign ∷ m.MinusAssign ∷ m.TimesAssign ∷ m.SlashAssign ∷ m.PercentAssign ∷ m.BitAndAssign ∷ m.BitOrAssign ∷ m.BitXorAssign ∷ m.OpenBrace ∷ m.CloseBrace ∷ m.OpenParenthesis ∷ m.CloseParenthesis ∷ m.OpenBracket ∷ m.CloseBracket ∷ m.Dot ∷ m.Semicolon ∷ m.Comma ∷ m.Less ∷ m.Greater ∷ m.Plus ∷ m.Minus ∷ m.Times ∷ m.Slash ∷ m.Percent ∷ m.BitAnd ∷ m.BitOr ∷ m.BitXor ∷ m.Not ∷ m.BitNot ∷ m.Question ∷ m.Colon ∷ m.Assign ∷ []

-- the longest mark that the characters begin with
abbrev pub front_mark : List ℕ → Option Mark
front_mark cs = find (λ mark. begins (spelling mark) cs) marks
