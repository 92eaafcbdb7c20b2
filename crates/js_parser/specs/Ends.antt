-- The end of a statement (7.9): a semicolon, or no token where one is inserted.
use Rattle.std.specs.Prelude.{ℕ, ◌≡◌, ◌≢◌, Bool, true, false, [], ◌∷◌, if◌then◌else◌}
use Rattle.js_lexer.specs.declared.mark.Mark.{Mark}
use Rattle.js_lexer.specs.declared.mark.Mark.TheVariants as m
use Rattle.js_lexer.specs.declared.word.Word.{Word}
use Rattle.js_lexer.specs.declared.word.Word.TheVariants as w
use Rattle.js_lexer.specs.declared.token.TokenKind.{TokenKind}
use Rattle.js_lexer.specs.declared.token.TokenKind.TheVariants as k
use Rattle.js_tree.specs.Tree.{VarItems, NoVarItems, MoreVarItems, MaybeExpr, NoExpr, AnExpr}
use Rattle.js_parser.specs.Symbols.{Symbol, Symbols, mark}

-- `++` and `--`
abbrev pub is_change : TokenKind → Bool
is_change (k.Mark m.PlusPlus) = true
is_change (k.Mark m.MinusMinus) = true
is_change _ = false

abbrev pub ends_from : Bool → Symbols → Bool
ends_from b [] = b
ends_from b (s ∷ ss) = ends_from (is_change s.kind) ss

-- The last token is `++` or `--`. Behind an expression it is then a postfix operator, since an
-- operand follows a prefix operator.
abbrev pub ends_changed : Symbols → Bool
ends_changed = ends_from false

abbrev pub unless : Bool → ℕ → ℕ
unless b l = if b then 0 else l

-- the level of the expression that a mark makes of what stands before it and what follows, and 0 if
-- it makes none
abbrev pub mark_reach : Bool → Bool → Mark → ℕ
mark_reach changed newline m.Comma = 1
mark_reach changed newline m.Assign = 2
mark_reach changed newline m.PlusAssign = 2
mark_reach changed newline m.MinusAssign = 2
mark_reach changed newline m.TimesAssign = 2
mark_reach changed newline m.SlashAssign = 2
mark_reach changed newline m.PercentAssign = 2
mark_reach changed newline m.ShiftLeftAssign = 2
mark_reach changed newline m.ShiftRightAssign = 2
mark_reach changed newline m.ShiftRightUnsignedAssign = 2
mark_reach changed newline m.BitAndAssign = 2
mark_reach changed newline m.BitXorAssign = 2
mark_reach changed newline m.BitOrAssign = 2
mark_reach changed newline m.Question = 3
mark_reach changed newline m.Or = 4
mark_reach changed newline m.And = 5
mark_reach changed newline m.BitOr = 6
mark_reach changed newline m.BitXor = 7
mark_reach changed newline m.BitAnd = 8
mark_reach changed newline m.Equal = 9
mark_reach changed newline m.NotEqual = 9
mark_reach changed newline m.StrictEqual = 9
mark_reach changed newline m.StrictNotEqual = 9
mark_reach changed newline m.Less = 10
mark_reach changed newline m.Greater = 10
mark_reach changed newline m.LessEqual = 10
mark_reach changed newline m.GreaterEqual = 10
mark_reach changed newline m.ShiftLeft = 11
mark_reach changed newline m.ShiftRight = 11
mark_reach changed newline m.ShiftRightUnsigned = 11
mark_reach changed newline m.Plus = 12
mark_reach changed newline m.Minus = 12
mark_reach changed newline m.Times = 13
mark_reach changed newline m.Slash = 13
mark_reach changed newline m.Percent = 13
mark_reach changed newline m.PlusPlus = unless changed (unless newline 15)
mark_reach changed newline m.MinusMinus = unless changed (unless newline 15)
mark_reach changed newline m.Dot = unless changed 18
mark_reach changed newline m.OpenBracket = unless changed 18
mark_reach changed newline m.OpenParenthesis = unless changed 18
mark_reach changed newline _ = 0

abbrev pub word_reach : Word → ℕ
word_reach w.InstanceOf = 10
word_reach w.In = 10
word_reach _ = 0

abbrev pub kind_reach : Bool → Bool → TokenKind → ℕ
kind_reach changed newline (k.Mark m) = mark_reach changed newline m
kind_reach changed newline (k.Word w) = word_reach w
kind_reach changed newline _ = 0

-- The highest level of an expression that the token goes on with, behind tokens that are one, and 0
-- if it goes on with none.
abbrev pub reach : Symbols → Symbol → ℕ
reach u next = kind_reach (ends_changed u) next.newline next.kind

-- the same behind a declarator with no initialiser, 12.2: `=` and a comma go on with it
abbrev pub bare_reach : TokenKind → ℕ
bare_reach (k.Mark m.Assign) = 2
bare_reach (k.Mark m.Comma) = 1
bare_reach _ = 0

abbrev pub declarator_reach : Symbols → Symbol → MaybeExpr → ℕ
declarator_reach u next NoExpr = bare_reach next.kind
declarator_reach u next (AnExpr x) = reach u next

-- the same behind a `var` list, by its last declarator
abbrev pub list_reach : Symbols → Symbol → VarItems → ℕ
list_reach u next NoVarItems = 0
list_reach u next (MoreVarItems name value NoVarItems) = declarator_reach u next value
list_reach u next (MoreVarItems name value (MoreVarItems other_name other_value rest)) =
    list_reach u next (MoreVarItems other_name other_value rest)

-- The end of a statement that the token `next` goes on with to a level, or fits nowhere behind
-- where that is 0: it is `;`, or no token, where the next is `}` or the end, or stands on a new
-- line and fits nowhere.
pub data Ends (reached : ℕ) (next : Symbol) : Symbols → Type 0 where
  written : (b : Bool) → Ends reached next (mark m.Semicolon b ∷ [])
  at_brace : next.kind ≡ k.Mark m.CloseBrace → Ends reached next []
  at_end : next.kind ≡ k.End → Ends reached next []
  at_line : next.newline ≡ true → reached ≡ 0 → next.kind ≢ k.Mark m.Semicolon
      → Ends reached next []

-- The end directly behind `continue`, `break` and `return`: a token on a new line ends them
-- whatever it is, also a semicolon.
pub data EndsAtOnce (next : Symbol) : Symbols → Type 0 where
  semicolon : EndsAtOnce next (mark m.Semicolon false ∷ [])
  before_brace : next.kind ≡ k.Mark m.CloseBrace → EndsAtOnce next []
  before_end : next.kind ≡ k.End → EndsAtOnce next []
  before_line : next.newline ≡ true → EndsAtOnce next []
