-- Which tokens stand in a script at all, and that a name does not stand directly behind another on
-- its line.
use Rattle.std.specs.Prelude.{◌&&◌, ◌||◌, not, Bool, true, false, [], ◌∷◌}
use Rattle.js_lexer.specs.declared.word.Word.{Word}
use Rattle.js_lexer.specs.declared.word.Word.TheVariants as w
use Rattle.js_lexer.specs.declared.token.TokenKind.{TokenKind}
use Rattle.js_lexer.specs.declared.token.TokenKind.TheVariants as k
use Rattle.js_parser.specs.declared.form.Form.{Form}
use Rattle.js_parser.specs.Names.{is_own, is_written}
use Rattle.js_parser.specs.Symbols.{Symbol, Symbols}

-- the words that the grammar has: not `with`, `debugger` and those that are kept for later
abbrev pub is_used : Word → Bool
is_used w.Break = true
is_used w.Case = true
is_used w.Catch = true
is_used w.Continue = true
is_used w.Default = true
is_used w.Delete = true
is_used w.Do = true
is_used w.Else = true
is_used w.Finally = true
is_used w.For = true
is_used w.Function = true
is_used w.If = true
is_used w.In = true
is_used w.InstanceOf = true
is_used w.New = true
is_used w.Return = true
is_used w.Switch = true
is_used w.This = true
is_used w.Throw = true
is_used w.Try = true
is_used w.TypeOf = true
is_used w.Var = true
is_used w.Void = true
is_used w.While = true
is_used w.Null = true
is_used w.True = true
is_used w.False = true
is_used _ = false

-- Doloto's own names stand in the form Written alone
abbrev pub stands : Form → TokenKind → Bool
stands form (k.Word w) = is_used w
stands form (k.Name n) = not (is_own n) || is_written form
stands form _ = true

abbrev pub is_name : TokenKind → Bool
is_name (k.Name n) = true
is_name _ = false

abbrev pub is_name_on_line : Symbol → Bool
is_name_on_line s = is_name s.kind && not s.newline

-- the token may stand, behind a name or not
abbrev pub may_come : Form → Bool → Symbol → Bool
may_come form behind_name s = stands form s.kind && not (behind_name && is_name_on_line s)

abbrev pub are_placed : Form → Bool → Symbols → Bool
are_placed form behind_name [] = true
are_placed form behind_name (s ∷ ss) = may_come form behind_name s && are_placed form
    (is_name s.kind) ss
