-- Tokens of one kind.
use Rattle.std.specs.Prelude.{Bool, true, false}
use Rattle.js_lexer.specs.declared.mark.Mark.TheVariants as m
use Rattle.js_lexer.specs.declared.word.Word.TheVariants as w
use Rattle.js_lexer.specs.declared.token.TokenKind.{TokenKind}
use Rattle.js_lexer.specs.declared.token.TokenKind.TheVariants as k

abbrev pub is_comma : TokenKind → Bool
is_comma (k.Mark m.Comma) = true
is_comma _ = false

abbrev pub is_question : TokenKind → Bool
is_question (k.Mark m.Question) = true
is_question _ = false

abbrev pub is_dot : TokenKind → Bool
is_dot (k.Mark m.Dot) = true
is_dot _ = false

abbrev pub is_open_bracket : TokenKind → Bool
is_open_bracket (k.Mark m.OpenBracket) = true
is_open_bracket _ = false

abbrev pub is_assign : TokenKind → Bool
is_assign (k.Mark m.Assign) = true
is_assign _ = false

abbrev pub is_else : TokenKind → Bool
is_else (k.Word w.Else) = true
is_else _ = false

abbrev pub is_in : TokenKind → Bool
is_in (k.Word w.In) = true
is_in _ = false

abbrev pub is_catch : TokenKind → Bool
is_catch (k.Word w.Catch) = true
is_catch _ = false

abbrev pub is_finally : TokenKind → Bool
is_finally (k.Word w.Finally) = true
is_finally _ = false

abbrev pub is_var : TokenKind → Bool
is_var (k.Word w.Var) = true
is_var _ = false

abbrev pub is_new : TokenKind → Bool
is_new (k.Word w.New) = true
is_new _ = false
