-- The text of tokens, and of whole trees. A text is a list of characters here, and its bytes are
-- theirs in UTF-8.
use Rattle.std.specs.Prelude.{ℕ, ◌||◌, ◌&&◌, Bool, true, false, List, [], ◌∷◌, ◌++◌, codes}
use Rattle.std.specs.Prelude.{encode_utf8_all}
use Rattle.std.specs.Char.Utf16.{utf16_lossy_chars}
use Rattle.std.specs.Fmt.{decimal}
use Rattle.dl_text.specs.Quote.{quoted}
use Rattle.js_lexer.specs.Characters.{begins, first_is, continues_name}
use Rattle.js_lexer.specs.Marks as marks
use Rattle.js_lexer.specs.Words as words
use Rattle.js_lexer.specs.Words.{is_spelled}
use Rattle.js_lexer.specs.declared.token.TokenKind.{TokenKind}
use Rattle.js_lexer.specs.declared.token.TokenKind.TheVariants as k
use Rattle.js_tree.specs.Tree.{Script, Func, Stmts}
use Rattle.js_printer.specs.Printed.{Kinds, enclosed, stmts, func}

-- how a token is written
abbrev pub spelled : TokenKind → List ℕ
spelled (k.Word w) = words.spelling w
spelled (k.Name n) = utf16_lossy_chars n
spelled (k.Number n) = decimal n
spelled (k.Str text) = quoted text
spelled (k.Mark m) = marks.spelling m
spelled k.End = []

abbrev pub last_is : (ℕ → Bool) → List ℕ → Bool
last_is p [] = false
last_is p (c ∷ []) = p c
last_is p (c ∷ d ∷ cs) = last_is p (d ∷ cs)

-- One space stands between two tokens that would else be read as others: where both meet in
-- characters that may continue a name, between `+` and what begins with `+`, and between `-` and
-- what begins with `-`.
abbrev pub needs_space : List ℕ → List ℕ → Bool
needs_space before after =
    (last_is continues_name before && first_is continues_name after)
    || ((is_spelled (codes "+") before && begins (codes "+") after) ||
    (is_spelled (codes "-") before && begins (codes "-") after))

abbrev pub space : Bool → List ℕ
space true = 32 ∷ []
space false = []

-- between a token and those behind it
abbrev pub gap : TokenKind → Kinds → List ℕ
gap kind [] = []
gap kind (next ∷ rest) = space (needs_space (spelled kind) (spelled next))

abbrev pub text : Kinds → List ℕ
text [] = []
text (kind ∷ rest) = spelled kind ++ (gap kind rest ++ text rest)

-- a script's text ends with a line feed, and no other line terminator is in it
abbrev pub script_text : Script → List ℕ
script_text script = text (stmts script) ++ (10 ∷ [])

abbrev pub func_text : Func → List ℕ
func_text f = text (func f)

-- what stands between the braces of a function
abbrev pub body_text : Stmts → List ℕ
body_text body = text (stmts body)

-- the text of an entry
abbrev pub entry_text : Func → List ℕ
entry_text f = text (enclosed (func f))

-- in bytes
abbrev pub script_bytes : Script → List ℕ
script_bytes script = encode_utf8_all (script_text script)

abbrev pub func_bytes : Func → List ℕ
func_bytes f = encode_utf8_all (func_text f)

abbrev pub body_bytes : Stmts → List ℕ
body_bytes body = encode_utf8_all (body_text body)

abbrev pub entry_bytes : Func → List ℕ
entry_bytes f = encode_utf8_all (entry_text f)
