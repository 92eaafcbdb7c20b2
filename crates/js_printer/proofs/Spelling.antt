-- The characters that tokens are spelled with.
use Rattle.std.proofs.Common.{◌≡◌, ℕ, List, codes, refl, sym, ap, ◌∙◌}
use Rattle.std.specs.Prelude.{IsUtf8, IsAscii, encode_utf8_all, decimal}
use Rattle.std.specs.Str.{chars}
use Rattle.std.specs.Char.Utf16.{utf16_lossy_chars, utf16_chars}
use Rattle.std.proofs.lemmas.Str.{chars-IsAscii, chars_from_encodes}
use Rattle.js_lexer.specs.Marks as marks
use Rattle.js_lexer.specs.Words as words
use Rattle.js_lexer.specs.declared.mark.Mark.{Mark}
use Rattle.js_lexer.specs.declared.mark.Mark.TheVariants as m
use Rattle.js_lexer.specs.declared.word.Word.{Word}
use Rattle.js_lexer.specs.declared.word.Word.TheVariants as w
use Rattle.js_lexer.specs.declared.token.TokenKind.TheVariants as k
use Rattle.js_printer.specs.declared.writer.Printer.{Printer}
use Rattle.js_printer.specs.Written.{put, written}

word_chars : (word : Word) → chars (words.spelling word) ≡ words.spelling word
unfolding chars
word_chars w.Break = refl
word_chars w.Case = refl
word_chars w.Catch = refl
word_chars w.Continue = refl
word_chars w.Default = refl
word_chars w.Delete = refl
word_chars w.Do = refl
word_chars w.Else = refl
word_chars w.Finally = refl
word_chars w.For = refl
word_chars w.Function = refl
word_chars w.If = refl
word_chars w.In = refl
word_chars w.InstanceOf = refl
word_chars w.New = refl
word_chars w.Return = refl
word_chars w.Switch = refl
word_chars w.This = refl
word_chars w.Throw = refl
word_chars w.Try = refl
word_chars w.TypeOf = refl
word_chars w.Var = refl
word_chars w.Void = refl
word_chars w.While = refl
word_chars w.With = refl
word_chars w.Null = refl
word_chars w.True = refl
word_chars w.False = refl
word_chars w.Abstract = refl
word_chars w.Boolean = refl
word_chars w.Byte = refl
word_chars w.Char = refl
word_chars w.Class = refl
word_chars w.Const = refl
word_chars w.Debugger = refl
word_chars w.Double = refl
word_chars w.Enum = refl
word_chars w.Export = refl
word_chars w.Extends = refl
word_chars w.Final = refl
word_chars w.Float = refl
word_chars w.Goto = refl
word_chars w.Implements = refl
word_chars w.Import = refl
word_chars w.Int = refl
word_chars w.Interface = refl
word_chars w.Long = refl
word_chars w.Native = refl
word_chars w.Package = refl
word_chars w.Private = refl
word_chars w.Protected = refl
word_chars w.Public = refl
word_chars w.Short = refl
word_chars w.Static = refl
word_chars w.Super = refl
word_chars w.Synchronized = refl
word_chars w.Throws = refl
word_chars w.Transient = refl
word_chars w.Volatile = refl

mark_chars : (mark : Mark) → chars (marks.spelling mark) ≡ marks.spelling mark
unfolding chars
mark_chars m.OpenBrace = refl
mark_chars m.CloseBrace = refl
mark_chars m.OpenParenthesis = refl
mark_chars m.CloseParenthesis = refl
mark_chars m.OpenBracket = refl
mark_chars m.CloseBracket = refl
mark_chars m.Dot = refl
mark_chars m.Semicolon = refl
mark_chars m.Comma = refl
mark_chars m.Less = refl
mark_chars m.Greater = refl
mark_chars m.LessEqual = refl
mark_chars m.GreaterEqual = refl
mark_chars m.Equal = refl
mark_chars m.NotEqual = refl
mark_chars m.StrictEqual = refl
mark_chars m.StrictNotEqual = refl
mark_chars m.Plus = refl
mark_chars m.Minus = refl
mark_chars m.Times = refl
mark_chars m.Slash = refl
mark_chars m.Percent = refl
mark_chars m.PlusPlus = refl
mark_chars m.MinusMinus = refl
mark_chars m.ShiftLeft = refl
mark_chars m.ShiftRight = refl
mark_chars m.ShiftRightUnsigned = refl
mark_chars m.BitAnd = refl
mark_chars m.BitOr = refl
mark_chars m.BitXor = refl
mark_chars m.Not = refl
mark_chars m.BitNot = refl
mark_chars m.And = refl
mark_chars m.Or = refl
mark_chars m.Question = refl
mark_chars m.Colon = refl
mark_chars m.Assign = refl
mark_chars m.PlusAssign = refl
mark_chars m.MinusAssign = refl
mark_chars m.TimesAssign = refl
mark_chars m.SlashAssign = refl
mark_chars m.PercentAssign = refl
mark_chars m.ShiftLeftAssign = refl
mark_chars m.ShiftRightAssign = refl
mark_chars m.ShiftRightUnsignedAssign = refl
mark_chars m.BitAndAssign = refl
mark_chars m.BitOrAssign = refl
mark_chars m.BitXorAssign = refl

pub word_written : (p : Printer) (word : Word) (bs : List ℕ) → bs ≡ words.spelling word → put p (chars bs) ≡ written p (k.Word word)
unfolding written
word_written p word bs e = ap (λ t. put p (chars t)) e ∙ ap (put p) (word_chars word)

pub mark_written : (p : Printer) (mark : Mark) (bs : List ℕ) → bs ≡ marks.spelling mark → put p (chars bs) ≡ written p (k.Mark mark)
unfolding written
mark_written p mark bs e = ap (λ t. put p (chars t)) e ∙ ap (put p) (mark_chars mark)

pub number_written : (p : Printer) (n : ℕ) (bs : List ℕ) → IsAscii bs → bs ≡ decimal n → put p (chars bs) ≡ written p (k.Number n)
unfolding written
number_written p n bs a e = ap (put p) (chars-IsAscii bs a ∙ e)

-- a name's bytes are its characters
pub name_written : (p : Printer) (name bs : List ℕ) → IsUtf8 bs → bs ≡ encode_utf8_all (utf16_lossy_chars name) → put p (chars bs) ≡ written p (k.Name name)
unfolding written
name_written p name bs u e = ap (put p) (sym (chars_from_encodes (utf16_lossy_chars name) bs u (sym e)))

-- the names of the cache
eval_chars : chars (codes "eval") ≡ utf16_lossy_chars (codes "eval")
unfolding chars utf16_chars
eval_chars = refl

get_chars : chars (codes "$dl_get") ≡ utf16_lossy_chars (codes "$dl_get")
unfolding chars utf16_chars
get_chars = refl

use_chars : chars (codes "$dl_use") ≡ utf16_lossy_chars (codes "$dl_use")
unfolding chars utf16_chars
use_chars = refl

pub eval_written : (p : Printer) → put p (chars (codes "eval")) ≡ written p (k.Name (codes "eval"))
unfolding written
eval_written p = ap (put p) eval_chars

pub get_written : (p : Printer) → put p (chars (codes "$dl_get")) ≡ written p (k.Name (codes "$dl_get"))
unfolding written
get_written p = ap (put p) get_chars

pub use_written : (p : Printer) → put p (chars (codes "$dl_use")) ≡ written p (k.Name (codes "$dl_use"))
unfolding written
use_written p = ap (put p) use_chars
