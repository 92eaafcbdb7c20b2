-- Source scripts, by the bytes of their files.
use Rattle.std.specs.Prelude.{ℕ, ◌≡◌, ◌≤◌, ◌<◌, List, length}
use Rattle.std.specs.Str.{IsUtf8, chars}
use Rattle.std.specs.Str.Lossy.{utf8_valid_len}
use Rattle.js_lexer.specs.declared.token.Token.{Token}
use Rattle.js_lexer.specs.Tokens.{IsTokens, IsLexFault}
use Rattle.js_parser.specs.declared.form.Form.TheVariants.{Source}
use Rattle.js_parser.specs.declared.form.Limits.{Limits}
use Rattle.js_parser.specs.Accepted.{Accepted}
use Rattle.js_parser.specs.Bounds.{source_functions, source_limits}
use Rattle.js_parser.specs.Fault as parser
use Rattle.js_parser.specs.Fault.{Answer}
use Rattle.js_parser.specs.Symbols.{symbols}
use Rattle.js_tree.specs.Tree.{Script}
use Rattle.source_files.specs.declared.fault.ScriptFault.{ScriptFault}
use Rattle.source_files.specs.declared.fault.ScriptFault.TheVariants.{NotUtf8, TooLong, Lexical, Syntax, Construct, TooDeep, TooMany}
use Rattle.source_files.specs.declared.room.SourceRoom.{SourceRoom}

-- the bytes of all scripts of a source together
abbrev pub most_source_bytes : ℕ
most_source_bytes = 8388608

-- what the first script of a source may take: all
abbrev pub whole_room : SourceRoom
whole_room = record { bytes = most_source_bytes; functions = source_functions }

abbrev pub limits : SourceRoom → Limits
limits room = source_limits room.functions

-- the bytes are a text, which is not too long
pub record Fits (room : SourceRoom) (bytes : List ℕ) : Type 0 where
  pub is_text : IsUtf8 bytes
  pub is_short : length bytes ≤ room.bytes

-- the bytes are a text that is cut into these tokens
pub record HasTokens (room : SourceRoom) (bytes : List ℕ) (tokens : List Token) : Type 0 where
  pub fits : Fits room bytes
  pub cut : IsTokens (chars bytes) tokens

-- the bytes are the text of an accepted script with this tree
pub record IsSource (room : SourceRoom) (bytes : List ℕ) (tree : Script) : Type 0 where
  pub tokens : List Token
  pub has : HasTokens room bytes tokens
  pub accepted : Accepted Source (limits room) (symbols tokens) tree

-- this may be told of the tokens of the bytes
pub record IsTold (room : SourceRoom) (bytes : List ℕ) (told : Answer) : Type 0 where
  pub tokens : List Token
  pub has : HasTokens room bytes tokens
  pub fault : parser.Fault Source (limits room) tokens told

-- Why bytes are no source script: that they are no text comes first, then that the text is too
-- long, then the first fault of its characters, then what may be told of its tokens.
abbrev pub IsRefused : SourceRoom → List ℕ → ScriptFault → Type 0
IsRefused room bytes (NotUtf8 n) = (¬ (IsUtf8 bytes)) × (n ≡ utf8_valid_len bytes)
IsRefused room bytes TooLong = IsUtf8 bytes × (room.bytes < length bytes)
IsRefused room bytes (Lexical place kind) =
    Fits room bytes × IsLexFault (chars bytes) place kind
IsRefused room bytes (Syntax place) = IsTold room bytes (parser.Syntax place)
IsRefused room bytes (Construct place construct) =
    IsTold room bytes (parser.Refused place construct)
IsRefused room bytes (TooDeep place) = IsTold room bytes (parser.TooDeep place)
IsRefused room bytes (TooMany place) = IsTold room bytes (parser.TooMany place)
