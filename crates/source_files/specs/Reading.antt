-- What the calls that read a script answer.
use Rattle.std.specs.Prelude.{◌≡◌, ◌⊎◌, ℕ, List, Option, Some, None, Result, Ok, Err}
use Rattle.dl_ports.specs.Files.{Files, and_name}
use Rattle.dl_ports.specs.Stores.{AskedNames}
use Rattle.dl_ports.specs.declared.port.PortError.{PortError}
use Rattle.dl_ports.specs.declared.port.PortError.TheVariants as port
use Rattle.js_lexer.specs.declared.token.LexError.{LexError}
use Rattle.js_lexer.specs.declared.token.LexError.TheVariants as lexer
use Rattle.js_parser.specs.declared.error.ParseError.{ParseError}
use Rattle.js_parser.specs.declared.error.ParseError.TheVariants as parser
use Rattle.js_tree.specs.Tree as tree
use Rattle.js_tree.specs.Plain as plain
use Rattle.js_tree.specs.declared.tree.Script.{Script}
use Rattle.source_files.specs.declared.fault.SourceError.{SourceError}
use Rattle.source_files.specs.declared.fault.SourceError.TheVariants.{ReadFault, Missing, Refused, OutOfMemory}
use Rattle.source_files.specs.declared.fault.ScriptFault.TheVariants as fault
use Rattle.source_files.specs.declared.room.SourceRoom.{SourceRoom}
use Rattle.source_files.specs.Sources.{IsSource, IsRefused}

-- what becomes of the errors below
abbrev pub error_of : PortError → SourceError
error_of port.Failed = ReadFault
error_of port.OutOfMemory = OutOfMemory

abbrev pub lexical : LexError → SourceError
lexical (lexer.Lexical place kind) = Refused (fault.Lexical place kind)
lexical lexer.OutOfMemory = OutOfMemory

abbrev pub parsed : ParseError → SourceError
parsed (parser.Syntax place) = Refused (fault.Syntax place)
parsed (parser.Construct place construct) = Refused (fault.Construct place construct)
parsed (parser.TooDeep place) = Refused (fault.TooDeep place)
parsed (parser.TooMany place) = Refused (fault.TooMany place)
parsed parser.OutOfMemory = OutOfMemory

-- the bytes give no tree for this cause
abbrev pub GivesNone : SourceRoom → List ℕ → SourceError → Type 0
GivesNone room bytes (Refused fault) = IsRefused room bytes fault
GivesNone room bytes OutOfMemory = Unit {0}
GivesNone room bytes ReadFault = ⊥
GivesNone room bytes Missing = ⊥

-- the tree of the script that the bytes are the text of, or why they are none's
abbrev pub Gives : SourceRoom → List ℕ → Result Script SourceError → Type 0
Gives room bytes (Ok script) = IsSource room bytes (plain.script script)
Gives room bytes (Err error) = GivesNone room bytes error

-- this tree, but for want of memory
abbrev pub IsTree : tree.Script → Result Script SourceError → Type 0
IsTree tree (Ok script) = plain.script script ≡ tree
IsTree tree (Err error) = error ≡ OutOfMemory

-- the file of this name has bytes that give this
pub record OfFile (files : Files) (name : List ℕ) (Is : List ℕ → Type 0) : Type 0 where
  pub bytes : List ℕ
  pub found : files name ≡ Some bytes
  pub is : Is bytes

-- why there is no tree of the file of this name, and whether the name was asked
abbrev pub FileGivesNone
    : Files → List ℕ → SourceRoom → AskedNames → AskedNames → SourceError → Type 0
FileGivesNone files name room before now ReadFault = now ≡ and_name before name
FileGivesNone files name room before now Missing =
    (files name ≡ None) × (now ≡ and_name before name)
FileGivesNone files name room before now (Refused fault) =
    OfFile files name (λ bytes. IsRefused room bytes fault) × (now ≡ and_name before name)
FileGivesNone files name room before now OutOfMemory =
    (now ≡ before) ⊎ (now ≡ and_name before name)

-- the tree of the script in the file of this name, or why there is none
abbrev pub FileGives
    : Files → List ℕ → SourceRoom → AskedNames → AskedNames → Result Script SourceError → Type 0
FileGives files name room before now (Ok script) =
    OfFile files name (λ bytes. IsSource room bytes (plain.script script))
    × (now ≡ and_name before name)
FileGives files name room before now (Err error) = FileGivesNone files name room before now error
