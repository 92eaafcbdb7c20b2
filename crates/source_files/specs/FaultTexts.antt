-- The texts that tell why a script is refused.
use Rattle.std.specs.Prelude.{ℕ, List, ◌++◌, codes}
use Rattle.std.specs.Fmt.{decimal}
use Rattle.dl_text.specs.declared.place.Place.{Place}
use Rattle.js_lexer.specs.FaultTexts.{kind_text, place_text}
use Rattle.js_parser.specs.declared.form.Construct.{Construct}
use Rattle.js_parser.specs.declared.form.Construct.TheVariants as c
use Rattle.source_files.specs.declared.fault.ScriptFault.{ScriptFault}
use Rattle.source_files.specs.declared.fault.ScriptFault.TheVariants as fault

-- the name of what is refused by a name of its own
abbrev pub construct_text : Construct → List ℕ
construct_text c.With = codes "With"
construct_text c.Debugger = codes "Debugger"
construct_text c.RegExp = codes "RegExp"
construct_text c.DlName = codes "DlName"
construct_text c.Eval = codes "Eval"
construct_text c.FunctionName = codes "FunctionName"
construct_text c.InfinityName = codes "InfinityName"
construct_text c.Arguments = codes "Arguments"
construct_text c.Callee = codes "Callee"
construct_text c.Caller = codes "Caller"
construct_text c.FunctionPlace = codes "FunctionPlace"
construct_text c.RepeatedFormal = codes "RepeatedFormal"

abbrev pub at_place : List ℕ → Place → List ℕ
at_place kind place = kind ++ (codes " at " ++ place_text place)

abbrev pub fault_text : ScriptFault → List ℕ
fault_text (fault.NotUtf8 n) = codes "NotUtf8 at byte " ++ decimal n
fault_text fault.TooLong = codes "TooLong"
fault_text (fault.Lexical place kind) = at_place (kind_text kind) place
fault_text (fault.Syntax place) = at_place (codes "Syntax") place
fault_text (fault.Construct place construct) = at_place (construct_text construct) place
fault_text (fault.TooDeep place) = at_place (codes "TooDeep") place
fault_text (fault.TooMany place) = at_place (codes "TooMany") place
