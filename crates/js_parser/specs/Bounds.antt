-- The bounds of scripts.
use Rattle.std.specs.Prelude.{ℕ}
use Rattle.js_tree.specs.Numbering.{last_function_number}
use Rattle.js_parser.specs.declared.form.Limits.{Limits}

-- the functions of all scripts of a source: each has a number
abbrev pub source_functions : ℕ
source_functions = last_function_number

-- the functions of a script file or an entry of a site
abbrev pub written_functions : ℕ
written_functions = 196605

-- the limits of a source script, where so many functions are left for it
abbrev pub source_limits : ℕ → Limits
source_limits functions = record {
  depth = 400;
  nesting = 64;
  brackets = 400;
  functions = functions;
}

-- of the first script of a source, for which all are left
abbrev pub in_source : Limits
in_source = source_limits source_functions

-- of a text of a site
abbrev pub in_site : Limits
in_site = record { depth = 800; nesting = 66; brackets = 800; functions = written_functions }
