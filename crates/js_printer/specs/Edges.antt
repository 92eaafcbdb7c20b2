-- What the rule of spaces asks of the ends of a token.
use Rattle.std.specs.Prelude.{ℕ, ◌==◌, Bool, false, ◌||◌, ◌&&◌, List, codes}
use Rattle.js_lexer.specs.Characters.{begins, first_is, continues_name}
use Rattle.js_lexer.specs.Words.{is_spelled}
use Rattle.js_printer.specs.declared.edge.Edge.{Edge}
use Rattle.js_printer.specs.PrintedText.{last_is}

-- of a token that other tokens stand before
abbrev pub front : List ℕ → Edge
front characters = record {
  continues = first_is continues_name characters;
  plus = begins (codes "+") characters;
  minus = begins (codes "-") characters;
}

-- of a token that others stand behind
abbrev pub back : List ℕ → Edge
back characters = record {
  continues = last_is continues_name characters;
  plus = is_spelled (codes "+") characters;
  minus = is_spelled (codes "-") characters;
}

-- of a token that this character begins or ends, and that is no other character or has more
abbrev pub at_character : ℕ → Bool → Edge
at_character c is_alone = record {
  continues = continues_name c;
  plus = is_alone && (c == 43);
  minus = is_alone && (c == 45);
}

-- of no token
abbrev pub nothing : Edge
nothing = record { continues = false; plus = false; minus = false }

-- a space stands between
abbrev pub meet : Edge → Edge → Bool
meet before after =
    (before.continues && after.continues)
    || ((before.plus && after.plus) || (before.minus && after.minus))
