-- What a printer holds once more tokens are written.
use Rattle.std.specs.Prelude.{ℕ, List, [], ◌∷◌, ◌++◌, encode_utf8_all}
use Rattle.js_lexer.specs.declared.token.TokenKind.{TokenKind}
use Rattle.js_printer.specs.declared.writer.Printer.{Printer}
use Rattle.js_printer.specs.Edges.{front, back, meet}
use Rattle.js_printer.specs.Printed.{Kinds}
use Rattle.js_printer.specs.PrintedText.{spelled, space}

-- one more token, of these characters
unfoldable pub put : Printer → List ℕ → Printer
put printer characters = record printer {
  text =
      printer.text ++ (space (meet printer.last (front characters)) ++ encode_utf8_all characters);
  last = back characters;
}

unfoldable pub written : Printer → TokenKind → Printer
written printer kind = put printer (spelled kind)

abbrev pub all_written : Printer → Kinds → Printer
all_written printer [] = printer
all_written printer (kind ∷ kinds) = all_written (written printer kind) kinds
