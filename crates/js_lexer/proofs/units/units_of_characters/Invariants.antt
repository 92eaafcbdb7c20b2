use Rattle.std.proofs.Common.{◌≡◌, take}
use Rattle.dl_text.specs.Utf16.{utf16}
use Rattle.js_lexer.proofs.units.units_of_characters.Given as goal

abbrev pub invariant-loop-character : goal.invariant-loop-character
invariant-loop-character l = l.units ≡ utf16 (take l.character-index l.characters)
