-- The formals of a function are told by their tokens.
use Rattle.std.proofs.Common.{◌≡◌, List, [], ◌∷◌, refl, ap, sym, ◌∙◌}
use Rattle.js_lexer.specs.declared.token.TokenKind.{TokenKind}
use Rattle.js_lexer.specs.declared.token.TokenKind.TheVariants as k
use Rattle.js_tree.specs.Tree.{Name}
use Rattle.js_parser.specs.declared.form.Form.{Form}
use Rattle.js_parser.specs.Symbols.{Symbols}
use Rattle.js_parser.specs.Grammar.{Formals}
use Rattle.js_parser.specs.Grammar as g

abbrev named : TokenKind → List Name → List Name
named (k.Name n) ns = n ∷ ns
named _ ns = ns

-- the names among tokens
abbrev names_of : Symbols → List Name
names_of [] = []
names_of (s ∷ ss) = named s.kind (names_of ss)

they_are : {form : Form} {u : Symbols} {ns : List Name} → Formals form u ns → names_of u ≡ ns
they_are g.no_formal = refl
they_are (g.last_formal b h) = refl
they_are (g.formal_and {n = n} b c h d) = ap (λ ns. n ∷ ns) (they_are d)

pub one_list : {form : Form} {u : Symbols} {ns others : List Name} → Formals form u ns → Formals form u others → ns ≡ others
one_list d e = sym (they_are d) ∙ they_are e
