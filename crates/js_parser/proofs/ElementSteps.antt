-- The steps of the machine at statements and declarations, by what the parser asks of the tokens.
use Rattle.std.proofs.Common.{◌≡◌, ◌<◌, true, false, [], ◌∷◌, length, Some, refl, sym, subst, arith}
use Rattle.js_lexer.specs.declared.word.Word.TheVariants as w
use Rattle.js_lexer.specs.declared.token.TokenKind.{TokenKind}
use Rattle.js_lexer.specs.declared.token.TokenKind.TheVariants as k
use Rattle.js_tree.specs.Tree.{Stmt}
use Rattle.js_tree.specs.Tree
use Rattle.js_parser.specs.declared.form.Form.{Form}
use Rattle.js_parser.specs.Symbols.{Symbols, behind}
use Rattle.js_parser.specs.Contexts.{Context}
use Rattle.js_parser.specs.Rooms.{Room, in_function}
use Rattle.js_parser.specs.Machine.{State, To, statement, Goes, here}
use Rattle.js_parser.specs.Elements.{declaration, declaration_by, declared_function, element, element_by}
use Rattle.js_parser.specs.Pieces.{function_rule}
use Rattle.js_parser.specs.StatementPieces.{binding, binding_by, is_function}
use Rattle.js_parser.specs.Reads.{at}

-- a declaration is a name, and a function of this name
pub declaration_is : (form : Form) (room : Room) (next : To Stmt) (ts : Symbols) → binding form (λ n. function_rule (Some n) (in_function room) (λ f r. next (Tree.Declare f) r)) ts ≡ declaration form room next ts
declaration_is form room next [] = refl
declaration_is form room next (s ∷ ts) = by s.kind
  where
    by : (kind : TokenKind) → binding_by form kind (λ n. function_rule (Some n) (in_function room) (λ f r. next (Tree.Declare f) r)) s ts ≡ declaration_by form room kind next s ts
    by (k.Name n) = refl
    by _ = refl

pub by_name : {form : Form} {t : State} (room : Room) (next : To Stmt) (ts : Symbols) → Goes form (binding form (λ n. function_rule (Some n) (in_function room) (λ f r. next (Tree.Declare f) r)) ts) t
    → Goes form (declaration form room next ts) t
by_name {form = form} {t = t} room next ts d = subst (λ s. Goes form s t) (declaration_is form room next ts) d

pub at_a_function : {form : Form} (room : Room) (c : Context) (next : To Stmt) (ts rest : Symbols) → at is_function ts ≡ true → rest ≡ behind ts
    → Goes form (element form room c next ts) (declared_function form room next rest)
at_a_function room c next [] rest h e = cc
at_a_function {form = form} room c next (s ∷ ts) rest h e =
    subst (λ t. Goes form t (declared_function form room next rest)) (sym (by s.kind h))
    (subst (λ r. Goes form (declared_function form room next ts) (declared_function form room next r)) (sym e) here)
  where
    by : (kind : TokenKind) → is_function kind ≡ true → element_by form room c kind next s ts ≡ declared_function form room next ts
    by (k.Word w.Function) h = refl
    by _ h = cc

pub at_a_statement : {form : Form} (room : Room) (c : Context) (next : To Stmt) (ts : Symbols) → at is_function ts ≡ false → 0 < length ts → Goes form (element form room c next ts) (statement room c next ts)
at_a_statement room c next [] h some = absurd (omega (arith, some))
at_a_statement {form = form} room c next (s ∷ ts) h some = subst (λ t. Goes form t (statement room c next (s ∷ ts))) (sym (by s.kind h)) here
  where
    by : (kind : TokenKind) → is_function kind ≡ false → element_by form room c kind next s ts ≡ statement room c next (s ∷ ts)
    by (k.Word w.Function) h = cc
    by _ h = refl
