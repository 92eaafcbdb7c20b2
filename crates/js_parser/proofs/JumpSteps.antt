-- The steps of the machine at jumps, `return` and `throw`, by what the parser asks of the tokens.
use Rattle.std.proofs.Common.{◌≡◌, ◌||◌, Bool, true, false, List, [], ◌∷◌, Option, Some, None, sym, subst}
use Rattle.js_lexer.specs.declared.mark.Mark.TheVariants as m
use Rattle.js_lexer.specs.declared.token.TokenKind.{TokenKind}
use Rattle.js_lexer.specs.declared.token.TokenKind.TheVariants as k
use Rattle.js_tree.specs.Tree.{Name, Stmt}
use Rattle.js_tree.specs.Tree
use Rattle.js_parser.specs.declared.form.Form.{Form}
use Rattle.js_parser.specs.Symbols.{Symbols, behind}
use Rattle.js_parser.specs.Rooms.{Room}
use Rattle.js_parser.specs.Machine.{To, stuck, is_semicolon, is_close_brace, is_end, jump, returned, return_by, thrown, Goes, here}
use Rattle.js_parser.specs.Machine as rule
use Rattle.js_parser.specs.StatementKinds.{may_end, is_on_line, label_by, label_on_line, jump_to, no_label, jump_by, jump_target, return_value, throw_value}
use Rattle.js_parser.specs.Reads.{at}
use Rattle.js_parser.proofs.Runs.{allowed}
use Rattle.js_parser.proofs.StatementSteps.{turned_away}

pub with_label : {form : Form} (may : Bool) (names : List Name) (n : Name) (next : To (Option Name)) (ts : Symbols) → label_on_line ts ≡ Some n
    → Goes form (jump_target form may names next ts) (jump_to form names n next ts)
with_label {form = form} may names n next ts h = subst (λ label. Goes form (jump_by form may names label next ts) (jump_to form names n next ts)) (sym h) here

pub with_no_label : {form : Form} (may : Bool) (names : List Name) (next : To (Option Name)) (ts : Symbols) → label_on_line ts ≡ None
    → Goes form (jump_target form may names next ts) (no_label may next ts)
with_no_label {form = form} may names next ts h = subst (λ label. Goes form (jump_by form may names label next ts) (no_label may next ts)) (sym h) here

-- a jump is a target and the node that is made of it
pub jumps : {form : Form} (may : Bool) (names : List Name) (node : Option Name → Stmt) (next : To Stmt) (ts : Symbols)
    → Goes form (jump form may names node next ts) (jump_target form may names (λ label r. next (node label) r) ts)
jumps may names node next [] = here
jumps {form = form} may names node next (s ∷ ts) = by s.kind s.newline
  where
    by : (kind : TokenKind) (newline : Bool) → Goes form (rule.jump_by form kind newline may names node next s ts) (jump_by form may names (label_by kind newline) (λ label r. next (node label) r) (s ∷ ts))
    by (k.Name n) false = here
    by (k.Name n) true = here
    by _ newline = here

-- ---- `return`

pub returns_nothing : {form : Form} (room : Room) (next : To Stmt) (ts : Symbols) → may_end ts ≡ true
    → Goes form (returned room next ts) (next (Tree.Return Tree.NoExpr) ts)
returns_nothing room next [] h = here
returns_nothing {form = form} room next (s ∷ ts) h = by s.newline s.kind h
  where
    by : (newline : Bool) (kind : TokenKind) → (newline || (is_close_brace kind || is_end kind)) ≡ true → Goes form (return_by room newline kind next s ts) (next (Tree.Return Tree.NoExpr) (s ∷ ts))
    by true kind h = here
    by false (k.Mark m.CloseBrace) h = here
    by false k.End h = here
    by false _ h = cc

pub returns_at_semicolon : {form : Form} (room : Room) (next : To Stmt) (ts rest : Symbols) → may_end ts ≡ false → at is_semicolon ts ≡ true → rest ≡ behind ts
    → Goes form (returned room next ts) (next (Tree.Return Tree.NoExpr) rest)
returns_at_semicolon room next [] rest h i e = cc
returns_at_semicolon {form = form} room next (s ∷ ts) rest h i e = subst (λ r. Goes form (returned room next (s ∷ ts)) (next (Tree.Return Tree.NoExpr) r)) (sym e) (by s.newline s.kind h i)
  where
    by : (newline : Bool) (kind : TokenKind) → (newline || (is_close_brace kind || is_end kind)) ≡ false → is_semicolon kind ≡ true → Goes form (return_by room newline kind next s ts) (next (Tree.Return Tree.NoExpr) ts)
    by true kind h i = cc
    by false (k.Mark m.Semicolon) h i = here
    by false _ h i = cc

pub returns_value : {form : Form} (room : Room) (next : To Stmt) (ts : Symbols) → may_end ts ≡ false → at is_semicolon ts ≡ false
    → Goes form (returned room next ts) (return_value room next ts)
returns_value room next [] h i = cc
returns_value {form = form} room next (s ∷ ts) h i = by s.newline s.kind h i
  where
    by : (newline : Bool) (kind : TokenKind) → (newline || (is_close_brace kind || is_end kind)) ≡ false → is_semicolon kind ≡ false → Goes form (return_by room newline kind next s ts) (return_value room next (s ∷ ts))
    by true kind h i = cc
    by false (k.Mark m.Semicolon) h i = cc
    by false (k.Mark m.CloseBrace) h i = cc
    by false k.End h i = cc
    by false _ h i = here

-- ---- `throw`

pub throws : {form : Form} (room : Room) (next : To Stmt) (ts : Symbols) → is_on_line ts ≡ true → Goes form (thrown room next ts) (throw_value room next ts)
throws room next [] h = cc
throws room next (s ∷ ts) h = allowed (s ∷ ts) h here

pub throws_nothing : {form : Form} (room : Room) (next : To Stmt) (ts : Symbols) → is_on_line ts ≡ false → Goes form (thrown room next ts) (stuck ts)
throws_nothing room next [] h = here
throws_nothing room next (s ∷ ts) h = turned_away _ (s ∷ ts) h
