-- The steps of the machine at loops, by what the parser asks of the tokens.
use Rattle.std.proofs.Common.{◌≡◌, true, false, [], ◌∷◌, sym, subst}
use Rattle.js_lexer.specs.declared.mark.Mark.TheVariants as m
use Rattle.js_lexer.specs.declared.word.Word.TheVariants as w
use Rattle.js_lexer.specs.declared.token.TokenKind.{TokenKind}
use Rattle.js_lexer.specs.declared.token.TokenKind.TheVariants as k
use Rattle.js_tree.specs.Plain.{VarPart}
use Rattle.js_tree.specs.Tree.{Expr}
use Rattle.js_tree.specs.Tree
use Rattle.js_parser.specs.declared.form.Form.{Form}
use Rattle.js_parser.specs.Symbols.{Symbols, behind}
use Rattle.js_parser.specs.Contexts.{Context}
use Rattle.js_parser.specs.Contexts as context
use Rattle.js_parser.specs.Marks.{is_comma, is_in, is_var}
use Rattle.js_parser.specs.Operators.{is_target}
use Rattle.js_parser.specs.Rooms.{Room}
use Rattle.js_parser.specs.Machine.{To, stuck, is_semicolon, for_by, for_var_by, for_expression_by, Goes, here}
use Rattle.js_parser.specs.StatementKinds.{loop_of, and_more, a_var, for_in, for_parts, more_variables, for_var, for_variables, for_expression, for_first, for_header}
use Rattle.js_parser.specs.Pieces.{are_over}
use Rattle.js_parser.specs.Reads.{at}
use Rattle.js_parser.proofs.Runs.{allowed}
use Rattle.js_parser.proofs.StatementSteps.{turned_away}

-- ---- behind a declarator

pub in_of_variable : {form : Form} (v : VarPart) (room : Room) (c : Context) (next : To Tree.Stmt) (ts rest : Symbols) → at is_in ts ≡ true → rest ≡ behind ts
    → Goes form (for_var v room c next ts) (for_in (a_var v) room c next rest)
in_of_variable v room c next [] rest h e = cc
in_of_variable {form = form} v room c next (s ∷ ts) rest h e = subst (λ r. Goes form (for_var v room c next (s ∷ ts)) (for_in (a_var v) room c next r)) (sym e) (by s.kind h)
  where
    by : (kind : TokenKind) → is_in kind ≡ true → Goes form (for_var_by room (context.loop c) kind v.name v.value next s ts) (for_in (a_var v) room c next ts)
    by (k.Word w.In) h = here
    by _ h = cc

pub comma_of_variable : {form : Form} (v : VarPart) (room : Room) (c : Context) (next : To Tree.Stmt) (ts rest : Symbols) → at is_comma ts ≡ true → rest ≡ behind ts
    → Goes form (for_var v room c next ts) (more_variables v room c next rest)
comma_of_variable v room c next [] rest h e = cc
comma_of_variable {form = form} v room c next (s ∷ ts) rest h e = subst (λ r. Goes form (for_var v room c next (s ∷ ts)) (more_variables v room c next r)) (sym e) (by s.kind h)
  where
    by : (kind : TokenKind) → is_comma kind ≡ true → Goes form (for_var_by room (context.loop c) kind v.name v.value next s ts) (more_variables v room c next ts)
    by (k.Mark m.Comma) h = here
    by _ h = cc

pub rest_of_variable : {form : Form} (v : VarPart) (room : Room) (c : Context) (next : To Tree.Stmt) (ts : Symbols) → at is_in ts ≡ false → at is_comma ts ≡ false
    → Goes form (for_var v room c next ts) (for_parts room c (λ rest r. next (loop_of (and_more v Tree.NoVarItems) rest) r) ts)
rest_of_variable v room c next [] h i = here
rest_of_variable {form = form} v room c next (s ∷ ts) h i = by s.kind h i
  where
    by : (kind : TokenKind) → is_in kind ≡ false → is_comma kind ≡ false → Goes form (for_var_by room (context.loop c) kind v.name v.value next s ts) (for_parts room c (λ rest r. next (loop_of (and_more v Tree.NoVarItems) rest) r) (s ∷ ts))
    by (k.Word w.In) h i = cc
    by (k.Mark m.Comma) h i = cc
    by _ h i = here

-- ---- behind an expression

pub in_of_target : {form : Form} (x : Expr) (room : Room) (c : Context) (next : To Tree.Stmt) (ts rest : Symbols) → at is_in ts ≡ true → is_target x ≡ true → rest ≡ behind ts
    → Goes form (for_expression x room c next ts) (for_in (Tree.Target x) room c next rest)
in_of_target x room c next [] rest h i e = cc
in_of_target {form = form} x room c next (s ∷ ts) rest h i e = subst (λ r. Goes form (for_expression x room c next (s ∷ ts)) (for_in (Tree.Target x) room c next r)) (sym e) (by s.kind h)
  where
    by : (kind : TokenKind) → is_in kind ≡ true → Goes form (for_expression_by room (context.loop c) kind x next s ts) (for_in (Tree.Target x) room c next ts)
    by (k.Word w.In) h = allowed (s ∷ ts) i here
    by _ h = cc

pub in_of_no_target : {form : Form} (x : Expr) (room : Room) (c : Context) (next : To Tree.Stmt) (ts : Symbols) → at is_in ts ≡ true → is_target x ≡ false
    → Goes form (for_expression x room c next ts) (stuck ts)
in_of_no_target x room c next [] h i = cc
in_of_no_target {form = form} x room c next (s ∷ ts) h i = by s.kind h
  where
    by : (kind : TokenKind) → is_in kind ≡ true → Goes form (for_expression_by room (context.loop c) kind x next s ts) (stuck (s ∷ ts))
    by (k.Word w.In) h = turned_away _ (s ∷ ts) i
    by _ h = cc

pub rest_of_first : {form : Form} (x : Expr) (room : Room) (c : Context) (next : To Tree.Stmt) (ts : Symbols) → at is_in ts ≡ false
    → Goes form (for_expression x room c next ts) (for_parts room c (λ rest r. next (loop_of (Tree.First x) rest) r) ts)
rest_of_first x room c next [] h = here
rest_of_first {form = form} x room c next (s ∷ ts) h = by s.kind h
  where
    by : (kind : TokenKind) → is_in kind ≡ false → Goes form (for_expression_by room (context.loop c) kind x next s ts) (for_parts room c (λ rest r. next (loop_of (Tree.First x) rest) r) (s ∷ ts))
    by (k.Word w.In) h = cc
    by _ h = here

-- ---- the first part

pub no_header : {form : Form} (room : Room) (c : Context) (next : To Tree.Stmt) (ts : Symbols) → are_over ts ≡ true → Goes form (for_header room c next ts) (stuck ts)
no_header room c next [] h = here
no_header room c next (s ∷ ts) h = cc

pub header_of_variables : {form : Form} (room : Room) (c : Context) (next : To Tree.Stmt) (ts rest : Symbols) → at is_var ts ≡ true → rest ≡ behind ts
    → Goes form (for_header room c next ts) (for_variables room c next rest)
header_of_variables room c next [] rest h e = cc
header_of_variables {form = form} room c next (s ∷ ts) rest h e = subst (λ r. Goes form (for_header room c next (s ∷ ts)) (for_variables room c next r)) (sym e) (by s.kind h)
  where
    by : (kind : TokenKind) → is_var kind ≡ true → Goes form (for_by room (context.loop c) kind next s ts) (for_variables room c next ts)
    by (k.Word w.Var) h = here
    by _ h = cc

pub header_of_nothing : {form : Form} (room : Room) (c : Context) (next : To Tree.Stmt) (ts : Symbols) → at is_semicolon ts ≡ true
    → Goes form (for_header room c next ts) (for_parts room c (λ rest r. next (loop_of Tree.Nothing rest) r) ts)
header_of_nothing room c next [] h = cc
header_of_nothing {form = form} room c next (s ∷ ts) h = by s.kind h
  where
    by : (kind : TokenKind) → is_semicolon kind ≡ true → Goes form (for_by room (context.loop c) kind next s ts) (for_parts room c (λ rest r. next (loop_of Tree.Nothing rest) r) (s ∷ ts))
    by (k.Mark m.Semicolon) h = here
    by _ h = cc

pub header_of_first : {form : Form} (room : Room) (c : Context) (next : To Tree.Stmt) (ts : Symbols) → are_over ts ≡ false → at is_var ts ≡ false → at is_semicolon ts ≡ false
    → Goes form (for_header room c next ts) (for_first room c next ts)
header_of_first room c next [] g h i = cc
header_of_first {form = form} room c next (s ∷ ts) g h i = by s.kind h i
  where
    by : (kind : TokenKind) → is_var kind ≡ false → is_semicolon kind ≡ false → Goes form (for_by room (context.loop c) kind next s ts) (for_first room c next (s ∷ ts))
    by (k.Word w.Var) h i = cc
    by (k.Mark m.Semicolon) h i = cc
    by _ h i = here
