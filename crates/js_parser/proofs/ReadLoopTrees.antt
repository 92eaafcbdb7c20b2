-- What the machine reads has a tree by the grammar: `if` and the loops.
use Rattle.std.proofs.Common.{◌≡◌, ◌≢◌, ℕ, Bool, true, false, [], ◌∷◌, ◌++◌, refl, ap, subst}
use Rattle.js_lexer.specs.declared.mark.Mark.TheVariants as m
use Rattle.js_lexer.specs.declared.word.Word.TheVariants as w
use Rattle.js_lexer.specs.declared.token.TokenKind.{TokenKind}
use Rattle.js_lexer.specs.declared.token.TokenKind.TheVariants as k
use Rattle.js_tree.specs.Tree.{Name, Expr, MaybeExpr, Stmt, Stmts, ForInit, ForTarget}
use Rattle.js_tree.specs.Tree
use Rattle.js_parser.specs.declared.form.Form.{Form}
use Rattle.js_parser.specs.Symbols.{Symbol, Symbols, are_regular, word, mark}
use Rattle.js_parser.specs.Operators.{is_target}
use Rattle.js_parser.specs.Contexts.{Context}
use Rattle.js_parser.specs.Contexts as context
use Rattle.js_tree.specs.Heights.{stmt_height, for_init_height, for_target_height}
use Rattle.js_tree.specs.Depth.{by_nodes, by_functions}
use Rattle.js_parser.specs.Grammar.{Expression, ForFirst, Statement}
use Rattle.js_parser.specs.Grammar as g
use Rattle.js_parser.specs.Rooms.{Room, inside, fits_node}
use Rattle.js_parser.specs.Machine.{State, comma, optional, statement, To, expect, is_open_parenthesis, is_close_parenthesis, is_semicolon, is_while, ended, if_by, after_if, for_rest, for_var_by, for_var, for_expression_by, for_expression, for_by, for_header, statement_by}
use Rattle.js_parser.proofs.Levels.{raise}
use Rattle.js_parser.proofs.ReadTrees.{IsDone, never, guarded, fitted, regular-rest, known, Parts, unread, ahead, behind, met, front, Within, both-in, nothing-in, node-in, Fits, Derived, Read, ReadDeclarator, ReadStatement, Sound}
use Rattle.js_parser.proofs.ReadKinds.{told-open, told-close, told-semicolon, told-while}
use Rattle.js_parser.proofs.ReadExpressionTrees.{become}
use Rattle.js_parser.proofs.ReadEndTrees.{end-read}

-- ---- `if`

-- an expression in parentheses, and what stands before them
pub record Tested (form : Form) (tree : Stmts) (n : ℕ) (room : Room) (next : Expr → Symbols → State) (ts : Symbols) : Type 0 where
  pub opening : Bool
  pub used : Symbols
  pub value : Expr
  pub closing : Bool
  pub left : Symbols
  pub glue : {v others : Symbols} → Parts left v others → Parts ts (mark m.OpenParenthesis opening ∷ (used ++ (mark m.CloseParenthesis closing ∷ v))) others
  pub regular : are_regular left ≡ true
  pub is : Expression form true 1 used value
  pub fit : Fits room value
  pub goes : IsDone form tree n (next value left)

pub test-read : {form : Form} {tree : Stmts} {n : ℕ} → Sound form tree n → (room : Room) (next : Expr → Symbols → State) (ts : Symbols) → are_regular ts ≡ true
    → IsDone form tree n (expect is_open_parenthesis (comma room true (λ x. expect is_close_parenthesis (next x))) ts) → Tested form tree n room next ts
test-read S room next ts r h =
    let open1 = met is_open_parenthesis (k.Mark m.OpenParenthesis) told-open refl (comma room true (λ x. expect is_close_parenthesis (next x))) ts r h in
    let x = S.commas true room (λ x. expect is_close_parenthesis (next x)) open1.others open1.regular open1.goes in
    let close = met is_close_parenthesis (k.Mark m.CloseParenthesis) told-close refl (next x.value) x.left x.regular x.goes in
    record {
      opening = open1.newline;
      used = x.used;
      value = x.value;
      closing = close.newline;
      left = close.others;
      glue = λ p. ahead open1.is (behind x.whole (ahead close.is p));
      regular = close.regular;
      is = x.holds.is;
      fit = x.holds.fit;
      goes = close.goes;
    }

data ElseCase (kind : TokenKind) : Type 0 where
  else_next : kind ≡ k.Word w.Else → ElseCase kind
  no_else : kind ≢ k.Word w.Else → ((room : Room) (c : Context) (x : Expr) (body : Stmt) (next : To Stmt) (s : Symbol) (ts : Symbols) → if_by room c kind x body next s ts ≡ next (Tree.If x body Tree.NoStmt) (s ∷ ts)) → ElseCase kind

else-case : (kind : TokenKind) → ElseCase kind
else-case (k.Word w.Else) = else_next refl
else-case _ = no_else (λ e. cc) (λ room c x body next s ts. refl)

if-behind : {form : Form} {tree : Stmts} {n : ℕ} → Sound form tree n → (room : Room) (c : Context) (x : Expr) (body : Stmt) (next : To Stmt) (ts middle whole u v : Symbols) (b d e : Bool)
    → ((v others : Symbols) → Parts middle v others → Parts whole (word w.If b ∷ (mark m.OpenParenthesis d ∷ (u ++ (mark m.CloseParenthesis e ∷ v)))) others) → Parts middle v ts → are_regular ts ≡ true → fits_node room ≡ true → Expression form true 1 u x
    → Fits (inside room) x → ReadStatement form (inside room) (context.part c) v ts body → IsDone form tree n (after_if room c x body next ts) → Read form tree n (ReadStatement form room c) next whole
if-behind {form = form} {tree = tree} {n = n} S room c x body next ts middle whole u v b d e glue parts r f dx fit s h = go ts parts r s h
  where
    short : (ts : Symbols) → Parts middle v ts → are_regular ts ≡ true → ReadStatement form (inside room) (context.part c) v ts body → (front ts).kind ≢ k.Word w.Else
        → IsDone form tree n (next (Tree.If x body Tree.NoStmt) ts) → Read form tree n (ReadStatement form room c) next whole
    short ts parts r s other h = record {
      used = word w.If b ∷ (mark m.OpenParenthesis d ∷ (u ++ (mark m.CloseParenthesis e ∷ v)));
      left = ts;
      value = Tree.If x body Tree.NoStmt;
      whole = glue _ _ parts;
      regular = r;
      holds = record { is = g.if b d e dx s.is other; fit = node-in f (both-in fit (both-in s.fit (nothing-in (inside room)))) };
      goes = h;
    }

    long : (t : Symbol) (ts : Symbols) → Parts middle v (t ∷ ts) → are_regular (t ∷ ts) ≡ true → ReadStatement form (inside room) (context.part c) v (t ∷ ts) body → t.kind ≡ k.Word w.Else
        → IsDone form tree n (if_by room c (k.Word w.Else) x body next t ts) → Read form tree n (ReadStatement form room c) next whole
    long t ts parts r s is h =
        let o = S.statements (inside room) (context.part c) (λ other r. next (Tree.If x body (Tree.AStmt other)) r) ts (regular-rest t ts r) h in
        let same = known t ts (k.Word w.Else) refl is r in
        record {
          used = word w.If b ∷ (mark m.OpenParenthesis d ∷ (u ++ (mark m.CloseParenthesis e ∷ (v ++ (word w.Else t.newline ∷ o.used)))));
          left = o.left;
          value = Tree.If x body (Tree.AStmt o.value);
          whole = glue _ _ (behind parts (ahead same o.whole));
          regular = o.regular;
          holds = record {
            is = g.if_else b d e t.newline dx (subst (λ t. Statement form (context.part c) v t body) (ap front same) s.is) o.holds.is;
            fit = node-in f (both-in fit (both-in s.fit o.holds.fit));
          };
          goes = o.goes;
        }

    at : (t : Symbol) (ts : Symbols) → ElseCase t.kind → Parts middle v (t ∷ ts) → are_regular (t ∷ ts) ≡ true → ReadStatement form (inside room) (context.part c) v (t ∷ ts) body
        → IsDone form tree n (if_by room c t.kind x body next t ts) → Read form tree n (ReadStatement form room c) next whole
    at t ts (else_next is) parts r s h = long t ts parts r s is (become (ap (λ kind. if_by room c kind x body next t ts) is) h)
    at t ts (no_else other passes) parts r s h = short (t ∷ ts) parts r s other (become (passes room c x body next t ts) h)

    go : (ts : Symbols) → Parts middle v ts → are_regular ts ≡ true → ReadStatement form (inside room) (context.part c) v ts body → IsDone form tree n (after_if room c x body next ts) → Read form tree n (ReadStatement form room c) next whole
    go [] parts r s h = short [] parts r s (λ e. cc) h
    go (t ∷ ts) parts r s h = at t ts (else-case t.kind) parts r s h

pub if-read : {form : Form} {tree : Stmts} {n : ℕ} → Sound form tree n → (room : Room) (c : Context) (next : To Stmt) (s : Symbol) (ts : Symbols) → are_regular (s ∷ ts) ≡ true → s.kind ≡ k.Word w.If
    → IsDone form tree n (statement_by form room c (k.Word w.If) next s ts) → Read form tree n (ReadStatement form room c) next (s ∷ ts)
if-read S room c next s ts r e h =
    let f = fitted (fits_node room) ts (expect is_open_parenthesis (comma (inside room) true (λ x. expect is_close_parenthesis (statement (inside room) (context.part c) (λ body r. after_if room c x body next r)))) ts) h in
    let x = test-read S (inside room) (λ x. statement (inside room) (context.part c) (λ body r. after_if room c x body next r)) ts (regular-rest s ts r) f.1 in
    let body = S.statements (inside room) (context.part c) (λ body r. after_if room c x.value body next r) x.left x.regular x.goes in
    if-behind S room c x.value body.value next body.left x.left (s ∷ ts) x.used body.used s.newline x.opening x.closing (λ v others p. ahead (known s ts (k.Word w.If) refl e r) (x.glue p)) body.whole body.regular f.0 x.is x.fit body.holds body.goes

-- ---- `do` and `while`

pub do-read : {form : Form} {tree : Stmts} {n : ℕ} → Sound form tree n → (room : Room) (c : Context) (next : To Stmt) (s : Symbol) (ts : Symbols) → are_regular (s ∷ ts) ≡ true → s.kind ≡ k.Word w.Do
    → IsDone form tree n (statement_by form room c (k.Word w.Do) next s ts) → Read form tree n (ReadStatement form room c) next (s ∷ ts)
do-read {form = form} S room c next s ts r e h =
    let f = fitted (fits_node room) ts (statement (inside room) (context.loop c) (λ body. expect is_while (expect is_open_parenthesis (comma (inside room) true (λ x. expect is_close_parenthesis (ended (next (Tree.DoWhile body x))))))) ts) h in
    let body = S.statements (inside room) (context.loop c) (λ body. expect is_while (expect is_open_parenthesis (comma (inside room) true (λ x. expect is_close_parenthesis (ended (next (Tree.DoWhile body x))))))) ts (regular-rest s ts r) f.1 in
    let again = met is_while (k.Word w.While) told-while refl (expect is_open_parenthesis (comma (inside room) true (λ x. expect is_close_parenthesis (ended (next (Tree.DoWhile body.value x)))))) body.left body.regular body.goes in
    let x = test-read S (inside room) (λ x. ended (next (Tree.DoWhile body.value x))) again.others again.regular again.goes in
    let o = end-read (λ t. 0) (next (Tree.DoWhile body.value x.value)) x.left x.regular (λ newline. refl) x.goes in
    record {
      used = word w.Do s.newline ∷ (body.used ++ (word w.While again.newline ∷ (mark m.OpenParenthesis x.opening ∷ (x.used ++ (mark m.CloseParenthesis x.closing ∷ o.used)))));
      left = o.left;
      value = Tree.DoWhile body.value x.value;
      whole = ahead (known s ts (k.Word w.Do) refl e r) (behind body.whole (ahead again.is (x.glue o.whole)));
      regular = o.regular;
      holds = record {
        is = g.do_while s.newline again.newline x.opening x.closing (subst (λ t. Statement form (context.loop c) body.used t body.value) (ap front again.is) body.holds.is) x.is o.ends;
        fit = node-in f.0 (both-in body.holds.fit x.fit);
      };
      goes = o.goes;
    }

pub while-read : {form : Form} {tree : Stmts} {n : ℕ} → Sound form tree n → (room : Room) (c : Context) (next : To Stmt) (s : Symbol) (ts : Symbols) → are_regular (s ∷ ts) ≡ true → s.kind ≡ k.Word w.While
    → IsDone form tree n (statement_by form room c (k.Word w.While) next s ts) → Read form tree n (ReadStatement form room c) next (s ∷ ts)
while-read S room c next s ts r e h =
    let f = fitted (fits_node room) ts (expect is_open_parenthesis (comma (inside room) true (λ x. expect is_close_parenthesis (statement (inside room) (context.loop c) (λ body r. next (Tree.While x body) r)))) ts) h in
    let x = test-read S (inside room) (λ x. statement (inside room) (context.loop c) (λ body r. next (Tree.While x body) r)) ts (regular-rest s ts r) f.1 in
    let body = S.statements (inside room) (context.loop c) (λ body r. next (Tree.While x.value body) r) x.left x.regular x.goes in
    record {
      used = word w.While s.newline ∷ (mark m.OpenParenthesis x.opening ∷ (x.used ++ (mark m.CloseParenthesis x.closing ∷ body.used)));
      left = body.left;
      value = Tree.While x.value body.value;
      whole = ahead (known s ts (k.Word w.While) refl e r) (x.glue body.whole);
      regular = body.regular;
      holds = record { is = g.while s.newline x.opening x.closing x.is body.holds.is; fit = node-in f.0 (both-in x.fit body.holds.fit) };
      goes = body.goes;
    }

-- ---- `for`

-- behind `for` and its parenthesis
abbrev pub ReadHeader : Form → Room → Context → Symbols → Symbols → Stmt → Type 0
ReadHeader form room c used left s = Derived room (stmt_height by_nodes s) (stmt_height by_functions s) ((b d : Bool) → Statement form c (word w.For b ∷ (mark m.OpenParenthesis d ∷ used)) (front left) s)

rest-read : {form : Form} {tree : Stmts} {n : ℕ} → Sound form tree n → (room : Room) (c : Context) (init : ForInit) (next : To Stmt) (ts whole u : Symbols) → Parts whole u ts → are_regular ts ≡ true → fits_node room ≡ true → ForFirst form u init
    → Within (inside room) (for_init_height by_nodes init) (for_init_height by_functions init) → IsDone form tree n (for_rest (inside room) (context.loop c) init next ts) → Read form tree n (ReadHeader form room c) next whole
rest-read S room c init next ts whole u parts r f d fit h =
    let one = met is_semicolon (k.Mark m.Semicolon) told-semicolon refl
    (optional (inside room) (λ test. expect is_semicolon (optional (inside room) (λ step. expect is_close_parenthesis (statement (inside room) (context.loop c) (λ body r. next (Tree.For init test step body) r)))))) ts r h in
    let test = S.options (inside room) (λ test. expect is_semicolon (optional (inside room) (λ step. expect is_close_parenthesis (statement (inside room) (context.loop c) (λ body r. next (Tree.For init test step body) r))))) one.others one.regular one.goes in
    let two = met is_semicolon (k.Mark m.Semicolon) told-semicolon refl (optional (inside room) (λ step. expect is_close_parenthesis (statement (inside room) (context.loop c) (λ body r. next (Tree.For init test.value step body) r)))) test.left test.regular test.goes in
    let step = S.options (inside room) (λ step. expect is_close_parenthesis (statement (inside room) (context.loop c) (λ body r. next (Tree.For init test.value step body) r))) two.others two.regular two.goes in
    let close = met is_close_parenthesis (k.Mark m.CloseParenthesis) told-close refl (statement (inside room) (context.loop c) (λ body r. next (Tree.For init test.value step.value body) r)) step.left step.regular step.goes in
    let body = S.statements (inside room) (context.loop c) (λ body r. next (Tree.For init test.value step.value body) r) close.others close.regular close.goes in
    record {
      used = u ++ (mark m.Semicolon one.newline ∷ (test.used ++ (mark m.Semicolon two.newline ∷ (step.used ++ (mark m.CloseParenthesis close.newline ∷ body.used)))));
      left = body.left;
      value = Tree.For init test.value step.value body.value;
      whole = behind parts (ahead one.is (behind test.whole (ahead two.is (behind step.whole (ahead close.is body.whole)))));
      regular = body.regular;
      holds = record {
        is = λ b o. g.for b o one.newline two.newline close.newline d test.holds.is step.holds.is body.holds.is;
        fit = node-in f (both-in fit (both-in test.holds.fit (both-in step.holds.fit body.holds.fit)));
      };
      goes = body.goes;
    }

-- behind `in`
in-read : {form : Form} {tree : Stmts} {n : ℕ} → Sound form tree n → (room : Room) (c : Context) (target : ForTarget) (next : To Stmt) (s : Symbol) (ts whole u : Symbols) → Parts whole u (s ∷ ts) → are_regular (s ∷ ts) ≡ true → s.kind ≡ k.Word w.In → fits_node room ≡ true
    → ((t : Symbol) (v body : Symbols) (y : Expr) (o : Stmt) (b d e f : Bool) → Expression form true 1 v y → Statement form (context.loop c) body t o
    → Statement form c (word w.For b ∷ (mark m.OpenParenthesis d ∷ (u ++ (word w.In e ∷ (v ++ (mark m.CloseParenthesis f ∷ body)))))) t (Tree.ForIn target y o))
    → Within (inside room) (for_target_height by_nodes target) (for_target_height by_functions target)
    → IsDone form tree n (comma (inside room) true (λ y. expect is_close_parenthesis (statement (inside room) (context.loop c) (λ body r. next (Tree.ForIn target y body) r))) ts) → Read form tree n (ReadHeader form room c) next whole
in-read S room c target next s ts whole u parts r e f make fit h =
    let y = S.commas true (inside room) (λ y. expect is_close_parenthesis (statement (inside room) (context.loop c) (λ body r. next (Tree.ForIn target y body) r))) ts (regular-rest s ts r) h in
    let close = met is_close_parenthesis (k.Mark m.CloseParenthesis) told-close refl (statement (inside room) (context.loop c) (λ body r. next (Tree.ForIn target y.value body) r)) y.left y.regular y.goes in
    let body = S.statements (inside room) (context.loop c) (λ body r. next (Tree.ForIn target y.value body) r) close.others close.regular close.goes in
    record {
      used = u ++ (word w.In s.newline ∷ (y.used ++ (mark m.CloseParenthesis close.newline ∷ body.used)));
      left = body.left;
      value = Tree.ForIn target y.value body.value;
      whole = behind parts (ahead (known s ts (k.Word w.In) refl e r) (behind y.whole (ahead close.is body.whole)));
      regular = body.regular;
      holds = record { is = λ b d. make _ _ _ _ _ b d s.newline close.newline y.holds.is body.holds.is; fit = node-in f (both-in fit (both-in y.holds.fit body.holds.fit)) };
      goes = body.goes;
    }

var-behind : {form : Form} {tree : Stmts} {n : ℕ} → Sound form tree n → (room : Room) (c : Context) (o : Name) (value : MaybeExpr) (next : To Stmt) (ts middle whole u : Symbols) (b : Bool) → ((v others : Symbols) → Parts middle v others → Parts whole (word w.Var b ∷ v) others)
    → Parts middle u ts → are_regular ts ≡ true → fits_node room ≡ true → ReadDeclarator form (inside room) false u ts (o, value) → IsDone form tree n (for_var (inside room) (context.loop c) o value next ts) → Read form tree n (ReadHeader form room c) next whole
var-behind S room c o value next [] middle whole u b glue parts r f d h = absurd (never h)
var-behind {form = form} {tree = tree} {n = n} S room c o value next (s ∷ ts) middle whole u b glue parts r f d h = at s.kind refl h
  where
    last : IsDone form tree n (for_rest (inside room) (context.loop c) (Tree.Vars (Tree.MoreVarItems o value Tree.NoVarItems)) next (s ∷ ts)) → Read form tree n (ReadHeader form room c) next whole
    last h = rest-read S room c (Tree.Vars (Tree.MoreVarItems o value Tree.NoVarItems)) next (s ∷ ts) whole (word w.Var b ∷ u) (glue _ _ parts) r f (g.variables_first b (g.last_declarator d.is)) (both-in d.fit (nothing-in (inside room))) h

    at : (kind : TokenKind) → s.kind ≡ kind → IsDone form tree n (for_var_by (inside room) (context.loop c) kind o value next s ts) → Read form tree n (ReadHeader form room c) next whole
    at (k.Word w.In) e h = in-read S room c (Tree.AVar o value) next s ts whole (word w.Var b ∷ u) (glue _ _ parts) r e f (λ after v z yy other b1 b2 b3 b4 y body. g.for_var_in b1 b2 b b3 b4 d.is y body) d.fit h
    at (k.Mark m.Comma) e h =
        let items = S.declared_lists false (inside room) (λ items r. for_rest (inside room) (context.loop c) (Tree.Vars (Tree.MoreVarItems o value items)) next r) ts (regular-rest s ts r) h in
        rest-read S room c (Tree.Vars (Tree.MoreVarItems o value items.value)) next items.left whole (word w.Var b ∷ (u ++ (mark m.Comma s.newline ∷ items.used)))
        (glue _ _ (behind parts (ahead (known s ts (k.Mark m.Comma) refl e r) items.whole))) items.regular f (g.variables_first b (g.declarator_and s.newline d.is items.holds.is)) (both-in d.fit items.holds.fit) items.goes
    at _ e h = last h

expression-behind : {form : Form} {tree : Stmts} {n : ℕ} → Sound form tree n → (room : Room) (c : Context) (x : Expr) (next : To Stmt) (ts whole u : Symbols) → Parts whole u ts → are_regular ts ≡ true → fits_node room ≡ true → Expression form false 1 u x → Fits (inside room) x
    → IsDone form tree n (for_expression (inside room) (context.loop c) x next ts) → Read form tree n (ReadHeader form room c) next whole
expression-behind S room c x next [] whole u parts r f d fit h = absurd (never h)
expression-behind {form = form} {tree = tree} {n = n} S room c x next (s ∷ ts) whole u parts r f d fit h = at s.kind refl h
  where
    last : IsDone form tree n (for_rest (inside room) (context.loop c) (Tree.First x) next (s ∷ ts)) → Read form tree n (ReadHeader form room c) next whole
    last h = rest-read S room c (Tree.First x) next (s ∷ ts) whole u parts r f (g.expression_first d) fit h

    at : (kind : TokenKind) → s.kind ≡ kind → IsDone form tree n (for_expression_by (inside room) (context.loop c) kind x next s ts) → Read form tree n (ReadHeader form room c) next whole
    at (k.Word w.In) e h =
        let t = guarded (is_target x) (s ∷ ts) (comma (inside room) true (λ y. expect is_close_parenthesis (statement (inside room) (context.loop c) (λ body r. next (Tree.ForIn (Tree.Target x) y body) r))) ts) h in
        in-read S room c (Tree.Target x) next s ts whole u parts r e f (λ after v z yy other b1 b2 b3 b4 y body. g.for_in b1 b2 b3 b4 (raise d t.0) t.0 y body) fit t.1
    at _ e h = last h

header-read : {form : Form} {tree : Stmts} {n : ℕ} → Sound form tree n → (room : Room) (c : Context) (next : To Stmt) (ts : Symbols) → are_regular ts ≡ true → fits_node room ≡ true → IsDone form tree n (for_header (inside room) (context.loop c) next ts)
    → Read form tree n (ReadHeader form room c) next ts
header-read S room c next [] r f h = absurd (never h)
header-read {form = form} {tree = tree} {n = n} S room c next (s ∷ ts) r f h = at s.kind refl h
  where
    other : IsDone form tree n (comma (inside room) false (λ x r. for_expression (inside room) (context.loop c) x next r) (s ∷ ts)) → Read form tree n (ReadHeader form room c) next (s ∷ ts)
    other h = let x = S.commas false (inside room) (λ x r. for_expression (inside room) (context.loop c) x next r) (s ∷ ts) r h in expression-behind S room c x.value next x.left (s ∷ ts) x.used x.whole x.regular f x.holds.is x.holds.fit x.goes

    at : (kind : TokenKind) → s.kind ≡ kind → IsDone form tree n (for_by (inside room) (context.loop c) kind next s ts) → Read form tree n (ReadHeader form room c) next (s ∷ ts)
    at (k.Word w.Var) e h =
        let d = S.declared_ones false (inside room) (λ d r. for_var (inside room) (context.loop c) d.0 d.1 next r) ts (regular-rest s ts r) h in
        var-behind S room c d.value.0 d.value.1 next d.left ts (s ∷ ts) d.used s.newline (λ v others p. ahead (known s ts (k.Word w.Var) refl e r) p) d.whole d.regular f d.holds d.goes
    at (k.Mark m.Semicolon) e h = rest-read S room c Tree.Nothing next (s ∷ ts) (s ∷ ts) [] unread r f g.nothing_first (nothing-in (inside room)) h
    at _ e h = other h

pub for-read : {form : Form} {tree : Stmts} {n : ℕ} → Sound form tree n → (room : Room) (c : Context) (next : To Stmt) (s : Symbol) (ts : Symbols) → are_regular (s ∷ ts) ≡ true → s.kind ≡ k.Word w.For
    → IsDone form tree n (statement_by form room c (k.Word w.For) next s ts) → Read form tree n (ReadStatement form room c) next (s ∷ ts)
for-read S room c next s ts r e h =
    let f = fitted (fits_node room) ts (expect is_open_parenthesis (for_header (inside room) (context.loop c) next) ts) h in
    let open1 = met is_open_parenthesis (k.Mark m.OpenParenthesis) told-open refl (for_header (inside room) (context.loop c) next) ts (regular-rest s ts r) f.1 in
    let a = header-read S room c next open1.others open1.regular f.0 open1.goes in
    record {
      used = word w.For s.newline ∷ (mark m.OpenParenthesis open1.newline ∷ a.used);
      left = a.left;
      value = a.value;
      whole = ahead (known s ts (k.Word w.For) refl e r) (ahead open1.is a.whole);
      regular = a.regular;
      holds = record { is = a.holds.is s.newline open1.newline; fit = a.holds.fit };
      goes = a.goes;
    }
