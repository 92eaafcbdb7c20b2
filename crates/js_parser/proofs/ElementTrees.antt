-- A statement or a declaration that the machine reads, whatever comes of it, has a tree by the
-- grammar.
use Rattle.std.proofs.Common.{◌≡◌, ℕ, zero, suc, true, [], ◌∷◌, ◌++◌, Option, Some, None, refl, ap, sym, ◌∙◌, subst}
use Rattle.js_lexer.specs.declared.mark.Mark.{Mark}
use Rattle.js_lexer.specs.declared.mark.Mark.TheVariants as m
use Rattle.js_lexer.specs.declared.word.Word.{Word}
use Rattle.js_lexer.specs.declared.word.Word.TheVariants as w
use Rattle.js_lexer.specs.declared.token.TokenKind.{TokenKind}
use Rattle.js_lexer.specs.declared.token.TokenKind.TheVariants as k
use Rattle.js_lexer.specs.Words.{word_of}
use Rattle.js_lexer.specs.Words as words
use Rattle.js_lexer.specs.Marks.{front_mark}
use Rattle.js_lexer.specs.Marks as marks
use Rattle.js_tree.specs.Tree.{Name, Expr, Stmt, Stmts}
use Rattle.js_tree.specs.Tree
use Rattle.js_parser.specs.declared.form.Form.{Form}
use Rattle.js_parser.specs.Symbols.{Symbol, Symbols, are_regular, word, name}
use Rattle.js_parser.specs.Names.{is_binding}
use Rattle.js_parser.specs.Contexts.{Context}
use Rattle.js_tree.specs.Heights.{stmt_height}
use Rattle.js_tree.specs.Depth.{by_nodes, by_functions}
use Rattle.js_parser.specs.Grammar.{SourceElement, code}
use Rattle.js_parser.specs.Grammar as g
use Rattle.js_parser.specs.Rooms.{Room, in_function, fits_function}
use Rattle.js_parser.specs.Machine.{State, done, rest, statement, To, Goes, here, then_on, run}
use Rattle.js_parser.specs.Elements.{declaration, declaration_by, element, element_by}
use Rattle.js_parser.proofs.ReadTrees.{IsDone, never, guarded, fitted, regular-rest, known, ahead, front, Within, function-in, Derived, Read}
use Rattle.js_parser.proofs.ReadScriptTrees.{sound}

-- ---- symbols as trees, which tell what is left

abbrev kind_tree : TokenKind → Expr
kind_tree (k.Word word) = Tree.Dot Tree.This (words.spelling word)
kind_tree (k.Mark mark) = Tree.Dot Tree.Null (marks.spelling mark)
kind_tree (k.Name n) = Tree.Ident n
kind_tree (k.Number n) = Tree.Num n
kind_tree (k.Str text) = Tree.Str text
kind_tree k.End = Tree.Null

abbrev word_kind : Option Word → TokenKind
word_kind (Some word) = k.Word word
word_kind None = k.End

abbrev mark_kind : Option Mark → TokenKind
mark_kind (Some mark) = k.Mark mark
mark_kind None = k.End

abbrev dotted : Expr → Name → TokenKind
dotted Tree.This text = word_kind (word_of text)
dotted _ text = mark_kind (front_mark text)

abbrev tree_kind : Expr → TokenKind
tree_kind (Tree.Dot x text) = dotted x text
tree_kind (Tree.Ident n) = k.Name n
tree_kind (Tree.Num n) = k.Number n
tree_kind (Tree.Str text) = k.Str text
tree_kind _ = k.End

word-back : (word : Word) → word_of (words.spelling word) ≡ Some word
word-back w.Break = refl
word-back _ = refl

mark-back : (mark : Mark) → front_mark (marks.spelling mark) ≡ Some mark
mark-back m.OpenBrace = refl
mark-back _ = refl

kind-back : (kind : TokenKind) → tree_kind (kind_tree kind) ≡ kind
kind-back (k.Word word) = ap word_kind (word-back word)
kind-back (k.Mark mark) = ap mark_kind (mark-back mark)
kind-back (k.Name n) = refl
kind-back (k.Number n) = refl
kind-back (k.Str text) = refl
kind-back k.End = refl

abbrev symbol_tree : Symbol → Stmt
symbol_tree s = Tree.Do (Tree.Cond (Tree.Truth s.newline) (Tree.Truth s.in_decimal) (kind_tree s.kind))

abbrev symbols_tree : Symbols → Stmts
symbols_tree [] = Tree.NoStmts
symbols_tree (s ∷ ss) = Tree.MoreStmts (symbol_tree s) (symbols_tree ss)

same-symbol : (s t : Symbol) → symbol_tree s ≡ symbol_tree t → s ≡ t
same-symbol s t h =
    let trees : kind_tree s.kind ≡ kind_tree t.kind = cc in
    let newlines : s.newline ≡ t.newline = cc in
    let decimals : s.in_decimal ≡ t.in_decimal = cc in
    let kinds : s.kind ≡ t.kind = sym (kind-back s.kind) ∙ ap tree_kind trees ∙ kind-back t.kind in
    ap (λ kind. record { kind = kind; newline = s.newline; in_decimal = s.in_decimal }) kinds
    ∙ ap (λ newline. record { kind = t.kind; newline = newline; in_decimal = s.in_decimal }) newlines
    ∙ ap (λ in_decimal. record { kind = t.kind; newline = t.newline; in_decimal = in_decimal }) decimals

same-symbols : (u v : Symbols) → symbols_tree u ≡ symbols_tree v → u ≡ v
same-symbols [] [] h = refl
same-symbols [] (t ∷ v) h = cc
same-symbols (s ∷ u) [] h = cc
same-symbols (s ∷ u) (t ∷ v) h =
    let one : symbol_tree s ≡ symbol_tree t = cc in let others : symbols_tree u ≡ symbols_tree v = cc in
    ap (λ x. x ∷ u) (same-symbol s t one) ∙ ap (λ xs. t ∷ xs) (same-symbols u v others)

-- ---- an element

abbrev pub ReadElement : Form → Room → Context → Symbols → Symbols → Stmt → Type 0
ReadElement form room c used left x = Derived room (stmt_height by_nodes x) (stmt_height by_functions x) (SourceElement form c used (front left) x)

declaration-read : {form : Form} {tree : Stmts} {n : ℕ} (room : Room) (c : Context) (next : To Stmt) (s : Symbol) (ts : Symbols) → are_regular (s ∷ ts) ≡ true → s.kind ≡ k.Word w.Function → fits_function room ≡ true
    → IsDone form tree n (declaration form room next ts) → Read form tree n (ReadElement form room c) next (s ∷ ts)
declaration-read room c next s [] r e f h = absurd (never h)
declaration-read {form = form} {tree = tree} {n = n} room c next s (t ∷ ts) r e f h = at t.kind refl h
  where
    at : (kind : TokenKind) → t.kind ≡ kind → IsDone form tree n (declaration_by form room kind next t ts) → Read form tree n (ReadElement form room c) next (s ∷ (t ∷ ts))
    at (k.Name o) is h =
        let others = regular-rest s (t ∷ ts) r in
        let a = guarded (is_binding form o) (t ∷ ts) (rest (in_function room) (λ ns body r. next (Tree.Declare (code (Some o) ns body)) r) ts) h in
        let x = (sound form tree n).rests (in_function room) (λ a r. next (Tree.Declare (code (Some o) a.0 a.1)) r) ts (regular-rest t ts others) a.1 in
        record {
          used = word w.Function s.newline ∷ (name o t.newline ∷ x.used);
          left = x.left;
          value = Tree.Declare (code (Some o) x.value.0 x.value.1);
          whole = ahead (known s (t ∷ ts) (k.Word w.Function) refl e r) (ahead (known t ts (k.Name o) refl is others) x.whole);
          regular = x.regular;
          holds = record { is = g.declaration s.newline t.newline a.0 x.holds.is; fit = function-in f x.holds.fit };
          goes = x.goes;
        }
    at (k.Word _) is h = absurd (never h)
    at (k.Number _) is h = absurd (never h)
    at (k.Str _) is h = absurd (never h)
    at (k.Mark _) is h = absurd (never h)
    at k.End is h = absurd (never h)

pub element-done : {form : Form} {tree : Stmts} {n : ℕ} (room : Room) (c : Context) (next : To Stmt) (ts : Symbols) → are_regular ts ≡ true → IsDone form tree n (element form room c next ts) → Read form tree n (ReadElement form room c) next ts
element-done room c next [] r h = absurd (never h)
element-done {form = form} {tree = tree} {n = n} room c next (s ∷ ts) r h = at s.kind refl h
  where
    stated : IsDone form tree n (statement room c next (s ∷ ts)) → Read form tree n (ReadElement form room c) next (s ∷ ts)
    stated h =
        let x = (sound form tree n).statements room c next (s ∷ ts) r h in
        record { used = x.used; left = x.left; value = x.value; whole = x.whole; regular = x.regular; holds = record { is = g.statement x.holds.is; fit = x.holds.fit }; goes = x.goes }

    at : (kind : TokenKind) → s.kind ≡ kind → IsDone form tree n (element_by form room c kind next s ts) → Read form tree n (ReadElement form room c) next (s ∷ ts)
    at (k.Word w.Function) e h = let f = fitted (fits_function room) ts (declaration form room next ts) h in declaration-read room c next s ts r e f.0 f.1
    at _ e h = stated h

-- ---- whatever comes of it

-- a run that comes to its end comes there in some number of steps
pub counted : {form : Form} {tree : Stmts} {s t : State} → Goes form s t → t ≡ done tree → (n : ℕ) × IsDone form tree n s
counted here e = (0, record { goes = e })
counted (then_on d) e = let a = counted d e in (suc a.0, record { goes = (a.1).goes })

pub stays-done : {tree : Stmts} (form : Form) (n : ℕ) (ss : Stmts) → run form n (done ss) ≡ done tree → ss ≡ tree
stays-done form zero ss e = cc
stays-done form (suc n) ss e = stays-done form n ss e

-- the tokens of one statement or declaration with this tree, before the new ones
pub record IsRead (form : Form) (room : Room) (c : Context) (old new : Symbols) (x : Stmt) : Type 0 where
  pub used : Symbols
  pub whole : old ≡ used ++ new
  pub is : SourceElement form c used (front new) x
  pub fit : Within room (stmt_height by_nodes x) (stmt_height by_functions x)

-- what was read, and then the symbols that are left
abbrev told : To Stmt
told x left = done (Tree.MoreStmts x (symbols_tree left))

pub element_read : (form : Form) (room : Room) (c : Context) (old new : Symbols) (x : Stmt) → are_regular old ≡ true → ((next : To Stmt) → Goes form (element form room c next old) (next x new)) → IsRead form room c old new x
element_read form room c old new x regular goes =
    let tree : Stmts = Tree.MoreStmts x (symbols_tree new) in
    let a = counted {tree = tree} (goes told) refl in
    let r = element-done room c told old regular a.1 in
    let e : Tree.MoreStmts r.value (symbols_tree r.left) ≡ tree = stays-done form a.0 (Tree.MoreStmts r.value (symbols_tree r.left)) r.goes.goes in
    let value : r.value ≡ x = cc in
    let trees : symbols_tree r.left ≡ symbols_tree new = cc in
    let left : r.left ≡ new = same-symbols r.left new trees in
    let holds = subst (λ y. ReadElement form room c r.used new y) value (subst (λ l. ReadElement form room c r.used l r.value) left r.holds) in
    record { used = r.used; whole = r.whole.are ∙ ap (λ l. r.used ++ l) left; is = holds.is; fit = holds.fit }
