-- What the machine reads has a tree by the grammar: operands, and what is linked to them.
use Rattle.std.proofs.Common.{◌≡◌, ℕ, suc, ◌≤◌, Bool, true, false, [], ◌∷◌, ◌++◌, Some, None, refl, ap, sym, ◌∙◌, lit≤}
use Rattle.std.specs.Prelude.{codes}
use Rattle.js_lexer.specs.declared.mark.Mark.TheVariants as m
use Rattle.js_lexer.specs.declared.word.Word.TheVariants as w
use Rattle.js_lexer.specs.declared.token.TokenKind.{TokenKind}
use Rattle.js_lexer.specs.declared.token.TokenKind.TheVariants as k
use Rattle.js_lexer.proofs.Longest.{spelled_same}
use Rattle.js_tree.specs.Tree.{Name, Expr, Exprs, Elements, Pairs, Stmts}
use Rattle.js_tree.specs.Tree
use Rattle.js_tree.specs.Numbering.{is_function_number}
use Rattle.js_parser.specs.declared.form.Form.{Form}
use Rattle.js_parser.specs.declared.form.Form.TheVariants.{Source, Written}
use Rattle.js_parser.specs.Symbols.{Symbol, Symbols, are_regular, word, mark, name, number, number_in, string}
use Rattle.js_parser.specs.Names.{get_name, is_eval, is_reference, is_binding, is_property}
use Rattle.js_parser.specs.Grammar.{Expression, NewCallee, Arguments, code}
use Rattle.js_parser.specs.Grammar as g
use Rattle.js_parser.specs.Rooms.{Room, inside, in_function, fits_node, fits_around, fits_function}
use Rattle.js_parser.specs.Machine.{comma, operand, links, arguments, elements, pairs, rest, To, expect, is_open_parenthesis, is_close_parenthesis, is_close_bracket, is_close_brace, operand_by, leaf, name_by, late, is_get, late_number, late_by, function, function_by, after_new, new_by, links_by, dot, dot_by}
use Rattle.js_parser.proofs.Levels.{lower}
use Rattle.js_parser.proofs.ReadTrees.{IsDone, on, padded, never, guarded, fitted, regular-rest, known, Parts, ahead, behind, one-read, met, front, both-in, node-in, leaf-in, nothing-in, function-in, Fits, around, Read, later, chain, is_linked, Linked, Operand, Operands, linked, bare, Sound}
use Rattle.js_parser.proofs.ReadKinds.{told-open, told-close, told-bracket, told-closed, LinksCase, dotted, indexed, called, ended, links-case}
use Rattle.js_parser.proofs.ReadExpressionTrees.{become}

chain-low : (c : Bool) → 17 ≤ chain c
chain-low true = lit≤ tt
chain-low false = lit≤ tt

chain-high : (c : Bool) → chain c ≤ 18
chain-high true = lit≤ tt
chain-high false = lit≤ tt

chain-top : (c : Bool) → chain c ≤ 19
chain-top true = lit≤ tt
chain-top false = lit≤ tt

chain-equal : (c : Bool) → chain c ≤ chain c
chain-equal true = lit≤ tt
chain-equal false = lit≤ tt

told-get : (o : TokenKind) → is_get o ≡ true → o ≡ k.Name get_name
told-get (k.Name n) h = ap (λ n. k.Name n) (sym (spelled_same get_name n h))
told-get _ h = cc

-- what is linked is an operand
as-operand : {form : Form} {tree : Stmts} {n : ℕ} {room : Room} {i c : Bool} {next : To Expr} {ts : Symbols} → Read form tree n (Linked form room i c) next ts → Read form tree (suc n) (Operands form room i c) next ts
as-operand a = record {
  used = a.used;
  left = a.left;
  value = a.value;
  whole = a.whole;
  regular = a.regular;
  holds = linked a.holds;
  goes = padded a.goes;
}

leaf-read : {form : Form} {tree : Stmts} {n : ℕ} → Sound form tree n → (i c : Bool) (room : Room) (x : Expr) (next : To Expr) (s o : Symbol) (ts : Symbols) → are_regular (s ∷ ts) ≡ true → (s ∷ ts) ≡ (o ∷ ts) → Expression form i 19 (o ∷ []) x
    → (fits_node room ≡ true → Fits room x) → IsDone form tree n (leaf room c x next ts) → Read form tree (suc n) (Operands form room i c) next (s ∷ ts)
leaf-read S i c room x next s o ts r e d fit h = let f = fitted (fits_node room) ts (links room c x next ts) h in
    as-operand (S.linkings i c room x next ts (s ∷ ts) (o ∷ []) (one-read e) (regular-rest s ts r) (lower (chain-top c) d) (fit f.0) f.1)

array-read : {form : Form} {tree : Stmts} {n : ℕ} → Sound form tree n → (i c : Bool) (room : Room) (next : To Expr) (s : Symbol) (ts : Symbols) → are_regular (s ∷ ts) ≡ true → s.kind ≡ k.Mark m.OpenBracket
    → IsDone form tree n (operand_by form (k.Mark m.OpenBracket) room c next s ts) → Read form tree (suc n) (Operands form room i c) next (s ∷ ts)
array-read S i c room next s ts r e h =
    let f = fitted (fits_node room) ts (elements (inside room) (λ es. expect is_close_bracket (links room c (Tree.Array es) next)) ts) h in
    let es = S.element_lists (inside room) (λ es. expect is_close_bracket (links room c (Tree.Array es) next)) ts (regular-rest s ts r) f.1 in
    let close = met is_close_bracket (k.Mark m.CloseBracket) told-bracket refl (links room c (Tree.Array es.value) next) es.left es.regular es.goes in
    as-operand (S.linkings i c room (Tree.Array es.value) next close.others (s ∷ ts) (mark m.OpenBracket s.newline ∷ (es.used ++ (mark m.CloseBracket close.newline ∷ [])))
    (ahead (known s ts (k.Mark m.OpenBracket) refl e r) (behind es.whole (one-read close.is))) close.regular (g.array s.newline close.newline (chain-top c) es.holds.is) (node-in f.0 es.holds.fit) close.goes)

object-read : {form : Form} {tree : Stmts} {n : ℕ} → Sound form tree n → (i c : Bool) (room : Room) (next : To Expr) (s : Symbol) (ts : Symbols) → are_regular (s ∷ ts) ≡ true → s.kind ≡ k.Mark m.OpenBrace
    → IsDone form tree n (operand_by form (k.Mark m.OpenBrace) room c next s ts) → Read form tree (suc n) (Operands form room i c) next (s ∷ ts)
object-read S i c room next s ts r e h =
    let f = fitted (fits_node room) ts (pairs (inside room) (λ ps. expect is_close_brace (links room c (Tree.Object ps) next)) ts) h in
    let ps = S.pair_lists (inside room) (λ ps. expect is_close_brace (links room c (Tree.Object ps) next)) ts (regular-rest s ts r) f.1 in
    let close = met is_close_brace (k.Mark m.CloseBrace) told-closed refl (links room c (Tree.Object ps.value) next) ps.left ps.regular ps.goes in
    as-operand (S.linkings i c room (Tree.Object ps.value) next close.others (s ∷ ts) (mark m.OpenBrace s.newline ∷ (ps.used ++ (mark m.CloseBrace close.newline ∷ [])))
    (ahead (known s ts (k.Mark m.OpenBrace) refl e r) (behind ps.whole (one-read close.is))) close.regular (g.object s.newline close.newline (chain-top c) ps.holds.is) (node-in f.0 ps.holds.fit) close.goes)

parenthesised-read : {form : Form} {tree : Stmts} {n : ℕ} → Sound form tree n → (i c : Bool) (room : Room) (next : To Expr) (s : Symbol) (ts : Symbols) → are_regular (s ∷ ts) ≡ true → s.kind ≡ k.Mark m.OpenParenthesis
    → IsDone form tree n (operand_by form (k.Mark m.OpenParenthesis) room c next s ts) → Read form tree (suc n) (Operands form room i c) next (s ∷ ts)
parenthesised-read S i c room next s ts r e h =
    let x = S.commas true room (λ x. expect is_close_parenthesis (links room c x next)) ts (regular-rest s ts r) h in
    let close = met is_close_parenthesis (k.Mark m.CloseParenthesis) told-close refl (links room c x.value next) x.left x.regular x.goes in
    as-operand (S.linkings i c room x.value next close.others (s ∷ ts) (mark m.OpenParenthesis s.newline ∷ (x.used ++ (mark m.CloseParenthesis close.newline ∷ [])))
    (ahead (known s ts (k.Mark m.OpenParenthesis) refl e r) (behind x.whole (one-read close.is))) close.regular (g.parenthesised s.newline close.newline (chain-top c) x.holds.is) x.holds.fit close.goes)

-- ---- functions

plain-function : {form : Form} {tree : Stmts} {n : ℕ} → Sound form tree n → (i c : Bool) (room : Room) (next : To Expr) (s : Symbol) (ts : Symbols) → are_regular (s ∷ ts) ≡ true → s.kind ≡ k.Word w.Function → fits_function room ≡ true
    → IsDone form tree n (rest (in_function room) (λ ns body r. links room c (Tree.Function (code None ns body)) next r) ts) → Read form tree (suc n) (Operands form room i c) next (s ∷ ts)
plain-function S i c room next s ts r e f h =
    let a = S.rests (in_function room) (λ a r. links room c (Tree.Function (code None a.0 a.1)) next r) ts (regular-rest s ts r) h in
    as-operand (S.linkings i c room (Tree.Function (code None a.value.0 a.value.1)) next a.left (s ∷ ts) (word w.Function s.newline ∷ a.used)
    (ahead (known s ts (k.Word w.Function) refl e r) a.whole) a.regular (g.function s.newline (chain-top c) a.holds.is) (function-in f a.holds.fit) a.goes)

named-function : {form : Form} {tree : Stmts} {n : ℕ} → Sound form tree n → (i c : Bool) (room : Room) (next : To Expr) (s t : Symbol) (ts : Symbols) (o : Name) → are_regular (s ∷ (t ∷ ts)) ≡ true → s.kind ≡ k.Word w.Function → t.kind ≡ k.Name o → fits_function room ≡ true
    → IsDone form tree n (function_by form (k.Name o) room c next t ts) → Read form tree (suc n) (Operands form room i c) next (s ∷ (t ∷ ts))
named-function {form = form} S i c room next s t ts o r e e2 f h =
    let r2 = regular-rest s (t ∷ ts) r in
    let b = guarded (is_binding form o) (t ∷ ts) (rest (in_function room) (λ ns body r. links room c (Tree.Function (code (Some o) ns body)) next r) ts) h in
    let a = S.rests (in_function room) (λ a r. links room c (Tree.Function (code (Some o) a.0 a.1)) next r) ts (regular-rest t ts r2) b.1 in
    as-operand (S.linkings i c room (Tree.Function (code (Some o) a.value.0 a.value.1)) next a.left (s ∷ (t ∷ ts)) (word w.Function s.newline ∷ (name o t.newline ∷ a.used))
    (ahead (known s (t ∷ ts) (k.Word w.Function) refl e r) (ahead (known t ts (k.Name o) refl e2 r2) a.whole)) a.regular (g.named_function s.newline t.newline (chain-top c) b.0 a.holds.is) (function-in f a.holds.fit) a.goes)

function-read : {form : Form} {tree : Stmts} {n : ℕ} → Sound form tree n → (i c : Bool) (room : Room) (next : To Expr) (s : Symbol) (ts : Symbols) → are_regular (s ∷ ts) ≡ true → s.kind ≡ k.Word w.Function → fits_function room ≡ true
    → IsDone form tree n (function form room c next ts) → Read form tree (suc n) (Operands form room i c) next (s ∷ ts)
function-read S i c room next s [] r e f h = absurd (never h)
function-read {form = form} {tree = tree} {n = n} S i c room next s (t ∷ ts) r e f h = at t.kind refl h
  where
    at : (kind : TokenKind) → t.kind ≡ kind → IsDone form tree n (function_by form kind room c next t ts) → Read form tree (suc n) (Operands form room i c) next (s ∷ (t ∷ ts))
    at (k.Name o) e2 h = named-function S i c room next s t ts o r e e2 f h
    at (k.Word _) e2 h = plain-function S i c room next s (t ∷ ts) r e f h
    at (k.Number _) e2 h = plain-function S i c room next s (t ∷ ts) r e f h
    at (k.Str _) e2 h = plain-function S i c room next s (t ∷ ts) r e f h
    at (k.Mark _) e2 h = plain-function S i c room next s (t ∷ ts) r e f h
    at k.End e2 h = plain-function S i c room next s (t ∷ ts) r e f h

-- ---- `new`

new-arguments : {form : Form} {tree : Stmts} {n : ℕ} → Sound form tree n → (i c : Bool) (room : Room) (x : Expr) (next : To Expr) (t : Symbol) (ts whole u : Symbols) (b : Bool) → Parts whole (word w.New b ∷ u) (t ∷ ts) → are_regular (t ∷ ts) ≡ true
    → fits_node room ≡ true → Linked form (inside room) i false u (t ∷ ts) x → t.kind ≡ k.Mark m.OpenParenthesis → IsDone form tree n (new_by (k.Mark m.OpenParenthesis) room c x next t ts) → Read form tree (suc n) (Operands form room i c) next whole
new-arguments {form = form} S i c room x next t ts whole u b wh r f d e h =
    let xs = S.argumented (inside room) (λ xs. expect is_close_parenthesis (links room c (Tree.New x xs) next)) ts (regular-rest t ts r) h in
    let close = met is_close_parenthesis (k.Mark m.CloseParenthesis) told-close refl (links room c (Tree.New x xs.value) next) xs.left xs.regular xs.goes in
    as-operand (S.linkings i c room (Tree.New x xs.value) next close.others whole (word w.New b ∷ (u ++ (mark m.OpenParenthesis t.newline ∷ (xs.used ++ (mark m.CloseParenthesis close.newline ∷ [])))))
    (behind wh (ahead (known t ts (k.Mark m.OpenParenthesis) refl e r) (behind xs.whole (one-read close.is)))) close.regular (g.new b (chain-high c) d.is (xs.holds.is t.newline close.newline)) (node-in f (both-in d.fit xs.holds.fit)) close.goes)

new-bare : {form : Form} {tree : Stmts} {n : ℕ} → (i c : Bool) (room : Room) (x : Expr) (next : To Expr) (ts whole u : Symbols) (b : Bool) → Parts whole (word w.New b ∷ u) ts → are_regular ts ≡ true
    → fits_node room ≡ true → NewCallee form i u x → Fits (inside room) x → is_linked true (front ts).kind ≡ false → IsDone form tree n (next (Tree.New x Tree.NoExprs) ts) → Read form tree (suc n) (Operands form room i c) next whole
new-bare i c room x next ts whole u b wh r f d fit stops h = record {
  used = word w.New b ∷ u;
  left = ts;
  value = Tree.New x Tree.NoExprs;
  whole = wh;
  regular = r;
  holds = bare b d (node-in f (both-in fit (nothing-in (inside room)))) stops;
  goes = padded h;
}

data NewCase (kind : TokenKind) : Type 0 where
  with_arguments : kind ≡ k.Mark m.OpenParenthesis → NewCase kind
  without : ((room : Room) (c : Bool) (x : Expr) (next : To Expr) (s : Symbol) (ts : Symbols) → new_by kind room c x next s ts ≡ next (Tree.New x Tree.NoExprs) (s ∷ ts)) → (is_linked false kind ≡ false → is_linked true kind ≡ false) → NewCase kind

new-case : (kind : TokenKind) → NewCase kind
new-case (k.Mark m.OpenParenthesis) = with_arguments refl
new-case _ = without (λ room c x next s ts. refl) (λ h. h)

new-behind : {form : Form} {tree : Stmts} {n : ℕ} → Sound form tree n → (i c : Bool) (room : Room) (next : To Expr) (ts whole : Symbols) {u : Symbols} {x : Expr} (b : Bool) → Parts whole (word w.New b ∷ u) ts → are_regular ts ≡ true
    → fits_node room ≡ true → Operand form (inside room) i false ts u x → IsDone form tree n (after_new room c x next ts) → Read form tree (suc n) (Operands form room i c) next whole
new-behind S i c room next [] whole {u} {x} b wh r f (linked d) h = new-bare i c room x next [] whole u b wh r f (g.member d.is) d.fit refl h
new-behind S i c room next [] whole b wh r f (bare {u = v} {x = y} a d fit stops) h = new-bare i c room (Tree.New y Tree.NoExprs) next [] whole (word w.New a ∷ v) b wh r f (g.new_again a d) fit refl h
new-behind {form = form} {tree = tree} {n = n} S i c room next (t ∷ ts) whole {u} {x} b wh r f (linked d) h = at (new-case t.kind) h
  where
    at : NewCase t.kind → IsDone form tree n (new_by t.kind room c x next t ts) → Read form tree (suc n) (Operands form room i c) next whole
    at (with_arguments e) h = new-arguments S i c room x next t ts whole u b wh r f d e (become (ap (λ o. new_by o room c x next t ts) e) h)
    at (without passes stops) h = new-bare i c room x next (t ∷ ts) whole u b wh r f (g.member d.is) d.fit (stops d.stops) (become (passes room c x next t ts) h)
new-behind {form = form} {tree = tree} {n = n} S i c room next (t ∷ ts) whole b wh r f (bare {u = v} {x = y} a d fit stops) h = at (new-case t.kind) h
  where
    at : NewCase t.kind → IsDone form tree n (new_by t.kind room c (Tree.New y Tree.NoExprs) next t ts) → Read form tree (suc n) (Operands form room i c) next whole
    at (with_arguments e) h = let o = sym (ap (is_linked true) e) ∙ stops in absurd cc
    at (without passes others) h = new-bare i c room (Tree.New y Tree.NoExprs) next (t ∷ ts) whole (word w.New a ∷ v) b wh r f (g.new_again a d) fit stops (become (passes room c (Tree.New y Tree.NoExprs) next t ts) h)

new-read : {form : Form} {tree : Stmts} {n : ℕ} → Sound form tree n → (i c : Bool) (room : Room) (next : To Expr) (s : Symbol) (ts : Symbols) → are_regular (s ∷ ts) ≡ true → s.kind ≡ k.Word w.New
    → IsDone form tree n (operand_by form (k.Word w.New) room c next s ts) → Read form tree (suc n) (Operands form room i c) next (s ∷ ts)
new-read S i c room next s ts r e h =
    let f = fitted (fits_node room) ts (operand (inside room) false (λ x r. after_new room c x next r) ts) h in
    let x = S.operands i false (inside room) (λ x r. after_new room c x next r) ts (regular-rest s ts r) f.1 in
    new-behind S i c room next x.left (s ∷ ts) s.newline (ahead (known s ts (k.Word w.New) refl e r) x.whole) x.regular f.0 x.holds x.goes

-- ---- names and numbers

late-behind : {form : Form} {tree : Stmts} {n : ℕ} → Sound form tree n → (i c : Bool) (room : Room) (next : To Expr) (ts whole : Symbols) (b1 b2 b3 b4 : Bool)
    → Parts whole (name (codes "eval") b1 ∷ mark m.OpenParenthesis b2 ∷ name get_name b3 ∷ mark m.OpenParenthesis b4 ∷ []) ts → form ≡ Written → are_regular ts ≡ true
    → fits_node room ≡ true → IsDone form tree n (late_number room c next ts) → Read form tree (suc n) (Operands form room i c) next whole
late-behind S i c room next [] whole b1 b2 b3 b4 w in_form r f h = absurd (never h)
late-behind {form = form} {tree = tree} {n = n} S i c room next (t ∷ ts) whole b1 b2 b3 b4 w in_form r f h = at t.kind refl t.in_decimal refl h
  where
    at : (kind : TokenKind) → t.kind ≡ kind → (d : Bool) → t.in_decimal ≡ d → IsDone form tree n (late_by kind d room c next t ts) → Read form tree (suc n) (Operands form room i c) next whole
    at (k.Number o) e false e2 h = absurd (never h)
    at (k.Number o) e true e2 h =
        let a = guarded (is_function_number o) (t ∷ ts) (expect is_close_parenthesis (expect is_close_parenthesis (links room c (Tree.Late o) next)) ts) h in
        let close = met is_close_parenthesis (k.Mark m.CloseParenthesis) told-close refl (expect is_close_parenthesis (links room c (Tree.Late o) next)) ts (regular-rest t ts r) a.1 in
        let other = met is_close_parenthesis (k.Mark m.CloseParenthesis) told-close refl (links room c (Tree.Late o) next) close.others close.regular close.goes in
        let is = ap (λ o. record { kind = o; newline = t.newline; in_decimal = t.in_decimal } ∷ ts) e ∙ ap (λ d. record { kind = k.Number o; newline = t.newline; in_decimal = d } ∷ ts) e2 in
        as-operand (S.linkings i c room (Tree.Late o) next other.others whole
        (name (codes "eval") b1 ∷ mark m.OpenParenthesis b2 ∷ name get_name b3 ∷ mark m.OpenParenthesis b4 ∷ number o t.newline ∷ mark m.CloseParenthesis close.newline ∷ mark m.CloseParenthesis other.newline ∷ [])
        (behind w (ahead is (ahead close.is (one-read other.is)))) other.regular (g.late b1 b2 b3 b4 t.newline close.newline other.newline (chain-top c) in_form a.0) (leaf-in room f) other.goes)
    at (k.Word _) e d e2 h = absurd (never h)
    at (k.Name _) e d e2 h = absurd (never h)
    at (k.Str _) e d e2 h = absurd (never h)
    at (k.Mark _) e d e2 h = absurd (never h)
    at k.End e d e2 h = absurd (never h)

late-read : {form : Form} {tree : Stmts} {n : ℕ} → Sound form tree n → (i c : Bool) (room : Room) (next : To Expr) (s : Symbol) (ts : Symbols) → are_regular (s ∷ ts) ≡ true → s.kind ≡ k.Name (codes "eval")
    → form ≡ Written → IsDone form tree n (late room c next ts) → Read form tree (suc n) (Operands form room i c) next (s ∷ ts)
late-read S i c room next s ts r e in_form h =
    let f = fitted (fits_node room) ts (expect is_open_parenthesis (expect is_get (expect is_open_parenthesis (late_number room c next))) ts) h in
    let open1 = met is_open_parenthesis (k.Mark m.OpenParenthesis) told-open refl (expect is_get (expect is_open_parenthesis (late_number room c next))) ts (regular-rest s ts r) f.1 in
    let get = met is_get (k.Name get_name) told-get refl (expect is_open_parenthesis (late_number room c next)) open1.others open1.regular open1.goes in
    let open2 = met is_open_parenthesis (k.Mark m.OpenParenthesis) told-open refl (late_number room c next) get.others get.regular get.goes in
    late-behind S i c room next open2.others (s ∷ ts) s.newline open1.newline get.newline open2.newline
    (ahead (known s ts (k.Name (codes "eval")) refl e r) (ahead open1.is (ahead get.is (one-read open2.is)))) in_form open2.regular f.0 open2.goes

name-read : {form : Form} {tree : Stmts} {n : ℕ} → Sound form tree n → (i c : Bool) (room : Room) (o : Name) (a : Bool) (next : To Expr) (s : Symbol) (ts : Symbols) → are_regular (s ∷ ts) ≡ true → s.kind ≡ k.Name o → is_eval o ≡ a
    → IsDone form tree n (name_by a form o room c next s ts) → Read form tree (suc n) (Operands form room i c) next (s ∷ ts)
name-read {form = Source} S i c room o true next s ts r e f h = absurd (never h)
name-read {form = Written} S i c room o true next s ts r e f h = late-read S i c room next s ts r (e ∙ ap (λ o. k.Name o) (sym (spelled_same (codes "eval") o f))) refl h
name-read {form = form} S i c room o false next s ts r e f h = let a = guarded (is_reference form o) (s ∷ ts) (leaf room c (Tree.Ident o) next ts) h in
    leaf-read S i c room (Tree.Ident o) next s (name o s.newline) ts r (known s ts (k.Name o) refl e r) (g.identifier s.newline (lit≤ tt) a.0) (λ f. leaf-in room f) a.1

-- ---- operands

pub read-operands : {form : Form} {tree : Stmts} {n : ℕ} → Sound form tree n → (i c : Bool) (room : Room) (next : To Expr) (ts : Symbols) → are_regular ts ≡ true → IsDone form tree (suc n) (operand room c next ts)
    → Read form tree (suc n) (Operands form room i c) next ts
read-operands S i c room next [] r h = absurd (never (on h))
read-operands {form = form} {tree = tree} {n = n} S i c room next (s ∷ ts) r h = at s.kind refl (on h)
  where
    at : (kind : TokenKind) → s.kind ≡ kind → IsDone form tree n (operand_by form kind room c next s ts) → Read form tree (suc n) (Operands form room i c) next (s ∷ ts)
    at (k.Word w.New) e h = new-read S i c room next s ts r e h
    at (k.Word w.This) e h = leaf-read S i c room Tree.This next s (word w.This s.newline) ts r (known s ts (k.Word w.This) refl e r) (g.this s.newline (lit≤ tt)) (λ f. leaf-in room f) h
    at (k.Word w.Null) e h = leaf-read S i c room Tree.Null next s (word w.Null s.newline) ts r (known s ts (k.Word w.Null) refl e r) (g.null s.newline (lit≤ tt)) (λ f. leaf-in room f) h
    at (k.Word w.True) e h = leaf-read S i c room (Tree.Truth true) next s (word w.True s.newline) ts r (known s ts (k.Word w.True) refl e r) (g.truth s.newline (lit≤ tt)) (λ f. leaf-in room f) h
    at (k.Word w.False) e h = leaf-read S i c room (Tree.Truth false) next s (word w.False s.newline) ts r (known s ts (k.Word w.False) refl e r) (g.falsehood s.newline (lit≤ tt)) (λ f. leaf-in room f) h
    at (k.Word w.Function) e h = let f = fitted (fits_function room) ts (function form room c next ts) h in function-read S i c room next s ts r e f.0 f.1
    at (k.Name o) e h = name-read S i c room o (is_eval o) next s ts r e refl h
    at (k.Number o) e h = leaf-read S i c room (Tree.Num o) next s (number_in s.in_decimal o s.newline) ts r (ap (λ o. record { kind = o; newline = s.newline; in_decimal = s.in_decimal } ∷ ts) e) (g.numeral s.in_decimal s.newline (lit≤ tt)) (λ f. leaf-in room f) h
    at (k.Str text) e h = leaf-read S i c room (Tree.Str text) next s (string text s.newline) ts r (known s ts (k.Str text) refl e r) (g.literal s.newline (lit≤ tt)) (λ f. leaf-in room f) h
    at (k.Mark m.OpenBracket) e h = array-read S i c room next s ts r e h
    at (k.Mark m.OpenBrace) e h = object-read S i c room next s ts r e h
    at (k.Mark m.OpenParenthesis) e h = parenthesised-read S i c room next s ts r e h
    at _ e h = absurd (never h)

-- ---- links

dot-read : {form : Form} {tree : Stmts} {n : ℕ} → Sound form tree n → (i c : Bool) (room : Room) (x : Expr) (next : To Expr) (s : Symbol) (ts whole u : Symbols) → Parts whole u (s ∷ ts) → are_regular (s ∷ ts) ≡ true → Expression form i (chain c) u x → Fits room x
    → s.kind ≡ k.Mark m.Dot → fits_around room x ≡ true → IsDone form tree n (dot form room c x next ts) → Read form tree (suc n) (Linked form room i c) next whole
dot-read S i c room x next s [] whole u w r d fit e f h = absurd (never h)
dot-read {form = form} {tree = tree} {n = n} S i c room x next s (t ∷ ts) whole u w r d fit e f h = at t.kind refl h
  where
    at : (kind : TokenKind) → t.kind ≡ kind → IsDone form tree n (dot_by form kind room c x next t ts) → Read form tree (suc n) (Linked form room i c) next whole
    at (k.Name o) e2 h =
        let b = guarded (is_property form o) (t ∷ ts) (links room c (Tree.Dot x o) next ts) h in
        let r2 = regular-rest s (t ∷ ts) r in
        let a = around {room = room} x f fit in
        later (S.linkings i c room (Tree.Dot x o) next ts whole (u ++ (mark m.Dot s.newline ∷ (name o t.newline ∷ [])))
        (behind w (ahead (known s (t ∷ ts) (k.Mark m.Dot) refl e r) (one-read (known t ts (k.Name o) refl e2 r2)))) (regular-rest t ts r2)
        (g.dot (chain c) s.newline t.newline (chain-low c) (chain-high c) (chain-equal c) d b.0) (node-in a.0 a.1) b.1)
    at (k.Word _) e2 h = absurd (never h)
    at (k.Number _) e2 h = absurd (never h)
    at (k.Str _) e2 h = absurd (never h)
    at (k.Mark _) e2 h = absurd (never h)
    at k.End e2 h = absurd (never h)

index-read : {form : Form} {tree : Stmts} {n : ℕ} → Sound form tree n → (i c : Bool) (room : Room) (x : Expr) (next : To Expr) (s : Symbol) (ts whole u : Symbols) → Parts whole u (s ∷ ts) → are_regular (s ∷ ts) ≡ true → Expression form i (chain c) u x → Fits room x
    → s.kind ≡ k.Mark m.OpenBracket → IsDone form tree n (links_by form (k.Mark m.OpenBracket) room c x next s ts) → Read form tree (suc n) (Linked form room i c) next whole
index-read S i c room x next s ts whole u w r d fit e h =
    let f = fitted (fits_around room x) ts (comma (inside room) true (λ y. expect is_close_bracket (links room c (Tree.Index x y) next)) ts) h in
    let y = S.commas true (inside room) (λ y. expect is_close_bracket (links room c (Tree.Index x y) next)) ts (regular-rest s ts r) f.1 in
    let close = met is_close_bracket (k.Mark m.CloseBracket) told-bracket refl (links room c (Tree.Index x y.value) next) y.left y.regular y.goes in
    let a = around {room = room} x f.0 fit in
    later (S.linkings i c room (Tree.Index x y.value) next close.others whole (u ++ (mark m.OpenBracket s.newline ∷ (y.used ++ (mark m.CloseBracket close.newline ∷ []))))
    (behind w (ahead (known s ts (k.Mark m.OpenBracket) refl e r) (behind y.whole (one-read close.is)))) close.regular
    (g.index (chain c) s.newline close.newline (chain-low c) (chain-high c) (chain-equal c) d y.holds.is) (node-in a.0 (both-in a.1 y.holds.fit)) close.goes)

call-read : {form : Form} {tree : Stmts} {n : ℕ} → Sound form tree n → (i : Bool) (room : Room) (x : Expr) (next : To Expr) (s : Symbol) (ts whole u : Symbols) → Parts whole u (s ∷ ts) → are_regular (s ∷ ts) ≡ true → Expression form i 17 u x → Fits room x
    → s.kind ≡ k.Mark m.OpenParenthesis → IsDone form tree n (links_by form (k.Mark m.OpenParenthesis) room true x next s ts) → Read form tree (suc n) (Linked form room i true) next whole
call-read S i room x next s ts whole u w r d fit e h =
    let f = fitted (fits_around room x) ts (arguments (inside room) (λ xs. expect is_close_parenthesis (links room true (Tree.Call x xs) next)) ts) h in
    let xs = S.argumented (inside room) (λ xs. expect is_close_parenthesis (links room true (Tree.Call x xs) next)) ts (regular-rest s ts r) f.1 in
    let close = met is_close_parenthesis (k.Mark m.CloseParenthesis) told-close refl (links room true (Tree.Call x xs.value) next) xs.left xs.regular xs.goes in
    let a = around {room = room} x f.0 fit in
    later (S.linkings i true room (Tree.Call x xs.value) next close.others whole (u ++ (mark m.OpenParenthesis s.newline ∷ (xs.used ++ (mark m.CloseParenthesis close.newline ∷ []))))
    (behind w (ahead (known s ts (k.Mark m.OpenParenthesis) refl e r) (behind xs.whole (one-read close.is)))) close.regular
    (g.call (lit≤ tt) d (xs.holds.is s.newline close.newline)) (node-in a.0 (both-in a.1 xs.holds.fit)) close.goes)

pub read-linkings : {form : Form} {tree : Stmts} {n : ℕ} → Sound form tree n → (i c : Bool) (room : Room) (x : Expr) (next : To Expr) (ts whole u : Symbols) → Parts whole u ts → are_regular ts ≡ true → Expression form i (chain c) u x → Fits room x
    → IsDone form tree (suc n) (links room c x next ts) → Read form tree (suc n) (Linked form room i c) next whole
read-linkings S i c room x next [] whole u w r d fit h = record { used = u; left = []; value = x; whole = w; regular = r; holds = record { is = d; fit = fit; stops = refl }; goes = padded (on h) }
read-linkings {form = form} {tree = tree} {n = n} S i c room x next (s ∷ ts) whole u w r d fit h = at c (links-case s.kind c) d (on h)
  where
    at : (c : Bool) → LinksCase c s.kind → Expression form i (chain c) u x → IsDone form tree n (links_by form s.kind room c x next s ts) → Read form tree (suc n) (Linked form room i c) next whole
    at c (dotted e) d h = let f = fitted (fits_around room x) ts (dot form room c x next ts) (become (ap (λ o. links_by form o room c x next s ts) e) h) in dot-read S i c room x next s ts whole u w r d fit e f.0 f.1
    at c (indexed e) d h = index-read S i c room x next s ts whole u w r d fit e (become (ap (λ o. links_by form o room c x next s ts) e) h)
    at true (called e f) d h = call-read S i room x next s ts whole u w r d fit e (become (ap (λ o. links_by form o room true x next s ts) e) h)
    at false (called e f) d h = absurd cc
    at c (ended passes stops) d h = record { used = u; left = s ∷ ts; value = x; whole = w; regular = r; holds = record { is = d; fit = fit; stops = stops }; goes = padded (become (passes form room x next s ts) h) }
