-- What the machine reads has a tree by the grammar: ends of statements, blocks, jumps, and statements of an expression.
use Rattle.std.proofs.Common.{◌≡◌, ◌≢◌, ℕ, suc, ◌-◌, ◌≤◌, ◌<◌, not, Bool, true, false, ◌&&◌, ◌||◌, List, [], ◌∷◌, ◌++◌, Option, Some, None, refl, ap, sym, ◌∙◌, subst, arith, lit≤}
use Rattle.std.proofs.lemmas.Bool.{le-leb, leb-true, not-true}
use Rattle.js_lexer.specs.declared.mark.Mark.TheVariants as m
use Rattle.js_lexer.specs.declared.word.Word.TheVariants as w
use Rattle.js_lexer.specs.declared.token.TokenKind.{TokenKind}
use Rattle.js_lexer.specs.declared.token.TokenKind.TheVariants as k
use Rattle.js_tree.specs.Tree.{Name, Expr, Stmt, Stmts, VarItems}
use Rattle.js_tree.specs.Tree
use Rattle.js_parser.specs.declared.form.Form.{Form}
use Rattle.js_parser.specs.Symbols.{Symbol, Symbols, are_regular, mark, name, first}
use Rattle.js_parser.specs.Names.{is_reference, is_among}
use Rattle.js_parser.specs.Contexts.{Context}
use Rattle.js_parser.specs.Contexts as context
use Rattle.js_parser.specs.Ends.{Ends, EndsAtOnce, ends_changed, reach, list_reach}
use Rattle.js_parser.specs.Ends as e
use Rattle.js_tree.specs.Heights.{expr_height, stmt_height}
use Rattle.js_tree.specs.Depth.{by_nodes, by_functions}
use Rattle.js_parser.specs.Grammar.{Block, Statement, StatementList}
use Rattle.js_parser.specs.Grammar as g
use Rattle.js_parser.specs.Rooms.{Room, one_less, inside, fits, fits_node}
use Rattle.js_parser.specs.Machine.{State, list, To, guard, expect, is_open_brace, is_close_brace, is_semicolon, is_end, ended, ended_by, ended_at_once, may_insert, stated, braces, block, jump, jump_by}
use Rattle.js_parser.proofs.Levels.{is_empty, expression-tokens}
use Rattle.js_parser.proofs.ReadTrees.{IsDone, padded, never, guarded, fitted, left-of, right-of, regular-rest, known, Parts, unread, ahead, behind, one-read, met, front, node-in, Fits, Derived, Read, past, ReadStatement, Sound}
use Rattle.js_parser.proofs.ReadKinds.{told-brace, told-closed, told-semicolon, told-end}
use Rattle.js_parser.proofs.ReadListTrees.{on-line}

-- ---- ends

-- the end of a statement that the token behind it goes on with to this level
pub record Ended (form : Form) (tree : Stmts) (n : ℕ) (reached : Symbol → ℕ) (next : Symbols → State) (ts : Symbols) : Type 0 where
  pub used : Symbols
  pub left : Symbols
  pub whole : Parts ts used left
  pub regular : are_regular left ≡ true
  pub ends : Ends (reached (front left)) (front left) used
  pub goes : IsDone form tree n (next left)

not-semicolon : (kind : TokenKind) → is_semicolon kind ≡ false → kind ≢ k.Mark m.Semicolon
not-semicolon kind h a = let c = sym (ap is_semicolon a) ∙ h in cc

end-by : (s : Symbol) (reached : ℕ) (newline closed finished : Bool) → s.newline ≡ newline → is_close_brace s.kind ≡ closed → is_end s.kind ≡ finished → (newline || (closed || finished)) ≡ true → is_semicolon s.kind ≡ false
    → (s.newline ≡ true → reached ≡ 0) → Ends reached s []
end-by s reached true closed finished a b c h plain stop = e.at_line a (stop a) (not-semicolon s.kind plain)
end-by s reached false true finished a b c h plain stop = e.at_brace (told-closed s.kind b)
end-by s reached false false true a b c h plain stop = e.at_end (told-end s.kind c)
end-by s reached false false false a b c h plain stop = cc

pub end-read : {form : Form} {tree : Stmts} {n : ℕ} (reached : Symbol → ℕ) (next : Symbols → State) (ts : Symbols) → are_regular ts ≡ true → ((front ts).newline ≡ true → reached (front ts) ≡ 0) → IsDone form tree n (ended next ts) → Ended form tree n reached next ts
end-read reached next [] r stop h = record { used = []; left = []; whole = unread; regular = r; ends = e.at_end refl; goes = h }
end-read {form = form} {tree = tree} {n = n} reached next (s ∷ ts) r stop h = at (is_semicolon s.kind) (may_insert s) refl refl h
  where
    at : (a b : Bool) → is_semicolon s.kind ≡ a → may_insert s ≡ b → IsDone form tree n (ended_by a b next s ts) → Ended form tree n reached next (s ∷ ts)
    at true b f o h = record {
      used = mark m.Semicolon s.newline ∷ [];
      left = ts;
      whole = one-read (known s ts (k.Mark m.Semicolon) refl (told-semicolon s.kind f) r);
      regular = regular-rest s ts r;
      ends = e.written s.newline;
      goes = h;
    }
    at false true f o h = record {
      used = [];
      left = s ∷ ts;
      whole = unread;
      regular = r;
      ends = end-by s (reached s) s.newline (is_close_brace s.kind) (is_end s.kind) refl refl refl o f stop;
      goes = h;
    }
    at false false f o h = absurd (never h)

-- the end directly behind a word
pub record EndedAtOnce (form : Form) (tree : Stmts) (n : ℕ) (next : Symbols → State) (ts : Symbols) : Type 0 where
  pub used : Symbols
  pub left : Symbols
  pub whole : Parts ts used left
  pub regular : are_regular left ≡ true
  pub ends : EndsAtOnce (front left) used
  pub goes : IsDone form tree n (next left)

once-by : (s : Symbol) (newline closed finished : Bool) → s.newline ≡ newline → is_close_brace s.kind ≡ closed → is_end s.kind ≡ finished → (newline || (closed || finished)) ≡ true → EndsAtOnce s []
once-by s true closed finished a b c h = e.before_line a
once-by s false true finished a b c h = e.before_brace (told-closed s.kind b)
once-by s false false true a b c h = e.before_end (told-end s.kind c)
once-by s false false false a b c h = cc

-- a semicolon on the line
pub on-the-line : {s : Symbol} {ts : Symbols} → (s ∷ ts) ≡ (mark m.Semicolon s.newline ∷ ts) → s.newline ≡ false → (s ∷ ts) ≡ (mark m.Semicolon false ∷ ts)
on-the-line {s = s} {ts = ts} a b = a ∙ ap (λ newline. mark m.Semicolon newline ∷ ts) b

pub at-once-read : {form : Form} {tree : Stmts} {n : ℕ} (next : Symbols → State) (ts : Symbols) → are_regular ts ≡ true → IsDone form tree n (ended_at_once next ts) → EndedAtOnce form tree n next ts
at-once-read next [] r h = record { used = []; left = []; whole = unread; regular = r; ends = e.before_end refl; goes = h }
at-once-read {form = form} {tree = tree} {n = n} next (s ∷ ts) r h = at (is_semicolon s.kind && not s.newline) (may_insert s) refl refl h
  where
    at : (a b : Bool) → (is_semicolon s.kind && not s.newline) ≡ a → may_insert s ≡ b → IsDone form tree n (ended_by a b next s ts) → EndedAtOnce form tree n next (s ∷ ts)
    at true b f o h = record {
      used = mark m.Semicolon false ∷ [];
      left = ts;
      whole = one-read (on-the-line (known s ts (k.Mark m.Semicolon) refl (told-semicolon s.kind (left-of (is_semicolon s.kind) (not s.newline) f)) r) (not-true s.newline (right-of (is_semicolon s.kind) (not s.newline) f)));
      regular = regular-rest s ts r;
      ends = e.semicolon;
      goes = h;
    }
    at false true f o h = record { used = []; left = s ∷ ts; whole = unread; regular = r; ends = once-by s s.newline (is_close_brace s.kind) (is_end s.kind) refl refl refl o; goes = h }
    at false false f o h = absurd (never h)

-- ---- what begins, and what is inside

-- the first token of what is read
pub first-is : {s : Symbol} {ts left : Symbols} (u : Symbols) (next : Symbol) → is_empty u ≡ false → Parts (s ∷ ts) u left → first u next ≡ s
first-is [] next some h = cc
first-is (t ∷ u) next some h = sym (ap front h.are)

zero-of : (n : ℕ) → n < 1 → n ≡ 0
zero-of n h = omega arith

-- nothing goes on with it on a new line
pub none-on-line : (u : Symbols) (s : Symbol) → past true (ends_changed u) s.kind < 1 → s.newline ≡ true → reach u s ≡ 0
none-on-line u s h newline = zero-of (reach u s) (on-line true u s 1 refl newline h)

has-node : (x : Expr) → 1 ≤ expr_height by_nodes x
has-node (Tree.Num o) = lit≤ tt
has-node (Tree.Str text) = lit≤ tt
has-node (Tree.Truth b) = lit≤ tt
has-node Tree.Null = lit≤ tt
has-node Tree.This = lit≤ tt
has-node (Tree.Ident o) = lit≤ tt
has-node (Tree.Array es) = omega arith
has-node (Tree.Object ps) = omega arith
has-node (Tree.Function f) = omega arith
has-node (Tree.Dot x o) = omega arith
has-node (Tree.Index x y) = omega arith
has-node (Tree.Call x xs) = omega arith
has-node (Tree.New x xs) = omega arith
has-node (Tree.Postfix x op) = omega arith
has-node (Tree.Prefix op x) = omega arith
has-node (Tree.Binary op x y) = omega arith
has-node (Tree.And x y) = omega arith
has-node (Tree.Or x y) = omega arith
has-node (Tree.Comma x y) = omega arith
has-node (Tree.Cond x y z) = omega arith
has-node (Tree.Assign op x y) = omega arith
has-node (Tree.Late o) = lit≤ tt

fits-outside : (most : Option ℕ) (d : ℕ) → 1 ≤ d → fits (one_less most) d ≡ true → fits most 1 ≡ true
fits-outside None d a h = refl
fits-outside (Some most) d a h = let c = leb-true d (most - 1) h in le-leb 1 most (omega arith)

-- around an expression that has room there is room for a node
pub outside : (room : Room) (x : Expr) → Fits (inside room) x → fits_node room ≡ true
outside room x h = fits-outside room.depth (expr_height by_nodes x) (has-node x) h.deep

-- no statement of an expression begins so
abbrev pub opens_other : TokenKind → Bool
opens_other (k.Mark m.OpenBrace) = true
opens_other (k.Word w.Function) = true
opens_other _ = false

not-brace : (kind : TokenKind) → opens_other kind ≡ false → kind ≢ k.Mark m.OpenBrace
not-brace kind h a = let c = sym (ap opens_other a) ∙ h in cc

not-function : (kind : TokenKind) → opens_other kind ≡ false → kind ≢ k.Word w.Function
not-function kind h a = let c = sym (ap opens_other a) ∙ h in cc

pub stated-read : {form : Form} {tree : Stmts} {n : ℕ} → Sound form tree n → (room : Room) (c : Context) (next : To Stmt) (s : Symbol) (ts : Symbols) → are_regular (s ∷ ts) ≡ true → opens_other s.kind ≡ false
    → IsDone form tree n (stated room next (s ∷ ts)) → Read form tree (suc n) (ReadStatement form room c) next (s ∷ ts)
stated-read S room c next s ts r other h =
    let x = S.commas true (inside room) (λ x r. ended (next (Tree.Do x)) r) (s ∷ ts) r h in
    let o = end-read (λ t. reach x.used t) (next (Tree.Do x.value)) x.left x.regular (none-on-line x.used (front x.left) x.holds.stops) x.goes in
    let begins = first-is x.used (front o.left) (expression-tokens x.holds.is) x.whole in
    record {
      used = x.used ++ o.used;
      left = o.left;
      value = Tree.Do x.value;
      whole = behind x.whole o.whole;
      regular = o.regular;
      holds = record { is = g.expression x.holds.is (not-brace _ (ap (λ t. opens_other t.kind) begins ∙ other)) (not-function _ (ap (λ t. opens_other t.kind) begins ∙ other)) o.ends; fit = node-in (outside room x.value x.holds.fit) x.holds.fit };
      goes = padded o.goes;
    }

-- ---- blocks

abbrev pub ReadBlock : Form → Room → Context → Symbols → Symbols → Stmt → Type 0
ReadBlock form room c used left s = Derived room (stmt_height by_nodes s) (stmt_height by_functions s) (Block form c used s)

pub braces-read : {form : Form} {tree : Stmts} {n : ℕ} → Sound form tree n → (room : Room) (c : Context) (next : To Stmt) (ts whole : Symbols) (b : Bool) → Parts whole (mark m.OpenBrace b ∷ []) ts → are_regular ts ≡ true
    → IsDone form tree n (braces room c next ts) → Read form tree n (ReadBlock form room c) next whole
braces-read {form = form} S room c next ts whole b parts r h =
    let f = fitted (fits_node room) ts (list (inside room) (context.part c) (λ ss. expect is_close_brace (next (Tree.Block ss))) ts) h in
    let ss = S.lists (inside room) (context.part c) (λ ss. expect is_close_brace (next (Tree.Block ss))) ts r f.1 in
    let close = met is_close_brace (k.Mark m.CloseBrace) told-closed refl (next (Tree.Block ss.value)) ss.left ss.regular ss.goes in
    record {
      used = mark m.OpenBrace b ∷ (ss.used ++ (mark m.CloseBrace close.newline ∷ []));
      left = close.others;
      value = Tree.Block ss.value;
      whole = behind parts (behind ss.whole (one-read close.is));
      regular = close.regular;
      holds = record { is = g.braces b close.newline (subst (λ s. StatementList form (context.part c) ss.used s ss.value) (ap front close.is) ss.holds.is); fit = node-in f.0 ss.holds.fit };
      goes = close.goes;
    }

pub block-read : {form : Form} {tree : Stmts} {n : ℕ} → Sound form tree n → (room : Room) (c : Context) (next : To Stmt) (ts : Symbols) → are_regular ts ≡ true → IsDone form tree n (block room c next ts)
    → Read form tree n (ReadBlock form room c) next ts
block-read S room c next ts r h = let open1 = met is_open_brace (k.Mark m.OpenBrace) told-brace refl (braces room c next) ts r h in
    braces-read S room c next open1.others ts open1.newline (one-read open1.is) open1.regular open1.goes

-- ---- jumps

-- behind `continue` or `break`
pub data Jumped (form : Form) (may : Bool) (names : List Name) (left : Symbols) : Symbols → Option Name → Type 0 where
  at_once : {u : Symbols} → may ≡ true → EndsAtOnce (front left) u → Jumped form may names left u None
  to_label : {u : Symbols} (o : Name) → is_reference form o ≡ true → is_among o names ≡ true → Ends 0 (front left) u → Jumped form may names left (name o false ∷ u) (Some o)

abbrev pub Jumps : Form → Bool → List Name → Symbols → Symbols → Option Name → Type 0
Jumps form may names used left label = Jumped form may names left used label

abbrev to_made : (Option Name → Stmt) → To Stmt → To (Option Name)
to_made made next label left = next (made label) left

jump-once : {form : Form} {tree : Stmts} {n : ℕ} (may : Bool) (names : List Name) (made : Option Name → Stmt) (next : To Stmt) (s : Symbol) (ts : Symbols) → are_regular (s ∷ ts) ≡ true
    → IsDone form tree n (guard may (s ∷ ts) (ended_at_once (next (made None)) (s ∷ ts))) → Read form tree n (Jumps form may names) (to_made made next) (s ∷ ts)
jump-once may names made next s ts r h =
    let a = guarded may (s ∷ ts) (ended_at_once (next (made None)) (s ∷ ts)) h in
    let o = at-once-read (next (made None)) (s ∷ ts) r a.1 in
    record { used = o.used; left = o.left; value = None; whole = o.whole; regular = o.regular; holds = at_once a.0 o.ends; goes = o.goes }

jump-label : {form : Form} {tree : Stmts} {n : ℕ} (may : Bool) (names : List Name) (made : Option Name → Stmt) (next : To Stmt) (s : Symbol) (ts : Symbols) (o : Name) → are_regular (s ∷ ts) ≡ true → s.kind ≡ k.Name o → s.newline ≡ false
    → IsDone form tree n (jump_by form (k.Name o) false may names made next s ts) → Read form tree n (Jumps form may names) (to_made made next) (s ∷ ts)
jump-label {form = form} may names made next s ts o r e f h =
    let a = guarded (is_reference form o && is_among o names) (s ∷ ts) (ended (next (made (Some o))) ts) h in
    let d = end-read (λ t. 0) (next (made (Some o))) ts (regular-rest s ts r) (λ newline. refl) a.1 in
    record {
      used = name o false ∷ d.used;
      left = d.left;
      value = Some o;
      whole = ahead (known s ts (k.Name o) refl e r ∙ ap (λ newline. name o newline ∷ ts) f) d.whole;
      regular = d.regular;
      holds = to_label o (left-of (is_reference form o) (is_among o names) a.0) (right-of (is_reference form o) (is_among o names) a.0) d.ends;
      goes = d.goes;
    }

pub jump-read : {form : Form} {tree : Stmts} {n : ℕ} (may : Bool) (names : List Name) (made : Option Name → Stmt) (next : To Stmt) (ts : Symbols) → are_regular ts ≡ true → IsDone form tree n (jump form may names made next ts)
    → Read form tree n (Jumps form may names) (to_made made next) ts
jump-read may names made next [] r h = let a = guarded may [] (next (made None) []) h in
    record { used = []; left = []; value = None; whole = unread; regular = r; holds = at_once a.0 (e.before_end refl); goes = a.1 }
jump-read {form = form} {tree = tree} {n = n} may names made next (s ∷ ts) r h = at s.kind s.newline refl refl h
  where
    at : (kind : TokenKind) (newline : Bool) → s.kind ≡ kind → s.newline ≡ newline → IsDone form tree n (jump_by form kind newline may names made next s ts) → Read form tree n (Jumps form may names) (to_made made next) (s ∷ ts)
    at (k.Name o) false e f h = jump-label may names made next s ts o r e f h
    at (k.Name o) true e f h = jump-once may names made next s ts r h
    at (k.Word _) newline e f h = jump-once may names made next s ts r h
    at (k.Number _) newline e f h = jump-once may names made next s ts r h
    at (k.Str _) newline e f h = jump-once may names made next s ts r h
    at (k.Mark _) newline e f h = jump-once may names made next s ts r h
    at k.End newline e f h = jump-once may names made next s ts r h
