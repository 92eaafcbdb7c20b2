-- What the machine reads has a tree by the grammar: what is said of each state of a run that is done.
use Rattle.std.proofs.Common.{if◌then◌else◌, ◌≡◌, ℕ, zero, suc, ◌-◌, ◌≤◌, ◌<◌, max, Bool, true, false, ◌&&◌, List, [], ◌∷◌, ◌++◌, Option, Some, None, refl, ap, sym, ◌∙◌, subst, arith}
use Rattle.std.proofs.lemmas.List.{append_assoc}
use Rattle.std.proofs.lemmas.Bool.{le-leb, leb-true}
use Rattle.std.proofs.Math.Nat.{max-le}
use Rattle.js_lexer.specs.declared.mark.Mark.TheVariants as m
use Rattle.js_lexer.specs.declared.word.Word.TheVariants as w
use Rattle.js_lexer.specs.declared.token.TokenKind.{TokenKind}
use Rattle.js_lexer.specs.declared.token.TokenKind.TheVariants as k
use Rattle.js_tree.specs.Tree.{Name, Expr, Exprs, MaybeExpr, Elements, Pairs, Stmt, Stmts, VarItems, Cases}
use Rattle.js_tree.specs.Tree
use Rattle.js_parser.specs.declared.form.Form.{Form}
use Rattle.js_parser.specs.Symbols.{Symbol, Symbols, is_regular, are_regular, of_kind, word, mark, first, end}
use Rattle.js_parser.specs.Names.{is_distinct}
use Rattle.js_parser.specs.Contexts.{Context}
use Rattle.js_parser.specs.Ends.{ends_changed, kind_reach, list_reach, declarator_reach}
use Rattle.js_tree.specs.Heights.{expr_height, exprs_height, maybe_expr_height, elements_height, pairs_height, stmt_height, stmts_height, var_items_height, cases_height}
use Rattle.js_tree.specs.Depth.{by_nodes, by_functions}
use Rattle.js_parser.specs.Grammar.{Formals, Expression, NewCallee, Arguments, ArgumentList, ElementList, PropertyList, FunctionRest, Declarator, DeclaratorList, OptionalExpression, Statement, StatementList, CaseClauses, SourceElements}
use Rattle.js_parser.specs.Rooms.{Room, one_less, inside, in_function, fits, fits_node, fits_around, fits_function}
use Rattle.js_parser.specs.Machine.{State, done, stuck, deep, comma, comma_tail, assign, choice, climb, tail, unary, postfix, operand, links, arguments, argument_list, elements, pairs, rest, formals, formal, declarator, declarators, optional, statement, list, source, clauses, To, guard, fitting, expect, step, run}

-- ---- runs

-- the run of so many steps is done with this tree
pub record IsDone (form : Form) (tree : Stmts) (n : ℕ) (s : State) : Type 0 where
  pub goes : run form n s ≡ done tree

pub on : {form : Form} {tree : Stmts} {n : ℕ} {s : State} → IsDone form tree (suc n) s → IsDone form tree n (step form s)
on h = record { goes = h.goes }

run-step : (form : Form) (n : ℕ) (s : State) → run form n (step form s) ≡ step form (run form n s)
run-step form zero s = refl
run-step form (suc n) s = run-step form n (step form s)

-- a further step changes nothing
pub padded : {form : Form} {tree : Stmts} {n : ℕ} {s : State} → IsDone form tree n s → IsDone form tree (suc n) s
padded {form = form} {n = n} {s = s} h = record { goes = run-step form n s ∙ ap (step form) h.goes }

stays-stuck : (form : Form) (n : ℕ) (left : Symbols) → run form n (stuck left) ≡ stuck left
stays-stuck form zero left = refl
stays-stuck form (suc n) left = stays-stuck form n left

stays-deep : (form : Form) (n : ℕ) (left : Symbols) → run form n (deep left) ≡ deep left
stays-deep form zero left = refl
stays-deep form (suc n) left = stays-deep form n left

pub never : {form : Form} {tree : Stmts} {n : ℕ} {left : Symbols} → IsDone form tree n (stuck left) → ⊥
never {form = form} {n = n} {left = left} h = let e = sym (stays-stuck form n left) ∙ h.goes in cc

pub not-deep : {form : Form} {tree : Stmts} {n : ℕ} {left : Symbols} → IsDone form tree n (deep left) → ⊥
not-deep {form = form} {n = n} {left = left} h = let e = sym (stays-deep form n left) ∙ h.goes in cc

-- where a condition is tested, it holds
pub guarded : {form : Form} {tree : Stmts} {n : ℕ} (a : Bool) (left : Symbols) (s : State) → IsDone form tree n (guard a left s) → (a ≡ true) × IsDone form tree n s
guarded true left s h = (refl, h)
guarded false left s h = absurd (never h)

-- where room is asked for, there is some
pub fitted : {form : Form} {tree : Stmts} {n : ℕ} (a : Bool) (left : Symbols) (s : State) → IsDone form tree n (fitting a left s) → (a ≡ true) × IsDone form tree n s
fitted true left s h = (refl, h)
fitted false left s h = absurd (not-deep h)

-- ---- tokens

pub right-of : (a c : Bool) → (a && c) ≡ true → c ≡ true
right-of true c h = h
right-of false c h = cc

pub left-of : (a c : Bool) → (a && c) ≡ true → a ≡ true
left-of true c h = refl
left-of false c h = h

pub regular-rest : (s : Symbol) (ts : Symbols) → are_regular (s ∷ ts) ≡ true → are_regular ts ≡ true
regular-rest s ts h = right-of (is_regular s.kind s.in_decimal) (are_regular ts) h

-- a symbol of a kind other than the numbers' is told by its kind
pub known : (s : Symbol) (ts : Symbols) (kind : TokenKind) → is_regular kind false ≡ false → s.kind ≡ kind → are_regular (s ∷ ts) ≡ true → (s ∷ ts) ≡ (of_kind kind s.newline ∷ ts)
known s ts kind a e h =
    let d : is_regular kind s.in_decimal ≡ true = subst (λ o. is_regular o s.in_decimal ≡ true) e (left-of (is_regular s.kind s.in_decimal) (are_regular ts) h) in
    ap (λ o. record { kind = o; newline = s.newline; in_decimal = s.in_decimal } ∷ ts) e ∙ ap (λ o. record { kind = kind; newline = s.newline; in_decimal = o } ∷ ts) (at s.in_decimal d)
  where
    at : (d : Bool) → is_regular kind d ≡ true → d ≡ true
    at true i = refl
    at false i = let f : true ≡ false = sym i ∙ a in cc

-- the tokens are these, and then those that are left
pub record Parts (whole used left : Symbols) : Type 0 where
  pub are : whole ≡ used ++ left

pub unread : {ts : Symbols} → Parts ts [] ts
unread = record { are = refl }

pub ahead : {ts r used left : Symbols} {s : Symbol} → ts ≡ s ∷ r → Parts r used left → Parts ts (s ∷ used) left
ahead {s = s} e f = record { are = e ∙ ap (λ o. s ∷ o) f.are }

pub behind : {ts middle u v left : Symbols} → Parts ts u middle → Parts middle v left → Parts ts (u ++ v) left
behind {u = u} {v = v} {left = left} e f = record { are = e.are ∙ ap (λ o. u ++ o) f.are ∙ sym (append_assoc u v left) }

pub one-read : {ts r : Symbols} {s : Symbol} → ts ≡ s ∷ r → Parts ts (s ∷ []) r
one-read e = ahead e unread

-- the token that is expected
pub record Met (form : Form) (tree : Stmts) (n : ℕ) (kind : TokenKind) (next : Symbols → State) (ts : Symbols) : Type 0 where
  pub newline : Bool
  pub others : Symbols
  pub is : ts ≡ of_kind kind newline ∷ others
  pub regular : are_regular others ≡ true
  pub goes : IsDone form tree n (next others)

pub met : {form : Form} {tree : Stmts} {n : ℕ} (test : TokenKind → Bool) (kind : TokenKind) → ((o : TokenKind) → test o ≡ true → o ≡ kind) → is_regular kind false ≡ false → (next : Symbols → State) (ts : Symbols)
    → are_regular ts ≡ true → IsDone form tree n (expect test next ts) → Met form tree n kind next ts
met test kind told a next [] r h = absurd (never h)
met test kind told a next (s ∷ ts) r h = let d = guarded (test s.kind) (s ∷ ts) (next ts) h in
    record {
      newline = s.newline;
      others = ts;
      is = known s ts kind a (told s.kind d.0) r;
      regular = regular-rest s ts r;
      goes = d.1;
    }

-- the token that follows
abbrev pub front : Symbols → Symbol
front ts = first ts (end false)

pub front-join : (u v : Symbols) → front (u ++ v) ≡ first u (front v)
front-join [] v = refl
front-join (s ∷ u) v = refl

-- ---- rooms

-- a tree of this depth and nesting has room
pub record Within (room : Room) (d o : ℕ) : Type 0 where
  pub deep : fits room.depth d ≡ true
  pub nested : fits room.nesting o ≡ true

fits-max : (most : Option ℕ) (d e : ℕ) → fits most d ≡ true → fits most e ≡ true → fits most (max d e) ≡ true
fits-max None d e h i = refl
fits-max (Some most) d e h i = le-leb (max d e) most (max-le (leb-true d most h) (leb-true e most i))

fits-suc : (most : Option ℕ) (d : ℕ) → fits most 1 ≡ true → fits (one_less most) d ≡ true → fits most (suc d) ≡ true
fits-suc None d h i = refl
fits-suc (Some most) d h i = let a = leb-true 1 most h in let c = leb-true d (most - 1) i in le-leb (suc d) most (omega arith)

fits-none : (most : Option ℕ) → fits most 0 ≡ true
fits-none None = refl
fits-none (Some most) = le-leb 0 most (omega arith)

fits-one : (most : Option ℕ) (d : ℕ) → fits most (suc d) ≡ true → (fits most 1 ≡ true) × (fits (one_less most) d ≡ true)
fits-one None d h = (refl, refl)
fits-one (Some most) d h = let a = leb-true (suc d) most h in (le-leb 1 most (omega arith), le-leb d (most - 1) (omega arith))

pub nothing-in : (room : Room) → Within room 0 0
nothing-in room = record { deep = fits-none room.depth; nested = fits-none room.nesting }

pub both-in : {room : Room} {d o e p : ℕ} → Within room d o → Within room e p → Within room (max d e) (max o p)
both-in {room = room} {d = d} {o = o} {e = e} {p = p} h i = record {
  deep = fits-max room.depth d e h.deep i.deep;
  nested = fits-max room.nesting o p h.nested i.nested;
}

pub node-in : {room : Room} {d o : ℕ} → fits_node room ≡ true → Within (inside room) d o → Within room (suc d) o
node-in {room = room} {d = d} f h = record { deep = fits-suc room.depth d f h.deep; nested = h.nested }

pub leaf-in : (room : Room) → fits_node room ≡ true → Within room 1 0
leaf-in room f = record { deep = f; nested = fits-none room.nesting }

pub function-in : {room : Room} {d o : ℕ} → fits_function room ≡ true → Within (in_function room) d o → Within room (suc d) (suc o)
function-in {room = room} {d = d} {o = o} f h = record {
  deep = fits-suc room.depth d (left-of (fits room.depth 1) (fits room.nesting 1) f) h.deep;
  nested = fits-suc room.nesting o (right-of (fits room.depth 1) (fits room.nesting 1) f) h.nested;
}

abbrev pub Fits : Room → Expr → Type 0
Fits room x = Within room (expr_height by_nodes x) (expr_height by_functions x)

-- where a node fits around an expression
pub around : {room : Room} (x : Expr) → fits_around room x ≡ true → Fits room x → (fits_node room ≡ true) × Fits (inside room) x
around {room = room} x f h = let d = fits-one room.depth (expr_height by_nodes x) f in
    (d.0, record { deep = d.1; nested = h.nested })

-- ---- what is read

-- a derivation, of a tree that has room
pub record Derived (room : Room) (d o : ℕ) (D : Type 0) : Type 0 where
  pub is : D
  pub fit : Within room d o

-- The tokens that a state has read of these, with what comes of them, and what holds of both and of
-- the tokens that are left.
pub record Read {A : Type 0} (form : Form) (tree : Stmts) (n : ℕ) (P : Symbols → Symbols → A → Type 0) (next : To A) (ts : Symbols) : Type 0 where
  pub used : Symbols
  pub left : Symbols
  pub value : A
  pub whole : Parts ts used left
  pub regular : are_regular left ≡ true
  pub holds : P used left value
  pub goes : IsDone form tree n (next value left)

pub later : {A : Type 0} {form : Form} {tree : Stmts} {n : ℕ} {P : Symbols → Symbols → A → Type 0} {next : To A} {ts : Symbols} → Read form tree n P next ts → Read form tree (suc n) P next ts
later r = record {
  used = r.used;
  left = r.left;
  value = r.value;
  whole = r.whole;
  regular = r.regular;
  holds = r.holds;
  goes = padded r.goes;
}

-- The level to which a token goes on behind an expression, where the operator `in` may come or not,
-- but for `++` and `--`, which may stand on the next line.
abbrev pub past : Bool → Bool → TokenKind → ℕ
past i c (k.Word w.In) = if i then 10 else 0
past i c kind = kind_reach c true kind

-- an expression of a level, and no token follows that goes on with it to `stop` or higher
pub record Expressed (form : Form) (room : Room) (i : Bool) (l stop : ℕ) (used left : Symbols) (x : Expr) : Type 0 where
  pub is : Expression form i l used x
  pub fit : Fits room x
  pub stops : past i (ends_changed used) (front left).kind < stop

-- the token is linked to what stands before it, as a call or without
abbrev pub is_linked : Bool → TokenKind → Bool
is_linked c (k.Mark m.Dot) = true
is_linked c (k.Mark m.OpenBracket) = true
is_linked c (k.Mark m.OpenParenthesis) = c
is_linked c _ = false

-- the level of what is linked
abbrev pub chain : Bool → ℕ
chain true = 17
chain false = 18

pub record Linked (form : Form) (room : Room) (i c : Bool) (used left : Symbols) (x : Expr) : Type 0 where
  pub is : Expression form i (chain c) used x
  pub fit : Fits room x
  pub stops : is_linked c (front left).kind ≡ false

-- an operand, or `new` without arguments
pub data Operand (form : Form) (room : Room) (i c : Bool) (left : Symbols) : Symbols → Expr → Type 0 where
  linked : {u : Symbols} {x : Expr} → Linked form room i c u left x → Operand form room i c left u x
  bare : {u : Symbols} {x : Expr} (b : Bool) → NewCallee form i u x → Fits room (Tree.New x Tree.NoExprs) → is_linked true (front left).kind ≡ false
      → Operand form room i c left (word w.New b ∷ u) (Tree.New x Tree.NoExprs)

abbrev pub Operands : Form → Room → Bool → Bool → Symbols → Symbols → Expr → Type 0
Operands form room i c used left x = Operand form room i c left used x

abbrev pub ReadArguments : Form → Room → Symbols → Symbols → Exprs → Type 0
ReadArguments form room used left xs =
    Derived room (exprs_height by_nodes xs) (exprs_height by_functions xs) ((b c : Bool) → Arguments form (mark m.OpenParenthesis b ∷ (used ++ (mark m.CloseParenthesis c ∷ []))) xs)

abbrev pub ReadArgumentList : Form → Room → Symbols → Symbols → Exprs → Type 0
ReadArgumentList form room used left xs = Derived room (exprs_height by_nodes xs) (exprs_height by_functions xs) (ArgumentList form used xs)

abbrev pub ReadElements : Form → Room → Symbols → Symbols → Elements → Type 0
ReadElements form room used left es = Derived room (elements_height by_nodes es) (elements_height by_functions es) (ElementList form used es)

abbrev pub ReadPairs : Form → Room → Symbols → Symbols → Pairs → Type 0
ReadPairs form room used left ps = Derived room (pairs_height by_nodes ps) (pairs_height by_functions ps) (PropertyList form used ps)

abbrev pub ReadRest : Form → Room → Symbols → Symbols → (List Name × Stmts) → Type 0
ReadRest form room used left f = Derived room (stmts_height by_nodes f.1) (stmts_height by_functions f.1) (FunctionRest form used f.0 f.1)

abbrev pub are_names : List Name → Bool
are_names [] = false
are_names (n ∷ ns) = true

pub record ReadFormals (form : Form) (before : List Name) (used left : Symbols) (ns : List Name) : Type 0 where
  pub is : Formals form used ns
  pub distinct : is_distinct (before ++ ns) ≡ true

pub record ReadFormal (form : Form) (before : List Name) (used left : Symbols) (ns : List Name) : Type 0 where
  pub is : Formals form used ns
  pub distinct : is_distinct (before ++ ns) ≡ true
  pub some : are_names ns ≡ true

pub record ReadDeclarator (form : Form) (room : Room) (i : Bool) (used left : Symbols) (d : Name × MaybeExpr) : Type 0 where
  pub is : Declarator form i used d.0 d.1
  pub fit : Within room (maybe_expr_height by_nodes d.1) (maybe_expr_height by_functions d.1)
  pub stops : i ≡ true → (front left).newline ≡ true → declarator_reach used (front left) d.1 < 2

pub record ReadDeclarators (form : Form) (room : Room) (i : Bool) (used left : Symbols) (items : VarItems) : Type 0 where
  pub is : DeclaratorList form i used items
  pub fit : Within room (var_items_height by_nodes items) (var_items_height by_functions items)
  pub stops : i ≡ true → (front left).newline ≡ true → list_reach used (front left) items ≡ 0

abbrev pub ReadOptional : Form → Room → Symbols → Symbols → MaybeExpr → Type 0
ReadOptional form room used left x = Derived room (maybe_expr_height by_nodes x) (maybe_expr_height by_functions x) (OptionalExpression form used x)

abbrev pub ReadStatement : Form → Room → Context → Symbols → Symbols → Stmt → Type 0
ReadStatement form room c used left s = Derived room (stmt_height by_nodes s) (stmt_height by_functions s) (Statement form c used (front left) s)

abbrev pub ReadList : Form → Room → Context → Symbols → Symbols → Stmts → Type 0
ReadList form room c used left ss = Derived room (stmts_height by_nodes ss) (stmts_height by_functions ss) (StatementList form c used (front left) ss)

abbrev pub ReadSource : Form → Room → Context → Symbols → Symbols → Stmts → Type 0
ReadSource form room c used left ss = Derived room (stmts_height by_nodes ss) (stmts_height by_functions ss) (SourceElements form c used (front left) ss)

abbrev pub ReadClauses : Form → Room → Context → Bool → Symbols → Symbols → Cases → Type 0
ReadClauses form room c may used left cs = Derived room (cases_height by_nodes cs) (cases_height by_functions cs) (CaseClauses form c may used (front left) cs)

-- what is said of every state
pub record Sound (form : Form) (tree : Stmts) (n : ℕ) : Type 0 where
  pub commas : (i : Bool) (room : Room) (next : To Expr) (ts : Symbols) → are_regular ts ≡ true → IsDone form tree n (comma room i next ts) → Read form tree n (Expressed form room i 1 1) next ts
  pub comma_tails : (i : Bool) (room : Room) (x : Expr) (next : To Expr) (ts whole u : Symbols) → Parts whole u ts → are_regular ts ≡ true → Expressed form room i 1 2 u ts x → IsDone form tree n (comma_tail room i x next ts)
      → Read form tree n (Expressed form room i 1 1) next whole
  pub assigns : (i : Bool) (room : Room) (next : To Expr) (ts : Symbols) → are_regular ts ≡ true → IsDone form tree n (assign room i next ts) → Read form tree n (Expressed form room i 2 2) next ts
  pub choices : (i : Bool) (room : Room) (x : Expr) (next : To Expr) (ts whole u : Symbols) → Parts whole u ts → are_regular ts ≡ true → Expressed form room i 4 4 u ts x → IsDone form tree n (choice room i x next ts)
      → Read form tree n (Expressed form room i 2 2) next whole
  pub climbs : (i : Bool) (room : Room) (least : ℕ) (next : To Expr) (ts : Symbols) → 4 ≤ least → least ≤ 14 → are_regular ts ≡ true → IsDone form tree n (climb room i least next ts)
      → Read form tree n (Expressed form room i least least) next ts
  pub tails : (i : Bool) (room : Room) (least l : ℕ) (x : Expr) (next : To Expr) (ts whole u : Symbols) → 4 ≤ least → least ≤ l → l ≤ 14 → Parts whole u ts → are_regular ts ≡ true → Expressed form room i l (suc l) u ts x
      → IsDone form tree n (tail room i least x next ts) → Read form tree n (Expressed form room i least least) next whole
  pub unaries : (i : Bool) (room : Room) (next : To Expr) (ts : Symbols) → are_regular ts ≡ true → IsDone form tree n (unary room next ts) → Read form tree n (Expressed form room i 14 14) next ts
  pub postfixes : (i : Bool) (room : Room) (x : Expr) (next : To Expr) (ts whole u : Symbols) → Parts whole u ts → are_regular ts ≡ true → Expressed form room i 16 14 u ts x → IsDone form tree n (postfix room x next ts)
      → Read form tree n (Expressed form room i 14 14) next whole
  pub operands : (i c : Bool) (room : Room) (next : To Expr) (ts : Symbols) → are_regular ts ≡ true → IsDone form tree n (operand room c next ts) → Read form tree n (Operands form room i c) next ts
  pub linkings : (i c : Bool) (room : Room) (x : Expr) (next : To Expr) (ts whole u : Symbols) → Parts whole u ts → are_regular ts ≡ true → Expression form i (chain c) u x → Fits room x → IsDone form tree n (links room c x next ts)
      → Read form tree n (Linked form room i c) next whole
  pub argumented : (room : Room) (next : To Exprs) (ts : Symbols) → are_regular ts ≡ true → IsDone form tree n (arguments room next ts) → Read form tree n (ReadArguments form room) next ts
  pub argument_lists : (room : Room) (next : To Exprs) (ts : Symbols) → are_regular ts ≡ true → IsDone form tree n (argument_list room next ts) → Read form tree n (ReadArgumentList form room) next ts
  pub element_lists : (room : Room) (next : To Elements) (ts : Symbols) → are_regular ts ≡ true → IsDone form tree n (elements room next ts) → Read form tree n (ReadElements form room) next ts
  pub pair_lists : (room : Room) (next : To Pairs) (ts : Symbols) → are_regular ts ≡ true → IsDone form tree n (pairs room next ts) → Read form tree n (ReadPairs form room) next ts
  pub rests : (room : Room) (next : To (List Name × Stmts)) (ts : Symbols) → are_regular ts ≡ true → IsDone form tree n (rest room (λ ns body r. next (ns, body) r) ts) → Read form tree n (ReadRest form room) next ts
  pub formal_lists : (before : List Name) (next : To (List Name)) (ts : Symbols) → is_distinct before ≡ true → are_regular ts ≡ true → IsDone form tree n (formals before next ts) → Read form tree n (ReadFormals form before) next ts
  pub formal_ones : (before : List Name) (next : To (List Name)) (ts : Symbols) → are_regular ts ≡ true → IsDone form tree n (formal before next ts) → Read form tree n (ReadFormal form before) next ts
  pub declared_ones : (i : Bool) (room : Room) (next : To (Name × MaybeExpr)) (ts : Symbols) → are_regular ts ≡ true → IsDone form tree n (declarator room i (λ d value r. next (d, value) r) ts) → Read form tree n (ReadDeclarator form room i) next ts
  pub declared_lists : (i : Bool) (room : Room) (next : To VarItems) (ts : Symbols) → are_regular ts ≡ true → IsDone form tree n (declarators room i next ts) → Read form tree n (ReadDeclarators form room i) next ts
  pub options : (room : Room) (next : To MaybeExpr) (ts : Symbols) → are_regular ts ≡ true → IsDone form tree n (optional room next ts) → Read form tree n (ReadOptional form room) next ts
  pub statements : (room : Room) (c : Context) (next : To Stmt) (ts : Symbols) → are_regular ts ≡ true → IsDone form tree n (statement room c next ts) → Read form tree n (ReadStatement form room c) next ts
  pub lists : (room : Room) (c : Context) (next : To Stmts) (ts : Symbols) → are_regular ts ≡ true → IsDone form tree n (list room c next ts) → Read form tree n (ReadList form room c) next ts
  pub sources : (room : Room) (c : Context) (next : To Stmts) (ts : Symbols) → are_regular ts ≡ true → IsDone form tree n (source room c next ts) → Read form tree n (ReadSource form room c) next ts
  pub clause_lists : (room : Room) (c : Context) (may : Bool) (next : To Cases) (ts : Symbols) → are_regular ts ≡ true → IsDone form tree n (clauses room c may next ts) → Read form tree n (ReadClauses form room c may) next ts
