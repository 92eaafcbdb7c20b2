-- Where there is no room for a node, neither an expression nor a statement is read to its end.
use Rattle.std.proofs.Common.{◌≡◌, ◌⊎◌, inl, inr, ℕ, ◌-◌, Bool, true, false, ◌&&◌, ◌||◌, not, [], ◌∷◌, Option, Some, None, refl, sym, subst, arith}
use Rattle.std.proofs.lemmas.Bool.{leb-false, lt-leb}
use Rattle.js_lexer.specs.declared.mark.Mark.TheVariants as m
use Rattle.js_lexer.specs.declared.word.Word.TheVariants as w
use Rattle.js_lexer.specs.declared.token.TokenKind.{TokenKind}
use Rattle.js_lexer.specs.declared.token.TokenKind.TheVariants as k
use Rattle.js_tree.specs.declared.tree.PrefixOp.{PrefixOp}
use Rattle.js_tree.specs.Tree.{Name, Expr, Stmt, Stmts}
use Rattle.js_parser.specs.declared.form.Form.{Form}
use Rattle.js_parser.specs.declared.form.Form.TheVariants.{Source, Written}
use Rattle.js_parser.specs.Symbols.{Symbol, Symbols}
use Rattle.js_tree.specs.Levels.{changes}
use Rattle.js_parser.specs.Names.{is_eval, is_reference, is_among}
use Rattle.js_parser.specs.Contexts.{Context}
use Rattle.js_parser.specs.Contexts as context
use Rattle.js_parser.specs.Rooms.{Room, inside, one_less, fits, fits_node, fits_function}
use Rattle.js_parser.specs.Machine.{State, To, step, Goes, here, then_on}
use Rattle.js_parser.specs.Machine as mc
use Rattle.js_parser.proofs.Runs.{one_end}

abbrev pub Never : Form → State → Type 0
Never form s = (tree : Stmts) → Goes form s (mc.done tree) → ⊥

-- a colon stands first
abbrev pub colon_first : Symbols → Bool
colon_first [] = false
colon_first (s ∷ ts) = mc.is_colon s.kind

first-or-later : {form : Form} {s t : State} → Goes form s t → (s ≡ t) ⊎ Goes form (step form s) t
first-or-later here = inl refl
first-or-later (then_on d) = inr d

stepped-never : {form : Form} (s : State) → ((tree : Stmts) → s ≡ mc.done tree → ⊥) → Never form (step form s) → Never form s
stepped-never {form = form} s a n tree d = by (first-or-later d)
  where
    by : (s ≡ mc.done tree) ⊎ Goes form (step form s) (mc.done tree) → ⊥
    by (inl e) = a tree e
    by (inr d) = n tree d

stuck-never : {form : Form} (left : Symbols) → Never form (mc.stuck left)
stuck-never {form = form} left tree d = let e = one_end {form = form} {s = mc.stuck left} {t = mc.stuck left} {o = mc.done tree} refl refl here d in absurd cc

deep-never : {form : Form} (left : Symbols) → Never form (mc.deep left)
deep-never {form = form} left tree d = let e = one_end {form = form} {s = mc.deep left} {t = mc.deep left} {o = mc.done tree} refl refl here d in absurd cc

none-fits : {form : Form} (a : Bool) (left : Symbols) (s : State) → a ≡ false → Never form (mc.fitting a left s)
none-fits true left s e = absurd cc
none-fits false left s e = deep-never left

guard-never : {form : Form} (a : Bool) (left : Symbols) (s : State) → Never form s → Never form (mc.guard a left s)
guard-never true left s n = n
guard-never false left s n = stuck-never left

both-false : (a c : Bool) → a ≡ false → (a && c) ≡ false
both-false true c e = absurd cc
both-false false c e = refl

less : (d : Option ℕ) → fits d 1 ≡ false → fits (one_less d) 1 ≡ false
less None e = absurd cc
less (Some most) e = let l = leb-false 1 most e in lt-leb 1 (most - 1) (omega (arith, l))

-- ---- expressions

never-prefix : {form : Form} (room : Room) → fits_node room ≡ false → (c : Bool) (op : PrefixOp) (next : To Expr) (ts : Symbols) → Never form (mc.prefix_by c room op next ts)
never-prefix room e true op next ts = none-fits (fits_node room) ts _ e
never-prefix room e false op next ts = none-fits (fits_node room) ts _ e

never-late : {form : Form} (as_form : Form) (room : Room) → fits_node room ≡ false → (next : To Expr) (s : Symbol) (ts : Symbols) → Never form (mc.late_in as_form room true next s ts)
never-late Source room e next s ts = stuck-never (s ∷ ts)
never-late Written room e next s ts = none-fits (fits_node room) ts _ e

never-name : {form : Form} (a : Bool) (n : Name) (room : Room) → fits_node room ≡ false → (next : To Expr) (s : Symbol) (ts : Symbols) → Never form (mc.name_by a form n room true next s ts)
never-name {form = form} true n room e next s ts = never-late form room e next s ts
never-name {form = form} false n room e next s ts = guard-never (is_reference form n) (s ∷ ts) _ (none-fits (fits_node room) ts _ e)

never-operand-by : {form : Form} (kind : TokenKind) (room : Room) → fits_node room ≡ false → (next : To Expr) (s : Symbol) (ts : Symbols) → ((next : To Expr) → Never form (mc.comma room true next ts))
    → Never form (mc.operand_by form kind room true next s ts)
never-operand-by (k.Word w.New) room e next s ts n = none-fits (fits_node room) ts _ e
never-operand-by (k.Word w.This) room e next s ts n = none-fits (fits_node room) ts _ e
never-operand-by (k.Word w.Null) room e next s ts n = none-fits (fits_node room) ts _ e
never-operand-by (k.Word w.True) room e next s ts n = none-fits (fits_node room) ts _ e
never-operand-by (k.Word w.False) room e next s ts n = none-fits (fits_node room) ts _ e
never-operand-by (k.Word w.Function) room e next s ts n = none-fits (fits_function room) ts _ (both-false (fits room.depth 1) (fits room.nesting 1) e)
never-operand-by (k.Name a) room e next s ts n = never-name (is_eval a) a room e next s ts
never-operand-by (k.Number a) room e next s ts n = none-fits (fits_node room) ts _ e
never-operand-by (k.Str text) room e next s ts n = none-fits (fits_node room) ts _ e
never-operand-by (k.Mark m.OpenBracket) room e next s ts n = none-fits (fits_node room) ts _ e
never-operand-by (k.Mark m.OpenBrace) room e next s ts n = none-fits (fits_node room) ts _ e
never-operand-by (k.Mark m.OpenParenthesis) room e next s ts n = n _
never-operand-by _ room e next s ts n = stuck-never (s ∷ ts)

never-unary-by : {form : Form} (op : Option PrefixOp) (room : Room) → fits_node room ≡ false → (next : To Expr) (s : Symbol) (ts : Symbols) → ((next : To Expr) → Never form (mc.comma room true next ts))
    → Never form (mc.unary_by op room next s ts)
never-unary-by None room e next s ts n = stepped-never (mc.operand room true (λ x r. mc.postfix room x next r) (s ∷ ts)) (λ tree i. cc) (never-operand-by s.kind room e _ s ts n)
never-unary-by (Some op) room e next s ts n = never-prefix room e (changes op) op next ts

through-comma : {form : Form} (room : Room) (i : Bool) (next : To Expr) (ts : Symbols) → ((next : To Expr) → Never form (mc.unary room next ts)) → Never form (mc.comma room i next ts)
through-comma room i next ts n =
    stepped-never (mc.comma room i next ts) (λ tree e. cc) (stepped-never (mc.assign room i (λ x r. mc.comma_tail room i x next r) ts) (λ tree e. cc)
    (stepped-never (mc.climb room i 4 (λ x r. mc.choice room i x (λ x r. mc.comma_tail room i x next r) r) ts) (λ tree e. cc) (n _)))

never-comma : {form : Form} (room : Room) → fits_node room ≡ false → (i : Bool) (next : To Expr) (ts : Symbols) → Never form (mc.comma room i next ts)
never-comma room e i next [] = through-comma room i next [] (λ next. stepped-never (mc.unary room next []) (λ tree e. cc) (stuck-never []))
never-comma room e i next (s ∷ ts) =
    through-comma room i next (s ∷ ts) (λ next. stepped-never (mc.unary room next (s ∷ ts)) (λ tree e. cc) (never-unary-by (mc.prefix_of s.kind) room e next s ts (λ next. never-comma room e true next ts)))

-- ---- statements

never-stated : {form : Form} (room : Room) → fits_node room ≡ false → (next : To Stmt) (ts : Symbols) → Never form (mc.stated room next ts)
never-stated room e next ts = never-comma (inside room) (less room.depth e) true _ ts

never-label-by : {form : Form} (kind : TokenKind) (room : Room) → fits_node room ≡ false → (c : Context) (n : Name) (next : To Stmt) (s t : Symbol) (ts : Symbols) → Never form (mc.label_by form room c kind n next s t ts)
never-label-by {form = form} (k.Mark m.Colon) room e c n next s t ts = at (is_reference form n)
  where
    at : (a : Bool) → Never form (mc.labelled a room c n next s t ts)
    at true = guard-never (not (is_among n c.labels)) (t ∷ ts) _ (none-fits (fits_node room) ts _ e)
    at false = never-stated room e next (s ∷ t ∷ ts)
never-label-by _ room e c n next s t ts = never-stated room e next (s ∷ t ∷ ts)

never-name-first : {form : Form} (room : Room) → fits_node room ≡ false → (c : Context) (n : Name) (next : To Stmt) (s : Symbol) (ts : Symbols) → Never form (mc.label form room c n next s ts)
never-name-first room e c n next s [] = never-stated room e next (s ∷ [])
never-name-first room e c n next s (t ∷ ts) = never-label-by t.kind room e c n next s t ts

never-statement-by : {form : Form} (kind : TokenKind) (room : Room) → fits_node room ≡ false → (c : Context) (next : To Stmt) (s : Symbol) (ts : Symbols) → Never form (mc.statement_by form room c kind next s ts)
never-statement-by (k.Mark m.OpenBrace) room e c next s ts = none-fits (fits_node room) ts _ e
never-statement-by (k.Word w.Var) room e c next s ts = none-fits (fits_node room) ts _ e
never-statement-by (k.Mark m.Semicolon) room e c next s ts = none-fits (fits_node room) ts _ e
never-statement-by (k.Word w.If) room e c next s ts = none-fits (fits_node room) ts _ e
never-statement-by (k.Word w.Do) room e c next s ts = none-fits (fits_node room) ts _ e
never-statement-by (k.Word w.While) room e c next s ts = none-fits (fits_node room) ts _ e
never-statement-by (k.Word w.For) room e c next s ts = none-fits (fits_node room) ts _ e
never-statement-by (k.Word w.Continue) room e c next s ts = guard-never (c.in_loop || mc.are_some c.loops) (s ∷ ts) _ (none-fits (fits_node room) ts _ e)
never-statement-by (k.Word w.Break) room e c next s ts = guard-never (context.may_break c || mc.are_some c.labels) (s ∷ ts) _ (none-fits (fits_node room) ts _ e)
never-statement-by (k.Word w.Return) room e c next s ts = guard-never c.in_function (s ∷ ts) _ (none-fits (fits_node room) ts _ e)
never-statement-by (k.Word w.Switch) room e c next s ts = none-fits (fits_node room) ts _ e
never-statement-by (k.Word w.Throw) room e c next s ts = none-fits (fits_node room) ts _ e
never-statement-by (k.Word w.Try) room e c next s ts = none-fits (fits_node room) ts _ e
never-statement-by (k.Word w.Function) room e c next s ts = stuck-never (s ∷ ts)
never-statement-by (k.Name n) room e c next s ts = never-name-first room e c n next s ts
never-statement-by _ room e c next s ts = never-stated room e next (s ∷ ts)

never-statement : {form : Form} (room : Room) → fits_node room ≡ false → (c : Context) (next : To Stmt) (ts : Symbols) → Never form (mc.statement room c next ts)
never-statement room e c next [] = stepped-never (mc.statement room c next []) (λ tree i. cc) (stuck-never [])
never-statement room e c next (s ∷ ts) = stepped-never (mc.statement room c next (s ∷ ts)) (λ tree i. cc) (never-statement-by s.kind room e c next s ts)

-- no statement fits behind a label where no expression fits in place of it
pub never-label : {form : Form} (room : Room) → fits_node (inside room) ≡ false → (c : Context) (n : Name) (next : To Stmt) (s : Symbol) (ts : Symbols) → is_reference form n ≡ true → colon_first ts ≡ true
    → Never form (mc.label form room c n next s ts)
never-label room e c n next s [] is i = absurd cc
never-label {form = form} room e c n next s (t ∷ ts) is i = by t.kind i
  where
    fitted : (a : Bool) (u : State) → Never form u → Never form (mc.fitting a ts u)
    fitted true u d = d
    fitted false u d = deep-never ts

    by : (kind : TokenKind) → mc.is_colon kind ≡ true → Never form (mc.label_by form room c kind n next s t ts)
    by (k.Mark m.Colon) i =
        subst (λ a. Never form (mc.labelled a room c n next s t ts)) (sym is)
        (guard-never (not (is_among n c.labels)) (t ∷ ts) _ (fitted (fits_node room) _ (never-statement (inside room) e (context.labelled n c) _ ts)))
    by _ i = absurd cc
