-- The kinds of tokens that the machine tells apart in expressions.
use Rattle.std.proofs.Common.{if◌then◌else◌, ◌≡◌, ℕ, ◌≤◌, ◌<◌, ◌⊎◌, inl, inr, Bool, true, false, ◌∷◌, Option, Some, None, refl, arith, lit≤, lit<}
use Rattle.js_lexer.specs.declared.mark.Mark.{Mark}
use Rattle.js_lexer.specs.declared.mark.Mark.TheVariants as m
use Rattle.js_lexer.specs.declared.word.Word.TheVariants as w
use Rattle.js_lexer.specs.declared.token.TokenKind.{TokenKind}
use Rattle.js_lexer.specs.declared.token.TokenKind.TheVariants as k
use Rattle.js_tree.specs.declared.tree.BinaryOp.{BinaryOp}
use Rattle.js_tree.specs.declared.tree.BinaryOp.TheVariants as b
use Rattle.js_tree.specs.declared.tree.PrefixOp.{PrefixOp}
use Rattle.js_tree.specs.declared.tree.PrefixOp.TheVariants as p
use Rattle.js_tree.specs.declared.tree.PostfixOp.{PostfixOp}
use Rattle.js_tree.specs.declared.tree.PostfixOp.TheVariants as q
use Rattle.js_tree.specs.Tree.{Expr}
use Rattle.js_tree.specs.Tree
use Rattle.js_parser.specs.declared.form.Form.{Form}
use Rattle.js_parser.specs.Symbols.{Symbol, Symbols}
use Rattle.js_tree.specs.Levels.{Operator, LogicalOr, LogicalAnd, Operation, level}
use Rattle.js_parser.specs.Operators.{sign, may_operate, prefix_sign, postfix_sign, assignment, is_target}
use Rattle.js_parser.specs.Ends.{unless}
use Rattle.js_parser.specs.Rooms.{Room, fits_around}
use Rattle.js_parser.specs.Machine.{To, guard, fitting, comma_by, assign_to, choice_by, operator_of, prefix_of, postfix_by, links_by, is_open_parenthesis, is_close_parenthesis, is_close_bracket, is_open_brace, is_close_brace, is_colon, is_semicolon, is_while, is_end}
use Rattle.js_parser.proofs.ReadTrees.{past, is_linked}

-- ---- single kinds

pub told-open : (o : TokenKind) → is_open_parenthesis o ≡ true → o ≡ k.Mark m.OpenParenthesis
told-open (k.Mark m.OpenParenthesis) h = refl
told-open _ h = cc

pub told-close : (o : TokenKind) → is_close_parenthesis o ≡ true → o ≡ k.Mark m.CloseParenthesis
told-close (k.Mark m.CloseParenthesis) h = refl
told-close _ h = cc

pub told-bracket : (o : TokenKind) → is_close_bracket o ≡ true → o ≡ k.Mark m.CloseBracket
told-bracket (k.Mark m.CloseBracket) h = refl
told-bracket _ h = cc

pub told-brace : (o : TokenKind) → is_open_brace o ≡ true → o ≡ k.Mark m.OpenBrace
told-brace (k.Mark m.OpenBrace) h = refl
told-brace _ h = cc

pub told-closed : (o : TokenKind) → is_close_brace o ≡ true → o ≡ k.Mark m.CloseBrace
told-closed (k.Mark m.CloseBrace) h = refl
told-closed _ h = cc

pub told-colon : (o : TokenKind) → is_colon o ≡ true → o ≡ k.Mark m.Colon
told-colon (k.Mark m.Colon) h = refl
told-colon _ h = cc

pub told-semicolon : (o : TokenKind) → is_semicolon o ≡ true → o ≡ k.Mark m.Semicolon
told-semicolon (k.Mark m.Semicolon) h = refl
told-semicolon _ h = cc

pub told-while : (o : TokenKind) → is_while o ≡ true → o ≡ k.Word w.While
told-while (k.Word w.While) h = refl
told-while _ h = cc

pub told-end : (o : TokenKind) → is_end o ≡ true → o ≡ k.End
told-end k.End h = refl
told-end _ h = cc

-- ---- where nothing goes on

in-low : (i : Bool) → (if i then 10 else 0) < 14
in-low true = lit< tt
in-low false = lit< tt

in-lower : (i : Bool) (n o : ℕ) → n ≤ 10 → 1 ≤ o → (if i then 10 else 0) < n → (if i then 10 else 0) < o
in-lower true n o a e h = absurd (omega arith)
in-lower false n o a e h = omega arith

change-low : (c : Bool) (n : ℕ) → 1 ≤ n → unless c 0 < n
change-low true n h = omega arith
change-low false n h = omega arith

link-lower : (c : Bool) (n o : ℕ) → n ≤ 18 → 1 ≤ o → unless c 18 < n → unless c 18 < o
link-lower true n o a e h = omega arith
link-lower false n o a e h = absurd (omega arith)

pub not-linked : (i c : Bool) (kind : TokenKind) → is_linked true kind ≡ false → past i c kind < 14
not-linked i c (k.Mark m.Dot) h = cc
not-linked i c (k.Mark m.OpenBracket) h = cc
not-linked i c (k.Mark m.OpenParenthesis) h = cc
not-linked i c (k.Mark m.PlusPlus) h = change-low c 14 (lit≤ tt)
not-linked i c (k.Mark m.MinusMinus) h = change-low c 14 (lit≤ tt)
not-linked i c (k.Word w.In) h = in-low i
not-linked i c _ h = lit< tt

-- behind `++` or `--`
pub behind-change : (i : Bool) (kind : TokenKind) → past i true kind < 14
behind-change i (k.Word w.In) = in-low i
behind-change i (k.Mark m.Comma) = lit< tt
behind-change i _ = lit< tt

-- ---- commas

pub record NotComma (kind : TokenKind) : Type 0 where
  pub passes : (room : Room) (i : Bool) (x : Expr) (next : To Expr) (s : Symbol) (ts : Symbols) → comma_by kind room i x next s ts ≡ next x (s ∷ ts)
  pub stops : (i c : Bool) → past i c kind < 2 → past i c kind < 1

pub comma-case : (kind : TokenKind) → (kind ≡ k.Mark m.Comma) ⊎ NotComma kind
comma-case (k.Mark m.Comma) = inl refl
comma-case (k.Mark m.PlusPlus) = inr (record { passes = λ room i x next s ts. refl; stops = λ i c h. change-low c 1 (lit≤ tt) })
comma-case (k.Mark m.MinusMinus) = inr (record { passes = λ room i x next s ts. refl; stops = λ i c h. change-low c 1 (lit≤ tt) })
comma-case (k.Mark m.Dot) = inr (record { passes = λ room i x next s ts. refl; stops = λ i c h. link-lower c 2 1 (lit≤ tt) (lit≤ tt) h })
comma-case (k.Mark m.OpenBracket) = inr (record { passes = λ room i x next s ts. refl; stops = λ i c h. link-lower c 2 1 (lit≤ tt) (lit≤ tt) h })
comma-case (k.Mark m.OpenParenthesis) = inr (record { passes = λ room i x next s ts. refl; stops = λ i c h. link-lower c 2 1 (lit≤ tt) (lit≤ tt) h })
comma-case (k.Word w.In) = inr (record { passes = λ room i x next s ts. refl; stops = λ i c h. in-lower i 2 1 (lit≤ tt) (lit≤ tt) h })
comma-case _ = inr (record { passes = λ room i x next s ts. refl; stops = λ i c h. omega arith })

-- ---- `?` and assignments

pub data ChoiceCase (kind : TokenKind) : Type 0 where
  question : kind ≡ k.Mark m.Question → ChoiceCase kind
  assigned : (op : Option BinaryOp) (joint : Mark) → kind ≡ k.Mark joint → assignment op ≡ Some joint
      → ((room : Room) (i : Bool) (x : Expr) (next : To Expr) (s : Symbol) (ts : Symbols) → choice_by kind room i x next s ts ≡ assign_to op room i x next s ts) → ChoiceCase kind
  other : ((room : Room) (i : Bool) (x : Expr) (next : To Expr) (s : Symbol) (ts : Symbols) → choice_by kind room i x next s ts ≡ next x (s ∷ ts)) → ((i c : Bool) → past i c kind < 4 → past i c kind < 2) → ChoiceCase kind

pub choice-case : (kind : TokenKind) → ChoiceCase kind
choice-case (k.Mark m.Question) = question refl
choice-case (k.Mark m.Assign) = assigned None m.Assign refl refl (λ room i x next s ts. refl)
choice-case (k.Mark m.TimesAssign) = assigned (Some b.Multiply) m.TimesAssign refl refl (λ room i x next s ts. refl)
choice-case (k.Mark m.SlashAssign) = assigned (Some b.Divide) m.SlashAssign refl refl (λ room i x next s ts. refl)
choice-case (k.Mark m.PercentAssign) = assigned (Some b.Remainder) m.PercentAssign refl refl (λ room i x next s ts. refl)
choice-case (k.Mark m.PlusAssign) = assigned (Some b.Add) m.PlusAssign refl refl (λ room i x next s ts. refl)
choice-case (k.Mark m.MinusAssign) = assigned (Some b.Subtract) m.MinusAssign refl refl (λ room i x next s ts. refl)
choice-case (k.Mark m.ShiftLeftAssign) = assigned (Some b.ShiftLeft) m.ShiftLeftAssign refl refl (λ room i x next s ts. refl)
choice-case (k.Mark m.ShiftRightAssign) = assigned (Some b.ShiftRight) m.ShiftRightAssign refl refl (λ room i x next s ts. refl)
choice-case (k.Mark m.ShiftRightUnsignedAssign) = assigned (Some b.ShiftRightUnsigned) m.ShiftRightUnsignedAssign refl refl (λ room i x next s ts. refl)
choice-case (k.Mark m.BitAndAssign) = assigned (Some b.BitAnd) m.BitAndAssign refl refl (λ room i x next s ts. refl)
choice-case (k.Mark m.BitXorAssign) = assigned (Some b.BitXor) m.BitXorAssign refl refl (λ room i x next s ts. refl)
choice-case (k.Mark m.BitOrAssign) = assigned (Some b.BitOr) m.BitOrAssign refl refl (λ room i x next s ts. refl)
choice-case (k.Mark m.PlusPlus) = other (λ room i x next s ts. refl) (λ i c h. change-low c 2 (lit≤ tt))
choice-case (k.Mark m.MinusMinus) = other (λ room i x next s ts. refl) (λ i c h. change-low c 2 (lit≤ tt))
choice-case (k.Mark m.Dot) = other (λ room i x next s ts. refl) (λ i c h. link-lower c 4 2 (lit≤ tt) (lit≤ tt) h)
choice-case (k.Mark m.OpenBracket) = other (λ room i x next s ts. refl) (λ i c h. link-lower c 4 2 (lit≤ tt) (lit≤ tt) h)
choice-case (k.Mark m.OpenParenthesis) = other (λ room i x next s ts. refl) (λ i c h. link-lower c 4 2 (lit≤ tt) (lit≤ tt) h)
choice-case (k.Word w.In) = other (λ room i x next s ts. refl) (λ i c h. in-lower i 4 2 (lit≤ tt) (lit≤ tt) h)
choice-case _ = other (λ room i x next s ts. refl) (λ i c h. omega arith)

-- ---- operators

pub data OperatorCase (kind : TokenKind) : Type 0 where
  operates : (op : Operator) → operator_of kind ≡ Some op → kind ≡ sign op → OperatorCase kind
  none : operator_of kind ≡ None → ((i c : Bool) → past i c kind < 15 → past i c kind < 4) → OperatorCase kind

pub operator-case : (kind : TokenKind) → OperatorCase kind
operator-case (k.Mark m.Or) = operates LogicalOr refl refl
operator-case (k.Mark m.And) = operates LogicalAnd refl refl
operator-case (k.Mark m.BitOr) = operates (Operation b.BitOr) refl refl
operator-case (k.Mark m.BitXor) = operates (Operation b.BitXor) refl refl
operator-case (k.Mark m.BitAnd) = operates (Operation b.BitAnd) refl refl
operator-case (k.Mark m.Equal) = operates (Operation b.Equal) refl refl
operator-case (k.Mark m.NotEqual) = operates (Operation b.NotEqual) refl refl
operator-case (k.Mark m.StrictEqual) = operates (Operation b.Same) refl refl
operator-case (k.Mark m.StrictNotEqual) = operates (Operation b.NotSame) refl refl
operator-case (k.Mark m.Less) = operates (Operation b.Less) refl refl
operator-case (k.Mark m.Greater) = operates (Operation b.Greater) refl refl
operator-case (k.Mark m.LessEqual) = operates (Operation b.LessEqual) refl refl
operator-case (k.Mark m.GreaterEqual) = operates (Operation b.GreaterEqual) refl refl
operator-case (k.Word w.InstanceOf) = operates (Operation b.InstanceOf) refl refl
operator-case (k.Word w.In) = operates (Operation b.In) refl refl
operator-case (k.Mark m.ShiftLeft) = operates (Operation b.ShiftLeft) refl refl
operator-case (k.Mark m.ShiftRight) = operates (Operation b.ShiftRight) refl refl
operator-case (k.Mark m.ShiftRightUnsigned) = operates (Operation b.ShiftRightUnsigned) refl refl
operator-case (k.Mark m.Plus) = operates (Operation b.Add) refl refl
operator-case (k.Mark m.Minus) = operates (Operation b.Subtract) refl refl
operator-case (k.Mark m.Times) = operates (Operation b.Multiply) refl refl
operator-case (k.Mark m.Slash) = operates (Operation b.Divide) refl refl
operator-case (k.Mark m.Percent) = operates (Operation b.Remainder) refl refl
operator-case (k.Mark m.PlusPlus) = none refl (λ i c h. change-low c 4 (lit≤ tt))
operator-case (k.Mark m.MinusMinus) = none refl (λ i c h. change-low c 4 (lit≤ tt))
operator-case (k.Mark m.Dot) = none refl (λ i c h. link-lower c 15 4 (lit≤ tt) (lit≤ tt) h)
operator-case (k.Mark m.OpenBracket) = none refl (λ i c h. link-lower c 15 4 (lit≤ tt) (lit≤ tt) h)
operator-case (k.Mark m.OpenParenthesis) = none refl (λ i c h. link-lower c 15 4 (lit≤ tt) (lit≤ tt) h)
operator-case _ = none refl (λ i c h. omega arith)

-- how far an operator goes on, where it may stand and where not
pub record Reaches (i c : Bool) (op : Operator) : Type 0 where
  pub allowed : may_operate i op ≡ true → past i c (sign op) ≡ level op
  pub refused : may_operate i op ≡ false → past i c (sign op) ≡ 0
  pub low : past i c (sign op) ≤ level op
  pub level_high : 4 ≤ level op
  pub level_low : level op ≤ 13

pub reaches : (i c : Bool) (op : Operator) → Reaches i c op
reaches i c LogicalOr = record { allowed = λ h. refl; refused = λ h. cc; low = lit≤ tt; level_high = lit≤ tt; level_low = lit≤ tt }
reaches i c LogicalAnd = record { allowed = λ h. refl; refused = λ h. cc; low = lit≤ tt; level_high = lit≤ tt; level_low = lit≤ tt }
reaches true c (Operation b.In) = record { allowed = λ h. refl; refused = λ h. cc; low = lit≤ tt; level_high = lit≤ tt; level_low = lit≤ tt }
reaches false c (Operation b.In) = record { allowed = λ h. cc; refused = λ h. refl; low = lit≤ tt; level_high = lit≤ tt; level_low = lit≤ tt }
reaches i c (Operation _) = record { allowed = λ h. refl; refused = λ h. cc; low = lit≤ tt; level_high = lit≤ tt; level_low = lit≤ tt }

pub data PrefixCase (kind : TokenKind) : Type 0 where
  prefixes : (op : PrefixOp) → prefix_of kind ≡ Some op → kind ≡ prefix_sign op → PrefixCase kind
  plain : prefix_of kind ≡ None → PrefixCase kind

pub prefix-case : (kind : TokenKind) → PrefixCase kind
prefix-case (k.Word w.Delete) = prefixes p.Delete refl refl
prefix-case (k.Word w.Void) = prefixes p.Void refl refl
prefix-case (k.Word w.TypeOf) = prefixes p.TypeOf refl refl
prefix-case (k.Mark m.PlusPlus) = prefixes p.Increment refl refl
prefix-case (k.Mark m.MinusMinus) = prefixes p.Decrement refl refl
prefix-case (k.Mark m.Plus) = prefixes p.Plus refl refl
prefix-case (k.Mark m.Minus) = prefixes p.Minus refl refl
prefix-case (k.Mark m.BitNot) = prefixes p.BitNot refl refl
prefix-case (k.Mark m.Not) = prefixes p.Not refl refl
prefix-case _ = plain refl

pub data PostfixCase (kind : TokenKind) (newline : Bool) : Type 0 where
  changes : (op : PostfixOp) → kind ≡ postfix_sign op → newline ≡ false
      → ((room : Room) (x : Expr) (next : To Expr) (s : Symbol) (ts : Symbols) → postfix_by kind newline room x next s ts ≡ guard (is_target x) (s ∷ ts) (fitting (fits_around room x) ts (next (Tree.Postfix x op) ts))) → PostfixCase kind newline
  unchanged : ((room : Room) (x : Expr) (next : To Expr) (s : Symbol) (ts : Symbols) → postfix_by kind newline room x next s ts ≡ next x (s ∷ ts)) → PostfixCase kind newline

pub postfix-case : (kind : TokenKind) (newline : Bool) → PostfixCase kind newline
postfix-case (k.Mark m.PlusPlus) false = changes q.Increment refl refl (λ room x next s ts. refl)
postfix-case (k.Mark m.MinusMinus) false = changes q.Decrement refl refl (λ room x next s ts. refl)
postfix-case (k.Mark m.PlusPlus) true = unchanged (λ room x next s ts. refl)
postfix-case (k.Mark m.MinusMinus) true = unchanged (λ room x next s ts. refl)
postfix-case _ newline = unchanged (λ room x next s ts. refl)

-- ---- links

pub data LinksCase (c : Bool) (kind : TokenKind) : Type 0 where
  dotted : kind ≡ k.Mark m.Dot → LinksCase c kind
  indexed : kind ≡ k.Mark m.OpenBracket → LinksCase c kind
  called : kind ≡ k.Mark m.OpenParenthesis → c ≡ true → LinksCase c kind
  ended : ((form : Form) (room : Room) (x : Expr) (next : To Expr) (s : Symbol) (ts : Symbols) → links_by form kind room c x next s ts ≡ next x (s ∷ ts)) → is_linked c kind ≡ false → LinksCase c kind

pub links-case : (kind : TokenKind) (c : Bool) → LinksCase c kind
links-case (k.Mark m.Dot) c = dotted refl
links-case (k.Mark m.OpenBracket) c = indexed refl
links-case (k.Mark m.OpenParenthesis) true = called refl refl
links-case (k.Mark m.OpenParenthesis) false = ended (λ form room x next s ts. refl) refl
links-case _ c = ended (λ form room x next s ts. refl) refl
