-- What the machine takes for an operator.
use Rattle.std.proofs.Common.{if◌then◌else◌, ◌≡◌, ℕ, suc, ◌≤◌, ◌⊎◌, inl, inr, Bool, true, false, ◌&&◌, ◌∷◌, Option, Some, None, refl, ap, ◌∙◌, subst, lit≤}
use Rattle.std.proofs.lemmas.Bool.{le-leb}
use Rattle.js_lexer.specs.declared.mark.Mark.{Mark}
use Rattle.js_lexer.specs.declared.mark.Mark.TheVariants as m
use Rattle.js_lexer.specs.declared.word.Word.TheVariants as w
use Rattle.js_lexer.specs.declared.token.TokenKind.{TokenKind}
use Rattle.js_lexer.specs.declared.token.TokenKind.TheVariants as k
use Rattle.js_tree.specs.declared.tree.BinaryOp.{BinaryOp}
use Rattle.js_tree.specs.declared.tree.BinaryOp.TheVariants as b
use Rattle.js_tree.specs.declared.tree.PrefixOp.{PrefixOp}
use Rattle.js_tree.specs.declared.tree.PrefixOp.TheVariants as p
use Rattle.js_tree.specs.Tree.{Expr}
use Rattle.js_parser.specs.Symbols.{Symbol, Symbols}
use Rattle.js_tree.specs.Levels.{Operator, LogicalOr, LogicalAnd, Operation, joined, level}
use Rattle.js_parser.specs.Operators.{sign, may_operate, prefix_sign, assignment}
use Rattle.js_parser.specs.Rooms.{Room, inside, fits_around}
use Rattle.js_parser.specs.Machine.{climb, tail, To, fitting, assign_to, choice_by, tail_by, operator_of, prefix_of}
use Rattle.js_parser.proofs.EndTokens.{begins_operand}
use Rattle.js_parser.proofs.ReadsStops.{kind_reach_in}

pub level-high : (op : Operator) → (4 ≤ level op) × (level op ≤ 13)
level-high LogicalOr = (lit≤ tt, lit≤ tt)
level-high LogicalAnd = (lit≤ tt, lit≤ tt)
level-high (Operation b.BitOr) = (lit≤ tt, lit≤ tt)
level-high (Operation b.BitXor) = (lit≤ tt, lit≤ tt)
level-high (Operation b.BitAnd) = (lit≤ tt, lit≤ tt)
level-high (Operation b.Equal) = (lit≤ tt, lit≤ tt)
level-high (Operation b.NotEqual) = (lit≤ tt, lit≤ tt)
level-high (Operation b.Same) = (lit≤ tt, lit≤ tt)
level-high (Operation b.NotSame) = (lit≤ tt, lit≤ tt)
level-high (Operation b.Less) = (lit≤ tt, lit≤ tt)
level-high (Operation b.Greater) = (lit≤ tt, lit≤ tt)
level-high (Operation b.LessEqual) = (lit≤ tt, lit≤ tt)
level-high (Operation b.GreaterEqual) = (lit≤ tt, lit≤ tt)
level-high (Operation b.InstanceOf) = (lit≤ tt, lit≤ tt)
level-high (Operation b.In) = (lit≤ tt, lit≤ tt)
level-high (Operation b.ShiftLeft) = (lit≤ tt, lit≤ tt)
level-high (Operation b.ShiftRight) = (lit≤ tt, lit≤ tt)
level-high (Operation b.ShiftRightUnsigned) = (lit≤ tt, lit≤ tt)
level-high (Operation b.Add) = (lit≤ tt, lit≤ tt)
level-high (Operation b.Subtract) = (lit≤ tt, lit≤ tt)
level-high (Operation b.Multiply) = (lit≤ tt, lit≤ tt)
level-high (Operation b.Divide) = (lit≤ tt, lit≤ tt)
level-high (Operation b.Remainder) = (lit≤ tt, lit≤ tt)

pub sign-reach : (i c newline : Bool) (op : Operator) → kind_reach_in i c newline (sign op) ≤ level op
sign-reach i c newline LogicalOr = lit≤ tt
sign-reach i c newline LogicalAnd = lit≤ tt
sign-reach i c newline (Operation b.BitOr) = lit≤ tt
sign-reach i c newline (Operation b.BitXor) = lit≤ tt
sign-reach i c newline (Operation b.BitAnd) = lit≤ tt
sign-reach i c newline (Operation b.Equal) = lit≤ tt
sign-reach i c newline (Operation b.NotEqual) = lit≤ tt
sign-reach i c newline (Operation b.Same) = lit≤ tt
sign-reach i c newline (Operation b.NotSame) = lit≤ tt
sign-reach i c newline (Operation b.Less) = lit≤ tt
sign-reach i c newline (Operation b.Greater) = lit≤ tt
sign-reach i c newline (Operation b.LessEqual) = lit≤ tt
sign-reach i c newline (Operation b.GreaterEqual) = lit≤ tt
sign-reach i c newline (Operation b.InstanceOf) = lit≤ tt
sign-reach true c newline (Operation b.In) = lit≤ tt
sign-reach false c newline (Operation b.In) = lit≤ tt
sign-reach i c newline (Operation b.ShiftLeft) = lit≤ tt
sign-reach i c newline (Operation b.ShiftRight) = lit≤ tt
sign-reach i c newline (Operation b.ShiftRightUnsigned) = lit≤ tt
sign-reach i c newline (Operation b.Add) = lit≤ tt
sign-reach i c newline (Operation b.Subtract) = lit≤ tt
sign-reach i c newline (Operation b.Multiply) = lit≤ tt
sign-reach i c newline (Operation b.Divide) = lit≤ tt
sign-reach i c newline (Operation b.Remainder) = lit≤ tt

operated : (op : Operator) → operator_of (sign op) ≡ Some op
operated LogicalOr = refl
operated LogicalAnd = refl
operated (Operation b.BitOr) = refl
operated (Operation b.BitXor) = refl
operated (Operation b.BitAnd) = refl
operated (Operation b.Equal) = refl
operated (Operation b.NotEqual) = refl
operated (Operation b.Same) = refl
operated (Operation b.NotSame) = refl
operated (Operation b.Less) = refl
operated (Operation b.Greater) = refl
operated (Operation b.LessEqual) = refl
operated (Operation b.GreaterEqual) = refl
operated (Operation b.InstanceOf) = refl
operated (Operation b.In) = refl
operated (Operation b.ShiftLeft) = refl
operated (Operation b.ShiftRight) = refl
operated (Operation b.ShiftRightUnsigned) = refl
operated (Operation b.Add) = refl
operated (Operation b.Subtract) = refl
operated (Operation b.Multiply) = refl
operated (Operation b.Divide) = refl
operated (Operation b.Remainder) = refl

pub operates : (room : Room) (i : Bool) (least : ℕ) (op : Operator) (x : Expr) (next : To Expr) (s : Symbol) (ts : Symbols) → least ≤ level op → may_operate i op ≡ true
    → tail_by (operator_of (sign op)) room i least x next s ts ≡ fitting (fits_around room x) ts (climb (inside room) i (suc (level op)) (λ y r. tail room i least (joined op x y) next r) ts)
operates room i least op x next s ts h may =
    ap (λ o. tail_by o room i least x next s ts) (operated op)
    ∙ ap (λ a. if a && may_operate i op then fitting (fits_around room x) ts (climb (inside room) i (suc (level op)) (λ y r. tail room i least (joined op x y) next r) ts) else next x (s ∷ ts)) (le-leb least (level op) h)
    ∙ ap (λ a. if a then fitting (fits_around room x) ts (climb (inside room) i (suc (level op)) (λ y r. tail room i least (joined op x y) next r) ts) else next x (s ∷ ts)) may

pub prefixed : (op : PrefixOp) → prefix_of (prefix_sign op) ≡ Some op
prefixed p.Delete = refl
prefixed p.Void = refl
prefixed p.TypeOf = refl
prefixed p.Increment = refl
prefixed p.Decrement = refl
prefixed p.Plus = refl
prefixed p.Minus = refl
prefixed p.BitNot = refl
prefixed p.Not = refl

pub assigned : (op : Option BinaryOp) (joint : Mark) (room : Room) (i : Bool) (x : Expr) (next : To Expr) (s : Symbol) (ts : Symbols) → assignment op ≡ Some joint → choice_by (k.Mark joint) room i x next s ts ≡ assign_to op room i x next s ts
assigned None joint room i x next s ts h = let f : m.Assign ≡ joint = cc in subst (λ a. choice_by (k.Mark a) room i x next s ts ≡ assign_to None room i x next s ts) f refl
assigned (Some b.BitOr) joint room i x next s ts h = let f : m.BitOrAssign ≡ joint = cc in subst (λ a. choice_by (k.Mark a) room i x next s ts ≡ assign_to (Some b.BitOr) room i x next s ts) f refl
assigned (Some b.BitXor) joint room i x next s ts h = let f : m.BitXorAssign ≡ joint = cc in subst (λ a. choice_by (k.Mark a) room i x next s ts ≡ assign_to (Some b.BitXor) room i x next s ts) f refl
assigned (Some b.BitAnd) joint room i x next s ts h = let f : m.BitAndAssign ≡ joint = cc in subst (λ a. choice_by (k.Mark a) room i x next s ts ≡ assign_to (Some b.BitAnd) room i x next s ts) f refl
assigned (Some b.Equal) joint room i x next s ts h = cc
assigned (Some b.NotEqual) joint room i x next s ts h = cc
assigned (Some b.Same) joint room i x next s ts h = cc
assigned (Some b.NotSame) joint room i x next s ts h = cc
assigned (Some b.Less) joint room i x next s ts h = cc
assigned (Some b.Greater) joint room i x next s ts h = cc
assigned (Some b.LessEqual) joint room i x next s ts h = cc
assigned (Some b.GreaterEqual) joint room i x next s ts h = cc
assigned (Some b.InstanceOf) joint room i x next s ts h = cc
assigned (Some b.In) joint room i x next s ts h = cc
assigned (Some b.ShiftLeft) joint room i x next s ts h = let f : m.ShiftLeftAssign ≡ joint = cc in subst (λ a. choice_by (k.Mark a) room i x next s ts ≡ assign_to (Some b.ShiftLeft) room i x next s ts) f refl
assigned (Some b.ShiftRight) joint room i x next s ts h = let f : m.ShiftRightAssign ≡ joint = cc in subst (λ a. choice_by (k.Mark a) room i x next s ts ≡ assign_to (Some b.ShiftRight) room i x next s ts) f refl
assigned (Some b.ShiftRightUnsigned) joint room i x next s ts h = let f : m.ShiftRightUnsignedAssign ≡ joint = cc in subst (λ a. choice_by (k.Mark a) room i x next s ts ≡ assign_to (Some b.ShiftRightUnsigned) room i x next s ts) f refl
assigned (Some b.Add) joint room i x next s ts h = let f : m.PlusAssign ≡ joint = cc in subst (λ a. choice_by (k.Mark a) room i x next s ts ≡ assign_to (Some b.Add) room i x next s ts) f refl
assigned (Some b.Subtract) joint room i x next s ts h = let f : m.MinusAssign ≡ joint = cc in subst (λ a. choice_by (k.Mark a) room i x next s ts ≡ assign_to (Some b.Subtract) room i x next s ts) f refl
assigned (Some b.Multiply) joint room i x next s ts h = let f : m.TimesAssign ≡ joint = cc in subst (λ a. choice_by (k.Mark a) room i x next s ts ≡ assign_to (Some b.Multiply) room i x next s ts) f refl
assigned (Some b.Divide) joint room i x next s ts h = let f : m.SlashAssign ≡ joint = cc in subst (λ a. choice_by (k.Mark a) room i x next s ts ≡ assign_to (Some b.Divide) room i x next s ts) f refl
assigned (Some b.Remainder) joint room i x next s ts h = let f : m.PercentAssign ≡ joint = cc in subst (λ a. choice_by (k.Mark a) room i x next s ts ≡ assign_to (Some b.Remainder) room i x next s ts) f refl

pub assigns-reach : (op : Option BinaryOp) (joint : Mark) (i c newline : Bool) → assignment op ≡ Some joint → kind_reach_in i c newline (k.Mark joint) ≡ 2
assigns-reach None joint i c newline h = let f : m.Assign ≡ joint = cc in subst (λ a. kind_reach_in i c newline (k.Mark a) ≡ 2) f refl
assigns-reach (Some b.BitOr) joint i c newline h = let f : m.BitOrAssign ≡ joint = cc in subst (λ a. kind_reach_in i c newline (k.Mark a) ≡ 2) f refl
assigns-reach (Some b.BitXor) joint i c newline h = let f : m.BitXorAssign ≡ joint = cc in subst (λ a. kind_reach_in i c newline (k.Mark a) ≡ 2) f refl
assigns-reach (Some b.BitAnd) joint i c newline h = let f : m.BitAndAssign ≡ joint = cc in subst (λ a. kind_reach_in i c newline (k.Mark a) ≡ 2) f refl
assigns-reach (Some b.Equal) joint i c newline h = cc
assigns-reach (Some b.NotEqual) joint i c newline h = cc
assigns-reach (Some b.Same) joint i c newline h = cc
assigns-reach (Some b.NotSame) joint i c newline h = cc
assigns-reach (Some b.Less) joint i c newline h = cc
assigns-reach (Some b.Greater) joint i c newline h = cc
assigns-reach (Some b.LessEqual) joint i c newline h = cc
assigns-reach (Some b.GreaterEqual) joint i c newline h = cc
assigns-reach (Some b.InstanceOf) joint i c newline h = cc
assigns-reach (Some b.In) joint i c newline h = cc
assigns-reach (Some b.ShiftLeft) joint i c newline h = let f : m.ShiftLeftAssign ≡ joint = cc in subst (λ a. kind_reach_in i c newline (k.Mark a) ≡ 2) f refl
assigns-reach (Some b.ShiftRight) joint i c newline h = let f : m.ShiftRightAssign ≡ joint = cc in subst (λ a. kind_reach_in i c newline (k.Mark a) ≡ 2) f refl
assigns-reach (Some b.ShiftRightUnsigned) joint i c newline h = let f : m.ShiftRightUnsignedAssign ≡ joint = cc in subst (λ a. kind_reach_in i c newline (k.Mark a) ≡ 2) f refl
assigns-reach (Some b.Add) joint i c newline h = let f : m.PlusAssign ≡ joint = cc in subst (λ a. kind_reach_in i c newline (k.Mark a) ≡ 2) f refl
assigns-reach (Some b.Subtract) joint i c newline h = let f : m.MinusAssign ≡ joint = cc in subst (λ a. kind_reach_in i c newline (k.Mark a) ≡ 2) f refl
assigns-reach (Some b.Multiply) joint i c newline h = let f : m.TimesAssign ≡ joint = cc in subst (λ a. kind_reach_in i c newline (k.Mark a) ≡ 2) f refl
assigns-reach (Some b.Divide) joint i c newline h = let f : m.SlashAssign ≡ joint = cc in subst (λ a. kind_reach_in i c newline (k.Mark a) ≡ 2) f refl
assigns-reach (Some b.Remainder) joint i c newline h = let f : m.PercentAssign ≡ joint = cc in subst (λ a. kind_reach_in i c newline (k.Mark a) ≡ 2) f refl

-- an operand begins with no prefix operator
pub no-prefix : (kind : TokenKind) → begins_operand kind ≡ true → prefix_of kind ≡ None
no-prefix (k.Word w.Delete) h = cc
no-prefix (k.Word w.Void) h = cc
no-prefix (k.Word w.TypeOf) h = cc
no-prefix (k.Mark m.PlusPlus) h = cc
no-prefix (k.Mark m.MinusMinus) h = cc
no-prefix (k.Mark m.Plus) h = cc
no-prefix (k.Mark m.Minus) h = cc
no-prefix (k.Mark m.BitNot) h = cc
no-prefix (k.Mark m.Not) h = cc
no-prefix _ h = refl

pub low-or-top : (op : Operator) → (suc (level op) ≤ 13) ⊎ (level op ≡ 13)
low-or-top LogicalOr = inl (lit≤ tt)
low-or-top LogicalAnd = inl (lit≤ tt)
low-or-top (Operation b.BitOr) = inl (lit≤ tt)
low-or-top (Operation b.BitXor) = inl (lit≤ tt)
low-or-top (Operation b.BitAnd) = inl (lit≤ tt)
low-or-top (Operation b.Equal) = inl (lit≤ tt)
low-or-top (Operation b.NotEqual) = inl (lit≤ tt)
low-or-top (Operation b.Same) = inl (lit≤ tt)
low-or-top (Operation b.NotSame) = inl (lit≤ tt)
low-or-top (Operation b.Less) = inl (lit≤ tt)
low-or-top (Operation b.Greater) = inl (lit≤ tt)
low-or-top (Operation b.LessEqual) = inl (lit≤ tt)
low-or-top (Operation b.GreaterEqual) = inl (lit≤ tt)
low-or-top (Operation b.InstanceOf) = inl (lit≤ tt)
low-or-top (Operation b.In) = inl (lit≤ tt)
low-or-top (Operation b.ShiftLeft) = inl (lit≤ tt)
low-or-top (Operation b.ShiftRight) = inl (lit≤ tt)
low-or-top (Operation b.ShiftRightUnsigned) = inl (lit≤ tt)
low-or-top (Operation b.Add) = inl (lit≤ tt)
low-or-top (Operation b.Subtract) = inl (lit≤ tt)
low-or-top (Operation b.Multiply) = inr refl
low-or-top (Operation b.Divide) = inr refl
low-or-top (Operation b.Remainder) = inr refl
