-- A mark that stands in a text is read as itself, where nothing behind it makes a longer one.
use Rattle.std.proofs.Common.{◌≡◌, ℕ, ◌==◌, Bool, true, false, not, ◌||◌, List, [], ◌∷◌, ◌++◌, length, Some, refl, ap, subst, arith, lit<}
use Rattle.std.proofs.lemmas.Bool.Decides.{nat_tests}
use Rattle.std.proofs.Math.Utf8.{scalars}
use Rattle.js_lexer.specs.Characters.{begins_name, first_is, is_digit}
use Rattle.js_lexer.specs.Fronts.{StandsAt, front_by, is_blank, mark_or_fault, is_quote}
use Rattle.js_lexer.specs.Fronts as f
use Rattle.js_lexer.specs.Marks.{spelling, front_mark}
use Rattle.js_lexer.specs.declared.mark.Mark.{Mark}
use Rattle.js_lexer.specs.declared.mark.Mark.TheVariants as m
use Rattle.js_lexer.specs.declared.front.Front.TheVariants.{Next}
use Rattle.js_lexer.specs.declared.token.TokenKind.TheVariants as t
use Rattle.js_lexer.proofs.Longest.{plain}

-- a character with which a mark may go on, but for a second `+` and a second `-`
abbrev pub is_loud : ℕ → Bool
is_loud c = (61 == c) || ((60 == c) || ((62 == c) || ((38 == c) || ((124 == c) || ((42 == c) || (47 == c))))))

-- what stands behind a mark does not go on with it
abbrev pub mark_stops : Mark → List ℕ → Bool
mark_stops m.Plus rest = not (first_is (λ c. is_loud c || (43 == c)) rest)
mark_stops m.Minus rest = not (first_is (λ c. is_loud c || (45 == c)) rest)
mark_stops m.Dot rest = not (first_is is_digit rest)
mark_stops m.Less rest = not (first_is is_loud rest)
mark_stops m.Greater rest = not (first_is is_loud rest)
mark_stops m.Equal rest = not (first_is is_loud rest)
mark_stops m.NotEqual rest = not (first_is is_loud rest)
mark_stops m.Times rest = not (first_is is_loud rest)
mark_stops m.Slash rest = not (first_is is_loud rest)
mark_stops m.Percent rest = not (first_is is_loud rest)
mark_stops m.ShiftLeft rest = not (first_is is_loud rest)
mark_stops m.ShiftRight rest = not (first_is is_loud rest)
mark_stops m.ShiftRightUnsigned rest = not (first_is is_loud rest)
mark_stops m.BitAnd rest = not (first_is is_loud rest)
mark_stops m.BitOr rest = not (first_is is_loud rest)
mark_stops m.BitXor rest = not (first_is is_loud rest)
mark_stops m.Not rest = not (first_is is_loud rest)
mark_stops m.Assign rest = not (first_is is_loud rest)
mark_stops _ rest = true

-- ---- a character that does not go on with a mark

record IsQuiet (c : ℕ) : Type 0 where
  assign : (61 == c) ≡ false
  less : (60 == c) ≡ false
  greater : (62 == c) ≡ false
  and : (38 == c) ≡ false
  or : (124 == c) ≡ false
  times : (42 == c) ≡ false
  slash : (47 == c) ≡ false

no : (a b : Bool) → (a || b) ≡ false → (a ≡ false) × (b ≡ false)
no true b h = absurd (cc)
no false b h = (refl, h)

unless : (a : Bool) → not a ≡ true → a ≡ false
unless true h = absurd (cc)
unless false h = refl

quiet : (c : ℕ) → is_loud c ≡ false → IsQuiet c
quiet c h =
    let a = no (61 == c) ((60 == c) || ((62 == c) || ((38 == c) || ((124 == c) || ((42 == c) || (47 == c)))))) h in
    let b = no (60 == c) ((62 == c) || ((38 == c) || ((124 == c) || ((42 == c) || (47 == c))))) a.1 in
    let d = no (62 == c) ((38 == c) || ((124 == c) || ((42 == c) || (47 == c)))) b.1 in
    let e = no (38 == c) ((124 == c) || ((42 == c) || (47 == c))) d.1 in
    let g = no (124 == c) ((42 == c) || (47 == c)) e.1 in
    let i = no (42 == c) (47 == c) g.1 in
    record { assign = a.0; less = b.0; greater = d.0; and = e.0; or = g.0; times = i.0; slash = i.1 }

turned : (a c : ℕ) → (a == c) ≡ false → (c == a) ≡ false
turned a c h = grind (arith, nat_tests)

-- ---- the longest mark

front_Less : (rest : List ℕ) → first_is is_loud rest ≡ false → front_mark (60 ∷ rest) ≡ Some m.Less
front_Less [] h = refl
front_Less (c ∷ cs) h = let q = quiet c h in simp (q.less, q.assign)

front_Greater : (rest : List ℕ) → first_is is_loud rest ≡ false → front_mark (62 ∷ rest) ≡ Some m.Greater
front_Greater [] h = refl
front_Greater (c ∷ cs) h = let q = quiet c h in simp (q.assign, q.greater)

front_Equal : (rest : List ℕ) → first_is is_loud rest ≡ false → front_mark (61 ∷ 61 ∷ rest) ≡ Some m.Equal
front_Equal [] h = refl
front_Equal (c ∷ cs) h = let q = quiet c h in simp (q.assign)

front_NotEqual : (rest : List ℕ) → first_is is_loud rest ≡ false → front_mark (33 ∷ 61 ∷ rest) ≡ Some m.NotEqual
front_NotEqual [] h = refl
front_NotEqual (c ∷ cs) h = let q = quiet c h in simp (q.assign)

front_Plus : (rest : List ℕ) → first_is (λ c. is_loud c || (43 == c)) rest ≡ false → front_mark (43 ∷ rest) ≡ Some m.Plus
front_Plus [] h = refl
front_Plus (c ∷ cs) h = let both = no (is_loud c) (43 == c) h in let q = quiet c both.0 in rw (both.1, q.assign) refl

front_Minus : (rest : List ℕ) → first_is (λ c. is_loud c || (45 == c)) rest ≡ false → front_mark (45 ∷ rest) ≡ Some m.Minus
front_Minus [] h = refl
front_Minus (c ∷ cs) h = let both = no (is_loud c) (45 == c) h in let q = quiet c both.0 in rw (both.1, q.assign) refl

front_Times : (rest : List ℕ) → first_is is_loud rest ≡ false → front_mark (42 ∷ rest) ≡ Some m.Times
front_Times [] h = refl
front_Times (c ∷ cs) h = let q = quiet c h in simp (q.assign)

front_Slash : (rest : List ℕ) → first_is is_loud rest ≡ false → front_mark (47 ∷ rest) ≡ Some m.Slash
front_Slash [] h = refl
front_Slash (c ∷ cs) h = let q = quiet c h in simp (q.assign)

front_Percent : (rest : List ℕ) → first_is is_loud rest ≡ false → front_mark (37 ∷ rest) ≡ Some m.Percent
front_Percent [] h = refl
front_Percent (c ∷ cs) h = let q = quiet c h in simp (q.assign)

front_ShiftLeft : (rest : List ℕ) → first_is is_loud rest ≡ false → front_mark (60 ∷ 60 ∷ rest) ≡ Some m.ShiftLeft
front_ShiftLeft [] h = refl
front_ShiftLeft (c ∷ cs) h = let q = quiet c h in simp (q.assign)

front_ShiftRight : (rest : List ℕ) → first_is is_loud rest ≡ false → front_mark (62 ∷ 62 ∷ rest) ≡ Some m.ShiftRight
front_ShiftRight [] h = refl
front_ShiftRight (c ∷ cs) h = let q = quiet c h in simp (q.assign, q.greater)

front_ShiftRightUnsigned : (rest : List ℕ) → first_is is_loud rest ≡ false → front_mark (62 ∷ 62 ∷ 62 ∷ rest) ≡ Some m.ShiftRightUnsigned
front_ShiftRightUnsigned [] h = refl
front_ShiftRightUnsigned (c ∷ cs) h = let q = quiet c h in simp (q.assign)

front_BitAnd : (rest : List ℕ) → first_is is_loud rest ≡ false → front_mark (38 ∷ rest) ≡ Some m.BitAnd
front_BitAnd [] h = refl
front_BitAnd (c ∷ cs) h = let q = quiet c h in simp (q.and, q.assign)

front_BitOr : (rest : List ℕ) → first_is is_loud rest ≡ false → front_mark (124 ∷ rest) ≡ Some m.BitOr
front_BitOr [] h = refl
front_BitOr (c ∷ cs) h = let q = quiet c h in simp (q.assign, q.or)

front_BitXor : (rest : List ℕ) → first_is is_loud rest ≡ false → front_mark (94 ∷ rest) ≡ Some m.BitXor
front_BitXor [] h = refl
front_BitXor (c ∷ cs) h = let q = quiet c h in simp (q.assign)

front_Not : (rest : List ℕ) → first_is is_loud rest ≡ false → front_mark (33 ∷ rest) ≡ Some m.Not
front_Not [] h = refl
front_Not (c ∷ cs) h = let q = quiet c h in simp (q.assign)

front_Assign : (rest : List ℕ) → first_is is_loud rest ≡ false → front_mark (61 ∷ rest) ≡ Some m.Assign
front_Assign [] h = refl
front_Assign (c ∷ cs) h = let q = quiet c h in simp (q.assign)

-- ---- at a place

mark_at : (c : ℕ) (rest : List ℕ) (x : Mark) → is_quote c ≡ false → is_blank c ≡ false → (c == 47) ≡ false → begins_name c ≡ false → is_digit c ≡ false → (c == 46) ≡ false → (c == 92) ≡ false
    → front_mark (c ∷ rest) ≡ Some x → StandsAt (c ∷ rest) (Next (length (spelling x)) (Some (t.Mark x)))
mark_at c rest x q b s n d dot back e =
    let read : front_by c rest ≡ Next (length (spelling x)) (Some (t.Mark x)) = rw (b, s, n, d, dot, back) (ap mark_or_fault e) in
    subst (StandsAt (c ∷ rest)) read (f.other q)

dot_at : (rest : List ℕ) → first_is is_digit rest ≡ false → StandsAt (46 ∷ rest) (Next 1 (Some (t.Mark m.Dot)))
dot_at rest h =
    let read : front_by 46 rest ≡ Next 1 (Some (t.Mark m.Dot)) = rw (plain 46 (lit< tt) refl, h) refl in
    subst (StandsAt (46 ∷ rest)) read (f.other refl)

slash_at : (rest : List ℕ) → first_is is_loud rest ≡ false → StandsAt (47 ∷ rest) (Next 1 (Some (t.Mark m.Slash)))
slash_at [] h = f.other refl
slash_at (c ∷ cs) h =
    let q = quiet c h in
    let read : front_by 47 (c ∷ cs) ≡ Next 1 (Some (t.Mark m.Slash)) = rw (turned 47 c q.slash, turned 42 c q.times) (ap mark_or_fault (front_Slash (c ∷ cs) h)) in
    subst (StandsAt (47 ∷ c ∷ cs)) read (f.other refl)

pub mark_stands : (x : Mark) (rest : List ℕ) → mark_stops x rest ≡ true → StandsAt (spelling x ++ rest) (Next (length (spelling x)) (Some (t.Mark x)))
mark_stands m.OpenBrace rest h = mark_at 123 (rest) m.OpenBrace refl refl refl (plain 123 (lit< tt) refl) refl refl refl refl
mark_stands m.CloseBrace rest h = mark_at 125 (rest) m.CloseBrace refl refl refl (plain 125 (lit< tt) refl) refl refl refl refl
mark_stands m.OpenParenthesis rest h = mark_at 40 (rest) m.OpenParenthesis refl refl refl (plain 40 (lit< tt) refl) refl refl refl refl
mark_stands m.CloseParenthesis rest h = mark_at 41 (rest) m.CloseParenthesis refl refl refl (plain 41 (lit< tt) refl) refl refl refl refl
mark_stands m.OpenBracket rest h = mark_at 91 (rest) m.OpenBracket refl refl refl (plain 91 (lit< tt) refl) refl refl refl refl
mark_stands m.CloseBracket rest h = mark_at 93 (rest) m.CloseBracket refl refl refl (plain 93 (lit< tt) refl) refl refl refl refl
mark_stands m.Dot rest h = dot_at rest (unless (first_is is_digit rest) h)
mark_stands m.Semicolon rest h = mark_at 59 (rest) m.Semicolon refl refl refl (plain 59 (lit< tt) refl) refl refl refl refl
mark_stands m.Comma rest h = mark_at 44 (rest) m.Comma refl refl refl (plain 44 (lit< tt) refl) refl refl refl refl
mark_stands m.Less rest h = mark_at 60 (rest) m.Less refl refl refl (plain 60 (lit< tt) refl) refl refl refl (front_Less rest (unless (first_is is_loud rest) h))
mark_stands m.Greater rest h = mark_at 62 (rest) m.Greater refl refl refl (plain 62 (lit< tt) refl) refl refl refl (front_Greater rest (unless (first_is is_loud rest) h))
mark_stands m.LessEqual rest h = mark_at 60 (61 ∷ rest) m.LessEqual refl refl refl (plain 60 (lit< tt) refl) refl refl refl refl
mark_stands m.GreaterEqual rest h = mark_at 62 (61 ∷ rest) m.GreaterEqual refl refl refl (plain 62 (lit< tt) refl) refl refl refl refl
mark_stands m.Equal rest h = mark_at 61 (61 ∷ rest) m.Equal refl refl refl (plain 61 (lit< tt) refl) refl refl refl (front_Equal rest (unless (first_is is_loud rest) h))
mark_stands m.NotEqual rest h = mark_at 33 (61 ∷ rest) m.NotEqual refl refl refl (plain 33 (lit< tt) refl) refl refl refl (front_NotEqual rest (unless (first_is is_loud rest) h))
mark_stands m.StrictEqual rest h = mark_at 61 (61 ∷ 61 ∷ rest) m.StrictEqual refl refl refl (plain 61 (lit< tt) refl) refl refl refl refl
mark_stands m.StrictNotEqual rest h = mark_at 33 (61 ∷ 61 ∷ rest) m.StrictNotEqual refl refl refl (plain 33 (lit< tt) refl) refl refl refl refl
mark_stands m.Plus rest h = mark_at 43 (rest) m.Plus refl refl refl (plain 43 (lit< tt) refl) refl refl refl (front_Plus rest (unless (first_is (λ c. is_loud c || (43 == c)) rest) h))
mark_stands m.Minus rest h = mark_at 45 (rest) m.Minus refl refl refl (plain 45 (lit< tt) refl) refl refl refl (front_Minus rest (unless (first_is (λ c. is_loud c || (45 == c)) rest) h))
mark_stands m.Times rest h = mark_at 42 (rest) m.Times refl refl refl (plain 42 (lit< tt) refl) refl refl refl (front_Times rest (unless (first_is is_loud rest) h))
mark_stands m.Slash rest h = slash_at rest (unless (first_is is_loud rest) h)
mark_stands m.Percent rest h = mark_at 37 (rest) m.Percent refl refl refl (plain 37 (lit< tt) refl) refl refl refl (front_Percent rest (unless (first_is is_loud rest) h))
mark_stands m.PlusPlus rest h = mark_at 43 (43 ∷ rest) m.PlusPlus refl refl refl (plain 43 (lit< tt) refl) refl refl refl refl
mark_stands m.MinusMinus rest h = mark_at 45 (45 ∷ rest) m.MinusMinus refl refl refl (plain 45 (lit< tt) refl) refl refl refl refl
mark_stands m.ShiftLeft rest h = mark_at 60 (60 ∷ rest) m.ShiftLeft refl refl refl (plain 60 (lit< tt) refl) refl refl refl (front_ShiftLeft rest (unless (first_is is_loud rest) h))
mark_stands m.ShiftRight rest h = mark_at 62 (62 ∷ rest) m.ShiftRight refl refl refl (plain 62 (lit< tt) refl) refl refl refl (front_ShiftRight rest (unless (first_is is_loud rest) h))
mark_stands m.ShiftRightUnsigned rest h = mark_at 62 (62 ∷ 62 ∷ rest) m.ShiftRightUnsigned refl refl refl (plain 62 (lit< tt) refl) refl refl refl (front_ShiftRightUnsigned rest (unless (first_is is_loud rest) h))
mark_stands m.BitAnd rest h = mark_at 38 (rest) m.BitAnd refl refl refl (plain 38 (lit< tt) refl) refl refl refl (front_BitAnd rest (unless (first_is is_loud rest) h))
mark_stands m.BitOr rest h = mark_at 124 (rest) m.BitOr refl refl refl (plain 124 (lit< tt) refl) refl refl refl (front_BitOr rest (unless (first_is is_loud rest) h))
mark_stands m.BitXor rest h = mark_at 94 (rest) m.BitXor refl refl refl (plain 94 (lit< tt) refl) refl refl refl (front_BitXor rest (unless (first_is is_loud rest) h))
mark_stands m.Not rest h = mark_at 33 (rest) m.Not refl refl refl (plain 33 (lit< tt) refl) refl refl refl (front_Not rest (unless (first_is is_loud rest) h))
mark_stands m.BitNot rest h = mark_at 126 (rest) m.BitNot refl refl refl (plain 126 (lit< tt) refl) refl refl refl refl
mark_stands m.And rest h = mark_at 38 (38 ∷ rest) m.And refl refl refl (plain 38 (lit< tt) refl) refl refl refl refl
mark_stands m.Or rest h = mark_at 124 (124 ∷ rest) m.Or refl refl refl (plain 124 (lit< tt) refl) refl refl refl refl
mark_stands m.Question rest h = mark_at 63 (rest) m.Question refl refl refl (plain 63 (lit< tt) refl) refl refl refl refl
mark_stands m.Colon rest h = mark_at 58 (rest) m.Colon refl refl refl (plain 58 (lit< tt) refl) refl refl refl refl
mark_stands m.Assign rest h = mark_at 61 (rest) m.Assign refl refl refl (plain 61 (lit< tt) refl) refl refl refl (front_Assign rest (unless (first_is is_loud rest) h))
mark_stands m.PlusAssign rest h = mark_at 43 (61 ∷ rest) m.PlusAssign refl refl refl (plain 43 (lit< tt) refl) refl refl refl refl
mark_stands m.MinusAssign rest h = mark_at 45 (61 ∷ rest) m.MinusAssign refl refl refl (plain 45 (lit< tt) refl) refl refl refl refl
mark_stands m.TimesAssign rest h = mark_at 42 (61 ∷ rest) m.TimesAssign refl refl refl (plain 42 (lit< tt) refl) refl refl refl refl
mark_stands m.SlashAssign rest h = f.other refl
mark_stands m.PercentAssign rest h = mark_at 37 (61 ∷ rest) m.PercentAssign refl refl refl (plain 37 (lit< tt) refl) refl refl refl refl
mark_stands m.ShiftLeftAssign rest h = mark_at 60 (60 ∷ 61 ∷ rest) m.ShiftLeftAssign refl refl refl (plain 60 (lit< tt) refl) refl refl refl refl
mark_stands m.ShiftRightAssign rest h = mark_at 62 (62 ∷ 61 ∷ rest) m.ShiftRightAssign refl refl refl (plain 62 (lit< tt) refl) refl refl refl refl
mark_stands m.ShiftRightUnsignedAssign rest h = mark_at 62 (62 ∷ 62 ∷ 61 ∷ rest) m.ShiftRightUnsignedAssign refl refl refl (plain 62 (lit< tt) refl) refl refl refl refl
mark_stands m.BitAndAssign rest h = mark_at 38 (61 ∷ rest) m.BitAndAssign refl refl refl (plain 38 (lit< tt) refl) refl refl refl refl
mark_stands m.BitOrAssign rest h = mark_at 124 (61 ∷ rest) m.BitOrAssign refl refl refl (plain 124 (lit< tt) refl) refl refl refl refl
mark_stands m.BitXorAssign rest h = mark_at 94 (61 ∷ rest) m.BitXorAssign refl refl refl (plain 94 (lit< tt) refl) refl refl refl refl

pub mark_scalars : (x : Mark) → scalars (spelling x) ≡ true
mark_scalars m.OpenBrace = refl
mark_scalars m.CloseBrace = refl
mark_scalars m.OpenParenthesis = refl
mark_scalars m.CloseParenthesis = refl
mark_scalars m.OpenBracket = refl
mark_scalars m.CloseBracket = refl
mark_scalars m.Dot = refl
mark_scalars m.Semicolon = refl
mark_scalars m.Comma = refl
mark_scalars m.Less = refl
mark_scalars m.Greater = refl
mark_scalars m.LessEqual = refl
mark_scalars m.GreaterEqual = refl
mark_scalars m.Equal = refl
mark_scalars m.NotEqual = refl
mark_scalars m.StrictEqual = refl
mark_scalars m.StrictNotEqual = refl
mark_scalars m.Plus = refl
mark_scalars m.Minus = refl
mark_scalars m.Times = refl
mark_scalars m.Slash = refl
mark_scalars m.Percent = refl
mark_scalars m.PlusPlus = refl
mark_scalars m.MinusMinus = refl
mark_scalars m.ShiftLeft = refl
mark_scalars m.ShiftRight = refl
mark_scalars m.ShiftRightUnsigned = refl
mark_scalars m.BitAnd = refl
mark_scalars m.BitOr = refl
mark_scalars m.BitXor = refl
mark_scalars m.Not = refl
mark_scalars m.BitNot = refl
mark_scalars m.And = refl
mark_scalars m.Or = refl
mark_scalars m.Question = refl
mark_scalars m.Colon = refl
mark_scalars m.Assign = refl
mark_scalars m.PlusAssign = refl
mark_scalars m.MinusAssign = refl
mark_scalars m.TimesAssign = refl
mark_scalars m.SlashAssign = refl
mark_scalars m.PercentAssign = refl
mark_scalars m.ShiftLeftAssign = refl
mark_scalars m.ShiftRightAssign = refl
mark_scalars m.ShiftRightUnsignedAssign = refl
mark_scalars m.BitAndAssign = refl
mark_scalars m.BitOrAssign = refl
mark_scalars m.BitXorAssign = refl
