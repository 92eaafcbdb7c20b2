-- A key is read back from the token that it is written as.
use Rattle.std.proofs.Common.{if◌then◌else◌, cond, map, ◌≡◌, ◌≢◌, ℕ, zero, suc, ◌+◌, ◌/◌, ◌%◌, ◌<◌, ◌==◌, nat_lt, nat_le, Bool, true, false, not, ◌&&◌, ◌||◌, List, [], ◌∷◌, ◌++◌, Some, None, is_none, drop, length, codes, refl, ap, sym, ◌∙◌, subst, arith}
use Rattle.std.specs.List.{list_all, find}
use Rattle.std.specs.Fmt.{decimal, digits, digits_onto, digit_glyph}
use Rattle.std.specs.Int.{is_in_range}
use Rattle.std.specs.Char.Utf16.{utf16_chars, is_low_surrogate, surrogate_pair_char}
use Rattle.std.proofs.lemmas.Bool.{eqb-true, ltb-true, leb-true, lt-ltb, lt-leb}
use Rattle.unicode_ident.proofs.Computing.{unicode_ident}
use Rattle.unicode_ident.proofs.IdentLemmas.{is_xid_continue-ascii}
use Rattle.js_lexer.specs.Characters.{begins, is_digit, continues_name, first_is, number_of}
use Rattle.js_lexer.specs.Names.{is_name, is_name_text, passes}
use Rattle.js_lexer.specs.Words.{is_spelled, spelling, words, word_of}
use Rattle.js_lexer.specs.declared.word.Word.{Word}
use Rattle.js_lexer.specs.declared.word.Word.TheVariants as w
use Rattle.js_lexer.specs.declared.token.TokenKind.{TokenKind}
use Rattle.js_lexer.specs.declared.token.TokenKind.TheVariants as k
use Rattle.js_tree.specs.Tree.{Name}
use Rattle.js_parser.specs.declared.form.Form.{Form}
use Rattle.js_tree.specs.Numbering.{is_function_number}
use Rattle.js_parser.specs.Names.{key_of, may_stand, is_own, is_cell, is_written, is_numeral}
use Rattle.js_printer.specs.Printed.{key_kind}

-- ---- numbers

glyph_below : (d : ℕ) (b : Bool) → nat_lt d 10 ≡ b → 36 ≢ (if b then 48 + d else 87 + d)
glyph_below d true h e = omega arith
glyph_below d false h e = omega arith

begins_as_own : (c : ℕ) (cs : List ℕ) (b : Bool) → (36 == c) ≡ b → 36 ≢ c → is_own (c ∷ cs) ≡ false
begins_as_own c cs true h other = absurd (other (eqb-true 36 c h))
begins_as_own c cs false h other = ap (λ a. a && begins (codes "dl_") cs) h

glyph_not_own : (d : ℕ) (acc : List ℕ) → is_own (digit_glyph false d ∷ acc) ≡ false
glyph_not_own d acc = begins_as_own (digit_glyph false d) acc (36 == digit_glyph false d) refl (glyph_below d (nat_lt d 10) refl)

onto_by : (n m : ℕ) (acc : List ℕ) (b : Bool) → is_own (digits_onto n 10 false (m / 10) (digit_glyph false (m % 10) ∷ acc)) ≡ false
    → is_own (if b then digit_glyph false (m % 10) ∷ acc else digits_onto n 10 false (m / 10) (digit_glyph false (m % 10) ∷ acc)) ≡ false
onto_by n m acc true h = glyph_not_own (m % 10) acc
onto_by n m acc false h = h

onto_not_own : (n m : ℕ) (acc : List ℕ) → is_own acc ≡ false → is_own (digits_onto n 10 false m acc) ≡ false
onto_not_own zero m acc h = h
onto_not_own (suc n) m acc h = onto_by n m acc (m / 10 == 0) (onto_not_own n (m / 10) (digit_glyph false (m % 10) ∷ acc) (glyph_not_own (m % 10) acc))

decimal_not_own : (n : ℕ) → is_own (decimal n) ≡ false
unfolding digits
decimal_not_own n = onto_not_own 64 n [] refl

-- ---- keys that do not begin with `$dl_`

stands : (form : Form) (key : Name) → is_own key ≡ false → may_stand form key ≡ true
stands form key h = ap (λ a. not a || (is_written form && is_cell key)) h

named : (form : Form) (key : Name) → may_stand form key ≡ true → key_of form (k.Name key) ≡ Some key
named form key h = ap (λ a. if a then Some key else None) h

quoted : (form : Form) (key : Name) → is_own key ≡ false → key_of form (k.Str key) ≡ Some key
quoted form key h = ap (λ a. if a then None else Some key) h

either : (form : Form) (key : Name) (a : Bool) → is_own key ≡ false → key_of form (if a then k.Name key else k.Str key) ≡ Some key
either form key true h = named form key (stands form key h)
either form key false h = quoted form key h

-- ---- cells

both : (a c : Bool) → a ≡ true → c ≡ true → (a && c) ≡ true
both true true h i = refl
both true false h i = i
both false c h i = h

left : (a c : Bool) → (a && c) ≡ true → a ≡ true
left true c h = refl
left false c h = h

right : (a c : Bool) → (a && c) ≡ true → c ≡ true
right true c h = h
right false c h = absurd cc

and-false : (a : Bool) → (a && false) ≡ false
and-false true = refl
and-false false = refl

or-true : (a : Bool) → (a || true) ≡ true
or-true true = refl
or-true false = refl

-- no word begins with `$`
no_word : (us : List ℕ) (w : Word) → is_spelled (spelling w) (36 ∷ us) ≡ false
no_word us w.Break = and-false (length (spelling w.Break) == length (36 ∷ us))
no_word us w.Case = and-false (length (spelling w.Case) == length (36 ∷ us))
no_word us w.Catch = and-false (length (spelling w.Catch) == length (36 ∷ us))
no_word us w.Continue = and-false (length (spelling w.Continue) == length (36 ∷ us))
no_word us w.Default = and-false (length (spelling w.Default) == length (36 ∷ us))
no_word us w.Delete = and-false (length (spelling w.Delete) == length (36 ∷ us))
no_word us w.Do = and-false (length (spelling w.Do) == length (36 ∷ us))
no_word us w.Else = and-false (length (spelling w.Else) == length (36 ∷ us))
no_word us w.Finally = and-false (length (spelling w.Finally) == length (36 ∷ us))
no_word us w.For = and-false (length (spelling w.For) == length (36 ∷ us))
no_word us w.Function = and-false (length (spelling w.Function) == length (36 ∷ us))
no_word us w.If = and-false (length (spelling w.If) == length (36 ∷ us))
no_word us w.In = and-false (length (spelling w.In) == length (36 ∷ us))
no_word us w.InstanceOf = and-false (length (spelling w.InstanceOf) == length (36 ∷ us))
no_word us w.New = and-false (length (spelling w.New) == length (36 ∷ us))
no_word us w.Return = and-false (length (spelling w.Return) == length (36 ∷ us))
no_word us w.Switch = and-false (length (spelling w.Switch) == length (36 ∷ us))
no_word us w.This = and-false (length (spelling w.This) == length (36 ∷ us))
no_word us w.Throw = and-false (length (spelling w.Throw) == length (36 ∷ us))
no_word us w.Try = and-false (length (spelling w.Try) == length (36 ∷ us))
no_word us w.TypeOf = and-false (length (spelling w.TypeOf) == length (36 ∷ us))
no_word us w.Var = and-false (length (spelling w.Var) == length (36 ∷ us))
no_word us w.Void = and-false (length (spelling w.Void) == length (36 ∷ us))
no_word us w.While = and-false (length (spelling w.While) == length (36 ∷ us))
no_word us w.With = and-false (length (spelling w.With) == length (36 ∷ us))
no_word us w.Null = and-false (length (spelling w.Null) == length (36 ∷ us))
no_word us w.True = and-false (length (spelling w.True) == length (36 ∷ us))
no_word us w.False = and-false (length (spelling w.False) == length (36 ∷ us))
no_word us w.Abstract = and-false (length (spelling w.Abstract) == length (36 ∷ us))
no_word us w.Boolean = and-false (length (spelling w.Boolean) == length (36 ∷ us))
no_word us w.Byte = and-false (length (spelling w.Byte) == length (36 ∷ us))
no_word us w.Char = and-false (length (spelling w.Char) == length (36 ∷ us))
no_word us w.Class = and-false (length (spelling w.Class) == length (36 ∷ us))
no_word us w.Const = and-false (length (spelling w.Const) == length (36 ∷ us))
no_word us w.Debugger = and-false (length (spelling w.Debugger) == length (36 ∷ us))
no_word us w.Double = and-false (length (spelling w.Double) == length (36 ∷ us))
no_word us w.Enum = and-false (length (spelling w.Enum) == length (36 ∷ us))
no_word us w.Export = and-false (length (spelling w.Export) == length (36 ∷ us))
no_word us w.Extends = and-false (length (spelling w.Extends) == length (36 ∷ us))
no_word us w.Final = and-false (length (spelling w.Final) == length (36 ∷ us))
no_word us w.Float = and-false (length (spelling w.Float) == length (36 ∷ us))
no_word us w.Goto = and-false (length (spelling w.Goto) == length (36 ∷ us))
no_word us w.Implements = and-false (length (spelling w.Implements) == length (36 ∷ us))
no_word us w.Import = and-false (length (spelling w.Import) == length (36 ∷ us))
no_word us w.Int = and-false (length (spelling w.Int) == length (36 ∷ us))
no_word us w.Interface = and-false (length (spelling w.Interface) == length (36 ∷ us))
no_word us w.Long = and-false (length (spelling w.Long) == length (36 ∷ us))
no_word us w.Native = and-false (length (spelling w.Native) == length (36 ∷ us))
no_word us w.Package = and-false (length (spelling w.Package) == length (36 ∷ us))
no_word us w.Private = and-false (length (spelling w.Private) == length (36 ∷ us))
no_word us w.Protected = and-false (length (spelling w.Protected) == length (36 ∷ us))
no_word us w.Public = and-false (length (spelling w.Public) == length (36 ∷ us))
no_word us w.Short = and-false (length (spelling w.Short) == length (36 ∷ us))
no_word us w.Static = and-false (length (spelling w.Static) == length (36 ∷ us))
no_word us w.Super = and-false (length (spelling w.Super) == length (36 ∷ us))
no_word us w.Synchronized = and-false (length (spelling w.Synchronized) == length (36 ∷ us))
no_word us w.Throws = and-false (length (spelling w.Throws) == length (36 ∷ us))
no_word us w.Transient = and-false (length (spelling w.Transient) == length (36 ∷ us))
no_word us w.Volatile = and-false (length (spelling w.Volatile) == length (36 ∷ us))

find_none : (p : Word → Bool) (ws : List Word) → ((w : Word) → p w ≡ false) → find p ws ≡ None
find_none p [] h = refl
find_none p (w ∷ ws) h = ap (λ a. cond a (Some w) (find p ws)) (h w) ∙ find_none p ws h

-- units of ASCII are characters
below : (u : ℕ) → nat_lt u 128 ≡ true → nat_le 0xD800 u ≡ false
below u h = let small = ltb-true u 128 h in lt-leb 0xD800 u (omega arith)

ascii : (us : List ℕ) → list_all (λ u. nat_lt u 128) us ≡ true → utf16_chars us ≡ map Some us
unfolding utf16_chars
ascii [] h = refl
ascii (u ∷ []) h = ap (λ a. (if a && nat_lt u 0xE000 then None else Some u) ∷ []) (below u (left (nat_lt u 128) true h))
ascii (u ∷ v ∷ us) h =
    ap (λ a. if (a && nat_lt u 0xDC00) && is_low_surrogate v then Some (surrogate_pair_char u v) ∷ utf16_chars us else (if a && nat_lt u 0xE000 then None else Some u) ∷ utf16_chars (v ∷ us))
    (below u (left (nat_lt u 128) (list_all (λ u. nat_lt u 128) (v ∷ us)) h))
    ∙ ap (λ cs. Some u ∷ cs) (ascii (v ∷ us) (right (nat_lt u 128) (list_all (λ u. nat_lt u 128) (v ∷ us)) h))

digit_small : (c : ℕ) → is_digit c ≡ true → c < 128
digit_small c h = let small = leb-true c 57 (right (nat_le 48 c) (nat_le c 57) h) in omega arith

digit_continues : (c : ℕ) → is_digit c ≡ true → continues_name c ≡ true
digit_continues c h =
    ap (λ a. (c == 36) || ((c == 95) || a)) (is_xid_continue-ascii c (digit_small c h) ∙ ap (λ a. ((a || is_in_range 65 90 c) || is_in_range 97 122 c) || (c == 95)) h)
    ∙ ap (λ a. (c == 36) || a) (or-true (c == 95)) ∙ or-true (c == 36)

digits_ascii : (ds : List ℕ) → list_all is_digit ds ≡ true → list_all (λ u. nat_lt u 128) ds ≡ true
digits_ascii [] h = refl
digits_ascii (d ∷ ds) h =
    both (nat_lt d 128) (list_all (λ u. nat_lt u 128) ds) (lt-ltb d 128 (digit_small d (left (is_digit d) (list_all is_digit ds) h))) (digits_ascii ds (right (is_digit d) (list_all is_digit ds) h))

digits_continue : (ds : List ℕ) → list_all is_digit ds ≡ true → list_all (passes continues_name) (map Some ds) ≡ true
digits_continue [] h = refl
digits_continue (d ∷ ds) h =
    both (continues_name d) (list_all (passes continues_name) (map Some ds)) (digit_continues d (left (is_digit d) (list_all is_digit ds) h)) (digits_continue ds (right (is_digit d) (list_all is_digit ds) h))

-- `$dl_r` and digits
cell_text : List ℕ → List ℕ
cell_text ds = 36 ∷ 100 ∷ 108 ∷ 95 ∷ 114 ∷ ds

cell_text_is_name : (ds : List ℕ) → list_all is_digit ds ≡ true → (is_name (cell_text ds) && list_all (λ unit. nat_lt unit 128) (cell_text ds)) ≡ true
unfolding unicode_ident cell_text
cell_text_is_name ds h =
    both (is_name (cell_text ds)) (list_all (λ unit. nat_lt unit 128) (cell_text ds))
    (both (is_name_text (utf16_chars (cell_text ds))) (is_none (word_of (cell_text ds)))
    (ap is_name_text (ascii (cell_text ds) (digits_ascii ds h)) ∙ digits_continue ds h)
    (ap is_none (find_none (λ word. is_spelled (spelling word) (cell_text ds)) words (no_word (100 ∷ 108 ∷ 95 ∷ 114 ∷ ds)))))
    (digits_ascii ds h)

begun : (xs key : List ℕ) → begins xs key ≡ true → key ≡ xs ++ drop (length xs) key
begun [] key h = refl
begun (x ∷ xs) [] h = cc
begun (x ∷ xs) (c ∷ cs) h = let e = eqb-true x c (left (x == c) (begins xs cs) h) in
    ap (λ y. y ∷ cs) (sym e) ∙ ap (λ ys. x ∷ ys) (begun xs cs (right (x == c) (begins xs cs) h))

cell_is_name : (key : Name) → is_cell key ≡ true → (is_name key && list_all (λ unit. nat_lt unit 128) key) ≡ true
unfolding cell_text
cell_is_name key h =
    subst (λ n. (is_name n && list_all (λ unit. nat_lt unit 128) n) ≡ true) (sym (begun (codes "$dl_r") key (left (begins (codes "$dl_r") key) (is_numeral (drop 5 key)) h)))
    (cell_text_is_name (drop 5 key) (left (list_all is_digit (drop 5 key)) (not (first_is (λ c. nat_le c 48) (drop 5 key)) && is_function_number (number_of 10 (drop 5 key)))
    (right (begins (codes "$dl_r") key) (is_numeral (drop 5 key)) h)))

owned : (form : Form) (key : Name) (a : Bool) → is_own key ≡ a → may_stand form key ≡ true → key_of form (key_kind key) ≡ Some key
owned form key false h may = either form key (is_name key && list_all (λ unit. nat_lt unit 128) key) h
owned form key true h may = let cell = right (is_written form) (is_cell key) (sym (ap (λ a. not a || (is_written form && is_cell key)) h) ∙ may) in
    ap (λ a. key_of form (if a then k.Name key else k.Str key)) (cell_is_name key cell) ∙ named form key may

same : (form : Form) (a key : Name) → Some a ≡ Some key → key_of form (key_kind a) ≡ Some a → key_of form (key_kind key) ≡ Some key
same form a key e h = let f : a ≡ key = cc in subst (λ n. key_of form (key_kind n) ≡ Some n) f h

by_name : (form : Form) (n key : Name) (a : Bool) → may_stand form n ≡ a → (if a then Some n else None) ≡ Some key → key_of form (key_kind key) ≡ Some key
by_name form n key true h e = same form n key e (owned form n (is_own n) refl h)
by_name form n key false h e = cc

by_string : (form : Form) (n key : Name) (a : Bool) → is_own n ≡ a → (if a then None else Some n) ≡ Some key → key_of form (key_kind key) ≡ Some key
by_string form n key true h e = cc
by_string form n key false h e = same form n key e (either form n (is_name n && list_all (λ unit. nat_lt unit 128) n) h)

pub key_back : (form : Form) (kind : TokenKind) (key : Name) → key_of form kind ≡ Some key → key_of form (key_kind key) ≡ Some key
key_back form (k.Name n) key h = by_name form n key (may_stand form n) refl h
key_back form (k.Str n) key h = by_string form n key (is_own n) refl h
key_back form (k.Number n) key h = same form (decimal n) key h (either form (decimal n) (is_name (decimal n) && list_all (λ unit. nat_lt unit 128) (decimal n)) (decimal_not_own n))
key_back form (k.Word w) key h = cc
key_back form (k.Mark m) key h = cc
key_back form k.End key h = cc
