-- Words and names that stand in a text are read as themselves, where nothing goes on with them.
use Rattle.std.proofs.Common.{◌≡◌, ℕ, suc, ◌≤◌, ◌<◌, ◌==◌, nat_lt, nat_le, Bool, true, false, ◌&&◌, ◌||◌, List, [], ◌∷◌, ◌++◌, length, take, map, Option, Some, None, is_none, refl, ap, sym, ◌∙◌, subst, arith}
use Rattle.std.specs.List.{list_all}
use Rattle.std.specs.Char.{is_ascii_alphabetic}
use Rattle.std.specs.Option.{unwrap_or}
use Rattle.std.specs.Char.Utf16.{utf16_chars, utf16_lossy_chars}
use Rattle.std.proofs.Math.Seq.{take-append_seam}
use Rattle.std.proofs.Math.Utf8.{scalars}
use Rattle.std.proofs.lemmas.Bool.{leb-true, lt-ltb}
use Rattle.std.proofs.lemmas.Bool.Decides.{nat_tests}
use Rattle.unicode_ident.proofs.IdentLemmas.{is_xid_start-ascii}
use Rattle.dl_text.specs.Utf16.{utf16}
use Rattle.js_lexer.specs.Characters.{begins_name, continues_name, first_is, run}
use Rattle.js_lexer.specs.Fronts.{StandsAt, front_by, name_kind, word_or_name}
use Rattle.js_lexer.specs.Fronts as f
use Rattle.js_lexer.specs.Names.{is_name, is_name_text, passes}
use Rattle.js_lexer.specs.Words.{spelling, word_of}
use Rattle.js_lexer.specs.declared.front.Front.TheVariants.{Next}
use Rattle.js_lexer.specs.declared.word.Word.{Word}
use Rattle.js_lexer.specs.declared.word.Word.TheVariants as w
use Rattle.js_lexer.specs.declared.token.TokenKind.TheVariants as t
use Rattle.js_lexer.proofs.Longest.{name_front, name_quote}
use Rattle.js_lexer.proofs.PieceLaws.{left, right}
use Rattle.js_lexer.proofs.Within.{continues_first}
use Rattle.cluster_files.specs.WritableKinds.{are_units}
use Rattle.cluster_files.proofs.Scalars.{Spells, spells, characters_back}

-- ---- runs

-- as many characters pass as there are before one that does not
pub run_exact : (p : ℕ → Bool) (us rest : List ℕ) → list_all p us ≡ true → first_is p rest ≡ false → run p (us ++ rest) ≡ length us
run_exact p [] [] h e = refl
run_exact p [] (c ∷ cs) h e = rw e refl
run_exact p (u ∷ us) rest h e = rw (left (p u) (list_all p us) h) (ap suc (run_exact p us rest (right (p u) (list_all p us) h) e))

-- ---- names

-- characters that are a name are read as one
pub name_stands : (c : ℕ) (cs rest : List ℕ) → begins_name c ≡ true → list_all continues_name cs ≡ true → first_is continues_name rest ≡ false
    → StandsAt (c ∷ (cs ++ rest)) (Next (length (c ∷ cs)) (Some (name_kind (utf16 (c ∷ cs)))))
name_stands c cs rest b h e =
    let all : list_all continues_name (c ∷ cs) ≡ true = rw (continues_first c b) h in
    let n : run continues_name (c ∷ (cs ++ rest)) ≡ length (c ∷ cs) = run_exact continues_name (c ∷ cs) rest all e in
    let read = name_front c (cs ++ rest) b in
    let whole : f.name (c ∷ (cs ++ rest)) ≡ Next (length (c ∷ cs)) (Some (name_kind (utf16 (c ∷ cs)))) =
    ap (λ m. Next m (Some (name_kind (utf16 (take m (c ∷ (cs ++ rest))))))) n
    ∙ ap (λ ds. Next (length (c ∷ cs)) (Some (name_kind (utf16 ds)))) (take-append_seam (c ∷ cs) rest) in
    subst (StandsAt (c ∷ (cs ++ rest))) (read ∙ whole) (f.other (name_quote c b))

-- ---- words

is_small : ℕ → Bool
is_small c = nat_le 97 c && nat_le c 122

small_begins : (c : ℕ) → is_small c ≡ true → begins_name c ≡ true
unfolding is_small
small_begins c h =
    let low = leb-true 97 c (left (nat_le 97 c) (nat_le c 122) h) in
    let high = leb-true c 122 (right (nat_le 97 c) (nat_le c 122) h) in
    rw (is_xid_start-ascii c (omega arith)) (letter c low high)
  where
    letter : (c : ℕ) → 97 ≤ c → c ≤ 122 → ((c == 36) || ((c == 95) || is_ascii_alphabetic c)) ≡ true
    letter c low high = grind (arith, nat_tests)

small_all : (cs : List ℕ) → list_all is_small cs ≡ true → list_all continues_name cs ≡ true
small_all [] h = refl
small_all (c ∷ cs) h = rw (continues_first c (small_begins c (left (is_small c) (list_all is_small cs) h))) (small_all cs (right (is_small c) (list_all is_small cs) h))

small_units : (cs : List ℕ) → list_all is_small cs ≡ true → utf16 cs ≡ cs
unfolding is_small
small_units [] h = refl
small_units (c ∷ cs) h =
    let high = leb-true c 122 (right (nat_le 97 c) (nat_le c 122) (left (is_small c) (list_all is_small cs) h)) in
    rw (lt-ltb c 0x1_0000 (omega arith)) (ap (λ us. c ∷ us) (small_units cs (right (is_small c) (list_all is_small cs) h)))

small_scalars : (cs : List ℕ) → list_all is_small cs ≡ true → scalars cs ≡ true
unfolding is_small
small_scalars [] h = refl
small_scalars (c ∷ cs) h =
    let high = leb-true c 122 (right (nat_le 97 c) (nat_le c 122) (left (is_small c) (list_all is_small cs) h)) in
    rw (lt-ltb c 0xD800 (omega arith)) (small_scalars cs (right (is_small c) (list_all is_small cs) h))

small_stands : (cs rest : List ℕ) → 0 < length cs → list_all is_small cs ≡ true → first_is continues_name rest ≡ false
    → StandsAt (cs ++ rest) (Next (length cs) (Some (name_kind cs)))
small_stands [] rest l h e = absurd (omega arith)
small_stands (c ∷ cs) rest l h e =
    subst (λ us. StandsAt (c ∷ (cs ++ rest)) (Next (length (c ∷ cs)) (Some (name_kind us)))) (small_units (c ∷ cs) h)
    (name_stands c cs rest (small_begins c (left (is_small c) (list_all is_small cs) h)) (small_all cs (right (is_small c) (list_all is_small cs) h)) e)

-- each word is of small letters, and is the word that is written so
record IsSmallWord (word : Word) : Type 0 where
  some : nat_lt 0 (length (spelling word)) ≡ true
  small : list_all is_small (spelling word) ≡ true
  back : word_of (spelling word) ≡ Some word

small_word : (word : Word) → IsSmallWord word
unfolding is_small
small_word w.Break = record { some = refl; small = refl; back = refl }
small_word w.Case = record { some = refl; small = refl; back = refl }
small_word w.Catch = record { some = refl; small = refl; back = refl }
small_word w.Continue = record { some = refl; small = refl; back = refl }
small_word w.Default = record { some = refl; small = refl; back = refl }
small_word w.Delete = record { some = refl; small = refl; back = refl }
small_word w.Do = record { some = refl; small = refl; back = refl }
small_word w.Else = record { some = refl; small = refl; back = refl }
small_word w.Finally = record { some = refl; small = refl; back = refl }
small_word w.For = record { some = refl; small = refl; back = refl }
small_word w.Function = record { some = refl; small = refl; back = refl }
small_word w.If = record { some = refl; small = refl; back = refl }
small_word w.In = record { some = refl; small = refl; back = refl }
small_word w.InstanceOf = record { some = refl; small = refl; back = refl }
small_word w.New = record { some = refl; small = refl; back = refl }
small_word w.Return = record { some = refl; small = refl; back = refl }
small_word w.Switch = record { some = refl; small = refl; back = refl }
small_word w.This = record { some = refl; small = refl; back = refl }
small_word w.Throw = record { some = refl; small = refl; back = refl }
small_word w.Try = record { some = refl; small = refl; back = refl }
small_word w.TypeOf = record { some = refl; small = refl; back = refl }
small_word w.Var = record { some = refl; small = refl; back = refl }
small_word w.Void = record { some = refl; small = refl; back = refl }
small_word w.While = record { some = refl; small = refl; back = refl }
small_word w.With = record { some = refl; small = refl; back = refl }
small_word w.Null = record { some = refl; small = refl; back = refl }
small_word w.True = record { some = refl; small = refl; back = refl }
small_word w.False = record { some = refl; small = refl; back = refl }
small_word w.Abstract = record { some = refl; small = refl; back = refl }
small_word w.Boolean = record { some = refl; small = refl; back = refl }
small_word w.Byte = record { some = refl; small = refl; back = refl }
small_word w.Char = record { some = refl; small = refl; back = refl }
small_word w.Class = record { some = refl; small = refl; back = refl }
small_word w.Const = record { some = refl; small = refl; back = refl }
small_word w.Debugger = record { some = refl; small = refl; back = refl }
small_word w.Double = record { some = refl; small = refl; back = refl }
small_word w.Enum = record { some = refl; small = refl; back = refl }
small_word w.Export = record { some = refl; small = refl; back = refl }
small_word w.Extends = record { some = refl; small = refl; back = refl }
small_word w.Final = record { some = refl; small = refl; back = refl }
small_word w.Float = record { some = refl; small = refl; back = refl }
small_word w.Goto = record { some = refl; small = refl; back = refl }
small_word w.Implements = record { some = refl; small = refl; back = refl }
small_word w.Import = record { some = refl; small = refl; back = refl }
small_word w.Int = record { some = refl; small = refl; back = refl }
small_word w.Interface = record { some = refl; small = refl; back = refl }
small_word w.Long = record { some = refl; small = refl; back = refl }
small_word w.Native = record { some = refl; small = refl; back = refl }
small_word w.Package = record { some = refl; small = refl; back = refl }
small_word w.Private = record { some = refl; small = refl; back = refl }
small_word w.Protected = record { some = refl; small = refl; back = refl }
small_word w.Public = record { some = refl; small = refl; back = refl }
small_word w.Short = record { some = refl; small = refl; back = refl }
small_word w.Static = record { some = refl; small = refl; back = refl }
small_word w.Super = record { some = refl; small = refl; back = refl }
small_word w.Synchronized = record { some = refl; small = refl; back = refl }
small_word w.Throws = record { some = refl; small = refl; back = refl }
small_word w.Transient = record { some = refl; small = refl; back = refl }
small_word w.Volatile = record { some = refl; small = refl; back = refl }

pub word_stands : (word : Word) (rest : List ℕ) → first_is continues_name rest ≡ false → StandsAt (spelling word ++ rest) (Next (length (spelling word)) (Some (t.Word word)))
word_stands word rest e =
    let is = small_word word in
    subst (λ kind. StandsAt (spelling word ++ rest) (Next (length (spelling word)) (Some kind))) (ap (word_or_name (spelling word)) is.back)
    (small_stands (spelling word) rest (grind (arith, nat_tests, is.some)) is.small e)

pub word_scalars : (word : Word) → scalars (spelling word) ≡ true
word_scalars word = small_scalars (spelling word) (small_word word).small

pub word_continues : (word : Word) → list_all continues_name (spelling word) ≡ true
word_continues word = small_all (spelling word) (small_word word).small

pub word_some : (word : Word) → 0 < length (spelling word)
word_some word = let is = small_word word in grind (arith, nat_tests, is.some)

-- ---- names as units

-- a name is written in these characters
pub record NameText (n : List ℕ) : Type 0 where
  pub first : ℕ
  pub others : List ℕ
  pub written : utf16_lossy_chars n ≡ first ∷ others
  pub begins : begins_name first ≡ true
  pub goes_on : list_all continues_name others ≡ true
  pub units : utf16 (first ∷ others) ≡ n
  pub scalar : scalars (first ∷ others) ≡ true
  pub no_word : word_of n ≡ None

lossy : (cs : List ℕ) → map (λ o. unwrap_or o 0xFFFD) (map Some cs) ≡ cs
lossy [] = refl
lossy (c ∷ cs) = ap (λ ds. c ∷ ds) (lossy cs)

none_there : {A : Type 0} (o : Option A) → is_none o ≡ true → o ≡ None
none_there None h = refl
none_there (Some a) h = absurd (cc)

text_by : (n : List ℕ) (os : List (Option ℕ)) → utf16_chars n ≡ os → is_name_text os ≡ true → word_of n ≡ None → Spells continues_name n os → NameText n
text_by n [] e h w s = absurd (cc)
text_by n (None ∷ os) e h w s = absurd (cc)
text_by n (Some c ∷ os) e h w s = at s.characters s.are s.all s.units s.scalar
  where
    starts : begins_name c ≡ true
    starts = left (begins_name c) (list_all (passes continues_name) (Some c ∷ os)) h

    at : (cs : List ℕ) → Some c ∷ os ≡ map Some cs → list_all continues_name cs ≡ true → utf16 cs ≡ n → scalars cs ≡ true → NameText n
    at [] e' a u r = absurd (cc)
    at (d ∷ ds) e' a u r =
        let same : c ≡ d = cc in
        record {
          first = d;
          others = ds;
          written = ap (map (λ o. unwrap_or o 0xFFFD)) (e ∙ e') ∙ lossy (d ∷ ds);
          begins = subst (λ x. begins_name x ≡ true) same starts;
          goes_on = right (continues_name d) (list_all continues_name ds) a;
          units = u;
          scalar = r;
          no_word = w;
        }

pub name_text : (n : List ℕ) → is_name n ≡ true → are_units n ≡ true → NameText n
name_text n h a =
    let whole = left (is_name_text (utf16_chars n)) (is_none (word_of n)) h in
    text_by n (utf16_chars n) refl whole (none_there (word_of n) (right (is_name_text (utf16_chars n)) (is_none (word_of n)) h)) (spells continues_name n a (passing (utf16_chars n) whole))
  where
    passing : (os : List (Option ℕ)) → is_name_text os ≡ true → list_all (passes continues_name) os ≡ true
    passing [] e = refl
    passing (o ∷ os) e = right (passes begins_name o) (list_all (passes continues_name) (o ∷ os)) e

pub written_name_stands : (n rest : List ℕ) → is_name n ≡ true → are_units n ≡ true → first_is continues_name rest ≡ false
    → StandsAt (utf16_lossy_chars n ++ rest) (Next (length (utf16_lossy_chars n)) (Some (t.Name n)))
written_name_stands n rest h a e =
    let is = name_text n h a in
    let stands = name_stands is.first is.others rest is.begins is.goes_on e in
    let kind : name_kind (utf16 (is.first ∷ is.others)) ≡ t.Name n = ap name_kind is.units ∙ ap (word_or_name n) is.no_word in
    subst (λ cs. StandsAt (cs ++ rest) (Next (length cs) (Some (t.Name n)))) (sym is.written)
    (subst (λ k. StandsAt (is.first ∷ (is.others ++ rest)) (Next (length (is.first ∷ is.others)) (Some k))) kind stands)

-- characters that are read as a name are a name
pub name_read : (c : ℕ) (cs n : List ℕ) → begins_name c ≡ true → list_all continues_name cs ≡ true → scalars (c ∷ cs) ≡ true → name_kind (utf16 (c ∷ cs)) ≡ t.Name n → is_name n ≡ true
name_read c cs n b h s e = at (word_of (utf16 (c ∷ cs))) refl e
  where
    all : (ds : List ℕ) → list_all continues_name ds ≡ true → list_all (passes continues_name) (map Some ds) ≡ true
    all [] k = refl
    all (d ∷ ds) k = rw (left (continues_name d) (list_all continues_name ds) k) (all ds (right (continues_name d) (list_all continues_name ds) k))

    text : is_name_text (utf16_chars (utf16 (c ∷ cs))) ≡ true
    text = ap is_name_text (characters_back (c ∷ cs) s) ∙ (rw (b, continues_first c b) (all cs h))

    at : (o : Option Word) → word_of (utf16 (c ∷ cs)) ≡ o → word_or_name (utf16 (c ∷ cs)) o ≡ t.Name n → is_name n ≡ true
    at (Some word) w e = absurd (cc)
    at None w e =
        let same : utf16 (c ∷ cs) ≡ n = cc in
        subst (λ us. is_name us ≡ true) same (rw (text, w) refl)
