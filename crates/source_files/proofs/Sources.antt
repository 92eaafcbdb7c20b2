-- What holds of the bytes of source scripts.
use Rattle.std.proofs.Common.{◌≡◌, ℕ, ◌≤◌, ◌<◌, nat_lt, Bool, true, false, List, [], ◌∷◌, ◌++◌, length, Result, Ok, Err, Some, refl, ap, sym, ◌∙◌, subst, ◌⊎◌, inl, inr, arith}
use Rattle.std.proofs.lemmas.Bool.{ltb-true, ltb-false}
use Rattle.std.proofs.lemmas.Str.{IsUtf8-from_is_utf8, is_utf8-from_IsUtf8}
use Rattle.std.specs.Str.{IsUtf8, is_utf8, chars}
use Rattle.std.specs.Str.Lossy.{utf8_valid_len}
use Rattle.dl_text.specs.declared.place.Place.{Place}
use Rattle.js_lexer.specs.declared.token.LexKind.{LexKind}
use Rattle.js_lexer.specs.declared.token.Token.{Token}
use Rattle.js_lexer.specs.Tokens.{IsTokens, IsLexFault}
use Rattle.js_lexer.proofs.OneCut as lexer
use Rattle.js_parser.specs.Accepted.{Accepted}
use Rattle.js_parser.specs.Fault as parser
use Rattle.js_parser.specs.Fault.{Answer}
use Rattle.js_parser.specs.Parses.{IsClosed}
use Rattle.js_parser.specs.Symbols.{symbols}
use Rattle.js_parser.specs.declared.form.Form.TheVariants.{Source}
use Rattle.js_parser.proofs.AcceptedOrFault.{answered}
use Rattle.js_parser.proofs.ClosedTokens.{closed}
use Rattle.js_parser.proofs.NoFault.{no_fault}
use Rattle.js_parser.proofs.OneTree as trees
use Rattle.js_tree.specs.Tree as tree
use Rattle.js_tree.specs.Plain as plain
use Rattle.js_tree.specs.declared.tree.Script.{Script}
use Rattle.source_files.specs.declared.fault.ScriptFault.{ScriptFault}
use Rattle.source_files.specs.declared.fault.ScriptFault.TheVariants as fault
use Rattle.source_files.specs.declared.fault.SourceError.{SourceError}
use Rattle.source_files.specs.declared.fault.SourceError.TheVariants as error
use Rattle.source_files.specs.declared.room.SourceRoom.{SourceRoom}
use Rattle.dl_ports.specs.Files.{Files, and_name}
use Rattle.dl_ports.specs.Stores.{AskedNames}
use Rattle.source_files.specs.Reading.{FileGives, Gives, IsTree}
use Rattle.source_files.specs.Sources.{Fits, HasTokens, IsSource, IsTold, IsRefused, limits}

-- ---- one tree, or a refusal

same-tokens : {room : SourceRoom} {bytes : List ℕ} {tokens others : List Token} → HasTokens room bytes tokens → HasTokens room bytes others → tokens ≡ others
same-tokens {bytes = bytes} {tokens = tokens} {others = others} a b = lexer.one_list_of_tokens (chars bytes) tokens others a.cut b.cut

pub one_tree : (room : SourceRoom) (bytes : List ℕ) (t other : tree.Script) → IsSource room bytes t → IsSource room bytes other → t ≡ other
one_tree room bytes t other a b =
    let moved = subst (λ ts. Accepted Source (limits room) (symbols ts) t) (same-tokens a.has b.has) a.accepted in
    trees.one_tree Source (symbols b.tokens) t other moved.unlimited.derives b.accepted.unlimited.derives

not-told : (room : SourceRoom) (bytes : List ℕ) (t : tree.Script) (told : Answer) → IsSource room bytes t → IsTold room bytes told → ⊥
not-told room bytes t told a b =
    let moved = subst (λ ts. Accepted Source (limits room) (symbols ts) t) (same-tokens a.has b.has) a.accepted in
    no_fault Source (limits room) b.tokens t told moved b.fault

pub not_refused : (room : SourceRoom) (bytes : List ℕ) (t : tree.Script) (f : ScriptFault) → IsSource room bytes t → IsRefused room bytes f → ⊥
not_refused room bytes t (fault.NotUtf8 n) a r = r.0 a.has.fits.is_text
not_refused room bytes t fault.TooLong a r = let s = a.has.fits.is_short in let l = r.1 in omega arith
not_refused room bytes t (fault.Lexical place kind) a r = lexer.no_text_has_both (chars bytes) a.tokens place kind a.has.cut r.1
not_refused room bytes t (fault.Syntax place) a r = not-told room bytes t (parser.Syntax place) a r
not_refused room bytes t (fault.Construct place c) a r = not-told room bytes t (parser.Refused place c) a r
not_refused room bytes t (fault.TooDeep place) a r = not-told room bytes t (parser.TooDeep place) a r
not_refused room bytes t (fault.TooMany place) a r = not-told room bytes t (parser.TooMany place) a r

-- what is told, as a refusal
abbrev pub refusal : Answer → ScriptFault
refusal (parser.Syntax place) = fault.Syntax place
refusal (parser.Refused place c) = fault.Construct place c
refusal (parser.TooDeep place) = fault.TooDeep place
refusal (parser.TooMany place) = fault.TooMany place

pub refused-told : (room : SourceRoom) (bytes : List ℕ) (told : Answer) → IsTold room bytes told → IsRefused room bytes (refusal told)
refused-told room bytes (parser.Syntax place) t = t
refused-told room bytes (parser.Refused place c) t = t
refused-told room bytes (parser.TooDeep place) t = t
refused-told room bytes (parser.TooMany place) t = t

abbrev Judged : SourceRoom → List ℕ → Type 0
Judged room bytes = ((t : tree.Script) × IsSource room bytes t) ⊎ ((f : ScriptFault) × IsRefused room bytes f)

judged-closed : (room : SourceRoom) (bytes : List ℕ) (tokens : List Token) → HasTokens room bytes tokens → (c : IsClosed tokens)
    → (((t : tree.Script) × Accepted Source (limits room) (symbols (c.before ++ (c.last ∷ []))) t)
    ⊎ ((told : Answer) × parser.Fault Source (limits room) (c.before ++ (c.last ∷ [])) told)) → Judged room bytes
judged-closed room bytes tokens has c (inl (t, a)) =
    inl (t, record { tokens = tokens; has = has; accepted = subst (λ ts. Accepted Source (limits room) (symbols ts) t) (sym c.whole) a })
judged-closed room bytes tokens has c (inr (told, f)) =
    inr (refusal told, refused-told room bytes told (record { tokens = tokens; has = has; fault = subst (λ ts. parser.Fault Source (limits room) ts told) (sym c.whole) f }))

judged-lexed : (room : SourceRoom) (bytes : List ℕ) → Fits room bytes
    → (((tokens : List Token) × IsTokens (chars bytes) tokens) ⊎ ((place : Place) × ((kind : LexKind) × IsLexFault (chars bytes) place kind))) → Judged room bytes
judged-lexed room bytes fits (inl (tokens, t)) =
    let c = closed t in
    judged-closed room bytes tokens (record { fits = fits; cut = t }) c (answered Source (limits room) c.before c.last c.is)
judged-lexed room bytes fits (inr (place, (kind, f))) = inr (fault.Lexical place kind, (fits, f))

judged-text : (room : SourceRoom) (bytes : List ℕ) (b : Bool) → nat_lt room.bytes (length bytes) ≡ b → IsUtf8 bytes → Judged room bytes
judged-text room bytes true h is = inr (fault.TooLong, (is, ltb-true room.bytes (length bytes) h))
judged-text room bytes false h is =
    judged-lexed room bytes (record { is_text = is; is_short = ltb-false room.bytes (length bytes) h }) (lexer.every_text_is_lexed (chars bytes))

not-both : {b : Bool} → b ≡ false → b ≡ true → ⊥
not-both h i = let e = sym i ∙ h in cc

judged-bytes : (room : SourceRoom) (bytes : List ℕ) (b : Bool) → is_utf8 bytes ≡ b → Judged room bytes
judged-bytes room bytes true h = judged-text room bytes (nat_lt room.bytes (length bytes)) refl (IsUtf8-from_is_utf8 bytes h)
judged-bytes room bytes false h = inr (fault.NotUtf8 (utf8_valid_len bytes), ((λ is. not-both h (is_utf8-from_IsUtf8 bytes is)), refl))

pub judged : (room : SourceRoom) (bytes : List ℕ) → ((t : tree.Script) × IsSource room bytes t) ⊎ ((f : ScriptFault) × IsRefused room bytes f)
judged room bytes = judged-bytes room bytes (is_utf8 bytes) refl

-- ---- what the calls answer

pub exact : (room : SourceRoom) (bytes : List ℕ) (r : Result Script SourceError) → Gives room bytes r → (t : tree.Script) → IsSource room bytes t → IsTree t r
exact room bytes (Ok script) g t a = one_tree room bytes (plain.script script) t g a
exact room bytes (Err (error.Refused f)) g t a = absurd (not_refused room bytes t f a g)
exact room bytes (Err error.OutOfMemory) g t a = refl
exact room bytes (Err error.ReadFault) g t a = absurd g
exact room bytes (Err error.Missing) g t a = absurd g

-- the file of this name has bytes that give this result
pub of_file : (files : Files) (name : List ℕ) (room : SourceRoom) (before now : AskedNames) (bytes : List ℕ) (r : Result Script SourceError) → files name ≡ Some bytes
    → now ≡ and_name before name → Gives room bytes r → FileGives files name room before now r
of_file files name room before now bytes (Ok script) f a g = (record { bytes = bytes; found = f; is = g }, a)
of_file files name room before now bytes (Err (error.Refused fault)) f a g = (record { bytes = bytes; found = f; is = g }, a)
of_file files name room before now bytes (Err error.OutOfMemory) f a g = inr a
of_file files name room before now bytes (Err error.ReadFault) f a g = absurd g
of_file files name room before now bytes (Err error.Missing) f a g = absurd g
