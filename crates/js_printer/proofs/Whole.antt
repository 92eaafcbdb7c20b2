-- What is written from the start on is the text of the tokens.
use Rattle.std.proofs.Common.{◌≡◌, ℕ, Bool, true, false, List, [], ◌∷◌, ◌++◌, refl, sym, ap, ◌∙◌, lit<}
use Rattle.std.specs.Prelude.{encode_utf8_all}
use Rattle.std.proofs.lemmas.List.{append-nil, append_assoc}
use Rattle.std.proofs.lemmas.Str.{encodes-append, encode_ascii}
use Rattle.js_lexer.specs.declared.token.TokenKind.{TokenKind}
use Rattle.js_printer.specs.declared.writer.Printer.{Printer}
use Rattle.js_printer.specs.Edges.{front, back, meet, nothing}
use Rattle.js_printer.specs.Printed.{Kinds}
use Rattle.js_printer.specs.PrintedText.{spelled, space, gap, text}
use Rattle.js_printer.specs.Written.{put, written, all_written}

space_bytes : (b : Bool) → encode_utf8_all (space b) ≡ space b
space_bytes true = ap (λ t. t ++ []) (encode_ascii 32 (lit< tt))
space_bytes false = refl

joined : (t gap token rest : List ℕ) → encode_utf8_all gap ≡ gap → (t ++ (gap ++ encode_utf8_all token)) ++ encode_utf8_all rest ≡ t ++ encode_utf8_all (gap ++ (token ++ rest))
joined t gap token rest h =
    append_assoc t (gap ++ encode_utf8_all token) (encode_utf8_all rest)
    ∙ ap (λ u. t ++ u)
    (append_assoc gap (encode_utf8_all token) (encode_utf8_all rest)
    ∙ ap (λ u. gap ++ u) (sym (encodes-append token rest))
    ∙ ap (λ u. u ++ encode_utf8_all (token ++ rest)) (sym h)
    ∙ sym (encodes-append gap (token ++ rest)))

text_written : (p : Printer) (kind : TokenKind) → (written p kind).text ≡ p.text ++ (space (meet p.last (front (spelled kind))) ++ encode_utf8_all (spelled kind))
unfolding written put
text_written p kind = refl

last_written : (p : Printer) (kind : TokenKind) → (written p kind).last ≡ back (spelled kind)
unfolding written put
last_written p kind = refl

-- behind a token
behind : (tokens : Kinds) (p : Printer) (before : TokenKind) → p.last ≡ back (spelled before) → (all_written p tokens).text ≡ p.text ++ encode_utf8_all (gap before tokens ++ text tokens)
behind [] p before h = sym (append-nil p.text)
behind (kind ∷ rest) p before h =
    behind rest (written p kind) kind (last_written p kind)
    ∙ ap (λ t. t ++ encode_utf8_all (gap kind rest ++ text rest)) (text_written p kind ∙ ap (λ last. p.text ++ (space (meet last (front (spelled kind))) ++ encode_utf8_all (spelled kind))) h)
    ∙ joined p.text (space (meet (back (spelled before)) (front (spelled kind)))) (spelled kind) (gap kind rest ++ text rest) (space_bytes (meet (back (spelled before)) (front (spelled kind))))

-- from the start on
whole : (tokens : Kinds) (p : Printer) → p.text ≡ [] → p.last ≡ nothing → (all_written p tokens).text ≡ encode_utf8_all (text tokens)
whole [] p e h = e
whole (kind ∷ rest) p e h =
    behind rest (written p kind) kind (last_written p kind)
    ∙ ap (λ t. t ++ encode_utf8_all (gap kind rest ++ text rest))
    (text_written p kind
    ∙ ap (λ last. p.text ++ (space (meet last (front (spelled kind))) ++ encode_utf8_all (spelled kind))) h
    ∙ ap (λ t. t ++ encode_utf8_all (spelled kind)) e)
    ∙ sym (encodes-append (spelled kind) (gap kind rest ++ text rest))

pub printed_text : (start p : Printer) (tokens : Kinds) (t : List ℕ) → start.text ≡ [] → start.last ≡ nothing → p ≡ all_written start tokens → t ≡ p.text → t ≡ encode_utf8_all (text tokens)
printed_text start p tokens t e h w g = g ∙ ap (λ q. q.text) w ∙ whole tokens start e h

line_feed : encode_utf8_all (10 ∷ []) ≡ 10 ∷ []
line_feed = ap (λ t. t ++ []) (encode_ascii 10 (lit< tt))

pub ended_text : (start p : Printer) (tokens : Kinds) (t : List ℕ) → start.text ≡ [] → start.last ≡ nothing → p ≡ all_written start tokens → t ≡ p.text → t ++ (10 ∷ []) ≡ encode_utf8_all (text tokens ++ (10 ∷ []))
ended_text start p tokens t e h w g =
    ap (λ v. v ++ (10 ∷ [])) (printed_text start p tokens t e h w g)
    ∙ ap (λ v. encode_utf8_all (text tokens) ++ v) (sym line_feed)
    ∙ sym (encodes-append (text tokens) (10 ∷ []))
