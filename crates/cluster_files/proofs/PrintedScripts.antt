-- The laws of the printed text of scripts.
use Rattle.std.proofs.Common.{◌≡◌, ℕ, ◌*◌, ◌≤◌, true, List, refl, ap, sym, ◌∙◌, subst}
use Rattle.std.specs.Str.{chars}
use Rattle.std.proofs.lemmas.Str.{scalars-chars, chars-encodes}
use Rattle.js_lexer.specs.Tokens.{IsTokens}
use Rattle.js_lexer.specs.declared.token.LexError.TheVariants.{Lexical, OutOfMemory}
use Rattle.js_lexer.specs.declared.token.Token.{Token}
use Rattle.js_lexer.proofs.OneCut.{no_text_has_both, one_list_of_tokens}
use Rattle.js_tree.specs.Depth.{depth}
use Rattle.js_tree.specs.Tree.{Script}
use Rattle.js_parser.specs.declared.form.Form.{Form}
use Rattle.js_parser.specs.Symbols.{Symbols, symbols}
use Rattle.js_parser.specs.Accepted.{Derives, functions_in, most_open}
use Rattle.js_parser.proofs.Counts.{functions_counted}
use Rattle.js_parser.proofs.OneTree.{one_tree}
use Rattle.js_parser.proofs.Parsed.{exactly}
use Rattle.js_printer.specs.Printed.{stmts}
use Rattle.js_printer.specs.PrintedText.{script_text, script_bytes}
use Rattle.cluster_files.specs.ReadsBack as law
use Rattle.cluster_files.specs.ReadsBack.{IsTextOf}
use Rattle.cluster_files.specs.WritableKinds.{AreRead}
use Rattle.cluster_files.proofs.PrintedBrackets.{brackets_open}
use Rattle.cluster_files.proofs.PrintedKinds.{script_kinds}
use Rattle.cluster_files.proofs.PrintedNeighbours.{script_fits}
use Rattle.cluster_files.proofs.PrintedTokens.{read_back_to}
use Rattle.cluster_files.proofs.TextKinds.{text_kinds}
use Rattle.cluster_files.proofs.TextTokens.{ReadsAs, text_reads}

-- the text of the tree of tokens of texts has the tokens that it is written with
reads_as : (form : Form) (tokens : Symbols) (tree : Script) → Derives form tokens tree → AreRead tokens → ReadsAs true (stmts tree)
reads_as form tokens tree d r = text_reads true (stmts tree) (script_kinds form tokens tree d r) (script_fits tree)

same_characters : (tree : Script) → ReadsAs true (stmts tree) → chars (script_bytes tree) ≡ script_text tree
same_characters tree r = chars-encodes (script_text tree) r.characters

pub tokens_of_texts_are_read : law.TokensOfTextsAreRead
tokens_of_texts_are_read bytes tokens u cut = text_kinds (chars bytes) tokens (scalars-chars bytes u) cut

pub printed_tree_reads_back : law.PrintedTreeReadsBack
printed_tree_reads_back form tokens tree d a =
    let r = reads_as form tokens tree d a in
    record {
      is_text = (script_text tree, (r.characters, refl));
      tokens = r.tokens;
      cut = subst (λ cs. IsTokens cs r.tokens) (sym (same_characters tree r)) r.cut;
      derives = subst (λ ss. Derives form ss tree) (sym r.are) (read_back_to form tokens tree d true);
    }

of_text : {form : Form} {tree : Script} {bytes : List ℕ} → (t : IsTextOf form tree bytes) → AreRead (symbols t.tokens)
of_text {bytes = bytes} t = tokens_of_texts_are_read bytes t.tokens t.is_text t.cut

pub printed_text_reads_back : law.PrintedTextReadsBack
printed_text_reads_back form tree bytes t = printed_tree_reads_back form (symbols t.tokens) tree t.derives (of_text t)

pub printed_text_is_its_tokens : law.PrintedTextIsItsTokens
printed_text_is_its_tokens form tree bytes tokens t cut =
    let r = reads_as form (symbols t.tokens) tree t.derives (of_text t) in
    let here = subst (λ cs. IsTokens cs tokens) (same_characters tree r) cut in
    ap symbols (one_list_of_tokens (script_text tree) tokens r.tokens here r.cut) ∙ r.are

pub printed_text_is_lexed : law.PrintedTextIsLexed
printed_text_is_lexed form tree bytes (Lexical place kind) t fault =
    let again = printed_text_reads_back form tree bytes t in
    absurd (no_text_has_both (chars (script_bytes tree)) again.tokens place kind again.cut fault)
printed_text_is_lexed form tree bytes OutOfMemory t fault = refl

pub printed_text_has_few_brackets : law.PrintedTextHasFewBrackets
printed_text_has_few_brackets form tree bytes tokens t cut =
    subst (λ ss. most_open 0 ss ≤ 2 * depth tree) (sym (printed_text_is_its_tokens form tree bytes tokens t cut)) (brackets_open tree true)

-- the tokens of the printed text derive the tree
derived_again : (form : Form) (tree : Script) (bytes : List ℕ) (printed : List Token) → IsTextOf form tree bytes → IsTokens (chars (script_bytes tree)) printed → Derives form (symbols printed) tree
derived_again form tree bytes printed t cut =
    let again = printed_text_reads_back form tree bytes t in
    subst (λ ts. Derives form (symbols ts) tree) (one_list_of_tokens (chars (script_bytes tree)) again.tokens printed again.cut cut) again.derives

pub printed_text_is_accepted : law.PrintedTextIsAccepted
printed_text_is_accepted form limits tree bytes tokens printed u cut a again few =
    let first = a.unlimited.derives in
    let second = derived_again form tree bytes printed (record { is_text = u; tokens = tokens; cut = cut; derives = first }) again in
    let same : functions_in (symbols tokens) ≡ functions_in (symbols printed) = functions_counted form (symbols tokens) tree first ∙ sym (functions_counted form (symbols printed) tree second) in
    record {
      unlimited = record { derives = second; few_functions = subst (λ n. n ≤ limits.functions) same a.unlimited.few_functions };
      keeps = record { not_too_deep = a.keeps.not_too_deep; not_too_nested = a.keeps.not_too_nested; not_too_many_open = few };
    }

pub printed_text_is_parsed : law.PrintedTextIsParsed
printed_text_is_parsed form limits tree bytes tokens printed result u cut a again few parses =
    exactly form limits printed result parses tree (printed_text_is_accepted form limits tree bytes tokens printed u cut a again few)

pub printed_twice_is_printed_once : law.PrintedTwiceIsPrintedOnce
printed_twice_is_printed_once form tree other bytes t second =
    ap script_bytes (one_tree form (symbols second.tokens) other tree second.derives (derived_again form tree bytes second.tokens t second.cut))
