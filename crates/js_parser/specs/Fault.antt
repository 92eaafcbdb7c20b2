-- What may be told of tokens that are no accepted script.
use Rattle.std.specs.Prelude.{ℕ, ◌≡◌, ◌&&◌, ◌||◌, nat_le, Bool, true, false, List, [], ◌∷◌, ◌++◌, length, Option, Some, None, if◌then◌else◌}
use Rattle.dl_text.specs.declared.place.Place.{Place}
use Rattle.js_lexer.specs.declared.mark.Mark.TheVariants as m
use Rattle.js_lexer.specs.declared.word.Word.TheVariants as w
use Rattle.js_lexer.specs.Words.{is_spelled}
use Rattle.js_lexer.specs.declared.token.Token.{Token}
use Rattle.js_lexer.specs.declared.token.TokenKind.{TokenKind}
use Rattle.js_lexer.specs.declared.token.TokenKind.TheVariants as k
use Rattle.js_tree.specs.Tree.{Name, Script}
use Rattle.js_parser.specs.declared.form.Form.{Form}
use Rattle.js_parser.specs.declared.form.Limits.{Limits}
use Rattle.js_parser.specs.declared.form.Construct.{Construct}
use Rattle.js_parser.specs.declared.form.Construct.TheVariants as c
use Rattle.js_parser.specs.Symbols.{Symbols, symbols}
use Rattle.js_parser.specs.Names.{is_eval, is_function_name, is_infinity, is_arguments, is_callee, is_caller, is_own}
use Rattle.js_parser.specs.Accepted.{IsUnlimited, Keeps, IsOverAt, functions_in}

-- ---- the breaking token

-- a script that is accepted without limits begins with these tokens
pub record Begins (form : Form) (functions : ℕ) (used : Symbols) : Type 0 where
  pub more : Symbols
  pub tree : Script
  pub unlimited : IsUnlimited form functions (used ++ more) tree

-- this token, behind those used, is the first with which no such script begins
pub record Breaks (form : Form) (functions : ℕ) (tokens used : List Token)
    (token : Token) : Type 0 where
  pub rest : List Token
  pub whole : tokens ≡ used ++ (token ∷ rest)
  pub begins : Begins form functions (symbols used)
  pub ends : Begins form functions (symbols (used ++ (token ∷ []))) → ⊥

-- such scripts begin with these tokens, and each of them breaks a limit
pub record IsSpent (form : Form) (limits : Limits) (used : Symbols) : Type 0 where
  pub begins : Begins form limits.functions used
  pub over : (more : Symbols) (tree : Script)
      → IsUnlimited form limits.functions (used ++ more) tree → Keeps limits (used ++ more) tree → ⊥

-- ---- the answer at the breaking token

pub data Answer : Type 0 where
  Syntax : Place → Answer
  Refused : Place → Construct → Answer
  TooDeep : Place → Answer
  TooMany : Place → Answer

-- a token of this name
abbrev pub names_it : Name → TokenKind → Bool
names_it n (k.Name o) = is_spelled n o
names_it n _ = false

-- a token that may stand in a list of formals
abbrev pub lists_names : TokenKind → Bool
lists_names (k.Name o) = true
lists_names (k.Mark m.Comma) = true
lists_names _ = false

abbrev pub is_formal_among : Name → Symbols → Bool
is_formal_among n [] = false
is_formal_among n (s ∷ ss) = names_it n s.kind || is_formal_among n ss

abbrev pub all_list_names : Symbols → Bool
all_list_names [] = true
all_list_names (s ∷ ss) = lists_names s.kind && all_list_names ss

-- behind the `(` of the formals, nothing but formals, among them this one
abbrev pub opens_formals : Name → TokenKind → Symbols → Bool
opens_formals n (k.Mark m.OpenParenthesis) u = all_list_names u && is_formal_among n u
opens_formals n _ u = false

-- behind a function's word, maybe its name, and such a list
abbrev pub heads_formals : Name → TokenKind → Symbols → Bool
heads_formals n (k.Name o) [] = false
heads_formals n (k.Name o) (s ∷ ss) = opens_formals n s.kind ss
heads_formals n kind ss = opens_formals n kind ss

abbrev pub behind_function : Name → Symbols → Bool
behind_function n [] = false
behind_function n (s ∷ ss) = heads_formals n s.kind ss

abbrev pub begins_function : Name → TokenKind → Symbols → Bool
begins_function n (k.Word w.Function) ss = behind_function n ss
begins_function n _ ss = false

-- the name is an earlier formal of the list that these tokens end in
abbrev pub is_earlier_formal : Name → Symbols → Bool
is_earlier_formal n [] = false
is_earlier_formal n (s ∷ ss) = begins_function n s.kind ss || is_earlier_formal n ss

abbrev pub name_construct : Symbols → Name → Option Construct
name_construct used n =
    if is_own n then Some c.DlName
    else (if is_eval n then Some c.Eval
    else (if is_function_name n then Some c.FunctionName
    else (if is_infinity n then Some c.InfinityName
    else (if is_arguments n then Some c.Arguments
    else (if is_callee n then Some c.Callee
    else (if is_caller n then Some c.Caller
    else (if is_earlier_formal n used then Some c.RepeatedFormal else None)))))))

-- what is told of the breaking token alone, behind those used
abbrev pub construct : Symbols → TokenKind → Option Construct
construct used (k.Word w.With) = Some c.With
construct used (k.Word w.Debugger) = Some c.Debugger
construct used (k.Word w.Function) = Some c.FunctionPlace
construct used (k.Mark m.Slash) = Some c.RegExp
construct used (k.Mark m.SlashAssign) = Some c.RegExp
construct used (k.Str text) = if is_own text then Some c.DlName else None
construct used (k.Name n) = name_construct used n
construct used _ = None

abbrev pub refused : Place → Option Construct → Answer
refused place (Some construct) = Refused place construct
refused place None = Syntax place

-- the word `function`, where there are as many functions as allowed already
abbrev pub is_too_many : ℕ → Symbols → TokenKind → Bool
is_too_many functions used (k.Word w.Function) = nat_le functions (functions_in used)
is_too_many functions used _ = false

abbrev pub answer : ℕ → Symbols → Token → Answer
answer functions used token =
    if is_too_many functions used token.kind then TooMany token.place else refused token.place
    (construct used token.kind)

-- ---- the fault

-- What may be told. At a breaking token it is the answer for that token; where the tokens before it
-- are spent from some token on, it may be TooDeep instead. Where there is no breaking token a limit
-- is broken, and it is TooDeep. The place of TooDeep is that of the first token of the first
-- statement or declaration of the script in which a limit breaks, where the tokens are spent in one
-- of the scripts that they begin.
pub data Fault (form : Form) (limits : Limits) (tokens : List Token) : Answer → Type 0 where
  breaking : {told : Answer} (used : List Token) (token : Token)
      → Breaks form limits.functions tokens used token
      → answer limits.functions (symbols used) token ≡ told → Fault form limits tokens told
  over : (before rest : List Token) (token : Token) → tokens ≡ before ++ (token ∷ rest)
      → IsOverAt form limits (symbols tokens) (length before)
      → Fault form limits tokens (TooDeep token.place)
  spent : (used spent_front between before rest : List Token) (breaking_token token : Token)
      (more : Symbols) → Breaks form limits.functions tokens used breaking_token
      → used ≡ spent_front ++ between → IsSpent form limits (symbols spent_front)
      → spent_front ≡ before ++ (token ∷ rest)
      → IsOverAt form limits (symbols spent_front ++ more) (length before)
      → Fault form limits tokens (TooDeep token.place)
