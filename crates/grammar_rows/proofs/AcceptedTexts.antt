-- The derivations of the worked texts.
use Rattle.std.proofs.Common.{◌≡◌, true, false, [], ◌∷◌, codes, None, refl, lit≤}
use Rattle.std.specs.Char.Utf16.{utf16_chars}
use Rattle.std.specs.Fmt.{digits}
use Rattle.unicode_ident.proofs.Computing.{unicode_ident}
use Rattle.js_lexer.specs.declared.mark.Mark.TheVariants as m
use Rattle.js_lexer.specs.declared.word.Word.TheVariants as w
use Rattle.js_tree.specs.declared.tree.BinaryOp.TheVariants as b
use Rattle.js_tree.specs.declared.tree.PrefixOp.TheVariants as p
use Rattle.js_tree.specs.declared.tree.PostfixOp.TheVariants as q
use Rattle.js_parser.specs.declared.form.Form.TheVariants.{Source, Written}
use Rattle.js_parser.specs.Symbols.{word, mark, name, number, string}
use Rattle.js_tree.specs.Levels.{LogicalOr, Operation}
use Rattle.js_parser.specs.Ends.{at_line, at_brace, at_end, written, before_line, before_brace}
use Rattle.js_parser.specs.Bounds.{in_source, in_site}
use Rattle.js_parser.specs.Grammar as g
use Rattle.js_printer.specs.PrintedText.{body_text, entry_text, func_text}
use Rattle.grammar_rows.specs.Rows as rows

-- `a` LF `++` LF `b`
pub three_lines : rows.IsWorked Source in_source rows.three_lines rows.three_lines_tree (codes "a;++b;\n")
unfolding unicode_ident utf16_chars digits
three_lines = (
  record {
    unlimited = record {
      derives = record {
        elements = name (codes "a") false ∷ mark m.PlusPlus true ∷ name (codes "b") true ∷ [];
        newline = false;
        whole = refl;
        derived = g.source_and (g.statement (g.expression (g.identifier false (lit≤ tt) refl) (λ e. cc) (λ e. cc) (at_line refl refl (λ e. cc)))) (g.source_and (g.statement (g.expression (g.changed p.Increment true (lit≤ tt) refl (g.identifier true (lit≤ tt) refl) refl) (λ e. cc) (λ e. cc) (at_end refl))) g.no_source);
      };
      few_functions = lit≤ tt;
    };
    keeps = record { not_too_deep = lit≤ tt; not_too_nested = lit≤ tt; not_too_many_open = lit≤ tt };
  },
  refl,
)

-- `function f(){return` LF `x}`
pub returned_line : rows.IsWorked Source in_source rows.returned_line rows.returned_line_tree (codes "function f(){return;x;}\n")
unfolding unicode_ident utf16_chars digits
returned_line = (
  record {
    unlimited = record {
      derives = record {
        elements = word w.Function false ∷ name (codes "f") false ∷ mark m.OpenParenthesis false ∷ mark m.CloseParenthesis false ∷ mark m.OpenBrace false ∷ word w.Return false ∷ name (codes "x") true ∷ mark m.CloseBrace false ∷ [];
        newline = false;
        whole = refl;
        derived = g.source_and (g.declaration false false refl (g.function_rest false false false false g.no_formal refl (g.source_and (g.statement (g.return false refl (before_line refl))) (g.source_and (g.statement (g.expression (g.identifier true (lit≤ tt) refl) (λ e. cc) (λ e. cc) (at_brace refl))) g.no_source)))) g.no_source;
      };
      few_functions = lit≤ tt;
    };
    keeps = record { not_too_deep = lit≤ tt; not_too_nested = lit≤ tt; not_too_many_open = lit≤ tt };
  },
  refl,
)

-- `a` LF `(b)`
pub called_line : rows.IsWorked Source in_source rows.called_line rows.called_line_tree (codes "a(b);\n")
unfolding unicode_ident utf16_chars digits
called_line = (
  record {
    unlimited = record {
      derives = record {
        elements = name (codes "a") false ∷ mark m.OpenParenthesis true ∷ name (codes "b") false ∷ mark m.CloseParenthesis false ∷ [];
        newline = false;
        whole = refl;
        derived = g.source_and (g.statement (g.expression (g.call (lit≤ tt) (g.identifier false (lit≤ tt) refl) (g.arguments true false (g.last_argument (g.identifier false (lit≤ tt) refl)))) (λ e. cc) (λ e. cc) (at_end refl))) g.no_source;
      };
      few_functions = lit≤ tt;
    };
    keeps = record { not_too_deep = lit≤ tt; not_too_nested = lit≤ tt; not_too_many_open = lit≤ tt };
  },
  refl,
)

-- `x=- -a+ +0x1F`
pub signs : rows.IsWorked Source in_source rows.signs rows.signs_tree (codes "x=- -a+ +31;\n")
unfolding unicode_ident utf16_chars digits
signs = (
  record {
    unlimited = record {
      derives = record {
        elements = name (codes "x") false ∷ mark m.Assign false ∷ mark m.Minus false ∷ mark m.Minus false ∷ name (codes "a") false ∷ mark m.Plus false ∷ mark m.Plus false ∷ number 31 false ∷ [];
        newline = false;
        whole = refl;
        derived = g.source_and (g.statement (g.expression (g.assign None m.Assign false (lit≤ tt) refl (g.identifier false (lit≤ tt) refl) refl (g.binary (Operation b.Add) false (lit≤ tt) refl (g.prefix p.Minus false (lit≤ tt) refl (g.prefix p.Minus false (lit≤ tt) refl (g.identifier false (lit≤ tt) refl))) (g.prefix p.Plus false (lit≤ tt) refl (g.numeral true false (lit≤ tt))))) (λ e. cc) (λ e. cc) (at_end refl))) g.no_source;
      };
      few_functions = lit≤ tt;
    };
    keeps = record { not_too_deep = lit≤ tt; not_too_nested = lit≤ tt; not_too_many_open = lit≤ tt };
  },
  refl,
)

-- `a+ ++b- --c;d++ +e`
pub signs_apart : rows.IsWorked Source in_source rows.signs_apart rows.signs_apart_tree (codes "a+ ++b- --c;d+++e;\n")
unfolding unicode_ident utf16_chars digits
signs_apart = (
  record {
    unlimited = record {
      derives = record {
        elements = name (codes "a") false ∷ mark m.Plus false ∷ mark m.PlusPlus false ∷ name (codes "b") false ∷ mark m.Minus false ∷ mark m.MinusMinus false ∷ name (codes "c") false ∷ mark m.Semicolon false ∷ name (codes "d") false ∷ mark m.PlusPlus false ∷ mark m.Plus false ∷ name (codes "e") false ∷ [];
        newline = false;
        whole = refl;
        derived = g.source_and (g.statement (g.expression (g.binary (Operation b.Subtract) false (lit≤ tt) refl (g.binary (Operation b.Add) false (lit≤ tt) refl (g.identifier false (lit≤ tt) refl) (g.changed p.Increment false (lit≤ tt) refl (g.identifier false (lit≤ tt) refl) refl)) (g.changed p.Decrement false (lit≤ tt) refl (g.identifier false (lit≤ tt) refl) refl)) (λ e. cc) (λ e. cc) (written false))) (g.source_and (g.statement (g.expression (g.binary (Operation b.Add) false (lit≤ tt) refl (g.postfix q.Increment (lit≤ tt) (g.identifier false (lit≤ tt) refl) refl) (g.identifier false (lit≤ tt) refl)) (λ e. cc) (λ e. cc) (at_end refl))) g.no_source);
      };
      few_functions = lit≤ tt;
    };
    keeps = record { not_too_deep = lit≤ tt; not_too_nested = lit≤ tt; not_too_many_open = lit≤ tt };
  },
  refl,
)

-- `new (a().b)(1)`
pub new_called : rows.IsWorked Source in_source rows.new_called rows.new_called_tree (codes "new(a().b)(1);\n")
unfolding unicode_ident utf16_chars digits
new_called = (
  record {
    unlimited = record {
      derives = record {
        elements = word w.New false ∷ mark m.OpenParenthesis false ∷ name (codes "a") false ∷ mark m.OpenParenthesis false ∷ mark m.CloseParenthesis false ∷ mark m.Dot false ∷ name (codes "b") false ∷ mark m.CloseParenthesis false ∷ mark m.OpenParenthesis false ∷ number 1 false ∷ mark m.CloseParenthesis false ∷ [];
        newline = false;
        whole = refl;
        derived = g.source_and (g.statement (g.expression (g.new false (lit≤ tt) (g.parenthesised false false (lit≤ tt) (g.dot 17 false false (lit≤ tt) (lit≤ tt) (lit≤ tt) (g.call (lit≤ tt) (g.identifier false (lit≤ tt) refl) (g.no_arguments false false)) refl)) (g.arguments false false (g.last_argument (g.numeral true false (lit≤ tt))))) (λ e. cc) (λ e. cc) (at_end refl))) g.no_source;
      };
      few_functions = lit≤ tt;
    };
    keeps = record { not_too_deep = lit≤ tt; not_too_nested = lit≤ tt; not_too_many_open = lit≤ tt };
  },
  refl,
)

-- `var a=[1,,2,],o={"if":1,"b":2}`
pub literals : rows.IsWorked Source in_source rows.literals rows.literals_tree (codes "var a=[1,,2],o={\"if\":1,b:2};\n")
unfolding unicode_ident utf16_chars digits
literals = (
  record {
    unlimited = record {
      derives = record {
        elements = word w.Var false ∷ name (codes "a") false ∷ mark m.Assign false ∷ mark m.OpenBracket false ∷ number 1 false ∷ mark m.Comma false ∷ mark m.Comma false ∷ number 2 false ∷ mark m.Comma false ∷ mark m.CloseBracket false ∷ mark m.Comma false ∷ name (codes "o") false ∷ mark m.Assign false ∷ mark m.OpenBrace false ∷ string (codes "if") false ∷ mark m.Colon false ∷ number 1 false ∷ mark m.Comma false ∷ string (codes "b") false ∷ mark m.Colon false ∷ number 2 false ∷ mark m.CloseBrace false ∷ [];
        newline = false;
        whole = refl;
        derived = g.source_and (g.statement (g.variables false (g.declarator_and false (g.initialised false false refl (g.array false false (lit≤ tt) (g.element_and false (g.numeral true false (lit≤ tt)) (g.hole_and false (g.element_and false (g.numeral true false (lit≤ tt)) g.no_element))))) (g.last_declarator (g.initialised false false refl (g.object false false (lit≤ tt) (g.property_and (string (codes "if") false) false false refl (g.numeral true false (lit≤ tt)) (g.last_property (string (codes "b") false) false refl (g.numeral true false (lit≤ tt)))))))) (at_end refl))) g.no_source;
      };
      few_functions = lit≤ tt;
    };
    keeps = record { not_too_deep = lit≤ tt; not_too_nested = lit≤ tt; not_too_many_open = lit≤ tt };
  },
  refl,
)

-- `for(var i=(1 in x);;);`
pub in_header : rows.IsWorked Source in_source rows.in_header rows.in_header_tree (codes "for(var i=(1 in x);;);\n")
unfolding unicode_ident utf16_chars digits
in_header = (
  record {
    unlimited = record {
      derives = record {
        elements = word w.For false ∷ mark m.OpenParenthesis false ∷ word w.Var false ∷ name (codes "i") false ∷ mark m.Assign false ∷ mark m.OpenParenthesis false ∷ number 1 false ∷ word w.In false ∷ name (codes "x") false ∷ mark m.CloseParenthesis false ∷ mark m.Semicolon false ∷ mark m.Semicolon false ∷ mark m.CloseParenthesis false ∷ mark m.Semicolon false ∷ [];
        newline = false;
        whole = refl;
        derived = g.source_and (g.statement (g.for false false false false false (g.variables_first false (g.last_declarator (g.initialised false false refl (g.parenthesised false false (lit≤ tt) (g.binary (Operation b.In) false (lit≤ tt) refl (g.numeral true false (lit≤ tt)) (g.identifier false (lit≤ tt) refl)))))) g.absent g.absent (g.empty false))) g.no_source;
      };
      few_functions = lit≤ tt;
    };
    keeps = record { not_too_deep = lit≤ tt; not_too_nested = lit≤ tt; not_too_many_open = lit≤ tt };
  },
  refl,
)

-- `if(a)if(b)c;else d`
pub nearest_if : rows.IsWorked Source in_source rows.nearest_if rows.nearest_if_tree (codes "if(a)if(b)c;else d;\n")
unfolding unicode_ident utf16_chars digits
nearest_if = (
  record {
    unlimited = record {
      derives = record {
        elements = word w.If false ∷ mark m.OpenParenthesis false ∷ name (codes "a") false ∷ mark m.CloseParenthesis false ∷ word w.If false ∷ mark m.OpenParenthesis false ∷ name (codes "b") false ∷ mark m.CloseParenthesis false ∷ name (codes "c") false ∷ mark m.Semicolon false ∷ word w.Else false ∷ name (codes "d") false ∷ [];
        newline = false;
        whole = refl;
        derived = g.source_and (g.statement (g.if false false false (g.identifier false (lit≤ tt) refl) (g.if_else false false false false (g.identifier false (lit≤ tt) refl) (g.expression (g.identifier false (lit≤ tt) refl) (λ e. cc) (λ e. cc) (written false)) (g.expression (g.identifier false (lit≤ tt) refl) (λ e. cc) (λ e. cc) (at_end refl))) (λ e. cc))) g.no_source;
      };
      few_functions = lit≤ tt;
    };
    keeps = record { not_too_deep = lit≤ tt; not_too_nested = lit≤ tt; not_too_many_open = lit≤ tt };
  },
  refl,
)

-- `l:while(a){if(b)continue l;else break}` LF `c`
pub labelled_loop : rows.IsWorked Source in_source rows.labelled_loop rows.labelled_loop_tree (codes "l:while(a){if(b)continue l;else break;}c;\n")
unfolding unicode_ident utf16_chars digits
labelled_loop = (
  record {
    unlimited = record {
      derives = record {
        elements = name (codes "l") false ∷ mark m.Colon false ∷ word w.While false ∷ mark m.OpenParenthesis false ∷ name (codes "a") false ∷ mark m.CloseParenthesis false ∷ mark m.OpenBrace false ∷ word w.If false ∷ mark m.OpenParenthesis false ∷ name (codes "b") false ∷ mark m.CloseParenthesis false ∷ word w.Continue false ∷ name (codes "l") false ∷ mark m.Semicolon false ∷ word w.Else false ∷ word w.Break false ∷ mark m.CloseBrace false ∷ name (codes "c") true ∷ [];
        newline = false;
        whole = refl;
        derived = g.source_and (g.statement (g.label false false refl refl (g.while false false false (g.identifier false (lit≤ tt) refl) (g.block (g.braces false false (g.statement_and (g.if_else false false false false (g.identifier false (lit≤ tt) refl) (g.continue_to false refl refl (written false)) (g.break false refl (before_brace refl))) g.no_statement)))))) (g.source_and (g.statement (g.expression (g.identifier true (lit≤ tt) refl) (λ e. cc) (λ e. cc) (at_end refl))) g.no_source);
      };
      few_functions = lit≤ tt;
    };
    keeps = record { not_too_deep = lit≤ tt; not_too_nested = lit≤ tt; not_too_many_open = lit≤ tt };
  },
  refl,
)

-- `do;while(a)` LF `(b)`
pub do_line : rows.IsWorked Source in_source rows.do_line rows.do_line_tree (codes "do;while(a);b;\n")
unfolding unicode_ident utf16_chars digits
do_line = (
  record {
    unlimited = record {
      derives = record {
        elements = word w.Do false ∷ mark m.Semicolon false ∷ word w.While false ∷ mark m.OpenParenthesis false ∷ name (codes "a") false ∷ mark m.CloseParenthesis false ∷ mark m.OpenParenthesis true ∷ name (codes "b") false ∷ mark m.CloseParenthesis false ∷ [];
        newline = false;
        whole = refl;
        derived = g.source_and (g.statement (g.do_while false false false false (g.empty false) (g.identifier false (lit≤ tt) refl) (at_line refl refl (λ e. cc)))) (g.source_and (g.statement (g.expression (g.parenthesised true false (lit≤ tt) (g.identifier false (lit≤ tt) refl)) (λ e. cc) (λ e. cc) (at_end refl))) g.no_source);
      };
      few_functions = lit≤ tt;
    };
    keeps = record { not_too_deep = lit≤ tt; not_too_nested = lit≤ tt; not_too_many_open = lit≤ tt };
  },
  refl,
)

-- `switch(a){case 1:b` LF `case 2:default:break}`
pub clauses : rows.IsWorked Source in_source rows.clauses rows.clauses_tree (codes "switch(a){case 1:b;case 2:default:break;}\n")
unfolding unicode_ident utf16_chars digits
clauses = (
  record {
    unlimited = record {
      derives = record {
        elements = word w.Switch false ∷ mark m.OpenParenthesis false ∷ name (codes "a") false ∷ mark m.CloseParenthesis false ∷ mark m.OpenBrace false ∷ word w.Case false ∷ number 1 false ∷ mark m.Colon false ∷ name (codes "b") false ∷ word w.Case true ∷ number 2 false ∷ mark m.Colon false ∷ word w.Default false ∷ mark m.Colon false ∷ word w.Break false ∷ mark m.CloseBrace false ∷ [];
        newline = false;
        whole = refl;
        derived = g.source_and (g.statement (g.switch false false false false false (g.identifier false (lit≤ tt) refl) (g.case_and false false (g.numeral true false (lit≤ tt)) (g.statement_and (g.expression (g.identifier false (lit≤ tt) refl) (λ e. cc) (λ e. cc) (at_line refl refl (λ e. cc))) g.no_statement) (g.case_and true false (g.numeral true false (lit≤ tt)) g.no_statement (g.default_and false false (g.statement_and (g.break false refl (before_brace refl)) g.no_statement) g.no_clause))))) g.no_source;
      };
      few_functions = lit≤ tt;
    };
    keeps = record { not_too_deep = lit≤ tt; not_too_nested = lit≤ tt; not_too_many_open = lit≤ tt };
  },
  refl,
)

-- `try{throw a}catch(e){}finally{}`
pub handlers : rows.IsWorked Source in_source rows.handlers rows.handlers_tree (codes "try{throw a;}catch(e){}finally{}\n")
unfolding unicode_ident utf16_chars digits
handlers = (
  record {
    unlimited = record {
      derives = record {
        elements = word w.Try false ∷ mark m.OpenBrace false ∷ word w.Throw false ∷ name (codes "a") false ∷ mark m.CloseBrace false ∷ word w.Catch false ∷ mark m.OpenParenthesis false ∷ name (codes "e") false ∷ mark m.CloseParenthesis false ∷ mark m.OpenBrace false ∷ mark m.CloseBrace false ∷ word w.Finally false ∷ mark m.OpenBrace false ∷ mark m.CloseBrace false ∷ [];
        newline = false;
        whole = refl;
        derived = g.source_and (g.statement (g.try_catch_finally false false false false false false (g.braces false false (g.statement_and (g.throw false (g.identifier false (lit≤ tt) refl) refl (at_brace refl)) g.no_statement)) refl (g.braces false false g.no_statement) (g.braces false false g.no_statement))) g.no_source;
      };
      few_functions = lit≤ tt;
    };
    keeps = record { not_too_deep = lit≤ tt; not_too_nested = lit≤ tt; not_too_many_open = lit≤ tt };
  },
  refl,
)

-- `for(var k in o)r[k]=o[k]||!k`
pub properties : rows.IsWorked Source in_source rows.properties rows.properties_tree (codes "for(var k in o)r[k]=o[k]||!k;\n")
unfolding unicode_ident utf16_chars digits
properties = (
  record {
    unlimited = record {
      derives = record {
        elements = word w.For false ∷ mark m.OpenParenthesis false ∷ word w.Var false ∷ name (codes "k") false ∷ word w.In false ∷ name (codes "o") false ∷ mark m.CloseParenthesis false ∷ name (codes "r") false ∷ mark m.OpenBracket false ∷ name (codes "k") false ∷ mark m.CloseBracket false ∷ mark m.Assign false ∷ name (codes "o") false ∷ mark m.OpenBracket false ∷ name (codes "k") false ∷ mark m.CloseBracket false ∷ mark m.Or false ∷ mark m.Not false ∷ name (codes "k") false ∷ [];
        newline = false;
        whole = refl;
        derived = g.source_and (g.statement (g.for_var_in false false false false false (g.bare false refl) (g.identifier false (lit≤ tt) refl) (g.expression (g.assign None m.Assign false (lit≤ tt) refl (g.index 18 false false (lit≤ tt) (lit≤ tt) (lit≤ tt) (g.identifier false (lit≤ tt) refl) (g.identifier false (lit≤ tt) refl)) refl (g.binary LogicalOr false (lit≤ tt) refl (g.index 18 false false (lit≤ tt) (lit≤ tt) (lit≤ tt) (g.identifier false (lit≤ tt) refl) (g.identifier false (lit≤ tt) refl)) (g.prefix p.Not false (lit≤ tt) refl (g.identifier false (lit≤ tt) refl)))) (λ e. cc) (λ e. cc) (at_end refl)))) g.no_source;
      };
      few_functions = lit≤ tt;
    };
    keeps = record { not_too_deep = lit≤ tt; not_too_nested = lit≤ tt; not_too_many_open = lit≤ tt };
  },
  refl,
)

-- `new new a;(new b).c`
pub news : rows.IsWorked Source in_source rows.news rows.news_tree (codes "new new a()();new b().c;\n")
unfolding unicode_ident utf16_chars digits
news = (
  record {
    unlimited = record {
      derives = record {
        elements = word w.New false ∷ word w.New false ∷ name (codes "a") false ∷ mark m.Semicolon false ∷ mark m.OpenParenthesis false ∷ word w.New false ∷ name (codes "b") false ∷ mark m.CloseParenthesis false ∷ mark m.Dot false ∷ name (codes "c") false ∷ [];
        newline = false;
        whole = refl;
        derived = g.source_and (g.statement (g.expression (g.bare_new false (lit≤ tt) (g.new_again false (g.member (g.identifier false (lit≤ tt) refl)))) (λ e. cc) (λ e. cc) (written false))) (g.source_and (g.statement (g.expression (g.dot 18 false false (lit≤ tt) (lit≤ tt) (lit≤ tt) (g.parenthesised false false (lit≤ tt) (g.bare_new false (lit≤ tt) (g.member (g.identifier false (lit≤ tt) refl)))) refl) (λ e. cc) (λ e. cc) (at_end refl))) g.no_source);
      };
      few_functions = lit≤ tt;
    };
    keeps = record { not_too_deep = lit≤ tt; not_too_nested = lit≤ tt; not_too_many_open = lit≤ tt };
  },
  refl,
)

-- `(function(){})();(function f(a,b){}).c`
pub functions : rows.IsWorked Source in_source rows.functions rows.functions_tree (codes "(function(){})();(function f(a,b){}).c;\n")
unfolding unicode_ident utf16_chars digits
functions = (
  record {
    unlimited = record {
      derives = record {
        elements = mark m.OpenParenthesis false ∷ word w.Function false ∷ mark m.OpenParenthesis false ∷ mark m.CloseParenthesis false ∷ mark m.OpenBrace false ∷ mark m.CloseBrace false ∷ mark m.CloseParenthesis false ∷ mark m.OpenParenthesis false ∷ mark m.CloseParenthesis false ∷ mark m.Semicolon false ∷ mark m.OpenParenthesis false ∷ word w.Function false ∷ name (codes "f") false ∷ mark m.OpenParenthesis false ∷ name (codes "a") false ∷ mark m.Comma false ∷ name (codes "b") false ∷ mark m.CloseParenthesis false ∷ mark m.OpenBrace false ∷ mark m.CloseBrace false ∷ mark m.CloseParenthesis false ∷ mark m.Dot false ∷ name (codes "c") false ∷ [];
        newline = false;
        whole = refl;
        derived = g.source_and (g.statement (g.expression (g.call (lit≤ tt) (g.parenthesised false false (lit≤ tt) (g.function false (lit≤ tt) (g.function_rest false false false false g.no_formal refl g.no_source))) (g.no_arguments false false)) (λ e. cc) (λ e. cc) (written false))) (g.source_and (g.statement (g.expression (g.dot 18 false false (lit≤ tt) (lit≤ tt) (lit≤ tt) (g.parenthesised false false (lit≤ tt) (g.named_function false false (lit≤ tt) refl (g.function_rest false false false false (g.formal_and false false refl (g.last_formal false refl)) refl g.no_source))) refl) (λ e. cc) (λ e. cc) (at_end refl))) g.no_source);
      };
      few_functions = lit≤ tt;
    };
    keeps = record { not_too_deep = lit≤ tt; not_too_nested = lit≤ tt; not_too_many_open = lit≤ tt };
  },
  refl,
)

-- `a-b-c;a-(b-c);a?b:c?d:e;a=b=c;(a,b)?c:d`
pub groups : rows.IsWorked Source in_source rows.groups rows.groups_tree (codes "a-b-c;a-(b-c);a?b:c?d:e;a=b=c;(a,b)?c:d;\n")
unfolding unicode_ident utf16_chars digits
groups = (
  record {
    unlimited = record {
      derives = record {
        elements = name (codes "a") false ∷ mark m.Minus false ∷ name (codes "b") false ∷ mark m.Minus false ∷ name (codes "c") false ∷ mark m.Semicolon false ∷ name (codes "a") false ∷ mark m.Minus false ∷ mark m.OpenParenthesis false ∷ name (codes "b") false ∷ mark m.Minus false ∷ name (codes "c") false ∷ mark m.CloseParenthesis false ∷ mark m.Semicolon false ∷ name (codes "a") false ∷ mark m.Question false ∷ name (codes "b") false ∷ mark m.Colon false ∷ name (codes "c") false ∷ mark m.Question false ∷ name (codes "d") false ∷ mark m.Colon false ∷ name (codes "e") false ∷ mark m.Semicolon false ∷ name (codes "a") false ∷ mark m.Assign false ∷ name (codes "b") false ∷ mark m.Assign false ∷ name (codes "c") false ∷ mark m.Semicolon false ∷ mark m.OpenParenthesis false ∷ name (codes "a") false ∷ mark m.Comma false ∷ name (codes "b") false ∷ mark m.CloseParenthesis false ∷ mark m.Question false ∷ name (codes "c") false ∷ mark m.Colon false ∷ name (codes "d") false ∷ [];
        newline = false;
        whole = refl;
        derived = g.source_and (g.statement (g.expression (g.binary (Operation b.Subtract) false (lit≤ tt) refl (g.binary (Operation b.Subtract) false (lit≤ tt) refl (g.identifier false (lit≤ tt) refl) (g.identifier false (lit≤ tt) refl)) (g.identifier false (lit≤ tt) refl)) (λ e. cc) (λ e. cc) (written false))) (g.source_and (g.statement (g.expression (g.binary (Operation b.Subtract) false (lit≤ tt) refl (g.identifier false (lit≤ tt) refl) (g.parenthesised false false (lit≤ tt) (g.binary (Operation b.Subtract) false (lit≤ tt) refl (g.identifier false (lit≤ tt) refl) (g.identifier false (lit≤ tt) refl)))) (λ e. cc) (λ e. cc) (written false))) (g.source_and (g.statement (g.expression (g.conditional false false (lit≤ tt) (g.identifier false (lit≤ tt) refl) (g.identifier false (lit≤ tt) refl) (g.conditional false false (lit≤ tt) (g.identifier false (lit≤ tt) refl) (g.identifier false (lit≤ tt) refl) (g.identifier false (lit≤ tt) refl))) (λ e. cc) (λ e. cc) (written false))) (g.source_and (g.statement (g.expression (g.assign None m.Assign false (lit≤ tt) refl (g.identifier false (lit≤ tt) refl) refl (g.assign None m.Assign false (lit≤ tt) refl (g.identifier false (lit≤ tt) refl) refl (g.identifier false (lit≤ tt) refl))) (λ e. cc) (λ e. cc) (written false))) (g.source_and (g.statement (g.expression (g.conditional false false (lit≤ tt) (g.parenthesised false false (lit≤ tt) (g.comma false (lit≤ tt) (g.identifier false (lit≤ tt) refl) (g.identifier false (lit≤ tt) refl))) (g.identifier false (lit≤ tt) refl) (g.identifier false (lit≤ tt) refl)) (λ e. cc) (λ e. cc) (at_end refl))) g.no_source))));
      };
      few_functions = lit≤ tt;
    };
    keeps = record { not_too_deep = lit≤ tt; not_too_nested = lit≤ tt; not_too_many_open = lit≤ tt };
  },
  refl,
)

-- `function g(){return eval($dl_get(2)).apply(this,arguments);}`
pub stub : rows.IsWorked Written in_site rows.stub rows.stub_tree (codes "function g(){return eval($dl_get(2)).apply(this,arguments);}\n")
unfolding unicode_ident utf16_chars digits
stub = (
  record {
    unlimited = record {
      derives = record {
        elements = word w.Function false ∷ name (codes "g") false ∷ mark m.OpenParenthesis false ∷ mark m.CloseParenthesis false ∷ mark m.OpenBrace false ∷ word w.Return false ∷ name (codes "eval") false ∷ mark m.OpenParenthesis false ∷ name (codes "$dl_get") false ∷ mark m.OpenParenthesis false ∷ number 2 false ∷ mark m.CloseParenthesis false ∷ mark m.CloseParenthesis false ∷ mark m.Dot false ∷ name (codes "apply") false ∷ mark m.OpenParenthesis false ∷ word w.This false ∷ mark m.Comma false ∷ name (codes "arguments") false ∷ mark m.CloseParenthesis false ∷ mark m.Semicolon false ∷ mark m.CloseBrace false ∷ [];
        newline = false;
        whole = refl;
        derived = g.source_and (g.declaration false false refl (g.function_rest false false false false g.no_formal refl (g.source_and (g.statement (g.return_value false refl (g.call (lit≤ tt) (g.dot 18 false false (lit≤ tt) (lit≤ tt) (lit≤ tt) (g.late false false false false false false false (lit≤ tt) refl refl) refl) (g.arguments false false (g.argument_and false (g.this false (lit≤ tt)) (g.last_argument (g.identifier false (lit≤ tt) refl))))) refl (written false))) g.no_source))) g.no_source;
      };
      few_functions = lit≤ tt;
    };
    keeps = record { not_too_deep = lit≤ tt; not_too_nested = lit≤ tt; not_too_many_open = lit≤ tt };
  },
  refl,
)

pub entry_function : func_text rows.entry ≡ codes "function(){host.out(\"two\");}"
unfolding unicode_ident utf16_chars digits
entry_function = refl

pub entry_body : body_text rows.entry_body ≡ codes "host.out(\"two\");"
unfolding unicode_ident utf16_chars digits
entry_body = refl

pub entry : entry_text rows.entry ≡ codes "(function(){host.out(\"two\");})"
unfolding unicode_ident utf16_chars digits
entry = refl
