-- Reports of the worked site, of what its original allows and of what it does not.
use Rattle.std.specs.Prelude.{ℕ, List, [], ◌∷◌, ◌++◌, codes}
use Rattle.play.specs.declared.outcome.End.{End}
use Rattle.play.specs.Report.{Line}
use Rattle.play.specs.Headline.{ShowsOriginal}
use Rattle.play.specs.Laziness.{ShowsLoads}
use Rattle.play.specs.Rows.{manifest, original_script, out_line}

abbrev pub page : List ℕ
page = codes "{\"host\":[\"out\"]}\n"

abbrev pub fetch : List ℕ
fetch = codes "wait 1\nask 1\nhere 1\n"

-- the report of the worked site
abbrev pub report : List ℕ
report =
    codes "call out \"one\"\nwait 1\nask 1\nhere 1\ncall out \"two\"\n"
    ++ codes "call out \"three\"\nidle\nend ended 35\n"

-- the calls of its original
abbrev pub three_calls : List Line
three_calls = out_line (codes "one") ∷ out_line (codes "two") ∷ out_line (codes "three") ∷ []

-- a report of the worked site, and that none of these end or these loads is one
abbrev pub Shows : List ℕ → End → ℕ → Type 0
Shows text e n = ShowsOriginal text e original_script n

abbrev pub ShowsNot : List ℕ → End → ℕ → Type 0
ShowsNot text e n = Shows text e n → ⊥

abbrev pub Loads : List ℕ → End → ℕ → Type 0
Loads text e n = ShowsLoads manifest text e original_script n

abbrev pub LoadsNot : List ℕ → End → ℕ → Type 0
LoadsNot text e n = Loads text e n → ⊥

-- ---- reports with other calls

abbrev pub call_more : List ℕ
call_more =
    codes "call out \"one\"\nwait 1\nask 1\nhere 1\ncall out \"two\"\n"
    ++ codes "call out \"three\"\ncall out \"three\"\nidle\nend ended 35\n"

abbrev pub call_less : List ℕ
call_less =
    codes "call out \"one\"\nwait 1\nask 1\nhere 1\ncall out \"two\"\nidle\nend ended 35\n"

abbrev pub other_order : List ℕ
other_order =
    codes "wait 1\nask 1\nhere 1\ncall out \"two\"\ncall out \"one\"\n"
    ++ codes "call out \"three\"\nidle\nend ended 35\n"

abbrev pub uncaught_more : List ℕ
uncaught_more =
    codes "call out \"one\"\nwait 1\nask 1\nhere 1\ncall out \"two\"\n"
    ++ codes "call out \"three\"\nuncaught #1\nidle\nend ended 35\n"

-- ---- reports with other loads

abbrev pub early_wait : List ℕ
early_wait =
    codes "wait 1\nask 1\nhere 1\ncall out \"one\"\ncall out \"two\"\n"
    ++ codes "call out \"three\"\nidle\nend ended 35\n"

abbrev pub late_wait : List ℕ
late_wait =
    codes "call out \"one\"\ncall out \"two\"\nwait 1\nask 1\nhere 1\n"
    ++ codes "call out \"three\"\nidle\nend ended 35\n"

abbrev pub no_wait : List ℕ
no_wait = codes "call out \"one\"\ncall out \"two\"\ncall out \"three\"\nidle\nend ended 35\n"

abbrev pub second_wait : List ℕ
second_wait =
    codes "call out \"one\"\nwait 1\nask 1\nhere 1\ncall out \"two\"\nwait 1\nask 1\nhere 1\n"
    ++ codes "call out \"three\"\nidle\nend ended 35\n"

-- ---- reports that end otherwise

abbrev pub all_but_the_end : List ℕ
all_but_the_end =
    codes "call out \"one\"\nwait 1\nask 1\nhere 1\ncall out \"two\"\n"
    ++ codes "call out \"three\"\nidle\nend out-of-steps 896\n"
