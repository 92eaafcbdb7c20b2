use Rattle.std.proofs.Common.{◌≡◌, Some, sym, ap, ◌∙◌, subst}
use Rattle.doloto_app.specs.Formats.{HasScript}
use Rattle.doloto_app.specs.View.{command}
use Rattle.doloto_app.specs.Words.{said}
use Rattle.doloto_app.proofs.FormatLemmas.{formats_whole}
use Rattle.doloto_app.proofs.Whole.{same_path, same_paths}
use Rattle.doloto_app.proofs.top.doloto_top.Goals as goal

pub returns-in-Some-Play-clause-headline : goal.returns-in-Some-Play-clause-headline
returns-in-Some-Play-clause-headline g c site page files script asks =
    let says = sym c.in-Some-Play.ensures ∙ ap (λ it. Some (command it)) c.in-Some-Play.field-0-is in
    let same = same_paths (said c.args.words.now) site page c.in-Some-Play.site.now c.in-Some-Play.page.now asks.said_so says in
    rw (same.0) (c.play_out.ensures.headline files asks.told script)

pub returns-in-Some-Play-clause-laziness : goal.returns-in-Some-Play-clause-laziness
returns-in-Some-Play-clause-laziness g c site page files script asks =
    let says = sym c.in-Some-Play.ensures ∙ ap (λ it. Some (command it)) c.in-Some-Play.field-0-is in
    let same = same_paths (said c.args.words.now) site page c.in-Some-Play.site.now c.in-Some-Play.page.now asks.said_so says in
    rw (same.0) (c.play_out.ensures.laziness files asks.told script)

pub returns-in-Some-Format-clause-formats_whole : goal.returns-in-Some-Format-clause-formats_whole
returns-in-Some-Format-clause-formats_whole g c script files tree asks has no_read no_write =
    let says = sym c.in-Some-Format.ensures ∙ ap (λ it. Some (command it)) c.in-Some-Format.field-0-is in
    let same = same_path (said c.args.words.now) script c.in-Some-Format.script.now asks.said_so says in
    formats_whole files c.in-Some-Format.script.now tree _ _ _ _ _ (subst (λ name. HasScript files name tree) same has)
    (c.format_out.ensures.formats files asks.told) _ _ _ _ c.format_out.ensures.reads.faults c.format_out.ensures.writes no_read no_write
