-- What a command of the program is in the definitions.
use Rattle.doloto_app.specs.declared.words.Command.{Command}
use Rattle.doloto_app.specs.declared.words.Command.TheVariants as c
use Rattle.doloto_app.specs.Words as words

abbrev pub command : Command → words.Command
command (c.Play site page) = words.Play site.now page.now
command (c.Format script) = words.Format script.now
