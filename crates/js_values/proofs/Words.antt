-- The units of the words that values are made texts of.
use Rattle.std.proofs.Common.{◌≡◌, refl}
use Rattle.std.specs.Prelude.{codes}
use Rattle.std.specs.Str.{chars}
use Rattle.dl_text.specs.Utf16.{utf16}

pub units_nan : utf16 (chars (codes "NaN")) ≡ codes "NaN"
unfolding chars
units_nan = refl

pub units_undefined : utf16 (chars (codes "undefined")) ≡ codes "undefined"
unfolding chars
units_undefined = refl

pub units_null : utf16 (chars (codes "null")) ≡ codes "null"
unfolding chars
units_null = refl

pub units_true : utf16 (chars (codes "true")) ≡ codes "true"
unfolding chars
units_true = refl

pub units_false : utf16 (chars (codes "false")) ≡ codes "false"
unfolding chars
units_false = refl

pub ruleset word_units = (units_nan, units_undefined, units_null, units_true, units_false)
