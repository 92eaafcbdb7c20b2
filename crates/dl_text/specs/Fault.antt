-- Why bytes give no text.
use Rattle.std.specs.Prelude.{◌≡◌, ℕ, List}
use Rattle.std.specs.Str.{IsUtf8}
use Rattle.std.specs.Str.Lossy.{utf8_valid_len}
use Rattle.dl_text.specs.declared.utf.TextError.{TextError}
use Rattle.dl_text.specs.declared.utf.TextError.TheVariants.{NotUtf8, OutOfMemory}

-- the bytes are no UTF-8, and n is the length of the longest prefix that is; or they are, and memory
-- was wanting
abbrev pub IsFaultOf : List ℕ → TextError → Type 0
IsFaultOf bytes (NotUtf8 n) = (¬ (IsUtf8 bytes)) × (n ≡ utf8_valid_len bytes)
IsFaultOf bytes OutOfMemory = IsUtf8 bytes
