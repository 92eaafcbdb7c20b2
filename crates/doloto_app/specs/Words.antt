-- The words of a command.
use Rattle.std.specs.Prelude.{◌≡◌, ℕ, List, [], ◌∷◌, Option, Some, None, Bool, false, not, nat_eq, ◌&&◌, cond, codes, map, String, string_bytes}
use Rattle.std.specs.Str.{bytes_eq}
use Rattle.std.specs.declared.alloc.Global.{Global}
use Rattle.dl_ports.specs.Files.{Files}
use Rattle.dl_ports.specs.Stores.{StoreMeaning, Tells}

pub data Command : Type 0 where
  -- plays the site of a folder for the page of a file
  Play : (site page : List ℕ) → Command
  -- prints the script of a file
  Format : (script : List ℕ) → Command

-- a path is neither empty nor begun with `-`
abbrev pub is_path : List ℕ → Bool
is_path [] = false
is_path (b ∷ bs) = not (nat_eq b 45)

-- the words are a name and two paths
abbrev pub is_two_paths : List ℕ → List ℕ → List ℕ → List ℕ → Bool
is_two_paths name word first second = bytes_eq word name && (is_path first && is_path second)

-- the words are a name and a path
abbrev pub is_one_path : List ℕ → List ℕ → List ℕ → Bool
is_one_path name word path = bytes_eq word name && is_path path

-- the command that words say, by their bytes
abbrev pub command_of : List (List ℕ) → Option Command
command_of (word ∷ script ∷ []) =
    cond (is_one_path (codes "format") word script) (Some (Format script)) None
command_of (word ∷ site ∷ page ∷ []) =
    cond (is_two_paths (codes "play") word site page) (Some (Play site page)) None
command_of _ = None

abbrev pub said : List (String Global) → Option Command
said words = command_of (map string_bytes words)

-- the words say this command, and the store that it is run over tells these files
pub record Commands {S : Type 0} (store : StoreMeaning S) (s : S) (words : List (String Global))
    (command : Command) (files : Files) : Type 0 where
  pub said_so : said words ≡ Some command
  pub told : Tells store s files

-- the steps that a run may take where the words do not say how many
abbrev pub default_steps : ℕ
default_steps = 10000000
