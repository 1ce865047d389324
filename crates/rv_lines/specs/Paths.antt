-- The path of a row's file (DWARF 5, section 6.2.4: directories, file_names).
use Rattle.std.specs.Prelude.{◌==◌, ◌||◌, ℕ, Bool, false, List, [], ◌∷◌, ◌++◌, length, drop, Option, Some, None, if◌then◌else◌, option_map, option_and_then}
use Rattle.std.specs.Result.{result_ok}
use Rattle.rv_lines.specs.Reading.{◌>>=◌}
use Rattle.rv_lines.specs.Entries.{Strings, Entry}
use Rattle.rv_lines.specs.Header.{Header, header_at, numbered}
use Rattle.rv_lines.specs.Units.{unit_bytes}

-- whether a path begins with `/`
abbrev pub is_absolute : List ℕ → Bool
is_absolute [] = false
is_absolute (b ∷ bytes) = b == 0x2f

-- whether a file has no directory: its name is absolute, or its directory is number 0, the compiler's own
abbrev pub has_no_directory : Entry → Bool
has_no_directory file = is_absolute file.name || (file.directory == 0)

-- the name of a directory, or `None` if it is empty
abbrev pub directory_name : Entry → Option (List ℕ)
directory_name directory = if length directory.name == 0 then None else Some directory.name

-- the name of a file's directory; `None` if the file has no directory, if no directory has its number, or if the directory's name is empty
abbrev pub directory_of : Header → Entry → Option (List ℕ)
directory_of h file = if has_no_directory file then None
    else option_and_then directory_name (numbered h.first h.directories file.directory)

-- a path: NAME, or DIRECTORY and NAME
pub record Path : Type 0 where
  pub directory : Option (List ℕ)
  pub name : List ℕ

-- the path with this directory and this name
abbrev pub path_with : Option (List ℕ) → List ℕ → Path
path_with directory name = record { directory = directory; name = name }

-- the text NAME, or DIRECTORY/NAME if there is a directory
abbrev pub joined : Option (List ℕ) → List ℕ → List ℕ
joined None name = name
joined (Some directory) name = directory ++ 0x2f ∷ name

-- the text of a path
abbrev pub path_text : Path → List ℕ
path_text path = joined path.directory path.name

-- the path of a file, whose directory is in this header
abbrev pub path_in : Header → Entry → Path
path_in h file = path_with (directory_of h file) file.name

-- the path of a file of the unit at an offset of the section; `None` if the header is rejected or has no such file
unfoldable pub path_of : Strings → List ℕ → ℕ → ℕ → Option Path
path_of strings section unit file = option_and_then (λ header. option_map (path_in header.0) (numbered header.0.first header.0.files file))
    (result_ok (unit_bytes (drop unit section) >>= header_at strings))
