-- The path of a file, from what is kept of its header.
use Rattle.std.proofs.Common.{◌≡◌, ◌∙◌, ℕ, List, true, false, cond, Option, Some, None, option_map, Ok, Err, refl, sym, ap}
use Rattle.std.specs.Prelude.{option_and_then}
use Rattle.std.specs.Result.{result_ok}
use Rattle.rv_lines.specs.declared.header.RequestedEntries.{RequestedEntries}
use Rattle.rv_lines.specs.Reading.{Read}
use Rattle.rv_lines.specs.Entries.{Entry}
use Rattle.rv_lines.specs.Header.{Header, numbered}
use Rattle.rv_lines.specs.HeaderInside.{HeaderSummary, header_summary}
use Rattle.rv_lines.specs.Paths.{Path, has_no_directory, directory_name, directory_of, path_with, path_in}

abbrev some : {X : Type 0} → X → Option X
some x = Some x

some_same : {X : Type 0} (x y : X) → some x ≡ some y → x ≡ y
some_same x y e = cc

abbrev pub path_at : ℕ → Read Header → Option Path
path_at file read = option_and_then (λ header. option_map (path_in header.0) (numbered header.0.first header.0.files file)) (result_ok read)

abbrev pub kept : RequestedEntries → Read Header → Option HeaderSummary
kept requested read = option_map (λ h. header_summary requested h.0) (result_ok read)

pub path_rejected : (file : ℕ) (requested : RequestedEntries) (read : Read Header) → kept requested read ≡ None → path_at file read ≡ None
path_rejected file requested (Ok x) h = absurd cc
path_rejected file requested (Err e) h = refl

pub path_no_file : (requested : RequestedEntries) (read : Read Header) (b : HeaderSummary) → kept requested read ≡ Some b → b.file ≡ None → path_at requested.file read ≡ None
path_no_file requested (Ok x) b h none =
    let e = some_same (header_summary requested x.0) b h in
    ap (option_map (path_in x.0)) (ap (λ (k : HeaderSummary). k.file) e ∙ none)
path_no_file requested (Err e) b h none = absurd cc

there : (requested : RequestedEntries) (x : Header × List ℕ) (b : HeaderSummary) (file : Entry) → kept requested (Ok x) ≡ Some b → b.file ≡ Some file
    → path_at requested.file (Ok x) ≡ Some (path_with (directory_of x.0 file) file.name)
there requested x b file h f =
    let e = some_same (header_summary requested x.0) b h in
    ap (option_map (path_in x.0)) (ap (λ (k : HeaderSummary). k.file) e ∙ f)

pub path_plain : (requested : RequestedEntries) (read : Read Header) (b : HeaderSummary) (file : Entry) → kept requested read ≡ Some b → b.file ≡ Some file → has_no_directory file ≡ true
    → path_at requested.file read ≡ Some (path_with None file.name)
path_plain requested (Ok x) b file h f plain = there requested x b file h f
    ∙ ap (λ z. some (path_with (cond z None (option_and_then directory_name (numbered x.0.first x.0.directories file.directory))) file.name)) plain
path_plain requested (Err e) b file h f plain = absurd cc

pub path_in_directory : (requested other : RequestedEntries) (read : Read Header) (b c : HeaderSummary) (file : Entry) → kept requested read ≡ Some b → b.file ≡ Some file → has_no_directory file ≡ false
    → kept other read ≡ Some c → other.directory ≡ file.directory → path_at requested.file read ≡ Some (path_with (option_and_then directory_name c.directory) file.name)
path_in_directory requested other (Ok x) b c file h f plain k n =
    let e = some_same (header_summary other x.0) c k in
    there requested x b file h f
    ∙ ap (λ z. some (path_with (cond z None (option_and_then directory_name (numbered x.0.first x.0.directories file.directory))) file.name)) plain
    ∙ ap (λ m. some (path_with (option_and_then directory_name (numbered x.0.first x.0.directories m)) file.name)) (sym n)
    ∙ ap (λ o. some (path_with (option_and_then directory_name o) file.name)) (ap (λ (y : HeaderSummary). y.directory) e)
path_in_directory requested other (Err e) b c file h f plain k n = absurd cc
