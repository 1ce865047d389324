-- Files in memory.
use Rattle.std.specs.Prelude.{List, find, map, option_map}
use Rattle.std.specs.Str.{bytes_eq}
use Rattle.rv_base.specs.Files.{FileContents}
use Rattle.rv_files.specs.declared.memory_files.MemoryFile.{MemoryFile}
use Rattle.rv_files.specs.CommittedFiles.{CommittedFile, committed_file}

-- the contents of files in memory: for each path, the bytes of the first file with this path, or `None` if there is none
abbrev pub memory_contents : List MemoryFile → FileContents
memory_contents files path = option_map (λ (file : MemoryFile). file.bytes.items)
    (find (λ (file : MemoryFile). bytes_eq path file.path) files)

-- the files in memory, in order, as contracts see committed files
abbrev pub committed_memory_files : List MemoryFile → List CommittedFile
committed_memory_files files = map (λ (file : MemoryFile). committed_file file.path file.bytes.items) files
