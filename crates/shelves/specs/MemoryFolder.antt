-- What a folder in memory keeps.
use Rattle.std.specs.Prelude.{ℕ, List, [], bytes_eq, if◌then◌else◌}
use Rattle.shelves.specs.declared.memory_folder.KeptFile.{KeptFile}

-- what the file of a name holds: nothing but where it is that of the one that stands there
abbrev pub kept_in : KeptFile → List ℕ → List ℕ
kept_in there name = if bytes_eq there.name.items name then there.bytes.items else []
