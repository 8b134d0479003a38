-- Files (own).
use Rattle.std.specs.Prelude.{◌==◌, ◌&&◌, Bool, false, Option, Some}
use Rattle.canboot_faults.specs.declared.same_file.FileId.{FileId}

-- both are files, on the same device with the same number there
abbrev pub is_same_file : Option FileId → Option FileId → Bool
is_same_file (Some here) (Some there) = here.device == there.device && here.number == there.number
is_same_file _ _ = false
