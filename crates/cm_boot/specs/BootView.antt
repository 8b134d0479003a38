-- What contracts see of a `Boot`.
use Rattle.std.specs.Option.{option_copied}
use Rattle.cm_boot.specs.Progress.{Booting, IsBooting}
use Rattle.cm_boot.specs.declared.boot.Boot.TheInside.{Inside}

-- the listed entry, without the reference to it, and the answers
abbrev pub view_of : Inside → Booting
view_of b = record { entry = option_copied b.entry; answers = b.answers }

-- what the type keeps
abbrev pub IsSoundInside : Inside → Type 0
IsSoundInside b = IsBooting (view_of b)
