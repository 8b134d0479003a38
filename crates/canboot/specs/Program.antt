-- How canboot ends.
use Rattle.std.specs.Prelude.{◌≡◌, ◌⊎◌, ℕ}
use Rattle.canboot_cli.specs.declared.command_line.NoAction.{NoAction}
use Rattle.canboot_cli.specs.declared.command_line.NoAction.TheVariants as none

-- the exit status where a command line asks for no run: 2 for a wrong one, 3 for want of memory, 0 for help and the
-- version, or 3 where they couldn't be written (own)
abbrev pub EndsWithout : NoAction → ℕ → Type 0
EndsWithout (none.Shown t) status = (status ≡ 0) ⊎ (status ≡ 3)
EndsWithout (none.Wrong t) status = status ≡ 2
EndsWithout none.OutOfMemory status = status ≡ 3
