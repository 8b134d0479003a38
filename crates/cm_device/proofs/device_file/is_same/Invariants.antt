use Rattle.std.proofs.Common.{◌≡◌, ℕ, ◌<◌, get_or}
use Rattle.std.specs.Char.{to_ascii_lowercase}
use Rattle.cm_device.proofs.device_file.is_same.Given as goal

-- the letters so far are the same
abbrev pub invariant-loop-at : goal.invariant-loop-at
invariant-loop-at l = (k : ℕ) → k < l.at → to_ascii_lowercase (get_or l.one k 0) ≡ to_ascii_lowercase (get_or l.other k 0)
