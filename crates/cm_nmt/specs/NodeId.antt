-- Which numbers are node-IDs.
use Rattle.std.specs.Prelude.{ℕ, ◌≤◌}

-- 1 to 127 (CiA 301, node-ID)
abbrev pub IsNodeId : ℕ → Type 0
IsNodeId n = (1 ≤ n) × (n ≤ 127)
