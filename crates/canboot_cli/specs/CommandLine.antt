-- What the actions that a command line asks for keep (own).
use Rattle.std.specs.Prelude.{◌≡◌, ◌≤◌, ◌⊎◌}
use Rattle.canboot_cli.specs.declared.command_line.Action.{Action}
use Rattle.canboot_cli.specs.declared.command_line.Action.TheVariants as action

-- there are 1 to 16 workers and 1 to 10 attempts, an answer is waited for 1 to 60,000 ms, and the manager's heartbeat is sent each 10 ms
-- or more, or not at all
abbrev pub IsInRange : Action → Type 0
IsInRange (action.Check n output) = Unit {0}
IsInRange (action.Scan s) = (1 ≤ s.workers) × (s.workers ≤ 16) × (1 ≤ s.answer_ms) × (s.answer_ms ≤ 60000)
IsInRange (action.Import file id mandatory heartbeat first partly) = Unit {0}
IsInRange (action.Run r) = (1 ≤ r.workers) × (r.workers ≤ 16) × (1 ≤ r.attempts) × (r.attempts ≤ 10)
IsInRange (action.Live l) =
    (1 ≤ l.workers) × (l.workers ≤ 16) × (1 ≤ l.attempts) × (l.attempts ≤ 10) × (1 ≤ l.answer_ms) × (l.answer_ms ≤ 60000)
    × ((l.heartbeat_ms ≡ 0) ⊎ (10 ≤ l.heartbeat_ms))
IsInRange (action.Replay output) = Unit {0}
IsInRange action.Mend = Unit {0}
IsInRange (action.Tell n explained) = Unit {0}
IsInRange action.Picture = Unit {0}
