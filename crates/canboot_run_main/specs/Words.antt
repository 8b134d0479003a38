-- What the words of a run keep (own).
use Rattle.std.specs.Prelude.{◌≤◌}
use Rattle.canboot_run.specs.declared.simulation.Options.{Options}

-- there are 1 to 16 workers and 1 to 10 attempts
abbrev pub AreInRange : Options → Type 0
AreInRange o = (1 ≤ o.workers) × (o.workers ≤ 16) × (1 ≤ o.attempts) × (o.attempts ≤ 10)
