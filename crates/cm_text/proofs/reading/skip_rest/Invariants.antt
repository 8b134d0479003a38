use Rattle.std.proofs.Common.{◌≡◌, ℕ, ◌≤◌, List, length}
use Rattle.std.specs.Io.KnownBytes.{Consumes}
use Rattle.cm_text.proofs.reading.skip_rest.Given as goal

-- so many bytes were read, and they aren't too many
abbrev pub invariant-loop : goal.invariant-loop
invariant-loop g l = (bytes : List ℕ) × Consumes (g.R.Read.remaining l.initial.reader) (g.R.Read.remaining l.reader) bytes × (length bytes ≡ l.skipped) × (l.skipped ≤ l.most)
