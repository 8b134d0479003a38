use Rattle.std.proofs.Common.{◌≡◌, ℕ, ◌<◌, ◌≤◌, Some}
use Rattle.std.specs.List.{slice_index_or}
use Rattle.cm_history.specs.Machine.{obeyed}
use Rattle.cm_sequential.proofs.slaves.obey_all.Given as goal

-- the states so far are changed, and the others are as they were
abbrev pub invariant-loop-state : goal.invariant-loop-state
invariant-loop-state l = record {
  changed : (i : ℕ) → i < l.state-index → slice_index_or l.states i 0 ≡ obeyed (Some l.command) (slice_index_or l.initial.states i 0);
  rest : (i : ℕ) → l.state-index ≤ i → slice_index_or l.states i 0 ≡ slice_index_or l.initial.states i 0;
}
