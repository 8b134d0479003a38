use Rattle.cm_run.proofs.team.fn.run_jobs.scope.Goals as goal

pub returns-then-run_first : goal.returns-then-run_first
returns-then-run_first g c = record { done_len = c.run_first.ensures.len; done = c.run_first.ensures.all c.if-run_first.true; stopped_len = tt; stopped = tt; first = tt }

pub returns-else-run_first : goal.returns-else-run_first
returns-else-run_first g c = record { done_len = tt; done = tt; stopped_len = c.run_first.ensures.len; stopped = c.run_first.ensures.each; first = c.run_first.ensures.first c.if-run_first.false }
