use Rattle.std.proofs.Common.{rules}
use Rattle.canboot_live.proofs.threads.fn.run_threads.scope+FnOnce.call_once.Goals as goal

pub scope-requires : goal.scope-requires
scope-requires g c = search rules
