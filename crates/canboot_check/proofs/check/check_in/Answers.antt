use Rattle.std.proofs.Common.{inr}
use Rattle.canboot_faults.proofs.OutputStatus.{done_written}
use Rattle.canboot_check.proofs.check.check_in.Goals as goal

pub returns-in-Ok-clause-done : goal.returns-in-Ok-clause-done
returns-in-Ok-clause-done g c = λ e.
    record {
      net = c.in-Ok.network;
      list = c.in-Ok.ensures.list;
      written = done_written c.put_check_in.result _ c.tell_output.result c.put_check_in.ensures c.tell_output.ensures e;
    }

pub returns-in-Ok-clause-failed : goal.returns-in-Ok-clause-failed
returns-in-Ok-clause-failed g c = λ e. inr (c.in-Ok.network, c.in-Ok.ensures.list)
