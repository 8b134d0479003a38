use Rattle.cm_text.proofs.Writes.{then_last}
use Rattle.canboot_lists.proofs.explaining.put_slave_warnings.Goals as goal

pub returns : goal.returns
returns g c =
    then_last _ _ _ _ _ _ c.in_ok-put_warning.ensures
    (then_last _ _ _ _ _ _ c.in_ok-put_warning-2.ensures
    (then_last _ _ _ _ _ _ c.in_ok-put_warning-3.ensures
    (then_last _ _ _ _ _ _ c.in_ok-put_warning-4.ensures c.put_started_warning.ensures)))
