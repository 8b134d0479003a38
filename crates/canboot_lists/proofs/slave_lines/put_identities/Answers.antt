use Rattle.cm_text.proofs.Writes.{then_last}
use Rattle.canboot_lists.proofs.slave_lines.put_identities.Goals as goal

pub returns : goal.returns
returns g c =
    then_last _ _ _ _ _ _ c.in_ok-put_identity.ensures
    (then_last _ _ _ _ _ _ c.in_ok-put_identity-2.ensures
    (then_last _ _ _ _ _ _ c.in_ok-put_identity-3.ensures c.put_identity-4.ensures))
