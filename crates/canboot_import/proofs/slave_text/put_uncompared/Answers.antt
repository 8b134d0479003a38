use Rattle.canboot_import.proofs.Told.{tells_all}
use Rattle.canboot_import.proofs.slave_text.put_uncompared.Goals as goal

pub returns : goal.returns
returns g c =
    tells_all c.put_unread-5.result c.args.front.now c.args.identity.now _ _ _ _ _ _ c.in_ok-put_unread.ensures c.in_ok-put_unread-2.ensures
    c.in_ok-put_unread-3.ensures c.in_ok-put_unread-4.ensures c.put_unread-5.ensures
