use Rattle.canboot_import.proofs.Told.{tells_line, tells_none}
use Rattle.canboot_import.proofs.slave_text.put_unread.Goals as goal

pub returns-in-Ok : goal.returns-in-Ok
returns-in-Ok g c = tells_none c.args.front.now c.args.part.now c.args.found.now _ (g.W.Write.contents c.args.out.now) c.in-Ok.is

pub returns-in_ok-put_name-in-Err : goal.returns-in_ok-put_name-in-Err
returns-in_ok-put_name-in-Err g c =
    tells_line c.put_no_number.result c.args.front.now c.args.part.now c.args.found.now c.in-Err.item c.as_slice.result.now _ _ c.in-Err.is
    c.put_no_number.ensures
