use Rattle.std.proofs.Common.{subst}
use Rattle.std.specs.Prelude.{OnOk, flat_map}
use Rattle.std.specs.Io.KnownBytes.{Appends}
use Rattle.cm_text.proofs.Writes.{then_last}
use Rattle.canboot_lists.specs.Explained.{date_text, device_text, identities_text, software_text, state_text, write_text}
use Rattle.canboot_lists.proofs.slave_lines.put_asked.Goals as goal

pub returns : goal.returns
returns g c =
    let e = c.args.entry.now in
    let r = c.put_writes.result in
    let before = g.W.Write.contents c.put_date.new.out in
    let end = g.W.Write.contents c.put_writes.new.out in
    let writes = subst (λ ws. OnOk r (Appends before end (flat_map write_text ws))) c.as_slice.ensures.value c.put_writes.ensures in
    then_last r _ _ end (device_text e.device_type) _ c.in_ok-put_device.ensures
    (then_last r _ _ end (identities_text e) _ c.in_ok-put_identities.ensures
    (then_last r _ _ end (state_text e) _ c.in_ok-put_state.ensures
    (then_last r _ _ end (software_text e) _ c.in_ok-put_software.ensures
    (then_last r _ _ end (date_text e) _ c.in_ok-put_date.ensures writes))))
