use Rattle.std.proofs.Common.{ℕ, subst}
use Rattle.std.specs.Io.KnownBytes.{Appends}
use Rattle.cm_text.proofs.Writes.{then_last}
use Rattle.canboot_lists.specs.Explained.{heading_text}
use Rattle.canboot_lists.proofs.slave_lines.put_slave.Goals as goal

pub returns : goal.returns
returns g c =
    let a = g.W.Write.contents c.args.out.now in
    let b = g.W.Write.contents c.put_heading.new.out in
    let heading = subst (λ (i : ℕ). Appends a b (heading_text i c.args.entry.now.assignment.0)) c.get.ensures.value c.in_ok-put_heading.ensures in
    then_last _ a b _ _ _ heading
    (then_last _ _ _ _ _ _ c.in_ok-put_boot.ensures (then_last _ _ _ _ _ _ c.in_ok-put_end.ensures c.put_watch.ensures))
