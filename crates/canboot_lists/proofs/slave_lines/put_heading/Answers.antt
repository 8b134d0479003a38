use Rattle.std.proofs.Common.{ℕ, List, ◌++◌, subst}
use Rattle.std.specs.Prelude.{OnOk, codes, decimal}
use Rattle.std.specs.Io.KnownBytes.{Appends}
use Rattle.cm_nmt.specs.Bits.{has_bit}
use Rattle.cm_text.proofs.Writes.{then_last}
use Rattle.cm_netlist.specs.StartWarnings.{ended}
use Rattle.canboot_lists.specs.Explained.{mandatory_words}
use Rattle.canboot_lists.proofs.Words.{then_words}
use Rattle.canboot_lists.proofs.slave_lines.put_heading.Goals as goal

pub returns : goal.returns
returns g c =
    let a = g.W.Write.contents c.write.new.self in
    let b = g.W.Write.contents c.write_all.new.self in
    let e = g.W.Write.contents c.writeln.new.self in
    let hex = subst (Appends a b) c.hex8.ensures c.in_ok-write_all.ensures.bytes in
    let r = c.writeln.result in
    let kept = c.kept_words.result.now in
    let first = subst (λ (words : List ℕ). OnOk r (Appends b e (words ++ ended kept))) c.mandatory_words.ensures c.writeln.ensures.bytes in
    let mandatory = mandatory_words (has_bit c.args.assignment.0 3) in
    let both = subst (λ (words : List ℕ). OnOk r (Appends b e (mandatory ++ ended words))) c.kept_words.ensures first in
    then_words _ _ _ _ (codes "slave " ++ decimal c.args.number) (codes ": assignment ") _ c.in_ok-write.ensures.bytes
    (then_last _ _ _ _ _ _ hex both)
