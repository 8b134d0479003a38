use Rattle.std.proofs.Common.{ℕ, List, subst}
use Rattle.std.specs.Prelude.{OnOk}
use Rattle.std.specs.Io.KnownBytes.{Appends}
use Rattle.cm_text.proofs.Writes.{then_last}
use Rattle.cm_netlist.specs.StartWarnings.{ended}
use Rattle.canboot_lists.proofs.explaining.put_bits.Goals as goal

pub returns : goal.returns
returns g c =
    let a = g.W.Write.contents c.args.out.now in
    let b = g.W.Write.contents c.put_line.new.out in
    let d = g.W.Write.contents c.put_line-2.new.out in
    let e = g.W.Write.contents c.put_line-3.new.out in
    let f = g.W.Write.contents c.put_line-4.new.out in
    let master = subst (λ (words : List ℕ). Appends a b (ended words)) c.master_words.ensures c.in_ok-put_line.ensures in
    let start = subst (λ (words : List ℕ). Appends b d (ended words)) c.start_words.ensures c.in_ok-put_line-2.ensures in
    let operational = subst (λ (words : List ℕ). Appends d e (ended words)) c.operational_words.ensures c.in_ok-put_line-3.ensures in
    let loss = subst (λ (words : List ℕ). OnOk c.put_line-4.result (Appends e f (ended words))) c.loss_words.ensures c.put_line-4.ensures in
    then_last _ _ _ _ _ _ master (then_last _ _ _ _ _ _ start (then_last _ _ _ _ _ _ operational loss))
