use Rattle.std.proofs.Common.{ℕ, ◌∙◌, subst}
use Rattle.std.specs.Prelude.{OnOk}
use Rattle.std.specs.Io.KnownBytes.{Appends}
use Rattle.cm_text.proofs.Writes.{then_last}
use Rattle.canboot_lists.specs.Explained.{bits_text, first_text, time_text}
use Rattle.canboot_lists.proofs.explaining.put_manager.Goals as goal

pub returns : goal.returns
returns g c =
    let a = g.W.Write.contents c.args.out.now in
    let b = g.W.Write.contents c.put_first.new.out in
    let d = g.W.Write.contents c.put_bits.new.out in
    let e = g.W.Write.contents c.put_time.new.out in
    let net = c.args.network.now in
    let own = subst (λ (i : ℕ). Appends a b (first_text i c.startup.result.0)) (c.get.ensures.value ∙ c.own_id.ensures.value) c.in_ok-put_first.ensures in
    let first = subst (λ (n : ℕ). Appends a b (first_text net.own n)) c.startup.ensures own in
    let bits = subst (λ (n : ℕ). Appends b d (bits_text n)) c.startup-2.ensures c.in_ok-put_bits.ensures in
    let time = subst (λ (n : ℕ). OnOk c.put_time.result (Appends d e (time_text n))) c.boot_time.ensures c.put_time.ensures in
    then_last c.put_time.result a b e (first_text net.own net.startup) _ first (then_last c.put_time.result b d e (bits_text net.startup) _ bits time)
