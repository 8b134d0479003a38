use Rattle.std.proofs.Common.{List, ℕ, Bool, subst}
use Rattle.std.specs.Prelude.{OnOk}
use Rattle.std.specs.Io.KnownBytes.{Appends}
use Rattle.cm_text.proofs.Writes.{then_last}
use Rattle.cm_words.specs.ToldLines.{line_if}
use Rattle.cm_words.specs.Words.{entry_told}
use Rattle.canboot_tell.proofs.Tellers.{said_words}
use Rattle.canboot_tell.proofs.history.Said.write.Goals as goal

pub returns : goal.returns
returns g c = λ before says.
    let w = c.args.self.now.words in
    let contents = g.W.Write.contents in
    let told = entry_told w.network.now w.entry.now w.is_handed w.is_halted w.place w.unbooted in
    let first =
    subst (λ (b : Bool). Appends (contents c.args.out.now) (contents c.say_if.new.err) (line_if b told)) c.has_words.ensures
    c.in_ok-say_if.ensures in
    subst (λ (text : List ℕ). OnOk c.tell_told.result (Appends (contents c.args.out.now) (contents c.tell_told.new.err) text)) (said_words c.args.self.now before says)
    (then_last _ _ _ _ _ _ first c.tell_told.ensures)
