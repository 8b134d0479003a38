use Rattle.std.proofs.Common.{subst}
use Rattle.std.specs.Prelude.{Bool}
use Rattle.std.specs.Io.KnownBytes.{Appends}
use Rattle.cm_text.proofs.Writes.{then_last}
use Rattle.cm_words.specs.ToldLines.{line_if}
use Rattle.cm_words.specs.Words.{entry_told}
use Rattle.cm_words.proofs.telling.tell_entry.Goals as goal

pub returns : goal.returns
returns g c =
    let w = c.args.words.now in
    let contents = g.E.Write.contents in
    let told = entry_told w.network.now w.entry.now w.is_handed w.is_halted w.place w.unbooted in
    let first =
    subst (λ (b : Bool). Appends (contents c.args.err.now) (contents c.say_if.new.err) (line_if b told)) c.has_words.ensures
    c.in_ok-say_if.ensures in
    then_last _ _ _ _ _ _ first c.say_if-2.ensures
