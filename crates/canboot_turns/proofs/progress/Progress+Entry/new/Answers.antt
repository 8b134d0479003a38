use Rattle.std.proofs.Common.{[]}
use Rattle.canboot_turns.proofs.progress.Progress+Entry.new.Goals as goal

pub returns : goal.returns
returns c = λ net. record { watches = c.new.ensures net; tries = c.new-3.ensures; arrived = []; said = []; tells = c.new-2.ensures.tells }
