-- What a teller says of an entry is what the history has.
use Rattle.std.proofs.Common.{◌≡◌, List, ◌++◌, [], Bool}
use Rattle.std.specs.Prelude.{if◌then◌else◌, option_map}
use Rattle.cm_history.specs.declared.call.Entry.{Entry}
use Rattle.cm_netlist.specs.Network.{Network}
use Rattle.canboot_tell.specs.Tellers.{SaysBehind}
use Rattle.canboot_tell.specs.ToldHistory.{words_behind}
use Rattle.cm_words.specs.ToldLines.{line_if, told_lines}
use Rattle.cm_words.specs.Words.{entry_told, is_told}
use Rattle.canboot_tell.specs.declared.history.Said.{Said}

pub said_words : (s : Said) (before : List Entry) → SaysBehind s before
    → line_if (is_told s.words.entry.now.call) (entry_told s.words.network.now s.words.entry.now s.words.is_handed s.words.is_halted s.words.place s.words.unbooted)
    ++ told_lines s.told s.words.entry.now s.too.0.items (option_map (λ n. n.0.items) s.running)
    ≡ words_behind s.words.network.now before s.words.entry.now
said_words s before says =
    let handed = says.handed in
    let halted = says.halted in
    let place = says.place in
    let unbooted = says.unbooted in
    let told = says.told in
    let too = says.too in
    let running = says.running in
    cc

-- the lines of equal entries behind the same ones are equal
pub lines_same : (net net' : Network) (e e' : Entry) (b b' : Bool) (before : List Entry) → net' ≡ net → e' ≡ e → b' ≡ b
    → (if b' then words_behind net' before e' else []) ≡ (if b then words_behind net before e else [])
lines_same net net' e e' b b' before network entry told = cc
