-- Working definitions: when what a teller keeps is what a history says, and what it says of an entry is what the history has (own).
use Rattle.std.specs.Prelude.{◌≡◌, ◌+◌, true, List, ◌∷◌, length, option_map}
use Rattle.cm_history.specs.Phases.{is_halted}
use Rattle.cm_history.specs.declared.call.Entry.{Entry}
use Rattle.cm_netlist.specs.Network.{Network}
use Rattle.cm_sequential.specs.Standing.{Stands}
use Rattle.cm_watch.specs.Course.{phase_in}
use Rattle.cm_watch.specs.Telling.{told_of}
use Rattle.cm_telling.specs.Tried.{Tries, unbooted_by}
use Rattle.cm_watch.specs.Watches.{Watches}
use Rattle.cm_watched.specs.declared.happening.Happening.TheVariants.{Called}
use Rattle.canboot_tell.specs.ToldHistory.{no_settings, past_of, running_if}
use Rattle.cm_words.specs.ToldLines.{started_too}
use Rattle.canboot_tell.specs.declared.history.Said.{Said}
use Rattle.canboot_tell.specs.declared.history.HistoryTeller.{HistoryTeller}

-- the teller keeps what these entries say
pub record Knows (t : HistoryTeller) (net : Network) (before : List Entry) : Type 0 where
  pub network : t.network.now ≡ net
  pub stands : Stands t.manager net before
  pub watches : Watches t.watch net no_settings (past_of before)
  pub tries : Tries t.tried (past_of before)
  pub count : t.count ≡ length before

-- what is said of an entry is what it says behind these
pub record SaysBehind (s : Said) (before : List Entry) : Type 0 where
  pub handed : s.words.is_handed ≡ true
  pub halted : s.words.is_halted ≡ is_halted (phase_in s.words.network.now (past_of before))
  pub place : s.words.place ≡ length before + 1
  pub unbooted : s.words.unbooted ≡ unbooted_by (past_of before) s.words.entry.now
  pub told : s.told ≡ told_of s.words.network.now no_settings (past_of before) (Called s.words.entry.now)
  pub too : s.too.0.items ≡ started_too true s.words.network.now (past_of (s.words.entry.now ∷ before)) s.words.entry.now.orders
  pub running : option_map (λ n. n.0.items) s.running ≡ running_if s.words.network.now (s.words.entry.now ∷ before) s.told
