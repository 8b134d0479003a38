use Rattle.cm_growing.specs.Unnamed.{log_of}
use Rattle.register_tests.proofs.closing.a_call_returns_what_is_recorded.Given as goal

abbrev pub ghosts-calls_in_turn-K-Ledger : goal.ghosts-calls_in_turn-K-Ledger
ghosts-calls_in_turn-K-Ledger g a = record { name = a.opened.blank.name; parts = a.opened.seats }

abbrev pub ghosts-calls_in_turn-K-HistoryName : goal.ghosts-calls_in_turn-K-HistoryName
ghosts-calls_in_turn-K-HistoryName g a = record { net = a.opened.net.now; log = log_of a.opened.log }

abbrev pub ghosts-calls_in_turn-K-RunName : goal.ghosts-calls_in_turn-K-RunName
ghosts-calls_in_turn-K-RunName g a = record { seats = a.opened.seats; limit = a.opened.limit }
