use Rattle.cm_growing.specs.Unnamed.{log_of}
use Rattle.register_tests.proofs.first_use.a_register_is_opened_and_named.Given as goal

abbrev pub ghosts-start-K-Ledger : goal.ghosts-start-K-Ledger
ghosts-start-K-Ledger g a = record { name = a.opened.blank.name; parts = a.opened.seats }

abbrev pub ghosts-start-K-HistoryName : goal.ghosts-start-K-HistoryName
ghosts-start-K-HistoryName g a = record { net = a.opened.net.now; log = log_of a.opened.log }

abbrev pub ghosts-start-K-RunName : goal.ghosts-start-K-RunName
ghosts-start-K-RunName g a = record { seats = a.opened.seats; limit = a.opened.limit }
