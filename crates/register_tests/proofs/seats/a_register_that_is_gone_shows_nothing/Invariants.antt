use Rattle.cm_growing.specs.Unnamed.{log_of}
use Rattle.register_tests.proofs.seats.a_register_that_is_gone_shows_nothing.Given as goal

abbrev pub ghosts-reads_no_version-K-Ledger : goal.ghosts-reads_no_version-K-Ledger
ghosts-reads_no_version-K-Ledger g a = record { name = a.opened.blank.name; parts = a.opened.seats }

abbrev pub ghosts-reads_no_version-K-HistoryName : goal.ghosts-reads_no_version-K-HistoryName
ghosts-reads_no_version-K-HistoryName g a = record { net = a.opened.net.now; log = log_of a.opened.log }

abbrev pub ghosts-reads_no_version-K-RunName : goal.ghosts-reads_no_version-K-RunName
ghosts-reads_no_version-K-RunName g a = record { seats = a.opened.seats; limit = a.opened.limit }
