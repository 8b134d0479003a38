use Rattle.cm_growing.specs.Unnamed.{log_of}
use Rattle.register_tests.proofs.threads.seats_call_in_threads.Given as goal

abbrev pub ghosts-reads-K-Ledger : goal.ghosts-reads-K-Ledger
ghosts-reads-K-Ledger g a = record { name = a.opened.blank.name; parts = a.opened.seats }

abbrev pub ghosts-reads-K-HistoryName : goal.ghosts-reads-K-HistoryName
ghosts-reads-K-HistoryName g a = record { net = a.opened.net.now; log = log_of a.opened.log }

abbrev pub ghosts-reads-K-RunName : goal.ghosts-reads-K-RunName
ghosts-reads-K-RunName g a = record { seats = a.opened.seats; limit = a.opened.limit }
