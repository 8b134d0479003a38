use Rattle.cm_growing.specs.Unnamed.{log_of}
use Rattle.register_tests.proofs.seats.each_of_64_seats_reads.Given as goal

abbrev pub ghosts-each_reads-K-Ledger : goal.ghosts-each_reads-K-Ledger
ghosts-each_reads-K-Ledger g a = record { name = a.opened.blank.name; parts = a.opened.seats }

abbrev pub ghosts-each_reads-K-HistoryName : goal.ghosts-each_reads-K-HistoryName
ghosts-each_reads-K-HistoryName g a = record { net = a.opened.net.now; log = log_of a.opened.log }

abbrev pub ghosts-each_reads-K-RunName : goal.ghosts-each_reads-K-RunName
ghosts-each_reads-K-RunName g a = record { seats = a.opened.seats; limit = a.opened.limit }
