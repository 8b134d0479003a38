use Rattle.cm_growing.specs.Unnamed.{log_of}
use Rattle.register_tests.proofs.reading.a_seat_reads_while_workers_boot.Given as goal

abbrev pub ghosts-reads_beside_a_boot-K-Ledger : goal.ghosts-reads_beside_a_boot-K-Ledger
ghosts-reads_beside_a_boot-K-Ledger g a = record { name = a.opened.blank.name; parts = a.opened.seats }

abbrev pub ghosts-reads_beside_a_boot-K-HistoryName : goal.ghosts-reads_beside_a_boot-K-HistoryName
ghosts-reads_beside_a_boot-K-HistoryName g a = record { net = a.opened.net.now; log = log_of a.opened.log }

abbrev pub ghosts-reads_beside_a_boot-K-RunName : goal.ghosts-reads_beside_a_boot-K-RunName
ghosts-reads_beside_a_boot-K-RunName g a = record { seats = a.opened.seats; limit = a.opened.limit }
