use Rattle.cm_growing.specs.Unnamed.{log_of}
use Rattle.canboot_bench.proofs.bench.beside.run_one.Given as goal

abbrev pub ghosts-run_round-K-Ledger : goal.ghosts-run_round-K-Ledger
ghosts-run_round-K-Ledger g a = record { name = a.opened.blank.name; parts = a.opened.seats }

abbrev pub ghosts-run_round-K-HistoryName : goal.ghosts-run_round-K-HistoryName
ghosts-run_round-K-HistoryName g a = record { net = a.opened.net.now; log = log_of a.opened.log }

abbrev pub ghosts-run_round-K-RunName : goal.ghosts-run_round-K-RunName
ghosts-run_round-K-RunName g a = record { seats = a.opened.seats; limit = a.opened.limit }
