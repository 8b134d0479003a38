use Rattle.cm_growing.specs.Unnamed.{log_of}
use Rattle.canboot_run.proofs.simulation.simulate.Given as goal

abbrev pub ghosts-run_named-K-Ledger : goal.ghosts-run_named-K-Ledger
ghosts-run_named-K-Ledger g a = record { name = a.opened.blank.name; parts = a.opened.seats }

abbrev pub ghosts-run_named-K-RunName : goal.ghosts-run_named-K-RunName
ghosts-run_named-K-RunName g a = record { seats = a.opened.seats; limit = a.opened.limit }

abbrev pub ghosts-run_named-K-HistoryName : goal.ghosts-run_named-K-HistoryName
ghosts-run_named-K-HistoryName g a = record { net = a.opened.net.now; log = log_of a.opened.log }
