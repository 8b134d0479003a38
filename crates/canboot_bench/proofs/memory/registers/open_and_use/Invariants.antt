use Rattle.cm_growing.specs.Unnamed.{log_of}
use Rattle.canboot_bench.proofs.memory.registers.open_and_use.Given as goal

abbrev pub ghosts-use_register-K-Ledger : goal.ghosts-use_register-K-Ledger
ghosts-use_register-K-Ledger g a = record { name = a.opened.blank.name; parts = a.opened.seats }

abbrev pub ghosts-use_register-K-HistoryName : goal.ghosts-use_register-K-HistoryName
ghosts-use_register-K-HistoryName g a = record { net = a.opened.net.now; log = log_of a.opened.log }

abbrev pub ghosts-use_register-K-RunName : goal.ghosts-use_register-K-RunName
ghosts-use_register-K-RunName g a = record { seats = a.opened.seats; limit = a.opened.limit }
