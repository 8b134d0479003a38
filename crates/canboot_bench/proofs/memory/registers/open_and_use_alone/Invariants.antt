use Rattle.cm_growing.specs.Unnamed.{log_of}
use Rattle.canboot_bench.proofs.memory.registers.open_and_use_alone.Given as goal

abbrev pub ghosts-use_book-K-Ledger : goal.ghosts-use_book-K-Ledger
ghosts-use_book-K-Ledger g a = record { name = a.opened.blank.name; parts = a.opened.seats }

abbrev pub ghosts-use_book-K-HistoryName : goal.ghosts-use_book-K-HistoryName
ghosts-use_book-K-HistoryName g a = record { net = a.opened.net.now; log = log_of a.opened.log }

abbrev pub ghosts-use_book-K-RunName : goal.ghosts-use_book-K-RunName
ghosts-use_book-K-RunName g a = record { seats = a.opened.seats; limit = a.opened.limit }
