-- Columns: parts of a history, from left to right (own). Entries are given with the oldest first.
use Rattle.std.specs.Prelude.{◌≡◌, ℕ, ◌+◌, ◌*◌, ◌<◌, ◌≤◌, min, List, length, get_or, reverse, take}
use Rattle.cm_netlist.specs.Network.{Network, listing}
use Rattle.cm_history.specs.History.{shown}
use Rattle.cm_history.specs.declared.call.Entry.{Entry}
use Rattle.cm_sequential.specs.Standing.{Stands}
use Rattle.cm_sequential.specs.declared.manager.Manager.{Manager}

-- how many entries there are up to the end of the column, where so many stand in one; the last one may have fewer
abbrev pub entries_to : ℕ → List Entry → ℕ → ℕ
entries_to width entries column = min ((column + 1) * width) (length entries)

-- the history up to the end of the column, its newest entry first
abbrev pub past_at : ℕ → List Entry → ℕ → List Entry
past_at width entries column = reverse (take (entries_to width entries column) entries)

-- the state that the history shows of the node behind the column's last entry
abbrev pub shown_at : Network → List Entry → ℕ → ℕ → ℕ → ℕ
shown_at net entries width node column = shown (listing net) (past_at width entries column) node

-- just as many columns as so many entries take: `width` entries, at least 1, stand in each column, and in the last one those that are left,
-- so that no entry is left over and no column is empty (own)
pub record AreAsMany (entries width columns : ℕ) : Type 0 where
  pub some : 0 < width
  pub whole : entries ≤ columns * width
  pub filled : columns * width < entries + width

-- a manager for each column, which stands for the history up to its end; the columns are all of the history, and just as many as it takes
pub record AreColumns (net : Network) (entries : List Entry) (width : ℕ) (managers : List Manager) : Type 0 where
  pub stands : (column : ℕ) (m : Manager) → column < length managers → m ≡ get_or managers column m → Stands m net (past_at width entries column)
  pub divided : AreAsMany (length entries) width (length managers)
  pub few : length managers ≤ length entries
