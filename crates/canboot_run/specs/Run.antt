-- What the run of a network list with simulated slaves does.
use Rattle.std.specs.Prelude.{◌≡◌, ◌⊎◌, ℕ, List, Option}
use Rattle.std.specs.Io.KnownBytes.{Appends}
use Rattle.cm_history.specs.declared.call.Entry.{Entry}
use Rattle.cm_netlist.specs.Network.{Network}
use Rattle.cm_format.specs.Text.{JournalView, text}
use Rattle.cm_format.specs.Runs.{IsRun, IsRunOn}
pub use Rattle.cm_text.specs.Fronts.{AppendsIfThere}
use Rattle.cm_netlist.specs.ListsRead.{IsList}
use Rattle.canboot_run.specs.Simulated.{IsSimulated}
use Rattle.canboot_run.specs.SlaveFaults.{AreListed, IsFirstUnlisted}
use Rattle.canboot_run.specs.declared.slave_faults.SlaveFaults.{SlaveFaults}

-- the input was read to its end and is a network list, in which each slave that is to die, to be wrong or to abort is listed; of the
-- legal history of a journal of it, which is that of a run with simulated slaves, just the report was written, in the form that has
-- this text, and to the journal's output, if there is one, just the text of that journal
pub record Runs (report : Network → List Entry → List ℕ) (workers attempts : ℕ) (faults : SlaveFaults) (limit : ℕ) (input input' output output' : Option (List ℕ))
    (journal journal' : Option (Option (List ℕ))) : Type 0 where
  pub of : JournalView
  pub run : IsRun workers limit input input' of
  pub listed : AreListed of.network faults
  pub simulated : IsSimulated of.network workers attempts faults of.entries
  pub reported : Appends output output' (report of.network of.entries)
  pub recorded : AppendsIfThere journal journal' (text of)

-- the input was read to its end and is a network list in which a slave that is to die, to be wrong or to abort isn't listed;
-- nothing was written
pub record NamesUnlisted (faults : SlaveFaults) (input input' output output' : Option (List ℕ))
    (journal journal' : Option (Option (List ℕ))) : Type 0 where
  pub network : Network
  pub list : IsList input input' network
  pub node : ℕ
  pub first : IsFirstUnlisted network faults node
  pub kept : output' ≡ output
  pub unwritten : journal' ≡ journal

-- nothing was written
abbrev pub IsUnwritten : Option (List ℕ) → Option (List ℕ) → Option (Option (List ℕ)) → Option (Option (List ℕ)) → Type 0
IsUnwritten output output' journal journal' = (output' ≡ output) × (journal' ≡ journal)

-- nothing was written, or the report of such a history was to be written
abbrev pub FailsToRun : ℕ → ℕ → SlaveFaults → ℕ → Option (List ℕ) → Option (List ℕ) → Option (List ℕ) → Option (List ℕ)
    → Option (Option (List ℕ)) → Option (Option (List ℕ)) → Type 0
FailsToRun workers attempts faults limit input input' output output' journal journal' =
    IsUnwritten output output' journal journal'
    ⊎ ((j : JournalView) × IsRun workers limit input input' j × AreListed j.network faults
    × IsSimulated j.network workers attempts faults j.entries)

-- Working definitions, behind the contract of `run_text`.

-- of the history of such a journal, which is that of a run with simulated slaves, just the report was written, in the form that has
-- this text, and to the journal's output, if there is one, just the text of that journal
pub record RunsOn (report : Network → List Entry → List ℕ) (net : Network) (workers attempts : ℕ) (faults : SlaveFaults) (limit : ℕ) (output output' : Option (List ℕ))
    (journal journal' : Option (Option (List ℕ))) : Type 0 where
  pub of : JournalView
  pub run : IsRunOn net workers limit of
  pub simulated : IsSimulated of.network workers attempts faults of.entries
  pub reported : Appends output output' (report of.network of.entries)
  pub recorded : AppendsIfThere journal journal' (text of)

-- the report of such a history was to be written
abbrev pub WasRun : Network → ℕ → ℕ → SlaveFaults → ℕ → Type 0
WasRun net workers attempts faults limit =
    (j : JournalView) × IsRunOn net workers limit j × IsSimulated j.network workers attempts faults j.entries
