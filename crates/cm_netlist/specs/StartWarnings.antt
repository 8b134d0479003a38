-- What slaves of a network list are warned of, in words, and what is told before its network is booted (own).
use Rattle.std.specs.Prelude.{ℕ, Bool, true, false, List, [], ◌∷◌, ◌++◌, codes, decimal, flat_map}
use Rattle.std.specs.Option.{option_map_or}
use Rattle.cm_netlist.specs.Network.{Network, entry, listed_ids}
use Rattle.cm_netlist.specs.declared.entry.SlaveEntry.{SlaveEntry}
use Rattle.cm_netlist.specs.Warnings.{is_started_anyway, is_warned}
use Rattle.cm_netlist.specs.declared.warning.SlaveWarning.{SlaveWarning}
use Rattle.cm_netlist.specs.declared.warning.SlaveWarning.TheVariants as slave

-- a text on a line of its own
abbrev pub ended : List ℕ → List ℕ
ended text = text ++ 10 ∷ []

-- the text, where this holds
abbrev pub given : Bool → List ℕ → List ℕ
given true text = text
given false text = []

-- what a slave is warned of
abbrev pub warning_words : SlaveWarning → List ℕ
warning_words slave.Unchecked = codes "bit 2 of its assignment is clear: any device is taken for it, as nothing is compared or written"
warning_words slave.Unwatched = codes "no heartbeat time, and no guard time with a retry factor: nobody notices that it is gone"
warning_words slave.Silent = codes "no write of 1017h sets a time shorter than its heartbeat time, and most devices send none by themselves"
warning_words slave.UnusedBits = codes "its assignment has bit 1, 6 or 7, which mean nothing"

-- a warning of a slave, in these words
abbrev pub warning_text : ℕ → List ℕ → List ℕ
warning_text i words = codes "warning: slave " ++ (decimal i ++ (codes ": " ++ ended words))

-- the line of a warning behind these words, where the slave is warned of for this
abbrev pub told_warning : List ℕ → ℕ → SlaveEntry → SlaveWarning → List ℕ
told_warning front i e w = given (is_warned e w) (front ++ warning_text i (warning_words w))

-- the same, where a start of all nodes reaches the slave though its boot failed
abbrev pub started_warning : List ℕ → ℕ → ℕ → SlaveEntry → List ℕ
started_warning front startup i e =
    given (is_started_anyway startup e)
    (front ++ warning_text i (codes "all nodes are started at once, and it isn't mandatory: it is started too where its boot fails"))

-- what is told of a slave: that any device is taken for it, that nobody watches it, that no write makes it send its heartbeat in time,
-- that it is started though its boot failed
abbrev pub told_warnings : List ℕ → ℕ → ℕ → SlaveEntry → List ℕ
told_warnings front startup i e =
    told_warning front i e slave.Unchecked
    ++ (told_warning front i e slave.Unwatched ++ (told_warning front i e slave.Silent ++ started_warning front startup i e))

-- what is told of a node that is listed
abbrev pub told_warnings_of : List ℕ → Network → ℕ → List ℕ
told_warnings_of front net i = option_map_or (told_warnings front net.startup i) (entry net i) []

-- what is told of each slave, in rising node-ID
abbrev pub start_warnings : List ℕ → Network → List ℕ
start_warnings front net = flat_map (told_warnings_of front net) (listed_ids net)
