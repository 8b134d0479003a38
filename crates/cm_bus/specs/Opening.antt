-- In what lines the frames of a bus come and go, and what opens and closes its channel.
use Rattle.std.specs.Prelude.{◌++◌, ℕ, List, [], ◌∷◌, codes}
use Rattle.cm_bus.specs.declared.bus_paths.BusPaths.{BusPaths}
use Rattle.cm_bus.specs.declared.bus_paths.BusPaths.TheVariants as bus
use Rattle.cm_can.specs.declared.format.Format.{Format}
use Rattle.cm_can.specs.declared.format.Format.TheVariants as format

-- lines of can-utils, or of a serial adapter (own)
abbrev pub format_of : BusPaths → Format
format_of (bus.CanUtils receive send) = format.CanUtils
format_of (bus.Adapter device) = format.Adapter

-- what opens the channel of a serial adapter: O and a carriage return (SLCAN); nothing else has a channel
abbrev pub channel_opening : Format → List ℕ
channel_opening format.CanUtils = []
channel_opening format.Adapter = codes "O" ++ 13 ∷ []

-- what closes it: C and a carriage return (SLCAN)
abbrev pub channel_closing : Format → List ℕ
channel_closing format.CanUtils = []
channel_closing format.Adapter = codes "C" ++ 13 ∷ []
