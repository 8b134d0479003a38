-- How long a live bus waits for an answer, and behind what (CiA 302-2, boot slave; own).
use Rattle.std.specs.Prelude.{◌==◌, ◌-◌, ℕ, Option, Some, None, if◌then◌else◌, max}
use Rattle.cm_netlist.specs.Network.{Network, entry}
use Rattle.cm_netlist.specs.declared.entry.SlaveEntry.{SlaveEntry}
use Rattle.cm_boot.specs.declared.question.Question.{Question}
use Rattle.cm_boot.specs.declared.question.Question.TheVariants.{StateByBeat, Beat}

-- for a heartbeat of a node with this entry, if it is listed, in ms: so long as its time in the network list says, where it has
-- one (CiA 302-2, boot slave); else so long as for any answer
abbrev pub beat_ms : ℕ → Option SlaveEntry → ℕ
beat_ms answer_ms None = answer_ms
beat_ms answer_ms (Some e) = if e.heartbeat_ms == 0 then answer_ms else e.heartbeat_ms

-- for the answer to a question to the node, in ms
abbrev pub wait_ms : Network → ℕ → ℕ → Question → ℕ
wait_ms net answer_ms i StateByBeat = beat_ms answer_ms (entry net i)
wait_ms net answer_ms i Beat = beat_ms answer_ms (entry net i)
wait_ms net answer_ms i _ = answer_ms

-- the place behind which frames are heard: that of the frame that was heard last, and that of the last byte that was read before
-- the question was asked, so that a late answer to an earlier question is none to this one (own)
abbrev pub behind : ℕ → ℕ → ℕ
behind last read = max last (read - 1)
