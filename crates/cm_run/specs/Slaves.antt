-- What a simulated slave answers (own).
use Rattle.std.specs.Prelude.{◌==◌, ◌&&◌, ◌-◌, ℕ, Bool, true, nat_lt, if◌then◌else◌, [], ◌∷◌, Option, option_map}
use Rattle.cm_nmt.specs.declared.terms.Terms.{Terms}
use Rattle.cm_nmt.specs.declared.command.Command.{Command}
use Rattle.cm_nmt.specs.declared.command.Command.TheVariants as command
use Rattle.cm_nmt.specs.declared.frame.Frame.{Frame}
use Rattle.cm_nmt.specs.declared.frame.Target.{Target}
use Rattle.cm_nmt.specs.declared.frame.Target.TheVariants as target
use Rattle.cm_nmt.specs.declared.state.NmtState.{NmtState}
use Rattle.cm_nmt.specs.declared.state.NmtState.TheVariants as state
use Rattle.std.specs.List.{slice_index_or}
use Rattle.cm_nmt.specs.declared.got.Got.{Got}
use Rattle.cm_nmt.specs.declared.got.Got.TheVariants as got
use Rattle.cm_boot.specs.declared.question.Answer.{Answer}
use Rattle.cm_boot.specs.declared.question.Answer.TheVariants as answer
use Rattle.cm_boot.specs.declared.question.Question.{Question}
use Rattle.cm_boot.specs.declared.question.Question.TheVariants as question
use Rattle.cm_run.specs.declared.slave.SimSlave.{SimSlave}

-- what is answered to a read: a value or an abort, else silence
abbrev pub to_read : Got → Answer
to_read (got.Value v) = answer.Value v
to_read (got.Abort code) = answer.Abort code
to_read _ = answer.Silent

-- what is answered to a write that isn't acknowledged: an abort, else silence
abbrev pub to_write : Got → Answer
to_write (got.Abort code) = answer.Abort code
to_write _ = answer.Silent

-- the state, where it is given at all
abbrev pub to_state : Bool → NmtState → Answer
to_state given s = if given then answer.State s else answer.Silent

-- the object that is read: 1000h, 1018h sub 1 to 4, 1020h sub 1 and 2 (CiA 301); any other is silence
abbrev pub object : SimSlave → ℕ → ℕ → Got
object s index sub =
    if index == 0x1000 && sub == 0 then s.device
    else if index == 0x1018 && (nat_lt 0 sub && nat_lt sub 5) then slice_index_or s.ids (sub - 1) got.Silent
    else if index == 0x1020 && sub == 1 then s.date
    else if index == 0x1020 && sub == 2 then s.time
    else got.Silent

-- the answer of a slave that acknowledges so many writes more
abbrev pub answer_to : SimSlave → ℕ → Question → Answer
answer_to s left (question.Read index sub) = to_read (object s index sub)
answer_to s left (question.Write w) = if left == 0 then to_write s.write_fault else answer.Acked
answer_to s left question.StateByBeat = to_state s.beats s.state
answer_to s left question.StateByGuard = to_state s.guards s.state
answer_to s left question.Beat = to_state s.beats s.state

-- how many writes it acknowledges after the question: at a read of 1000h all of its limit again, at a write one less
abbrev pub left_after : SimSlave → ℕ → Question → ℕ
left_after s left (question.Read index sub) = if index == 0x1000 && sub == 0 then s.write_limit else left
left_after s left (question.Write w) = left - 1
left_after s left _ = left

-- the frame reaches the node: it goes to all nodes, or to this one (CiA 301)
abbrev pub reaches : Target → ℕ → Bool
reaches target.All i = true
reaches (target.Node j) i = j == i

-- the state in which a command leaves a device; after both resets it enters pre-operational by itself (CiA 301)
abbrev pub state_after : Command → NmtState
state_after command.Start = state.Operational
state_after command.Stop = state.Stopped
state_after _ = state.PreOperational

-- the state of node i after the frame
abbrev pub state_followed : ℕ → Frame → NmtState → NmtState
state_followed i f s = if reaches f.target i then state_after f.command else s

-- the slave after the frame
abbrev pub followed : ℕ → Frame → SimSlave → SimSlave
followed i f s = record s { state = state_followed i f s.state }

-- a slave that answers each value expected of it, acknowledges 32 writes, beats and is guarded, in pre-operational
abbrev pub agreeing : Terms → SimSlave
agreeing t = record {
  device = got.Value t.device_type;
  ids = got.Value t.vendor ∷ got.Value t.product ∷ got.Value t.revision ∷ got.Value t.serial ∷ [];
  date = got.Value t.date;
  time = got.Value t.time;
  write_limit = 32;
  write_fault = got.Silent;
  beats = true;
  guards = true;
  state = state.PreOperational;
}

-- such a slave for a listed node
abbrev pub agreeing_with : Option Terms → Option SimSlave
agreeing_with terms = option_map agreeing terms
