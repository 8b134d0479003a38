-- Which frame asks a question of a boot, and which frame answers it (CiA 301; CiA 302-2, boot slave).
use Rattle.std.specs.Prelude.{◌≡◌, ◌==◌, ◌+◌, ℕ, Option, Some, None, if◌then◌else◌, option_map}
use Rattle.cm_nmt.specs.declared.signal.Signal.{Signal}
use Rattle.cm_nmt.specs.declared.signal.Signal.TheVariants as signal
use Rattle.cm_nmt.specs.Codes.{signal_of}
use Rattle.cm_boot.specs.declared.question.Question.{Question}
use Rattle.cm_boot.specs.declared.question.Question.TheVariants.{Read, Write, StateByBeat, StateByGuard, Beat}
use Rattle.cm_boot.specs.declared.question.Answer.{Answer}
use Rattle.cm_boot.specs.declared.question.Answer.TheVariants as answer
use Rattle.cm_can.specs.declared.frame.CanFrame.{CanFrame}
use Rattle.cm_can.specs.Control.{IsErrorControl}
use Rattle.cm_can.specs.Frames.{IsRemote}
use Rattle.cm_can.specs.Sdo.{IsFromClient, IsFromServer, download_command, uploaded}

-- the frame asks the node this question: an upload, a download, a guard request; nothing is sent for a heartbeat, which comes by
-- itself
abbrev pub IsRequest : ℕ → Question → CanFrame → Type 0
IsRequest node (Read index sub) f = IsFromClient node 0x40 index sub 0 f
IsRequest node (Write w) f = IsFromClient node (download_command w.size) w.index w.sub w.value f
IsRequest node StateByGuard f = IsRemote f (0x0700 + node)
IsRequest node StateByBeat f = ⊥
IsRequest node Beat f = ⊥

-- nothing is sent for this question
abbrev pub IsAwaited : Question → Type 0
IsAwaited (Read index sub) = ⊥
IsAwaited (Write w) = ⊥
IsAwaited StateByGuard = ⊥
IsAwaited StateByBeat = Unit {0}
IsAwaited Beat = Unit {0}

-- what a server's frame says of an upload, by its command and data: an abort (80h) with its code; the beginning of a segmented
-- transfer (41h), which counts as an abort, 0504 0001h (own); a value
abbrev pub upload_answer : ℕ → ℕ → Option Answer
upload_answer command word =
    if command == 0x80 then Some (answer.Abort word)
    else if command == 0x41 then Some (answer.Abort 0x05040001)
    else option_map (λ v. answer.Value v) (uploaded command word)

-- what it says of a download: an abort (80h), or an acknowledgement (60h)
abbrev pub download_answer : ℕ → ℕ → Option Answer
download_answer command word =
    if command == 0x80 then Some (answer.Abort word)
    else if command == 0x60 then Some answer.Acked
    else None

-- the answer that tells a signal: its state; boot-up tells none (CiA 301)
abbrev pub answer_of_signal : Option Signal → Option Answer
answer_of_signal None = None
answer_of_signal (Some signal.BootUp) = None
answer_of_signal (Some (signal.State s)) = Some (answer.State s)

-- what an error control message with this byte tells, bit 7 masked (own)
abbrev pub state_answer : ℕ → Option Answer
state_answer byte = answer_of_signal (signal_of byte)

-- the frame answers the question, with this answer
abbrev pub IsAnswer : ℕ → Question → CanFrame → Answer → Type 0
IsAnswer node (Read index sub) f a =
    (command : ℕ) × (word : ℕ) × IsFromServer node command index sub word f × (upload_answer command word ≡ Some a)
IsAnswer node (Write w) f a =
    (command : ℕ) × (word : ℕ) × IsFromServer node command w.index w.sub word f × (download_answer command word ≡ Some a)
IsAnswer node _ f a = (byte : ℕ) × IsErrorControl node byte f × (state_answer byte ≡ Some a)
