-- What goes over a live bus while a question of a boot is asked (own, over CiA 301).
use Rattle.std.specs.Prelude.{◌≡◌, ◌<◌, ◌≤◌, ◌+◌, ◌⊎◌, ℕ, List, [], ◌∷◌, ◌++◌, All, Option, Some, None, length, map}
use Rattle.cm_boot.specs.declared.question.Question.{Question}
use Rattle.cm_boot.specs.declared.question.Question.TheVariants.{Read, Write}
use Rattle.cm_boot.specs.declared.question.Answer.{Answer}
use Rattle.cm_boot.specs.declared.question.Answer.TheVariants as answer
use Rattle.cm_can.specs.declared.frame.CanFrame.{CanFrame}
use Rattle.cm_can.specs.Questions.{IsAnswer, IsAwaited, IsRequest}
use Rattle.cm_can.specs.Sdo.{IsFromClient, IsFromServer}
use Rattle.cm_bus.specs.declared.event.PortEvent.{PortEvent}
use Rattle.cm_bus.specs.declared.event.PortEvent.TheVariants.{Sent, Heard, Expired}
use Rattle.cm_bus.specs.declared.bus.Reply.{Reply}

-- these frames were heard, one after another
abbrev pub heard : List CanFrame → List PortEvent
heard fs = map (λ (f : CanFrame). Heard f) fs

-- the question is asked: its request is sent; for a heartbeat, which comes by itself, nothing is
abbrev pub IsAsking : ℕ → Question → List PortEvent → Type 0
IsAsking node q events = (IsAwaited q × (events ≡ [])) ⊎ ((f : CanFrame) × IsRequest node q f × (events ≡ Sent f ∷ []))

-- none of these frames answers the question
abbrev pub NoneAnswers : ℕ → Question → List CanFrame → Type 0
NoneAnswers node q fs = All (λ (f : CanFrame). (a : Answer) → IsAnswer node q f a → ⊥) fs

-- the waiting ends: with a frame that answers the question, with this answer; or without one, where the time is over, and the
-- answer is silence
abbrev pub IsEnding : ℕ → Question → Answer → Option CanFrame → Type 0
IsEnding node q x (Some f) = IsAnswer node q f x
IsEnding node q x None = x ≡ answer.Silent

-- how that stands in the log
abbrev pub ending_of : Option CanFrame → List PortEvent
ending_of (Some f) = Heard f ∷ []
ending_of None = Expired ∷ []

-- behind that the client aborts an SDO transfer with this code: a read or a write whose time is over, with 0504 0000h (CiA 301,
-- SDO protocol timed out); a read whose answer begins a segmented upload (41h), with 0504 0001h (own). It aborts no other
abbrev pub IsAbortCode : ℕ → Question → Option CanFrame → ℕ → Type 0
IsAbortCode node (Read index sub) None code = code ≡ 0x05040000
IsAbortCode node (Write w) None code = code ≡ 0x05040000
IsAbortCode node (Read index sub) (Some f) code = (word : ℕ) × IsFromServer node 0x41 index sub word f × (code ≡ 0x05040001)
IsAbortCode node _ _ code = ⊥

-- the client's abort of the SDO transfer of a question, with its code
abbrev pub IsAbortOf : ℕ → Question → ℕ → CanFrame → Type 0
IsAbortOf node (Read index sub) code f = IsFromClient node 0x80 index sub code f
IsAbortOf node (Write w) code f = IsFromClient node 0x80 w.index w.sub code f
IsAbortOf node _ code f = ⊥

-- the frame is the abort that is sent where the waiting ended so
abbrev pub IsAbort : ℕ → Question → Option CanFrame → CanFrame → Type 0
IsAbort node q last f = (code : ℕ) × IsAbortCode node q last code × IsAbortOf node q code f

-- behind how the waiting ended the abort is sent where the transfer is aborted, and nothing where it isn't
abbrev pub IsClosing : ℕ → Question → Option CanFrame → List PortEvent → Type 0
IsClosing node q last events =
    (((code : ℕ) → IsAbortCode node q last code → ⊥) × (events ≡ [])) ⊎ ((f : CanFrame) × IsAbort node q last f × (events ≡ Sent f ∷ []))

-- what goes over the bus for one question to the node, which gets this answer: the request, then up to 64 frames that don't
-- answer it, then the one that does, or the end of the time, and the abort of the transfer, where it is aborted
pub record IsTalk (node : ℕ) (q : Question) (x : Answer) (talk : List PortEvent) : Type 0 where
  pub asking : List PortEvent
  pub others : List CanFrame
  pub last : Option CanFrame
  pub closing : List PortEvent
  pub asks : IsAsking node q asking
  pub passed : NoneAnswers node q others
  pub few : length others ≤ 64
  pub ends : IsEnding node q x last
  pub closes : IsClosing node q last closing
  pub whole : talk ≡ asking ++ (heard others ++ (ending_of last ++ closing))

-- the log grew by such events
pub record HasPut (P : List PortEvent → Type 0) (old new : List PortEvent) : Type 0 where
  pub events : List PortEvent
  pub is : P events
  pub grown : new ≡ old ++ events

-- the question was asked: the log grew by its talk, or, where it had no room for that, is this talk alone
pub record IsAsked (node : ℕ) (q : Question) (x : Answer) (old new : List PortEvent) : Type 0 where
  pub talk : List PortEvent
  pub is : IsTalk node q x talk
  pub grown : length old + 67 ≤ 27470 → new ≡ old ++ talk
  pub anew : 27470 < length old + 67 → new ≡ talk

-- what the waiting for an answer came to
abbrev pub answer_in : Option Reply → Answer
answer_in None = answer.Silent
answer_in (Some r) = r.answer

-- the frame that it ended with, if one answered
abbrev pub frame_in : Option Reply → Option CanFrame
frame_in None = None
frame_in (Some r) = Some r.frame

-- the log grew by what was heard while an answer was waited for (a step of the code)
pub record HasWaited (node : ℕ) (q : Question) (r : Option Reply) (old new : List PortEvent) : Type 0 where
  pub others : List CanFrame
  pub passed : NoneAnswers node q others
  pub few : length others ≤ 64
  pub ends : IsEnding node q (answer_in r) (frame_in r)
  pub grown : new ≡ old ++ (heard others ++ ending_of (frame_in r))
