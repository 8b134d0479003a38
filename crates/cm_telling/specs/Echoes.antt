-- Which NMT messages that are heard are ours, come back (own): each that we sent comes back at most once.
use Rattle.std.specs.Prelude.{ℕ, ◌+◌, ◌-◌, ◌*◌, ◌==◌, List, [], ◌∷◌, Bool, not, if◌then◌else◌, min, slice_index_or}
use Rattle.cm_nmt.specs.Frames.{target_byte}
use Rattle.cm_nmt.specs.declared.command.Command.{Command}
use Rattle.cm_nmt.specs.declared.command.Command.TheVariants.{Start, Stop, EnterPre, ResetNode, ResetComm}
use Rattle.cm_nmt.specs.declared.frame.Frame.{Frame}
use Rattle.cm_telling.specs.declared.sent.Sent.{Sent}

-- the commands in a row
abbrev pub row_of : Command → ℕ
row_of Start = 0
row_of Stop = 1
row_of EnterPre = 2
row_of ResetNode = 3
row_of ResetComm = 4

-- the place of a message: two have one place where they are the same
abbrev pub place_of : Frame → ℕ
place_of m = row_of m.command * 128 + target_byte m.target

-- how often the message of this place was sent and hasn't come back
abbrev pub count_at : Sent → ℕ → ℕ
count_at s k = slice_index_or s.counts k 0

-- the message that is heard is one of ours
abbrev pub is_ours : Sent → Frame → Bool
is_ours s m = not (count_at s (place_of m) == 0)

-- one more is out where it is sent, at most 2^32 - 1
abbrev pub behind_sent : Frame → ℕ → ℕ → ℕ
behind_sent m k n = if place_of m == k then min (n + 1) 0xFFFFFFFF else n

-- one fewer where it is heard
abbrev pub behind_heard : Frame → ℕ → ℕ → ℕ
behind_heard m k n = if place_of m == k then n - 1 else n

-- behind all of these
abbrev pub behind_sent_all : List Frame → ℕ → ℕ → ℕ
behind_sent_all [] k n = n
behind_sent_all (m ∷ ms) k n = behind_sent_all ms k (behind_sent m k n)
