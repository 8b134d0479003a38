-- When it is told that nothing that was read is a frame (own): behind 16 lines, of which none is one.
use Rattle.std.specs.Prelude.{◌==◌, ◌-◌, ◌&&◌, ◌||◌, ℕ, Bool, not, if◌then◌else◌, List, length}
use Rattle.std.specs.List.{list_any}
use Rattle.cm_receiving.specs.declared.strangers.Strangers.{Strangers}

-- whether the byte ends a line: a line feed does, and a carriage return
abbrev pub ends_line : ℕ → Bool
ends_line byte = (byte == 10) || (byte == 13)

-- whether the byte ends a line that has bytes: an empty line is none
abbrev pub is_whole : Strangers → ℕ → Bool
is_whole s byte = s.is_begun && ends_line byte

-- whether one of these lines is a frame, of each of which it is known
abbrev pub has_frame : List Bool → Bool
has_frame are_frames = list_any (λ is_frame. is_frame) are_frames

-- how many lines are left until it is told, when these were read: never is it told behind a frame
abbrev pub left_of : List Bool → ℕ
left_of are_frames = if has_frame are_frames then 0 else 16 - length are_frames

-- whether it is told when just these lines were read: they are 16, and none is a frame
abbrev pub is_told_behind : List Bool → Bool
is_told_behind are_frames = not (has_frame are_frames) && (length are_frames == 16)

-- how many are left behind one line more, which is a frame or none
abbrev pub left_behind : ℕ → Bool → ℕ
left_behind left is_frame = if is_frame then 0 else left - 1

-- whether it is told behind that line
abbrev pub is_told : ℕ → Bool → Bool
is_told left is_frame = not is_frame && (left == 1)

-- how the counter is behind the next byte, where that is known to end the line of a frame or not
abbrev pub behind_byte : Strangers → ℕ → Bool → Strangers
behind_byte s byte is_frame = record {
  left = if is_whole s byte then left_behind s.left is_frame else s.left;
  is_begun = not (ends_line byte);
}

-- whether it is told behind the next byte
abbrev pub tells : Strangers → ℕ → Bool → Bool
tells s byte is_frame = is_whole s byte && is_told s.left is_frame
