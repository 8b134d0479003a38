-- What is kept of the answers of the nodes' SDO servers, and which answer contradicts the one before: two devices have one node-ID then
-- (own, over CiA 301, SDO protocol).
use Rattle.std.specs.Prelude.{◌==◌, ◌-◌, ◌/◌, ◌&&◌, ◌||◌, ℕ, Bool, List, Option, Some, None, false, not, true, if◌then◌else◌, bytes_eq, option_map, slice_index, slice_index_or, slice_range, slice_set}
use Rattle.cm_can.specs.declared.frame.CanFrame.{CanFrame}
use Rattle.cm_can.specs.declared.frame.Kind.{Kind}
use Rattle.cm_can.specs.declared.frame.Kind.TheVariants.{Data, Remote}
use Rattle.cm_text.specs.Picked.{first_of, within}
use Rattle.cm_receiving.specs.declared.doubling.Said.{Said}
use Rattle.cm_receiving.specs.declared.doubling.Said.TheVariants as said

-- the first byte of an answer of an SDO server: an upload or a download that begins, or an abort, by its command specifier, which is 2, 3 or
-- 4 in the three high bits (CiA 301)
abbrev pub begins_answer : ℕ → Bool
begins_answer command = (command / 32 == 2) || (command / 32 == 3) || (command / 32 == 4)

-- what a frame of an SDO server says: an answer, where it has eight bytes that begin as one
abbrev pub said_back : CanFrame → Said
said_back f = if (f.len == 8) && begins_answer (slice_index f.bytes 0) then said.Answer f.bytes else said.Other

-- whose SDO server a data frame with this identifier comes from, 580h + n, or goes to, 600h + n (CiA 301, pre-defined connection set), and
-- what it says
abbrev pub said_by : Kind → ℕ → Said → Said → Option (ℕ × Said)
said_by Data id back there =
    first_of (option_map (λ n. (n, back)) (within 1 127 (id - 0x0580))) (option_map (λ n. (n, there)) (within 1 127 (id - 0x0600)))
said_by Remote id back there = None

-- whose SDO server a frame comes from, or goes to, and what it says
abbrev pub said_in : CanFrame → Option (ℕ × Said)
said_in f = said_by f.kind f.id.number (said_back f) (said.Request f.bytes)

-- two frames are about the same object: bytes 1 to 3, the index and the sub-index, are the same
abbrev pub is_same_object : List ℕ → List ℕ → Bool
is_same_object one other = bytes_eq (slice_range one 1 4) (slice_range other 1 4)

-- what is kept of a node: the answer that came last, until a request for its object, or another frame of its SDO server
abbrev pub kept_by : Option (List ℕ) → Said → Option (List ℕ)
kept_by last (said.Answer bytes) = Some bytes
kept_by last said.Other = None
kept_by None (said.Request bytes) = None
kept_by (Some last) (said.Request bytes) = if is_same_object last bytes then None else Some last

-- what is kept of all nodes
abbrev pub all_kept : List (Option (List ℕ)) → Option (ℕ × Said) → List (Option (List ℕ))
all_kept kept None = kept
all_kept kept (Some s) = slice_set kept s.0 (kept_by (slice_index_or kept s.0 None) s.1)

-- an answer contradicts the one that is kept: it is about the same object, and one of its bytes differs
abbrev pub contradicts : Option (List ℕ) → List ℕ → Bool
contradicts None answer = false
contradicts (Some last) answer = is_same_object last answer && not (bytes_eq last answer)

-- what is said is such an answer
abbrev pub is_contradiction : Option (List ℕ) → Said → Bool
is_contradiction last (said.Answer bytes) = contradicts last bytes
is_contradiction last _ = false

-- the node that is said to be two devices: whose answer contradicts the one that is kept
abbrev pub doubled : List (Option (List ℕ)) → Option (ℕ × Said) → Option ℕ
doubled kept None = None
doubled kept (Some s) = if is_contradiction (slice_index_or kept s.0 None) s.1 then Some s.0 else None

-- what is said is an answer
abbrev pub is_answer : Said → Bool
is_answer (said.Answer bytes) = true
is_answer _ = false

-- the node whose SDO server answers
abbrev pub answering : Option (ℕ × Said) → Option ℕ
answering None = None
answering (Some s) = if is_answer s.1 then Some s.0 else None
