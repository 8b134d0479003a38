-- Spans: columns beside each other in which a node is shown in one state (own).
use Rattle.std.specs.Prelude.{◌≡◌, ◌≢◌, ℕ, suc, ◌+◌, ◌*◌, ◌-◌, ◌<◌, ◌≤◌, ◌==◌, nat_lt, max, min, if◌then◌else◌, List, [], ◌∷◌, ◌++◌}
use Rattle.std.specs.Prelude.{codes, decimal, flat_map, length, Option}
use Rattle.std.specs.Io.KnownBytes.{Appends}
use Rattle.cm_netlist.specs.Network.{Network}
use Rattle.cm_history.specs.declared.call.Entry.{Entry}
use Rattle.canboot_picture.specs.Columns.{shown_at}
use Rattle.canboot_picture.specs.Xml.{escaped}
use Rattle.canboot_picture.specs.declared.scale.Scale.{Scale}
use Rattle.canboot_picture.specs.declared.scale.Span.{Span}

-- from a column on, each column up to this one has the state of the first, and the column behind them, if there is one, another
pub record IsRun (state : ℕ → ℕ) (columns first end : ℕ) : Type 0 where
  pub longer : first < end
  pub inside : end ≤ columns
  pub same : (column : ℕ) → first ≤ column → column < end → state column ≡ state first
  pub ends : end < columns → state end ≢ state first

-- the spans tile the columns before this one from left to right: each begins where the one before it ends, has at least one column,
-- has the state of each of its columns, and the column before it has another
pub data AreSpans (state : ℕ → ℕ) : ℕ → List Span → Type 0 where
  no_span : AreSpans state 0 []
  span : (spans : List Span) (s : Span) → AreSpans state s.first spans → s.first < s.end
      → ((column : ℕ) → s.first ≤ column → column < s.end → state column ≡ s.state)
      → ((column : ℕ) → column + 1 ≡ s.first → state column ≢ s.state)
      → AreSpans state s.end (spans ++ s ∷ [])

-- the spans of the node: those of the states that the history shows of it behind the last entry of each column
abbrev pub AreShown : Network → List Entry → ℕ → ℕ → ℕ → List Span → Type 0
AreShown net entries width columns node spans = AreSpans (shown_at net entries width node) columns spans

-- ---- places, in pixels

-- where a column begins
abbrev pub left_of : Scale → ℕ → ℕ
left_of scale column = 96 + column * scale.pitch

-- where a lane begins; the manager's is lane 0
abbrev pub top_of : ℕ → ℕ
top_of row = 64 + row * 30

-- how wide a picture with so many columns is, so that each of them lies in it, with 94 pixels behind the last one; at least 900
abbrev pub width_of : Scale → ℕ → ℕ
width_of scale columns = max 900 (columns * scale.pitch + 190)

-- how high a picture of so many slaves is, so that each of their lanes and the manager's lies in it, with 86 pixels below the last one
abbrev pub height_of : ℕ → ℕ
height_of slaves = slaves * 30 + 180

-- ---- the text of a span

-- a state, as object 1F82h reads it
abbrev pub state_words : ℕ → List ℕ
state_words state =
    if state == 0 then codes "unknown"
    else (if state == 1 then codes "missing"
    else (if state == 4 then codes "stopped"
    else (if state == 5 then codes "operational"
    else (if state == 127 then codes "pre-operational"
    else codes "of another state"))))

-- the letter that stands for it
abbrev pub state_letter : ℕ → List ℕ
state_letter state =
    if state == 0 then codes "?"
    else (if state == 1 then codes "M"
    else (if state == 4 then codes "S"
    else (if state == 5 then codes "O"
    else (if state == 127 then codes "P"
    else codes "-"))))

-- the element of a span up to its content: its class names its state
abbrev pub span_head : ℕ → ℕ → ℕ → ℕ → List ℕ
span_head state x y width =
    codes "<rect class=\"s" ++ (decimal state ++ (codes "\" x=\"" ++ (decimal x ++ (codes "\" y=\"" ++ (decimal y ++ (codes "\" width=\""
    ++ (decimal width ++ codes "\" height=\"16\">")))))))

-- its title, which a browser shows: of which node, up to its state
abbrev pub title_head : ℕ → List ℕ
title_head node = codes "<title>node " ++ (decimal node ++ codes ": ")

-- behind which entries, counted from 1; and the end of the element
abbrev pub title_end : ℕ → ℕ → List ℕ
title_end from to =
    codes ", behind entries " ++ (decimal from ++ (codes " to " ++ (decimal to ++ codes "</title></rect>\n")))

-- the title
abbrev pub span_title : ℕ → ℕ → ℕ → ℕ → List ℕ
span_title node state from to = title_head node ++ (escaped (state_words state) ++ title_end from to)

-- a letter at a place
abbrev pub letter_head : ℕ → ℕ → List ℕ
letter_head x y = codes "<text class=\"l\" x=\"" ++ (decimal x ++ (codes "\" y=\"" ++ (decimal y ++ codes "\">")))

abbrev pub letter_text : ℕ → ℕ → ℕ → List ℕ
letter_text state x y = letter_head x y ++ (escaped (state_letter state) ++ codes "</text>\n")

-- the letter in a span, where it is wide enough
abbrev pub span_letter : ℕ → ℕ → ℕ → ℕ → List ℕ
span_letter state x y width = if nat_lt width 14 then [] else letter_text state (x + 6) (y + 12)

-- a span of the node at this place
abbrev pub span_at : ℕ → ℕ → ℕ → ℕ → ℕ → ℕ → ℕ → List ℕ
span_at state node x y width from to = span_head state x y width ++ (span_title node state from to ++ span_letter state x y width)

-- a span of the node in this lane
abbrev pub span_text : Scale → ℕ → ℕ → Span → List ℕ
span_text scale row node s =
    span_at s.state node (left_of scale s.first) (top_of row) ((s.end - s.first) * scale.pitch)
    (s.first * scale.width + 1) (min (s.end * scale.width) scale.entries)

-- ---- lanes

-- who stands left of a lane
abbrev pub lane_words : ℕ → List ℕ
lane_words row = if row == 0 then codes "manager" else codes "node"

abbrev pub label_head : ℕ → List ℕ
label_head y = codes "<text class=\"n\" x=\"8\" y=\"" ++ (decimal y ++ codes "\">")

abbrev pub label_end : ℕ → List ℕ
label_end node = codes " " ++ (decimal node ++ codes "</text>\n")

abbrev pub label_text : ℕ → ℕ → List ℕ
label_text row node = label_head (top_of row + 12) ++ (escaped (lane_words row) ++ label_end node)

-- a lane: who it is of, and its spans
abbrev pub lane_text : Scale → ℕ → ℕ → List Span → List ℕ
lane_text scale row node spans = label_text row node ++ flat_map (span_text scale row node) spans

-- lanes of these nodes, one after another, each with just the spans of its node
pub data AreLanes (net : Network) (entries : List Entry) (scale : Scale) (columns : ℕ) : List ℕ → List ℕ → Type 0 where
  no_lane : AreLanes net entries scale columns [] []
  lane : (nodes text : List ℕ) (node : ℕ) (spans : List Span) → AreLanes net entries scale columns nodes text
      → AreShown net entries scale.width columns node spans
      → AreLanes net entries scale columns (nodes ++ node ∷ []) (text ++ lane_text scale (length nodes) node spans)

-- ---- what is written

-- spans of the node were written, and they are those of its states
pub record WritesSpans (net : Network) (entries : List Entry) (scale : Scale) (row node columns : ℕ) (old new : Option (List ℕ)) : Type 0 where
  pub spans : List Span
  pub shown : AreShown net entries scale.width columns node spans
  pub written : Appends old new (flat_map (span_text scale row node) spans)

-- a lane was written, and its spans are those of its node's states
pub record WritesLane (net : Network) (entries : List Entry) (scale : Scale) (row node columns : ℕ) (old new : Option (List ℕ)) : Type 0 where
  pub spans : List Span
  pub shown : AreShown net entries scale.width columns node spans
  pub written : Appends old new (lane_text scale row node spans)

-- the lanes of these nodes were written
pub record WritesLanes (net : Network) (entries : List Entry) (scale : Scale) (nodes : List ℕ) (columns : ℕ) (old new : Option (List ℕ))
    : Type 0 where
  pub text : List ℕ
  pub lanes : AreLanes net entries scale columns nodes text
  pub written : Appends old new text
