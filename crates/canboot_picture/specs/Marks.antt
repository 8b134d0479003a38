-- The text of marks: what stands beside the spans (own). Where marks stand, and which there are, is said nowhere here.
use Rattle.std.specs.Prelude.{ℕ, ◌+◌, ◌==◌, if◌then◌else◌, List, [], ◌∷◌, ◌++◌, codes, decimal}
use Rattle.cm_nmt.specs.Status.{is_good, status_letter}
use Rattle.cm_nmt.specs.declared.command.Command.{Command}
use Rattle.cm_nmt.specs.declared.command.Command.TheVariants as command
use Rattle.canboot_picture.specs.Spans.{state_words}
use Rattle.canboot_picture.specs.Xml.{escaped}
use Rattle.canboot_picture.specs.declared.mark.Mark.{Mark}
use Rattle.canboot_picture.specs.declared.mark.MarkKind.{MarkKind}
use Rattle.canboot_picture.specs.declared.mark.MarkKind.TheVariants as kind
use Rattle.canboot_picture.specs.declared.mark.Label.{Label}
use Rattle.canboot_picture.specs.declared.mark.Label.TheVariants as label

-- the class of a span in this state
abbrev pub state_class : ℕ → List ℕ
state_class state =
    if state == 0 then codes "s0"
    else (if state == 1 then codes "s1"
    else (if state == 4 then codes "s4"
    else (if state == 5 then codes "s5"
    else codes "s127")))

-- the class of a mark, which gives its colour
abbrev pub class_words : MarkKind → List ℕ
class_words (kind.Boot s) = if is_good s then codes "booted" else codes "failed"
class_words kind.Unreported = codes "open"
class_words kind.Held = codes "held"
class_words kind.Released = codes "released"
class_words kind.Lost = codes "lost"
class_words (kind.Ordered c) = codes "frame"
class_words (kind.OrderedAll c) = codes "all"
class_words kind.Halted = codes "halted"
class_words kind.Ready = codes "ready"
class_words kind.Place = codes "place"
class_words (kind.Sample state) = state_class state

-- what a command does
abbrev pub command_words : Command → List ℕ
command_words command.Start = codes ": start"
command_words command.Stop = codes ": stop"
command_words command.EnterPre = codes ": enter pre-operational"
command_words command.ResetNode = codes ": reset node"
command_words command.ResetComm = codes ": reset communication"

-- what was called or sent
abbrev pub subject_words : MarkKind → List ℕ
subject_words (kind.Boot s) = codes "report of node"
subject_words kind.Unreported = codes "begin of node"
subject_words kind.Held = codes "hold of node"
subject_words kind.Released = codes "release of node"
subject_words kind.Lost = codes "loss of node"
subject_words (kind.Ordered c) = codes "frame to node"
subject_words (kind.OrderedAll c) = codes "frame to all nodes"
subject_words kind.Halted = codes "network halted"
subject_words kind.Ready = codes "network ready"
subject_words kind.Place = codes "a column begins"
subject_words (kind.Sample state) = state_words state

-- a state in the legend: its letter, and what it is
abbrev pub sample_words : ℕ → List ℕ
sample_words state =
    if state == 0 then codes "? unknown"
    else (if state == 1 then codes "M missing"
    else (if state == 4 then codes "S stopped"
    else (if state == 5 then codes "O operational"
    else codes "P pre-operational")))

-- what a mark is, in the legend
abbrev pub legend_words : MarkKind → List ℕ
legend_words (kind.Boot s) = if is_good s then codes "boot to Ok or L" else codes "boot to another status"
legend_words kind.Unreported = codes "begin without report"
legend_words kind.Held = codes "hold"
legend_words kind.Released = codes "release"
legend_words kind.Lost = codes "loss"
legend_words (kind.Ordered c) = codes "frame to the node"
legend_words (kind.OrderedAll c) = codes "frame to all nodes"
legend_words kind.Halted = codes "network halted"
legend_words kind.Ready = codes "network ready"
legend_words kind.Place = codes "entry"
legend_words (kind.Sample state) = sample_words state

-- what came of it
abbrev pub outcome_words : MarkKind → List ℕ
outcome_words (kind.Boot s) = codes ": status "
outcome_words kind.Unreported = codes ": no report"
outcome_words (kind.Ordered c) = command_words c
outcome_words (kind.OrderedAll c) = command_words c
outcome_words _ = []

-- the letter of a boot's status
abbrev pub letter_words : MarkKind → List ℕ
letter_words (kind.Boot s) = status_letter s
letter_words _ = []

-- the entry of the mark, counted from 1; none where it is 0
abbrev pub entry_text : ℕ → List ℕ
entry_text entry = if entry == 0 then [] else codes "entry " ++ (decimal entry ++ codes ": ")

-- the node of the mark; none where it is 0
abbrev pub node_text : ℕ → List ℕ
node_text node = if node == 0 then [] else codes " " ++ decimal node

-- entry, call and node
abbrev pub subject_text : Mark → List ℕ
subject_text m = entry_text m.entry ++ (escaped (subject_words m.kind) ++ node_text m.node)

-- what came of it, and the letter
abbrev pub outcome_text : MarkKind → List ℕ
outcome_text k = escaped (outcome_words k) ++ escaped (letter_words k)

-- its title, which a browser shows: entry, call, node and what came of it; and the end of the element
abbrev pub mark_title : Mark → List ℕ
mark_title m = codes "<title>" ++ (subject_text m ++ (outcome_text m.kind ++ codes "</title></rect>\n"))

-- the element of a mark up to its content
abbrev pub mark_head : List ℕ → ℕ → ℕ → ℕ → ℕ → List ℕ
mark_head class x y width height =
    codes "<rect class=\"" ++ (class ++ (codes "\" x=\"" ++ (decimal x ++ (codes "\" y=\"" ++ (decimal y ++ (codes "\" width=\""
    ++ (decimal width ++ (codes "\" height=\"" ++ (decimal height ++ codes "\">")))))))))

-- a text beside a mark
abbrev pub beside_head : ℕ → ℕ → List ℕ
beside_head x y = codes "<text class=\"m\" x=\"" ++ (decimal x ++ (codes "\" y=\"" ++ (decimal y ++ codes "\">")))

abbrev pub beside : ℕ → ℕ → List ℕ → List ℕ
beside x y text = beside_head x y ++ (text ++ codes "</text>\n")

-- what stands beside a mark: nothing, the letter of its status, what it is, what such marks are, or its entry
abbrev pub label_of : Mark → Label → List ℕ
label_of m label.Nothing = []
label_of m label.Letter = beside m.text_x m.text_y (escaped (letter_words m.kind))
label_of m label.Subject = beside m.text_x m.text_y (escaped (subject_words m.kind))
label_of m label.Legend = beside m.text_x m.text_y (escaped (legend_words m.kind))
label_of m label.Number = beside m.text_x m.text_y (decimal m.entry)

-- a mark
unfoldable pub mark_text : Mark → List ℕ
mark_text m = mark_head (class_words m.kind) m.x m.y m.width m.height ++ (mark_title m ++ label_of m m.label)
