-- How a line is shown: on a terminal some words in colour (own; ECMA-48, select graphic rendition), and numbers of nodes with their names.
use Rattle.std.specs.Prelude.{◌≡◌, ℕ, Bool, false, MatchBool, ◌==◌, ◌||◌, ◌&&◌, ◌-◌, nat_le, if◌then◌else◌, List, [], ◌∷◌, ◌++◌}
use Rattle.std.specs.Prelude.{bytes_eq, codes, length, slice_index_or, take, drop, Option, Some, None, is_some, option_and_then}
use Rattle.std.specs.List.{join_with_byte}
use Rattle.cm_text.specs.Words.{Words, split}
use Rattle.cm_shown.specs.Names.{node_of}
use Rattle.cm_shown.specs.declared.shown.Colour.{Colour}
use Rattle.cm_shown.specs.declared.shown.Colour.TheVariants.{Red, Green}

-- the line is an object of JSON: it begins with an opening brace
abbrev pub is_object : List ℕ → Bool
is_object line = slice_index_or line 0 0 == 123

-- the line is one of fault: it begins with 'canboot: '
abbrev pub is_fault : List ℕ → Bool
is_fault line = nat_le 9 (length line) && bytes_eq (take 9 line) (codes "canboot: ")

-- the word says something bad
abbrev pub is_bad : List ℕ → Bool
is_bad w =
    bytes_eq w (codes "lost")
    || (bytes_eq w (codes "halted")
    || (bytes_eq w (codes "stopped")
    || (bytes_eq w (codes "refused")
    || (bytes_eq w (codes "failed")
    || (bytes_eq w (codes "emergency") || (bytes_eq w (codes "another") || (bytes_eq w (codes "passive") || bytes_eq w (codes "off"))))))))

-- the word says something good
abbrev pub is_good : List ℕ → Bool
is_good w = bytes_eq w (codes "ready") || bytes_eq w (codes "started")

-- the word denies the next one
abbrev pub is_denial : List ℕ → Bool
is_denial w = bytes_eq w (codes "isn't") || bytes_eq w (codes "not")

-- the colour of a word, by the word before it: none behind a denial; behind 'status' that of the status; else by its meaning
abbrev pub colour_of : List ℕ → List ℕ → Option Colour
colour_of before w =
    if is_denial before then None
    else if bytes_eq before (codes "status") then (if bytes_eq w (codes "Ok") then Some Green else Some Red)
    else if is_bad w then Some Red
    else if is_good w then Some Green
    else None

-- a mark that may stand behind a word
abbrev pub is_mark : ℕ → Bool
is_mark b = (b == 44) || ((b == 59) || (b == 58))

-- the word without the mark behind it
abbrev pub bare : List ℕ → List ℕ
bare w = if is_mark (slice_index_or w (length w - 1) 0) then take (length w - 1) w else w

-- what a terminal is told before a word, and behind it
abbrev pub opening_of : Option Colour → List ℕ
opening_of None = []
opening_of (Some Red) = 27 ∷ codes "[31m"
opening_of (Some Green) = 27 ∷ codes "[32m"

abbrev pub closing_of : Option Colour → List ℕ
closing_of None = []
closing_of (Some c) = 27 ∷ codes "[0m"

-- the colour of a word, by the word before it, each without its mark; none where words aren't coloured
abbrev pub colour_in : Bool → List ℕ → List ℕ → Option Colour
colour_in coloured before w = if coloured then colour_of (bare before) (bare w) else None

-- the mark behind the word, if there is one
abbrev pub mark_of : List ℕ → List ℕ
mark_of w = if is_mark (slice_index_or w (length w - 1) 0) then drop (length w - 1) w else []

-- a number behind this word is a node's: the word is 'node' or 'nodes', or it is a node's number itself, with a comma behind it
abbrev pub leads_on : Bool → List ℕ → Bool
leads_on leads w =
    bytes_eq w (codes "node")
    || (bytes_eq w (codes "nodes") || (leads && (is_some (node_of (bare w)) && bytes_eq (mark_of w) (codes ","))))

-- the name behind a word: that of the node whose number it is, if a number here is a node's
abbrev pub name_behind : (ℕ → Option (List ℕ)) → Bool → List ℕ → Option (List ℕ)
name_behind names leads w = if leads then option_and_then names (node_of (bare w)) else None

-- a name in brackets, behind a space
abbrev pub bracketed : List ℕ → List ℕ
bracketed name = codes " (" ++ (name ++ codes ")")

-- a word in this colour, and with this name, which stands behind the colour's end and before the word's mark
abbrev pub shown_word : Option Colour → Option (List ℕ) → List ℕ → List ℕ
shown_word colour None w = opening_of colour ++ (w ++ closing_of colour)
shown_word colour (Some name) w = (opening_of colour ++ (bare w ++ closing_of colour)) ++ (bracketed name ++ mark_of w)

-- words as they are shown, by the word before them, and by whether a number behind that is a node's
unfoldable pub shown_words : Bool → (ℕ → Option (List ℕ)) → List ℕ → Bool → Words → Words
shown_words coloured names before leads [] = []
shown_words coloured names before leads (w ∷ ws) =
    shown_word (colour_in coloured before w) (name_behind names leads w) w ∷ shown_words coloured names w (leads_on leads w) ws

-- a line without its line feed, as it is shown: a space stands between its words, as it did
abbrev pub shown_line : Bool → (ℕ → Option (List ℕ)) → List ℕ → List ℕ
shown_line coloured names line = join_with_byte 32 (shown_words coloured names [] false (split 32 line))

-- the line without the line feed at its end
abbrev pub before_feed : List ℕ → List ℕ
before_feed line = if slice_index_or line (length line - 1) 0 == 10 then take (length line - 1) line else line

-- a line as it is shown, with its line feed
abbrev pub shown_whole : Bool → (ℕ → Option (List ℕ)) → List ℕ → List ℕ
shown_whole coloured names line = shown_line coloured names (before_feed line) ++ 10 ∷ []

-- the text is the line as it is shown: an object of JSON as it stands, one of fault with no time and no names, any other behind its time
abbrev pub IsShown : Bool → (ℕ → Option (List ℕ)) → List ℕ → List ℕ → Type 0
IsShown coloured names line text =
    MatchBool (is_object line) (text ≡ line)
    (MatchBool (is_fault line) (text ≡ shown_whole coloured (λ id. None) line)
    ((time : List ℕ) × (text ≡ time ++ shown_whole coloured names line)))
