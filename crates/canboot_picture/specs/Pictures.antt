-- What a picture of a history is (own). Entries are given with the oldest first.
use Rattle.std.specs.Prelude.{◌≡◌, ℕ, ◌+◌, ◌<◌, ◌≤◌, List, ◌∷◌, ◌++◌, codes, decimal, flat_map, length, Option}
use Rattle.std.specs.Io.KnownBytes.{Appends}
use Rattle.cm_netlist.specs.Network.{Network, listed_ids}
use Rattle.cm_history.specs.declared.call.Entry.{Entry}
use Rattle.canboot_picture.specs.Columns.{AreAsMany}
use Rattle.canboot_picture.specs.Marks.{mark_text}
use Rattle.canboot_picture.specs.Spans.{AreLanes, height_of, left_of, top_of, width_of}
use Rattle.canboot_picture.specs.Xml.{IsDocument, declaration}
use Rattle.canboot_picture.specs.declared.mark.Mark.{Mark}
use Rattle.canboot_picture.specs.declared.scale.Scale.{Scale}

-- what stands before the content: a picture so wide and so high, in pixels
abbrev pub head_text : ℕ → ℕ → List ℕ
head_text width height =
    declaration ++ (codes "<svg xmlns=\"http://www.w3.org/2000/svg\" version=\"1.1\" width=\"" ++ (decimal width ++ (codes "\" height=\""
    ++ (decimal height ++ (codes "\" viewBox=\"0 0 " ++ (decimal width ++ (codes " " ++ (decimal height ++ codes "\">\n"))))))))

-- the colours and the letters
abbrev pub style_text : List ℕ
style_text =
    codes "<style type=\"text/css\">\n"
    ++ (codes "rect{fill:#bbbbbb}text{font-family:sans-serif;font-size:11px;fill:#222222}.l{font-size:10px}.m{font-size:10px}.h{font-size:13px}\n"
    ++ (codes ".s0{fill:#dddddd}.s1{fill:#e88a8a}.s4{fill:#f2bc6b}.s5{fill:#8fce8f}.s127{fill:#9cc3ee}\n"
    ++ (codes ".booted{fill:#3cc2a0}.failed{fill:#ff6b6b}.open{fill:#b0b0b0}.held{fill:#5b2c8a}.released{fill:#b48ad8}.lost{fill:#000000}\n"
    ++ (codes ".frame{fill:#1d4f91}.all{fill:#1d4f91;fill-opacity:0.55}.halted{fill:#c01818}.ready{fill:#2a7d2a}.place{fill:#666666}\n"
    ++ codes "</style>\n"))))

-- how many entries there are, and how many stand in a column
abbrev pub heading_text : ℕ → ℕ → List ℕ
heading_text entries width =
    codes "<text class=\"h\" x=\"8\" y=\"20\">history of " ++ (decimal entries ++ (codes " entries, in columns of " ++ (decimal width
    ++ codes "</text>\n")))

-- what stands behind the content
abbrev pub tail_text : List ℕ
tail_text = codes "</svg>\n"

-- the text is a picture of the history: a document, in which each lane, the manager's and then those of the listed slaves in rising
-- node-ID, has just the spans of the states that the history shows of its node. The columns are just as many as the history's entries
-- take. Each has 1 to 40 pixels, and it lies in the document, as each lane does
pub record Pictures (net : Network) (entries : List Entry) (text : List ℕ) : Type 0 where
  pub scale : Scale
  pub columns : ℕ
  pub width : ℕ
  pub height : ℕ
  pub lanes : List ℕ
  pub marks : List Mark
  pub shown : AreLanes net entries scale columns (net.own ∷ listed_ids net) lanes
  pub counted : scale.entries ≡ length entries
  pub divided : AreAsMany (length entries) scale.width columns
  pub seen : 1 ≤ scale.pitch
  pub narrow : scale.pitch ≤ 40
  pub wide : width ≡ width_of scale columns
  pub high : height ≡ height_of (length (listed_ids net))
  pub columns_inside : (column : ℕ) → column < columns → left_of scale column + scale.pitch ≤ width
  pub lanes_inside : (row : ℕ) → row ≤ length (listed_ids net) → top_of row + 30 ≤ height
  pub is : text ≡ head_text width height ++ (style_text ++ (heading_text scale.entries scale.width ++ (lanes ++ (flat_map mark_text marks ++ tail_text))))
  pub document : IsDocument text

-- a picture of the history was written
pub record WritesPicture (net : Network) (entries : List Entry) (old new : Option (List ℕ)) : Type 0 where
  pub text : List ℕ
  pub picture : Pictures net entries text
  pub written : Appends old new text
