-- What is written of a picture is content of XML, and all of it a document.
use Rattle.std.proofs.Common.{◌≡◌, ℕ, ◌+◌, ◌*◌, Bool, true, false, List, [], ◌∷◌, ◌++◌, length, refl, sym, ◌∙◌, ap, subst, append_assoc, append-nil}
use Rattle.std.specs.Prelude.{codes, decimal, flat_map, min, ◌-◌, ◌==◌, if◌then◌else◌, nat_lt}
use Rattle.cm_netlist.specs.Network.{Network}
use Rattle.cm_history.specs.declared.call.Entry.{Entry}
use Rattle.cm_nmt.specs.Status.{is_good}
use Rattle.cm_nmt.specs.declared.status.Status.{Status}
use Rattle.canboot_picture.specs.Xml.{is_plain_text, attribute_text, element_text, AreAttributes, no_attribute, attribute, IsContent, nothing, plain, element, behind, IsDocument, declaration, escaped}
use Rattle.canboot_picture.specs.Spans.{left_of, top_of, state_words, state_letter, span_head, span_title, letter_text, span_letter, span_text, label_text, lane_words, lane_text, AreLanes, no_lane, lane}
use Rattle.canboot_picture.specs.Marks.{state_class, class_words, subject_words, outcome_words, letter_words, legend_words, entry_text, node_text, subject_text, outcome_text, mark_title, mark_head, beside, label_of, mark_text}
use Rattle.canboot_picture.specs.Pictures.{head_text, style_text, heading_text, tail_text}
use Rattle.canboot_picture.specs.declared.scale.Scale.{Scale}
use Rattle.canboot_picture.specs.declared.scale.Span.{Span}
use Rattle.canboot_picture.specs.declared.mark.Mark.{Mark}
use Rattle.canboot_picture.specs.declared.mark.Label.{Label}
use Rattle.canboot_picture.specs.declared.mark.Label.TheVariants as label
use Rattle.canboot_picture.specs.declared.mark.MarkKind.{MarkKind}
use Rattle.canboot_picture.specs.declared.mark.MarkKind.TheVariants as kind
use Rattle.canboot_picture.proofs.Elements.{plain_number, number, escapes, text_line, text_is_content, rect_line, rect_is_content, each, plain_both}

-- ---- spans and lanes

title_content : (node state from to : ℕ) → IsContent (codes "node " ++ (decimal node ++ (codes ": " ++ (escaped (state_words state) ++ (codes ", behind entries " ++ (decimal from ++ (codes " to " ++ decimal to)))))))
title_content node state from to =
    behind (codes "node ") _ (plain _ refl) (behind (decimal node) _ (number node) (behind (codes ": ") _ (plain _ refl)
    (behind _ _ (escapes (state_words state)) (behind (codes ", behind entries ") _ (plain _ refl) (behind _ _ (number from)
    (behind (codes " to ") _ (plain _ refl) (number to)))))))

plain_class : (state : ℕ) → is_plain_text (codes "s" ++ decimal state) ≡ true
plain_class state = plain_number state

headed_is : (class x y text : List ℕ) → text_line class x y text
    ≡ (codes "<text class=\"" ++ (class ++ (codes "\" x=\"" ++ (x ++ (codes "\" y=\"" ++ (y ++ codes "\">")))))) ++ (text ++ codes "</text>\n")
headed_is class x y text = simp append_assoc

letter_content : (state x y width : ℕ) → IsContent (span_letter state x y width)
letter_content state x y width =
    elim (nat_lt width 14) as (λ b. IsContent (if b then [] else letter_text state (x + 6) (y + 12))) [
      | true ↦ nothing
      | false ↦ subst IsContent (headed_is (codes "l") (decimal (x + 6)) (decimal (y + 12)) (escaped (state_letter state)))
          (text_is_content (codes "l") _ _ _ refl (plain_number (x + 6)) (plain_number (y + 12)) (escapes (state_letter state)))
    ]

span_is : (state x y width node words from to : List ℕ)
    → rect_line (codes "s" ++ state) x y width (codes "16") (codes "node " ++ (node ++ (codes ": " ++ (words ++ (codes ", behind entries " ++ (from ++ (codes " to " ++ to)))))))
    ≡ (codes "<rect class=\"s" ++ (state ++ (codes "\" x=\"" ++ (x ++ (codes "\" y=\"" ++ (y ++ (codes "\" width=\"" ++ (width ++ codes "\" height=\"16\">"))))))))
    ++ ((codes "<title>node " ++ (node ++ codes ": ")) ++ (words ++ (codes ", behind entries " ++ (from ++ (codes " to " ++ (to ++ codes "</title></rect>\n"))))))
span_is state x y width node words from to = simp append_assoc

span_content : (scale : Scale) (row node : ℕ) (s : Span) → IsContent (span_text scale row node s)
span_content scale row node s =
    let x = left_of scale s.first in
    let y = top_of row in
    let width = (s.end - s.first) * scale.pitch in
    let from = s.first * scale.width + 1 in
    let to = min (s.end * scale.width) scale.entries in
    let head = span_head s.state x y width in
    let title = span_title node s.state from to in
    let rest = span_letter s.state x y width in
    let first : IsContent (head ++ title) =
    subst IsContent (span_is (decimal s.state) (decimal x) (decimal y) (decimal width) (decimal node) (escaped (state_words s.state)) (decimal from) (decimal to))
    (rect_is_content (codes "s" ++ decimal s.state) _ _ _ (codes "16") _ (plain_class s.state) (plain_number x) (plain_number y) (plain_number width) refl
    (title_content node s.state from to)) in
    subst IsContent (append_assoc head title rest) (behind (head ++ title) rest first (letter_content s.state x y width))

label_is : (y words node : List ℕ) → text_line (codes "n") (codes "8") y (words ++ (codes " " ++ node))
    ≡ (codes "<text class=\"n\" x=\"8\" y=\"" ++ (y ++ codes "\">")) ++ (words ++ (codes " " ++ (node ++ codes "</text>\n")))
label_is y words node = simp append_assoc

label_content : (row node : ℕ) → IsContent (label_text row node)
label_content row node =
    let y = top_of row + 12 in
    subst IsContent (label_is (decimal y) (escaped (lane_words row)) (decimal node))
    (text_is_content (codes "n") (codes "8") (decimal y) _ refl refl (plain_number y)
    (behind (escaped (lane_words row)) _ (escapes (lane_words row)) (behind (codes " ") _ (plain (codes " ") refl) (number node))))

pub lanes_content : (net : Network) (entries : List Entry) (scale : Scale) (columns : ℕ) (nodes text : List ℕ)
    → AreLanes net entries scale columns nodes text → IsContent text
lanes_content net entries scale columns nodes text no_lane = nothing
lanes_content net entries scale columns nodes text (lane before written node spans so_far shown) =
    behind written _ (lanes_content net entries scale columns before written so_far)
    (behind _ _ (label_content (length before) node) (each (span_text scale (length before) node) spans (span_content scale (length before) node)))

-- ---- marks

one_of : (b : Bool) (one other : List ℕ) → is_plain_text one ≡ true → is_plain_text other ≡ true → is_plain_text (if b then one else other) ≡ true
one_of true one other p q = p
one_of false one other p q = q

plain_state : (state : ℕ) → is_plain_text (state_class state) ≡ true
plain_state state =
    one_of (state == 0) _ _ refl (one_of (state == 1) _ _ refl (one_of (state == 4) _ _ refl (one_of (state == 5) (codes "s5") (codes "s127") refl refl)))

plain_kind : (k : MarkKind) → is_plain_text (class_words k) ≡ true
plain_kind (kind.Boot s) = elim (is_good s) as (λ b. is_plain_text (if b then codes "booted" else codes "failed") ≡ true) [ true ↦ refl | false ↦ refl ]
plain_kind kind.Unreported = refl
plain_kind kind.Held = refl
plain_kind kind.Released = refl
plain_kind kind.Lost = refl
plain_kind (kind.Ordered c) = refl
plain_kind (kind.OrderedAll c) = refl
plain_kind kind.Halted = refl
plain_kind kind.Ready = refl
plain_kind kind.Place = refl
plain_kind (kind.Sample state) = plain_state state

entry_content : (n : ℕ) → IsContent (entry_text n)
entry_content n = elim (n == 0) as (λ b. IsContent (if b then [] else codes "entry " ++ (decimal n ++ codes ": ")))
    [ true ↦ nothing | false ↦ behind (codes "entry ") _ (plain _ refl) (behind _ _ (number n) (plain (codes ": ") refl)) ]

node_content : (n : ℕ) → IsContent (node_text n)
node_content n = elim (n == 0) as (λ b. IsContent (if b then [] else codes " " ++ decimal n))
    [ true ↦ nothing | false ↦ behind (codes " ") _ (plain _ refl) (number n) ]

beside_content : (x y : ℕ) (text : List ℕ) → IsContent text → IsContent (beside x y text)
beside_content x y text inside = subst IsContent (headed_is (codes "m") (decimal x) (decimal y) text) (text_is_content (codes "m") (decimal x) (decimal y) text refl (plain_number x) (plain_number y) inside)

beside_mark : (m : Mark) (l : Label) → IsContent (label_of m l)
beside_mark m label.Nothing = nothing
beside_mark m label.Letter = beside_content _ _ _ (escapes (letter_words m.kind))
beside_mark m label.Subject = beside_content _ _ _ (escapes (subject_words m.kind))
beside_mark m label.Legend = beside_content _ _ _ (escapes (legend_words m.kind))
beside_mark m label.Number = beside_content _ _ _ (number m.entry)

mark_is : (class x y width height subject outcome rest : List ℕ) → rect_line class x y width height (subject ++ outcome) ++ rest
    ≡ (codes "<rect class=\"" ++ (class ++ (codes "\" x=\"" ++ (x ++ (codes "\" y=\"" ++ (y ++ (codes "\" width=\"" ++ (width
    ++ (codes "\" height=\"" ++ (height ++ codes "\">")))))))))) ++ ((codes "<title>" ++ (subject ++ (outcome ++ codes "</title></rect>\n"))) ++ rest)
mark_is class x y width height subject outcome rest = simp append_assoc

pub mark_content : (m : Mark) → IsContent (mark_text m)
unfolding mark_text
mark_content m =
    let inside : IsContent (subject_text m ++ outcome_text m.kind) =
    behind (subject_text m) (outcome_text m.kind)
    (behind (entry_text m.entry) _ (entry_content m.entry) (behind (escaped (subject_words m.kind)) (node_text m.node) (escapes (subject_words m.kind)) (node_content m.node)))
    (behind (escaped (outcome_words m.kind)) (escaped (letter_words m.kind)) (escapes (outcome_words m.kind)) (escapes (letter_words m.kind))) in
    subst IsContent (mark_is (class_words m.kind) (decimal m.x) (decimal m.y) (decimal m.width) (decimal m.height) (subject_text m) (outcome_text m.kind) (label_of m m.label))
    (behind _ (label_of m m.label) (rect_is_content (class_words m.kind) _ _ _ _ _ (plain_kind m.kind) (plain_number m.x) (plain_number m.y) (plain_number m.width)
    (plain_number m.height) inside) (beside_mark m m.label))

-- ---- the document

style_content : IsContent style_text
style_content =
    let css = codes "\n"
    ++ (codes "rect{fill:#bbbbbb}text{font-family:sans-serif;font-size:11px;fill:#222222}.l{font-size:10px}.m{font-size:10px}.h{font-size:13px}\n"
    ++ (codes ".s0{fill:#dddddd}.s1{fill:#e88a8a}.s4{fill:#f2bc6b}.s5{fill:#8fce8f}.s127{fill:#9cc3ee}\n"
    ++ (codes ".booted{fill:#3cc2a0}.failed{fill:#ff6b6b}.open{fill:#b0b0b0}.held{fill:#5b2c8a}.released{fill:#b48ad8}.lost{fill:#000000}\n"
    ++ codes ".frame{fill:#1d4f91}.all{fill:#1d4f91;fill-opacity:0.55}.halted{fill:#c01818}.ready{fill:#2a7d2a}.place{fill:#666666}\n"))) in
    let attributes = attribute_text (codes "type") (codes "text/css") ++ [] in
    let given : AreAttributes (codes "type" ∷ []) attributes = attribute (codes "type") (codes "text/css") [] [] refl refl refl no_attribute in
    behind (element_text (codes "style") attributes css) (codes "\n") (element (codes "style") _ attributes css refl given (plain css refl)) (plain _ refl)

heading_is : (entries width : List ℕ) → text_line (codes "h") (codes "8") (codes "20") (codes "history of " ++ (entries ++ (codes " entries, in columns of " ++ width)))
    ≡ codes "<text class=\"h\" x=\"8\" y=\"20\">history of " ++ (entries ++ (codes " entries, in columns of " ++ (width ++ codes "</text>\n")))
heading_is entries width = simp append_assoc

heading_content : (entries width : ℕ) → IsContent (heading_text entries width)
heading_content entries width =
    let inside = codes "history of " ++ (decimal entries ++ (codes " entries, in columns of " ++ decimal width)) in
    subst IsContent (heading_is (decimal entries) (decimal width)) (text_is_content (codes "h") (codes "8") (codes "20") inside refl refl refl
    (behind (codes "history of ") _ (plain _ refl) (behind _ _ (number entries) (behind (codes " entries, in columns of ") _ (plain _ refl) (number width)))))

abbrev svg_attributes : ℕ → ℕ → List ℕ
svg_attributes width height =
    attribute_text (codes "xmlns") (codes "http://www.w3.org/2000/svg") ++ (attribute_text (codes "version") (codes "1.1")
    ++ (attribute_text (codes "width") (decimal width) ++ (attribute_text (codes "height") (decimal height)
    ++ (attribute_text (codes "viewBox") (codes "0 0 " ++ (decimal width ++ (codes " " ++ decimal height))) ++ []))))

svg_given : (width height : ℕ)
    → AreAttributes (codes "xmlns" ∷ codes "version" ∷ codes "width" ∷ codes "height" ∷ codes "viewBox" ∷ []) (svg_attributes width height)
svg_given width height =
    let box = codes "0 0 " ++ (decimal width ++ (codes " " ++ decimal height)) in
    let boxed = attribute_text (codes "viewBox") box ++ [] in
    let high = attribute_text (codes "height") (decimal height) ++ boxed in
    let wide = attribute_text (codes "width") (decimal width) ++ high in
    let version = attribute_text (codes "version") (codes "1.1") ++ wide in
    attribute (codes "xmlns") (codes "http://www.w3.org/2000/svg") (codes "version" ∷ codes "width" ∷ codes "height" ∷ codes "viewBox" ∷ []) version refl refl refl
    (attribute (codes "version") (codes "1.1") (codes "width" ∷ codes "height" ∷ codes "viewBox" ∷ []) wide refl refl refl
    (attribute (codes "width") (decimal width) (codes "height" ∷ codes "viewBox" ∷ []) high refl (plain_number width) refl
    (attribute (codes "height") (decimal height) (codes "viewBox" ∷ []) boxed refl (plain_number height) refl
    (attribute (codes "viewBox") box [] [] refl (plain_both (codes "0 0 ") (decimal width ++ (codes " " ++ decimal height)) refl
    (plain_both (decimal width) (codes " " ++ decimal height) (plain_number width) (plain_both (codes " ") (decimal height) refl (plain_number height)))) refl no_attribute))))

-- what stands behind the declaration
document_is : (width height inside : List ℕ)
    → (codes "<svg xmlns=\"http://www.w3.org/2000/svg\" version=\"1.1\" width=\"" ++ (width ++ (codes "\" height=\"" ++ (height
    ++ (codes "\" viewBox=\"0 0 " ++ (width ++ (codes " " ++ (height ++ codes "\">\n")))))))) ++ (inside ++ codes "</svg>\n")
    ≡ element_text (codes "svg") (attribute_text (codes "xmlns") (codes "http://www.w3.org/2000/svg") ++ (attribute_text (codes "version") (codes "1.1")
    ++ (attribute_text (codes "width") width ++ (attribute_text (codes "height") height
    ++ (attribute_text (codes "viewBox") (codes "0 0 " ++ (width ++ (codes " " ++ height))) ++ []))))) (codes "\n" ++ inside) ++ codes "\n"
document_is width height inside = simp append_assoc

document_of : (width height : ℕ) (inside : List ℕ) → IsContent inside → IsDocument (head_text width height ++ (inside ++ tail_text))
document_of width height inside is = record {
  name = codes "svg";
  names = codes "xmlns" ∷ codes "version" ∷ codes "width" ∷ codes "height" ∷ codes "viewBox" ∷ [];
  attributes = svg_attributes width height;
  content = codes "\n" ++ inside;
  named = refl;
  given = svg_given width height;
  well_formed = behind (codes "\n") inside (plain (codes "\n") refl) is;
  is = ap (λ (l : List ℕ). declaration ++ l) (document_is (decimal width) (decimal height) inside);
}

regroup : (a b c d e : List ℕ) → a ++ (b ++ (c ++ (d ++ e))) ≡ (a ++ (b ++ (c ++ d))) ++ e
regroup a b c d e = simp append_assoc

-- a picture's text is a document, where its lanes are content
pub picture_document : (width height entries column : ℕ) (lanes : List ℕ) (marks : List Mark) → IsContent lanes
    → IsDocument (head_text width height ++ (style_text ++ (heading_text entries column ++ (lanes ++ (flat_map mark_text marks ++ tail_text)))))
picture_document width height entries column lanes marks lanes_are =
    let inside = style_text ++ (heading_text entries column ++ (lanes ++ flat_map mark_text marks)) in
    let content : IsContent inside = behind style_text _ style_content (behind (heading_text entries column) _ (heading_content entries column)
    (behind lanes _ lanes_are (each mark_text marks mark_content))) in
    subst (λ (text : List ℕ). IsDocument (head_text width height ++ text)) (sym (regroup style_text (heading_text entries column) lanes (flat_map mark_text marks) tail_text))
    (document_of width height inside content)
