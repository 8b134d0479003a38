-- All of a picture, part after part.
use Rattle.std.proofs.Common.{◌≡◌, ℕ, ◌+◌, ◌<◌, ◌≤◌, List, ◌∷◌, ◌++◌, length, refl, sym, subst, arith, mul-le-mul_left}
use Rattle.std.specs.Prelude.{Option, Result, Ok, Err, OnOk, flat_map}
use Rattle.std.specs.Io.KnownBytes.{Appends}
use Rattle.std.proofs.KnownBytes.{Appends-trans}
use Rattle.cm_netlist.specs.Network.{Network, listed_ids}
use Rattle.cm_history.specs.declared.call.Entry.{Entry}
use Rattle.canboot_picture.specs.Columns.{AreAsMany}
use Rattle.canboot_picture.specs.Marks.{mark_text}
use Rattle.canboot_picture.specs.Pictures.{WritesPicture, head_text, heading_text, style_text, tail_text}
use Rattle.canboot_picture.specs.Spans.{WritesLanes, height_of, left_of, top_of, width_of}
use Rattle.canboot_picture.specs.declared.mark.Mark.{Mark}
use Rattle.canboot_picture.specs.declared.scale.Scale.{Scale}
use Rattle.canboot_picture.proofs.Written.{lanes_content, picture_document}

-- each column lies in the document, and each lane
column_inside : (scale : Scale) (columns column : ℕ) → column < columns → left_of scale column + scale.pitch ≤ width_of scale columns
column_inside scale columns column h =
    let next : column + 1 ≤ columns = omega arith in
    omega (arith, mul-le-mul_left scale.pitch next)

lane_inside : (slaves row : ℕ) → row ≤ slaves → top_of row + 30 ≤ height_of slaves
lane_inside slaves row h = omega arith

-- the parts are a picture, where the last one was written
pub picture_written : {T E : Type 0} (r : Result T E) (net : Network) (entries : List Entry) (scale : Scale) (columns width height : ℕ) (marks : List Mark)
    (a b c d e f g : Option (List ℕ)) → scale.entries ≡ length entries
    → AreAsMany (length entries) scale.width columns → 1 ≤ scale.pitch → scale.pitch ≤ 40 → width ≡ width_of scale columns → height ≡ height_of (length (listed_ids net))
    → Appends a b (head_text width height) → Appends b c style_text
    → Appends c d (heading_text scale.entries scale.width) → WritesLanes net entries scale (net.own ∷ listed_ids net) columns d e
    → Appends e f (flat_map mark_text marks) → OnOk r (Appends f g tail_text) → OnOk r (WritesPicture net entries a g)
picture_written (Err x) net entries scale columns width height marks a b c d e f g counted divided seen narrow wide high head style heading lanes marked tail = tt
picture_written (Ok x) net entries scale columns width height marks a b c d e f g counted divided seen narrow wide high head style heading lanes marked tail = record {
  text = _;
  picture = record {
    scale = scale;
    columns = columns;
    width = width;
    height = height;
    lanes = lanes.text;
    marks = marks;
    shown = lanes.lanes;
    counted = counted;
    divided = divided;
    seen = seen;
    narrow = narrow;
    wide = wide;
    high = high;
    columns_inside = λ column h. subst (λ (n : ℕ). left_of scale column + scale.pitch ≤ n) (sym wide) (column_inside scale columns column h);
    lanes_inside = λ row h. subst (λ (n : ℕ). top_of row + 30 ≤ n) (sym high) (lane_inside (length (listed_ids net)) row h);
    is = refl;
    document = picture_document width height scale.entries scale.width lanes.text marks
        (lanes_content net entries scale columns (net.own ∷ listed_ids net) lanes.text lanes.lanes);
  };
  written = Appends-trans a b g _ _ head (Appends-trans b c g _ _ style (Appends-trans c d g _ _ heading
      (Appends-trans d e g _ _ lanes.written (Appends-trans e f g _ _ marked tail))));
}
