-- What two writes append, one after the other.
use Rattle.std.proofs.Common.{◌≡◌, ℕ, List, ◌++◌, subst}
use Rattle.std.specs.Prelude.{Option, Result, Ok, Err, OnOk}
use Rattle.std.specs.Io.KnownBytes.{Appends}
use Rattle.std.proofs.KnownBytes.{Appends-trans}
use Rattle.cm_netlist.specs.Network.{Network}
use Rattle.cm_history.specs.declared.call.Entry.{Entry}
use Rattle.canboot_picture.specs.Spans.{WritesLane, WritesSpans, label_text, span_at}
use Rattle.canboot_picture.specs.declared.scale.Scale.{Scale}

-- a last write, which may fail, after what was appended before it
pub then_last : {T E : Type 0} (r : Result T E) (a b c : Option (List ℕ)) (bs cs : List ℕ) → Appends a b bs → OnOk r (Appends b c cs) → OnOk r (Appends a c (bs ++ cs))
then_last (Ok x) a b c bs cs p q = Appends-trans a b c bs cs p q
then_last (Err e) a b c bs cs p q = tt

-- the spans of a lane, which may fail, after its label
pub then_spans : {T E : Type 0} (r : Result T E) (net : Network) (entries : List Entry) (scale : Scale) (row node columns : ℕ) (a b c : Option (List ℕ))
    → Appends a b (label_text row node) → OnOk r (WritesSpans net entries scale row node columns b c) → OnOk r (WritesLane net entries scale row node columns a c)
then_spans (Err e) net entries scale row node columns a b c p q = tt
then_spans (Ok x) net entries scale row node columns a b c p q = record {
  spans = q.spans;
  shown = q.shown;
  written = Appends-trans a b c _ _ p q.written;
}

-- a span whose place is known by other numbers
pub placed : {T E : Type 0} (r : Result T E) (a b : Option (List ℕ)) (state node : ℕ) (x x' y y' w w' from from' to to' : ℕ)
    → x ≡ x' → y ≡ y' → w ≡ w' → from ≡ from' → to ≡ to' → OnOk r (Appends a b (span_at state node x y w from to))
    → OnOk r (Appends a b (span_at state node x' y' w' from' to'))
placed r a b state node x x' y y' w w' from from' to to' ex ey ew ef et p =
    subst (λ (n : ℕ). OnOk r (Appends a b (span_at state node x' y' w' from' n))) et
    (subst (λ (n : ℕ). OnOk r (Appends a b (span_at state node x' y' w' n to))) ef
    (subst (λ (n : ℕ). OnOk r (Appends a b (span_at state node x' y' n from to))) ew
    (subst (λ (n : ℕ). OnOk r (Appends a b (span_at state node x' n w from to))) ey
    (subst (λ (n : ℕ). OnOk r (Appends a b (span_at state node n y w from to))) ex p))))
