-- Lines of messages, one by one.
use Rattle.std.proofs.Common.{◌≡◌, ℕ, Bool, true, false, List, [], ◌∷◌, ◌++◌, Option, refl, ap, sym, ◌∙◌, subst, append_assoc, append-nil}
use Rattle.std.specs.Prelude.{IsTrue}
use Rattle.std.proofs.KnownBytes.{Appends-nil, Appends-trans}
use Rattle.cm_nmt.specs.Frames.{frame_bytes}
use Rattle.cm_can.specs.declared.frame.CanFrame.{CanFrame}
use Rattle.cm_can.specs.Frames.{IsData}
use Rattle.cm_nmt.specs.declared.frame.Frame.{Frame}
use Rattle.cm_can.specs.declared.format.Format.{Format}
use Rattle.cm_bus.specs.declared.outlet.Outlet.{Outlet}
use Rattle.cm_bus.specs.Outlets.{AreMessageLines, IsLine, WritesMessage, WritesMessages}

-- no message more
pub no_messages : (format : Format) (old : Option (List ℕ)) → WritesMessages format [] old old
no_messages format old = ([], refl, Appends-nil old)

-- lines of messages, and one line more
pub lines_more : (format : Format) (frames : List Frame) (frame : Frame) (text : List ℕ) (f : CanFrame) (line : List ℕ)
    → AreMessageLines format frames text → IsData f 0 (frame_bytes frame) → IsLine format f line → AreMessageLines format (frames ++ frame ∷ []) (text ++ line)
lines_more format [] frame text f line are is of =
    subst (λ (t : List ℕ). AreMessageLines format (frame ∷ []) (t ++ line)) (sym are) (f, line, [], is, of, refl, sym (append-nil line))
lines_more format (first ∷ frames) frame text f line are is of =
    subst (λ (t : List ℕ). AreMessageLines format (first ∷ (frames ++ frame ∷ [])) (t ++ line)) (sym are.6)
    (are.0, are.1, are.2 ++ line, are.3, are.4, lines_more format frames frame are.2 f line are.5 is of, append_assoc are.1 are.2 line)

-- a message more
pub message_more : (format : Format) (frames : List Frame) (frame : Frame) (a b c : Option (List ℕ)) → WritesMessages format frames a b → WritesMessage format frame b c
    → WritesMessages format (frames ++ frame ∷ []) a c
message_more format frames frame a b c had more =
    (had.0 ++ more.2.0, lines_more format frames frame had.0 more.0 more.2.0 had.1 more.1 more.2.1, Appends-trans a b c had.0 more.2.0 had.2 more.2.2)

-- what stays true was false, where it is false
was_false : (old new : Bool) → (old ≡ true → new ≡ old) → new ≡ false → old ≡ false
was_false true new keeps well = sym (keeps refl) ∙ well
was_false false new keeps well = refl

-- an outlet that works now worked before, where a failed one is left as it is
pub was_well : {W : Type 0} (old new : Outlet W) → (IsTrue old.failed → new ≡ old) → new.failed ≡ false → old.failed ≡ false
was_well {W} old new stops well = was_false old.failed new.failed (λ h. ap (λ (o : Outlet W). o.failed) (stops h)) well
