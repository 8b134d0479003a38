-- A frame more by an outlet for frames of one kind.
use Rattle.std.proofs.Common.{◌≡◌, ◌+◌, ℕ, arith, Bool, true, false, true≢false, List, [], ◌∷◌, ◌++◌, Option, Some, None, refl, ap, sym, ◌∙◌, subst, append_assoc, append-nil, length, map, get_or}
use Rattle.std.specs.List.{AllByRecursion}
use Rattle.std.specs.Io.KnownBytes.{Appends}
use Rattle.std.proofs.KnownBytes.{Appends-nil, Appends-trans}
use Rattle.cm_can.specs.declared.format.Format.{Format}
use Rattle.cm_can.specs.declared.frame.CanFrame.{CanFrame}
use Rattle.cm_bus.specs.Outlets.{IsLine, Writes, WritesFront}
use Rattle.cm_bus.specs.Sent.{AreFrameLines, AreWrittenFrom, HasWritten, IsHadBy}
use Rattle.cm_bus.specs.declared.outlet.Outlet.{Outlet}

all_and_one : (Is : CanFrame → Type 0) (fs : List CanFrame) (f : CanFrame) → AllByRecursion Is fs → Is f → AllByRecursion Is (fs ++ f ∷ [])
all_and_one Is [] f all is = (is, tt)
all_and_one Is (g ∷ fs) f all is = (all.0, all_and_one Is fs f all.1 is)

lines_and_one : (format : Format) (fs : List CanFrame) (f : CanFrame) (text line : List ℕ) → AreFrameLines format fs text → IsLine format f line → AreFrameLines format (fs ++ f ∷ []) (text ++ line)
lines_and_one format [] f text line lines is =
    (line, [], is, refl, ap (λ (t : List ℕ). t ++ line) lines ∙ sym (append-nil line))
lines_and_one format (g ∷ fs) f text line lines is = (
  lines.0,
  lines.1 ++ line,
  lines.2,
  lines_and_one format fs f lines.1 line lines.3 is,
  ap (λ (t : List ℕ). t ++ line) lines.4 ∙ append_assoc lines.0 lines.1 line,
)

nth_of : {W : Type 0} (contents : W → Option (List ℕ)) (before : List W) (w : W) (after : List W) → get_or (map contents (before ++ w ∷ after)) (length before) None ≡ contents w
nth_of contents [] w after = refl
nth_of contents (v ∷ before) w after = nth_of contents before w after

-- nothing was written yet
pub written_none : {W : Type 0} (Is : CanFrame → Type 0) (contents : W → Option (List ℕ)) (format : Format) (before : Option (List ℕ)) (o : Outlet W)
    → o.format ≡ format → contents o.writer ≡ before → HasWritten Is contents format before o
written_none {W} Is contents format before o spelled had = record {
  spelled = spelled;
  frames = [];
  each = tt;
  text = [];
  lines = refl;
  front = ([], [], refl, subst (λ (c : Option (List ℕ)). Appends before c []) (sym had) (Appends-nil before));
  all = λ _. subst (λ (c : Option (List ℕ)). Appends before c []) (sym had) (Appends-nil before);
}

module _ {W : Type 0} (Is : CanFrame → Type 0) (contents : W → Option (List ℕ)) (format : Format) (before : Option (List ℕ)) (old new : Outlet W) (f : CanFrame)
    (had : HasWritten Is contents format before old) (is : Is f) (spelled : new.format ≡ old.format) where
  -- no write has failed by now
  written_whole : old.failed ≡ false → new.failed ≡ false → Writes old.format f (contents old.writer) (contents new.writer) → HasWritten Is contents format before new
  written_whole well well' w =
      let one : Writes format f (contents old.writer) (contents new.writer) =
      subst (λ (k : Format). Writes k f (contents old.writer) (contents new.writer)) had.spelled w in
      let got : Appends before (contents new.writer) (had.text ++ one.0) =
      Appends-trans before (contents old.writer) (contents new.writer) had.text one.0 (had.all well) one.2 in
      record {
        spelled = spelled ∙ had.spelled;
        frames = had.frames ++ f ∷ [];
        each = all_and_one Is had.frames f had.each is;
        text = had.text ++ one.0;
        lines = lines_and_one format had.frames f had.text one.0 had.lines one.1;
        front = (had.text ++ one.0, [], append-nil (had.text ++ one.0), got);
        all = λ _. got;
      }

  -- this write has failed
  written_front : old.failed ≡ false → new.failed ≡ true → WritesFront old.format f (contents old.writer) (contents new.writer) → HasWritten Is contents format before new
  written_front well stopped w =
      let one : WritesFront format f (contents old.writer) (contents new.writer) =
      subst (λ (k : Format). WritesFront k f (contents old.writer) (contents new.writer)) had.spelled w in
      let front = one.2.0 in
      let rest = one.2.1 in
      record {
        spelled = spelled ∙ had.spelled;
        frames = had.frames ++ f ∷ [];
        each = all_and_one Is had.frames f had.each is;
        text = had.text ++ one.0;
        lines = lines_and_one format had.frames f had.text one.0 had.lines one.1;
        front = (
          had.text ++ front,
          rest,
          append_assoc had.text front rest ∙ ap (λ (t : List ℕ). had.text ++ t) one.2.2,
          Appends-trans before (contents old.writer) (contents new.writer) had.text front (had.all well) one.2.3,
        );
        all = λ h. absurd (true≢false (sym stopped ∙ h));
      }

  -- a frame was handed to the outlet
  pub written_more : (was has : Bool) → old.failed ≡ was → new.failed ≡ has
      → (new.failed ≡ false → Writes old.format f (contents old.writer) (contents new.writer))
      → (old.failed ≡ false → WritesFront old.format f (contents old.writer) (contents new.writer))
      → (old.failed ≡ true → new ≡ old) → HasWritten Is contents format before new
  written_more true has w h writes fronts stops = subst (λ (o : Outlet W). HasWritten Is contents format before o) (sym (stops w)) had
  written_more false false w h writes fronts stops = written_whole w h (writes h)
  written_more false true w h writes fronts stops = written_front w h (fronts w)

-- the writer behind these is the one of this number
pub had_next : {W : Type 0} (contents : W → Option (List ℕ)) (had : Option ℕ → Option (List ℕ)) (all before after : List W) (w : W) → IsHadBy contents had all
    → before ++ w ∷ after ≡ all → contents w ≡ had (Some (length before))
had_next {W} contents had all before after w is e =
    sym (is (length before) ∙ (ap (λ (ws : List W). get_or (map contents ws) (length before) None) (sym e) ∙ nth_of contents before w after))

-- one outlet more, of the worker behind these
pub written_behind : {W : Type 0} (Is : CanFrame → Type 0) (contents : W → Option (List ℕ)) (format : Format) (had : Option ℕ → Option (List ℕ)) (k : ℕ) (os : List (Outlet W)) (o : Outlet W)
    → AreWrittenFrom Is contents format had k os → HasWritten Is contents format (had (Some (k + length os))) o → AreWrittenFrom Is contents format had k (os ++ o ∷ [])
written_behind Is contents format had k [] o is w = (subst (λ (n : ℕ). HasWritten Is contents format (had (Some n)) o) (omega (arith)) w, tt)
written_behind {W} Is contents format had k (p ∷ os) o is w = (
  is.0,
  written_behind Is contents format had (k + 1) os o is.1 (subst (λ (n : ℕ). HasWritten Is contents format (had (Some n)) o) (omega (arith)) w),
)
