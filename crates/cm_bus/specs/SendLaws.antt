-- What an outlet sent, one moment behind another: the laws that a port proves.
use Rattle.std.proofs.Common.{◌≡◌, ℕ, Bool, true, false, true≢false, List, [], ◌∷◌, ◌++◌, Option, refl, ap, sym, ◌∙◌, subst, append_assoc, append-nil}
use Rattle.std.proofs.KnownBytes.{Appends-nil, Appends-trans}
use Rattle.cm_can.specs.declared.format.Format.{Format}
use Rattle.cm_can.specs.declared.frame.CanFrame.{CanFrame}
use Rattle.cm_bus.specs.Outlets.{Writes}
use Rattle.cm_bus.specs.Sent.{AreFrameLines, Sends, WritesFrames}
use Rattle.cm_bus.specs.declared.outlet.Outlet.{Outlet}

-- where no write has failed, none had before
well_before : {W : Type 0} (old new : Outlet W) (was : Bool) → old.failed ≡ was → (old.failed ≡ true → new ≡ old) → new.failed ≡ false → old.failed ≡ false
well_before {W} old new true is stops well =
    absurd (true≢false (sym is ∙ (sym (ap (λ (o : Outlet W). o.failed) (stops is)) ∙ well)))
well_before old new false is stops well = is

-- the lines of some frames, and of others behind them
pub lines_append : (format : Format) (fs gs : List CanFrame) (s t : List ℕ) → AreFrameLines format fs s → AreFrameLines format gs t → AreFrameLines format (fs ++ gs) (s ++ t)
lines_append format [] gs s t a b = subst (λ (u : List ℕ). AreFrameLines format gs (u ++ t)) (sym a) b
lines_append format (f ∷ fs) gs s t a b =
    (a.0, a.1 ++ t, a.2, lines_append format fs gs a.1 t a.3 b, ap (λ (u : List ℕ). u ++ t) a.4 ∙ append_assoc a.0 a.1 t)

-- nothing was sent
pub sends_none : {W : Type 0} (contents : W → Option (List ℕ)) (o : Outlet W) → Sends contents o [] o
sends_none {W} contents o = record { format = refl; stopped = λ _. refl; written = λ _. ([], refl, Appends-nil (contents o.writer)) }

-- one frame was
pub sends_one : {W : Type 0} (contents : W → Option (List ℕ)) (old new : Outlet W) (f : CanFrame) → new.format ≡ old.format → (old.failed ≡ true → new ≡ old)
    → (new.failed ≡ false → Writes old.format f (contents old.writer) (contents new.writer)) → Sends contents old (f ∷ []) new
sends_one {W} contents old new f spelled stops writes = record {
  format = spelled;
  stopped = stops;
  written = λ h. let w = writes h in (w.0, (w.0, [], w.1, refl, sym (append-nil w.0)), w.2);
}

-- some were, and then others
pub sends_more : {W : Type 0} (contents : W → Option (List ℕ)) (a b c : Outlet W) (fs gs : List CanFrame) → Sends contents a fs b → Sends contents b gs c → Sends contents a (fs ++ gs) c
sends_more {W} contents a b c fs gs x y = record {
  format = y.format ∙ x.format;
  stopped = λ h. let e = x.stopped h in y.stopped (ap (λ (o : Outlet W). o.failed) e ∙ h) ∙ e;
  written = λ h.
      let u = x.written (well_before b c b.failed refl y.stopped h) in
      let v = subst (λ (k : Format). WritesFrames k gs (contents b.writer) (contents c.writer)) x.format (y.written h) in
      (u.0 ++ v.0, lines_append a.format fs gs u.0 v.0 u.1 v.1, Appends-trans (contents a.writer) (contents b.writer) (contents c.writer) u.0 v.0 u.2 v.2);
}
