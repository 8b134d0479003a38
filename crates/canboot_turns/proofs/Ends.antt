-- How a turn ends: its steps were made, unless what is received has to be read first, or the run ends with them.
use Rattle.std.proofs.Common.{◌≡◌, ◌≤◌, arith, ℕ, Bool, true, false, List, ◌∷◌, ◌++◌, Option, refl, sym, subst, ap, ◌∙◌, append_assoc}
use Rattle.std.specs.Prelude.{None, Some, filter_map, is_none, is_some}
use Rattle.cm_can.specs.declared.format.Format.{Format}
use Rattle.cm_crew.specs.CallsMade.{calls_made}
use Rattle.cm_history.specs.declared.call.Call.{Call}
use Rattle.cm_netlist.specs.Network.{Network}
use Rattle.cm_watch.specs.Steps.{given, steps_at}
use Rattle.cm_watched.specs.Pasts.{Past}
use Rattle.cm_watched.specs.declared.settings.Settings.{Settings}
use Rattle.canboot_turns.specs.Causes.{Cause, Course, EndsAsAsked, GoesOnAs, HasGoneOn, HasSent, HasTurned, IsAskedToEnd, Made, Sent, Stand, calls_behind, past_behind}
use Rattle.canboot_turns.specs.Ending.{is_ended_by}
use Rattle.canboot_turns.specs.Going.{Follows}
use Rattle.canboot_turns.specs.Steps.{HasMade, call_for}

sent_late : (at : ℕ) (net : Network) (s : Settings) (xs : List Cause) (past : Past) → HasSent at net s xs past → HasTurned true at net s xs past
sent_late at net s (Sent now ∷ xs) past h = h
sent_late at net s _ past h = absurd h

sent_made : (at : ℕ) (net : Network) (s : Settings) (xs : List Cause) (past : Past) → HasSent at net s xs past → HasTurned false at net s (Made at ∷ xs) past
sent_made at net s (Sent now ∷ xs) past h = (refl, h)
sent_made at net s _ past h = absurd h

-- whether there is something, by whether there is nothing
pub some_if : {A : Type 0} (o : Option A) → is_none o ≡ false → true ≡ is_some o
some_if (Some x) is = refl
some_if None is = absurd (let p : true ≡ false = is in cc)

pub none_if : {A : Type 0} (o : Option A) → is_none o ≡ true → false ≡ is_some o
none_if (Some x) is = absurd (let p : false ≡ true = is in cc)
none_if None is = refl

-- in the same network the steps of a time were given, and made
abbrev pub GivesSteps : Stand → Stand → ℕ → Type 0
GivesSteps b c at = (s : Settings) (past : Past) → Follows b.progress b.net s past → Follows c.progress b.net s (given at (steps_at b.net s past at) past)

abbrev pub MakesSteps : Stand → Stand → ℕ → Type 0
MakesSteps b c at = (s : Settings) (past : Past) → Follows b.progress b.net s past → HasMade (steps_at b.net s past at) b.seat c.seat

module _ (format : Format) (received typed : Option (List ℕ)) where
  -- no step was made, since what is received has to be read first
  pub late_on : (a b : Stand) (at : ℕ) (late : Bool) → true ≡ late → GoesOnAs (HasSent at) format received typed a b → GoesOnAs (HasTurned late at) format received typed a b
  late_on a b at late so g = record {
    network = g.network;
    goes_on = λ s past f.
        let h = g.goes_on s past f in
        record {
          causes = h.causes;
          each = h.each;
          follows = h.follows;
          made = h.made;
          course = subst (λ (l : Bool). HasTurned l at a.net s h.causes past) so (sent_late at a.net s h.causes past h.course);
        };
  }

  -- all steps were made behind what was sent
  made_behind : (C : Course) (a b c : Stand) (at : ℕ) (g : GoesOnAs (HasSent at) format received typed a b) → c.heard ≡ b.heard → GivesSteps b c at → MakesSteps b c at
      → (s : Settings) (past : Past) (f : Follows a.progress a.net s past) → C a.net s (Made at ∷ (g.goes_on s past f).causes) past → HasGoneOn C format received typed s past a c
  made_behind C a b c at g heard turned made s past f course =
      let o = g.goes_on s past f in
      let q : Past = past_behind a.net s o.causes past in
      let h : Follows b.progress b.net s q = subst (λ (n : Network). Follows b.progress n s q) (sym g.network) o.follows in
      record {
        causes = Made at ∷ o.causes;
        each = (b.heard, o.each, omega (arith, heard));
        follows = subst (λ (n : Network). Follows c.progress n s (given at (steps_at n s q at) q)) g.network (turned s q h);
        made =
            subst (λ (n : Network). HasMade (steps_at n s q at) b.seat c.seat) g.network (made s q h)
            ∙ (ap (λ (l : List Call). l ++ filter_map call_for (steps_at a.net s q at)) o.made
            ∙ append_assoc (calls_made a.seat) (calls_behind a.net s o.causes past) (filter_map call_for (steps_at a.net s q at)));
        course = course;
      }

  pub turned_on : (a b c : Stand) (at : ℕ) (late : Bool) → false ≡ late → GoesOnAs (HasSent at) format received typed a b → c.net ≡ b.net → c.heard ≡ b.heard → GivesSteps b c at → MakesSteps b c at
      → GoesOnAs (HasTurned late at) format received typed a c
  turned_on a b c at late so g net heard turned made = record {
    network = net ∙ g.network;
    goes_on = λ s past f.
        let o = g.goes_on s past f in
        made_behind (HasTurned late at) a b c at g heard turned made s past f
        (subst (λ (l : Bool). HasTurned l at a.net s (Made at ∷ o.causes) past) so (sent_made at a.net s o.causes past o.course));
  }

  -- and the run ends with them
  pub ended_on : (a b c : Stand) (at : ℕ) → GoesOnAs (HasSent at) format received typed a b → c.heard ≡ b.heard → GivesSteps b c at → MakesSteps b c at
      → ((s : Settings) (past : Past) → Follows b.progress b.net s past → is_ended_by (steps_at b.net s past at) ≡ true) → IsAskedToEnd format received typed a c
  ended_on a b c at g heard turned made ended = λ s past f.
      let o = g.goes_on s past f in
      let q : Past = past_behind a.net s o.causes past in
      made_behind EndsAsAsked a b c at g heard turned made s past f
      (subst (λ (n : Network). is_ended_by (steps_at n s q at) ≡ true) g.network (ended s q (subst (λ (n : Network). Follows b.progress n s q) (sym g.network) o.follows)))
