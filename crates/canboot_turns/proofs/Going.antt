-- What is kept of a live run goes on from step to step.
use Rattle.std.proofs.Common.{◌≡◌, ◌<◌, ◌≤◌, arith, ℕ, List, [], ◌∷◌, ◌++◌, Option, Some, None, Result, Ok, Err, Bool, true, false, refl, sym, subst, ◌∙◌, append_assoc, ap}
use Rattle.std.specs.Prelude.{IfNone, IfOk}
use Rattle.std.specs.Result.{IsErrAnd}
use Rattle.std.proofs.lemmas.List.{append-nil}
use Rattle.cm_crew.specs.CallsMade.{calls_made}
use Rattle.cm_history.specs.declared.call.Call.{Call}
use Rattle.cm_history.specs.declared.call.Entry.{Entry}
use Rattle.cm_operator.specs.Console.{asked_by}
use Rattle.cm_operator.specs.declared.console.Command.{Command}
use Rattle.cm_can.specs.declared.format.Format.{Format}
use Rattle.cm_receiving.specs.Places.{IsControlAt, LineStandsIn}
use Rattle.cm_receiving.specs.declared.notification.Notification.{Notification}
use Rattle.cm_receiving.specs.declared.notification.Notification.TheVariants as live
use Rattle.cm_netlist.specs.Network.{Network}
use Rattle.cm_register.specs.SeatViews.{SeatView}
use Rattle.cm_telling.proofs.Tries.{same_tries}
use Rattle.cm_watched.specs.Guarding.{heard_at, heard_if}
use Rattle.cm_watched.specs.Pasts.{Past}
use Rattle.cm_watch.specs.ErrorControl.{error_control_at}
use Rattle.cm_watch.specs.Steps.{given, steps_at}
use Rattle.cm_telling.specs.Tried.{Tries, may_change_boots}
use Rattle.cm_telling.specs.Waiting.{Tells}
use Rattle.cm_watch.specs.Watches.{Watches}
use Rattle.cm_watched.specs.declared.happening.Happening.TheVariants as happening
use Rattle.cm_watched.specs.declared.happening.Moment.{Moment}
use Rattle.cm_watched.specs.declared.happening.Moment.TheVariants as moment
use Rattle.cm_watched.specs.declared.happening.Step.{Step}
use Rattle.cm_telling.specs.declared.in_order.Placed.{Placed}
use Rattle.cm_watched.specs.declared.settings.Settings.{Settings}
use Rattle.cm_telling.specs.declared.tried.Tried.{Tried}
use Rattle.cm_telling.specs.declared.waiting.Untold.{Untold}
use Rattle.cm_telling.specs.declared.waiting.Waiting.{Waiting}
use Rattle.canboot_turns.specs.Asking.{calls_asked}
use Rattle.canboot_turns.specs.Causes.{Any, AreCauses, Cause, Course, Ended, EndsAsAsked, Entered, GoesOn, GoesOnAs, HasGoneOn, HasSent, Heard, IsAskedToEnd, IsCause, Made, NoMoreTyped, Obeyed, Sent, Stand, calls_behind, calls_by, past_behind, past_by}
use Rattle.canboot_turns.specs.Ending.{is_ended_by}
use Rattle.canboot_turns.specs.Going.{Follows, HasObeyedLine, HasQuit, HasTaken, counts_by, counts_in, placed_by, placed_in}
use Rattle.canboot_turns.specs.declared.progress.Progress.{Progress}

-- ---- what a clause says where nothing came

pub none_then : {X P Q : Type 0} (r : Option X) → IfNone r P → (P → Q) → IfNone r Q
none_then None p f = f p
none_then (Some x) p f = tt

-- what two clauses say of a result
pub both_ok : {X E P Q S : Type 0} (r : Result X E) → IfOk r (λ _. P) → IfOk r (λ _. Q) → (P → Q → S) → IfOk r (λ _. S)
both_ok (Ok x) p q f = f p q
both_ok (Err e) p q f = tt

-- what holds whatever comes of it
pub ok_always : {X E P : Type 0} (r : Result X E) → P → IfOk r (λ _. P)
ok_always (Ok x) p = p
ok_always (Err e) p = tt

-- an error that is passed on as it is
pub passed_on : {X Y E : Type 0} (r : Result X E) (q : Result Y E) (x a : E) → r ≡ Err x → IsErrAnd q (λ y. y ≡ x) → q ≡ Err a → r ≡ Err a
passed_on {X} {Y} {E} r q x a was gave is = was ∙ ap Err (sym (subst (λ (s : Result Y E). IsErrAnd s (λ y. y ≡ x)) is gave))

-- ---- moments that are no entries

no_entry : (m : Moment) (placed : List (Placed Entry)) → may_change_boots m ≡ false → placed_by m placed ≡ placed
no_entry (moment.Happened (happening.Heard j b)) placed other = refl
no_entry (moment.Happened (happening.Called e)) placed other = absurd (cc)
no_entry (moment.Happened (happening.Ended j)) placed other = refl
no_entry (moment.Happened (happening.Asked j)) placed other = refl
no_entry (moment.Happened (happening.Ends at)) placed other = refl
no_entry (moment.Gave x) placed other = refl

no_count : (net : Network) (m : Moment) (counts : List ℕ) → may_change_boots m ≡ false → counts_by net m counts ≡ counts
no_count net (moment.Happened (happening.Heard j b)) counts other = refl
no_count net (moment.Happened (happening.Called e)) counts other = absurd (cc)
no_count net (moment.Happened (happening.Ended j)) counts other = refl
no_count net (moment.Happened (happening.Asked j)) counts other = refl
no_count net (moment.Happened (happening.Ends at)) counts other = refl
no_count net (moment.Gave x) counts other = refl

-- what waits, by another name
pub tells_same : (u v : Waiting Entry) (arrived ps qs : List (Placed Entry)) (said : List (Untold Entry)) (cs ds : List ℕ) → v ≡ u → qs ≡ ps → ds ≡ cs → Tells u arrived ps said cs → Tells v arrived qs said ds
tells_same u v arrived ps qs said cs ds same placed counts t =
    subst (λ (w : Waiting Entry). Tells w arrived qs said ds) (sym same)
    (subst (λ (xs : List (Placed Entry)). Tells u arrived xs said ds) (sym placed)
    (subst (λ (ns : List ℕ). Tells u arrived ps said ns) (sym counts) t))

-- the watch was told of a moment that is no entry
pub noted : (old new : Progress Entry) (net : Network) (s : Settings) (past : Past) (now : ℕ) (m : Moment) → may_change_boots m ≡ false → new.tried ≡ old.tried → new.waiting ≡ old.waiting
    → Follows old net s past → Watches new.watch net s ((now, m) ∷ past) → Follows new net s ((now, m) ∷ past)
noted old new net s past now m other tried waiting f w = record {
  watches = w;
  tries = subst (λ (t : Tried). Tries t ((now, m) ∷ past)) (sym tried) (same_tries old.tried now m past other f.tries);
  arrived = f.arrived;
  said = f.said;
  tells = tells_same old.waiting new.waiting f.arrived (placed_in past) (placed_in ((now, m) ∷ past)) f.said (counts_in net past) (counts_in net ((now, m) ∷ past)) waiting (no_entry m (placed_in past) other) (no_count net m (counts_in net past) other) f.tells;
}

-- the watch was told of an error control message, where it counts
pub heard_follows : (old new : Progress Entry) (net : Network) (s : Settings) (past : Past) (now i b : ℕ) (counted : Bool) → new.tried ≡ old.tried → new.waiting ≡ old.waiting
    → Follows old net s past → Watches new.watch net s (heard_if counted now i b ++ past) → Follows new net s (heard_if counted now i b ++ past)
heard_follows old new net s past now i b true tried waiting f w = noted old new net s past now (moment.Happened (happening.Heard i b)) refl tried waiting f w
heard_follows old new net s past now i b false tried waiting f w = record {
  watches = w;
  tries = subst (λ (t : Tried). Tries t past) (sym tried) f.tries;
  arrived = f.arrived;
  said = f.said;
  tells = tells_same old.waiting new.waiting f.arrived (placed_in past) (placed_in past) f.said (counts_in net past) (counts_in net past) waiting refl refl f.tells;
}

-- ---- steps that were given

-- one step more
pub given_more : (now : ℕ) (steps : List Step) (x : Step) (past : Past) → given now (steps ++ x ∷ []) past ≡ (now, moment.Gave x) ∷ given now steps past
given_more now [] x past = refl
given_more now (y ∷ steps) x past = given_more now steps x ((now, moment.Gave y) ∷ past)

-- steps add no entry
placed_given : (now : ℕ) (steps : List Step) (past : Past) → placed_in (given now steps past) ≡ placed_in past
placed_given now [] past = refl
placed_given now (x ∷ steps) past = placed_given now steps ((now, moment.Gave x) ∷ past)

counts_given : (net : Network) (now : ℕ) (steps : List Step) (past : Past) → counts_in net (given now steps past) ≡ counts_in net past
counts_given net now [] past = refl
counts_given net now (x ∷ steps) past = counts_given net now steps ((now, moment.Gave x) ∷ past)

pub follows_given : (old new : Progress Entry) (net : Network) (s : Settings) (past : Past) (now : ℕ) (steps : List Step) → new.waiting ≡ old.waiting
    → Follows old net s past → Watches new.watch net s (given now steps past) → Tries new.tried (given now steps past) → Follows new net s (given now steps past)
follows_given old new net s past now steps waiting f w tries = record {
  watches = w;
  tries = tries;
  arrived = f.arrived;
  said = f.said;
  tells = tells_same old.waiting new.waiting f.arrived (placed_in past) (placed_in (given now steps past)) f.said (counts_in net past) (counts_in net (given now steps past)) waiting (placed_given now steps past) (counts_given net now steps past) f.tells;
}

-- ---- one thing after the other

-- no call was made
no_calls : (old new : SeatView) → new ≡ old → calls_made new ≡ calls_made old ++ []
no_calls old new same = ap calls_made same ∙ sym (append-nil (calls_made old))

past_more : (net : Network) (s : Settings) (ys xs : List Cause) (past : Past) → past_behind net s (ys ++ xs) past ≡ past_behind net s ys (past_behind net s xs past)
past_more net s [] xs past = refl
past_more net s (y ∷ ys) xs past = ap (λ (q : Past). past_by net s y q) (past_more net s ys xs past)

calls_more : (net : Network) (s : Settings) (ys xs : List Cause) (past : Past) → calls_behind net s (ys ++ xs) past ≡ calls_behind net s xs past ++ calls_behind net s ys (past_behind net s xs past)
calls_more net s [] xs past = sym (append-nil (calls_behind net s xs past))
calls_more net s (y ∷ ys) xs past =
    let q : Past = past_behind net s xs past in
    ap (λ (l : List Call). l ++ calls_by net s y (past_behind net s (ys ++ xs) past)) (calls_more net s ys xs past)
    ∙ (ap (λ (p : Past). (calls_behind net s xs past ++ calls_behind net s ys q) ++ calls_by net s y p) (past_more net s ys xs past)
    ∙ append_assoc (calls_behind net s xs past) (calls_behind net s ys q) (calls_by net s y (past_behind net s ys q)))

-- what is said of what happened stays so whatever happened before
abbrev pub Keeps : Course → Type 0
Keeps C = (net : Network) (s : Settings) (ys xs : List Cause) (past : Past) → C net s ys (past_behind net s xs past) → C net s (ys ++ xs) past

pub keeps_any : Keeps Any
keeps_any net s ys xs past h = tt

pub keeps_sent : (at : ℕ) → Keeps (HasSent at)
keeps_sent at net s (Sent now ∷ ys) xs past h = h
keeps_sent at net s _ xs past h = absurd h

keeps_end : Keeps EndsAsAsked
keeps_end net s (Obeyed now place line ∷ ys) xs past h = h
keeps_end net s (Made now ∷ ys) xs past h = subst (λ (q : Past). is_ended_by (steps_at net s q now) ≡ true) (sym (past_more net s ys xs past)) h
keeps_end net s _ xs past h = absurd h

module _ (format : Format) (received typed : Option (List ℕ)) where
  -- a cause holds behind a later place too
  later_cause : (x : Cause) (from mid upto : ℕ) → mid ≤ upto → IsCause format received typed x from mid → IsCause format received typed x from upto
  later_cause (Heard now place i b) from mid upto le c = (c.0, omega (arith, le, c.1), c.2)
  later_cause (Obeyed now place line) from mid upto le c = (omega (arith, le, c.0), c.1)
  later_cause (Entered now entries) from mid upto le c = omega (arith, le, c)
  later_cause (Ended now i) from mid upto le c = omega (arith, le, c)
  later_cause (NoMoreTyped now seconds) from mid upto le c = omega (arith, le, c)
  later_cause (Sent now) from mid upto le c = omega (arith, le, c)
  later_cause (Made now) from mid upto le c = omega (arith, le, c)

  later_causes : (xs : List Cause) (from mid upto : ℕ) → mid ≤ upto → AreCauses format received typed xs from mid → AreCauses format received typed xs from upto
  later_causes [] from mid upto le c = omega (arith, le, c)
  later_causes (x ∷ xs) from mid upto le c = (c.0, c.1, later_cause x c.0 mid upto le c.2)

  causes_more : (ys xs : List Cause) (from mid upto : ℕ) → AreCauses format received typed xs from mid → AreCauses format received typed ys mid upto → AreCauses format received typed (ys ++ xs) from upto
  causes_more [] xs from mid upto a b = later_causes xs from mid upto b a
  causes_more (y ∷ ys) xs from mid upto a b = (b.0, causes_more ys xs from mid b.0 a b.1, b.2)

  -- one cause alone, by which nothing is heard
  pub alone : (x : Cause) (from upto : ℕ) → upto ≡ from → IsCause format received typed x from upto → AreCauses format received typed (x ∷ []) from upto
  alone x from upto same c = (from, (let z : from ≤ from = omega arith in z), c)

  -- what goes on from what went on
  on_from : (C D : Course) → Keeps C → (s : Settings) (past : Past) (a b c : Stand) → b.net ≡ a.net → (o : HasGoneOn D format received typed s past a b)
      → HasGoneOn C format received typed s (past_behind a.net s o.causes past) b c → HasGoneOn C format received typed s past a c
  on_from C D keeps s past a b c net o h =
      let q : Past = past_behind a.net s o.causes past in
      record {
        causes = h.causes ++ o.causes;
        each = causes_more h.causes o.causes a.heard b.heard c.heard o.each h.each;
        follows = subst (λ (p : Past). Follows c.progress a.net s p) (sym (past_more a.net s h.causes o.causes past))
            (subst (λ (n : Network). Follows c.progress n s (past_behind n s h.causes q)) net h.follows);
        made =
            subst (λ (n : Network). calls_made c.seat ≡ calls_made b.seat ++ calls_behind n s h.causes q) net h.made
            ∙ (ap (λ (l : List Call). l ++ calls_behind a.net s h.causes q) o.made
            ∙ (append_assoc (calls_made a.seat) (calls_behind a.net s o.causes past) (calls_behind a.net s h.causes q)
            ∙ ap (λ (l : List Call). calls_made a.seat ++ l) (sym (calls_more a.net s h.causes o.causes past))));
        course = keeps a.net s h.causes o.causes past (subst (λ (n : Network). C n s h.causes q) net h.course);
      }

  pub on_as : (C D : Course) → Keeps C → (a b c : Stand) → GoesOnAs D format received typed a b → GoesOnAs C format received typed b c → GoesOnAs C format received typed a c
  on_as C D keeps a b c one two = record {
    network = two.network ∙ one.network;
    goes_on = λ s past f.
        let o = one.goes_on s past f in
        let q : Past = past_behind a.net s o.causes past in
        on_from C D keeps s past a b c one.network o (two.goes_on s q (subst (λ (n : Network). Follows b.progress n s q) (sym one.network) o.follows));
  }

  pub on_and_on : (a b c : Stand) → GoesOn format received typed a b → GoesOn format received typed b c → GoesOn format received typed a c
  on_and_on a b c one two = on_as Any Any keeps_any a b c one two

  -- whatever is said of it
  pub on_any : (C : Course) (a b : Stand) → GoesOnAs C format received typed a b → GoesOn format received typed a b
  on_any C a b g = record {
    network = g.network;
    goes_on = λ s past f. let h = g.goes_on s past f in record { causes = h.causes; each = h.each; follows = h.follows; made = h.made; course = tt };
  }

  -- the run ends as it was asked to behind what went on
  pub asked_on : (a b c : Stand) → GoesOn format received typed a b → IsAskedToEnd format received typed b c → IsAskedToEnd format received typed a c
  asked_on a b c one asked = λ s past f.
      let o = one.goes_on s past f in
      let q : Past = past_behind a.net s o.causes past in
      on_from EndsAsAsked Any keeps_end s past a b c one.network o (asked s q (subst (λ (n : Network). Follows b.progress n s q) (sym one.network) o.follows))

  -- ---- one thing

  -- nothing happened
  pub still : (a b : Stand) → b.net ≡ a.net → b.seat ≡ a.seat → b.heard ≡ a.heard → ((s : Settings) (past : Past) → Follows a.progress a.net s past → Follows b.progress a.net s past)
      → GoesOn format received typed a b
  still a b net seat heard follows = record {
    network = net;
    goes_on = λ s past f. record { causes = []; each = omega (arith, heard); follows = follows s past f; made = no_calls a.seat b.seat seat; course = tt };
  }

  typed_on : (a b : Stand) (s : Settings) (past : Past) (now : ℕ) → b.heard ≡ a.heard
      → HasObeyedLine typed b.progress a.net s past now a.seat b.seat → HasGoneOn Any format received typed s past a b
  typed_on a b s past now heard line =
      record {
        causes = Obeyed now line.place line.line ∷ [];
        each = alone (Obeyed now line.place line.line) a.heard b.heard heard (omega (arith, heard), line.stands);
        follows = line.follows;
        made = line.made;
        course = tt;
      }

  -- what was taken
  taken_on : (h : Notification) (seconds : Option ℕ) (a b : Stand) (s : Settings) (past : Past) (now : ℕ) → b.heard ≡ a.heard
      → HasTaken h seconds typed b.progress a.net s past now a.seat b.seat → HasGoneOn Any format received typed s past a b
  taken_on (live.Ended i fault) seconds a b s past now heard t =
      record { causes = Ended now i ∷ []; each = alone (Ended now i) a.heard b.heard heard (omega (arith, heard)); follows = t.1; made = no_calls a.seat b.seat t.0; course = tt }
  taken_on (live.Entered position e) seconds a b s past now heard t =
      record {
        causes = Entered now t.1.entries ∷ [];
        each = alone (Entered now t.1.entries) a.heard b.heard heard (omega (arith, heard));
        follows = t.1.follows;
        made = no_calls a.seat b.seat t.0;
        course = tt;
      }
  taken_on live.Typed seconds a b s past now heard t = typed_on a b s past now heard t
  taken_on live.NoMoreTyped seconds a b s past now heard t =
      record {
        causes = NoMoreTyped now seconds ∷ [];
        each = alone (NoMoreTyped now seconds) a.heard b.heard heard (omega (arith, heard));
        follows = t.1;
        made = no_calls a.seat b.seat t.0;
        course = tt;
      }
  taken_on _ seconds a b s past now heard t = record { causes = []; each = omega (arith, heard); follows = t.1; made = no_calls a.seat b.seat t.0; course = tt }

  pub happened_on : (h : Notification) (seconds : Option ℕ) (a b : Stand) (now : ℕ) → b.net ≡ a.net → b.heard ≡ a.heard
      → ((s : Settings) (past : Past) → Follows a.progress a.net s past → HasTaken h seconds typed b.progress a.net s past now a.seat b.seat) → GoesOn format received typed a b
  happened_on h seconds a b now net heard told = record {
    network = net;
    goes_on = λ s past f. taken_on h seconds a b s past now heard (told s past f);
  }

  -- a message was passed over
  pub passed_over : (a b : Stand) → b.net ≡ a.net → b.seat ≡ a.seat → b.progress ≡ a.progress → a.heard < b.heard → GoesOn format received typed a b
  passed_over a b net seat progress behind = record {
    network = net;
    goes_on = λ s past f. record {
      causes = [];
      each = omega (arith, behind);
      follows = subst (λ (p : Progress Entry). Follows p a.net s past) (sym progress) f;
      made = no_calls a.seat b.seat seat;
      course = tt;
    };
  }

  -- an error control message came
  pub heard_on : (a b : Stand) (now place i byte : ℕ) → b.net ≡ a.net → b.seat ≡ a.seat → a.heard < place → b.heard ≡ place → IsControlAt format received place i byte
      → ((s : Settings) (past : Past) → Follows a.progress a.net s past → Follows b.progress a.net s (heard_at a.net past now i byte ++ past)) → GoesOn format received typed a b
  heard_on a b now place i byte net seat behind upto stands told = record {
    network = net;
    goes_on = λ s past f. record {
      causes = Heard now place i byte ∷ [];
      each = (a.heard, (let z : a.heard ≤ a.heard = omega arith in z), (behind, omega (arith, upto), stands));
      follows = told s past f;
      made = no_calls a.seat b.seat seat;
      course = tt;
    };
  }

  -- the end of the run was asked for by a line
  pub quit_on : (a b : Stand) (now place : ℕ) (line : List ℕ) → b.heard ≡ a.heard → LineStandsIn typed place line
      → HasQuit (asked_by line) now a.net a.progress a.seat b.progress b.seat → IsAskedToEnd format received typed a b
  quit_on a b now place line heard stands q = λ s past f.
      record {
        causes = Obeyed now place line ∷ [];
        each = alone (Obeyed now place line) a.heard b.heard heard (omega (arith, heard), stands);
        follows = q.told s past f;
        made = q.made ∙ (sym (append-nil (calls_made a.seat)) ∙ ap (λ (o : Option Command). calls_made a.seat ++ calls_asked o a.net past) (sym q.quit));
        course = q.quit;
      }

  -- what the watch gives for error control was sent
  pub sent_on : (a b : Stand) (at : ℕ) → b.net ≡ a.net → b.seat ≡ a.seat → b.heard ≡ a.heard
      → ((s : Settings) (past : Past) → Follows a.progress a.net s past → Follows b.progress a.net s (given at (error_control_at a.net s past at) past))
      → GoesOnAs (HasSent at) format received typed a b
  sent_on a b at net seat heard sent = record {
    network = net;
    goes_on = λ s past f. record {
      causes = Sent at ∷ [];
      each = alone (Sent at) a.heard b.heard heard (omega (arith, heard));
      follows = sent s past f;
      made = no_calls a.seat b.seat seat;
      course = refl;
    };
  }
