-- What the attempts at a slave leave in the log of a live bus.
use Rattle.std.proofs.Common.{◌≡◌, ◌≤◌, ◌+◌, ◌*◌, ℕ, Bool, false, List, [], ◌∷◌, ◌++◌, length, sym, ap, subst, ◌∙◌, append_assoc, arith, length-append}
use Rattle.std.specs.Prelude.{All, slice_index_or}
use Rattle.std.proofs.lemmas.List.{append-nil}
use Rattle.std.proofs.lemmas.List.Elements.{All-nil, All-cons, All-append}
use Rattle.cm_netlist.specs.Network.{Network, entry}
use Rattle.cm_nmt.specs.declared.answers.Answers.{Answers}
use Rattle.cm_boot.specs.Talk.{asked}
use Rattle.cm_boot.specs.declared.question.Question.{Question}
use Rattle.cm_boot.specs.declared.question.Answer.{Answer}
use Rattle.cm_history.specs.declared.call.Call.{Call}
use Rattle.cm_history.specs.declared.call.Call.TheVariants as call
use Rattle.cm_register.specs.SeatCalls.{made}
use Rattle.cm_register.specs.declared.made.Made.{Made}
use Rattle.cm_run.specs.declared.outcome.Attempt.{Attempt}
use Rattle.cm_run.specs.declared.outcome.Attempt.TheVariants as attempt
use Rattle.cm_run.specs.declared.outcome.Outcome.{Outcome}
use Rattle.cm_run.specs.Rounds.{Boots, Fail, Gives, HasRound, calls_in}
use Rattle.std.specs.Prelude.{Option}
use Rattle.cm_boot.specs.Talk.{Talks}
use Rattle.cm_bus.specs.Receiving.{BusView, EndsBoot, IsAskedOver}
use Rattle.cm_can.specs.declared.frame.CanFrame.{CanFrame}
use Rattle.cm_can.specs.declared.format.Format.{Format}
use Rattle.cm_bus.specs.Talk.{IsAsked}
use Rattle.cm_crew.specs.Hearing.{AreHeard, HasHeardCalls, IsHeardCall}
use Rattle.cm_bus.specs.declared.event.PortEvent.{PortEvent}
use Rattle.cm_crew.proofs.Talking.{has_talked, heard_before}

-- steps and ends of one kind of bus, seen as those of another
module _ {B C : Type 0} (f : B → C) (s : B → ℕ → Question → Answer → B → Type 0) (t : C → ℕ → Question → Answer → C → Type 0) (k : (b : B) (n : ℕ) (q : Question) (x : Answer) (c : B) → s b n q x c → t (f b) n q x (f c)) (looks : B → ℕ → Bool → B → Type 0) (seen : C → ℕ → Bool → C → Type 0) (l : (b : B) (n : ℕ) (x : Bool) (c : B) → looks b n x c → seen (f b) n x (f c)) (net : Network) (i : ℕ) where
  seen_talks : (list : List (Question × Answer)) (b c : B) → Talks (λ b q x c. s b i q x c) b list c → Talks (λ b q x c. t b i q x c) (f b) list (f c)
  seen_talks [] b c h = ap f h
  seen_talks (qx ∷ rest) b c h = (f h.0, h.1, k b i qx.0 h.1 h.0 h.2, h.3, seen_talks rest h.0 c h.4)

  seen_boots : (b : B) (a : Answers) (c : B) → Boots s net i b a c → Boots t net i (f b) a (f c)
  seen_boots b a c h = record { lawful = h.lawful; talk = seen_talks (asked (entry net i) a) b c h.talk; few = h.few }

  seen_gives : (b : B) (a : Attempt) (c : B) → Gives s looks net i b a c → Gives t seen net i (f b) a (f c)
  seen_gives b (attempt.NotBegun e) c h = ap f h
  seen_gives b (attempt.Refused r n) c h = (h.0, ap f h.1)
  seen_gives b (attempt.Left r n a) c h = (h.0, f h.1, seen_boots b a h.1 h.2, l h.1 i _ c h.3)
  seen_gives b (attempt.NotReported r n a e) c h = (h.0, f h.1, seen_boots b a h.1 h.2, l h.1 i _ c h.3)
  seen_gives b (attempt.Ended r n a w e) c h = (h.0, f h.1, seen_boots b a h.1 h.2, l h.1 i _ c h.3, h.4)

  seen_fail : (b : B) (ts : List Attempt) (list : List Made) (c : B) → Fail s looks net i b ts list c → Fail t seen net i (f b) ts list (f c)
  seen_fail b [] list c h = (h.0, ap f h.1)
  seen_fail b (a ∷ ts) list c h = (h.0, f h.1, seen_gives b a h.1 h.2, h.3, seen_fail h.1 ts h.0 c h.4, h.5)

  pub seen_round : (m : ℕ) (o : Outcome) (old new : List Made) (b c : B) → HasRound s looks net i m o old new b c → HasRound t seen net i m o old new (f b) (f c)
  seen_round m o old new b c h = record {
    added = h.added;
    grown = h.grown;
    round = record {
      node = h.round.node;
      failed = h.round.failed;
      final = h.round.final;
      before = h.round.before;
      between = f h.round.between;
      fails = seen_fail b h.round.failed h.round.before h.round.between h.round.fails;
      gives = seen_gives h.round.between h.round.final c h.round.gives;
      calls = h.round.calls;
      attempts = h.round.attempts;
      most = h.round.most;
      stops = h.round.stops;
      ends = h.round.ends;
    };
  }

module _ (net : Network) (i : ℕ) where
  abbrev Step : List PortEvent → ℕ → Question → Answer → List PortEvent → Type 0
  Step b n q x c = IsAsked n q x b c

  abbrev Stays : List PortEvent → ℕ → Bool → List PortEvent → Type 0
  Stays b n x c = b ≡ c

  abbrev Heard : List PortEvent → Made → Type 0
  Heard log m = IsHeardCall net i m.call log

  abbrev AllHeard : List Made → List PortEvent → Type 0
  AllHeard list log = All (Heard log) list

  call_before : (c : Call) (log more : List PortEvent) → IsHeardCall net i c log → IsHeardCall net i c (log ++ more)
  call_before (call.Report j n a) log more h = heard_before i (asked (entry net i) a) log more h
  call_before _ log more h = tt

  all_before : (list : List Made) (log more : List PortEvent) → AllHeard list log → AllHeard list (log ++ more)
  all_before list log more h = λ k d small. call_before (slice_index_or list k d).call log more (h k d small)

  -- the log grew by at most so many events, and the answers of these calls stand in it
  record HasGrown (most : ℕ) (list : List Made) (old new : List PortEvent) : Type 0 where
    more : List PortEvent
    grown : new ≡ old ++ more
    short : length more ≤ most
    heard : AllHeard list new

  boot_heard : (old : List PortEvent) (a : Answers) (new : List PortEvent) → Boots Step net i old a new → length old + 2747 ≤ 27470
      → (more : List PortEvent) × (new ≡ old ++ more) × (length more ≤ 2747) × AreHeard i (asked (entry net i) a) new
  boot_heard old a new b room =
      let t = has_talked i (asked (entry net i) a) old new b.talk (omega (arith, room, b.few)) in
      (t.more, t.grown, omega (arith, t.short, b.few), t.heard)

  attempt_heard : (old : List PortEvent) (t : Attempt) (new : List PortEvent) → Gives Step Stays net i old t new → length old + 2747 ≤ 27470 → HasGrown 2747 (calls_in i t) old new
  attempt_heard old (attempt.NotBegun f) new g room = record { more = []; grown = sym g ∙ sym (append-nil old); short = omega arith; heard = All-nil (Heard new) }
  attempt_heard old (attempt.Refused b r) new g room = record { more = []; grown = sym g.1 ∙ sym (append-nil old); short = omega arith; heard = All-cons (Heard new) (made b.position (call.Begin i) b.reply) [] (tt {0}) (All-nil (Heard new)) }
  attempt_heard old (attempt.Left b n a) new g room =
      let h = boot_heard old a new (subst (λ (l : List PortEvent). Boots Step net i old a l) g.3 g.2) room in
      record { more = h.0; grown = h.1; short = h.2; heard = All-cons (Heard new) (made b.position (call.Begin i) b.reply) [] (tt {0}) (All-nil (Heard new)) }
  attempt_heard old (attempt.NotReported b n a f) new g room =
      let h = boot_heard old a new (subst (λ (l : List PortEvent). Boots Step net i old a l) g.3 g.2) room in
      record { more = h.0; grown = h.1; short = h.2; heard = All-cons (Heard new) (made b.position (call.Begin i) b.reply) [] (tt {0}) (All-nil (Heard new)) }
  attempt_heard old (attempt.Ended b n a r l) new g room =
      let h = boot_heard old a new (subst (λ (l : List PortEvent). Boots Step net i old a l) g.3 g.2) room in
      record { more = h.0; grown = h.1; short = h.2; heard = All-cons (Heard new) (made b.position (call.Begin i) b.reply) (made r.position (call.Report i n a) r.reply ∷ []) (tt {0}) (All-cons (Heard new) (made r.position (call.Report i n a) r.reply) [] h.3 (All-nil (Heard new))) }

  attempts_heard : (old : List PortEvent) (ts : List Attempt) (list : List Made) (new : List PortEvent) → Fail Step Stays net i old ts list new → length old + 2747 * length ts ≤ 27470
      → HasGrown (2747 * length ts) list old new
  attempts_heard old [] list new f room = record {
    more = [];
    grown = sym f.1 ∙ sym (append-nil old);
    short = omega arith;
    heard = subst (λ (l : List Made). AllHeard l new) (sym f.0) (All-nil (Heard new));
  }
  attempts_heard old (t ∷ ts) list new f room =
      let h = attempt_heard old t f.1 f.2 (omega (arith, room)) in
      let r = attempts_heard f.1 ts f.0 new f.4 (omega (arith, room, h.short, ap length h.grown, length-append old h.more)) in
      record {
        more = h.more ++ r.more;
        grown = r.grown ∙ (ap (λ (l : List PortEvent). l ++ r.more) h.grown ∙ append_assoc old h.more r.more);
        short = omega (arith, h.short, r.short, length-append h.more r.more);
        heard = subst (λ (l : List Made). AllHeard l new) (sym f.5) (All-append (Heard new) (calls_in i t) f.0 (subst (λ (log : List PortEvent). AllHeard (calls_in i t) log) (sym r.grown) (all_before (calls_in i t) f.1 r.more h.heard)) r.heard);
      }

  -- of a round of 10 attempts at most, which began with an empty log
  pub round_heard : (m : ℕ) (o : Outcome) (old new : List Made) (log : List PortEvent) → m ≤ 10 → HasRound Step Stays net i m o old new [] log → HasHeardCalls net i old new log
  round_heard m o old new log few r =
      let f = attempts_heard [] r.round.failed r.round.before r.round.between r.round.fails (omega (arith, few, r.round.attempts, r.round.most)) in
      let g = attempt_heard r.round.between r.round.final log r.round.gives (omega (arith, few, r.round.attempts, r.round.most, f.short, ap length f.grown)) in
      record {
        added = r.added;
        grown = r.grown;
        heard = subst (λ (l : List Made). AllHeard l log) (sym r.round.calls) (All-append (Heard log) r.round.before (calls_in i r.round.final) (subst (λ (l : List PortEvent). AllHeard r.round.before l) (sym g.grown) (all_before r.round.before r.round.between g.more f.heard)) g.heard);
      }

  module _ {P : Type 0} (sends : P → List CanFrame → P → Type 0) (format : Format) (text : Option (List ℕ)) where
    -- the steps of the bus of a worker
    abbrev Asks : BusView P → ℕ → Question → Answer → BusView P → Type 0
    Asks b n q x c = IsAskedOver sends format text n q x b c

    abbrev Ends : BusView P → ℕ → Bool → BusView P → Type 0
    Ends b n x c = EndsBoot b c

    abbrev bus : List PortEvent → ℕ → ℕ → Bool → P → BusView P
    bus log heard begun goes_on port = record { log = log; heard = heard; begun = begun; goes_on = goes_on; port = port }

    -- a bus whose log was emptied, and over which no boot goes on, which is else as it was
    abbrev forgotten : BusView P → BusView P
    forgotten b = bus [] b.heard b.begun false b.port

    -- of which the log is a part
    pub log_heard : (m : ℕ) (o : Outcome) (old new : List Made) (b c : BusView P) → m ≤ 10 → HasRound Asks Ends net i m o old new (forgotten b) c → HasHeardCalls net i old new c.log
    log_heard m o old new b c few r =
        round_heard m o old new c.log few
        (seen_round (λ (v : BusView P). v.log) Asks Step (λ v n q x d h. h.asked) Ends Stays (λ v n x d e. sym e.log) net i m o old new (forgotten b) c r)

    -- it is this bus
    same_bus : (d b : BusView P) → d.log ≡ [] → d.heard ≡ b.heard → d.begun ≡ b.begun → d.goes_on ≡ false → d.port ≡ b.port → d ≡ forgotten b
    same_bus d b log heard begun off port =
        ap (λ (l : List PortEvent). bus l d.heard d.begun d.goes_on d.port) log
        ∙ (ap (λ (n : ℕ). bus [] n d.begun d.goes_on d.port) heard
        ∙ (ap (λ (n : ℕ). bus [] b.heard n d.goes_on d.port) begun
        ∙ (ap (λ (x : Bool). bus [] b.heard b.begun x d.port) off ∙ ap (λ (p : P). bus [] b.heard b.begun false p) port)))

    pub from_forgotten : (m : ℕ) (o : Outcome) (old new : List Made) (d b c : BusView P)
        → HasRound Asks Ends net i m o old new d c → d.log ≡ [] → d.heard ≡ b.heard → d.begun ≡ b.begun → d.goes_on ≡ false → d.port ≡ b.port
        → HasRound Asks Ends net i m o old new (forgotten b) c
    from_forgotten m o old new d b c r log heard begun off port =
        subst (λ (v : BusView P). HasRound Asks Ends net i m o old new v c) (same_bus d b log heard begun off port) r
