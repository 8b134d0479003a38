-- Where the calls of each seat were received, and each start is right, the identity of each slave that is started was heard.
use Rattle.std.proofs.Common.{◌≡◌, ◌≤◌, ◌==◌, ◌+◌, ◌⊎◌, ℕ, Bool, true, false, List, [], ◌∷◌, ◌++◌, refl, subst, inl, inr, arith}
use Rattle.std.specs.Prelude.{if◌then◌else◌, MatchBool, Option, Some, None, option_map, reverse}
use Rattle.std.specs.List.{flat_map}
use Rattle.std.proofs.lemmas.List.{reverse-append}
use Rattle.cm_nmt.specs.Answers.{id_of}
use Rattle.cm_nmt.specs.Fields.{fields}
use Rattle.cm_nmt.specs.declared.answers.Answers.{Answers}
use Rattle.cm_nmt.specs.declared.got.Got.{Got}
use Rattle.cm_nmt.specs.declared.got.Got.TheVariants as got
use Rattle.cm_nmt.specs.declared.terms.Terms.{Terms}
use Rattle.cm_netlist.specs.Network.{Network, entry, listing, terms_of}
use Rattle.cm_netlist.specs.declared.entry.SlaveEntry.{SlaveEntry}
use Rattle.cm_boot.specs.Questions.{device_type, vendor_id, product_code, revision_number, serial_number, question}
use Rattle.cm_boot.specs.Talk.{asked, asked_of, each_of, given}
use Rattle.cm_boot.specs.declared.question.Question.{Question}
use Rattle.cm_boot.specs.declared.question.Answer.{Answer}
use Rattle.cm_boot.specs.declared.question.Answer.TheVariants as answer
use Rattle.cm_history.specs.Laws.{AtEach, HasIdentity, IsAsExpected, StartsRightly}
use Rattle.cm_history.specs.declared.call.Call.{Call}
use Rattle.cm_history.specs.declared.call.Entry.{Entry}
use Rattle.cm_can.specs.declared.format.Format.{Format}
use Rattle.cm_register.specs.SeatCalls.{calls_behind, made}
use Rattle.cm_register.specs.declared.made.Made.{Made}
use Rattle.cm_bus.specs.Receiving.{AreGiven, AreHeardStarts, HasHeardIdentity, IsHeard, IsHeardAs, IsHeardStart}
use Rattle.cm_crew.specs.ReceivedCalls.{AreReceived, IsReceivedCall}
use Rattle.cm_crew.proofs.ReceivedRounds.{call_on, given_on}

module _ (format : Format) (text : Option (List ℕ)) where
  -- ---- the answers of one boot

  split_given : (node begun : ℕ) (xs ys : List (Question × Answer)) (from upto : ℕ) → AreGiven format text node begun (xs ++ ys) from upto
      → (mid : ℕ) × AreGiven format text node begun xs from mid × AreGiven format text node begun ys mid upto
  split_given node begun [] ys from upto h = (from, omega arith, h)
  split_given node begun (x ∷ xs) ys from upto h = let r = split_given node begun xs ys h.0 upto h.2 in (r.0, (h.0, h.1, r.1), r.2)

  wider : (node : ℕ) (q : Question) (x : Answer) (begun from mid upto : ℕ) → mid ≤ upto → IsHeard format text node q x begun from mid → IsHeard format text node q x begun from upto
  wider node q x begun from mid upto le h = record { place = h.place; frame = h.frame; behind = h.behind; within = omega (arith, le, h.within); stands = h.stands; answers = h.answers; same = h.same }

  of_value : (node : ℕ) (q : Question) (v begun from mid upto : ℕ) → mid ≤ upto → (answer.Value v ≡ answer.Silent) ⊎ IsHeard format text node q (answer.Value v) begun from mid → IsHeard format text node q (answer.Value v) begun from upto
  of_value node q v begun from mid upto le (inl s) = absurd (cc s)
  of_value node q v begun from mid upto le (inr h) = wider node q (answer.Value v) begun from mid upto le h

  value_given : (node : ℕ) (q : Question) (g : Got) (v begun from upto : ℕ) → g ≡ got.Value v → AreGiven format text node begun (each_of (Some q) (given g)) from upto → IsHeard format text node q (answer.Value v) begun from upto
  value_given node q g v begun from upto e h =
      let P : Got → Type 0 = λ (k : Got). AreGiven format text node begun (each_of (Some q) (given k)) from upto in
      let k = subst P e h in of_value node q v begun from k.0 upto k.2 k.1.given

  heard_as : (node : ℕ) (q : Question) (g : Got) (expected begun from mid upto : ℕ) → mid ≤ upto → IsAsExpected expected g → AreGiven format text node begun (each_of (Some q) (given g)) from mid → IsHeardAs format text node q expected begun from upto
  heard_as node q g expected begun from mid upto le h k = record {
    on = omega (arith, le, given_on format text node begun (each_of (Some q) (given g)) from mid k);
    heard = λ n. wider node q (answer.Value expected) begun from mid upto le (value_given node q g expected begun from mid (h n) k);
  }

  of_fields : (node begun : ℕ) (e : SlaveEntry) (t : Terms) (a : Answers) (from upto : ℕ) → HasIdentity t a → AreGiven format text node begun (flat_map (asked_of e a) fields) from upto → HasHeardIdentity format text t node begun from upto
  unfolding fields asked_of question
  of_fields node begun e t a from upto h k =
      let s1 = split_given node begun (each_of (Some device_type) (given a.device)) _ from upto k in
      let s2 = split_given node begun (each_of (Some vendor_id) (given (id_of a 0))) _ s1.0 upto s1.2 in
      let s3 = split_given node begun (each_of (Some product_code) (given (id_of a 1))) _ s2.0 upto s2.2 in
      let s4 = split_given node begun (each_of (Some revision_number) (given (id_of a 2))) _ s3.0 upto s3.2 in
      let s5 = split_given node begun (each_of (Some serial_number) (given (id_of a 3))) _ s4.0 upto s4.2 in
      record {
        first = s1.0;
        second = s2.0;
        third = s3.0;
        fourth = s4.0;
        device_type = heard_as node device_type a.device t.device_type begun from s1.0 s1.0 (omega arith) h.device_type s1.1;
        vendor = heard_as node vendor_id (id_of a 0) t.vendor begun s1.0 s2.0 s2.0 (omega arith) h.vendor s2.1;
        product = heard_as node product_code (id_of a 1) t.product begun s2.0 s3.0 s3.0 (omega arith) h.product s3.1;
        revision = heard_as node revision_number (id_of a 2) t.revision begun s3.0 s4.0 s4.0 (omega arith) h.revision s4.1;
        serial = heard_as node serial_number (id_of a 3) t.serial begun s4.0 s5.0 upto (given_on format text node begun _ s5.0 upto s5.2) h.serial s5.1;
      }

  pub of_entry : (o : Option SlaveEntry) (node begun : ℕ) (t : Terms) (a : Answers) (from upto : ℕ) → option_map terms_of o ≡ Some t → HasIdentity t a → AreGiven format text node begun (asked o a) from upto → HasHeardIdentity format text t node begun from upto
  of_entry None node begun t a from upto e h k = absurd (nothing e)
    where
      nothing : None ≡ Some t → ⊥
      nothing d = cc
  of_entry (Some s) node begun t a from upto e h k = of_fields node begun s t a from upto h k

  -- ---- the entries of a history

  module _ (net : Network) where
    -- the entry's start is right behind some history
    abbrev pub Rightly : Entry → Type 0
    Rightly e = (past : List Entry) × StartsRightly (listing net) e past

    abbrev pub EachRightly : List Entry → Type 0
    EachRightly [] = Unit {0}
    EachRightly (e ∷ es) = Rightly e × EachRightly es

    at_each : (h : List Entry) → AtEach (StartsRightly (listing net)) h → EachRightly h
    at_each [] a = tt
    at_each (e ∷ past) a = ((past, a.0), at_each past a.1)

    last_rightly : (xs : List Entry) (y : Entry) → EachRightly (xs ++ y ∷ []) → Rightly y × EachRightly xs
    last_rightly [] y h = (h.0, tt)
    last_rightly (x ∷ xs) y h = let r = last_rightly xs y h.1 in (r.0, (h.0, r.1))

    reversed : (h : List Entry) → EachRightly (reverse h) → EachRightly h
    reversed [] a = tt
    reversed (e ∷ es) a =
        let r = last_rightly (reverse es) e (subst EachRightly (reverse-append (e ∷ []) es) a) in (r.0, reversed es r.1)

    pub each_rightly : (h : List Entry) → AtEach (StartsRightly (listing net)) (reverse h) → EachRightly h
    each_rightly h a = reversed h (at_each (reverse h) a)

    start_heard : (e : Entry) (from upto : ℕ) → Rightly e → IsReceivedCall format text net e.call from upto → IsHeardStart format text net e from upto
    start_heard e from upto r h = λ i number a c s.
        let k = r.1 i number a c s in
        let w = subst (λ (d : Call). IsReceivedCall format text net d from upto) c h in
        (k.terms, k.listed, w.0, w.1, of_entry (entry net i) i w.0 k.terms a w.0 upto k.listed k.identity w.2, w.2)

    by_seat : (b : Bool) (seat : ℕ) (e : Entry) (m : Made) (rest : List Made) (es : List Entry) (from upto : ℕ) → m.call ≡ e.call → Rightly e → AreReceived format text net (if b then m ∷ rest else rest) from upto
        → ((at : ℕ) → AreReceived format text net rest at upto → AreHeardStarts format text net seat es at)
        → MatchBool b ((mid : ℕ) × (from ≤ mid) × IsHeardStart format text net e from mid × AreHeardStarts format text net seat es mid) (AreHeardStarts format text net seat es from)
    by_seat true seat e m rest es from upto same r h k =
        (h.0, call_on format text net m.call from h.0 h.1, start_heard e from h.0 r (subst (λ (d : Call). IsReceivedCall format text net d from h.0) same h.1), k h.0 h.2)
    by_seat false seat e m rest es from upto same r h k = k from h

    pub starts_heard : (seat n : ℕ) (es : List Entry) (from upto : ℕ) → EachRightly es → AreReceived format text net (calls_behind seat n es) from upto → AreHeardStarts format text net seat es from
    starts_heard seat n [] from upto r h = tt
    starts_heard seat n (e ∷ es) from upto r h =
        by_seat (e.seat == seat) seat e (made (n + 1) e.call e.reply) (calls_behind seat (n + 1) es) es from upto refl r.0 h (λ at k. starts_heard seat (n + 1) es at upto r.1 k)
