-- Where the calls of each seat were received, each slave that a start of all needs has shown an identity that was heard.
use Rattle.std.proofs.Common.{◌≡◌, ◌==◌, ◌+◌, ℕ, Bool, true, false, List, [], ◌∷◌, ◌++◌, refl, subst, sym, inl, inr}
use Rattle.std.specs.Prelude.{if◌then◌else◌, Option, Some, reverse}
use Rattle.std.proofs.lemmas.Bool.{eq-eqb}
use Rattle.std.proofs.lemmas.List.{reverse-append}
use Rattle.cm_nmt.specs.declared.terms.Terms.{Terms}
use Rattle.cm_netlist.specs.Network.{Network, entry, listing, terms}
use Rattle.cm_history.specs.Laws.{AtEach, BecomesOperationalRightly, ShowsIdentity, StandsSince}
use Rattle.cm_history.specs.declared.call.Call.{Call}
use Rattle.cm_history.specs.declared.call.Entry.{Entry}
use Rattle.cm_can.specs.declared.format.Format.{Format}
use Rattle.cm_crew.specs.ReceivedCalls.{AreReceived, IsReceivedCall}
use Rattle.cm_register.specs.SeatCalls.{calls_behind, made}
use Rattle.cm_register.specs.declared.made.Made.{Made}
use Rattle.cm_crew.specs.Heard.{HasShownHeard, StartsAllHeard, WasReceived}
use Rattle.cm_crew.proofs.Starts.{of_entry}

module _ (format : Format) (text : Option (List ℕ)) (net : Network) where
  abbrev pub EachReceived : List Entry → Type 0
  EachReceived [] = Unit {0}
  EachReceived (e ∷ es) = WasReceived format text net e × EachReceived es

  -- the calls of a seat were received
  abbrev SeatReceived : ℕ → ℕ → List Entry → Type 0
  SeatReceived seat n es = (from : ℕ) × (upto : ℕ) × AreReceived format text net (calls_behind seat n es) from upto

  first_received : (b : Bool) (e : Entry) (m : Made) (rest : List Made) (from upto : ℕ) → m.call ≡ e.call → b ≡ true → AreReceived format text net (if b then m ∷ rest else rest) from upto
      → WasReceived format text net e
  first_received true e m rest from upto same is h = (from, h.0, subst (λ (c : Call). IsReceivedCall format text net c from h.0) same h.1)
  first_received false e m rest from upto same is h = absurd (let p : false ≡ true = is in cc)

  rest_received : (b : Bool) (m : Made) (rest : List Made) (from upto : ℕ) → AreReceived format text net (if b then m ∷ rest else rest) from upto
      → (at : ℕ) × (to : ℕ) × AreReceived format text net rest at to
  rest_received true m rest from upto h = (h.0, upto, h.2)
  rest_received false m rest from upto h = (from, upto, h)

  pub each_received : (n : ℕ) (es : List Entry) → ((seat : ℕ) → SeatReceived seat n es) → EachReceived es
  each_received n [] h = tt
  each_received n (e ∷ es) h =
      let own = h e.seat in (
        first_received (e.seat == e.seat) e (made (n + 1) e.call e.reply) (calls_behind e.seat (n + 1) es) own.0 own.1 refl (eq-eqb e.seat e.seat refl) own.2,
        each_received (n + 1) es (λ seat. let k = h seat in rest_received (e.seat == seat) (made (n + 1) e.call e.reply) (calls_behind seat (n + 1) es) k.0 k.1 k.2),
      )

  last_more : (xs : List Entry) (y : Entry) → EachReceived xs → WasReceived format text net y → EachReceived (xs ++ y ∷ [])
  last_more [] y h k = (k, tt)
  last_more (x ∷ xs) y h k = (h.0, last_more xs y h.1 k)

  pub reversed_received : (h : List Entry) → EachReceived h → EachReceived (reverse h)
  reversed_received [] h = tt
  reversed_received (e ∷ es) h = subst EachReceived (sym (reverse-append (e ∷ []) es)) (last_more (reverse es) e (reversed_received es h.1) h.0)

  -- an identity that was shown was heard
  stands_heard : (i : ℕ) (t : Terms) (past : List Entry) → terms net i ≡ Some t → EachReceived past → StandsSince (ShowsIdentity t i) i past
      → StandsSince (HasShownHeard format text net t i) i past
  stands_heard i t [] listed r s = absurd s
  stands_heard i t (e ∷ past) listed r (inl s) =
      let k = r.0 in
      let w = subst (λ (c : Call). IsReceivedCall format text net c k.0 k.1) s.call k.2 in
      inl (s, k.0, k.1, k.2, (w.0, w.1, of_entry format text (entry net i) i w.0 t s.answers w.0 k.1 listed s.identity w.2))
  stands_heard i t (e ∷ past) listed r (inr s) = inr (s.0, stands_heard i t past listed r.1 s.1)

  pub starts_of_all : (past : List Entry) → EachReceived past → AtEach (BecomesOperationalRightly (listing net)) past → AtEach (StartsAllHeard format text net) past
  starts_of_all [] r a = tt
  starts_of_all (e ∷ past) r a =
      (λ s i t id listed m bit. stands_heard i t (e ∷ past) listed r ((a.0 (inr s)).shown i t id listed m bit), starts_of_all past r.1 a.1)
