-- A manager that stands for a history, and for one entry more.
use Rattle.std.proofs.Common.{◌≡◌, ◌≤◌, ◌<◌, ◌-◌, ◌^◌, List, [], ◌∷◌, ◌++◌, length, refl, sym, subst, ◌∙◌, arith}
use Rattle.std.specs.Prelude.{reverse}
use Rattle.std.proofs.lemmas.List.{length-reverse, reverse-append}
use Rattle.cm_netlist.specs.Network.{Network, listing}
use Rattle.cm_history.specs.Answering.{answer_of}
use Rattle.cm_history.specs.Legal.{most_entries}
use Rattle.cm_history.specs.Machine.{answer_in}
use Rattle.cm_history.specs.declared.call.Call.{Call}
use Rattle.cm_history.specs.declared.call.Entry.{Entry}
use Rattle.cm_history.specs.declared.call.Orders.{Orders}
use Rattle.cm_history.specs.declared.call.Reply.{Reply}
use Rattle.cm_history.proofs.LegalHistories.{begun_most}
use Rattle.cm_sequential.specs.Changes.{machine}
use Rattle.cm_sequential.specs.Standing.{IsAnswer, Stands, listing_in, sessions_begun}
use Rattle.cm_sequential.specs.declared.manager.Manager.{Manager}
use Rattle.cm_sequential.proofs.Standing.{stands_answer}

-- the answer that the history gives is the manager's own
pub own_of_answer : (m : Manager) (net : Network) (past : List Entry) (c : Call) (r : Reply) (o : Orders) → Stands m net past
    → (r, o) ≡ answer_of (listing net) past c → IsAnswer m c r o
own_of_answer m net past c r o stands answered =
    let own : Reply × Orders = answer_in (listing_in m) (machine m.state) c in
    answered ∙ sym (stands_answer m net past c own.0 own.1 stands refl)

-- it has begun few sessions, since the history has few entries
pub few_begun : (m : Manager) (net : Network) (h : List Entry) → Stands m net (reverse h) → length h ≤ most_entries → sessions_begun m < 2 ^ 64 - 1
few_begun m net h stands few = omega (arith, begun_most (reverse h), stands.same_state.begun, length-reverse h, few)

pub stands_longer : (m : Manager) (net : Network) (h : List Entry) (e : Entry) → Stands m net (e ∷ reverse h) → Stands m net (reverse (h ++ e ∷ []))
stands_longer m net h e stands = subst (Stands m net) (sym (reverse-append h (e ∷ []))) stands
