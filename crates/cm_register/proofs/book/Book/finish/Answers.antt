use Rattle.std.proofs.Common.{◌≡◌, List, length, ap, sym, subst, rules}
use Rattle.cm_history.specs.declared.call.Entry.{Entry}
use Rattle.cm_register.specs.Handing.{count_calls}
use Rattle.cm_register.specs.Knowing.{AllHaveCallsOf}
use Rattle.cm_register.specs.Reads.{AllKnown}
use Rattle.cm_register.proofs.SeatsClosed.{seats_have_their_calls}
use Rattle.cm_register.specs.Views.{BookView}
use Rattle.cm_register.proofs.book.Book.finish.Goals as goal

pub returns-clause-closed : goal.returns-clause-closed
returns-clause-closed g c =
    let seats = c.args.seats.items in
    let same : c.args.self.history ≡ c.self.inside.history.items = sym (ap (λ (b : BookView). b.history) c.self.view_is) in
    let total : count_calls seats ≡ length c.self.inside.history.items = search rules in
    let calls = subst (λ (h : List Entry). AllHaveCallsOf h seats) same c.requires.may.calls in
    record {
      legal = search rules;
      few = search rules;
      seated = search rules;
      seats = search rules;
      apart = c.requires.may.apart;
      calls = seats_have_their_calls c.self.inside.history.items seats calls c.requires.may.apart total;
      total = total;
      known = subst (λ (h : List Entry). AllKnown h seats) same c.requires.may.known;
      lists = search rules;
      frames = search rules;
      stands = search rules;
    }
