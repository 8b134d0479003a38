use Rattle.std.proofs.Common.{sym, ◌∙◌}
use Rattle.cm_history.specs.declared.call.Entry.{Entry}
use Rattle.cm_sequential.specs.Standing.{listing_in}
use Rattle.cm_sequential.proofs.Granting.{goes_refused, is_granted_by}
use Rattle.cm_sequential.proofs.Standing.{stands_next}
use Rattle.cm_sequential.proofs.manager.Manager.carry_out.Goals as goal

pub carry_out-requires-clause-answered : goal.carry_out-requires-clause-answered
carry_out-requires-clause-answered c =
    let m = c.args.self.now in
    is_granted_by (listing_in m) m.state c.args.call.now c.args.reply c.args.orders.now
    c.requires.answered (sym c.is_granted.ensures ∙ c.if-is_granted.true)

pub returns-then-is_granted-clause-stands : goal.returns-then-is_granted-clause-stands
returns-then-is_granted-clause-stands c = λ net past seat st.
    let e : Entry = record { seat = seat; call = c.args.call.now; reply = c.args.reply; orders = c.args.orders.now } in
    record {
      network = st.network;
      same_listing = st.same_listing;
      same_state = stands_next c.args.self.now c.carry_out.new.self net past e st (c.carry_out.ensures.on c.args.self.now.fits);
    }

pub returns-else-is_granted-clause-stands : goal.returns-else-is_granted-clause-stands
returns-else-is_granted-clause-stands c = λ net past seat st.
    let m = c.args.self.now in
    let e : Entry = record { seat = seat; call = c.args.call.now; reply = c.args.reply; orders = c.args.orders.now } in
    record {
      network = st.network;
      same_listing = st.same_listing;
      same_state = stands_next m m.state net past e st
          (goes_refused (listing_in m) m.state e.call e.reply e.orders m.fits c.requires.answered (sym c.is_granted.ensures ∙ c.if-is_granted.false));
    }
