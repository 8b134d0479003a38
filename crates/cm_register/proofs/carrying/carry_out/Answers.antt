use Rattle.std.proofs.Common.{◌≡◌, ℕ, List, ◌∷◌, refl, ap, sym, subst, ◌∙◌, arith}
use Rattle.std.specs.Prelude.{reverse}
use Rattle.cm_netlist.specs.Network.{Network, listing}
use Rattle.cm_history.specs.History.{shown}
use Rattle.cm_history.specs.declared.call.Entry.{Entry}
use Rattle.cm_growing.specs.Changes.{IsChange}
use Rattle.cm_register.proofs.Managing.{few_begun, own_of_answer}
use Rattle.cm_register.proofs.carrying.carry_out.Goals as goal

pub carry_out-requires-clause-few : goal.carry_out-requires-clause-few
carry_out-requires-clause-few g c = few_begun c.args.manager.now g.K.HistoryName.net c.args.history.now c.requires.stands (omega (arith, c.requires.few))

pub carry_out-requires-clause-answered : goal.carry_out-requires-clause-answered
carry_out-requires-clause-answered g c =
    let e = c.args.entry.now in
    own_of_answer c.args.manager.now g.K.HistoryName.net (reverse c.args.history.now) e.call e.reply e.orders c.requires.stands c.requires.answered

pub show_entry-requires : goal.show_entry-requires
show_entry-requires g c =
    let net = g.K.HistoryName.net in
    let h = c.args.history.now in
    let e = c.args.entry.now in
    let stands = c.carry_out.ensures.stands net (reverse h) e.seat c.requires.stands in
    let own : c.own_id-own.result ≡ net.own = c.own_id-own.ensures.value ∙ ap (λ (n : Network). n.own) c.requires.name in
    subst (λ (w : List Entry). IsChange (listing net) w e c.node_or-node.result c.shown-value.result net.own c.shown-own_value.result)
    (sym c.requires.shown)
    (record {
      answered = c.requires.answered;
      few = c.requires.few;
      is_own = refl;
      of_own = subst (λ (n : ℕ). c.shown-own_value.result ≡ shown (listing net) (e ∷ reverse h) n) own (c.shown-own_value.ensures net (e ∷ reverse h) stands);
      of_node = c.shown-value.ensures net (e ∷ reverse h) stands;
      named = c.node_or-node.ensures;
    })

pub returns-clause-stands : goal.returns-clause-stands
returns-clause-stands g c = c.carry_out.ensures.stands g.K.HistoryName.net (reverse c.args.history.now) c.args.entry.now.seat c.requires.stands
