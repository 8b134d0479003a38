use Rattle.std.proofs.Common.{ℕ, List, ◌+◌, ◌∷◌, ◌∙◌, arith, subst, sym, take}
use Rattle.std.specs.Prelude.{reverse}
use Rattle.std.specs.Io.KnownBytes.{Appends}
use Rattle.std.proofs.KnownBytes.{Appends-nil, Appends-trans}
use Rattle.std.proofs.lemmas.List.{length-reverse, length-take}
use Rattle.cm_history.specs.Legal.{IsAnswered, IsLegal}
use Rattle.cm_history.specs.declared.call.Entry.{Entry}
use Rattle.cm_history.proofs.LegalHistories.{legal_take}
use Rattle.cm_netlist.specs.Network.{Network, listing}
use Rattle.cm_sequential.proofs.Replays.{all_taken, begun_few, reverse_more}
use Rattle.canboot_tell.specs.Tellers.{Knows}
use Rattle.canboot_tell.specs.ToldHistory.{history_told}
use Rattle.canboot_tell.proofs.Tellers.{lines_same}
use Rattle.canboot_tell.proofs.history.tell_history.Goals as goal

pub loop-entry-init : goal.loop-entry-init
loop-entry-init g c = record { knows = c.new-teller.ensures; written = Appends-nil _ }

pub take-said-requires : goal.take-said-requires
take-said-requires g c =
    let entries = c.args.entries.now in
    let i = c.loop-entry.entry-index in
    let knows = c.loop-entry.invariant.knows in
    record {
      few = (
        omega (arith, knows.count, length-reverse (take i entries), length-take i entries),
        omega (arith, begun_few entries i (omega arith), knows.stands.same_state.begun),
      );
    }

pub loop-entry-preserved : goal.loop-entry-preserved
loop-entry-preserved g c =
    let net = c.args.network.now in
    let entries = c.args.entries.now in
    let i = c.loop-entry.entry-index in
    let e = c.entry-item.result in
    let before = reverse (take i entries) in
    let knows = c.loop-entry.invariant.knows in
    let more = reverse_more entries i e c.loop-entry-test.true c.entry-item.is in
    let legal : IsLegal (listing net) (e ∷ before) = subst (λ (h : List Entry). IsLegal (listing net) h) more (legal_take (listing net) entries (i + 1) c.requires) in
    let known = subst (λ (n : Network). Knows c.loop-entry.teller n before) (sym knows.network) knows in
    let answered = subst (λ (n : Network). IsAnswered (listing n) e before) (sym knows.network) legal.0 in
    let same = lines_same net _ e _ _ _ before (c.take-said.ensures.network ∙ knows.network) c.take-said.ensures.entry c.concerns-is_told.ensures in
    record {
      knows = subst (λ (h : List Entry). Knows c.take-said.new.self net h) (sym more)
          (subst (λ (n : Network). Knows c.take-said.new.self n (e ∷ before)) knows.network (c.take-said.ensures.knows before known answered));
      written = subst (λ (h : List Entry). Appends (g.W.Write.contents c.args.out.now) (g.W.Write.contents c.write_if.new.out) (history_told net c.args.node h)) (sym more)
          (Appends-trans _ _ _ _ _ c.loop-entry.invariant.written
          (subst (λ (text : List ℕ). Appends (g.W.Write.contents c.loop-entry.out) (g.W.Write.contents c.write_if.new.out) text) same
          (c.in_ok-write_if.ensures before (c.take-said.ensures.says before known answered))));
    }

pub returns : goal.returns
returns g c =
    all_taken (λ (h : List Entry). Appends (g.W.Write.contents c.args.out.now) (g.W.Write.contents c.loop-entry.out) (history_told c.args.network.now c.args.node h))
    c.args.entries.now c.loop-entry.entry-index c.loop-entry-test.false c.loop-entry.invariant.written
