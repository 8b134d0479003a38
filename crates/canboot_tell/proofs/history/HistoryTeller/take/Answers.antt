use Rattle.std.proofs.Common.{ℕ, ◌+◌, ◌∷◌, ◌∙◌, ap, refl, sym, arith}
use Rattle.cm_history.specs.Phases.{is_halted}
use Rattle.cm_sequential.proofs.Standing.{stands_by}
use Rattle.canboot_tell.specs.ToldHistory.{no_settings, past_of}
use Rattle.canboot_tell.proofs.history.HistoryTeller.take.Goals as goal

pub returns-clause-says : goal.returns-clause-says
returns-clause-says c = λ before knows answered.
    let net = c.args.self.now.network.now in
    let e = c.args.entry.now in
    let stands = stands_by c.apply.new.self net before e _ _ (c.apply.ensures.answer net before knows.stands ∙ sym answered) (c.apply.ensures.stands net before e.seat knows.stands) in
    record {
      handed = refl;
      halted = c.is_halted-is_halted.ensures ∙ ap is_halted (c.phase.ensures net no_settings (past_of before) knows.watches);
      place = ap (λ (n : ℕ). n + 1) knows.count;
      unbooted = c.unbooted-unbooted.ensures net no_settings (past_of before) knows.tries knows.watches;
      told = c.take-told.ensures.told no_settings (past_of before) knows.watches;
      too = c.started_too-too.ensures no_settings (past_of (e ∷ before))
          (c.take-told.ensures.taken no_settings (past_of before) knows.watches) (c.count.ensures 0 (past_of before) knows.tries);
      running = c.running_if-running.ensures (e ∷ before) stands;
    }

pub returns-clause-knows : goal.returns-clause-knows
returns-clause-knows c = λ before knows answered.
    let net = c.args.self.now.network.now in
    let e = c.args.entry.now in
    record {
      network = refl;
      stands = stands_by c.apply.new.self net before e _ _ (c.apply.ensures.answer net before knows.stands ∙ sym answered) (c.apply.ensures.stands net before e.seat knows.stands);
      watches = c.take-told.ensures.taken no_settings (past_of before) knows.watches;
      tries = c.count.ensures 0 (past_of before) knows.tries;
      count = omega (arith, knows.count);
    }
