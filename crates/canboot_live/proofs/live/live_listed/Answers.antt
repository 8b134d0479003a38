use Rattle.std.proofs.Common.{◌≡◌, ℕ, ◌+◌, ◌∙◌, List, Result, Ok, Err, true, false, OnOk, IsOk, ap, inl, inr, refl, subst, sym}
use Rattle.std.specs.Prelude.{Option}
use Rattle.cm_netlist.specs.Network.{Network, listing}
use Rattle.cm_history.specs.declared.call.Entry.{Entry}
use Rattle.cm_history.specs.OrderFrames.{frames_in}
use Rattle.cm_format.specs.Text.{journal_of}
use Rattle.cm_format.specs.declared.version.Version.TheVariants.{Two}
use Rattle.cm_bus.specs.Outlets.{SendsMessages}
use Rattle.cm_can.specs.declared.format.Format.{Format}
use Rattle.cm_recorder.specs.Recorded.{contents_of}
use Rattle.cm_crew.specs.Heard.{IsAllHeard}
use Rattle.cm_crew.specs.Operated.{IsOperatedLive, operator_calls}
use Rattle.canboot_turns.specs.Driven.{IsDriven}
use Rattle.canboot_live.proofs.Begins.{failed_after, names_outlet, same_journal, written_alike}
use Rattle.canboot_live.proofs.live.live_listed.Goals as goal

-- what holds where the call succeeds, and it did
of_ok : {A E : Type 0} (r : Result A E) (P : Type 0) → OnOk r P → IsOk r → P
of_ok (Ok x) P h is = h
of_ok (Err e) P h is = absurd (let p : false ≡ true = is in cc)

-- what was heard in a history, of as many seats under another name
all_heard_of : (format : Format) (text : Option (List ℕ)) (net : Network) (seats others : ℕ) (h k : List Entry) → seats ≡ others → h ≡ k → IsAllHeard format text net seats h → IsAllHeard format text net others k
all_heard_of format text net seats others h k s e a = subst (λ (n : ℕ). IsAllHeard format text net n k) s (subst (λ (es : List Entry). IsAllHeard format text net seats es) e a)

pub returns-in-Ok-clause-done : goal.returns-in-Ok-clause-done
returns-in-Ok-clause-done g c = λ e.
    let s = c.written_status-status.ensures in
    let w = written_alike _ _ _ _ _ _
    (same_journal c.args.network.now c.args.network.now (c.args.options.bus.workers + 1) (c.from-seats.result + 1) 1048576 1048576 c.in-Ok.field-0.recorded.history.items c.as_slice-entries.result.now
    refl (sym (ap (λ (n : ℕ). n + 1) c.from-seats.ensures)) refl (sym c.as_slice-entries.ensures.value)) refl c.in-Ok.ensures.written in
    record {
      of = journal_of Two c.args.network.now (c.from-seats.result + 1) 1048576 c.as_slice-entries.result.now;
      run = record { network = refl; version = refl; journal = c.is_journal.ensures; seats = ap (λ (n : ℕ). n + 1) c.from-seats.ensures; most = refl };
      heard = all_heard_of c.args.options.bus.format (g.X.Received.Read.remaining c.args.ends.received) c.args.network.now (c.args.options.bus.workers + 1) (c.from-seats.result + 1) _ _ (sym (ap (λ (n : ℕ). n + 1) c.from-seats.ensures))
          (sym c.as_slice-entries.ensures.value) c.in-Ok.ensures.heard;
      operated = subst (λ (h : List Entry). IsOperatedLive (g.X.Typed.Read.remaining c.args.ends.typed) h) (sym c.as_slice-entries.ensures.value) c.in-Ok.ensures.operated;
      driven = subst (λ (h : List Entry). IsDriven c.args.options.bus.format (g.X.Received.Read.remaining c.args.ends.received) (g.X.Typed.Read.remaining c.args.ends.typed) c.args.network.now c.args.options (operator_calls h)) (sym c.as_slice-entries.ensures.value)
          (c.in-Ok.ensures.driven (c.ending_status.ensures.done e).1);
      reported = of_ok c.put_report_in-report.result _ c.put_report_in-report.ensures (s.report (c.ending_status.ensures.done e).0);
      recorded = w.all (sym c.has_failed-has_journal_failed.ensures ∙ s.journal (c.ending_status.ensures.done e).0);
      sent = subst (λ (h : List Entry). SendsMessages g.X.Sent.Write.contents (frames_in (listing c.args.network.now) h) c.args.outputs.now.trace.messages c.live_on.new.trace.messages)
          (sym c.as_slice-entries.ensures.value) c.in-Ok.ensures.sent;
      well = c.have_failed-have_messages_failed.ensures (s.messages (c.ending_status.ensures.done e).0);
    }

pub returns-in-Ok-clause-failed : goal.returns-in-Ok-clause-failed
returns-in-Ok-clause-failed g c = λ e. inr (record {
  of = journal_of Two c.args.network.now (c.from-seats.result + 1) 1048576 c.as_slice-entries.result.now;
  run = record { network = refl; version = refl; journal = c.is_journal.ensures; seats = ap (λ (n : ℕ). n + 1) c.from-seats.ensures; most = refl };
  recorded = inl (
    written_alike _ _ _ _ _ _
        (same_journal c.args.network.now c.args.network.now (c.args.options.bus.workers + 1) (c.from-seats.result + 1) 1048576 1048576 c.in-Ok.field-0.recorded.history.items c.as_slice-entries.result.now
        refl (sym (ap (λ (n : ℕ). n + 1) c.from-seats.ensures)) refl (sym c.as_slice-entries.ensures.value)) refl c.in-Ok.ensures.written,
    all_heard_of c.args.options.bus.format (g.X.Received.Read.remaining c.args.ends.received) c.args.network.now (c.args.options.bus.workers + 1) (c.from-seats.result + 1) _ _ (sym (ap (λ (n : ℕ). n + 1) c.from-seats.ensures))
        (sym c.as_slice-entries.ensures.value) c.in-Ok.ensures.heard,
    subst (λ (h : List Entry). IsOperatedLive (g.X.Typed.Read.remaining c.args.ends.typed) h) (sym c.as_slice-entries.ensures.value) c.in-Ok.ensures.operated,
  );
  sent = subst (λ (h : List Entry). SendsMessages g.X.Sent.Write.contents (frames_in (listing c.args.network.now) h) c.args.outputs.now.trace.messages c.live_on.new.trace.messages)
      (sym c.as_slice-entries.ensures.value) c.in-Ok.ensures.sent;
})

pub returns-in-Err-clause-failed : goal.returns-in-Err-clause-failed
returns-in-Err-clause-failed g c = λ e.
    failed_after g.X.Sent.Write.contents c.args.options.bus.format (g.X.Received.Read.remaining c.args.ends.received) (g.X.Typed.Read.remaining c.args.ends.typed) c.args.options.bus.workers 1048576 _ c.args.network.now (contents_of g.X.Journal.Write.contents) c.args.outputs.now.trace.journal c.live_on.new.trace.journal (λ j. j.failed)
    c.args.outputs.now.trace.messages c.live_on.new.trace.messages c.in-Err.ensures.begun

pub returns-in-Err-clause-refused : goal.returns-in-Err-clause-refused
returns-in-Err-clause-refused g c = λ e.
    let h = c.in-Err.ensures.refused (ap Err (c.tell_no_history.ensures.refused e)) in
    (h.0, refl, ap (contents_of g.X.Journal.Write.contents) h.1)

pub live_on-requires-clause-messages : goal.live_on-requires-clause-messages
live_on-requires-clause-messages g c = λ κs lives. names_outlet g.X.Sent.Write.contents c.args.outputs.now.trace.messages c.args.options.bus.format
