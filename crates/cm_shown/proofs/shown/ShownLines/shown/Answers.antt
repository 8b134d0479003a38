use Rattle.std.proofs.Common.{◌∙◌, ◌++◌, List, ℕ, ap, sym}
use Rattle.cm_shown.specs.Names.{name_among, name_of}
use Rattle.cm_shown.specs.Shown.{is_fault, is_object}
use Rattle.cm_shown.proofs.ShownWords.{fault_shown, line_shown, object_shown}
use Rattle.cm_shown.proofs.shown.ShownLines.shown.Goals as goal
use Rattle.cm_shown.proofs.shown.ShownLines.shown.Goals.{then-is_object+in_ok-extend_from_slice, else-is_object+then-is_fault+in_ok-put_shown, else-is_object+else-is_fault+in_ok-put_time+in_ok-put_shown-2}

pub returns : goal.returns
returns g c =
    let self = c.args.self.now in
    let names = name_among self.names in
    let object = ap is_object (sym c.deref.ensures.value) ∙ sym c.is_object.ensures in
    elim c.if-is_object.branch [
      | then-is_object+in_ok-extend_from_slice w ↦ rw w.text-is
          (object_shown self.is_coloured names self.line.items w.extend_from_slice.new.self.items (object ∙ w.if-is_object.true)
          (w.in_ok-extend_from_slice.ensures.items ∙ ap (λ (t : List ℕ). t ++ w.deref-then-is_object.result.now) c.new-text.ensures.items ∙ w.deref-then-is_object.ensures.value))
      | else-is_object+then-is_fault+in_ok-put_shown w ↦ rw w.text-is
          (fault_shown self.is_coloured (name_of c.new-none.result) names self.line.items w.deref-then-is_fault.result.now c.new-text.result.items w.put_shown.new.text.items
          w.deref-then-is_fault.ensures.value w.in_ok-put_shown.ensures (object ∙ w.if-is_object.false)
          (ap is_fault (sym w.deref-else-is_object.ensures.value) ∙ sym w.is_fault.ensures ∙ w.if-is_fault.true) c.new-text.ensures.items c.new-none.ensures)
      | else-is_object+else-is_fault+in_ok-put_time+in_ok-put_shown-2 w ↦ rw w.text-is
          (line_shown self.is_coloured (name_of w.names_or-names.result.now) names self.line.items w.deref-else-is_fault.result.now w.put_time.new.text.items w.put_shown-else-is_fault.new.text.items
          w.deref-else-is_fault.ensures.value w.in_ok-put_shown-2.ensures (object ∙ w.if-is_object.false)
          (ap is_fault (sym w.deref-else-is_object.ensures.value) ∙ sym w.is_fault.ensures ∙ w.if-is_fault.false) w.names_or-names.ensures)
    ]
