use Rattle.std.proofs.Common.{◌≡◌, ℕ, List, inr, subst, sym}
use Rattle.std.specs.Prelude.{All, Option}
use Rattle.canboot_faults.proofs.OutputStatus.{done_written}
use Rattle.cm_can.specs.declared.format.Format.{Format}
use Rattle.canboot_scan.specs.Scans.{IsListOfFound}
use Rattle.canboot_scan.specs.declared.found.Found.{Found}
use Rattle.canboot_scan.specs.Scanning.{IsHeardDevice, IsListHeard}
use Rattle.canboot_scan.proofs.scan.put_list.Goals as goal

-- the text of a list of devices that were heard, both under other names
list_heard : (lines : Format) (received : Option (List ℕ)) (own : ℕ) (items found : List Found) (made text : List ℕ) → found ≡ items → text ≡ made
    → IsListOfFound made own found → All (IsHeardDevice lines received) items → IsListHeard lines received own text
list_heard lines received own items found made text same is list heard =
    record {
      found = found;
      list = subst (λ (t : List ℕ). IsListOfFound t own found) (sym is) list;
      heard = subst (All (IsHeardDevice lines received)) (sym same) heard;
    }

pub returns-in-Ok-clause-done : goal.returns-in-Ok-clause-done
returns-in-Ok-clause-done g c = λ lines received heard e.
    record {
      text = c.as_slice.result.now;
      list = list_heard lines received c.args.form.own _ _ _ _ c.as_slice-found.ensures.value c.as_slice.ensures.value c.in-Ok.ensures heard;
      written = done_written c.put_text.result _ c.tell_output.result c.put_text.ensures c.tell_output.ensures e;
    }

pub returns-in-Ok-clause-failed : goal.returns-in-Ok-clause-failed
returns-in-Ok-clause-failed g c = λ lines received heard e.
    inr (c.as_slice.result.now, list_heard lines received c.args.form.own _ _ _ _ c.as_slice-found.ensures.value c.as_slice.ensures.value c.in-Ok.ensures heard)
