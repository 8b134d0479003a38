-- The slave of a node of a run.
use Rattle.std.proofs.Common.{◌≡◌, ℕ, Bool, true, false, sym, ap, ◌∙◌, Some, None}
use Rattle.std.specs.Prelude.{if◌then◌else◌, Option, option_map}
use Rattle.cm_history.specs.NodeSets.{has}
use Rattle.cm_netlist.specs.Network.{Network, entry, terms, terms_of}
use Rattle.cm_netlist.specs.declared.entry.SlaveEntry.{SlaveEntry}
use Rattle.cm_run.specs.Slaves.{agreeing, agreeing_with}
use Rattle.cm_run.specs.declared.slave.SimSlave.{SimSlave}
use Rattle.canboot_run.specs.SlaveFaults.{aborting, slave_given, slave_of_entry, wrong_with}
use Rattle.canboot_run.specs.declared.slave_faults.SlaveFaults.{SlaveFaults}

module _ (net : Network) (f : SlaveFaults) (i : ℕ) where
  -- by whether it is silent
  abbrev of : Bool → Option SimSlave
  of b = if b then None else option_map (slave_of_entry f i) (entry net i)

  pub silent_given : has f.silent i ≡ true → None ≡ slave_given net f i
  unfolding slave_given
  silent_given e = sym (ap of e)

  pub unlisted_given : has f.silent i ≡ false → None ≡ entry net i → None ≡ slave_given net f i
  unfolding slave_given
  unlisted_given e none = sym (ap of e ∙ ap (λ (o : Option SlaveEntry). option_map (slave_of_entry f i) o) (sym none))

  pub listed_given : (e : SlaveEntry) (agreed wrong s : SimSlave) → has f.silent i ≡ false → Some e ≡ entry net i → Some agreed ≡ agreeing_with (terms net i)
      → wrong ≡ wrong_with f.wrong.items i agreed → s ≡ aborting f.aborted.items i e.writes.items wrong → Some s ≡ slave_given net f i
  unfolding slave_given
  listed_given e agreed wrong s loud is agrees wrongs made =
      let listed : Some agreed ≡ Some (agreeing (terms_of e)) = agrees ∙ ap (λ (o : Option SlaveEntry). option_map agreeing (option_map terms_of o)) (sym is) in
      let same : agreed ≡ agreeing (terms_of e) = cc in
      ap Some (made ∙ ap (λ (x : SimSlave). aborting f.aborted.items i e.writes.items x) (wrongs ∙ ap (λ (x : SimSlave). wrong_with f.wrong.items i x) same))
      ∙ sym (ap of loud ∙ ap (λ (o : Option SlaveEntry). option_map (slave_of_entry f i) o) (sym is))
