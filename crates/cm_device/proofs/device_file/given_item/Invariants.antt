use Rattle.std.proofs.Common.{ℕ, ◌<◌, get_or}
use Rattle.cm_device.specs.FileLines.{IsOther}
use Rattle.cm_device.specs.declared.device_file.Item.{Item}
use Rattle.cm_device.proofs.device_file.given_item.Given as goal

-- none of the items so far is that key with a value
abbrev pub invariant-loop-item : goal.invariant-loop-item
invariant-loop-item l = (k : ℕ) → (d : Item) → k < l.item-index → IsOther l.name l.key (get_or l.items k d)
