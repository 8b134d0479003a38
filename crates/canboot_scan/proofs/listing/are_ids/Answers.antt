use Rattle.std.proofs.Common.{ℕ, ◌<◌, length, map, sym, ◌∙◌, arith}
use Rattle.std.proofs.lemmas.List.{get_or-map, length-map}
use Rattle.std.proofs.lemmas.Grind.{same_number_lists}
use Rattle.canboot_scan.specs.declared.found.Found.{Found}
use Rattle.canboot_scan.proofs.listing.are_ids.Goals as goal

-- a device, where any will do
none : Found
none = record { id = 1; device_type = 0; vendor = 0; product = 0; revision = 0; serial = 0 }

pub returns : goal.returns
returns c = λ yes.
    let ids = c.args.ids.now in
    let found = c.args.found.now in
    let id_of : Found → ℕ = λ f. f.id in
    same_number_lists ids (map id_of found) (c.if-ids-found.false ∙ sym (length-map found id_of))
    (λ k low. let below : k < length found = omega (arith, low, c.if-ids-found.false) in
    c.loop-at.invariant k none (omega (arith, low, c.loop-at-test.false)) ∙ sym (get_or-map id_of found k none 0 below))
