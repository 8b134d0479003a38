use Rattle.std.proofs.Common.{refl}
use Rattle.canboot_import.proofs.Given.{listed}
use Rattle.canboot_import.proofs.imported.listed_terms.Goals as goal

pub returns : goal.returns
returns c = λ file node told found unread lines read.
    let identity = c.args.identity.now in
    let mandatory = c.args.words.now.mandatory in
    record {
      assignment = c.assignment.ensures;
      device_type = listed identity.device_type _ mandatory _ _ told _ c.listed_number.ensures found.device_type unread.device_type lines.device_type (λ is. (read is).device_type);
      vendor = listed identity.vendor _ mandatory _ _ told _ c.listed_number-2.ensures found.vendor unread.vendor lines.vendor (λ is. (read is).vendor);
      product = listed identity.product _ mandatory _ _ told _ c.listed_number-3.ensures found.product unread.product lines.product (λ is. (read is).product);
      revision = listed identity.revision _ mandatory _ _ told _ c.listed_number-4.ensures found.revision unread.revision lines.revision (λ is. (read is).revision);
      serial = listed identity.serial _ mandatory _ _ told _ c.listed_number-5.ensures found.serial unread.serial lines.serial (λ is. (read is).serial);
      heartbeat = refl;
      date = refl;
      time = refl;
    }
