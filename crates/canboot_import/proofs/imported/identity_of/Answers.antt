use Rattle.canboot_import.proofs.imported.identity_of.Goals as goal

pub returns-clause-unread : goal.returns-clause-unread
returns-clause-unread c = λ file items all.
    record {
      device_type = c.device_type.ensures.unread file items all;
      vendor = c.identity_value.ensures.unread file items all;
      product = c.identity_value-2.ensures.unread file items all;
      revision = c.identity_value-3.ensures.unread file items all;
      serial = c.serial.ensures.unread file items all;
    }
