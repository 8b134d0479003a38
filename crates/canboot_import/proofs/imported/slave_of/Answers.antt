use Rattle.std.proofs.Common.{sym, subst}
use Rattle.std.specs.List.{All}
use Rattle.cm_nmt.specs.declared.terms.Terms.{Terms}
use Rattle.canboot_import.specs.Imports.{AreTermsOf}
use Rattle.cm_device.specs.FileValues.{IsSetting}
use Rattle.canboot_import.proofs.imported.slave_of.Goals as goal

pub returns : goal.returns
returns c = λ file items all told lines.
    let id = c.in_ok-id.id in
    let listed = c.listed_terms-terms.ensures file id told (c.identity_of-identity.ensures.read file items all) (c.identity_of-identity.ensures.unread file items all) lines
    (c.may_be_listed.ensures c.if-not-may_be_listed.false) in
    record {
      device = c.has_device.ensures file items c.if-not-has_device.false;
      node_is = c.in_ok-id.ensures file items;
      listed = subst (λ (t : Terms). AreTermsOf file c.args.words.now id told t) (sym c.from_terms.ensures.terms)
          record {
            assignment = listed.assignment;
            device_type = listed.device_type;
            vendor = listed.vendor;
            product = listed.product;
            revision = listed.revision;
            serial = listed.serial;
            heartbeat = listed.heartbeat;
            date = listed.date;
            time = listed.time;
          };
      set = subst (All (IsSetting file id)) (sym c.from_terms.ensures.writes) (c.writes_of-writes.ensures file id (c.in_ok-settings.ensures file items));
    }
