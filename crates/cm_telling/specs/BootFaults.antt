-- The value by which the boot of a slave came to its status, where there is one (CiA 302-2, boot NMT slave).
use Rattle.std.specs.Prelude.{ℕ, List, slice_get, Option, Some, None, codes}
use Rattle.cm_nmt.specs.Answers.{id_of}
use Rattle.cm_nmt.specs.declared.answers.Answers.{Answers}
use Rattle.cm_nmt.specs.declared.status.Status.{Status}
use Rattle.cm_nmt.specs.declared.status.Status.TheVariants as status
use Rattle.cm_netlist.specs.declared.entry.SlaveEntry.{SlaveEntry}
use Rattle.cm_telling.specs.declared.boot_fault.BootFault.{BootFault}
use Rattle.cm_telling.specs.declared.boot_fault.BootFault.TheVariants as fault
use Rattle.cm_telling.specs.declared.boot_fault.Compared.{Compared}
use Rattle.cm_telling.specs.declared.boot_fault.Compared.TheVariants as compared

-- an object that a boot compares with the list, by its name (CiA 301, 1000h and 1018h)
abbrev pub object_name : Compared → List ℕ
object_name compared.DeviceType = codes "device type"
object_name compared.VendorId = codes "vendor-ID"
object_name compared.ProductCode = codes "product code"
object_name compared.RevisionNumber = codes "revision number"
object_name compared.SerialNumber = codes "serial number"

-- the value by which a boot with these answers came to the status, of a slave of which this is listed: the object that differs, or the
-- write that failed, if the slave has one at that place (CiA 302-2, boot NMT slave, the error status)
abbrev pub boot_fault : Status → Answers → SlaveEntry → Option BootFault
boot_fault status.C a e = Some (fault.Differs compared.DeviceType a.device e.device_type)
boot_fault status.D a e = Some (fault.Differs compared.VendorId (id_of a 0) e.vendor)
boot_fault status.J a e = Some (fault.Write (slice_get e.writes.items a.acked) a.refused)
boot_fault status.M a e = Some (fault.Differs compared.ProductCode (id_of a 1) e.product)
boot_fault status.N a e = Some (fault.Differs compared.RevisionNumber (id_of a 2) e.revision)
boot_fault status.O a e = Some (fault.Differs compared.SerialNumber (id_of a 3) e.serial)
boot_fault _ a e = None
