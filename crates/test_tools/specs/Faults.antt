-- The fault in an answer.
use Rattle.std.specs.Prelude.{Some, None, Ok, Err, Option, Result}
use Rattle.disk.specs.declared.error.Fault.{Fault}
use Rattle.disk.specs.declared.error.DiskError.TheVariants as disk
use Rattle.errors.specs.declared.VolumeError.TheVariants as volume
use Rattle.errors.specs.declared.CacheCall.{CacheCall}
use Rattle.errors.specs.declared.CacheCall.TheVariants.{Read, Step}
use Rattle.errors.specs.declared.CacheError.{CacheError}
use Rattle.errors.specs.declared.CacheError.TheVariants as cache

abbrev pub if_same : CacheCall → CacheCall → Fault → Option Fault
if_same Read Read f = Some f
if_same Read Step f = None
if_same Step Read f = None
if_same Step Step f = Some f

-- the fault that a refusal during this call hands up
abbrev pub fault_during : {A : Type 0} → CacheCall → Result A CacheError → Option Fault
fault_during call (Ok x) = None
fault_during call (Err cache.Length) = None
fault_during call (Err cache.Place) = None
fault_during call (Err cache.PlaceOpen) = None
fault_during call (Err cache.NoRoom) = None
fault_during call (Err cache.NoMarks) = None
fault_during call (Err cache.NoTicket) = None
fault_during call (Err cache.NothingCollected) = None
fault_during call (Err cache.GroupUnderWay) = None
fault_during call (Err cache.NoNumbers) = None
fault_during call (Err (cache.Volume during volume.NoHead)) = None
fault_during call (Err (cache.Volume during volume.TooSmall)) = None
fault_during call (Err (cache.Volume during (volume.Disk disk.Length))) = None
fault_during call (Err (cache.Volume during (volume.Disk disk.Place))) = None
fault_during call (Err (cache.Volume during (volume.Disk (disk.Fault f)))) = if_same during call f
