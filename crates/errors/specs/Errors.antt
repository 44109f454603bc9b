-- The number of each error, and how a layer holds the error of the one below.
use Rattle.std.specs.Prelude.{ℕ, Ok, Err, Result, Some, None, Option}
use Rattle.disk.specs.declared.error.DiskError.{DiskError}
use Rattle.disk.specs.declared.error.DiskError.TheVariants as disk
use Rattle.disk.specs.declared.error.Fault.{Fault}
use Rattle.disk.specs.Calls.{Answer, number}
use Rattle.errors.specs.declared.VolumeError.{VolumeError}
use Rattle.errors.specs.declared.VolumeError.TheVariants as volume
use Rattle.errors.specs.declared.CacheCall.{CacheCall}
use Rattle.errors.specs.declared.CacheError.{CacheError}
use Rattle.errors.specs.declared.CacheError.TheVariants as cache
use Rattle.errors.specs.declared.Progress.{Progress}
use Rattle.errors.specs.declared.Progress.TheVariants as progress

abbrev pub from_disk : DiskError → VolumeError
from_disk e = volume.Disk e

-- a disk's refusal of a call that the cache made during one of its own
abbrev pub during_call : CacheCall → DiskError → CacheError
during_call call e = cache.Volume call (from_disk e)

-- a disk's answer as the cache hands it up
abbrev pub raised : CacheCall → Answer → Result (Unit {0}) CacheError
raised call (Ok u) = Ok tt
raised call (Err e) = Err (during_call call e)

abbrev pub volume_number : VolumeError → ℕ
volume_number (volume.Disk e) = number e
volume_number volume.NoHead = 11
volume_number volume.TooSmall = 12

abbrev pub cache_number : CacheError → ℕ
cache_number cache.Length = 1
cache_number cache.Place = 2
cache_number cache.PlaceOpen = 3
cache_number cache.NoRoom = 4
cache_number cache.NoMarks = 5
cache_number cache.NoTicket = 6
cache_number cache.NothingCollected = 8
cache_number cache.GroupUnderWay = 9
cache_number cache.NoNumbers = 10
cache_number (cache.Volume call e) = volume_number e

-- the disk's fault in a refusal, where it is one
abbrev pub volume_fault : VolumeError → Option Fault
volume_fault (volume.Disk disk.Length) = None
volume_fault (volume.Disk disk.Place) = None
volume_fault (volume.Disk (disk.Fault f)) = Some f
volume_fault volume.NoHead = None
volume_fault volume.TooSmall = None

abbrev pub cache_fault : CacheError → Option Fault
cache_fault cache.Length = None
cache_fault cache.Place = None
cache_fault cache.PlaceOpen = None
cache_fault cache.NoRoom = None
cache_fault cache.NoMarks = None
cache_fault cache.NoTicket = None
cache_fault cache.NothingCollected = None
cache_fault cache.GroupUnderWay = None
cache_fault cache.NoNumbers = None
cache_fault (cache.Volume call e) = volume_fault e

-- the number by which what a step did is known
abbrev pub progress_number : Progress → ℕ
progress_number progress.Idle = 0
progress_number progress.Written = 1
progress_number progress.Flushed = 2
progress_number progress.Blocked = 3
