-- The numbers of a play's refusals.
use Rattle.std.specs.Prelude.{ℕ, Some, None, Option}
use Rattle.disk.specs.declared.error.Fault.{Fault}
use Rattle.errors.specs.declared.CacheError.{CacheError}
use Rattle.errors.specs.Errors.{cache_number, cache_fault}
use Rattle.listing.specs.declared.play_error.PlayError.{PlayError}
use Rattle.listing.specs.declared.play_error.PlayError.TheVariants.{SealInOrder, Cache}

abbrev pub from_cache : CacheError → PlayError
from_cache e = Cache e

abbrev pub play_number : PlayError → ℕ
play_number SealInOrder = 15
play_number (Cache e) = cache_number e

-- the disk's fault in a refusal, where it is one
abbrev pub play_fault : PlayError → Option Fault
play_fault SealInOrder = None
play_fault (Cache e) = cache_fault e

abbrev pub tries_of : Option Fault → ℕ
tries_of None = 0
tries_of (Some f) = f.tries

-- the value that is told of a refusal: the tries of a fault, 0 of any other
abbrev pub play_value : PlayError → ℕ
play_value e = tries_of (play_fault e)
