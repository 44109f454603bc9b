-- What holds of the medium of every retried disk.
use Rattle.disk.specs.Medium.{Medium, Sound}
use Rattle.retry.specs.Retried.{retry_medium}

-- its plan differs, and nothing else does
pub retry_sound : (m : Medium) → Sound m → Sound (retry_medium m)
retry_sound m s = record { some = s.some; few = s.few; blocks = s.blocks; held = s.held; fitting = s.fitting }
