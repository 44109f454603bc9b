-- What a step did, by its number and back.
use Rattle.std.proofs.Common.{◌≡◌, refl}
use Rattle.errors.specs.declared.Progress.{Progress}
use Rattle.errors.specs.declared.Progress.TheVariants as progress
use Rattle.errors.specs.Errors.{progress_number}
use Rattle.listing.specs.Answers.{progress_of}

pub progress_again : (p : Progress) → progress_of (progress_number p) ≡ p
progress_again progress.Idle = refl
progress_again progress.Written = refl
progress_again progress.Flushed = refl
progress_again progress.Blocked = refl
