-- The line of a refusal, and what the refusal says.
use Rattle.std.proofs.Common.{◌≡◌, ◌++◌, codes, refl}
use Rattle.shown_volumes.specs.declared.refused.Refused.{Refused}
use Rattle.shown_volumes.specs.declared.refused.Refused.TheVariants as refused
use Rattle.report_text.specs.Refusals.{refusal_text, refused_text}

pub begins_alike : (r : Refused) → (r ≡ refused.Memory → ⊥) → refusal_text r ≡ codes "restart refused " ++ refused_text r
unfolding refusal_text refused_text
begins_alike (refused.RowDamaged volume copy fault) other = refl
begins_alike (refused.RowUnread volume fault) other = refl
begins_alike (refused.SerialDiffers volume kept asked) other = refl
begins_alike (refused.CartridgeTwice cartridge first second) other = refl
begins_alike (refused.FrameGone frame) other = refl
begins_alike (refused.FrameTwice frame first second) other = refl
begins_alike (refused.TornTrack volume cylinder head) other = refl
begins_alike (refused.StagedDiffers volume cylinder head) other = refl
begins_alike (refused.Stopped fault) other = refl
begins_alike refused.Memory other = absurd (other refl)
