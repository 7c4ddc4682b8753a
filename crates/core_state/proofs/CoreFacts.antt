-- What follows of a core at once.
use Rattle.std.proofs.Common.{◌≡◌, ℕ, length, Option, Some, None, refl, sym, ◌∙◌, ap, subst, arith}
use Rattle.mss_base.specs.Content.{SiteLog, content, no_tear}
use Rattle.shown_volumes.specs.Sound.{IsSound}
use Rattle.core_state.specs.CoreValue.{CoreValue}
use Rattle.volume_table.specs.Listed.{row_in_list}
use Rattle.core_state.specs.IsCore.{IsCore, IsTold}
use Rattle.mss_base.proofs.Moments.{last_image}
use Rattle.core_state.proofs.Serving.{HasOnePage}

-- no frame is of two pages
pub one_page : (S : Type 0) {C : Type 0} (v : CoreValue S C) → IsCore v → HasOnePage (row_in_list v.rows)
one_page S v core a b p q frame first second =
    let in_ = core.framed a p frame first in
    let one : Some (a, p) ≡ Some (b, q) = sym ((core.owned frame a p in_).1 first) ∙ (core.owned frame b q in_).1 second in
    (ap page_volume one, ap page_page one)
  where
    page_volume : Option (ℕ × ℕ) → ℕ
    page_volume None = 0
    page_volume (Some x) = x.0

    page_page : Option (ℕ × ℕ) → ℕ
    page_page None = 0
    page_page (Some x) = x.1

pub sound_of : (S : Type 0) {C : Type 0} (s : SiteLog) (v : CoreValue S C) → IsTold s v → IsSound v.config.frames (content s)
sound_of S s v told = subst (IsSound v.config.frames) (last_image s (length s.log) refl) (told.stops.sound (length s.log) told.began (omega arith) no_tear)
