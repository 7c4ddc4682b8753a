-- The scripts of a job by number, and their places.
use Rattle.std.proofs.Common.{◌≡◌, ◌≢◌, ◌<◌, ℕ, zero, suc, false, List, [], ◌∷◌, ◌++◌, length, get_or, take, ◌+◌, refl, sym, ◌∙◌, ap, subst, arith}
use Rattle.std.specs.Prelude.{◌==◌, slice_set}
use Rattle.std.specs.List.{IsDistinct, AllByRecursion}
use Rattle.std.proofs.lemmas.Bool.{cond-true, cond-false, eq-eqb, ne_eqb, eqb-false}
use Rattle.std.proofs.lemmas.List.{append-nil}
use Rattle.std.proofs.Math.Seq.{take-suc}
use Rattle.std.proofs.lemmas.Map.Keys.{IsDistinct-head, IsDistinct-tail}
use Rattle.channel_program.specs.Script.{Exchange}
use Rattle.ckd_plain.specs.History.{EntryData}
use Rattle.job_text.specs.Jobs.{ScriptData}
use Rattle.script_places.specs.declared.place.Place.{Place}
use Rattle.script_places.specs.Places.{StandsAt}
use Rattle.script_places.specs.Scripts.{not_begun, left_after, script_of, exchanges_of}
use Rattle.serial_driver.specs.Drives.{hosts_of, AllStand}
use Rattle.script_places.proofs.ScriptFacts.{exchanges_of-append}

-- ---- entries of a host

pub others_entry : (h : ℕ) (es : List EntryData) (e : EntryData) → h ≢ e.host → exchanges_of h (es ++ e ∷ []) ≡ exchanges_of h es
others_entry h es e other =
    exchanges_of-append h es (e ∷ []) ∙ ap (λ (l : List Exchange). exchanges_of h es ++ l) (cond-false (e.host == h) ((e.call, e.reply) ∷ []) [] (ne_eqb e.host h (λ same. other (sym same)))) ∙ append-nil (exchanges_of h es)

pub its_own : (h : ℕ) (es : List EntryData) (e : EntryData) → e.host ≡ h → exchanges_of h (es ++ e ∷ []) ≡ exchanges_of h es ++ (e.call, e.reply) ∷ []
its_own h es e same =
    exchanges_of-append h es (e ∷ []) ∙ ap (λ (l : List Exchange). exchanges_of h es ++ l) (cond-true (e.host == h) ((e.call, e.reply) ∷ []) [] (eq-eqb e.host h same))

-- ---- scripts by number

other_at : (x : ℕ) (ss : List ScriptData) (n : ℕ) (d : ScriptData) → AllByRecursion (λ y. (x == y) ≡ false) (hosts_of ss) → n < length ss → (x == (get_or ss n d).host) ≡ false
other_at x [] n d all below = absurd (omega (arith, below))
other_at x (s ∷ ss) zero d all below = all.0
other_at x (s ∷ ss) (suc n) d all below = other_at x ss n d all.1 (omega (arith, below))

-- the script of a host of the job
pub script_at : (ss : List ScriptData) (n : ℕ) (d : ScriptData) → IsDistinct ◌==◌ (hosts_of ss) → n < length ss → script_of ss (get_or ss n d).host ≡ (get_or ss n d).items
script_at [] n d differ below = absurd (omega (arith, below))
script_at (s ∷ ss) zero d differ below = cond-true (s.host == s.host) s.items (script_of ss s.host) (eq-eqb s.host s.host refl)
script_at (s ∷ ss) (suc n) d differ below =
    cond-false (s.host == (get_or ss n d).host) s.items (script_of ss (get_or ss n d).host)
    (other_at s.host ss n d (IsDistinct-head ◌==◌ s.host (hosts_of ss) differ) (omega (arith, below)))
    ∙ script_at ss n d (IsDistinct-tail ◌==◌ s.host (hosts_of ss) differ) (omega (arith, below))

pub stand_at : (history : List EntryData) (ss : List ScriptData) (ps : List Place) (n : ℕ) (d : ScriptData) (p : Place) → AllStand history ss ps → n < length ss
    → StandsAt (get_or ss n d).items (left_after (not_begun (get_or ss n d).items) (exchanges_of (get_or ss n d).host history)) (get_or ps n p)
stand_at history [] ps n d p all below = absurd (omega (arith, below))
stand_at history (s ∷ ss) [] n d p all below = absurd all
stand_at history (s ∷ ss) (q ∷ ps) zero d p all below = all.0
stand_at history (s ∷ ss) (q ∷ ps) (suc n) d p all below = stand_at history ss ps n d p all.1 (omega (arith, below))

pub as_many : (history : List EntryData) (ss : List ScriptData) (ps : List Place) → AllStand history ss ps → length ps ≡ length ss
as_many history [] [] all = refl
as_many history [] (p ∷ ps) all = absurd all
as_many history (s ∷ ss) [] all = absurd all
as_many history (s ∷ ss) (p ∷ ps) all = ap suc (as_many history ss ps all.1)

module _ (old new : List EntryData) where
  stand_same : (s : ScriptData) (p : Place) → exchanges_of s.host new ≡ exchanges_of s.host old → StandsAt s.items (left_after (not_begun s.items) (exchanges_of s.host old)) p
      → StandsAt s.items (left_after (not_begun s.items) (exchanges_of s.host new)) p
  stand_same s p same stands = subst (λ (xs : List Exchange). StandsAt s.items (left_after (not_begun s.items) xs) p) (sym same) stands

  stand_kept : (x : ℕ) (ss : List ScriptData) (ps : List Place) → AllByRecursion (λ y. (x == y) ≡ false) (hosts_of ss) → ((h : ℕ) → h ≢ x → exchanges_of h new ≡ exchanges_of h old)
      → AllStand old ss ps → AllStand new ss ps
  stand_kept x [] [] others same all = tt
  stand_kept x [] (p ∷ ps) others same all = absurd all
  stand_kept x (s ∷ ss) [] others same all = absurd all
  stand_kept x (s ∷ ss) (p ∷ ps) others same all =
      (stand_same s p (same s.host (λ is. eqb-false x s.host others.0 (sym is))) all.0, stand_kept x ss ps others.1 same all.1)

  -- one host's place is another, and no other host has an entry more
  pub stand_set : (ss : List ScriptData) (ps : List Place) (n : ℕ) (d : ScriptData) (q : Place) → IsDistinct ◌==◌ (hosts_of ss) → n < length ss
      → ((h : ℕ) → h ≢ (get_or ss n d).host → exchanges_of h new ≡ exchanges_of h old)
      → StandsAt (get_or ss n d).items (left_after (not_begun (get_or ss n d).items) (exchanges_of (get_or ss n d).host new)) q
      → AllStand old ss ps → AllStand new ss (slice_set ps n q)
  stand_set [] ps n d q differ below same stands all = absurd (omega (arith, below))
  stand_set (s ∷ ss) [] n d q differ below same stands all = absurd all
  stand_set (s ∷ ss) (p ∷ ps) zero d q differ below same stands all =
      (stands, stand_kept s.host ss ps (IsDistinct-head ◌==◌ s.host (hosts_of ss) differ) same all.1)
  stand_set (s ∷ ss) (p ∷ ps) (suc n) d q differ below same stands all = (
    stand_same s p (same s.host (λ is. eqb-false s.host (get_or ss n d).host (other_at s.host ss n d (IsDistinct-head ◌==◌ s.host (hosts_of ss) differ) (omega (arith, below))) is)) all.0,
    stand_set ss ps n d q (IsDistinct-tail ◌==◌ s.host (hosts_of ss) differ) (omega (arith, below)) same stands all.1,
  )

-- ---- places at the starts of scripts

pub stand_push : (history : List EntryData) (ss : List ScriptData) (ps : List Place) (s : ScriptData) (p : Place) → AllStand history ss ps
    → StandsAt s.items (left_after (not_begun s.items) (exchanges_of s.host history)) p → AllStand history (ss ++ s ∷ []) (ps ++ p ∷ [])
stand_push history [] [] s p all stands = (stands, tt)
stand_push history [] (q ∷ ps) s p all stands = absurd all
stand_push history (x ∷ ss) [] s p all stands = absurd all
stand_push history (x ∷ ss) (q ∷ ps) s p all stands = (all.0, stand_push history ss ps s p all.1 stands)

-- one script more
pub stand_next : (ss : List ScriptData) (i : ℕ) (s : ScriptData) (ps : List Place) (p : Place) → i < length ss → s ≡ get_or ss i s → AllStand [] (take i ss) ps
    → StandsAt s.items (not_begun s.items) p → AllStand [] (take (i + 1) ss) (ps ++ p ∷ [])
stand_next ss i s ps p below is all stands =
    let e : i + 1 ≡ suc i = omega arith in
    subst (λ (l : List ScriptData). AllStand [] l (ps ++ p ∷ [])) (sym (ap (λ (n : ℕ). take n ss) e ∙ take-suc ss i s below ∙ ap (λ (x : ScriptData). take i ss ++ x ∷ []) (sym is)))
    (stand_push [] (take i ss) ps s p all stands)
