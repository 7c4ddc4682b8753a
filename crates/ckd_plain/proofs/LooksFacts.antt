-- Twenty looks find what more looks find.
use Rattle.std.proofs.Common.{◌≡◌, ◌≢◌, ℕ, zero, suc, ◌+◌, ◌≤◌, Bool, true, false, cond, Option, Some, None, Result, Ok, Err, refl, sym, ap, ◌∙◌, inl, inr, arith}
use Rattle.std.specs.Prelude.{◌==◌, ◌<◌, bit_and}
use Rattle.std.proofs.lemmas.Bool.Decides.{eqb_tells}
use Rattle.ckd_track.specs.Data.{RecordData}
use Rattle.ckd_plain.specs.declared.host.HostState.{HostState}
use Rattle.ckd_plain.specs.declared.host.Position.TheVariants as position
use Rattle.ckd_plain.specs.declared.unit_check.Refusal.{Refusal}
use Rattle.mss_base.specs.declared.numbers.TheConstants.{HEADS}
use Rattle.ckd_plain.specs.Checks.{◌>>=◌}
use Rattle.ckd_plain.specs.Index.{Tracks, Found, pass_index, look_or_past, next_within, next_record}
use Rattle.ckd_plain.proofs.IndexFacts.{next_within-suc}

-- what a pass of the index tells of the host before it and after it
abbrev Tells : Bool → HostState → HostState → Type 0
Tells true host passed = (host.head + 1 ≢ HEADS) × (passed.head ≡ host.head + 1)
Tells false host passed = (host.passes ≡ 0) × (passed.passes ≡ 1)

passed_on : (protected last : Bool) (host passed : HostState) (a b : Refusal) (e : HostState) → cond protected (Err a) (cond last (Err b) (Ok e)) ≡ Ok passed → (last ≡ false) × (e ≡ passed)
passed_on true last host passed a b e q = absurd cc
passed_on false true host passed a b e q = absurd cc
passed_on false false host passed a b e q = (refl, cc)

passed_again : (first : Bool) (passed : HostState) (a : Refusal) (e : HostState) → cond first (Ok e) (Err a) ≡ Ok passed → (first ≡ true) × (e ≡ passed)
passed_again true passed a e q = (refl, cc)
passed_again false passed a e q = absurd cc

tells : (multi : Bool) (host passed : HostState) → pass_index host multi ≡ Ok passed → Tells multi host passed
unfolding pass_index
tells true host passed q =
    let t = passed_on (bit_and host.mask 0x18 == 0x18) (host.head + 1 == HEADS) host passed _ _ (record host { head = host.head + 1; position = position.Start; passes = 0 }) q in
    (elim (eqb_tells (host.head + 1) HEADS) [ inl is ↦ absurd (let b : true ≡ false = sym is.0 ∙ t.0 in cc) | inr isn't ↦ isn't.1 ], ap (λ (h : HostState). h.head) (sym t.1))
tells false host passed q =
    let t = passed_again (host.passes == 0) passed _ (record host { passes = 1; position = position.Start }) q in
    (elim (eqb_tells host.passes 0) [ inl is ↦ is.1 | inr isn't ↦ absurd (let b : false ≡ true = sym isn't.0 ∙ t.0 in cc) ], ap (λ (h : HostState). h.passes) (sym t.1))

bind_same : (r : Result HostState Refusal) (f g : HostState → Result Found Refusal) → ((x : HostState) → r ≡ Ok x → f x ≡ g x) → (r >>= f) ≡ (r >>= g)
bind_same (Ok x) f g same = same x refl
bind_same (Err e) f g same = refl

looked_same : (k : ℕ) (host : HostState) (multi : Bool) (o : Option RecordData) (f g : HostState → Result Found Refusal)
    → ((x : HostState) → pass_index host multi ≡ Ok x → f x ≡ g x) → look_or_past k host multi o f ≡ look_or_past k host multi o g
looked_same k host multi (Some r) f g same = refl
looked_same k host multi None f g same = bind_same (pass_index host multi) f g same

module _ (more : ℕ) (tracks : Tracks) (m : ℕ) where
  -- so many looks find what more find
  abbrev IsEnough : ℕ → Bool → HostState → Type 0
  IsEnough looks multi host = next_within (looks + more) tracks host m multi ≡ next_within looks tracks host m multi

  one_before : (looks : ℕ) (multi : Bool) (host : HostState) → ((passed : HostState) → pass_index host multi ≡ Ok passed → IsEnough looks multi passed) → IsEnough (suc looks) multi host
  one_before looks multi host enough =
      let later : suc looks + more ≡ suc (looks + more) = omega arith in
      ap (λ (n : ℕ). next_within n tracks host m multi) later ∙ next_within-suc (looks + more) tracks host m multi
      ∙ looked_same _ host multi _ _ _ enough ∙ sym (next_within-suc looks tracks host m multi)

  heads_end : (looks : ℕ) (host : HostState) → host.head < HEADS → HEADS ≤ looks + host.head → IsEnough looks true host
  heads_end zero host low enough = absurd (omega arith)
  heads_end (suc looks) host low enough = one_before looks true host (λ passed q.
      let t = tells true host passed q in
      heads_end looks passed (omega (arith, t.0, t.1)) (omega (arith, t.1)))

  passes_end : (looks : ℕ) (host : HostState) → IsEnough (suc (suc looks)) false host
  passes_end looks host = one_before (suc looks) false host (λ passed q. one_before looks false passed (λ passed' q'.
      let once : passed.passes ≡ 1 = (tells false host passed q).1 in
      let never : passed.passes ≡ 0 = (tells false passed passed' q').0 in
      absurd (omega arith)))

pub looks_suffice : (more : ℕ) (tracks : Tracks) (host : HostState) (m : ℕ) (multi : Bool) → host.head < HEADS → next_within (20 + more) tracks host m multi ≡ next_record tracks host m multi
unfolding next_record
looks_suffice more tracks host m true low = heads_end more tracks m 20 host low (omega arith)
looks_suffice more tracks host m false low = passes_end more tracks m 18 host
