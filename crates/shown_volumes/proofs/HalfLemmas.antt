-- The walk over the halves finds nothing exactly where no cartridge stands in two.
use Rattle.std.proofs.Common.{◌≡◌, inl, inr, ℕ, ◌<◌, Bool, true, false, ◌&&◌, Option, Some, None, refl, ◌∙◌, ap, arith}
use Rattle.std.specs.Option.{option_map}
use Rattle.std.proofs.lemmas.Bool.{cases_lt, and_parts}
use Rattle.shown_volumes.specs.declared.refused.Half.{Half}
use Rattle.shown_volumes.specs.declared.refused.Refused.TheVariants.{CartridgeTwice}
use Rattle.shown_volumes.specs.Shown.{RowsOf}
use Rattle.shown_volumes.specs.Sound.{cartridge_of, HasCartridgesOnce}
use Rattle.mss_base.specs.Firsts.{first_below, where_so}
use Rattle.shown_volumes.specs.Faults.{is_number, half, half_with, earlier_half, half_fault, halves_fault}
use Rattle.mss_base.proofs.FirstFacts.{or_none, both_none, none_below, all_none, none_where, where_none, chained_none, chain_none, map_none}
use Rattle.shown_volumes.proofs.WalkFacts.{number_is, is_that_number}

abbrev named : Bool → ℕ → Bool → Option Half
named b volume second = where_so b (half volume second)

module _ (rows : RowsOf) where
  module _ (few : (v : ℕ) (s : Bool) (n : ℕ) → cartridge_of rows v s ≡ Some n → v < 32) (once : (v : ℕ) → v < 32 → halves_fault rows v ≡ None) where
    none_at : (v : ℕ) (s : Bool) → v < 32 → half_fault rows v s ≡ None
    none_at v false low = (or_none (half_fault rows v false) (half_fault rows v true) (once v low)).0
    none_at v true low = (or_none (half_fault rows v false) (half_fault rows v true) (once v low)).1

    none_earlier : (n w : ℕ) (t : Bool) → cartridge_of rows w t ≡ Some n → earlier_half rows n w t ≡ None
    none_earlier n w t is =
        map_none (λ first. CartridgeTwice n first (half w t)) (earlier_half rows n w t)
        (chained_none (λ cartridge. option_map (λ first. CartridgeTwice cartridge first (half w t)) (earlier_half rows cartridge w t)) (cartridge_of rows w t) (none_at w t (few w t n is)) n is)

    absent : (n v : ℕ) (s t : Bool) → named (is_number (cartridge_of rows v s) n) v t ≡ None → cartridge_of rows v s ≡ Some n → ⊥
    absent n v s t none is =
        let no = none_where (is_number (cartridge_of rows v s) n) (half v t) none in
        let yes = is_that_number (cartridge_of rows v s) n is in
        cc

    not_below : (n v w : ℕ) (s t : Bool) → v < w → cartridge_of rows v s ≡ Some n → cartridge_of rows w t ≡ Some n → ⊥
    not_below n v w s t lt first second =
        let none = or_none (first_below w (half_with rows n)) (named (t && is_number (cartridge_of rows w false) n) w false) (none_earlier n w t second) in
        let at_v = or_none (named (is_number (cartridge_of rows v false) n) v false) (named (is_number (cartridge_of rows v true) n) v true) (none_below w (half_with rows n) none.0 v lt) in
        clash s at_v.0 at_v.1 first
      where
        clash : (b : Bool) → named (is_number (cartridge_of rows v false) n) v false ≡ None → named (is_number (cartridge_of rows v true) n) v true ≡ None → cartridge_of rows v b ≡ Some n → ⊥
        clash false one two is = absent n v false false one is
        clash true one two is = absent n v true true two is

    not_both : (n v : ℕ) → cartridge_of rows v false ≡ Some n → cartridge_of rows v true ≡ Some n → ⊥
    not_both n v first second =
        let none = or_none (first_below v (half_with rows n)) (named (true && is_number (cartridge_of rows v false) n) v false) (none_earlier n v true second) in
        absent n v false false none.1 first

    same_half : (n v : ℕ) (s t : Bool) → cartridge_of rows v s ≡ Some n → cartridge_of rows v t ≡ Some n → s ≡ t
    same_half n v false false first second = refl
    same_half n v false true first second = absurd (not_both n v first second)
    same_half n v true false first second = absurd (not_both n v second first)
    same_half n v true true first second = refl

    pub cartridges_once : HasCartridgesOnce rows
    cartridges_once v w s t n first second = elim (cases_lt v w) [
      | inl lt ↦ absurd (not_below n v w s t lt first second)
      | inr le ↦ elim (cases_lt w v) [
        | inl gt ↦ absurd (not_below n w v t s gt second first)
        | inr ge ↦
            let e : v ≡ w = omega arith in
            (e, same_half n v s t first (ap (λ (x : ℕ). cartridge_of rows x t) e ∙ second))
      ]
    ]

  module _ (once : HasCartridgesOnce rows) where
    none_lower : (n w : ℕ) (t : Bool) → cartridge_of rows w t ≡ Some n → (v : ℕ) → v < w → half_with rows n v ≡ None
    none_lower n w t is v lt =
        let apart : (s : Bool) → is_number (cartridge_of rows v s) n ≡ true → ⊥ = λ s same. let e : v ≡ w = (once v w s t n (number_is (cartridge_of rows v s) n same) is).0 in omega arith in
        both_none (named (is_number (cartridge_of rows v false) n) v false) (named (is_number (cartridge_of rows v true) n) v true)
        (where_none _ (half v false) (apart false)) (where_none _ (half v true) (apart true))

    none_first : (n w : ℕ) (t : Bool) → cartridge_of rows w t ≡ Some n → named (t && is_number (cartridge_of rows w false) n) w false ≡ None
    none_first n w t is =
        where_none _ (half w false) (λ both.
        let parts = and_parts t (is_number (cartridge_of rows w false) n) both in
        let e : false ≡ t = (once w w false t n (number_is (cartridge_of rows w false) n parts.1) is).1 in
        let yes : t ≡ true = parts.0 in
        cc)

    half_good : (w : ℕ) (t : Bool) → half_fault rows w t ≡ None
    half_good w t =
        chain_none (λ cartridge. option_map (λ first. CartridgeTwice cartridge first (half w t)) (earlier_half rows cartridge w t)) (cartridge_of rows w t)
        (λ n is. ap (λ (o : Option Half). option_map (λ first. CartridgeTwice n first (half w t)) o)
        (both_none (first_below w (half_with rows n)) (named (t && is_number (cartridge_of rows w false) n) w false) (all_none w (half_with rows n) (none_lower n w t is)) (none_first n w t is)))

    pub halves_good : (w : ℕ) → halves_fault rows w ≡ None
    halves_good w = both_none (half_fault rows w false) (half_fault rows w true) (half_good w false) (half_good w true)
