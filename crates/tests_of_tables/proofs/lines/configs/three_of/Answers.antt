-- Three volumes in order, whose serials differ.
use Rattle.std.proofs.Common.{rules, ◌≡◌, ℕ, Bool, false, List, [], ◌∷◌, ◌++◌, refl, subst, sym, ◌∙◌, arith}
use Rattle.std.specs.List.{IsDistinct}
use Rattle.std.specs.List.Sorted.{IsStrictlySortedBy}
use Rattle.std.specs.Str.{bytes_eq}
use Rattle.mss_base.specs.Configs.{VolumeData, IsConfig}
use Rattle.mss_base.specs.Serial.{IsSerial}
use Rattle.tests_of_tables.proofs.lines.configs.three_of.Goals as goal

abbrev serial : ℕ → List ℕ
serial digit = 86 ∷ 79 ∷ 76 ∷ 48 ∷ 48 ∷ digit ∷ []

serials_differ : IsDistinct bytes_eq (serial 49 ∷ serial 52 ∷ serial 54 ∷ [])
unfolding IsDistinct
serials_differ = ((refl, (refl, tt)), ((refl, tt), (tt, tt)))

three_volumes : (one four six : List ℕ) (read_only : Bool) → one ≡ serial 49 → four ≡ serial 52 → six ≡ serial 54
    → IsSerial one → IsSerial four → IsSerial six
    → IsConfig (record {
      frames = 8;
      recorders = 1;
      volumes = (0, one, false) ∷ (3, four, read_only) ∷ (5, six, false) ∷ [];
    })
unfolding IsStrictlySortedBy
three_volumes one four six read_only one_is four_is six_is good_one good_four good_six = record {
  some_frames = omega arith;
  few_frames = omega arith;
  some_recorders = omega arith;
  few_recorders = omega arith;
  volumes_ = ((omega arith, good_one), ((omega arith, good_four), ((omega arith, good_six), tt)));
  rising = ((refl, (refl, tt)), ((refl, tt), (tt, tt)));
  serials = subst (λ (s : List ℕ). IsDistinct bytes_eq (s ∷ four ∷ six ∷ [])) (sym one_is) (subst (λ (s : List ℕ). IsDistinct bytes_eq (serial 49 ∷ s ∷ six ∷ [])) (sym four_is) (subst (λ (s : List ℕ). IsDistinct bytes_eq (serial 49 ∷ serial 52 ∷ s ∷ [])) (sym six_is) serials_differ));
}

pub invariant_of-result : goal.invariant_of-result
invariant_of-result c =
    let good_one : IsSerial c.args.one = search rules in
    let good_four : IsSerial c.args.four = search rules in
    let good_six : IsSerial c.args.six = search rules in
    let first : c.push.new.self.items ≡ (0, c.args.one, false) ∷ [] =
    c.push.ensures.items
    ∙ (λ i. (c.in_ok-reserve.ensures.items ∙ c.new-volumes.ensures) i
    ++ (c.volume_at.ensures i, c.args.one, false) ∷ []) in
    let second : c.push-2.new.self.items ≡ (0, c.args.one, false) ∷ (3, c.args.four, c.args.read_only) ∷ [] =
    c.push-2.ensures.items ∙ (λ i. first i ++ (c.volume_at-2.ensures i, c.args.four, c.args.read_only) ∷ []) in
    let items : c.push-3.new.self.items
    ≡ (0, c.args.one, false) ∷ (3, c.args.four, c.args.read_only) ∷ (5, c.args.six, false) ∷ [] =
    c.push-3.ensures.items ∙ (λ i. second i ++ (c.volume_at-3.ensures i, c.args.six, false) ∷ []) in
    subst (λ (vs : List VolumeData). IsConfig (record { frames = 8; recorders = 1; volumes = vs })) (sym items)
    (three_volumes c.args.one c.args.four c.args.six c.args.read_only
    c.requires.one c.requires.four c.requires.six good_one good_four good_six)
