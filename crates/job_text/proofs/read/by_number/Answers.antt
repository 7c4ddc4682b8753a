use Rattle.std.proofs.Common.{◌≡◌, ℕ, List, ◌++◌, sym, ap, ◌∙◌, subst, arith}
use Rattle.std.specs.Prelude.{◌==◌}
use Rattle.std.specs.List.{find, filter_map, range_with_len}
use Rattle.std.specs.Option.{option_to_list}
use Rattle.mss_base.specs.Configs.{VolumeData}
use Rattle.job_text.proofs.Parts.{numbered_more}
use Rattle.job_text.proofs.read.by_number.Goals as goal

pub loop-number-preserved : goal.loop-number-preserved
loop-number-preserved c =
    let h = λ (n : ℕ). find (λ (v : VolumeData). v.0 == n) c.args.volumes.now in
    c.in_ok-put_numbered.ensures ∙ ap (λ (r : List VolumeData). r ++ option_to_list (h c.loop-number.number)) c.loop-number.invariant ∙ sym (numbered_more h c.loop-number.number)

pub returns : goal.returns
returns c =
    let h = λ (n : ℕ). find (λ (v : VolumeData). v.0 == n) c.args.volumes.now in
    let all : c.loop-number.number ≡ 32 = omega arith in
    subst (λ (n : ℕ). c.loop-number.ordered.items ≡ filter_map h (range_with_len 0 n)) all c.loop-number.invariant
