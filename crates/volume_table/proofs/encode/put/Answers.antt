use Rattle.std.proofs.Common.{◌≡◌, ◌+◌, ◌-◌, ◌++◌, ◌∙◌, ap, sym, ℕ, length, take, drop, arith, append_assoc}
use Rattle.std.proofs.lemmas.List.{drop-drop}
use Rattle.mss_base.proofs.ContentLemmas.{splice_fits}
use Rattle.volume_table.proofs.encode.put.Goals as goal

pub returns : goal.returns
returns c =
    let at = c.args.at in
    let old = c.args.into.now in
    let bytes = c.args.bytes.now in
    let count : at + length bytes - at ≡ length bytes = omega arith in
    let rest : drop (at + length bytes - at) (drop at old) ≡ drop (at + length bytes) old = ap (λ (n : ℕ). drop n (drop at old)) count ∙ drop-drop (length bytes) at old in
    let same : c.copy_from_slice.new.self ≡ bytes = c.copy_from_slice.ensures.after in
    let parts : take at old ++ (c.copy_from_slice.new.self ++ drop (at + length bytes - at) (drop at old)) ≡ take at old ++ (bytes ++ drop (at + length bytes) old) = (λ i. take at old ++ (same i ++ rest i)) in
    parts ∙ sym (append_assoc (take at old) bytes (drop (at + length bytes) old)) ∙ sym (splice_fits at bytes old c.requires)
