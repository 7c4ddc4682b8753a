-- What was read of an input: all that is allowed, or all that there is.
use Rattle.std.proofs.Common.{◌≡◌, ℕ, ◌≤◌, List, [], ◌++◌, length, take, drop, Ok, sym, ap, ◌∙◌, arith}
use Rattle.std.proofs.Math.Seq.{take-append_seam, drop-append_seam}
use Rattle.std.proofs.lemmas.List.{append-nil, take_all, drop_all}
use Rattle.mss_top.specs.Inputs.{HasInputCause}

pub take_full : (all bytes left : List ℕ) (most : ℕ) → all ≡ bytes ++ left → length bytes ≡ most → bytes ≡ take most all
take_full all bytes left most parts full = sym (ap (λ (n : ℕ). take n all) (sym full) ∙ ap (λ (l : List ℕ). take (length bytes) l) parts ∙ take-append_seam bytes left)

pub drop_full : (all bytes left : List ℕ) (most : ℕ) → all ≡ bytes ++ left → length bytes ≡ most → left ≡ drop most all
drop_full all bytes left most parts full = sym (ap (λ (n : ℕ). drop n all) (sym full) ∙ ap (λ (l : List ℕ). drop (length bytes) l) parts ∙ drop-append_seam bytes left)

all_read : (all bytes left : List ℕ) → all ≡ bytes ++ left → left ≡ [] → all ≡ bytes
all_read all bytes left parts none = parts ∙ ap (λ (l : List ℕ). bytes ++ l) none ∙ append-nil bytes

pub take_whole : (all bytes left : List ℕ) (most : ℕ) → all ≡ bytes ++ left → left ≡ [] → length bytes ≤ most → bytes ≡ take most all
take_whole all bytes left most parts none few = sym (ap (λ (l : List ℕ). take most l) (all_read all bytes left parts none) ∙ take_all most bytes few)

pub drop_whole : (all bytes left : List ℕ) (most : ℕ) → all ≡ bytes ++ left → left ≡ [] → length bytes ≤ most → left ≡ drop most all
drop_whole all bytes left most parts none few = none ∙ sym (ap (λ (l : List ℕ). drop most l) (all_read all bytes left parts none) ∙ drop_all most bytes few)

-- an input that was read, of which no take failed
pub read_so : {T : Type 0} (before now : ℕ) (x : T) → now ≡ before → HasInputCause before now (Ok x)
read_so before now x same = record { later = omega (arith, same); failed = λ is. absurd cc; same = same }
