-- Bytes of a file that are moved piece by piece.
use Rattle.std.proofs.Common.{◌≡◌, ℕ, zero, suc, ◌+◌, ◌≤◌, ◌<◌, List, ◌∷◌, ◌++◌, length, take, drop, replicate, refl, sym, ◌∙◌, ap, ap₂, arith, take-add}
use Rattle.std.proofs.Math.Seq.{take-append-add}
use Rattle.mss_base.specs.declared.place.UnitNo.{UnitNo}
use Rattle.mss_files.specs.Files.{FileBytes, bytes_at, ChangesOnly}

pub length-bytes_at : (f : ℕ → ℕ) (at n : ℕ) → length (bytes_at f at n) ≡ n
unfolding bytes_at
length-bytes_at f at zero = refl
length-bytes_at f at (suc n) = ap suc (length-bytes_at f (at + 1) n)

-- from here on, with the place given as the caller has it
moved : (f : ℕ → ℕ) (a b n : ℕ) → a ≡ b → bytes_at f a n ≡ bytes_at f b n
moved f a b n e = ap (λ (k : ℕ). bytes_at f k n) e

pub bytes_at-more : (f : ℕ → ℕ) (at m n : ℕ) → bytes_at f at (m + n) ≡ bytes_at f at m ++ bytes_at f (at + m) n
unfolding bytes_at
bytes_at-more f at zero n =
    let e : 0 + n ≡ n = omega arith in
    ap (bytes_at f at) e ∙ moved f at (at + 0) n (omega arith)
bytes_at-more f at (suc m) n =
    let e : suc m + n ≡ suc (m + n) = omega arith in
    ap (bytes_at f at) e ∙ ap (λ (l : List ℕ). f at ∷ l) (bytes_at-more f (at + 1) m n ∙ ap (λ (l : List ℕ). bytes_at f (at + 1) m ++ l) (moved f (at + 1 + m) (at + suc m) n (omega arith)))

pub bytes_at-same : (f g : ℕ → ℕ) (at n : ℕ) → ((place : ℕ) → at ≤ place → place < at + n → g place ≡ f place) → bytes_at g at n ≡ bytes_at f at n
unfolding bytes_at
bytes_at-same f g at zero same = refl
bytes_at-same f g at (suc n) same =
    ap₂ (λ (x : ℕ) (l : List ℕ). x ∷ l) (same at (omega arith) (omega arith)) (bytes_at-same f g (at + 1) n (λ place a b. same place (omega arith) (omega arith)))

pub bytes_at-zeros : (f : ℕ → ℕ) (at n : ℕ) → ((place : ℕ) → at ≤ place → f place ≡ 0) → bytes_at f at n ≡ replicate n 0
unfolding bytes_at
bytes_at-zeros f at zero none = refl
bytes_at-zeros f at (suc n) none =
    ap₂ (λ (x : ℕ) (l : List ℕ). x ∷ l) (none at (omega arith)) (bytes_at-zeros f (at + 1) n (λ place a. none place (omega arith)))

-- ---- reads

-- one more piece was read
pub read_more : (f : ℕ → ℕ) (at done count : ℕ) (front rest : List ℕ) → length front ≡ done → front ≡ bytes_at f at done → take count rest ≡ bytes_at f (at + done) count
    → take (done + count) (front ++ rest) ≡ bytes_at f at (done + count)
read_more f at done count front rest long read next =
    ap (λ (n : ℕ). take (n + count) (front ++ rest)) (sym long) ∙ take-append-add front rest count ∙ ap₂ (λ (a b : List ℕ). a ++ b) read next ∙ sym (bytes_at-more f at done count)

-- the file ends behind what was read
pub read_end : (f : ℕ → ℕ) (at done left : ℕ) (front : List ℕ) → front ≡ bytes_at f at done → ((place : ℕ) → at + done ≤ place → f place ≡ 0)
    → front ++ replicate left 0 ≡ bytes_at f at (done + left)
read_end f at done left front read none =
    ap₂ (λ (a b : List ℕ). a ++ b) read (sym (bytes_at-zeros f (at + done) left none)) ∙ sym (bytes_at-more f at done left)

-- ---- writes

pub changes_none : (unit : UnitNo) (at n : ℕ) (f : FileBytes) → ChangesOnly unit at n f f
changes_none unit at n f = record { before = λ _ _. refl; behind = λ _ _. refl; others = λ _ _. refl }

-- a change within the same bytes
pub changes_more : (unit : UnitNo) (at n from m : ℕ) (f g h : FileBytes)
    → ChangesOnly unit at n f g → ChangesOnly unit from m g h → at ≤ from → from + m ≤ at + n
    → ChangesOnly unit at n f h
changes_more unit at n from m f g h first next low high = record {
  before = λ place a. next.before place (omega arith) ∙ first.before place a;
  behind = λ place a. next.behind place (omega arith) ∙ first.behind place a;
  others = λ u off. next.others u off ∙ first.others u off;
}

-- one more piece was written
pub write_more : (unit : UnitNo) (f g : FileBytes) (at done count : ℕ) (bytes rest : List ℕ)
    → rest ≡ drop done bytes → bytes_at (f unit) at done ≡ take done bytes
    → bytes_at (g unit) (at + done) count ≡ take count rest
    → ChangesOnly unit (at + done) (length rest) f g
    → bytes_at (g unit) at (done + count) ≡ take (done + count) bytes
write_more unit f g at done count bytes rest is front next changed =
    bytes_at-more (g unit) at done count
    ∙ ap₂ (λ (a b : List ℕ). a ++ b) (bytes_at-same (f unit) (g unit) at done (λ place a b. changed.before place b) ∙ front) (next ∙ ap (take count) is)
    ∙ sym (take-add done count bytes)

pub bytes_at-none : (f : ℕ → ℕ) (at : ℕ) (bytes : List ℕ) → bytes_at f at 0 ≡ take 0 bytes
unfolding bytes_at
bytes_at-none f at bytes = refl
