-- The lines of a text as its parts, and the volumes number by number.
use Rattle.std.proofs.Common.{◌≡◌, ℕ, zero, suc, ◌+◌, ◌<◌, ◌≤◌, Bool, true, false, cond, List, [], ◌∷◌, ◌++◌, length, take, drop, take_all, get_or, refl, sym, ap, subst, ◌∙◌, arith, inl, inr, add-zero, zero-add, add-one}
use Rattle.std.specs.Prelude.{◌==◌, not, nat_lt, Option, Some, None, unwrap_or}
use Rattle.std.specs.List.{list_all, slice_split, position, position_or_len, filter_map, cons_option, range_with_len}
use Rattle.std.specs.Option.{option_to_list}
use Rattle.std.proofs.lemmas.Bool.{ltb-true, ltb-false, lt-ltb, eqb-true, and_from, cases_Bool}
use Rattle.std.proofs.lemmas.List.{drop_all}
use Rattle.std.proofs.lemmas.List.Elements.{filter_map-append}
use Rattle.std.proofs.lemmas.List.Splits.{length-slice_split, slice_split_first, slice_split_none}
use Rattle.std.proofs.lemmas.List.Sums.{fails_before_first, position_or_len_is}
use Rattle.std.proofs.lemmas.List.Folds.{list_all_more}
use Rattle.std.proofs.lemmas.List.Quantifiers.{position-Some}
use Rattle.job_text.specs.Words.{lines_of, lines_of_parts, is_printable}

pub last_empty : (parts : List (List ℕ)) → lines_of_parts (parts ++ [] ∷ []) ≡ parts
last_empty [] = refl
last_empty ([] ∷ []) = refl
last_empty ((b ∷ part) ∷ []) = refl
last_empty (part ∷ next ∷ parts) = ap (λ (rest : List (List ℕ)). part ∷ rest) (last_empty (next ∷ parts))

pub last_full : (parts : List (List ℕ)) (b : ℕ) (last : List ℕ) → lines_of_parts (parts ++ (b ∷ last) ∷ []) ≡ parts ++ (b ∷ last) ∷ []
last_full [] b last = refl
last_full ([] ∷ []) b last = refl
last_full ((a ∷ part) ∷ []) b last = refl
last_full (part ∷ next ∷ parts) b last = ap (λ (rest : List (List ℕ)). part ∷ rest) (last_full (next ∷ parts) b last)

-- a part before others is a line
pub before_others : (part : List ℕ) (parts : List (List ℕ)) → 0 < length parts → lines_of_parts (part ∷ parts) ≡ part ∷ lines_of_parts parts
before_others part [] some = absurd (omega arith)
before_others [] (next ∷ parts) some = refl
before_others (b ∷ part) (next ∷ parts) some = refl

alone : (text : List ℕ) → 0 < length text → lines_of_parts (text ∷ []) ≡ text ∷ []
alone [] some = absurd (omega arith)
alone (b ∷ text) some = refl

abbrev pub is_feed : ℕ → Bool
is_feed b = b == 10

pub some_parts : (text : List ℕ) → 0 < length (slice_split is_feed text)
some_parts text = let count = length-slice_split is_feed text in omega arith

found : (b : Bool) (k at : ℕ) → cond b (Some k) None ≡ Some at → (b ≡ true) × (k ≡ at)
found true k at h = (refl, ap (λ o. unwrap_or o 0) h)
found false k at h = absurd (cc)

missed : (b : Bool) (k : ℕ) → cond b (Some k) None ≡ None → b ≡ false
missed true k h = absurd (cc)
missed false k h = refl

-- the first line ends at the first line feed
pub line_found : (text : List ℕ) (at : ℕ) → position is_feed text ≡ Some at → (at < length text) × (lines_of text ≡ take at text ∷ lines_of (drop (at + 1) text))
line_found text at h =
    let k : ℕ = position_or_len is_feed text in
    let t = found (nat_lt k (length text)) k at h in
    let below : k < length text = ltb-true k (length text) t.0 in
    let cut = ap lines_of_parts (slice_split_first is_feed text 0 below) ∙ before_others (take k text) (slice_split is_feed (drop (k + 1) text)) (some_parts (drop (k + 1) text)) in
    subst (λ (i : ℕ). (i < length text) × (lines_of text ≡ take i text ∷ lines_of (drop (i + 1) text))) t.1 (below, cut)

front_passes : (p : ℕ → Bool) (text : List ℕ) (n : ℕ) → n ≤ length text → ((k : ℕ) → k < n → p (get_or text k 0) ≡ true) → list_all p (take n text) ≡ true
front_passes p text zero h each = refl
front_passes p text (suc n) h each =
    let below : n < length text = omega arith in
    let e : n + 1 ≡ suc n = omega arith in
    let before = front_passes p text n (omega arith) (λ k lt. each k (omega arith)) in
    subst (λ m. list_all p (take m text) ≡ true) e (list_all_more p text n 0 below ∙ and_from _ _ before (each n (omega arith)))

passes : (b : Bool) → not b ≡ false → b ≡ true
passes true h = refl
passes false h = absurd (cc)

not_feed : (b : ℕ) → not (is_printable b) ≡ false → is_feed b ≡ false
not_feed b h =
    elim (cases_Bool (b == 10)) [
      | inl t ↦ let bad : true ≡ false = subst (λ n. not (is_printable n) ≡ false) (eqb-true b 10 t) h in absurd (cc)
      | inr f ↦ f
    ]

-- a line feed at the head is an empty line
pub line_empty : (text : List ℕ) → 0 < length text → get_or text 0 0 ≡ 10 → lines_of text ≡ take 0 text ∷ lines_of (drop 1 text)
line_empty text some feed =
    let first : position_or_len is_feed text ≡ 0 = position_or_len_is is_feed text 0 0 (omega arith) (λ k lt. absurd (omega arith)) (λ lt. ap is_feed feed) in
    let there : nat_lt 0 (length text) ≡ true = lt-ltb 0 (length text) some in
    let place : position is_feed text ≡ Some 0 = rw (first, there) refl in
    (line_found text 0 place).1

-- where the first byte that isn't printable is a line feed, the line ends there, and all its bytes are printable
pub line_printable : (text : List ℕ) (at : ℕ) → position (λ b. not (is_printable b)) text ≡ Some at → get_or text at 0 ≡ 10
    → (at < length text) × (lines_of text ≡ take at text ∷ lines_of (drop (at + 1) text)) × (list_all is_printable (take at text) ≡ true)
line_printable text at h feed =
    let p = position-Some (λ b. not (is_printable b)) text at 0 h in
    let first : position_or_len is_feed text ≡ at = position_or_len_is is_feed text at 0 (omega (arith, p.0)) (λ k lt. not_feed (get_or text k 0) (p.2 k lt)) (λ lt. ap is_feed feed) in
    let below : at < length text = p.0 in
    let there : nat_lt at (length text) ≡ true = lt-ltb at (length text) below in
    let place : position is_feed text ≡ Some at = rw (first, there) refl in
    (below, (line_found text at place).1, front_passes is_printable text at (omega arith) (λ k lt. passes (is_printable (get_or text k 0)) (p.2 k lt)))

-- a text without a line feed is a line
pub line_last : (text line after : List ℕ) → 0 < length text → position is_feed text ≡ None → line ≡ take (length text) text → after ≡ drop (length text) text → lines_of text ≡ line ∷ lines_of after
line_last text line after some h front back =
    let k : ℕ = position_or_len is_feed text in
    let past : length text ≤ k = ltb-false k (length text) (missed (nat_lt k (length text)) k h) in
    let whole = ap lines_of_parts (slice_split_none is_feed text (λ i d below. fails_before_first is_feed text i d (omega (arith, past, below)))) ∙ alone text some in
    whole ∙ (λ i. sym (front ∙ take_all (length text) text (omega arith)) i ∷ lines_of (sym (back ∙ drop_all (length text) text (omega arith)) i))

range_more : (a n : ℕ) → range_with_len a (suc n) ≡ range_with_len a n ++ (a + n) ∷ []
range_more a zero = ap (λ m. m ∷ []) (sym (add-zero a))
range_more a (suc n) =
    let e : a + 1 + n ≡ a + suc n = omega arith in
    ap (λ (r : List ℕ). a ∷ r) (range_more (a + 1) n ∙ ap (λ m. range_with_len (a + 1) n ++ m ∷ []) e)

one_more : {X : Type 0} (o : Option X) → cons_option o [] ≡ option_to_list o
one_more None = refl
one_more (Some x) = refl

pub numbered_more : {X : Type 0} (h : ℕ → Option X) (n : ℕ) → filter_map h (range_with_len 0 (n + 1)) ≡ filter_map h (range_with_len 0 n) ++ option_to_list (h n)
numbered_more h n =
    let e : range_with_len 0 (n + 1) ≡ range_with_len 0 n ++ n ∷ [] = rw (add-one, range_more 0 n, zero-add) refl in
    ap (filter_map h) e ∙ filter_map-append h (range_with_len 0 n) (n ∷ []) ∙ ap (λ (r : List _). filter_map h (range_with_len 0 n) ++ r) (one_more (h n))
