-- Lines put one behind the other.
use Rattle.std.proofs.Common.{◌≡◌, ℕ, suc, ◌+◌, ◌<◌, ◌≤◌, List, [], ◌∷◌, ◌++◌, length, length-append, drop, get_or, drop-cons, add-one, arith, subst, sym, ap, ◌∙◌, append_assoc, Result, Ok, Err}
use Rattle.std.specs.Prelude.{IsErrAnd}
use Rattle.std.specs.List.{flat_map}
use Rattle.std.proofs.Math.ListN.{drop_of_length-le}
use Rattle.std.proofs.lemmas.List.{append-nil}
use Rattle.std.proofs.lemmas.List.Concat.{flat_map-append}
use Rattle.ckd_track.specs.Data.{RecordData}
use Rattle.mss_base.specs.Puts.{PutsFront, Puts}
use Rattle.mss_base.proofs.Putting.{Part, part_ends, part_goes_on, part_stops}
use Rattle.report_text.specs.Texts.{numbered_lines, track_text}
use Rattle.report_text.specs.Waiting.{PutsWaiting}

-- a call that failed has put a front
pub puts_failed : {T E : Type 0} (r : Result T E) (Q : E → Type 0) (old new text : List ℕ) → IsErrAnd r Q → PutsFront old new text → Puts r old new text
puts_failed (Ok _) Q old new text failed front = absurd failed
puts_failed (Err _) Q old new text failed front = front

next_line : {A : Type 0} (text : ℕ → A → List ℕ) (n i : ℕ) (xs : List A) (x : A) → i < length xs → x ≡ get_or xs i x
    → numbered_lines text n (drop i xs) ≡ text n x ++ numbered_lines text (n + 1) (drop (i + 1) xs)
next_line text n i xs x lt is =
    let e : drop i xs ≡ x ∷ drop (i + 1) xs = drop-cons xs i x lt ∙ ap (λ y. y ∷ drop (suc i) xs) (sym is) ∙ ap (λ j. x ∷ drop j xs) (sym (add-one i)) in
    ap (λ ys. numbered_lines text n ys) e

-- the line of the next item was put
pub lines_go_on : {A : Type 0} (text : ℕ → A → List ℕ) (old now new : List ℕ) (n i : ℕ) (xs : List A) (x : A) (whole : List ℕ) → i < length xs → x ≡ get_or xs i x
    → Part old now (numbered_lines text n (drop i xs)) whole → new ≡ now ++ text n x → Part old new (numbered_lines text (n + 1) (drop (i + 1) xs)) whole
lines_go_on text old now new n i xs x whole lt is part put =
    part_goes_on old now new (text n x) (numbered_lines text (n + 1) (drop (i + 1) xs)) whole (subst (λ r. Part old now r whole) (next_line text n i xs x lt is) part) put

-- a front of it was put
pub lines_stop : {A : Type 0} (text : ℕ → A → List ℕ) (old now new : List ℕ) (n i : ℕ) (xs : List A) (x : A) (whole : List ℕ) → i < length xs → x ≡ get_or xs i x
    → Part old now (numbered_lines text n (drop i xs)) whole → PutsFront now new (text n x) → PutsFront old new whole
lines_stop text old now new n i xs x whole lt is part front =
    part_stops old now new (text n x) (numbered_lines text (n + 1) (drop (i + 1) xs)) whole (subst (λ r. Part old now r whole) (next_line text n i xs x lt is) part) front

-- ---- lines that wait

-- the line of the next item waits behind the others
pub line_waits : {A : Type 0} (text : ℕ → A → List ℕ) (old now waiting more : List ℕ) (n i : ℕ) (xs : List A) (x : A) (whole : List ℕ) → i < length xs → x ≡ get_or xs i x
    → Part old now (waiting ++ numbered_lines text n (drop i xs)) whole → more ≡ waiting ++ text n x
    → Part old now (more ++ numbered_lines text (n + 1) (drop (i + 1) xs)) whole
line_waits text old now waiting more n i xs x whole lt is part grown =
    let rest : List ℕ = numbered_lines text (n + 1) (drop (i + 1) xs) in
    let same : waiting ++ numbered_lines text n (drop i xs) ≡ more ++ rest =
    ap (λ l. waiting ++ l) (next_line text n i xs x lt is) ∙ sym (append_assoc waiting (text n x) rest) ∙ ap (λ l. l ++ rest) (sym grown) in
    subst (λ r. Part old now r whole) same part

-- a front of what waited was put
pub waiting_put : (old now waiting new left rest whole : List ℕ) → Part old now (waiting ++ rest) whole → PutsWaiting now waiting new left
    → Part old new (left ++ rest) whole
waiting_put old now waiting new left rest whole part moved =
    let same : waiting ++ rest ≡ moved.front ++ (left ++ rest) = ap (λ l. l ++ rest) moved.split ∙ append_assoc moved.front left rest in
    part_goes_on old now new moved.front (left ++ rest) whole (subst (λ r. Part old now r whole) same part) moved.put

-- of pieces put one behind the other a front of this one was put
pub pieces_stop : {X : Type 0} (text : X → List ℕ) (old now new : List ℕ) (i : ℕ) (pieces : List X) (other : X)
    → i < length pieces → Part old now (flat_map text (drop i pieces)) (flat_map text pieces)
    → PutsFront now new (text (get_or pieces i other)) → PutsFront old new (flat_map text pieces)
pieces_stop text old now new i pieces other lt part front =
    part_stops old now new (text (get_or pieces i other)) (flat_map text (drop (suc i) pieces)) (flat_map text pieces)
    (subst (λ l. Part old now (flat_map text l) (flat_map text pieces)) (drop-cons pieces i other lt) part) front

-- this one was put
pub pieces_go_on : {X : Type 0} (text : X → List ℕ) (old now new : List ℕ) (i : ℕ) (pieces : List X) (other : X)
    → i < length pieces → Part old now (flat_map text (drop i pieces)) (flat_map text pieces)
    → new ≡ now ++ text (get_or pieces i other) → Part old new (flat_map text (drop (i + 1) pieces)) (flat_map text pieces)
pieces_go_on text old now new i pieces other lt part put =
    subst (λ (j : ℕ). Part old new (flat_map text (drop j pieces)) (flat_map text pieces)) (sym (add-one i))
    (part_goes_on old now new (text (get_or pieces i other)) (flat_map text (drop (suc i) pieces)) (flat_map text pieces)
    (subst (λ l. Part old now (flat_map text l) (flat_map text pieces)) (drop-cons pieces i other lt) part) put)

-- none is left
pub pieces_end : {X : Type 0} (text : X → List ℕ) (old now : List ℕ) (i : ℕ) (pieces : List X)
    → length pieces ≤ i → Part old now (flat_map text (drop i pieces)) (flat_map text pieces) → now ≡ old ++ flat_map text pieces
pieces_end text old now i pieces all part =
    part_ends old now (flat_map text pieces) (subst (λ l. Part old now (flat_map text l) (flat_map text pieces)) (drop_of_length-le pieces {i = i} all) part)

-- a track without a record has no text
pub no_track_text : (old : List ℕ) (cylinder head : ℕ) (rs : List RecordData) → rs ≡ [] → old ≡ old ++ track_text cylinder head rs
unfolding track_text
no_track_text old cylinder head rs none = sym (ap (λ (l : List RecordData). old ++ track_text cylinder head l) none ∙ append-nil old)

-- ---- pieces of refusals

abbrev flat : List (List ℕ) → List ℕ
flat pieces = flat_map (λ piece. piece) pieces

-- pieces joined one after the other
abbrev pub joined : List ℕ → List (List ℕ) → List ℕ
joined first [] = first
joined first (piece ∷ pieces) = joined (first ++ piece) pieces

pub pieces_joined : (first : List ℕ) (pieces : List (List ℕ)) → first ++ flat pieces ≡ joined first pieces
pieces_joined first [] = append-nil first
pieces_joined first (piece ∷ pieces) = sym (append_assoc first piece (flat pieces)) ∙ pieces_joined (first ++ piece) pieces

-- the first pieces as one
grouped : (first : List ℕ) (pieces rest : List (List ℕ)) → first ++ flat (pieces ++ rest) ≡ joined first pieces ++ flat rest
grouped first pieces rest =
    ap (λ l. first ++ l) (flat_map-append (λ (piece : List ℕ). piece) pieces rest) ∙ sym (append_assoc first (flat pieces) (flat rest)) ∙ ap (λ l. l ++ flat rest) (pieces_joined first pieces)

-- a field is named by two pieces
pub damaged_pieces : (text volume copy_is copy row kind place value_is value end : List ℕ)
    → flat_map (λ piece. piece) (text ∷ volume ∷ copy_is ∷ copy ∷ row ∷ kind ∷ place ∷ value_is ∷ value ∷ end ∷ [])
    ≡ text ++ volume ++ copy_is ++ copy ++ row ++ (kind ++ place) ++ value_is ++ value ++ end
damaged_pieces text volume copy_is copy row kind place value_is value end =
    ap (λ l. text ++ (volume ++ (copy_is ++ (copy ++ (row ++ l))))) (grouped kind (place ∷ []) (value_is ∷ value ∷ end ∷ []))
    ∙ pieces_joined text (volume ∷ copy_is ∷ copy ∷ row ∷ (kind ++ place) ∷ value_is ∷ value ∷ end ∷ [])

-- a part of a volume is named by four
pub twice_pieces : (text number twice volume a word b c d end : List ℕ)
    → flat_map (λ piece. piece) (text ∷ number ∷ twice ∷ volume ∷ a ∷ word ∷ b ∷ volume ∷ c ∷ word ∷ d ∷ end ∷ [])
    ≡ text ++ number ++ twice ++ (volume ++ a ++ word ++ b) ++ (volume ++ c ++ word ++ d) ++ end
twice_pieces text number twice volume a word b c d end =
    ap (λ l. text ++ (number ++ (twice ++ l)))
    (grouped volume (a ∷ word ∷ b ∷ []) (volume ∷ c ∷ word ∷ d ∷ end ∷ []) ∙ ap (λ l. (volume ++ a ++ word ++ b) ++ l) (grouped volume (c ∷ word ∷ d ∷ []) (end ∷ [])))
    ∙ pieces_joined text (number ∷ twice ∷ (volume ++ a ++ word ++ b) ∷ (volume ++ c ++ word ++ d) ∷ end ∷ [])

-- where a text that isn't empty was put, whatever was put behind it, something was put
pub put_some : (old mid new first more : List ℕ) → 1 ≤ length first → mid ≡ old ++ first → new ≡ mid ++ more → new ≡ old → ⊥
put_some old mid new first more some put next same =
    let sizes : length old ≡ length (mid ++ more) = ap length (sym same ∙ next) in
    let before : length mid ≡ length (old ++ first) = ap length put in
    absurd (omega (arith, sizes, before, length-append mid more, length-append old first))

pub begun_behind : {T E : Type 0} (r : Result T E) (old mid new first text : List ℕ) → 1 ≤ length first → mid ≡ old ++ first → Puts r mid new text → new ≡ old → ⊥
begun_behind (Ok _) old mid new first text some put next same = put_some old mid new first text some put next same
begun_behind (Err _) old mid new first text some put next same = put_some old mid new first next.front some put next.put same
