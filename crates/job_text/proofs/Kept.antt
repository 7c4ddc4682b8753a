-- What a reading keeps from line to line.
use Rattle.std.proofs.Common.{◌≡◌, ℕ, ◌+◌, ◌≤◌, Bool, true, false, ◌||◌, List, [], ◌∷◌, ◌++◌, map, length, Option, Some, None, Ok, Err, Result, refl, sym, ap, subst, arith, length-append, inl, inr}
use Rattle.std.specs.Prelude.{◌==◌, sum_by, nat_lt, is_none, IsSome}
use Rattle.std.specs.List.{find, list_all, AllByRecursion, IsDistinct}
use Rattle.std.specs.Option.{option_map}
use Rattle.std.specs.Str.{bytes_eq}
use Rattle.std.proofs.lemmas.Bool.{cases_Bool, ltb-false, eqb-false, eq-eqb}
use Rattle.channel_commands.specs.Data.{CcwData, device, transfer}
use Rattle.channel_program.specs.Script.{ItemData, mounting, demounting, program as running}
use Rattle.job_text.specs.declared.kind.JobKind.{JobKind}
use Rattle.job_text.specs.declared.kind.Keyword.{Keyword}
use Rattle.job_text.specs.declared.kind.Place.{Place}
use Rattle.job_text.specs.declared.kind.Place.TheVariants as place
use Rattle.job_text.specs.Words.{is_skipped, is_printable, words_of}
use Rattle.job_text.proofs.Serials.{to_serial}
use Rattle.mss_base.specs.Configs.{VolumeData, IsVolume}
use Rattle.job_text.specs.Jobs.{ScriptData, IsWord, IsItem, IsProgram, IsScript, word_size, item_size, script_size, WORD_LIMIT, ITEM_LIMIT, ARGUMENT_LIMIT, TOTAL_LIMIT}
use Rattle.job_text.specs.Lines.{LineData, mss, volume, host, done, mount, demount, program, ccw, tic, end, spelling, keywords_at, keyword_at, line_of}
use Rattle.job_text.specs.Grammar.{SoFar, BadLine, nothing, after, after_line, ◌>>=◌, line_of_words, spoken_by, is_after, line_after, with_line_number, lines_after, number_of_serial, is_twice, is_absent, is_beyond, scripts}
use Rattle.job_text.specs.Canonical.{keyword_of, IsLine, IsAllowed}
use Rattle.job_text.proofs.Volumes.{has_number}
use Rattle.job_text.proofs.Lists.{both_false, all_push, distinct_push, neither, sum_push, found_test, bytes_eq-is}
use Rattle.job_text.proofs.Said.{is_said}

-- what is kept once the configuration was begun
pub record IsBase (s : SoFar) : Type 0 where
  pub some_frames : 1 ≤ s.frames
  pub few_frames : s.frames ≤ 200
  pub some_recorders : 1 ≤ s.recorders
  pub few_recorders : s.recorders ≤ 8
  pub volumes_ : AllByRecursion IsVolume s.volumes
  pub numbers : IsDistinct ◌==◌ (map (λ v. v.0) s.volumes)
  pub serials : IsDistinct bytes_eq (map (λ v. v.1) s.volumes)
  pub closed_ : AllByRecursion (IsScript s.volumes) s.closed
  pub small : s.total ≤ TOTAL_LIMIT

-- no host was named
pub record IsHostless (s : SoFar) : Type 0 where
  pub none_closed : s.closed ≡ []
  pub none_present : s.present ≡ None
  pub no_words : s.words ≡ []
  pub no_bytes : s.total ≡ 0

abbrev pub script : ℕ → List ItemData → ScriptData
script n items = record { host = n; items = items }

-- a host's items are read
pub record IsOpen (s : SoFar) (n : ℕ) : Type 0 where
  pub present_ : s.present ≡ Some n
  pub whole : IsScript s.volumes (script n s.items)
  pub differ : IsDistinct ◌==◌ (map (λ x. x.host) (s.closed ++ script n [] ∷ []))
  pub size : sum_by script_size s.closed + sum_by item_size s.items + sum_by word_size s.words ≡ s.total

-- a program's words are read
pub record IsInProgram (s : SoFar) : Type 0 where
  pub room : length s.items + 1 ≤ ITEM_LIMIT
  pub few : length s.words ≤ WORD_LIMIT
  pub each : AllByRecursion IsWord s.words

pub record IsClosed (hosts : List ScriptData) (total : ℕ) : Type 0 where
  pub differ : IsDistinct ◌==◌ (map (λ x. x.host) hosts)
  pub size : sum_by script_size hosts ≡ total

abbrev pub IsKeptAt : Place → SoFar → Type 0
IsKeptAt place.Head s = s ≡ nothing
IsKeptAt place.Volumes s = IsBase s × IsHostless s
IsKeptAt place.Host s = IsBase s × (n : ℕ) × IsOpen s n × (s.words ≡ [])
IsKeptAt place.Program s = IsBase s × (n : ℕ) × IsOpen s n × IsInProgram s
IsKeptAt place.After s = IsBase s × IsClosed s.closed s.total

judged_ok : (s t : SoFar) (line : LineData) → after_line s line ≡ Ok t → (is_twice s line ≡ false) × (is_absent s line ≡ false) × (is_beyond s line ≡ false) × (after s line ≡ t)
judged_ok s t line h = elim (cases_Bool (is_twice s line)) [
  | inl twice ↦ absurd (let err = rw twice at h in cc)
  | inr a ↦ elim (cases_Bool (is_absent s line)) [
    | inl absent ↦ absurd (let err = rw (a, absent) at h in cc)
    | inr b ↦ elim (cases_Bool (is_beyond s line)) [
      | inl beyond ↦ absurd (let err = rw (a, b, beyond) at h in cc)
      | inr d ↦ (a, b, d, (let same = rw (a, b, d) at h in cc))
    ]
  ]
]

volume_kept : (s : SoFar) (n : ℕ) (serial : List ℕ) (mark : Bool) → IsBase s → IsHostless s
    → IsVolume (n, serial, mark) → is_twice s (volume n serial mark) ≡ false
    → IsBase (after s (volume n serial mark)) × IsHostless (after s (volume n serial mark))
volume_kept s n serial mark base hostless is twice =
    let v : VolumeData = (n, serial, mark) in
    let none = neither (λ (w : VolumeData). w.0 == n) (λ (w : VolumeData). bytes_eq w.1 serial) s.volumes twice in (
      record {
        some_frames = base.some_frames;
        few_frames = base.few_frames;
        some_recorders = base.some_recorders;
        few_recorders = base.few_recorders;
        volumes_ = all_push IsVolume s.volumes v base.volumes_ is;
        numbers = distinct_push ◌==◌ (λ (w : VolumeData). w.0) s.volumes v base.numbers none.0;
        serials = distinct_push bytes_eq (λ (w : VolumeData). w.1) s.volumes v base.serials none.1;
        closed_ = rw hostless.none_closed tt;
        small = base.small;
      },
      record { none_closed = hostless.none_closed; none_present = hostless.none_present; no_words = hostless.no_words; no_bytes = hostless.no_bytes },
    )

-- the scripts of the hosts so far
pub record AreWhole (s : SoFar) : Type 0 where
  pub each : AllByRecursion (IsScript s.volumes) (scripts s)
  pub closed_ : IsClosed (scripts s) s.total
  pub no_words : s.words ≡ []

whole_hostless : (s : SoFar) → IsHostless s → AreWhole s
unfolding IsDistinct
whole_hostless s h =
    let none : scripts s ≡ [] = rw (h.none_closed, h.none_present) refl in
    record { each = rw none tt; closed_ = rw none (record { differ = tt; size = sym h.no_bytes }); no_words = h.no_words }

same_hosts : (closed : List ScriptData) (n : ℕ) (items : List ItemData) → map (λ (x : ScriptData). x.host) (closed ++ script n [] ∷ []) ≡ map (λ (x : ScriptData). x.host) (closed ++ script n items ∷ [])
same_hosts [] n items = refl
same_hosts (x ∷ closed) n items = ap (λ (ns : List ℕ). x.host ∷ ns) (same_hosts closed n items)

whole_open : (s : SoFar) (n : ℕ) → IsBase s → IsOpen s n → s.words ≡ [] → AreWhole s
whole_open s n base opened none =
    let all : scripts s ≡ s.closed ++ script n s.items ∷ [] = rw opened.present_ refl in
    let sum = sum_push script_size s.closed (script n s.items) in
    let no_bytes : sum_by word_size s.words ≡ 0 = rw none refl in
    let size = opened.size in
    record {
      each = rw all (all_push (IsScript s.volumes) s.closed (script n s.items) base.closed_ opened.whole);
      closed_ = rw all (record { differ = subst (IsDistinct ◌==◌) (same_hosts s.closed n s.items) opened.differ; size = omega arith });
      no_words = none;
    }

base_closed : (s : SoFar) (p : Place) (present : Option ℕ) → IsBase s → AreWhole s → IsBase (record s { place = p; closed = scripts s; present = present; items = [] })
base_closed s p present base whole = record {
  some_frames = base.some_frames;
  few_frames = base.few_frames;
  some_recorders = base.some_recorders;
  few_recorders = base.few_recorders;
  volumes_ = base.volumes_;
  numbers = base.numbers;
  serials = base.serials;
  closed_ = whole.each;
  small = base.small;
}

host_kept : (s : SoFar) (n : ℕ) → IsBase s → AreWhole s → IsLine (host n) → is_twice s (host n) ≡ false → IsKeptAt place.Host (after s (host n))
host_kept s n base whole is twice =
    let t = after s (host n) in
    let no_bytes : sum_by word_size s.words ≡ 0 = rw whole.no_words refl in
    let size = whole.closed_.size in (
      base_closed s place.Host (Some n) base whole,
      n,
      record {
        present_ = refl;
        whole = record { low = is.0; high = is.1; few = omega arith; each = tt };
        differ = distinct_push ◌==◌ (λ (x : ScriptData). x.host) (scripts s) (script n []) whole.closed_.differ twice;
        size = omega arith;
      },
      whole.no_words,
    )

done_kept : (s : SoFar) → IsBase s → AreWhole s → IsKeptAt place.After (after s done)
done_kept s base whole = (base_closed s place.After None base whole, whole.closed_)

base_more : (s : SoFar) (p : Place) (items : List ItemData) (words : List CcwData) (total : ℕ) → IsBase s → total ≤ TOTAL_LIMIT
    → IsBase (record s { place = p; items = items; words = words; total = total })
base_more s p items words total base small = record {
  some_frames = base.some_frames;
  few_frames = base.few_frames;
  some_recorders = base.some_recorders;
  few_recorders = base.few_recorders;
  volumes_ = base.volumes_;
  numbers = base.numbers;
  serials = base.serials;
  closed_ = base.closed_;
  small = small;
}

-- one item more
open_more : (s : SoFar) (n : ℕ) (item : ItemData) → IsOpen s n → IsItem s.volumes item → length s.items + 1 ≤ ITEM_LIMIT → item_size item ≡ sum_by word_size s.words
    → IsOpen (record s { place = place.Host; items = s.items ++ item ∷ []; words = [] }) n
open_more s n item opened is room same =
    let sum = sum_push item_size s.items item in
    let count = length-append s.items (item ∷ []) in
    let size = opened.size in
    record {
      present_ = opened.present_;
      whole = record { low = opened.whole.low; high = opened.whole.high; few = omega arith; each = all_push (IsItem s.volumes) s.items item opened.whole.each is };
      differ = opened.differ;
      size = omega arith;
    }

item_kept : (s : SoFar) (n : ℕ) (item : ItemData) → IsBase s → IsOpen s n → s.place ≡ place.Host → s.words ≡ [] → IsItem s.volumes item → length s.items + 1 ≤ ITEM_LIMIT → item_size item ≡ 0
    → IsKeptAt place.Host (record s { items = s.items ++ item ∷ [] })
item_kept s n item base opened here none is room empty =
    let t = record s { place = place.Host; items = s.items ++ item ∷ []; words = [] } in
    let same : t ≡ record s { items = s.items ++ item ∷ [] } = cc in
    let no_bytes : sum_by word_size s.words ≡ 0 = rw none refl in
    subst (IsKeptAt place.Host) same (base_more s place.Host (s.items ++ item ∷ []) [] s.total base base.small, n, open_more s n item opened is room (omega arith), refl)

-- the number of a serial is that of a volume
numbered : (p : VolumeData → Bool) (vs : List VolumeData) (n : ℕ) → option_map (λ v. v.0) (find p vs) ≡ Some n → IsSome (find (has_number n) vs)
numbered p [] n h = absurd (cc)
numbered p (v ∷ vs) n h = elim (cases_Bool (v.0 == n)) [
  | inl is ↦ rw is refl
  | inr isnt ↦ elim (cases_Bool (p v)) [
    | inl found ↦ absurd (let this : Some v.0 ≡ Some n = rw found at h in let same : v.0 ≡ n = cc in let test = eq-eqb v.0 n same in cc)
    | inr missed ↦ rw isnt (numbered p vs n (rw missed at h))
  ]
]

mount_kept : (s : SoFar) (n : ℕ) (serial : List ℕ) (bind : Bool) (o : Option ℕ) → number_of_serial s serial ≡ o → is_none o ≡ false → IsBase s → IsOpen s n → s.place ≡ place.Host → s.words ≡ []
    → length s.items + 1 ≤ ITEM_LIMIT → IsKeptAt place.Host (after s (mount serial bind))
mount_kept s n serial bind None is there base opened here none room = absurd (cc)
mount_kept s n serial bind (Some k) is there base opened here none room =
    rw is (item_kept s n (mounting k bind) base opened here none (numbered (λ (v : VolumeData). bytes_eq v.1 serial) s.volumes k is) room refl)

program_kept : (s : SoFar) (n : ℕ) → IsBase s → IsOpen s n → s.words ≡ [] → length s.items + 1 ≤ ITEM_LIMIT → IsKeptAt place.Program (after s program)
program_kept s n base opened none room =
    let no_bytes : sum_by word_size s.words ≡ 0 = rw none refl in
    let size = opened.size in (
      base_more s place.Program s.items [] s.total base base.small,
      n,
      record { present_ = opened.present_; whole = opened.whole; differ = opened.differ; size = omega arith },
      record { room = room; few = omega arith; each = tt },
    )

-- one word more
word_kept : (s : SoFar) (n : ℕ) (word : CcwData) (total : ℕ) → s.place ≡ place.Program → IsBase s → IsOpen s n → IsInProgram s → IsWord word → length s.words + 1 ≤ WORD_LIMIT
    → s.total + word_size word ≡ total → total ≤ TOTAL_LIMIT → IsKeptAt place.Program (record s { words = s.words ++ word ∷ []; total = total })
word_kept s n word total here base opened inside is room all small =
    let sum = sum_push word_size s.words word in
    let count = length-append s.words (word ∷ []) in
    let size = opened.size in
    let same : record s { place = place.Program; words = s.words ++ word ∷ []; total = total } ≡ record s { words = s.words ++ word ∷ []; total = total } = cc in
    subst (IsKeptAt place.Program) same (
      base_more s place.Program s.items (s.words ++ word ∷ []) total base small,
      n,
      record { present_ = opened.present_; whole = opened.whole; differ = opened.differ; size = omega arith },
      record { room = inside.room; few = omega arith; each = all_push IsWord s.words word inside.each is },
    )

end_kept : (s : SoFar) (n : ℕ) → IsBase s → IsOpen s n → IsInProgram s → (length s.words == 0) ≡ false → IsKeptAt place.Host (after s end)
end_kept s n base opened inside some =
    let more = eqb-false (length s.words) 0 some in
    let is : IsProgram s.words = record { some = omega arith; few = inside.few; each = inside.each } in
    (base_more s place.Host (s.items ++ running s.words ∷ []) [] s.total base base.small, n, open_more s n (running s.words) opened is inside.room refl, refl)

-- what is found isn't nothing
never : (k : Keyword) → ◌≡◌ {A = Option Keyword} None (Some k) → ⊥
never k e = cc

-- a line that may stand where it stands, and is good
kept_on : (p : Place) (line : LineData) (s : SoFar) → s.place ≡ p → IsKeptAt p s → IsLine line → IsAllowed p (keyword_of line)
    → is_twice s line ≡ false → is_absent s line ≡ false → is_beyond s line ≡ false → IsKeptAt (after s line).place (after s line)
unfolding IsDistinct
kept_on place.Head (mss f r) s here kept is allowed a b d =
    let start : SoFar = after nothing (mss f r) in
    let base : IsBase start = record { some_frames = is.0; few_frames = is.1; some_recorders = is.2; few_recorders = is.3; volumes_ = tt; numbers = tt; serials = tt; closed_ = tt; small = omega arith } in
    let hostless : IsHostless start = record { none_closed = refl; none_present = refl; no_words = refl; no_bytes = refl } in
    subst (λ (x : SoFar). IsKeptAt place.Volumes (after x (mss f r))) (sym kept) (base, hostless)
kept_on place.Volumes (volume n serial mark) s here kept is allowed a b d =
    subst (λ (q : Place). IsKeptAt q (after s (volume n serial mark))) (sym here)
    (volume_kept s n serial mark kept.0 kept.1 (is.0, to_serial serial is.1) a)
kept_on place.Volumes (host n) s here kept is allowed a b d = host_kept s n kept.0 (whole_hostless s kept.1) is a
kept_on place.Volumes done s here kept is allowed a b d = done_kept s kept.0 (whole_hostless s kept.1)
kept_on place.Host (host n) s here kept is allowed a b d = host_kept s n kept.0 (whole_open s kept.1 kept.0 kept.2 kept.3) is a
kept_on place.Host done s here kept is allowed a b d = done_kept s kept.0 (whole_open s kept.1 kept.0 kept.2 kept.3)
kept_on place.Host (mount serial bind) s here kept is allowed a b d =
    subst (λ (q : Place). IsKeptAt q (after s (mount serial bind))) (sym here)
    (mount_kept s kept.1 serial bind (number_of_serial s serial) refl b kept.0 kept.2 here kept.3 (ltb-false ITEM_LIMIT (length s.items + 1) d))
kept_on place.Host demount s here kept is allowed a b d =
    subst (λ (q : Place). IsKeptAt q (after s demount)) (sym here) (item_kept s kept.1 demounting kept.0 kept.2 here kept.3 tt (ltb-false ITEM_LIMIT (length s.items + 1) d) refl)
kept_on place.Host program s here kept is allowed a b d = program_kept s kept.1 kept.0 kept.2 kept.3 (ltb-false ITEM_LIMIT (length s.items + 1) d)
kept_on place.Program (ccw code argument) s here kept is allowed a b d =
    let total = both_false (nat_lt WORD_LIMIT (length s.words + 1) || nat_lt ARGUMENT_LIMIT (length argument)) (nat_lt TOTAL_LIMIT (s.total + length argument)) d in
    let each = both_false (nat_lt WORD_LIMIT (length s.words + 1)) (nat_lt ARGUMENT_LIMIT (length argument)) total.0 in
    subst (λ (q : Place). IsKeptAt q (after s (ccw code argument))) (sym here)
    (word_kept s kept.1 (device code argument) (s.total + length argument) here kept.0 kept.2 kept.3 (is.0, is.1, ltb-false ARGUMENT_LIMIT (length argument) each.1)
    (ltb-false WORD_LIMIT (length s.words + 1) each.0) refl (ltb-false TOTAL_LIMIT (s.total + length argument) total.1))
kept_on place.Program (tic to) s here kept is allowed a b d =
    subst (λ (q : Place). IsKeptAt q (after s (tic to))) (sym here)
    (word_kept s kept.1 (transfer to) s.total here kept.0 kept.2 kept.3 is (ltb-false WORD_LIMIT (length s.words + 1) d) (omega arith) kept.0.small)
kept_on place.Program end s here kept is allowed a b d = end_kept s kept.1 kept.0 kept.2 kept.3 d
kept_on p line s here kept is allowed a b d = absurd (never (keyword_of line) allowed)

judged_kept : (s t : SoFar) (line : LineData) → IsKeptAt s.place s → IsLine line → IsAllowed s.place (keyword_of line) → after_line s line ≡ Ok t → IsKeptAt t.place t
judged_kept s t line kept is allowed judges =
    let ok = judged_ok s t line judges in
    subst (λ (u : SoFar). IsKeptAt u.place u) ok.3 (kept_on s.place line s refl kept is allowed ok.0 ok.1 ok.2)

said_kept : (s t : SoFar) (first : List ℕ) (rest : List (List ℕ)) (k : Keyword) (r : Result LineData JobKind) → IsKeptAt s.place s → keyword_at s.place first ≡ Some k
    → line_of k rest ≡ r → (r >>= after_line s) ≡ Ok t → IsKeptAt t.place t
said_kept s t first rest k (Err e) kept known read h = absurd (cc)
said_kept s t first rest k (Ok line) kept known read h =
    let said = is_said k rest line read in
    let same : spelling k ≡ first = bytes_eq-is (spelling k) first (found_test (λ (key : Keyword). bytes_eq (spelling key) first) (keywords_at s.place) k known) in
    let here : IsAllowed s.place k = subst (λ (word : List ℕ). keyword_at s.place word ≡ Some k) (sym same) known in
    judged_kept s t line kept said.0 (subst (IsAllowed s.place) (sym said.1) here) h

spoken_kept : (s t : SoFar) (first : List ℕ) (rest : List (List ℕ)) (o : Option Keyword) → IsKeptAt s.place s → keyword_at s.place first ≡ o → spoken_by s o rest ≡ Ok t → IsKeptAt t.place t
spoken_kept s t first rest None kept known h = absurd (cc)
spoken_kept s t first rest (Some k) kept known h = said_kept s t first rest k (line_of k rest) kept known refl h

words_kept : (s t : SoFar) (words : List (List ℕ)) → IsKeptAt s.place s → line_of_words s words ≡ Ok t → IsKeptAt t.place t
words_kept s t [] kept h = absurd (cc)
words_kept s t (first ∷ rest) kept h = spoken_kept s t first rest (keyword_at s.place first) kept refl h

line_kept : (s t : SoFar) (line : List ℕ) → IsKeptAt s.place s → line_after s line ≡ Ok t → IsKeptAt t.place t
line_kept s t line kept h = elim (cases_Bool (is_skipped line)) [
  | inl skipped ↦ (let this = rw skipped at h in let same : s ≡ t = cc in subst (λ (u : SoFar). IsKeptAt u.place u) same kept)
  | inr a ↦ elim (cases_Bool (list_all is_printable line)) [
    | inr bad ↦ absurd (let err = rw (a, bad) at h in cc)
    | inl b ↦ elim (cases_Bool (is_after s.place)) [
      | inl past ↦ absurd (let err = rw (a, b, past) at h in cc)
      | inr d ↦ words_kept s t (words_of line) kept (rw (a, b, d) at h)
    ]
  ]
]

told_kept : (s t : SoFar) (n : ℕ) (line : List ℕ) (r : Result SoFar JobKind) (next : SoFar → Result SoFar BadLine) → IsKeptAt s.place s → line_after s line ≡ r → with_line_number n r next ≡ Ok t
    → ((u : SoFar) → IsKeptAt u.place u → next u ≡ Ok t → IsKeptAt t.place t × (is_after t.place ≡ true)) → IsKeptAt t.place t × (is_after t.place ≡ true)
told_kept s t n line (Err e) next kept is h more = absurd (cc)
told_kept s t n line (Ok u) next kept is h more = more u (line_kept s u line kept is) h

lines_kept : (lines : List (List ℕ)) (s t : SoFar) (n : ℕ) → IsKeptAt s.place s → lines_after s n lines ≡ Ok t → IsKeptAt t.place t × (is_after t.place ≡ true)
lines_kept [] s t n kept h = elim (cases_Bool (is_after s.place)) [
  | inl past ↦ (let this = rw past at h in let same : s ≡ t = cc in subst (λ (u : SoFar). IsKeptAt u.place u × (is_after u.place ≡ true)) same (kept, past))
  | inr before ↦ absurd (let err = rw before at h in cc)
]
lines_kept (line ∷ lines) s t n kept h =
    told_kept s t n line (line_after s line) (λ s'. lines_after s' (n + 1) lines) kept refl h (λ u kept_ rest. lines_kept lines u t (n + 1) kept_ rest)

at_end : (p : Place) (s : SoFar) → IsKeptAt p s → is_after p ≡ true → IsKeptAt place.After s
at_end place.After s kept past = kept
at_end p s kept past = absurd (cc)

-- what is known at the end of lines that are a job
pub end_whole : (lines : List (List ℕ)) (t : SoFar) (n : ℕ) → lines_after nothing n lines ≡ Ok t → IsKeptAt place.After t
end_whole lines t n h = let all = lines_kept lines nothing t n refl h in at_end t.place t all.0 all.1
