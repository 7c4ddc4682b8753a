-- The lines of a job lead to the job.
use Rattle.std.proofs.Common.{◌≡◌, ℕ, ◌+◌, ◌≤◌, false, List, [], ◌∷◌, ◌++◌, map, length, Option, Some, None, Ok, refl, sym, ap, subst, ◌∙◌, arith, append_assoc, append-nil, length-append, add-zero, zero-add}
use Rattle.std.specs.Prelude.{◌==◌, sum_by, is_none}
use Rattle.std.specs.List.{flat_map, AllByRecursion, IsDistinct}
use Rattle.std.specs.Str.{bytes_eq}
use Rattle.std.proofs.lemmas.Bool.{le-ltb, ne_eqb}
use Rattle.std.proofs.lemmas.List.Sums.{sum_by-cons}
use Rattle.channel_commands.specs.Data.{CcwData, device, transfer}
use Rattle.channel_program.specs.Script.{ItemData, mounting, demounting, program as running}
use Rattle.job_text.specs.declared.kind.Place.TheVariants as place
use Rattle.job_text.specs.declared.kind.Keyword.TheVariants as keyword
use Rattle.job_text.proofs.Serials.{from_serial}
use Rattle.mss_base.specs.Configs.{VolumeData, IsVolume}
use Rattle.job_text.specs.Jobs.{ScriptData, JobData, IsWord, IsItem, IsScript, IsJob, word_size, item_size, script_size, WORD_LIMIT, ITEM_LIMIT, ARGUMENT_LIMIT, TOTAL_LIMIT}
use Rattle.job_text.specs.Lines.{LineData, mss, volume, host, done, mount, demount, program, ccw, tic, end}
use Rattle.job_text.specs.Grammar.{SoFar, nothing, after, after_line, mounting_of, is_twice, is_absent, is_beyond, scripts, job}
use Rattle.job_text.specs.Canonical.{keyword_of, IsLine, IsAllowed, LeadsTo, word_line, item_lines, script_lines, serial_of, job_lines}
use Rattle.job_text.proofs.Lists.{none_equal, any_either}
use Rattle.job_text.proofs.Volumes.{mount_back, by_number-rising, distinct_rising}

good : (s : SoFar) (line : LineData) → is_twice s line ≡ false → is_absent s line ≡ false → is_beyond s line ≡ false → after_line s line ≡ Ok (after s line)
good s line a b c = rw (a, b, c) refl

leads_on : (s : SoFar) (line : LineData) (lines : List LineData) (t : SoFar) → IsLine line → IsAllowed s.place (keyword_of line)
    → after_line s line ≡ Ok (after s line) → LeadsTo (after s line) lines t → LeadsTo s (line ∷ lines) t
leads_on s line lines t is allowed judges rest = (is, allowed, after s line, judges, rest)

LeadsTo-append : (s u t : SoFar) (xs ys : List LineData) → LeadsTo s xs u → LeadsTo u ys t → LeadsTo s (xs ++ ys) t
LeadsTo-append s u t [] ys here rest = subst (λ (v : SoFar). LeadsTo v ys t) (sym here) rest
LeadsTo-append s u t (x ∷ xs) ys here rest = (here.0, here.1, here.2, here.3, LeadsTo-append here.2 u t xs ys here.4 rest)

leads_to : (s t u : SoFar) (xs : List LineData) → LeadsTo s xs t → t ≡ u → LeadsTo s xs u
leads_to s t u xs leads same = subst (λ (v : SoFar). LeadsTo s xs v) same leads

-- what is known with these words or items, and so many bytes of arguments
abbrev with_words : SoFar → List CcwData → ℕ → SoFar
with_words s words total = record s { words = words; total = total }

abbrev with_items : SoFar → List ItemData → ℕ → SoFar
with_items s items total = record s { items = items; total = total }

same_words : (s : SoFar) (ws vs : List CcwData) (n m : ℕ) → ws ≡ vs → n ≡ m → with_words s ws n ≡ with_words s vs m
same_words s ws vs n m e f = ap (λ (x : List CcwData). with_words s x n) e ∙ ap (λ (k : ℕ). with_words s vs k) f

same_items : (s : SoFar) (xs ys : List ItemData) (n m : ℕ) → xs ≡ ys → n ≡ m → with_items s xs n ≡ with_items s ys m
same_items s xs ys n m e f = ap (λ (x : List ItemData). with_items s x n) e ∙ ap (λ (k : ℕ). with_items s ys k) f

-- a word leads on by itself
word_leads : (w : CcwData) (s : SoFar) → s.place ≡ place.Program → IsWord w → length s.words + 1 ≤ WORD_LIMIT → s.total + word_size w ≤ TOTAL_LIMIT
    → LeadsTo s (word_line w ∷ []) (with_words s (s.words ++ w ∷ []) (s.total + word_size w))
word_leads (device code argument) s here is few small =
    let beyond : is_beyond s (ccw code argument) ≡ false = rw (le-ltb WORD_LIMIT (length s.words + 1) few, le-ltb ARGUMENT_LIMIT (length argument) is.2, le-ltb TOTAL_LIMIT (s.total + length argument) small) refl in
    leads_on s (ccw code argument) [] _ (is.0, is.1) (rw here refl) (good s (ccw code argument) refl refl beyond) refl
word_leads (transfer to) s here is few small =
    leads_on s (tic to) [] _ is (rw here refl) (good s (tic to) refl refl (le-ltb WORD_LIMIT (length s.words + 1) few))
    (same_words s _ _ _ _ refl (sym (add-zero s.total)))

words_lead : (ws : List CcwData) (s : SoFar) → s.place ≡ place.Program → AllByRecursion IsWord ws → length s.words + length ws ≤ WORD_LIMIT
    → s.total + sum_by word_size ws ≤ TOTAL_LIMIT → LeadsTo s (map word_line ws) (with_words s (s.words ++ ws) (s.total + sum_by word_size ws))
words_lead [] s here each few small = same_words s s.words (s.words ++ []) s.total (s.total + 0) (sym (append-nil s.words)) (sym (add-zero s.total))
words_lead (w ∷ ws) s here each few small =
    let cons = sum_by-cons word_size w ws in
    let u = with_words s (s.words ++ w ∷ []) (s.total + word_size w) in
    let n = length-append s.words (w ∷ []) in
    let first = word_leads w s here each.0 (omega arith) (omega arith) in
    let rest = words_lead ws u here each.1 (omega arith) (omega arith) in
    leads_to s _ _ (map word_line (w ∷ ws)) (LeadsTo-append s u _ (word_line w ∷ []) (map word_line ws) first rest)
    (same_words s _ _ _ _ (append_assoc s.words (w ∷ []) ws) (omega arith))

-- what the volumes are when items are read
pub record IsReady (s : SoFar) : Type 0 where
  pub here : s.place ≡ place.Host
  pub closed_ : s.words ≡ []
  pub each : AllByRecursion IsVolume s.volumes
  pub differ : IsDistinct bytes_eq (map (λ v. v.1) s.volumes)

item_leads : (item : ItemData) (s : SoFar) → IsReady s → IsItem s.volumes item → length s.items + 1 ≤ ITEM_LIMIT → s.total + item_size item ≤ TOTAL_LIMIT
    → LeadsTo s (item_lines s.volumes item) (with_items s (s.items ++ item ∷ []) (s.total + item_size item))
item_leads (mounting n bind) s ready is few small =
    let serial = serial_of s.volumes n in
    let back = mount_back s.volumes n ready.each ready.differ is in
    let absent : is_absent s (mount serial bind) ≡ false = ap is_none back.1 in
    leads_on s (mount serial bind) [] _ back.0 (rw ready.here refl) (good s (mount serial bind) refl absent (le-ltb ITEM_LIMIT (length s.items + 1) few))
    (same_items s _ _ _ _ (ap (λ (o : Option ℕ). s.items ++ mounting_of o bind) back.1) (sym (add-zero s.total)))
item_leads demounting s ready is few small =
    leads_on s demount [] _ tt (rw ready.here refl) (good s demount refl refl (le-ltb ITEM_LIMIT (length s.items + 1) few))
    (same_items s _ _ _ _ refl (sym (add-zero s.total)))
item_leads (running ws) s ready is few small =
    let s1 = record s { place = place.Program; words = [] } in
    let s2 = with_words s1 ws (s.total + sum_by word_size ws) in
    let body = words_lead ws s1 refl is.each (omega (arith, is.few)) small in
    let s3 = record s { place = place.Host; items = s.items ++ running ws ∷ []; words = []; total = s.total + sum_by word_size ws } in
    let some : (length ws == 0) ≡ false = ne_eqb (length ws) 0 (λ (e : length ws ≡ 0). omega (arith, is.some)) in
    let close : LeadsTo s2 (end ∷ []) s3 = leads_on s2 end [] _ tt refl (good s2 end refl refl some) refl in
    let same : s3 ≡ with_items s (s.items ++ running ws ∷ []) (s.total + sum_by word_size ws) = cc in
    leads_to s s3 _ (item_lines s.volumes (running ws)) (leads_on s program (map word_line ws ++ end ∷ []) s3 tt (rw ready.here refl) (good s program refl refl (le-ltb ITEM_LIMIT (length s.items + 1) few))
    (LeadsTo-append s1 s2 s3 (map word_line ws) (end ∷ []) body close)) same

items_lead : (items : List ItemData) (s : SoFar) → IsReady s → AllByRecursion (IsItem s.volumes) items → length s.items + length items ≤ ITEM_LIMIT
    → s.total + sum_by item_size items ≤ TOTAL_LIMIT
    → LeadsTo s (flat_map (item_lines s.volumes) items) (with_items s (s.items ++ items) (s.total + sum_by item_size items))
items_lead [] s ready each few small = same_items s s.items (s.items ++ []) s.total (s.total + 0) (sym (append-nil s.items)) (sym (add-zero s.total))
items_lead (item ∷ items) s ready each few small =
    let cons = sum_by-cons item_size item items in
    let u = with_items s (s.items ++ item ∷ []) (s.total + item_size item) in
    let n = length-append s.items (item ∷ []) in
    let first = item_leads item s ready each.0 (omega arith) (omega arith) in
    let rest = items_lead items u (record { here = ready.here; closed_ = ready.closed_; each = ready.each; differ = ready.differ }) each.1 (omega arith) (omega arith) in
    leads_to s _ _ (flat_map (item_lines s.volumes) (item ∷ items)) (LeadsTo-append s u _ (item_lines s.volumes item) (flat_map (item_lines s.volumes) items) first rest)
    (same_items s _ _ _ _ (append_assoc s.items (item ∷ []) items) (omega arith))

-- where hosts may be named or the job may end
pub record IsBetween (s : SoFar) : Type 0 where
  pub host_ : IsAllowed s.place keyword.Host
  pub done_ : IsAllowed s.place keyword.Done
  pub closed_ : s.words ≡ []
  pub each : AllByRecursion IsVolume s.volumes
  pub differ : IsDistinct bytes_eq (map (λ v. v.1) s.volumes)

abbrev ended : SoFar → List ScriptData → ℕ → SoFar
ended s hosts total = record s { place = place.After; closed = hosts; present = None; items = []; total = total }

same_hosts : (s : SoFar) (hs ks : List ScriptData) (n m : ℕ) → hs ≡ ks → n ≡ m → ended s hs n ≡ ended s ks m
same_hosts s hs ks n m e f = ap (λ (x : List ScriptData). ended s x n) e ∙ ap (λ (k : ℕ). ended s ks k) f

-- what is known when volumes are read
abbrev at_volumes : ℕ → ℕ → List VolumeData → SoFar
at_volumes f r volumes = record { place = place.Volumes; frames = f; recorders = r; volumes = volumes; closed = []; present = None; items = []; words = []; total = 0 }

abbrev job_with : JobData → List VolumeData → JobData
job_with j volumes = record { config = record { frames = j.config.frames; recorders = j.config.recorders; volumes = volumes }; hosts = j.hosts }

hosts_lead : (hs : List ScriptData) (s : SoFar) → IsBetween s → AllByRecursion (IsScript s.volumes) hs
    → IsDistinct ◌==◌ (map (λ h. h.host) (scripts s ++ hs)) → s.total + sum_by script_size hs ≤ TOTAL_LIMIT
    → LeadsTo s (flat_map (script_lines s.volumes) hs ++ done ∷ []) (ended s (scripts s ++ hs) (s.total + sum_by script_size hs))
hosts_lead [] s between each differ small =
    leads_on s done [] _ tt between.done_ (good s done refl refl refl) (same_hosts s _ _ _ _ (sym (append-nil (scripts s))) (sym (add-zero s.total)))
hosts_lead (h ∷ hs) s between each differ small =
    let cons = sum_by-cons script_size h hs in
    let is = each.0 in
    let s1 = record s { place = place.Host; closed = scripts s; present = Some h.host; items = [] } in
    let s2 = with_items s1 h.items (s.total + script_size h) in
    let twice : is_twice s (host h.host) ≡ false = none_equal ◌==◌ (λ (x : ScriptData). x.host) (scripts s) h hs differ in
    let items = items_lead h.items s1 (record { here = refl; closed_ = between.closed_; each = between.each; differ = between.differ }) is.each (omega (arith, is.few)) (omega arith) in
    let apart = append_assoc (scripts s) (h ∷ []) hs in
    let rest = hosts_lead hs s2 (record { host_ = refl; done_ = refl; closed_ = between.closed_; each = between.each; differ = between.differ }) each.1
    (subst (λ (xs : List ScriptData). IsDistinct ◌==◌ (map (λ x. x.host) xs)) (sym apart) differ) (omega arith) in
    let a = flat_map (item_lines s.volumes) h.items in
    let b = flat_map (script_lines s.volumes) hs in
    let all = LeadsTo-append s1 s2 _ a (b ++ done ∷ []) items rest in
    let lines : LeadsTo s1 ((a ++ b) ++ done ∷ []) (ended s2 (scripts s2 ++ hs) (s2.total + sum_by script_size hs)) = rw (append_assoc a b (done ∷ [])) all in
    leads_to s _ _ (host h.host ∷ ((a ++ b) ++ done ∷ []))
    (leads_on s (host h.host) ((a ++ b) ++ done ∷ []) _ (is.low, is.high) between.host_ (good s (host h.host) twice refl refl) lines)
    (same_hosts s _ _ _ _ apart (omega arith))

volumes_lead : (vs before : List VolumeData) (f r : ℕ) → AllByRecursion IsVolume vs → IsDistinct ◌==◌ (map (λ v. v.0) (before ++ vs))
    → IsDistinct bytes_eq (map (λ v. v.1) (before ++ vs))
    → LeadsTo (at_volumes f r before) (map (λ v. volume v.0 v.1 v.2) vs) (at_volumes f r (before ++ vs))
volumes_lead [] before f r each numbers serials = ap (at_volumes f r) (sym (append-nil before))
volumes_lead (v ∷ vs) before f r each numbers serials =
    let s = at_volumes f r before in
    let apart = append_assoc before (v ∷ []) vs in
    let twice : is_twice s (volume v.0 v.1 v.2) ≡ false =
    any_either (λ (w : VolumeData). w.0 == v.0) (λ (w : VolumeData). bytes_eq w.1 v.1) before (none_equal ◌==◌ (λ (w : VolumeData). w.0) before v vs numbers) (none_equal bytes_eq (λ (w : VolumeData). w.1) before v vs serials) in
    let rest = volumes_lead vs (before ++ v ∷ []) f r each.1
    (subst (λ (xs : List VolumeData). IsDistinct ◌==◌ (map (λ w. w.0) xs)) (sym apart) numbers)
    (subst (λ (xs : List VolumeData). IsDistinct bytes_eq (map (λ w. w.1) xs)) (sym apart) serials) in
    leads_to s _ _ (map (λ w. volume w.0 w.1 w.2) (v ∷ vs))
    (leads_on s (volume v.0 v.1 v.2) (map (λ w. volume w.0 w.1 w.2) vs) _ (each.0.0, from_serial v.1 each.0.1) refl
    (good s (volume v.0 v.1 v.2) twice refl refl) rest)
    (ap (at_volumes f r) apart)

-- what is known at a job's end
abbrev pub known : JobData → SoFar
known j = record {
  place = place.After;
  frames = j.config.frames;
  recorders = j.config.recorders;
  volumes = j.config.volumes;
  closed = j.hosts;
  present = None;
  items = [];
  words = [];
  total = sum_by script_size j.hosts;
}

pub job_leads : (j : JobData) → IsJob j → LeadsTo nothing (job_lines j) (known j)
job_leads j is =
    let c = j.config in
    let valid = is.config_ in
    let s = at_volumes c.frames c.recorders c.volumes in
    let between : IsBetween s = record { host_ = refl; done_ = refl; closed_ = refl; each = valid.volumes_; differ = valid.serials } in
    let vs = map (λ (v : VolumeData). volume v.0 v.1 v.2) c.volumes in
    let hs = flat_map (script_lines c.volumes) j.hosts in
    let volumes = volumes_lead c.volumes [] c.frames c.recorders valid.volumes_ (distinct_rising (map (λ v. v.0) c.volumes) valid.rising) valid.serials in
    let hosts = hosts_lead j.hosts s between is.scripts is.hosts_differ (omega (arith, is.small)) in
    let same : ended s j.hosts (0 + sum_by script_size j.hosts) ≡ known j = ap (ended s j.hosts) (zero-add (sum_by script_size j.hosts)) in
    let all = LeadsTo-append (at_volumes c.frames c.recorders []) s (known j) vs (hs ++ done ∷ []) volumes (leads_to s _ _ (hs ++ done ∷ []) hosts same) in
    let lines : LeadsTo (at_volumes c.frames c.recorders []) ((vs ++ hs) ++ done ∷ []) (known j) = rw append_assoc all in
    leads_on nothing (mss c.frames c.recorders) ((vs ++ hs) ++ done ∷ []) (known j) (valid.some_frames, valid.few_frames, valid.some_recorders, valid.few_recorders) refl refl lines

pub job_known : (j : JobData) → IsJob j → job (known j) ≡ j
job_known j is = ap (λ (vs : List VolumeData). job_with j vs) (by_number-rising j.config.volumes is.config_.rising is.config_.volumes_)
