-- The places of what a host was told, in a list that grows.
use Rattle.std.proofs.Common.{◌≡◌, ◌⊎◌, inl, inr, ℕ, suc, ◌+◌, ◌≤◌, append_assoc, Option, Some, None, ◌&&◌, not, Bool, true, false, cond, List, [], ◌∷◌, ◌++◌, length, map, eqb, eq-eqb, refl, ap, sym, ◌∙◌, subst, arith, length-append, filter}
use Rattle.std.specs.Prelude.{slice_get}
use Rattle.std.proofs.lemmas.List.{append-nil, map-append}
use Rattle.std.proofs.lemmas.List.Elements.{filter-append}
use mathlib.Core.List.{IsPrefix}
use Rattle.channel_commands.specs.Data.{CallData, ReplyData, done, mounted, demounted, already_mounted, not_mounted, no_volume, in_chain, program_check, chain_limit, equipment_check, no_space, stopped}
use Rattle.ckd_plain.specs.History.{EntryData, IsStopped}
use Rattle.seen_book.specs.Entries.{entries_of}
use Rattle.seen_book.specs.Books.{PassData, Begins}
use Rattle.mss_run.specs.Answers.{Grows, IsFull, Stepped}
use Rattle.mss_run.specs.Owns.{is_stop, is_heard, heard_by, places_from, places_of, exchange, exchanges_of, exchanges_by, asked_by, IsLeft, Attempted, attempt_of, Rise}
use Rattle.host_events.specs.declared.answer.HostAnswer.{HostAnswer}
use Rattle.host_events.specs.declared.answer.HostAnswer.TheVariants as answer

abbrev is_reply : EntryData → Bool
is_reply e = not (is_stop e.reply)

-- what a host was told stands among its entries
heard_filter : (h : ℕ) (log : List EntryData) → heard_by h log ≡ filter is_reply (entries_of h log)
heard_filter h [] = refl
heard_filter h (e ∷ es) = go (eqb e.host h) (heard_filter h es)
  where
    go : (a : Bool) → heard_by h es ≡ filter is_reply (entries_of h es)
        → cond (a && is_reply e) (e ∷ heard_by h es) (heard_by h es) ≡ filter is_reply (cond a (e ∷ entries_of h es) (entries_of h es))
    go true same = (λ i. cond (is_reply e) (e ∷ same i) (same i))
    go false same = same

pub heard_same : (h : ℕ) (s t : List EntryData) → entries_of h t ≡ entries_of h s → heard_by h t ≡ heard_by h s
heard_same h s t same = heard_filter h t ∙ ap (filter is_reply) same ∙ sym (heard_filter h s)

-- ---- places

places_append : (h k : ℕ) (xs ys : List EntryData) → places_from h k (xs ++ ys) ≡ places_from h k xs ++ places_from h (k + length xs) ys
places_append h k [] ys = ap (λ (n : ℕ). places_from h n ys) (omega arith)
places_append h k (x ∷ xs) ys = go (is_heard h x) (places_append h (k + 1) xs ys ∙ ap (λ (n : ℕ). places_from h (k + 1) xs ++ places_from h n ys) (omega arith))
  where
    go : (b : Bool) → places_from h (k + 1) (xs ++ ys) ≡ places_from h (k + 1) xs ++ places_from h (k + suc (length xs)) ys
        → cond b (k ∷ places_from h (k + 1) (xs ++ ys)) (places_from h (k + 1) (xs ++ ys)) ≡ cond b (k ∷ places_from h (k + 1) xs) (places_from h (k + 1) xs) ++ places_from h (k + suc (length xs)) ys
    go true e = ap (λ (w : List ℕ). k ∷ w) e
    go false e = e

places_split : (h : ℕ) (xs ys : List EntryData) → places_of h (xs ++ ys) ≡ places_of h xs ++ places_from h (length xs) ys
places_split h xs ys = places_append h 0 xs ys ∙ ap (λ (n : ℕ). places_from h 0 xs ++ places_from h n ys) (omega arith)

places_none : (h k : ℕ) (ys : List EntryData) → heard_by h ys ≡ [] → places_from h k ys ≡ []
places_none h k [] none = refl
places_none h k (y ∷ ys) none = go (is_heard h y) none (λ rest. places_none h (k + 1) ys rest)
  where
    go : (b : Bool) → cond b (y ∷ heard_by h ys) (heard_by h ys) ≡ [] → (heard_by h ys ≡ [] → places_from h (k + 1) ys ≡ []) → cond b (k ∷ places_from h (k + 1) ys) (places_from h (k + 1) ys) ≡ []
    go true e more = absurd (cc e)
    go false e more = more e

none_of : {A : Type 0} (xs : List A) → length xs ≡ 0 → xs ≡ []
none_of [] e = refl
none_of (x ∷ xs) e = absurd (omega (arith, e))

rest_none : (h : ℕ) (xs ys : List EntryData) → heard_by h (xs ++ ys) ≡ heard_by h xs → heard_by h ys ≡ []
rest_none h xs ys same =
    none_of (heard_by h ys) (omega (arith, length-append (heard_by h xs) (heard_by h ys), ap length (sym (filter-append (is_heard h) xs ys) ∙ same)))

places_behind : (h : ℕ) (xs ys : List EntryData) → heard_by h (xs ++ ys) ≡ heard_by h xs → places_of h (xs ++ ys) ≡ places_of h xs
places_behind h xs ys same = places_split h xs ys ∙ (ap (λ (w : List ℕ). places_of h xs ++ w) (places_none h (length xs) ys (rest_none h xs ys same)) ∙ append-nil (places_of h xs))

-- with no more entries of the host, its places and what it was told stay
pub places_same : (h : ℕ) (s t : List EntryData) → IsPrefix s t → entries_of h t ≡ entries_of h s → places_of h t ≡ places_of h s
places_same h s t pre same =
    ap (places_of h) (sym pre.1) ∙ places_behind h s pre.0 (ap (heard_by h) pre.1 ∙ heard_same h s t same)

-- ---- one entry more

not_stop : (r : ReplyData) → (IsStopped r → ⊥) → is_stop r ≡ false
not_stop stopped no_ = absurd (no_ tt)
not_stop (done status bytes) no_ = refl
not_stop mounted no_ = refl
not_stop demounted no_ = refl
not_stop already_mounted no_ = refl
not_stop not_mounted no_ = refl
not_stop no_volume no_ = refl
not_stop in_chain no_ = refl
not_stop program_check no_ = refl
not_stop chain_limit no_ = refl
not_stop equipment_check no_ = refl
not_stop no_space no_ = refl

module _ (call : CallData) (reply : ReplyData) (index : ℕ) (p q : PassData) (g : Grows call reply index p q) (own : entries_of p.host p.seen ≡ p.mine) (own' : entries_of q.host q.seen ≡ q.mine) where
  abbrev front : List EntryData
  front = p.seen ++ g.between

  -- what came between is of others
  front_same : entries_of p.host front ≡ entries_of p.host p.seen
  front_same =
      let h = p.host in
      let E : EntryData → Bool = λ e. eqb e.host h in
      let here : eqb g.entry.host h ≡ true = eq-eqb g.entry.host h g.host_.0 in
      let last : entries_of h (g.entry ∷ []) ≡ g.entry ∷ [] = ap (λ (b : Bool). cond b (g.entry ∷ []) []) here in
      let all : entries_of h (front ++ g.entry ∷ []) ≡ p.mine ++ g.entry ∷ [] = ap (entries_of h) (sym g.seen_) ∙ (ap (λ (x : ℕ). entries_of x q.seen) (sym g.host_.1) ∙ (own' ∙ g.mine_)) in
      let long : length (entries_of h front) ≡ length p.mine = omega (arith, ap length (sym (filter-append E front (g.entry ∷ [])) ∙ all), length-append (entries_of h front) (entries_of h (g.entry ∷ [])), ap length last, length-append p.mine (g.entry ∷ [])) in
      let none : entries_of h g.between ≡ [] = none_of (entries_of h g.between) (omega (arith, long, ap length (filter-append E p.seen g.between), length-append (entries_of h p.seen) (entries_of h g.between), ap length own)) in
      filter-append E p.seen g.between ∙ (ap (λ (w : List EntryData). entries_of h p.seen ++ w) none ∙ append-nil (entries_of h p.seen))

  by_heard : (b : Bool) → is_heard p.host g.entry ≡ b → heard_by p.host (front ++ g.entry ∷ []) ≡ heard_by p.host p.seen ++ cond b (g.entry ∷ []) []
  by_heard b is =
      filter-append (is_heard p.host) front (g.entry ∷ [])
      ∙ (λ i. heard_same p.host p.seen front front_same i ++ cond (is i) (g.entry ∷ []) [])

  by_place : (b : Bool) → is_heard p.host g.entry ≡ b → places_of p.host (front ++ g.entry ∷ []) ≡ places_of p.host p.seen ++ cond b (length front ∷ []) []
  by_place b is =
      places_split p.host front (g.entry ∷ [])
      ∙ (λ i. places_same p.host p.seen front (g.between, refl) front_same i ++ cond (is i) (length front ∷ []) [])

  heard_where : (b : Bool) → is_stop reply ≡ b → is_heard p.host g.entry ≡ not b
  heard_where b is = (λ i. eq-eqb g.entry.host p.host g.host_.0 i && not (is_stop (g.reply_ i))) ∙ ap not is

  pub places_grow : (IsStopped reply → ⊥) → places_of q.host q.seen ≡ places_of p.host p.seen ++ index ∷ []
  places_grow heard =
      (λ i. places_of (g.host_.1 i) (g.seen_ i)) ∙ by_place true (heard_where false (not_stop reply heard)) ∙ ap (λ (n : ℕ). places_of p.host p.seen ++ n ∷ []) (sym g.index_)

  pub exchanges_grow : (IsStopped reply → ⊥) → exchanges_by q ≡ exchanges_by p ++ (call, reply) ∷ []
  exchanges_grow heard =
      (λ i. exchanges_of (g.host_.1 i) (g.seen_ i)) ∙ ap (map exchange) (by_heard true (heard_where false (not_stop reply heard)))
      ∙ map-append exchange (heard_by p.host p.seen) (g.entry ∷ []) ∙ (λ i. exchanges_by p ++ (g.call_ i, g.reply_ i) ∷ [])

  pub places_stop : is_stop reply ≡ true → places_of q.host q.seen ≡ places_of p.host p.seen
  places_stop stop = (λ i. places_of (g.host_.1 i) (g.seen_ i)) ∙ by_place false (heard_where true stop) ∙ append-nil (places_of p.host p.seen)

  pub exchanges_stop : is_stop reply ≡ true → exchanges_by q ≡ exchanges_by p
  exchanges_stop stop = (λ i. exchanges_of (g.host_.1 i) (g.seen_ i)) ∙ ap (map exchange) (by_heard false (heard_where true stop) ∙ append-nil (heard_by p.host p.seen))

-- what it asked, answered or not
pub asked_grow : (call : CallData) (reply : ReplyData) (index : ℕ) (p q : PassData) → Grows call reply index p q → asked_by q ≡ asked_by p ++ (call, reply) ∷ []
asked_grow call reply index p q g = ap (map exchange) g.mine_ ∙ map-append exchange p.mine (g.entry ∷ []) ∙ (λ i. asked_by p ++ (g.call_ i, g.reply_ i) ∷ [])

-- ---- a call that was left unanswered

pub asked_left : (call : CallData) (p q : PassData) → IsLeft call p q → (asked_by q ≡ asked_by p) ⊎ (asked_by q ≡ asked_by p ++ (call, stopped) ∷ [])
asked_left call p q (inl same) = inl (ap asked_by same)
asked_left call p q (inr (inl (fault, s))) = inr (asked_grow call stopped s.index p q s.grows)
asked_left call p q (inr (inr f)) = inl (ap (map exchange) f.mine_)

full_same : (p q : PassData) → IsFull p q → entries_of p.host p.seen ≡ p.mine → entries_of q.host q.seen ≡ q.mine → entries_of p.host q.seen ≡ entries_of p.host p.seen
full_same p q f own own' = ap (λ (h : ℕ). entries_of h q.seen) (sym f.host_) ∙ (own' ∙ (f.mine_ ∙ sym own))

module _ (call : CallData) (p q : PassData) (own : entries_of p.host p.seen ≡ p.mine) (own' : entries_of q.host q.seen ≡ q.mine) where
  pub host_left : IsLeft call p q → q.host ≡ p.host
  host_left (inl same) = ap (λ (x : PassData). x.host) same
  host_left (inr (inl (fault, s))) = s.grows.host_.1
  host_left (inr (inr f)) = f.host_

  pub places_left : IsLeft call p q → places_of q.host q.seen ≡ places_of p.host p.seen
  places_left (inl same) = ap (λ (x : PassData). places_of x.host x.seen) same
  places_left (inr (inl (fault, s))) = places_stop call stopped s.index p q s.grows own own' refl
  places_left (inr (inr f)) = ap (λ (h : ℕ). places_of h q.seen) f.host_ ∙ places_same p.host p.seen q.seen f.seen_ (full_same p q f own own')

  pub exchanges_left : IsLeft call p q → exchanges_by q ≡ exchanges_by p
  exchanges_left (inl same) = ap exchanges_by same
  exchanges_left (inr (inl (fault, s))) = exchanges_stop call stopped s.index p q s.grows own own' refl
  exchanges_left (inr (inr f)) = ap (λ (h : ℕ). exchanges_of h q.seen) f.host_ ∙ ap (map exchange) (heard_same p.host p.seen q.seen (full_same p q f own own'))

-- what an attempt comes to
pub attempted_by : (call : CallData) (p q : PassData) (told : Option HostAnswer) (on : Bool) → Stepped call p told q → Attempted call p (attempt_of told on) q
attempted_by call p q None on stepped = inl stepped
attempted_by call p q (Some (answer.Replied index reply)) on stepped = stepped
attempted_by call p q (Some answer.Marked) on stepped = stepped
attempted_by call p q (Some (answer.Wait why)) true stepped = stepped
attempted_by call p q (Some (answer.Wait why)) false stepped = inl stepped
attempted_by call p q (Some (answer.Stopped fault)) on (inl same) = inl same
attempted_by call p q (Some (answer.Stopped fault)) on (inr s) = inr (inl (fault, s))
attempted_by call p q (Some answer.CommandLimit) on stepped = inr (inr stepped)
attempted_by call p q (Some answer.Memory) on stepped = inl stepped

-- at the end the places are those in the whole history, and so is what was told
pub places_whole : (log : List EntryData) (p : PassData) → Begins log p → entries_of p.host p.seen ≡ p.mine → places_of p.host log ≡ places_of p.host p.seen
places_whole log p b own = places_same p.host p.seen log b.0 (b.1 ∙ sym own)

pub exchanges_whole : (log : List EntryData) (p : PassData) → Begins log p → entries_of p.host p.seen ≡ p.mine → exchanges_of p.host log ≡ exchanges_of p.host p.seen
exchanges_whole log p b own = ap (map exchange) (heard_same p.host p.seen log (b.1 ∙ sym own))

-- ---- own places as they stand

rise_from : (a b n : ℕ) (ks : List ℕ) → a ≤ b → Rise b n ks → Rise a n ks
rise_from a b n [] le rise = tt
rise_from a b n (k ∷ ks) le rise = (omega (arith, le, rise.0), rise.1, rise.2)

places_rise : (h k : ℕ) (log : List EntryData) → Rise k (k + length log) (places_from h k log)
places_rise h k [] = tt
places_rise h k (e ∷ es) = go (is_heard h e) (subst (λ (n : ℕ). Rise (k + 1) n (places_from h (k + 1) es)) (omega arith) (places_rise h (k + 1) es))
  where
    go : (b : Bool) → Rise (k + 1) (k + suc (length es)) (places_from h (k + 1) es)
        → Rise k (k + suc (length es)) (cond b (k ∷ places_from h (k + 1) es) (places_from h (k + 1) es))
    go true rest = (omega arith, omega arith, rest)
    go false rest = rise_from k (k + 1) (k + suc (length es)) (places_from h (k + 1) es) (omega arith) rest

pub own_rise : (h : ℕ) (log : List EntryData) → Rise 0 (length log) (places_of h log)
own_rise h log = subst (λ (n : ℕ). Rise 0 n (places_of h log)) (omega arith) (places_rise h 0 log)

-- what stands in a list behind others
behind : (xs : List EntryData) (x : EntryData) (ys : List EntryData) → slice_get (xs ++ x ∷ ys) (length xs) ≡ Some x
behind [] x ys = refl
behind (y ∷ xs) x ys = behind xs x ys

entries_at : (h : ℕ) (front log : List EntryData) → map (slice_get (front ++ log)) (places_from h (length front) log) ≡ map Some (heard_by h log)
entries_at h front [] = refl
entries_at h front (e ∷ es) = go (is_heard h e) (sym (λ i. map (slice_get (append_assoc front (e ∷ []) es i)) (places_from h (long i) es)) ∙ entries_at h (front ++ e ∷ []) es)
  where
    long : length (front ++ e ∷ []) ≡ length front + 1
    long = length-append front (e ∷ [])

    go : (b : Bool) → map (slice_get (front ++ e ∷ es)) (places_from h (length front + 1) es) ≡ map Some (heard_by h es)
        → map (slice_get (front ++ e ∷ es)) (cond b (length front ∷ places_from h (length front + 1) es) (places_from h (length front + 1) es))
        ≡ map Some (cond b (e ∷ heard_by h es) (heard_by h es))
    go true more = (λ i. behind front e es i ∷ more i)
    go false more = more

pub own_entries : (h : ℕ) (log : List EntryData) → map (slice_get log) (places_of h log) ≡ map Some (heard_by h log)
own_entries h log = entries_at h [] log
