-- The text of a volume grows track by track. Layers above cite these lemmas.
use Rattle.std.proofs.Common.{◌≡◌, ℕ, zero, suc, ◌+◌, ◌*◌, ◌/◌, ◌%◌, ◌<◌, ◌≤◌, ◌-◌, Bool, List, [], ◌++◌}
use Rattle.std.proofs.Common.{refl, sym, ap, ◌∙◌, subst, arith, append_assoc}
use Rattle.std.proofs.lemmas.List.{append-nil}
use Rattle.ckd_track.specs.Data.{RecordData}
use Rattle.mss_base.specs.Puts.{PutsFront}
use Rattle.mss_base.proofs.Putting.{part_stops}
use Rattle.report_text.specs.Texts.{track_text, tracks_text, heading_text, volume_text}

-- the tracks of a volume by cylinder and head
abbrev pub Tracks : Type 0
Tracks = ℕ → ℕ → List RecordData

-- a volume is its heading and its 7,676 tracks
pub volume_text_is : (number : ℕ) (serial : List ℕ) (read_only : Bool) (track : Tracks)
    → volume_text number serial read_only track ≡ heading_text number serial read_only ++ tracks_text track 7676
unfolding volume_text
volume_text_is number serial read_only track = refl

-- no tracks, no text
pub no_tracks : (track : Tracks) → tracks_text track 0 ≡ []
unfolding tracks_text
no_tracks track = refl

next_track : (track : Tracks) (n : ℕ) → tracks_text track (suc n) ≡ tracks_text track n ++ track_text (n / 19) (n % 19) (track (n / 19) (n % 19))
unfolding tracks_text
next_track track n = refl

-- one track more, by cylinder and head
pub tracks_text-next : (track : Tracks) (cylinder head : ℕ) → head < 19
    → tracks_text track (cylinder * 19 + head + 1) ≡ tracks_text track (cylinder * 19 + head) ++ track_text cylinder head (track cylinder head)
tracks_text-next track cylinder head below =
    let n : ℕ = cylinder * 19 + head in
    let c : n / 19 ≡ cylinder = omega arith in
    let h : n % 19 ≡ head = omega arith in
    let more : n + 1 ≡ suc n = omega arith in
    ap (tracks_text track) more ∙ next_track track n ∙ (λ i. tracks_text track n ++ track_text (c i) (h i) (track (c i) (h i)))

-- the text depends on the first tracks alone
pub tracks_text-same : (a b : Tracks) (n : ℕ) → ((cylinder head : ℕ) → head < 19 → cylinder * 19 + head < n → a cylinder head ≡ b cylinder head) → tracks_text a n ≡ tracks_text b n
tracks_text-same a b zero same = no_tracks a ∙ sym (no_tracks b)
tracks_text-same a b (suc n) same =
    let here : a (n / 19) (n % 19) ≡ b (n / 19) (n % 19) = same (n / 19) (n % 19) (omega arith) (omega arith) in
    let before : tracks_text a n ≡ tracks_text b n = tracks_text-same a b n (λ cylinder head below first. same cylinder head below (omega arith)) in
    next_track a n ∙ (λ i. before i ++ track_text (n / 19) (n % 19) (here i)) ∙ sym (next_track b n)

-- the first tracks are a front of all
pub record Rest (track : Tracks) (n m : ℕ) : Type 0 where
  pub text : List ℕ
  pub split : tracks_text track m ≡ tracks_text track n ++ text

rest_from : (track : Tracks) (n k : ℕ) → Rest track n (k + n)
rest_from track n zero = record { text = []; split = let e : zero + n ≡ n = omega arith in ap (tracks_text track) e ∙ sym (append-nil (tracks_text track n)) }
rest_from track n (suc k) =
    let before : Rest track n (k + n) = rest_from track n k in
    let last : List ℕ = track_text ((k + n) / 19) ((k + n) % 19) (track ((k + n) / 19) ((k + n) % 19)) in
    let e : suc k + n ≡ suc (k + n) = omega arith in
    record { text = before.text ++ last; split = ap (tracks_text track) e ∙ next_track track (k + n) ∙ ap (λ t. t ++ last) before.split ∙ append_assoc (tracks_text track n) before.text last }

-- what m tracks say behind the first n
pub tracks_rest : (track : Tracks) (n m : ℕ) → n ≤ m → Rest track n m
tracks_rest track n m below = let e : (m - n) + n ≡ m = omega arith in subst (λ k. Rest track n k) e (rest_from track n (m - n))

-- the first tracks were put, and the next one is
pub tracks_go_on : (track : Tracks) (old now new : List ℕ) (cylinder head : ℕ) → head < 19
    → now ≡ old ++ tracks_text track (cylinder * 19 + head) → new ≡ now ++ track_text cylinder head (track cylinder head) → new ≡ old ++ tracks_text track (cylinder * 19 + head + 1)
tracks_go_on track old now new cylinder head below so_far put =
    put ∙ ap (λ t. t ++ track_text cylinder head (track cylinder head)) so_far
    ∙ append_assoc old (tracks_text track (cylinder * 19 + head)) (track_text cylinder head (track cylinder head))
    ∙ ap (λ t. old ++ t) (sym (tracks_text-next track cylinder head below))

-- the first tracks were put, and nothing more
pub tracks_stay : (track : Tracks) (old now : List ℕ) (n m : ℕ) → n ≤ m → now ≡ old ++ tracks_text track n → PutsFront old now (tracks_text track m)
tracks_stay track old now n m below so_far =
    let rest : Rest track n m = tracks_rest track n m below in
    record { front = tracks_text track n; rest = rest.text; split = rest.split; put = so_far }

-- the first tracks were put, and of the next one a front
pub tracks_stop : (track : Tracks) (old now new : List ℕ) (cylinder head m : ℕ) → head < 19 → cylinder * 19 + head < m
    → now ≡ old ++ tracks_text track (cylinder * 19 + head) → PutsFront now new (track_text cylinder head (track cylinder head)) → PutsFront old new (tracks_text track m)
tracks_stop track old now new cylinder head m below first so_far front =
    let n : ℕ = cylinder * 19 + head in
    let here : List ℕ = track_text cylinder head (track cylinder head) in
    let rest : Rest track (n + 1) m = tracks_rest track (n + 1) m (omega arith) in
    let split : tracks_text track m ≡ tracks_text track n ++ (here ++ rest.text) = rest.split ∙ ap (λ t. t ++ rest.text) (tracks_text-next track cylinder head below) ∙ append_assoc (tracks_text track n) here rest.text in
    part_stops old now new here rest.text (tracks_text track m) (record { done = tracks_text track n; split = split; put = so_far }) front
