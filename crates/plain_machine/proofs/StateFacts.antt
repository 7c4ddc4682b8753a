-- What a write to the kept lists is in the state that they stand for.
use Rattle.std.proofs.Common.{◌≡◌, ℕ, zero, suc, ◌<◌, Bool, cond, List, [], length, refl, sym, ap, subst, ◌∙◌, get_or-set_same, get_or-set_other}
use Rattle.std.proofs.lemmas.List.{set-get_or, length-set}
use Rattle.channel_commands.specs.declared.call.Reply.{Reply}
use Rattle.std.specs.Prelude.{Option, Some, None, option_map, slice_set, slice_index_or, replicate, ◌==◌, ◌&&◌}
use Rattle.std.proofs.Math.Path.{fun_ext}
use Rattle.std.proofs.lemmas.Bool.Decides.{eqb_tells}
use Rattle.std.proofs.Common.{inl, inr}
use Rattle.ckd_plain.specs.declared.host.HostState.{HostState}
use Rattle.channel_commands.specs.Data.{ReplyData, command}
use Rattle.channel_commands.specs.Views.{reply_of}
use Rattle.ckd_track.specs.Data.{RecordData, Volumes}
use Rattle.ckd_plain.specs.Data.{State}
use Rattle.ckd_plain.specs.Plain.{Answer, Replied, plain, fresh_host, with_host, with_track, written_to, written_there, written_mounted, answer_on_tracks, tracks_under, tracks_mounted}
use Rattle.plain_machine.specs.Outcomes.{cylinder_of, written_in, Answers}
use Rattle.ckd_plain.specs.Views.{Responds}
use Rattle.plain_machine.specs.StateData.{VolumeData, StateData, state_of, AnswersOn, volume_at, is_read_only, track_of, volumes_of, hosts_of}

pub host_set : (hosts : List HostState) (h : ℕ) (x : HostState) → h < length hosts
    → hosts_of (slice_set hosts h x) ≡ (λ (other : ℕ). cond (other == h) x (hosts_of hosts other))
host_set hosts h x lt = fun_ext (λ (other : ℕ). elim (eqb_tells other h) [
  | inl t ↦ rw (t.0, t.1) (get_or-set_same hosts h x fresh_host lt)
  | inr t ↦ rw t.0 (get_or-set_other hosts h other x fresh_host t.1)
])

module _ (volumes : List (Option VolumeData)) (v c h : ℕ) (old new : VolumeData) (track : List RecordData)
    (v-in : v < length volumes) (there : volume_at volumes v ≡ Some old) (same : new.serial ≡ old.serial) (marked : new.read_only ≡ old.read_only)
    (c-in : c < length old.cylinders) (h-in : h < length (slice_index_or old.cylinders c []))
    (written : new.cylinders ≡ slice_set old.cylinders c (slice_set (slice_index_or old.cylinders c []) h track)) where
  serial_stays : (v' : ℕ) → option_map (λ (x : VolumeData). x.serial) (volume_at (slice_set volumes v (Some new)) v') ≡ option_map (λ (x : VolumeData). x.serial) (volume_at volumes v')
  serial_stays v' = elim (eqb_tells v' v) [
    | inl t ↦ rw (t.1, get_or-set_same volumes v (Some new) None v-in, there, same) refl
    | inr t ↦ rw (get_or-set_other volumes v v' (Some new) None t.1) refl
  ]

  mark_stays : (v' : ℕ) → is_read_only (volume_at (slice_set volumes v (Some new)) v') ≡ is_read_only (volume_at volumes v')
  mark_stays v' = elim (eqb_tells v' v) [
    | inl t ↦ rw (t.1, get_or-set_same volumes v (Some new) None v-in, there, marked) refl
    | inr t ↦ rw (get_or-set_other volumes v v' (Some new) None t.1) refl
  ]

  in_volume : (c' h' : ℕ) → slice_index_or (slice_index_or new.cylinders c' []) h' [] ≡ cond ((c' == c) && (h' == h)) track (slice_index_or (slice_index_or old.cylinders c' []) h' [])
  in_volume c' h' = rw written (elim (eqb_tells c' c) [
    | inl t ↦ elim (eqb_tells h' h) [
      | inl u ↦ rw (t.0, u.0, t.1, u.1, get_or-set_same old.cylinders c (slice_set (slice_index_or old.cylinders c []) h track) [] c-in) (get_or-set_same (slice_index_or old.cylinders c []) h track [] h-in)
      | inr u ↦ rw (t.0, u.0, t.1, get_or-set_same old.cylinders c (slice_set (slice_index_or old.cylinders c []) h track) [] c-in) (get_or-set_other (slice_index_or old.cylinders c []) h h' track [] u.1)
    ]
    | inr t ↦ rw (t.0, get_or-set_other old.cylinders c c' (slice_set (slice_index_or old.cylinders c []) h track) [] t.1) refl
  ])

  track_there : (v' c' h' : ℕ) → track_of (volume_at (slice_set volumes v (Some new)) v') c' h' ≡ cond ((v' == v) && (c' == c) && (h' == h)) track (track_of (volume_at volumes v') c' h')
  track_there v' c' h' = elim (eqb_tells v' v) [
    | inl t ↦ rw (t.0, t.1, get_or-set_same volumes v (Some new) None v-in, there) (in_volume c' h')
    | inr t ↦ rw (t.0, get_or-set_other volumes v v' (Some new) None t.1) refl
  ]

  pub track_set : volumes_of (slice_set volumes v (Some new)) ≡ with_track (volumes_of volumes) v c h track
  track_set = λ i. record { serial = λ v'. serial_stays v' i; read_only = λ v'. mark_stays v' i; track = λ v' c' h'. track_there v' c' h' i }

module _ (volumes : List (Option VolumeData)) (v : ℕ) (bind : Bool) (from : HostState) (old new : VolumeData)
    (mounted : from.mounted ≡ Some (v, bind)) (v-in : v < length volumes) (there : volume_at volumes v ≡ Some old)
    (same : new.serial ≡ old.serial) (marked : new.read_only ≡ old.read_only) (c-in : from.cylinder < length old.cylinders) (h-in : from.head < length (slice_index_or old.cylinders from.cylinder [])) where
  cylinder : List (List RecordData)
  cylinder = slice_index_or old.cylinders from.cylinder []

  -- the volumes with the written cylinder are those of the definition
  volumes_written : (written : Option (List RecordData)) → new.cylinders ≡ slice_set old.cylinders from.cylinder (written_in (slice_index_or old.cylinders from.cylinder []) from.head written)
      → volumes_of (slice_set volumes v (Some new)) ≡ written_to (volumes_of volumes) from written
  volumes_written None e =
      let stays : written_to (volumes_of volumes) from None ≡ volumes_of volumes = ap (λ (m : Option (ℕ × Bool)). written_mounted (volumes_of volumes) m from None) mounted in
      let cylinders : new.cylinders ≡ old.cylinders = e ∙ set-get_or old.cylinders from.cylinder [] in
      let whole : new ≡ old = (λ i. record { serial = same i; read_only = marked i; cylinders = cylinders i }) in
      let kept : slice_set volumes v (Some new) ≡ volumes = ap (λ (x : VolumeData). slice_set volumes v (Some x)) whole ∙ ap (λ (x : Option VolumeData). slice_set volumes v x) (sym there) ∙ set-get_or volumes v None in
      ap volumes_of kept ∙ sym stays
  volumes_written (Some track) e =
      let serial : (volumes_of volumes).serial v ≡ Some old.serial = ap (λ (x : Option VolumeData). option_map (λ (y : VolumeData). y.serial) x) there in
      let definition : written_to (volumes_of volumes) from (Some track) ≡ with_track (volumes_of volumes) v from.cylinder from.head track =
      ap (λ (m : Option (ℕ × Bool)). written_mounted (volumes_of volumes) m from (Some track)) mounted ∙ ap (λ (o : Option (List ℕ)). written_there (volumes_of volumes) v from o track) serial in
      track_set volumes v from.cylinder from.head old new track v-in there same marked c-in h-in e ∙ sym definition

  pub answers_on : (code : ℕ) (argument : List ℕ) (chained : Bool) (host : HostState) (reply : Reply)
      → new.cylinders ≡ slice_set old.cylinders from.cylinder (slice_index_or new.cylinders from.cylinder [])
      → Answers (answer_on_tracks (cylinder_of (slice_index_or old.cylinders from.cylinder [])) from code argument chained) from (slice_index_or old.cylinders from.cylinder []) (slice_index_or new.cylinders from.cylinder []) host reply
      → AnswersOn (answer_on_tracks (tracks_under (volumes_of volumes) from) from code argument chained) from volumes (slice_set volumes v (Some new)) host reply
  answers_on code argument chained host reply cylinders a =
      let under : tracks_under (volumes_of volumes) from ≡ cylinder_of (slice_index_or old.cylinders from.cylinder []) =
      ap (λ (m : Option (ℕ × Bool)). tracks_mounted (volumes_of volumes) m from.cylinder) mounted ∙ ap (λ (x : Option VolumeData). track_of x from.cylinder) there in
      rw under (record {
        reply_ = a.reply_;
        host_ = a.host_;
        volumes = volumes_written _ (cylinders ∙ ap (λ (x : List (List RecordData)). slice_set old.cylinders from.cylinder x) a.tracks);
        length_ = length-set volumes v (Some new);
      })

blank_at : (n h : ℕ) → slice_index_or (replicate {A = List RecordData} n []) h [] ≡ []
blank_at zero h = refl
blank_at (suc n) zero = refl
blank_at (suc n) (suc h) = blank_at n h

pub blank_cylinder : cylinder_of (replicate 19 []) ≡ (λ (head : ℕ). [])
blank_cylinder = fun_ext (λ (head : ℕ). blank_at 19 head)

-- a host without a volume
module _ (volumes : List (Option VolumeData)) (from : HostState) (code : ℕ) (argument : List ℕ) (chained : Bool) (host : HostState) (reply : Reply)
    (a : Responds (answer_on_tracks (λ (head : ℕ). []) from code argument chained) host reply) where
  pub unmounted_answers : from.mounted ≡ None → AnswersOn (answer_on_tracks (tracks_under (volumes_of volumes) from) from code argument chained) from volumes volumes host reply
  unmounted_answers none =
      let under : tracks_under (volumes_of volumes) from ≡ (λ (head : ℕ). []) = ap (λ (m : Option (ℕ × Bool)). tracks_mounted (volumes_of volumes) m from.cylinder) none in
      rw under (record {
        reply_ = a.reply_;
        host_ = a.host_;
        volumes = sym (ap (λ (m : Option (ℕ × Bool)). written_mounted (volumes_of volumes) m from (answer_on_tracks (λ (head : ℕ). []) from code argument chained).written) none);
        length_ = refl;
      })

  nowhere : (v : ℕ) → volume_at volumes v ≡ None → (w : Option (List RecordData)) (bind : Bool) → written_mounted (volumes_of volumes) (Some (v, bind)) from w ≡ volumes_of volumes
  nowhere v gone None bind = refl
  nowhere v gone (Some track) bind = ap (λ (x : Option VolumeData). written_there (volumes_of volumes) v from (option_map (λ (y : VolumeData). y.serial) x) track) gone

  pub gone_answers : (v : ℕ) (bind : Bool) → from.mounted ≡ Some (v, bind) → volume_at volumes v ≡ None → AnswersOn (answer_on_tracks (tracks_under (volumes_of volumes) from) from code argument chained) from volumes volumes host reply
  gone_answers v bind mounted gone =
      let under : tracks_under (volumes_of volumes) from ≡ (λ (head : ℕ). []) =
      ap (λ (m : Option (ℕ × Bool)). tracks_mounted (volumes_of volumes) m from.cylinder) mounted ∙ ap (λ (x : Option VolumeData). track_of x from.cylinder) gone in
      rw under (record {
        reply_ = a.reply_;
        host_ = a.host_;
        volumes = sym (ap (λ (m : Option (ℕ × Bool)). written_mounted (volumes_of volumes) m from (answer_on_tracks (λ (head : ℕ). []) from code argument chained).written) mounted ∙ nowhere v gone _ bind);
        length_ = refl;
      })

pub blank_responds : (blank new : List (List RecordData)) (from : HostState) (code : ℕ) (argument : List ℕ) (chained : Bool) (host : HostState) (reply : Reply)
    → blank ≡ replicate 19 [] → Answers (answer_on_tracks (cylinder_of blank) from code argument chained) from blank new host reply → Responds (answer_on_tracks (λ (head : ℕ). []) from code argument chained) host reply
blank_responds blank new from code argument chained host reply e a =
    let tracks : cylinder_of blank ≡ (λ (head : ℕ). []) = ap cylinder_of e ∙ blank_cylinder in
    record {
      reply_ = a.reply_ ∙ ap (λ (t : ℕ → List RecordData). (answer_on_tracks t from code argument chained).reply) tracks;
      host_ = a.host_ ∙ ap (λ (t : ℕ → List RecordData). (answer_on_tracks t from code argument chained).host) tracks;
    }

pub host_put : (s : StateData) (h : ℕ) (x : HostState) → h < length s.hosts → state_of (record s { hosts = slice_set s.hosts h x }) ≡ with_host (state_of s) h x
host_put s h x lt = ap (λ (f : ℕ → HostState). let w : State = record { volumes = volumes_of s.volumes; host = f } in w) (host_set s.hosts h x lt)

pub command_is : (hosts : List HostState) (old new : List (Option VolumeData)) (h code : ℕ) (argument : List ℕ) (chained : Bool) (now host : HostState) (reply : Reply)
    → now ≡ hosts_of hosts h → AnswersOn (answer_on_tracks (tracks_under (volumes_of old) now) now code argument chained) now old new host reply
    → ◌≡◌ {A = Replied} (reply_of reply, with_host (state_of (record { hosts = hosts; volumes = new })) h host) (plain (state_of (record { hosts = hosts; volumes = old })) h (command code argument chained))
unfolding plain
command_is hosts old new h code argument chained now host reply e x =
    let y : AnswersOn (answer_on_tracks (tracks_under (volumes_of old) (hosts_of hosts h)) (hosts_of hosts h) code argument chained) (hosts_of hosts h) old new host reply =
    subst (λ (n : HostState). AnswersOn (answer_on_tracks (tracks_under (volumes_of old) n) n code argument chained) n old new host reply) e x in
    let a : Answer = answer_on_tracks (tracks_under (volumes_of old) (hosts_of hosts h)) (hosts_of hosts h) code argument chained in
    ap (λ (r : ReplyData). let p : Replied = (r, with_host (state_of (record { hosts = hosts; volumes = new })) h host) in p) y.reply_
    ∙ ap (λ (v : Volumes). let p : Replied = (a.reply, with_host (record { volumes = v; host = hosts_of hosts }) h host) in p) y.volumes
    ∙ ap (λ (t : HostState). let p : Replied = (a.reply, with_host (record { volumes = written_to (volumes_of old) (hosts_of hosts h) a.written; host = hosts_of hosts }) h t) in p) y.host_
