-- A host's walk through its script, call after call.
use Rattle.std.proofs.Common.{◌≡◌, inl, inr, true, false, List, [], ◌∷◌, ◌++◌, Option, Some, None, sym, ◌∙◌, ap, subst}
use Rattle.std.specs.Prelude.{IsTrue, is_some}
use Rattle.channel_commands.specs.Data.{CallData, ReplyData, stopped}
use Rattle.channel_program.specs.Items.{EndsScript}
use Rattle.channel_program.specs.Script.{ItemData, Exchange, Follows}
use Rattle.seen_book.specs.Books.{PassData}
use Rattle.script_places.specs.Places.{StandsAt}
use Rattle.script_places.specs.Scripts.{Left, Plays, left_after, left_by, next_of, not_begun}
use Rattle.script_places.specs.declared.place.Place.{Place}
use Rattle.script_places.proofs.ScriptFacts.{left_after-push, Plays-push, plays_follows, plays_to_end, ended_has_none}
use Rattle.mss_run.specs.Owns.{asked_by, exchanges_by, IsAnswered, IsUnanswered}
use Rattle.mss_run.specs.Walks.{HasWalked, EndsWalk}

module _ (items : List ItemData) where
  abbrev pub left : List Exchange → Left
  left xs = left_after (not_begun items) xs

  abbrev pub next : List Exchange → Option CallData
  next xs = next_of (left xs).items (left xs).at

  -- before its first call
  pub walk_begins : (p : PassData) (place : Place) → exchanges_by p ≡ [] → asked_by p ≡ [] → StandsAt items (not_begun items) place → HasWalked items p place
  walk_begins p place untold unasked stands = record {
    told = untold ∙ sym unasked;
    plays = subst (λ (xs : List Exchange). Plays (not_begun items) xs) (sym untold) tt;
    stands = subst (λ (xs : List Exchange). StandsAt items (left xs) place) (sym untold) stands;
  }

  -- its calls so far, and one more that comes next
  plays_on : (xs : List Exchange) (call : CallData) (reply : ReplyData) → Plays (not_begun items) xs → Some call ≡ next xs → Plays (not_begun items) (xs ++ (call, reply) ∷ [])
  plays_on xs call reply plays is = Plays-push (not_begun items) xs (call, reply) plays (sym is)

  -- a call has come before the end
  unfinished : (xs : List Exchange) → Plays (not_begun items) xs → IsTrue (is_some (next xs)) → EndsScript items xs false
  unfinished xs plays more =
      (plays_follows items xs plays, λ whole. absurd (let e : is_some (next xs) ≡ false = ap is_some (ended_has_none items xs whole) in cc))

  module _ (p : PassData) (place : Place) (walked : HasWalked items p place) where
    -- a call more that was replied
    pub walk_goes_on : (q : PassData) (then : Place) (call : CallData) (reply : ReplyData) → Some call ≡ next (exchanges_by p) → IsAnswered call reply p q
        → StandsAt items (left_by (left (exchanges_by p)).items (left (exchanges_by p)).at reply) then → HasWalked items q then
    walk_goes_on q then call reply is answered stands = record {
      told = answered.told ∙ ap (λ (xs : List Exchange). xs ++ (call, reply) ∷ []) walked.told ∙ sym answered.asked;
      plays = subst (λ (xs : List Exchange). Plays (not_begun items) xs) (sym answered.told) (plays_on (exchanges_by p) call reply walked.plays is);
      stands = subst (λ (xs : List Exchange). StandsAt items (left xs) then) (sym answered.told)
          (subst (λ (l : Left). StandsAt items l then) (sym (left_after-push (not_begun items) (exchanges_by p) (call, reply))) stands);
    }

    asks : Follows items (asked_by p)
    asks = subst (λ (xs : List Exchange). Follows items xs) walked.told (plays_follows items (exchanges_by p) walked.plays)

    -- no call comes next
    pub walk_ends : None ≡ next (exchanges_by p) → EndsWalk items p true
    walk_ends none = record { ends = plays_to_end items (exchanges_by p) walked.plays (sym none); asks = asks }

    -- one does, and isn't made
    pub walk_lacks : IsTrue (is_some (next (exchanges_by p))) → EndsWalk items p false
    walk_lacks more = record { ends = unfinished (exchanges_by p) walked.plays more; asks = asks }

    -- it is made, and left unanswered
    pub walk_stops : (q : PassData) (call : CallData) → Some call ≡ next (exchanges_by p) → IsUnanswered call p q → EndsWalk items q false
    walk_stops q call is left_ = record {
      ends = subst (λ (xs : List Exchange). EndsScript items xs false) (sym left_.told) (unfinished (exchanges_by p) walked.plays (sym (ap is_some is)));
      asks = elim left_.asked [
        | inl same ↦ subst (λ (xs : List Exchange). Follows items xs) (sym same) asks
        | inr grown ↦
            subst (λ (xs : List Exchange). Follows items xs) (ap (λ (xs : List Exchange). xs ++ (call, stopped) ∷ []) walked.told ∙ sym grown)
            (plays_follows items (exchanges_by p ++ (call, stopped) ∷ []) (plays_on (exchanges_by p) call stopped walked.plays is))
      ];
    }
