use Rattle.std.proofs.Common.{◌≡◌, ◌⊎◌, ℕ, List, [], ◌∷◌, ◌++◌, Option, sym, ◌∙◌, ap, subst}
use Rattle.channel_commands.specs.Data.{stopped}
use Rattle.channel_commands.specs.Views.{call_of, reply_of}
use Rattle.seen_book.specs.Books.{PassData}
use Rattle.mss_run.specs.declared.host.Told.{Told}
use Rattle.mss_run.specs.Owns.{exchanges_by, asked_by, Called, IsReplied, IsLeft}
use Rattle.mss_run.proofs.OwnPlaces.{places_grow, exchanges_grow, asked_grow, host_left, places_left, exchanges_left, asked_left}
use Rattle.mss_run.proofs.actor.Run.make_call.Goals as goal

pub over-requires-in-Some : goal.over-requires-in-Some
over-requires-in-Some g c =
    let call = call_of c.args.call.now in
    let p = c.running.inside.pass in
    let q = c.call_until_replied-pass.result.0 in
    let t = c.in-Some.told in
    let told : IsReplied call p t q = subst (λ (o : Option Told). Called call p o q) c.in-Some.is c.call_until_replied-pass.ensures in
    c.push.ensures.items ∙ ap (λ (l : List ℕ). l ++ t.index ∷ []) (c.reserve.ensures.items ∙ c.running.invariant)
    ∙ sym (places_grow call (reply_of t.reply) t.index p q told.0 c.host-before.ensures.own c.host-after.ensures.own told.1)

pub over-requires-in-None : goal.over-requires-in-None
over-requires-in-None g c =
    let call = call_of c.args.call.now in
    let p = c.running.inside.pass in
    let q = c.call_until_replied-pass.result.0 in
    let left : IsLeft call p q = subst (λ (o : Option Told). Called call p o q) c.in-None.is c.call_until_replied-pass.ensures in
    c.reserve.ensures.items ∙ c.running.invariant ∙ sym (places_left call p q c.host-before.ensures.own c.host-after.ensures.own left)

pub returns-in-Some : goal.returns-in-Some
returns-in-Some g c =
    let call = call_of c.args.call.now in
    let p = c.running.inside.pass in
    let q = c.call_until_replied-pass.result.0 in
    let t = c.in-Some.told in
    let told : IsReplied call p t q = subst (λ (o : Option Told). Called call p o q) c.in-Some.is c.call_until_replied-pass.ensures in
    record {
      host_ = ap (λ (x : PassData). x.host) c.over-in-Some.ensures ∙ told.0.host_.1 ∙ ap (λ (x : PassData). x.host) c.running.view_is;
      told = ap exchanges_by c.over-in-Some.ensures ∙ exchanges_grow call (reply_of t.reply) t.index p q told.0 c.host-before.ensures.own c.host-after.ensures.own told.1
          ∙ ap (λ (x : PassData). exchanges_by x ++ (call, reply_of t.reply) ∷ []) c.running.view_is;
      asked = ap asked_by c.over-in-Some.ensures ∙ asked_grow call (reply_of t.reply) t.index p q told.0 ∙ ap (λ (x : PassData). asked_by x ++ (call, reply_of t.reply) ∷ []) c.running.view_is;
    }

pub returns-in-None : goal.returns-in-None
returns-in-None g c =
    let call = call_of c.args.call.now in
    let p = c.running.inside.pass in
    let q = c.call_until_replied-pass.result.0 in
    let left : IsLeft call p q = subst (λ (o : Option Told). Called call p o q) c.in-None.is c.call_until_replied-pass.ensures in
    record {
      host_ = ap (λ (x : PassData). x.host) c.over-in-None.ensures ∙ host_left call p q c.host-before.ensures.own c.host-after.ensures.own left ∙ ap (λ (x : PassData). x.host) c.running.view_is;
      told = ap exchanges_by c.over-in-None.ensures ∙ exchanges_left call p q c.host-before.ensures.own c.host-after.ensures.own left ∙ ap exchanges_by c.running.view_is;
      asked = subst (λ (x : PassData × PassData). (asked_by x.1 ≡ asked_by x.0) ⊎ (asked_by x.1 ≡ asked_by x.0 ++ (call, stopped) ∷ [])) (λ i. (c.running.view_is i, sym c.over-in-None.ensures i)) (asked_left call p q left);
    }
