use Rattle.std.proofs.Common.{◌≡◌, Option, Some, None, map, ◌∙◌, sym, ap, subst}
use Rattle.std.specs.Prelude.{option_map}
use Rattle.channel_commands.specs.Data.{CallData}
use Rattle.channel_commands.specs.Views.{call_of, reply_of}
use Rattle.channel_commands.specs.declared.call.Reply.{Reply}
use Rattle.job_text.specs.Views.{item_of}
use Rattle.script_places.specs.Scripts.{Left}
use Rattle.mss_run.specs.Owns.{exchanges_by, Makes}
use Rattle.mss_run.proofs.WalkFacts.{left, next, walk_goes_on, walk_ends, walk_lacks, walk_stops}
use Rattle.mss_run.proofs.actor.Run.step_script.Goals as goal

pub due_call-requires : goal.due_call-requires
due_call-requires g c = record { stands = (left (map item_of c.args.items.now) (exchanges_by c.args.running), c.requires.walked.stands) }

pub returns-in_default-clause-goes : goal.returns-in_default-clause-goes
returns-in_default-clause-goes g c =
    let items = map item_of c.args.items.now in
    let walked = c.requires.walked in
    walk_lacks items c.args.running c.args.place.now walked (c.in_default.ensures.memory (left items (exchanges_by c.args.running)) walked.stands)

pub returns-in_default-due-clause-goes : goal.returns-in_default-due-clause-goes
returns-in_default-due-clause-goes g c =
    let items = map item_of c.args.items.now in
    let walked = c.requires.walked in
    let next_ : option_map call_of c.in-Ok.due ≡ next items (exchanges_by c.args.running) = c.in-Ok.ensures.call (left items (exchanges_by c.args.running)) walked.stands in
    walk_ends items c.args.running c.args.place.now walked (sym (ap (option_map call_of) c.in_default-due.is) ∙ next_)

pub returns-in_default-reply-clause-goes : goal.returns-in_default-reply-clause-goes
returns-in_default-reply-clause-goes g c =
    let items = map item_of c.args.items.now in
    let walked = c.requires.walked in
    let call : CallData = call_of c.in-Some.call in
    let next_ : option_map call_of c.in-Ok.due ≡ next items (exchanges_by c.args.running) = c.in-Ok.ensures.call (left items (exchanges_by c.args.running)) walked.stands in
    let made : Makes call c.args.running None c.make_call-now.result.0 = subst (λ (o : Option Reply). Makes call c.args.running o c.make_call-now.result.0) c.in_default-reply.is c.make_call-now.ensures in
    walk_stops items c.args.running c.args.place.now walked c.make_call-now.result.0 call (sym (ap (option_map call_of) c.in-Some.is) ∙ next_) made

pub returns-clause-goes : goal.returns-clause-goes
returns-clause-goes g c =
    let items = map item_of c.args.items.now in
    let walked = c.requires.walked in
    let call : CallData = call_of c.in-Some.call in
    let reply = c.in-Some-reply.reply in
    let here : Left = left items (exchanges_by c.args.running) in
    let next_ : option_map call_of c.in-Ok.due ≡ next items (exchanges_by c.args.running) = c.in-Ok.ensures.call here walked.stands in
    let made : Makes call c.args.running (Some reply) c.make_call-now.result.0 = subst (λ (o : Option Reply). Makes call c.args.running o c.make_call-now.result.0) c.in-Some-reply.is c.make_call-now.ensures in
    walk_goes_on items c.args.running c.args.place.now walked c.make_call-now.result.0 c.pass.new.place call (reply_of reply) (sym (ap (option_map call_of) c.in-Some.is) ∙ next_) made
    (c.pass.ensures here (c.due_call.ensures.stays here walked.stands))
