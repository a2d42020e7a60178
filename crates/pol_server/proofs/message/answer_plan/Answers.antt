use Rattle.std.proofs.Common.{arith, sym, subst, ◌∙◌, refl, Ok, Err}
use Rattle.std.specs.Prelude.{⊤}
use Rattle.std.specs.Option.{option_map}
use Rattle.pol_answers.specs.Texts.{draw_fault_answer}
use Rattle.pol_routes.specs.Verbs.{AsksFor, IsActionOf, verb_act}
use Rattle.pol_server.specs.Handling.{Handles, HasAccessed, IsEntered}
use Rattle.pol_server.specs.Stores.{seen_of}
use Rattle.pol_server.specs.declared.served.Place.TheVariants.{NoEntry}
use Rattle.pol_server.proofs.AccessLemmas.{handles-accessed}
use Rattle.pol_server.proofs.HandleLemmas.{asks-command, command-by, handles-entered, handles-undrawn, kept-text, moment-within, no-verb, read-for, reads-draws}
use Rattle.pol_server.proofs.message.answer_plan.Goals as goal

pub step-requires : goal.step-requires
step-requires g c =
    moment-within c.args.planned c.now-moment.result c.in-Ok.words c.command_of-command.result c.command_of-command.ensures c.now-moment.ensures.bound

pub access-requires-clause-moment : goal.access-requires-clause-moment
access-requires-clause-moment g c =
    moment-within c.args.planned c.now-moment.result c.in-Ok.words c.command_of-command.result c.command_of-command.ensures c.now-moment.ensures.bound

pub access-requires-clause-asks : goal.access-requires-clause-asks
access-requires-clause-asks g c =
    asks-command c.args.planned c.now-moment.result c.in-Ok.words c.command_of-command.result c.command_of-command.ensures (verb_act c.in-Some.verb)
    (subst (λ verb. IsActionOf verb c.args.planned.action) c.in-Some.is c.requires)

pub returns-in-None-clause-handles : goal.returns-in-None-clause-handles
returns-in-None-clause-handles g c = λ message planned body closing heading.
    let ends = g.L.Linked.ends in
    let draws = c.in-Ok.ensures in
    let read = read-for (ends c.args.link.now) (ends c.now-moment.new.self) (ends c.draw_words.new.link) c.now-moment.result c.args.planned.words (Ok c.in-Ok.words) c.now-moment.ensures.moment draws in
    let command_is = command-by c.args.planned c.now-moment.result c.in-Ok.words c.command_of-command.result c.command_of-command.ensures draws.words draws.drawn.1 in
    handles-entered (ends c.args.link.now) (ends c.draw_words.new.link) (seen_of c.args.stores.now) message c.args.planned c.now-moment.result draws.words planned read draws.drawn.0 (λ _. ⊤)
    (record { catalogue = c.step.new.catalogue.seen; objects = c.args.stores.now.objects.seen })
    c.args.framing.close c.args.framing.head_only c.step.result.place _ closing heading (no-verb c.args.planned.verb c.in-None.is) refl
    (subst (λ command. IsEntered (λ _. ⊤) c.args.stores.now.catalogue.seen c.step.new.catalogue.seen command c.args.framing.close c.args.framing.head_only c.step.result.place (option_map (λ text. text.items) c.step.result.text)) command_is c.step.ensures.entered)

pub returns-in-Some-clause-handles : goal.returns-in-Some-clause-handles
returns-in-Some-clause-handles g c = λ message planned body closing heading.
    let ends = g.L.Linked.ends in
    let draws = c.in-Ok.ensures in
    let read = read-for (ends c.args.link.now) (ends c.now-moment.new.self) (ends c.draw_words.new.link) c.now-moment.result c.args.planned.words (Ok c.in-Ok.words) c.now-moment.ensures.moment draws in
    let command_is = command-by c.args.planned c.now-moment.result c.in-Ok.words c.command_of-command.result c.command_of-command.ensures draws.words draws.drawn.1 in
    let asks : AsksFor (verb_act c.in-Some.verb) c.args.planned.action = subst (λ verb. IsActionOf verb c.args.planned.action) c.in-Some.is c.requires in
    handles-accessed (ends c.args.link.now) (ends c.draw_words.new.link) (seen_of c.args.stores.now) message c.args.planned c.now-moment.result draws.words planned read draws.drawn.0
    c.in-Some.verb c.in-Some.is asks (seen_of c.access.new.stores) c.args.body.now c.args.framing.close c.args.framing.head_only c.access.result.place _ closing heading body
    (subst (λ command. HasAccessed (seen_of c.args.stores.now) (seen_of c.access.new.stores) command c.in-Some.verb c.args.body.now c.args.framing.close c.args.framing.head_only c.access.result.place (option_map (λ text. text.items) c.access.result.text)) command_is c.access.ensures.accessed)

pub returns-in-Err-clause-handles : goal.returns-in-Err-clause-handles
returns-in-Err-clause-handles g c = λ message planned body closing heading.
    let ends = g.L.Linked.ends in
    let seen = seen_of c.args.stores.now in
    let draws = c.in-Err.ensures in
    let read = read-for (ends c.args.link.now) (ends c.now-moment.new.self) (ends c.draw_words.new.link) c.now-moment.result c.args.planned.words (Err c.in-Err.field-0) c.now-moment.ensures.moment draws in
    subst (λ place. Handles (ends c.args.link.now) (ends c.draw_words.new.link) seen seen message place (option_map (λ text. text.items) c.unentered.result.text)) (sym c.unentered.ensures.place)
    (subst (λ text. Handles (ends c.args.link.now) (ends c.draw_words.new.link) seen seen message NoEntry (option_map (λ text. text.items) text)) (sym (c.unentered.ensures.text ∙ c.ok.ensures.value))
    (handles-undrawn (ends c.args.link.now) (ends c.draw_words.new.link) seen message c.args.planned c.now-moment.result draws.words planned read _ draws.drawn.0 (λ below. omega (arith, draws.drawn.1 below, reads-draws (ends c.args.link.now) (ends c.now-moment.new.self) c.now-moment.result c.now-moment.ensures.moment))
    (kept-text message draw_fault_answer c.args.framing.close c.args.framing.head_only c.draw_fault_text.result closing heading c.draw_fault_text.ensures)))
