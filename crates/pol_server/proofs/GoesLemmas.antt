-- What went on between two moments, and between the second and a third.
use Rattle.std.proofs.Common.{◌≡◌, ◌<◌, ◌≤◌, ◌+◌, ◌-◌, ◌^◌, ℕ, List, [], ◌∷◌, ◌++◌, map, length, Option, sym, ap, subst, ◌∙◌, inl, inr, arith, append-nil, append_assoc, length-append}
use Rattle.std.specs.List.{flat_map}
use Rattle.std.specs.Io.KnownBytes.{Appends, Consumes}
use Rattle.std.proofs.KnownBytes.{Appends-trans, Appends-nil, Consumes-nil, Consumes-trans}
use Rattle.std.proofs.lemmas.Grind.{flat_map-append}
use Rattle.std.proofs.lemmas.List.{map-append}
use Rattle.pol_http.specs.Message.{IsMessage, Message, print_message}
use Rattle.pol_wire.proofs.StreamsLemmas.{IsShifted-nil, IsShifted-trans}
use Rattle.pol_wire.specs.Streams.{IsShifted}
use Rattle.pol_server.specs.Link.{EndsLastText}
use Rattle.pol_server.specs.Handling.{Handles}
use Rattle.pol_server.specs.Serving.{Continues, Finishes, FitsEnding, Goes, Standing, told_text}
use Rattle.pol_server.specs.Both.{HasSeenBoth}
use Rattle.pol_server.specs.Turn.{AreMarked, AreOrdered, IsAnswered, NoneCloses, Turn, output_of, place_of}
use Rattle.pol_server.specs.declared.served.Ending.{Ending}
use Rattle.pol_server.specs.declared.served.Ending.TheVariants.{Ended, Cut, Closed, ReadFault, WriteFault, Spent, NoMemory}
use Rattle.pol_server.specs.declared.served.Place.{Place}
use Rattle.pol_server.proofs.EndsLemmas.{rises-earlier}
use Rattle.pol_server.proofs.BothLemmas.{both-same, both-trans}
use Rattle.pol_server.proofs.TurnLemmas.{answered-later, both-marked, both-ordered, each-append, failed_draws-append, last-append}

-- an equation of texts, and then one more
joined : {A : Type 0} (f : Turn → List A) (turns others : List Turn) (first out middle more last : List A)
    → first ++ out ≡ flat_map f turns ++ middle → middle ++ more ≡ flat_map f others ++ last
    → first ++ (out ++ more) ≡ flat_map f (turns ++ others) ++ last
joined f turns others first out middle more last one two =
    sym (append_assoc first out more) ∙ ap (λ front. front ++ more) one ∙ append_assoc (flat_map f turns) middle more
    ∙ ap (λ back. flat_map f turns ++ back) two ∙ sym (append_assoc (flat_map f turns) (flat_map f others) last)
    ∙ ap (λ front. front ++ last) (sym (flat_map-append f turns others))

module _ (a b c : Standing) (turns others : List Turn) where
  -- what went on between a first and a second moment, and between the second and a third
  pub goes-trans : (taken later out more : List ℕ) → Goes a b turns taken out → Goes b c others later more → Goes a c (turns ++ others) (taken ++ later) (out ++ more)
  goes-trans taken later out more first second = record {
    bytes = Consumes-trans a.ends.left b.ends.left c.ends.left taken later first.bytes second.bytes;
    output = Appends-trans a.ends.given b.ends.given c.ends.given out more first.output second.output;
    moments = subst (IsShifted a.ends.moments c.ends.moments) (sym (flat_map-append (λ turn. turn.moments) turns others)) (IsShifted-trans a.ends.moments b.ends.moments c.ends.moments _ _ first.moments second.moments);
    words = subst (IsShifted a.ends.words c.ends.words) (sym (flat_map-append (λ turn. turn.words) turns others)) (IsShifted-trans a.ends.words b.ends.words c.ends.words _ _ first.words second.words);
    source_faults = omega (arith, first.source_faults, second.source_faults);
    sink_faults = omega (arith, first.sink_faults, second.sink_faults);
    draw_faults = omega (arith, first.draw_faults, second.draw_faults);
    draws = λ below.
        let early : b.ends.draw_faults < 2 ^ 64 - 1 = omega (arith, second.draw_faults, below) in
        omega (arith, first.draws early, second.draws below, failed_draws-append turns others);
    stores = subst (HasSeenBoth a.seen c.seen) (sym (map-append place_of turns others)) (both-trans a.seen b.seen c.seen (map place_of turns) (map place_of others) first.stores second.stores);
    cut = joined (λ turn. print_message turn.message) turns others a.buffer taken b.buffer later c.buffer first.cut second.cut;
    places = second.places ∙ ap (λ front. front ++ map place_of others) first.places ∙ append_assoc a.places (map place_of turns) (map place_of others)
        ∙ ap (λ back. a.places ++ back) (sym (map-append place_of turns others));
    budget = omega (arith, first.budget, second.budget, length-append taken later);
    whole = each-append _ turns others first.whole second.whole;
    answered = each-append (IsAnswered c.seen) turns others (answered-later b.seen c.seen (map place_of others) turns second.stores first.answered) second.answered;
    ordered = both-ordered a.seen b.seen c.seen turns others first.ordered second.ordered;
    marked = both-marked a.seen b.seen c.seen turns others first.marked second.marked;
  }

-- a link that goes on twice goes on
pub continues-trans : (a b c : Standing) → Continues a b → Continues b c → Continues a c
continues-trans a b c first second = record {
  turns = first.turns ++ second.turns;
  taken = first.taken ++ second.taken;
  out = first.out ++ second.out;
  goes = goes-trans a b c first.turns second.turns first.taken second.taken first.out second.out first.goes second.goes;
  said = joined output_of first.turns second.turns (told_text a.told) first.out (told_text b.told) second.out (told_text c.told) first.said second.said;
  open_ = each-append _ first.turns second.turns first.open_ second.open_;
}

-- turns that close nothing may come before an ending's
fits-after : (ending : Ending) (turns others : List Turn) (rest text : List ℕ) → NoneCloses turns → FitsEnding ending others rest text → FitsEnding ending (turns ++ others) rest text
fits-after Ended turns others rest text open_ fits = (each-append _ turns others open_ fits.0, fits.1, fits.2)
fits-after Cut turns others rest text open_ fits = (each-append _ turns others open_ fits.0, fits.1, fits.2)
fits-after Closed turns others rest text open_ (inl closed) = inl (last-append turns others open_ closed.0, closed.1)
fits-after Closed turns others rest text open_ (inr refused) = inr (each-append _ turns others open_ refused.0, refused.1)
fits-after ReadFault turns others rest text open_ fits = (each-append _ turns others open_ fits.0, fits.1)
fits-after WriteFault turns others rest text open_ (inl (inl closed, none)) = inl (inl (last-append turns others open_ closed), none)
fits-after WriteFault turns others rest text open_ (inl (inr later, none)) = inl (inr (each-append _ turns others open_ later), none)
fits-after WriteFault turns others rest text open_ (inr some) = inr (each-append _ turns others open_ some.0, some.1)
fits-after Spent turns others rest text open_ fits = (each-append _ turns others open_ fits.0, fits.1)
fits-after NoMemory turns others rest text open_ fits = (each-append _ turns others open_ fits.0, fits.1)

-- turns may come before those whose last text was left out
left-out-after : (turns others : List Turn) (text missing : List ℕ) → EndsLastText others text missing → EndsLastText (turns ++ others) text missing
left-out-after turns others text missing (inl ends) = inl ends
left-out-after turns others text missing (inr (none, front, last, is, ends)) =
    inr (none, turns ++ front, last, ap (λ later. turns ++ later) is ∙ sym (append_assoc turns front (last ∷ [])), ends)

-- a link that goes on and then ends, ends
pub finishes-after : (ending : Ending) (a b c : Standing) → Continues a b → Finishes ending b c → Finishes ending a c
finishes-after ending a b c first second = record {
  turns = first.turns ++ second.turns;
  taken = first.taken ++ second.taken;
  out = first.out ++ second.out;
  missing = second.missing;
  text = second.text;
  goes = goes-trans a b c first.turns second.turns first.taken second.taken first.out second.out first.goes second.goes;
  said = ap (λ all. told_text a.told ++ all) (append_assoc first.out second.out second.missing)
      ∙ joined output_of first.turns second.turns (told_text a.told) first.out (told_text b.told) (second.out ++ second.missing) second.text first.said second.said;
  complete = second.complete;
  left_out = left-out-after first.turns second.turns second.text second.missing second.left_out;
  fits = fits-after ending first.turns second.turns c.buffer second.text first.open_ second.fits;
  caused = λ failed. rises-earlier a.ends.sink_faults b.ends.sink_faults c.ends.sink_faults first.goes.sink_faults (second.caused failed);
}

-- nothing but the ends and what was told has changed
pub record Stays (a b : Standing) : Type 0 where
  pub seen : b.seen ≡ a.seen
  pub places : b.places ≡ a.places
  pub buffer : b.buffer ≡ a.buffer
  pub budget : b.budget ≡ a.budget

module _ (a b : Standing) where
  stays-seen : b.seen ≡ a.seen → HasSeenBoth a.seen b.seen []
  stays-seen same = subst (λ seen. HasSeenBoth a.seen seen []) (sym same) (both-same a.seen)

  stays-ordered : b.seen ≡ a.seen → AreOrdered a.seen b.seen []
  stays-ordered same = record {
    catalogue = omega (arith, ap (λ seen. length seen.catalogue.front) same);
    objects = omega (arith, ap (λ seen. length seen.objects.front) same);
  }

  stays-marked : b.seen ≡ a.seen → AreMarked a.seen b.seen []
  stays-marked same = record {
    catalogue = omega (arith, ap (λ seen. seen.catalogue.failed) same);
    objects = omega (arith, ap (λ seen. seen.objects.failed) same);
  }

  -- giving bytes alone
  pub goes-given : (out : List ℕ) → Stays a b → b.ends ≡ record a.ends { given = b.ends.given; sink_faults = b.ends.sink_faults }
      → Appends a.ends.given b.ends.given out → a.ends.sink_faults ≤ b.ends.sink_faults → Goes a b [] [] out
  goes-given out stays same gives kept = record {
    bytes = subst (λ left. Consumes a.ends.left left []) (sym (ap (λ ends. ends.left) same)) (Consumes-nil a.ends.left);
    output = gives;
    moments = subst (λ moments. IsShifted a.ends.moments moments []) (sym (ap (λ ends. ends.moments) same)) (IsShifted-nil a.ends.moments);
    words = subst (λ words. IsShifted a.ends.words words []) (sym (ap (λ ends. ends.words) same)) (IsShifted-nil a.ends.words);
    source_faults = omega (arith, ap (λ ends. ends.source_faults) same);
    sink_faults = kept;
    draw_faults = omega (arith, ap (λ ends. ends.draw_faults) same);
    draws = λ below. omega (arith, ap (λ ends. ends.draw_faults) same);
    stores = stays-seen stays.seen;
    cut = append-nil a.buffer ∙ sym stays.buffer;
    places = stays.places ∙ sym (append-nil a.places);
    budget = omega (arith, stays.budget);
    whole = tt;
    answered = tt;
    ordered = stays-ordered stays.seen;
    marked = stays-marked stays.seen;
  }

  -- taking bytes alone
  pub goes-read : (taken : List ℕ) → b.seen ≡ a.seen → b.places ≡ a.places → b.ends ≡ record a.ends { left = b.ends.left; source_faults = b.ends.source_faults }
      → Consumes a.ends.left b.ends.left taken → a.ends.source_faults ≤ b.ends.source_faults → b.buffer ≡ a.buffer ++ taken → b.budget + length taken ≡ a.budget
      → Goes a b [] taken []
  goes-read taken seen places same takes kept grown spent = record {
    bytes = takes;
    output = subst (λ given. Appends a.ends.given given []) (sym (ap (λ ends. ends.given) same)) (Appends-nil a.ends.given);
    moments = subst (λ moments. IsShifted a.ends.moments moments []) (sym (ap (λ ends. ends.moments) same)) (IsShifted-nil a.ends.moments);
    words = subst (λ words. IsShifted a.ends.words words []) (sym (ap (λ ends. ends.words) same)) (IsShifted-nil a.ends.words);
    source_faults = kept;
    sink_faults = omega (arith, ap (λ ends. ends.sink_faults) same);
    draw_faults = omega (arith, ap (λ ends. ends.draw_faults) same);
    draws = λ below. omega (arith, ap (λ ends. ends.draw_faults) same);
    stores = stays-seen seen;
    cut = sym grown;
    places = places ∙ sym (append-nil a.places);
    budget = spent;
    whole = tt;
    answered = tt;
    ordered = stays-ordered seen;
    marked = stays-marked seen;
  }

  -- one message that was handled, whose answer is still to be given
  pub goes-turn : (message : Message) (place : Place) (text : Option (List ℕ)) (handles : Handles a.ends b.ends a.seen b.seen message place text)
      → IsMessage message → a.buffer ≡ print_message message ++ b.buffer → b.places ≡ a.places ++ place ∷ [] → b.budget ≡ a.budget
      → Goes a b (handles.turn ∷ []) [] []
  goes-turn message place text handles whole front added budget = record {
    bytes = subst (λ left. Consumes a.ends.left left []) (sym (ap (λ ends. ends.left) handles.same)) (Consumes-nil a.ends.left);
    output = subst (λ given. Appends a.ends.given given []) (sym (ap (λ ends. ends.given) handles.same)) (Appends-nil a.ends.given);
    moments = subst (IsShifted a.ends.moments b.ends.moments) (sym (append-nil handles.turn.moments)) handles.moments;
    words = subst (IsShifted a.ends.words b.ends.words) (sym (append-nil handles.turn.words)) handles.words;
    source_faults = omega (arith, ap (λ ends. ends.source_faults) handles.same);
    sink_faults = omega (arith, ap (λ ends. ends.sink_faults) handles.same);
    draw_faults = handles.kept;
    draws = λ below. omega (arith, handles.draws below);
    stores = handles.stores;
    cut = append-nil a.buffer ∙ front ∙ ap (λ message. print_message message ++ b.buffer) (sym handles.message_is) ∙ ap (λ bytes. bytes ++ b.buffer) (sym (append-nil (print_message handles.turn.message)));
    places = added ∙ ap (λ place. a.places ++ place ∷ []) handles.place_is;
    budget = omega (arith, budget);
    whole = (subst IsMessage (sym handles.message_is) whole, tt);
    answered = (handles.answered, tt);
    ordered = handles.ordered;
    marked = handles.marked;
  }
