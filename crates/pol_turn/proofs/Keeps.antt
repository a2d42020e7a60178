-- Each step keeps the rule of the table.
use Rattle.std.proofs.Common.{◌≡◌, ◌≢◌, ℕ, zero, suc, ◌+◌, ◌%◌, ◌<◌, Bool, true, false, not, ◌&&◌, List, [], ◌∷◌, ◌++◌, length, drop, get_or, set, Option, Some, None, All, IfSome, IsNone, IsTrue, sym, refl, ap, ◌∙◌, subst, ⊎_elim, arith, length-append}
use Rattle.std.proofs.lemmas.List.Elements.{All-weaker, All-push, All-nil, recursion_from_All}
use mathlib.Core.List.{IsPrefix}
use mathlib.Core.Logic.{dite}
use mathlib.Core.Option.{some, none, some-injective, some-ne-none}
use native.Mathlib.Decide.{ℕ_discrete}
use lib.ListN.{get_elem?}
use lib.Seq.{set-get_or}
use Rattle.atomic_table.specs.Table.{State, step, keeps, takes, gives, Allows, Splits, Joins, opening, Final, Seen}
use Rattle.atomic_table.proofs.Lists.{at_set, set_else, set_again}
use Rattle.pol_turn.specs.declared.view.Gathered.{Gathered}
use Rattle.pol_turn.specs.declared.view.View.{View}
use Rattle.pol_turn.specs.Known.{items_by, Accounts, AddsAtMostOne}
use Rattle.pol_turn.specs.Rule.{round, Slot, lies, away, empty, home_of, is_taken, StandsFor, Book, Settles, Knows, Stands, lives, queues, Kept, Ruled, founding, newcomer, with_one_more, gone_view, longer, gathering, carried}
use Rattle.pol_turn.specs.Steps.{waiting, serving, given, closing, Fair, Sat, Draws, Looks, Serves, Settled, Shuts}
use Rattle.pol_turn.proofs.Fronts.{prefix_self, prefix_trans, settles_on, settles_all_on, Adds, adds, added_is, longer_front, none_before, by_same, by_other}
use Rattle.pol_turn.proofs.Queues.{bit, is_false, put, put_here, put_else, put_clear, at_end, count_set, count_push, queue_short, queue_shorter, others_stay, next_ticket, own_turn}

module _ {S : Type 0} where
  -- what the slot taken last has
  abbrev in_hand : List (ℕ × Option S) → Option S
  in_hand [] = None
  in_hand (x ∷ xs) = x.1

  -- a slot that is not taken has a value
  at_home : (slot : Slot S) → is_taken slot ≡ false → (x : S) × (slot ≡ lies x)
  at_home (lies x) is = (x, refl)
  at_home away is = absurd cc
  at_home empty is = absurd cc

module _ {S I F : Type 0} (number : I → ℕ) (items : S → List I) (fixed : S → F) where
  abbrev V : Type 0
  V = View I F

  abbrev St : Type 0
  St = State (Option S) V

  abbrev Rule : S → St → Type 0
  Rule = Ruled number items fixed

  -- the pass knows the same wherever it stands in the queue
  moved : (start : F) (log : List I) (made : ℕ) (gathered : List (Gathered I)) (seat_of : ℕ → Option ℕ) (seat : ℕ) (v : V) (ticket : ℕ) (waits serves shut : Bool)
      → Knows number start log made gathered seat_of seat v → Knows number start log made gathered seat_of seat (record v { ticket = ticket; waits = waits; serves = serves; shut = shut })
  moved start log made gathered seat_of seat v ticket waits serves shut known = record {
    seated = known.seated;
    below = known.below;
    opened = known.opened;
    front = known.front;
    met = known.met;
    own = known.own;
    founds = known.founds;
  }

  -- a pass accounts for the whole log, and for its front
  fair_log : (start : F) (b : Book S I) (s : St) (seat : ℕ) (v : V) → Kept number items fixed start b s → Knows number start b.log b.made b.gathered b.seat_of seat v
      → Accounts number v.number v.own v.made v.gathered b.log
  fair_log start b s seat v kept known = record {
    of_pass = known.own.all;
    of_joined = λ first. let f = known.founds first in subst (All (λ g. items_by number g.number b.log ≡ g.items)) (sym f.1) (All-weaker (λ (g : Gathered I). Settles number v.front b.log g.number g.items) (λ (g : Gathered I). items_by number g.number b.log ≡ g.items) (λ g k. k.all) b.gathered f.2);
    of_none = λ first n le. let f = known.founds first in kept.fresh n (omega arith);
  }

  fair_front : (start : F) (b : Book S I) (s : St) (seat : ℕ) (v : V) → Kept number items fixed start b s → Knows number start b.log b.made b.gathered b.seat_of seat v → Fair number v
  fair_front start b s seat v kept known = record {
    of_pass = known.own.seen;
    of_joined = λ first. let f = known.founds first in subst (All (λ g. items_by number g.number v.front ≡ g.items)) (sym f.1) (All-weaker (λ (g : Gathered I). Settles number v.front b.log g.number g.items) (λ (g : Gathered I). items_by number g.number v.front ≡ g.items) (λ g k. k.seen) b.gathered f.2);
    of_none = λ first n le. let f = known.founds first in none_before number n v.front b.log known.front (kept.fresh n (omega arith));
  }

  -- a step that changes nothing
  unchanged : (start : F) (b : Book S I) (s : St) (i id : ℕ) (v : V) → get_elem? s.views id ≡ some v → Kept number items fixed start b s
      → Kept number items fixed start b record { words = set s.words i (get_or s.words i 0); homes = s.homes; views = set s.views id v }
  unchanged start b s i id v at kept =
      subst (λ (x : List ℕ × List V). Kept number items fixed start b record { words = x.0; homes = s.homes; views = x.1 }) (λ j. (sym (set-get_or s.words i 0) j, sym (set_again s.views id v at) j)) kept

  -- Draw

  drawn : (log : List I) (serving ticket : ℕ) (holder : ℕ → ℕ) (slot : Slot S) (id j : ℕ) (u : V) → Stands log serving ticket holder slot j u → Stands log serving (ticket + 1) (put holder ticket id) slot j u
  drawn log serving ticket holder slot id j u stands = record {
    waits = λ w. let t = stands.waits w in (t.0, omega arith, put_else holder ticket id u.ticket (λ e. omega arith) ∙ t.2);
    first = stands.first;
    serves = stands.serves;
    shut = stands.shut;
  }

  pub draws : (opened : S) (slots id : ℕ) (me : Sat S I F) → me.0.waits ≡ false → me.0.serves ≡ false → me.0.shut ≡ false → me.0.spent ≡ false
      → Allows (Rule opened) slots id me 1 (λ n. (n + 1) % 18446744073709551616) (Draws (step slots 1 1 0 none) me)
  draws opened slots id me idle free unshut alive s (b, kept) long at small =
      let v : V = me.0 in
      let w : V = waiting v b.ticket in
      let fit = kept.each id v at alive in
      let counted = count_set queues s.views id v w at in
      let lived = count_set lives s.views id v w at in
      let was : queues v ≡ false = ap (λ c. c && not v.spent) idle in
      let is : queues w ≡ true = ap not alive in
      let b' : Book S I = record b { ticket = b.ticket + 1; holder = put b.holder b.ticket id } in (
        w,
        keeps,
        tt,
        (
          b',
          record {
            words = ap (λ (ws : List ℕ). set ws 1 ((get_or ws 1 0 + 1) % round)) kept.words ∙ ap (λ n. b.serving % round ∷ n ∷ []) (next_ticket b.ticket);
            homes = kept.homes;
            queue = let q = kept.queue in omega (arith, ap bit was, ap bit is);
            passes = let p = kept.passes in omega arith;
            few = kept.few;
            value = kept.value;
            taken = λ t. let h = kept.taken t in omega arith;
            fresh = kept.fresh;
            gone = kept.gone;
            each = others_stay (λ j u. Knows number (fixed opened) b.log b.made b.gathered b.seat_of j u × Stands b.log b.serving (b.ticket + 1) (put b.holder b.ticket id) b.slot j u) s.views id w (
              moved (fixed opened) b.log b.made b.gathered b.seat_of id v b.ticket true v.serves v.shut fit.0,
              record {
                waits = λ _. let q = kept.queue in (omega arith, omega arith, put_here b.holder b.ticket id);
                first = λ _ now. free ∙ sym (is_false (is_taken b.slot) (λ t. let h = kept.taken t in omega arith));
                serves = λ e. absurd (cc (free, e));
                shut = λ e. absurd (cc (unshut, e));
              },
            )
                (λ j u other at' alive'. let f = kept.each j u at' alive' in (f.0, drawn b.log b.serving b.ticket b.holder b.slot id j u f.1));
          },
        ),
        (b.ticket, sym (ap (λ (ws : List ℕ). get_or ws 1 0) kept.words), refl),
      )

  -- Look

  -- a seat whose ticket is served stands alone there
  alone : (b : Book S I) (id j : ℕ) (v u : V) → Stands b.log b.serving b.ticket b.holder b.slot id v → Stands b.log b.serving b.ticket b.holder b.slot j u
      → v.waits ≡ true → v.ticket ≡ b.serving → j ≢ id → u.waits ≡ true → u.ticket ≡ b.serving → ⊥
  alone b id j v u stands stands' waits now other waits' now' = other (sym (stands'.waits waits').2 ∙ (ap b.holder (now' ∙ sym now) ∙ (stands.waits waits).2))

  -- the slot goes out: the others wait on
  passed_over : (b : Book S I) (x : S) (id j : ℕ) (v u : V) → b.slot ≡ lies x → Stands b.log b.serving b.ticket b.holder b.slot id v → v.waits ≡ true → v.ticket ≡ b.serving → j ≢ id
      → Stands b.log b.serving b.ticket b.holder b.slot j u → Stands {S = S} b.log b.serving b.ticket b.holder away j u
  passed_over b x id j v u home stands waits now other stands' = record {
    waits = stands'.waits;
    first = λ w e. absurd (alone b id j v u stands stands' waits now other w e);
    serves = stands'.serves;
    shut = λ h. absurd (cc (home, (stands'.shut h).1));
  }

  -- the pass has seen the whole log
  up_to_date : (start : F) (b : Book S I) (id : ℕ) (v : V) → Knows number start b.log b.made b.gathered b.seat_of id v → Knows number start b.log b.made b.gathered b.seat_of id (serving v b.log)
  up_to_date start b id v known = record {
    seated = known.seated;
    below = known.below;
    opened = known.opened;
    front = prefix_self b.log;
    met = prefix_trans v.met v.front b.log known.met known.front;
    own = settles_on number v.number v.own v.front b.log b.log known.front (prefix_self b.log) known.own;
    founds = λ first. let f = known.founds first in (f.0, f.1, settles_all_on number b.gathered v.front b.log b.log known.front (prefix_self b.log) f.2);
  }

  -- the turn has come, and the value x is at home
  taken : (opened : S) (id : ℕ) (v : V) (s : St) (b : Book S I) (x : S) → Kept number items fixed (fixed opened) b s → get_elem? s.views id ≡ some v
      → Knows number (fixed opened) b.log b.made b.gathered b.seat_of id v → Stands b.log b.serving b.ticket b.holder b.slot id v
      → v.waits ≡ true → v.shut ≡ false → v.ticket ≡ b.serving → b.slot ≡ lies x
      → Kept number items fixed (fixed opened) (record b { slot = away }) record { words = set s.words 0 (get_or s.words 0 0); homes = set s.homes 0 none; views = set s.views id (serving v b.log) }
  taken opened id v s b x kept at known stands waits unshut now home =
      let w : V = serving v b.log in
      let counted = count_set queues s.views id v w at in
      let lived = count_set lives s.views id v w at in record {
        words = set-get_or s.words 0 0 ∙ kept.words;
        homes = ap (λ (hs : List (mathlib.Core.Option.Option (Option S))). set hs 0 none) kept.homes;
        queue = let q = kept.queue in omega arith;
        passes = let p = kept.passes in omega arith;
        few = kept.few;
        value = tt;
        taken = λ _. let t = stands.waits waits in omega arith;
        fresh = kept.fresh;
        gone = kept.gone;
        each = others_stay (λ j u. Knows number (fixed opened) b.log b.made b.gathered b.seat_of j u × Stands {S = S} b.log b.serving b.ticket b.holder away j u) s.views id w (
          up_to_date (fixed opened) b id v known,
          record {
            waits = λ _. stands.waits waits;
            first = λ _ _. refl;
            serves = λ _. (waits, now, refl);
            shut = λ e. absurd (cc (unshut, e));
          },
        )
            (λ j u other at' alive'. let f = kept.each j u at' alive' in (f.0, passed_over b x id j v u home stands waits now other f.1));
      }

  pub looks : (opened : S) (slots id : ℕ) (me : Sat S I F) → me.0.waits ≡ true → me.0.serves ≡ false → me.0.shut ≡ false → me.0.spent ≡ false
      → Allows (Rule opened) slots id me 0 (λ n. n) (Looks number items fixed (step slots 0 0 0 none) me)
  looks opened slots id me waits free unshut alive s (b, kept) long at small =
      let v : V = me.0 in
      let known = (kept.each id v at alive).0 in
      let stands = (kept.each id v at alive).1 in
      let words0 : get_or s.words 0 0 ≡ b.serving % round = ap (λ (ws : List ℕ). get_or ws 0 0) kept.words in
      dite (ℕ_discrete (get_or s.words 0 0) (v.ticket % round))
      (λ same.
      let t = stands.waits waits in
      let q = kept.queue in
      let p = kept.passes in
      let short = queue_short s.views in
      let now : v.ticket ≡ b.serving = own_turn b.serving v.ticket b.ticket b.made t.0 t.1 (omega arith) kept.few (sym words0 ∙ same) in
      let home = at_home b.slot (sym (stands.first waits now) ∙ free) in
      let x : S = home.0 in
      let value : (items x ≡ b.log) × (fixed x ≡ fixed opened) = subst (StandsFor items fixed b.log (fixed opened)) home.1 kept.value in
      let homes : s.homes ≡ some (Some x) ∷ [] = kept.homes ∙ ap (λ (slot : Slot S). home_of slot ∷ []) home.1 in (
        serving v b.log,
        takes 0 (Some x),
        ap (λ (hs : List (mathlib.Core.Option.Option (Option S))). get_elem? hs 0) homes,
        (record b { slot = away }, taken opened id v s b x kept at known stands waits unshut now home.1),
        (
          (λ _. (
            x,
            ap (λ (l : List I). (serving v l, (0, Some x) ∷ me.1)) (sym value.0),
            known.opened ∙ ap (λ (f : F). Some f) (sym value.1),
            subst (IsPrefix v.front) (sym value.0) known.front,
            subst (λ (l : List I). Fair number (serving v l)) (sym value.0) (fair_log (fixed opened) b s id v kept known),
          )),
          (λ differs. absurd (differs same)),
        ),
      ))
      (λ differs. (v, keeps, tt, (b, unchanged (fixed opened) b s 0 id v at kept), ((λ same. absurd (differs same)), (λ _. refl))))

  -- Serve

  -- the log goes on by items of the number n, and no gathered pass has it
  gathered_stay : (n id : ℕ) (gathered : List (Gathered I)) (seat_of : ℕ → Option ℕ) (front log next added : List I) → Adds number n log next added → seat_of n ≡ Some id → IsPrefix front log
      → (made : ℕ) → All (λ g. (g.number < made) × (seat_of g.number ≡ None)) gathered → All (λ g. Settles number front log g.number g.items) gathered → All (λ g. Settles number front next g.number g.items) gathered
  gathered_stay n id gathered seat_of front log next added it seated begins made gone known k d l =
      let settled = known k d l in
      record { seen = settled.seen; all = it.others _ (λ e. absurd (cc (ap seat_of e, (gone k d l).1, seated))) ∙ settled.all }

  -- another pass knows as much of the longer log
  longer_log : (start : F) (b : Book S I) (id j : ℕ) (v u : V) (next added : List I) → Adds number v.number b.log next added → b.seat_of v.number ≡ Some id → j ≢ id
      → All (λ g. (g.number < b.made) × (b.seat_of g.number ≡ None)) b.gathered
      → Knows number start b.log b.made b.gathered b.seat_of j u → Knows number start next b.made b.gathered b.seat_of j u
  longer_log start b id j v u next added it seated other gone known = record {
    seated = known.seated;
    below = known.below;
    opened = known.opened;
    front = prefix_trans u.front b.log next known.front (added, it.joined);
    met = known.met;
    own = record { seen = known.own.seen; all = it.others u.number (λ e. other (some_same j id (sym known.seated ∙ (ap b.seat_of e ∙ seated)))) ∙ known.own.all };
    founds = λ first. let f = known.founds first in (f.0, f.1, gathered_stay v.number id b.gathered b.seat_of u.front b.log next added it seated known.front b.made gone f.2);
  }
    where
      some_same : (i k : ℕ) → Some i ≡ Some k → i ≡ k
      some_same i k e = cc

  -- the pass that gave the value back
  gave : (start : F) (b : Book S I) (id : ℕ) (v : V) (next added : List I) → Adds number v.number b.log next added → v.front ≡ b.log
      → All (λ g. (g.number < b.made) × (b.seat_of g.number ≡ None)) b.gathered
      → Knows number start b.log b.made b.gathered b.seat_of id v → Knows number start next b.made b.gathered b.seat_of id (given v next)
  gave start b id v next added it whole gone known =
      let begins : IsPrefix b.log next = (added, it.joined) in
      let begins' : IsPrefix v.front next = subst (λ (l : List I). IsPrefix l next) (sym whole) begins in
      let new : drop (length v.front) next ≡ added = ap (λ (l : List I). drop (length l) next) whole ∙ added_is number v.number b.log next added it in
      let mine : items_by number v.number next ≡ v.own ++ drop (length v.front) next = it.mine ∙ (ap (λ (l : List I). l ++ added) known.own.all ∙ ap (λ (l : List I). v.own ++ l) (sym new)) in
      record {
        seated = known.seated;
        below = known.below;
        opened = known.opened;
        front = prefix_self next;
        met = prefix_trans v.met v.front next known.met begins';
        own = record { seen = mine; all = mine };
        founds = λ first. let f = known.founds first in
            let on = gathered_stay v.number id b.gathered b.seat_of v.front b.log next added it known.seated known.front b.made gone f.2 in
            (f.0, f.1, λ k d l. let g = on k d l in record { seen = g.all; all = g.all });
      }

  -- the next ticket is served: the others wait on
  moved_up : (b : Book S I) (next : List I) (x : S) (id j : ℕ) (v u : V) → Stands b.log b.serving b.ticket b.holder b.slot id v → v.waits ≡ true → v.ticket ≡ b.serving → j ≢ id
      → Stands b.log b.serving b.ticket b.holder b.slot j u → Stands next (b.serving + 1) b.ticket b.holder (lies x) j u
  moved_up b next x id j v u stands waits now other stands' =
      let not_served : u.serves ≡ true → ⊥ = λ h. let t = stands'.serves h in alone b id j v u stands stands' waits now other t.0 t.1 in
      record {
        waits = λ w. let t = stands'.waits w in let ne : u.ticket ≢ b.serving = alone b id j v u stands stands' waits now other w in (omega arith, t.1, t.2);
        first = λ _ _. is_false u.serves not_served;
        serves = λ h. absurd (not_served h);
        shut = λ h. absurd (not_served (stands'.shut h).0);
      }

  pub serves : (opened : S) (slots id : ℕ) (v : V) (x : S) → v.serves ≡ true → v.shut ≡ false → v.spent ≡ false → AddsAtMostOne number v.number v.front (items x) → v.fixed ≡ Some (fixed x)
      → Allows (Rule opened) slots id (v, (0, Some x) ∷ []) 0 (λ n. (n + 1) % 18446744073709551616) (Serves number items (step slots 0 1 0 none) (v, (0, Some x) ∷ []))
  serves opened slots id v x turn unshut alive asked same_fixed s (b, kept) long at small =
      let w : V = given v (items x) in
      let known = (kept.each id v at alive).0 in
      let stands = (kept.each id v at alive).1 in
      let t = stands.serves turn in
      let added = adds number v.number b.log (items x) (subst (λ (l : List I). AddsAtMostOne number v.number l (items x)) t.2 asked) in
      let counted = count_set queues s.views id v w at in
      let lived = count_set lives s.views id v w at in
      let was : queues v ≡ true = ap (λ c. c && not v.spent) t.0 ∙ ap not alive in
      let mine = gave (fixed opened) b id v (items x) added.0 added.1 t.2 kept.gone known in
      let b' : Book S I = record b { log = items x; serving = b.serving + 1; slot = lies x } in
      let after : Kept number items fixed (fixed opened) b' record { words = set s.words 0 ((get_or s.words 0 0 + 1) % 18446744073709551616); homes = set s.homes 0 (some (Some x)); views = set s.views id w } = record {
        words = ap (λ (ws : List ℕ). set ws 0 ((get_or ws 0 0 + 1) % round)) kept.words ∙ ap (λ n. n ∷ b.ticket % round ∷ []) (next_ticket b.serving);
        homes = ap (λ (hs : List (mathlib.Core.Option.Option (Option S))). set hs 0 (some (Some x))) kept.homes;
        queue = let q = kept.queue in omega (arith, ap bit was);
        passes = let p = kept.passes in omega arith;
        few = kept.few;
        value = (refl, cc (same_fixed, known.opened));
        taken = λ e. absurd (cc (e));
        fresh = λ n le. added.1.others n (λ e. let l = known.below in omega arith) ∙ kept.fresh n le;
        gone = kept.gone;
        each = others_stay (λ j u. Knows number (fixed opened) (items x) b.made b.gathered b.seat_of j u × Stands (items x) (b.serving + 1) b.ticket b.holder (lies x) j u) s.views id w (
          mine,
          record {
            waits = λ e. absurd (cc (e));
            first = λ e. absurd (cc (e));
            serves = λ e. absurd (cc (e));
            shut = λ e. absurd (cc (unshut, e));
          },
        )
            (λ j u other at' alive'. let f = kept.each j u at' alive' in
            (longer_log (fixed opened) b id j v u (items x) added.0 added.1 known.seated other kept.gone f.0, moved_up b (items x) x id j v u stands t.0 t.1 other f.1));
      } in
      let fair : Fair number w = fair_log (fixed opened) b' record { words = set s.words 0 ((get_or s.words 0 0 + 1) % 18446744073709551616); homes = set s.homes 0 (some (Some x)); views = set s.views id w } id w after mine in
      (w, gives, tt, (b', after), λ y e. let x_is : x ≡ y = cc (ap in_hand e) in (ap (λ (z : S). let m : Sat S I F = (given v (items z), []) in m) x_is, subst (λ (z : S). Fair number (given v (items z))) x_is fair))

  -- Settle

  pub settles : (opened : S) (slots id : ℕ) (me : Sat S I F) → me.0.spent ≡ false → Allows (Rule opened) slots id me 0 (λ n. n) (Settled number (step slots 0 0 0 none) me)
  settles opened slots id me alive s (b, kept) long at small =
      let known = (kept.each id me.0 at alive).0 in
      (me.0, keeps, tt, (b, unchanged (fixed opened) b s 0 id me.0 at kept), (refl, known.met, fair_front (fixed opened) b s id me.0 kept known))

  -- Cut

  -- another pass knows the same after a split
  split_other : (start : F) (b : Book S I) (seat id j : ℕ) (v u : V) → v.number ≡ 0 → b.seat_of v.number ≡ Some id → j ≢ id
      → Knows number start b.log b.made b.gathered b.seat_of j u → Knows number start b.log (b.made + 1) b.gathered (put b.seat_of b.made (Some seat)) j u
  split_other start b seat id j v u first seated other known = record {
    seated = let l = known.below in put_else b.seat_of b.made (Some seat) u.number (λ e. omega arith) ∙ known.seated;
    below = let l = known.below in omega arith;
    opened = known.opened;
    front = known.front;
    met = known.met;
    own = known.own;
    founds = λ first'. absurd (other (some_same (sym known.seated ∙ (ap b.seat_of (first' ∙ sym first) ∙ seated))));
  }
    where
      some_same : Some j ≡ Some id → j ≡ id
      some_same e = cc

  split_founder : (start : F) (b : Book S I) (seat id : ℕ) (v : V) → v.number ≡ 0
      → Knows number start b.log b.made b.gathered b.seat_of id v → Knows number start b.log (b.made + 1) b.gathered (put b.seat_of b.made (Some seat)) id (with_one_more v)
  split_founder start b seat id v first known = record {
    seated = let l = known.below in put_else b.seat_of b.made (Some seat) v.number (λ e. omega arith) ∙ known.seated;
    below = let l = known.below in omega arith;
    opened = known.opened;
    front = known.front;
    met = known.met;
    own = known.own;
    founds = λ _. let f = known.founds first in (ap (λ (n : ℕ). n + 1) f.0, f.1, f.2);
  }

  split_new : (start : F) (b : Book S I) (seat id : ℕ) (v : V) → v.number ≡ 0 → items_by number b.made b.log ≡ []
      → Knows number start b.log b.made b.gathered b.seat_of id v → Knows number start b.log (b.made + 1) b.gathered (put b.seat_of b.made (Some seat)) seat (newcomer v)
  split_new start b seat id v first fresh known =
      let made : v.made ≡ b.made = (known.founds first).0 in
      let none : items_by number v.made b.log ≡ [] = ap (λ (n : ℕ). items_by number n b.log) made ∙ fresh in
      record {
        seated = ap (put b.seat_of b.made (Some seat)) made ∙ put_here b.seat_of b.made (Some seat);
        below = omega arith;
        opened = known.opened;
        front = known.front;
        met = (v.front, refl);
        own = record { seen = none_before number v.made v.front b.log known.front none; all = none };
        founds = λ zero'. absurd (let l = known.below in omega arith);
      }

  pub splits : (opened : S) (id : ℕ) (v : V) → v.number ≡ 0 → v.spent ≡ false → v.made + 1 < 18446744073709551616 → Splits (Rule opened) id v (with_one_more v) (newcomer v)
  splits opened id v first alive room s (b, kept) at =
      let w : V = with_one_more v in
      let new : V = newcomer v in
      let vs : List V = set s.views id w in
      let known = (kept.each id v at alive).0 in
      let stands = (kept.each id v at alive).1 in
      let made : v.made ≡ b.made = (known.founds first).0 in
      let queued = count_set queues s.views id v w at in
      let queued' = count_push queues vs new in
      let lived = count_set lives s.views id v w at in
      let lived' = count_push lives vs new in
      let seat_of : ℕ → Option ℕ = put b.seat_of b.made (Some (length vs)) in (
        record b { made = b.made + 1; seat_of = seat_of },
        record {
          words = kept.words;
          homes = kept.homes;
          queue = let q = kept.queue in omega arith;
          passes = let p = kept.passes in omega arith;
          few = omega arith;
          value = kept.value;
          taken = kept.taken;
          fresh = λ n le. kept.fresh n (omega arith);
          gone = λ k d l. let g = kept.gone k d l in (omega (arith, g.0), put_else b.seat_of b.made (Some (length vs)) _ (λ e. omega (arith, g.0)) ∙ g.1);
          each = λ j u at' alive'. ⊎_elim
              (λ old. others_stay (λ k y. Knows number (fixed opened) b.log (b.made + 1) b.gathered seat_of k y × Stands b.log b.serving b.ticket b.holder b.slot k y) s.views id w
              (split_founder (fixed opened) b (length vs) id v first known, record { waits = stands.waits; first = stands.first; serves = stands.serves; shut = stands.shut })
              (λ k y other at'' alive''. let f = kept.each k y at'' alive'' in (split_other (fixed opened) b (length vs) id k v y first known.seated other f.0, f.1))
              j u old alive')
              (λ (t : (new ≡ u) × (j ≡ length vs)). subst (λ (x : ℕ × V). Knows number (fixed opened) b.log (b.made + 1) b.gathered seat_of x.0 x.1 × Stands b.log b.serving b.ticket b.holder b.slot x.0 x.1) (λ i. (sym t.1 i, t.0 i))
              (split_new (fixed opened) b (length vs) id v first (kept.fresh b.made (omega arith)) known, record { waits = λ e. absurd (cc (e)); first = λ e. absurd (cc (e)); serves = λ e. absurd (cc (e)); shut = λ e. absurd (cc (e)) }))
              (at_end vs new u j at');
        },
      )

  -- Gather

  join_other : (start : F) (b : Book S I) (g : Gathered I) (id other j : ℕ) (v u y : V) → v.number ≡ 0 → b.seat_of v.number ≡ Some id → b.seat_of u.number ≡ Some other → j ≢ id → j ≢ other
      → Knows number start b.log b.made b.gathered b.seat_of j y → Knows number start b.log b.made (b.gathered ++ g ∷ []) (put b.seat_of u.number None) j y
  join_other start b g id other j v u y first seated seated' away' apart known = record {
    seated = put_else b.seat_of u.number None y.number (λ e. apart (some_same j other (sym known.seated ∙ (ap b.seat_of e ∙ seated')))) ∙ known.seated;
    below = known.below;
    opened = known.opened;
    front = known.front;
    met = known.met;
    own = known.own;
    founds = λ first'. absurd (away' (some_same j id (sym known.seated ∙ (ap b.seat_of (first' ∙ sym first) ∙ seated))));
  }
    where
      some_same : (i k : ℕ) → Some i ≡ Some k → i ≡ k
      some_same i k e = cc

  join_founder : (start : F) (b : Book S I) (id other : ℕ) (v u : V) → v.number ≡ 0 → other ≢ id → Knows number start b.log b.made b.gathered b.seat_of other u
      → Knows number start b.log b.made b.gathered b.seat_of id v
      → Knows number start b.log b.made (b.gathered ++ record { number = u.number; items = u.own } ∷ []) (put b.seat_of u.number None) id (gathering v u)
  join_founder start b id other v u first apart known' known =
      let g : Gathered I = record { number = u.number; items = u.own } in
      let fronts = longer_front v.front u.front b.log known.front known'.front in
      let f = known.founds first in
      let one = settles_on number v.number v.own v.front (longer v.front u.front) b.log fronts.2 fronts.0 known.own in
      let two : Settles number (longer v.front u.front) b.log g.number g.items = settles_on number u.number u.own u.front (longer v.front u.front) b.log fronts.3 fronts.0 known'.own in
      record {
        seated = put_else b.seat_of u.number None v.number (λ e. apart (some_same (sym known'.seated ∙ (ap b.seat_of (sym e) ∙ known.seated)))) ∙ known.seated;
        below = known.below;
        opened = known.opened;
        front = fronts.0;
        met = fronts.1;
        own = one;
        founds = λ _. (
          f.0,
          ap (λ (gs : List (Gathered I)). gs ++ g ∷ []) f.1,
          All-push (λ (h : Gathered I). Settles number (longer v.front u.front) b.log h.number h.items) b.gathered g (settles_all_on number b.gathered v.front (longer v.front u.front) b.log fronts.2 fronts.0 f.2) two,
        );
      }
    where
      some_same : Some other ≡ Some id → other ≡ id
      some_same e = cc

  pub joins : (opened : S) (id : ℕ) (v : V) (other : ℕ) (u : V) → v.number ≡ 0 → v.spent ≡ false → v.serves ≡ false → u.spent ≡ false → u.waits ≡ false
      → Joins (Rule opened) id v other u (gathering v u) gone_view
  joins opened id v other u first alive free alive' idle s (b, kept) at apart at' =
      let w : V = gathering v u in
      let g : Gathered I = record { number = u.number; items = u.own } in
      let vs : List V = set s.views id w in
      let there : get_elem? s.views other ≡ some u = sym (set_else s.views id other w apart) ∙ at' in
      let known = (kept.each id v at alive).0 in
      let stands = (kept.each id v at alive).1 in
      let known' = (kept.each other u there alive').0 in
      let queued = count_set queues s.views id v w at in
      let queued' = count_set queues vs other u gone_view at' in
      let lived = count_set lives s.views id v w at in
      let lived' = count_set lives vs other u gone_view at' in
      let was : queues u ≡ false = ap (λ c. c && not u.spent) idle in
      let lived_there : lives u ≡ true = ap not alive' in
      let seat_of : ℕ → Option ℕ = put b.seat_of u.number None in
      let P : ℕ → V → Type 0 = λ j y. Knows number (fixed opened) b.log b.made (b.gathered ++ g ∷ []) seat_of j y × Stands b.log b.serving b.ticket b.holder b.slot j y in (
        record b { gathered = b.gathered ++ g ∷ []; seat_of = seat_of },
        record {
          words = kept.words;
          homes = kept.homes;
          queue = let q = kept.queue in omega (arith, ap bit was);
          passes = let p = kept.passes in omega (arith, ap bit lived_there, length-append b.gathered (g ∷ []));
          few = kept.few;
          value = kept.value;
          taken = kept.taken;
          fresh = kept.fresh;
          gone = All-push (λ (h : Gathered I). (h.number < b.made) × (seat_of h.number ≡ None)) b.gathered g
              (λ k d l. let h = kept.gone k d l in (h.0, put_clear b.seat_of u.number None _ h.1)) (known'.below, put_here b.seat_of u.number None);
          each = λ j y at'' alive''. ⊎_elim
              (λ (t : (j ≡ other) × (gone_view ≡ y)). absurd (cc (ap (λ (z : V). z.spent) t.1, alive'')))
              (λ (t : (j ≢ other) × (get_elem? vs j ≡ some y)). ⊎_elim
              (λ (t' : (j ≡ id) × (w ≡ y)). subst (λ (x : ℕ × V). P x.0 x.1) (λ i. (sym t'.0 i, t'.1 i))
              (join_founder (fixed opened) b id other v u first apart known' known, record { waits = stands.waits; first = stands.first; serves = λ e. absurd (cc (free, e)); shut = stands.shut }))
              (λ (t' : (j ≢ id) × (get_elem? s.views j ≡ some y)). let f = kept.each j y t'.1 alive'' in
              (join_other (fixed opened) b g id other j v u y first known.seated known'.seated t'.0 t.0 f.0, f.1))
              (at_set s.views id j w y t.1))
              (at_set vs other j gone_view y at'');
        },
      )

  -- Shut

  shut_other : (b : Book S I) (id j : ℕ) (v u : V) → Stands b.log b.serving b.ticket b.holder b.slot id v → v.waits ≡ true → v.ticket ≡ b.serving → j ≢ id
      → Stands b.log b.serving b.ticket b.holder b.slot j u → Stands {S = S} b.log b.serving b.ticket b.holder empty j u
  shut_other b id j v u stands waits now other stands' = record {
    waits = stands'.waits;
    first = λ w e. absurd (alone b id j v u stands stands' waits now other w e);
    serves = stands'.serves;
    shut = λ h. ((stands'.shut h).0, refl);
  }

  shuts_idle : (opened : S) (slots id : ℕ) (v : V) → v.serves ≡ false → v.shut ≡ false → v.spent ≡ false → Allows (Rule opened) slots id (v, []) 0 (λ n. n) (Shuts {S = S} (step slots 0 0 0 none) (v, []))
  shuts_idle opened slots id v free unshut alive s (b, kept) long at small =
      let w : V = closing v in
      let same : v ≡ w = ap (λ (c : Bool). record v { shut = c }) (unshut ∙ sym free) in
      let kept' = unchanged (fixed opened) b s 0 id v at kept in
      (w, gives, tt, (b, subst (λ (y : V). Kept number items fixed (fixed opened) b record { words = set s.words 0 (get_or s.words 0 0); homes = s.homes; views = set s.views id y }) same kept'), refl)

  shuts_taken : (opened : S) (slots id : ℕ) (v : V) → v.serves ≡ true → v.spent ≡ false → Allows (Rule opened) slots id (v, (0, None) ∷ []) 0 (λ n. n) (Shuts (step slots 0 0 0 none) (v, (0, None) ∷ []))
  shuts_taken opened slots id v turn alive s (b, kept) long at small =
      let w : V = closing v in
      let known = (kept.each id v at alive).0 in
      let stands = (kept.each id v at alive).1 in
      let t = stands.serves turn in
      let counted = count_set queues s.views id v w at in
      let lived = count_set lives s.views id v w at in (
        w,
        gives,
        tt,
        (
          record b { slot = empty },
          record {
            words = set-get_or s.words 0 0 ∙ kept.words;
            homes = ap (λ (hs : List (mathlib.Core.Option.Option (Option S))). set hs 0 (some None)) kept.homes;
            queue = let q = kept.queue in omega arith;
            passes = let p = kept.passes in omega arith;
            few = kept.few;
            value = tt;
            taken = λ _. let h = stands.waits t.0 in omega arith;
            fresh = kept.fresh;
            gone = kept.gone;
            each = others_stay (λ j u. Knows number (fixed opened) b.log b.made b.gathered b.seat_of j u × Stands {S = S} b.log b.serving b.ticket b.holder empty j u) s.views id w (
              moved (fixed opened) b.log b.made b.gathered b.seat_of id v v.ticket v.waits v.serves v.serves known,
              record {
                waits = stands.waits;
                first = λ _ _. turn;
                serves = stands.serves;
                shut = λ e. (e, refl);
              },
            )
                (λ j u other at' alive'. let f = kept.each j u at' alive' in (f.0, shut_other b id j v u stands t.0 t.1 other f.1));
          },
        ),
        refl,
      )

  pub shuts : (opened : S) (slots id : ℕ) (me : Sat S I F) → me.1 ≡ carried me.0.serves → me.0.shut ≡ false → me.0.spent ≡ false → Allows (Rule opened) slots id me 0 (λ n. n) (Shuts (step slots 0 0 0 none) me)
  shuts opened slots id me slot unshut alive = subst (λ (c : List (ℕ × Option S)). Allows (Rule opened) slots id (me.0, c) 0 (λ n. n) (Shuts (step slots 0 0 0 none) (me.0, c))) (sym slot) (go me.0.serves refl)
    where
      go : (b : Bool) → me.0.serves ≡ b → Allows (Rule opened) slots id (me.0, carried b) 0 (λ n. n) (Shuts (step slots 0 0 0 none) (me.0, carried b))
      go true turn = shuts_taken opened slots id me.0 turn alive
      go false free = shuts_idle opened slots id me.0 free unshut alive

  -- The beginning and the end

  pub opens : (opened : S) → All (λ item. number item ≡ 0) (items opened) → Rule opened (opening (0 ∷ 0 ∷ []) (Some opened ∷ []) (founding (items opened) (fixed opened)))
  opens opened own =
      let own' = recursion_from_All (λ item. number item ≡ 0) (items opened) own in
      let all : items_by number 0 (items opened) ≡ items opened = by_same number 0 (items opened) own' in
      let v : V = founding (items opened) (fixed opened) in (
        record { log = items opened; serving = 0; ticket = 0; made = 1; gathered = []; seat_of = λ _. Some 0; holder = λ _. 0; slot = lies opened },
        record {
          words = refl;
          homes = refl;
          queue = refl;
          passes = refl;
          few = omega arith;
          value = (refl, refl);
          taken = λ e. absurd (cc (e));
          fresh = λ n le. by_other number 0 n (items opened) (λ e. omega arith) own';
          gone = All-nil (λ (g : Gathered I). (g.number < 1) × (Some 0 ≡ None));
          each = λ j u at alive. ⊎_elim
              (λ (t : (j ≡ 0) × (v ≡ u)). subst (λ (x : ℕ × V). Knows number (fixed opened) (items opened) 1 [] (λ _. Some 0) x.0 x.1 × Stands (items opened) 0 0 (λ _. 0) (lies opened) x.0 x.1) (λ i. (sym t.0 i, t.1 i)) (
                record {
                  seated = refl;
                  below = omega arith;
                  opened = refl;
                  front = prefix_self (items opened);
                  met = (items opened, refl);
                  own = record { seen = all; all = all };
                  founds = λ _. (refl, refl, All-nil (λ (g : Gathered I). Settles number (items opened) (items opened) g.number g.items));
                },
                record { waits = λ e. absurd (cc (e)); first = λ e. absurd (cc (e)); serves = λ e. absurd (cc (e)); shut = λ e. absurd (cc (e)) },
              ))
              (λ (t : (j ≢ 0) × (get_elem? (v ∷ []) j ≡ some u)). absurd (beyond j u t.0 t.1))
              (at_set (v ∷ []) 0 j v u at);
        },
      )
    where
      beyond : (j : ℕ) (u : V) → j ≢ 0 → get_elem? (founding (items opened) (fixed opened) ∷ []) j ≡ some u → ⊥
      beyond zero u other e = other refl
      beyond (suc j) u other e = some-ne-none u (sym e)

  -- the founding pass holds the turn: the slot is empty
  pub ends_shut : (opened : S) (id : ℕ) (v : V) (words : List ℕ) (slots : List (Option S)) → v.shut ≡ true → v.spent ≡ false → Final (Seen (Rule opened) id v) words slots → get_elem? slots 0 ≡ some None
  ends_shut opened id v words slots shut alive (s, ((b, kept), at), same, long, values) =
      let e = ((kept.each id v at alive).1.shut shut).1 in
      values 0 None (ap (λ (hs : List (mathlib.Core.Option.Option (Option S))). get_elem? hs 0) (kept.homes ∙ ap (λ (slot : Slot S). home_of slot ∷ []) e))

  -- all others were joined, and no turn is held: the value stands for a log that the front begins
  abbrev StoodFor : V → List (Option S) → Type 0
  StoodFor v slots = (x : S) × (get_elem? slots 0 ≡ some (Some x)) × (v.fixed ≡ Some (fixed x)) × IsPrefix v.front (items x) × Accounts number v.number v.own v.made v.gathered (items x)

  pub ends_home : (opened : S) (id : ℕ) (v : V) (words : List ℕ) (slots : List (Option S)) → v.number ≡ 0 → v.waits ≡ false → v.spent ≡ false → length v.gathered + 1 ≡ v.made
      → Final (Seen (Rule opened) id v) words slots → StoodFor v slots
  ends_home opened id v words slots first idle alive all (s, ((b, kept), at), same, long, values) =
      let known = (kept.each id v at alive).0 in
      let f = known.founds first in
      let q = kept.queue in
      let p = kept.passes in
      let short = queue_shorter s.views id v at (ap (λ c. c && not v.spent) idle) (ap not alive) in
      let joined : length v.gathered ≡ length b.gathered = ap length f.1 in
      let home = at_home b.slot (is_false (is_taken b.slot) (λ t. let h = kept.taken t in omega (arith, f.0))) in
      let x : S = home.0 in
      let value : (items x ≡ b.log) × (fixed x ≡ fixed opened) = subst (StandsFor items fixed b.log (fixed opened)) home.1 kept.value in (
        x,
        values 0 (Some x) (ap (λ (hs : List (mathlib.Core.Option.Option (Option S))). get_elem? hs 0) (kept.homes ∙ ap (λ (slot : Slot S). home_of slot ∷ []) home.1)),
        known.opened ∙ ap (λ (f' : F). Some f') (sym value.1),
        subst (IsPrefix v.front) (sym value.0) known.front,
        subst (Accounts number v.number v.own v.made v.gathered) (sym value.0) (fair_log (fixed opened) b s id v kept known),
      )

  -- what the slot has at the end: nothing where the turn is held, else the value
  abbrev pub Closes : V → Option S → Type 0
  Closes v None = v.serves ≡ true
  Closes v (Some x) = (v.serves ≡ false) × (v.fixed ≡ Some (fixed x)) × IsPrefix v.front (items x) × Accounts number v.number v.own v.made v.gathered (items x)

  pub closes : (opened : S) (id : ℕ) (v w : V) (words : List ℕ) (slots : List (Option S)) (result : Option S) → v.number ≡ 0 → v.waits ≡ v.serves → v.spent ≡ false → length v.gathered + 1 ≡ v.made
      → w ≡ closing v → Final (Seen (Rule opened) id w) words slots → get_elem? slots 0 ≡ some result → Closes v result
  closes opened id v w words slots result first waits alive all last end' found = go v.serves refl
    where
      end : Final (Seen (Rule opened) id (closing v)) words slots
      end = subst (λ (u : V). Final (Seen (Rule opened) id u) words slots) last end'

      go : (b : Bool) → v.serves ≡ b → Closes v result
      go true turn = subst (Closes v) (some-injective None result (sym (ends_shut opened id (closing v) words slots turn alive end) ∙ found)) turn
      go false free =
          let home = ends_home opened id (closing v) words slots first (waits ∙ free) alive all end in
          subst (Closes v) (some-injective (Some home.0) result (sym home.1 ∙ found)) (free, home.2, home.3, home.4)

  pub closes_none : (v : V) (result : Option S) → Closes v result → (IsNone result → IsTrue v.serves) × (IsTrue v.serves → IsNone result)
  closes_none v None end = ((λ _. end), (λ _. refl))
  closes_none v (Some x) end = ((λ e. absurd (cc (e))), (λ turn. absurd (cc (turn, end.0))))

  pub closes_some : (v : V) (result : Option S) (P : S → Type 0) → ((x : S) → Closes v (Some x) → P x) → Closes v result → IfSome result P
  closes_some v None P holds end = tt
  closes_some v (Some x) P holds end = holds x end
