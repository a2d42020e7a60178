-- The seat of a pass between two calls, and while it waits.
use Rattle.std.proofs.Common.{◌≡◌, ℕ, ◌%◌, true, false, List, [], Option, All, sym, subst, arith}
use Rattle.std.proofs.lemmas.List.Elements.{All-nil, recursion_from_All}
use Rattle.atomic_table.specs.declared.shared.Seat.{Seat}
use Rattle.pol_turn.specs.declared.view.Gathered.{Gathered}
use Rattle.pol_turn.specs.declared.view.View.{View}
use Rattle.pol_turn.specs.Known.{Known, items_by}
use Rattle.pol_turn.specs.Rule.{IsAtRest, carried, founding, known, round}
use Rattle.pol_turn.specs.Steps.{Fair, Sat}
use Rattle.pol_turn.proofs.Fronts.{by_same, by_other}

module _ {S I F : Type 0} (number : I → ℕ) where
  -- what the seat has after the last step of a call
  pub rests : (n made : ℕ) (seat : Seat (Option S) (View I F)) (v : View I F) (carry : List (ℕ × Option S)) → seat.me ≡ (v, carry) → carry ≡ carried v.serves
      → v.number ≡ n → v.made ≡ made → v.waits ≡ v.serves → v.shut ≡ false → v.spent ≡ false → Fair number v → IsAtRest number n made seat
  rests n made seat v carry is slot numbered counted waits shut spent fair = record {
    numbered = subst (λ (m : Sat S I F). m.0.number ≡ n) (sym is) numbered;
    counted = subst (λ (m : Sat S I F). m.0.made ≡ made) (sym is) counted;
    waits = subst (λ (m : Sat S I F). m.0.waits ≡ m.0.serves) (sym is) waits;
    shut = subst (λ (m : Sat S I F). m.0.shut ≡ false) (sym is) shut;
    spent = subst (λ (m : Sat S I F). m.0.spent ≡ false) (sym is) spent;
    slot = subst (λ (m : Sat S I F). m.1 ≡ carried m.0.serves) (sym is) slot;
    fair = subst (λ (m : Sat S I F). Fair number m.0) (sym is) fair;
  }

module _ {I F : Type 0} (number : I → ℕ) where
  pub founding_fair : (log : List I) (start : F) → All (λ item. number item ≡ 0) log → Fair number (founding log start)
  founding_fair log start own =
      let own' = recursion_from_All (λ item. number item ≡ 0) log own in
      record {
        of_pass = by_same number 0 log own';
        of_joined = λ _. All-nil (λ (g : Gathered I). items_by number g.number log ≡ g.items);
        of_none = λ _ n le. by_other number 0 n log (λ e. omega arith) own';
      }

module _ {S I F : Type 0} where
  -- the pass has drawn a ticket, which the word had modulo 2^64, and knows no more than before
  pub record Waits (n made ticket : ℕ) (pass : Known I F) (seat : Seat (Option S) (View I F)) : Type 0 where
    pub same : known seat ≡ pass
    pub numbered : seat.me.0.number ≡ n
    pub counted : seat.me.0.made ≡ made
    pub waits : seat.me.0.waits ≡ true
    pub serves : seat.me.0.serves ≡ false
    pub shut : seat.me.0.shut ≡ false
    pub spent : seat.me.0.spent ≡ false
    pub slot : seat.me.1 ≡ []
    pub drawn : seat.me.0.ticket % round ≡ ticket
