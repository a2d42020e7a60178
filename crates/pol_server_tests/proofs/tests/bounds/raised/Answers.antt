use Rattle.std.proofs.Common.{◌≡◌, ◌≤◌, ◌^◌, ℕ, List, [], ◌∷◌, None, arith, ap, refl, subst, sym, lit≤, ◌∙◌}
use Rattle.std.proofs.lemmas.Bool.{le-ltb}
use Rattle.pol_commands.specs.declared.reply.Quantity.TheVariants as quantity
use Rattle.pol_commands.specs.declared.reply.Refusal.TheVariants.{Limit}
use Rattle.pol_state.specs.Applied.{applied, HasRoom}
use Rattle.pol_state.specs.Bounds.{above, first_refusal, over_limit, refuse_if}
use Rattle.pol_state.specs.Rows.{fresh_state, Room}
use Rattle.pol_state.specs.Sound.{IsSound}
use Rattle.pol_content.specs.declared.change.Change.{Change}
use Rattle.pol_content.specs.declared.change.Change.TheVariants.{NextSerial}
use Rattle.pol_state.proofs.FreshLemmas.{fresh-sound}
use Rattle.pol_server_tests.proofs.tests.bounds.raised.Goals as goal

-- the fresh state with another next serial is within each bound where that is: no table and no view has a version
serial-limit : (secret : List ℕ) (serial charged : ℕ) → over_limit (applied (NextSerial serial ∷ []) 0 charged (fresh_state secret)) ≡ first_refusal (above quantity.NextSerial serial ∷ None ∷ None ∷ [])
unfolding fresh_state over_limit
serial-limit secret serial charged = refl

raised-sound : (secret : List ℕ) (serial charged : ℕ) → serial ≤ 2 ^ 62 → charged ≤ 2 ^ 30 → IsSound (applied (NextSerial serial ∷ []) 0 charged (fresh_state secret))
unfolding fresh_state
raised-sound secret serial charged bound within = record {
  orderly = record {
    access = (fresh-sound secret).orderly.access;
    content = (fresh-sound secret).orderly.content;
    ties = (fresh-sound secret).orderly.ties;
    tokens = record { sessions_rise = (fresh-sound secret).orderly.tokens.sessions_rise; sessions = tt; tokens_rise = (fresh-sound secret).orderly.tokens.tokens_rise; tokens = tt; serials_differ = tt };
    tokens_fit = tt;
    time_bound = lit≤ tt;
    charged_bound = omega (arith, within);
  };
  within = serial-limit secret serial charged ∙ ap (λ over. first_refusal (refuse_if over (Limit quantity.NextSerial (2 ^ 62)) ∷ None ∷ None ∷ [])) (le-ltb (2 ^ 62) serial bound);
}

no-room : (serial : ℕ) (room : Room) → HasRoom (NextSerial serial ∷ []) room
no-room serial room = record {
  principals = omega arith;
  principal_roles = omega arith;
  catalogs = omega arith;
  catalog_roles = omega arith;
  namespaces = omega arith;
  tables = omega arith;
  views = omega arith;
  members = omega arith;
  joins = omega arith;
  grants = omega arith;
  sessions = omega arith;
  tokens = omega arith;
}

pub apply-requires-clause-sound : goal.apply-requires-clause-sound
apply-requires-clause-sound c =
    let changes : c.in_ok-changes.changes.items ≡ NextSerial c.args.serial ∷ [] = c.in_ok-changes.ensures.items in
    let is = ap (λ (changes : List Change). applied changes 0 c.args.charged c.in_ok-state.state.rows) changes ∙ ap (applied (NextSerial c.args.serial ∷ []) 0 c.args.charged) c.in_ok-state.ensures.rows in
    subst IsSound (sym is) (raised-sound _ c.args.serial c.args.charged c.requires.serial c.requires.charged)

pub apply-requires-clause-room : goal.apply-requires-clause-room
apply-requires-clause-room c =
    let changes : c.in_ok-changes.changes.items ≡ NextSerial c.args.serial ∷ [] = c.in_ok-changes.ensures.items in
    subst (λ (changes : List Change). HasRoom changes c.in_ok-state.state.room) (sym changes) (no-room c.args.serial c.in_ok-state.state.room)
