-- The rows after an action, at the time of its command, are orderly.
use Rattle.std.proofs.Common.{◌≡◌, ℕ, ◌+◌, ◌≤◌, ◌^◌, Bool, true, false, cond, None, Some, refl, sym, subst, arith, nat_lt, Option, List}
use Rattle.std.proofs.lemmas.Bool.{ltb-false}
use Rattle.std.specs.List.{AllByRecursion}
use Rattle.pol_access.specs.Access.{AccessRows, principal_id}
use Rattle.pol_access.proofs.SoundLemmas.{given-later}
use Rattle.pol_tables.specs.Rising.{KeysBelow}
use Rattle.pol_tables.specs.Table.{knows}
use Rattle.pol_tables.proofs.ListLemmas.{each-weaken}
use Rattle.pol_tables.proofs.NumberedLemmas.{below-next}
use Rattle.pol_tables.proofs.RisingLemmas.{knows-below}
use Rattle.pol_content.specs.Content.{ContentRows}
use Rattle.pol_content.specs.Sound.{IsSoundContent}
use Rattle.pol_content.proofs.SoundLemmas.{more_ids}
use Rattle.pol_tokens.specs.Tokens.{TokenRows}
use Rattle.pol_names.specs.declared.scope.Scope.{Scope}
use Rattle.pol_names.specs.declared.scope.Scope.TheVariants as scope
use Rattle.pol_commands.specs.declared.command.Command.{Command}
use Rattle.pol_commands.specs.declared.reply.Refusal.TheVariants.{RunFull}
use Rattle.pol_state.specs.Rows.{Rows}
use Rattle.pol_state.specs.Sound.{AreNumbered, AreTied, IsGiven, IsOrderly, IsSessionOf, IsSound, IsSoundAccess, IsSoundTokens, IsTokenOf, FitsTable, NamesGiven}
use Rattle.pol_rules.specs.Acting.{stamped, done}
use Rattle.pol_rules.specs.Rules.{run_full, time_of}
use Rattle.pol_rules.proofs.FoundLemmas.{found-holds}

-- the bounds of a command's time and charge
pub record IsWithin (s : Rows) (command : Command) : Type 0 where
  pub time : time_of s command ≤ 2 ^ 62
  pub charged : s.charged + command.charge ≤ 2 ^ 30

pub within-bounds : (s : Rows) (command : Command) → IsSound s → command.moment ≤ 2 ^ 62 → run_full s command.charge ≡ None → IsWithin s command
unfolding run_full
within-bounds s command sound moment open_ = record {
  time = omega (arith, sound.orderly.time_bound, moment);
  charged = by (nat_lt (2 ^ 30) (s.charged + command.charge)) refl open_;
}
  where
    by : (b : Bool) → nat_lt (2 ^ 30) (s.charged + command.charge) ≡ b → cond b (Some (RunFull s.charged command.charge)) None ≡ None → s.charged + command.charge ≤ 2 ^ 30
    by true is contrary = cc
    by false is none = ltb-false (2 ^ 30) (s.charged + command.charge) is

-- the same rows at the command's time are orderly
pub stamped-orderly : (s : Rows) (command : Command) → IsOrderly s → IsWithin s command → IsOrderly (stamped s command s)
stamped-orderly s command orderly within = record {
  access = orderly.access;
  content = orderly.content;
  ties = orderly.ties;
  tokens = orderly.tokens;
  tokens_fit = orderly.tokens_fit;
  time_bound = within.time;
  charged_bound = within.charged;
}

-- more ids keep sessions sound
names-later : (low high : ℕ) (scope : Scope) → low ≤ high → NamesGiven low scope → NamesGiven high scope
names-later low high scope.All more given = tt
names-later low high (scope.Roles roles) more given =
    each-weaken (IsGiven low) (IsGiven high) roles (λ id here. given-later low high id more here) given

later-tokens : (low high serial : ℕ) (tokens : TokenRows) → low ≤ high → IsSoundTokens low serial tokens → IsSoundTokens high serial tokens
later-tokens low high serial tokens more sound = record {
  sessions_rise = sound.sessions_rise;
  sessions = each-weaken (IsSessionOf low serial) (IsSessionOf high serial) tokens.sessions (λ row known. record { below = known.below; principal = given-later low high row.principal more known.principal; scope = names-later low high row.scope more known.scope }) sound.sessions;
  tokens_rise = sound.tokens_rise;
  tokens = each-weaken (IsTokenOf low serial) (IsTokenOf high serial) tokens.tokens (λ row known. record { below = known.below; principal = given-later low high row.principal more known.principal; table = given-later low high row.table more known.table }) sound.tokens;
  serials_differ = sound.serials_differ;
}

-- other rows of access and content, with more ids given out, are orderly at the command's time
pub tables-orderly : (s : Rows) (command : Command) (access : AccessRows) (content : ContentRows) (next_id : ℕ) → IsSound s → IsWithin s command → s.next_id ≤ next_id → IsSoundAccess next_id access → IsSoundContent next_id content → AreTied access content → AllByRecursion (FitsTable content.tables) s.tokens.tokens
    → IsOrderly (stamped s command (record s { access = access; content = content; next_id = next_id }))
tables-orderly s command access content next_id sound within more access_sound content_sound tied fit = record {
  access = access_sound;
  content = content_sound;
  ties = tied;
  tokens = later-tokens s.next_id next_id s.next_serial s.tokens more sound.orderly.tokens;
  tokens_fit = fit;
  time_bound = within.time;
  charged_bound = within.charged;
}

-- some id was given out
pub next_id-some : (s : Rows) → IsSound s → 1 ≤ s.next_id
next_id-some s sound =
    let chain = sound.orderly.access.root_chain in
    let given = found-holds (λ row. IsGiven s.next_id (principal_id row)) _ s.access.principals chain.root sound.orderly.access.principals.given chain.root_there in
    omega (arith, given.0, given.1)

-- the next id is new among rows that were numbered
pub next-new : {R : Type 0} (key : R → ℕ) (next_id id : ℕ) (rows : List R) → AreNumbered key next_id rows → id ≡ next_id → knows key id rows ≡ false
next-new key next_id id rows numbered is =
    knows-below key id rows (subst (λ high. KeysBelow key high rows) (sym is) (below-next key next_id rows numbered))

module _ (s : Rows) (command : Command) (sound : IsSound s) (within : IsWithin s command) where
  -- an action on what it found
  pub orderly-done : {A : Type 0} (found : Option A) (after : A → Rows) → ((one : A) → found ≡ Some one → IsOrderly (stamped s command (after one))) → IsOrderly (stamped s command (done s found after))
  orderly-done None after so = stamped-orderly s command sound.orderly within
  orderly-done (Some one) after so = so one refl

  -- other rows of access are orderly at the command's time, and so are they with one more id given out
  pub access-orderly : (after : AccessRows) → IsSoundAccess s.next_id after → AreTied after s.content → IsOrderly (stamped s command (record s { access = after }))
  access-orderly after kept tied_after =
      tables-orderly s command after s.content s.next_id sound within (omega arith) kept sound.orderly.content tied_after sound.orderly.tokens_fit

  pub new-access-orderly : (after : AccessRows) → IsSoundAccess (s.next_id + 1) after → AreTied after s.content → IsOrderly (stamped s command (record s { access = after; next_id = s.next_id + 1 }))
  new-access-orderly after kept tied_after =
      tables-orderly s command after s.content (s.next_id + 1) sound within (omega arith) kept (more_ids s.next_id (s.next_id + 1) s.content (omega arith) sound.orderly.content) tied_after sound.orderly.tokens_fit
