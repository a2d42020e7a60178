-- Facts that may be put or dropped keep a state sound.
use Rattle.std.proofs.Common.{sym, subst, ◌∙◌}
use Rattle.pol_content.specs.declared.change.Change.{Change}
use Rattle.pol_access_steps.specs.Counters.{counted}
use Rattle.pol_access_steps.proofs.FactLemmas.{dropped_grant-sound, dropped_join-sound, dropped_member-sound, put_grant-sound, put_join-sound, put_member-sound}
use Rattle.pol_state.specs.Applied.{changed}
use Rattle.pol_state.specs.Sound.{IsSound}
use Rattle.pol_access_steps.proofs.facts.is_sound_fact.Goals as goal

pub returns-in-PutMember : goal.returns-in-PutMember
returns-in-PutMember c =
    let s = c.args.state.now.rows in
    λ passes. subst (λ (change : Change). IsSound (changed (counted s c.args.counters) change)) (sym c.in-PutMember.is)
    (put_member-sound s c.requires.sound c.args.counters c.requires.follows c.in-PutMember.row (sym c.may_put_member.ensures ∙ passes))

pub returns-in-DropMember : goal.returns-in-DropMember
returns-in-DropMember c =
    let s = c.args.state.now.rows in
    λ passes. subst (λ (change : Change). IsSound (changed (counted s c.args.counters) change)) (sym c.in-DropMember.is)
    (dropped_member-sound s c.requires.sound c.args.counters c.requires.follows c.in-DropMember.row (sym c.may_drop_member.ensures ∙ passes))

pub returns-in-PutJoin : goal.returns-in-PutJoin
returns-in-PutJoin c =
    let s = c.args.state.now.rows in
    λ passes. subst (λ (change : Change). IsSound (changed (counted s c.args.counters) change)) (sym c.in-PutJoin.is)
    (put_join-sound s c.requires.sound c.args.counters c.requires.follows c.in-PutJoin.row (sym c.may_put_join.ensures ∙ passes))

pub returns-in-DropJoin : goal.returns-in-DropJoin
returns-in-DropJoin c =
    let s = c.args.state.now.rows in
    λ passes. subst (λ (change : Change). IsSound (changed (counted s c.args.counters) change)) (sym c.in-DropJoin.is)
    (dropped_join-sound s c.requires.sound c.args.counters c.requires.follows c.in-DropJoin.row (sym c.may_drop_join.ensures ∙ passes))

pub returns-in-PutGrant : goal.returns-in-PutGrant
returns-in-PutGrant c =
    let s = c.args.state.now.rows in
    λ passes. subst (λ (change : Change). IsSound (changed (counted s c.args.counters) change)) (sym c.in-PutGrant.is)
    (put_grant-sound s c.requires.sound c.args.counters c.requires.follows c.in-PutGrant.row (sym c.may_put_grant.ensures ∙ passes))

pub returns-in-DropGrant : goal.returns-in-DropGrant
returns-in-DropGrant c =
    let s = c.args.state.now.rows in
    λ passes. subst (λ (change : Change). IsSound (changed (counted s c.args.counters) change)) (sym c.in-DropGrant.is)
    (dropped_grant-sound s c.requires.sound c.args.counters c.requires.follows c.in-DropGrant.row (sym c.may_drop_grant.ensures ∙ passes))
