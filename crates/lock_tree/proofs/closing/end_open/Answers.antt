use Rattle.std.proofs.Common.{◌≡◌, ap, sym, subst, length, ◌+◌, ◌≤◌}
use Rattle.std.specs.Prelude.{unwrap_or}
use Rattle.lock_needs.specs.Party.{Party}
use Rattle.lock_tree_laws.specs.Forest.{idle, party_of}
use Rattle.lock_tree_laws.specs.Parties.{IsKept, wanting, resting}
use Rattle.lock_tree_laws.specs.Order.{StandsByNeeds}
use Rattle.lock_tree_laws.proofs.Opened.{as-open}
use Rattle.lock_tree.proofs.closing.end_open.Goals as goal

pub end_want-requires-clause-kept : goal.end_want-requires-clause-kept
end_want-requires-clause-kept c =
    let is : c.in-Some.party.now ≡ party_of c.args.parties.now.entries c.args.owner = ap (λ x. unwrap_or x idle) c.in-Some.ensures.value in
    subst (λ (p : Party). IsKept c.args.locks.now c.args.owner (wanting p.needs c.args.want)) (sym is)
    (subst (IsKept c.args.locks.now c.args.owner) (as-open (party_of c.args.parties.now.entries c.args.owner) c.args.want c.requires.opened) c.requires.kept)

pub end_want-requires-clause-room : goal.end_want-requires-clause-room
end_want-requires-clause-room c = subst (λ (p : Party). length p.needs ≤ c.args.locks.now.spare) (sym (ap (λ x. unwrap_or x idle) c.in-Some.ensures.value)) c.requires.room

pub returns-clause-kept : goal.returns-clause-kept
returns-clause-kept c =
    let is : c.in-Some.party.now ≡ party_of c.args.parties.now.entries c.args.owner = ap (λ x. unwrap_or x idle) c.in-Some.ensures.value in
    subst (IsKept c.end_want.new.locks c.args.owner) (sym c.close_for.ensures.own)
    (subst (λ (p : Party). IsKept c.end_want.new.locks c.args.owner (resting p.needs)) is c.end_want.ensures.ended)

pub returns-clause-rests : goal.returns-clause-rests
returns-clause-rests c = λ s.
    let is : c.in-Some.party.now ≡ party_of c.args.parties.now.entries c.args.owner = ap (λ x. unwrap_or x idle) c.in-Some.ensures.value in
    subst (StandsByNeeds c.end_want.new.locks c.args.owner) (sym c.close_for.ensures.own)
    (subst (λ (p : Party). StandsByNeeds c.end_want.new.locks c.args.owner (resting p.needs)) is
    (c.end_want.ensures.rests (subst (λ (p : Party). StandsByNeeds c.args.locks.now c.args.owner (wanting p.needs c.args.want)) (sym is)
    (subst (StandsByNeeds c.args.locks.now c.args.owner) (as-open (party_of c.args.parties.now.entries c.args.owner) c.args.want c.requires.opened) s))))

pub returns-clause-spare : goal.returns-clause-spare
returns-clause-spare c = subst (λ (p : Party). c.args.locks.now.spare ≤ c.end_want.new.locks.spare + length p.needs) (ap (λ x. unwrap_or x idle) c.in-Some.ensures.value) c.end_want.ensures.spare
