use Rattle.std.proofs.Common.{refl, ap, subst, arith}
use Rattle.std.specs.Prelude.{Option, is_some}
use Rattle.lock_needs.specs.declared.party.OpenWant.{OpenWant}
use Rattle.lock_needs.specs.Party.{Party}
use Rattle.lock_tree_laws.specs.Parties.{IsKept, resting}
use Rattle.lock_tree_laws.specs.Forest.{State, party_of}
use Rattle.lock_tree_laws.specs.Order.{StandsByNeeds}
use Rattle.lock_tree.specs.States.{state_of}
use Rattle.lock_tree_laws.specs.Wanted.{needs_of}
use Rattle.lock_tree_laws.proofs.KeptPlaces.{open-owner, places-freed, room-own}
use Rattle.lock_tree_laws.proofs.Whole.{least-of, whole-ended}
use Rattle.lock_tree_laws.proofs.OpenAsks.{opened-ended}
use Rattle.lock_tree_laws.proofs.MeasureFalls.{way-leaves}
use Rattle.lock_tree.proofs.parts.Parts.close_want.Goals as goal

pub returns-clause-whole : goal.returns-clause-whole
returns-clause-whole c =
    let s : State = state_of c.args.self.now in
    let r : State = record { table = c.end_open.new.locks; parties = c.end_open.new.parties.entries; trail = c.args.self.now.trail.items } in
    let o = c.args.owner in
    let ended = c.end_open.ensures.ended in
    whole-ended s r o (resting (needs_of s o)) c.requires.whole c.end_open.ensures.intents c.end_open.ensures.others ended (subst (IsKept r.table o) ended c.end_open.ensures.kept) c.end_open.ensures.parties tt (λ u n d. refl)
    c.end_open.ensures.way (subst (StandsByNeeds r.table o) ended (c.end_open.ensures.rests (least-of s o c.requires.whole))) refl
    (opened-ended (party_of s.parties) (party_of r.parties) o c.end_open.ensures.parties (ap (λ (p : Party). is_some p.opened) ended) s.trail)
    (omega (
      arith,
      places-freed o s.parties r.parties c.end_open.ensures.parties (open-owner s o c.args.want c.requires.whole c.requires.opened) (ap (λ (x : Option OpenWant). is_some x) c.requires.opened) (ap (λ (p : Party). p.opened) ended),
      c.requires.whole.room,
      c.end_open.ensures.spare,
    ))

pub end_open-requires-clause-room : goal.end_open-requires-clause-room
end_open-requires-clause-room c = room-own (state_of c.args.self.now) c.args.owner c.args.want c.requires.whole c.requires.opened

pub returns-clause-locks : goal.returns-clause-locks
returns-clause-locks c = way-leaves c.args.self.now.locks c.end_open.new.locks c.args.owner c.requires.whole.intents c.end_open.ensures.way

pub end_open-requires-clause-kept : goal.end_open-requires-clause-kept
end_open-requires-clause-kept c = c.requires.whole.kept c.args.owner
