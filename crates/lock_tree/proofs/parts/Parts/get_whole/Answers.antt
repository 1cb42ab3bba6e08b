use Rattle.std.proofs.Common.{refl, sym, ◌∙◌, ap, subst, ◌++◌, ◌∷◌, [], arith}
use Rattle.std.proofs.Math.Nat.{le_trans}
use Rattle.std.proofs.lemmas.Bool.{false≢true}
use Rattle.lock_tree_laws.specs.Parties.{IsKept}
use Rattle.lock_tree_laws.specs.Forest.{State}
use Rattle.lock_tree.specs.States.{state_of}
use Rattle.lock_tree_laws.specs.Wanted.{needs_of}
use Rattle.lock_needs.specs.Party.{Party}
use Rattle.lock_tree_laws.proofs.KeptPlaces.{places-closed}
use Rattle.lock_tree.proofs.RoomKept.{kept-taken}
use Rattle.lock_tree_laws.proofs.Sleepers.{all-clear}
use Rattle.lock_tree_laws.proofs.Opened.{whole-same, whole-noted}
use Rattle.lock_tree_laws.proofs.TakenInOrder.{taken-way, taken-stands}
use Rattle.lock_tree_laws.proofs.TakingWhole.{whole-free, crowded-queued}
use Rattle.lock_tree.proofs.parts.Parts.get_whole.Goals as goal

pub returns-then-not-take_whole-clause-whole : goal.returns-then-not-take_whole-clause-whole
returns-then-not-take_whole-clause-whole c =
    let r : State = record { table = c.take_whole.new.locks; parties = c.take_whole.new.parties.entries; trail = c.args.self.now.trail.items } in
    let left = c.take_whole.ensures.left c.if-not-take_whole.true in
    whole-same (state_of c.args.self.now) r c.args.owner c.requires.whole left.1 left.0 c.take_whole.ensures.parties refl

pub returns-clause-may : goal.returns-clause-may
returns-clause-may c = λ e.
    let taken = c.take_whole.ensures.taken c.if-not-take_whole.false in
    record {
      clear = all-clear c.args.self.now.locks c.args.self.now.parties.entries taken.live c.requires.whole.kept c.args.want.here (sym c.is_crowded.ensures.value ∙ c.if-is_crowded.false);
      free = whole-free c.args.self.now.locks c.take_whole.new.locks c.args.owner c.args.want.here _ taken.live_after taken.raised;
    }

pub returns-clause-whole : goal.returns-clause-whole
returns-clause-whole c =
    let s : State = state_of c.args.self.now in
    let r : State = record { table = c.take_whole.new.locks; parties = c.take_whole.new.parties.entries; trail = c.note_ask.new.trail.items } in
    let got = c.take_whole.ensures.got c.if-not-take_whole.false in
    let taken = c.take_whole.ensures.taken c.if-not-take_whole.false in
    let clear = all-clear c.args.self.now.locks c.args.self.now.parties.entries taken.live c.requires.whole.kept c.args.want.here (sym c.is_crowded.ensures.value ∙ c.if-is_crowded.false) in
    whole-noted s r c.args.owner c.args.want.here (needs_of s c.args.owner ++ c.args.want.need ∷ []) c.requires.whole c.take_whole.ensures.intents c.take_whole.ensures.others
    (subst (IsKept c.take_whole.new.locks c.args.owner) got c.take_whole.ensures.kept) got c.take_whole.ensures.parties
    c.note_ask.ensures.trail
    (taken-way s r.table c.args.owner c.args.want c.requires.whole c.requires.uncovered taken clear)
    (taken-stands s r.table c.args.owner c.args.want c.requires.whole c.requires.opened c.requires.uncovered taken clear)
    (le_trans (places-closed c.args.owner s.parties r.parties c.take_whole.ensures.parties (ap (λ (p : Party). p.opened) got)) (kept-taken c.args.owner c.args.self.now r.table c.requires.room c.take_whole.ensures.spare))

pub take_whole-requires-clause-room : goal.take_whole-requires-clause-room
take_whole-requires-clause-room c = omega (arith, c.requires.room.table)

pub note_ask-requires : goal.note_ask-requires
note_ask-requires c = omega (arith, c.requires.room.trail)

pub returns-then-is_crowded-clause-strong : goal.returns-then-is_crowded-clause-strong
returns-then-is_crowded-clause-strong c = λ may.
    let queued = crowded-queued c.args.self.now.locks c.args.self.now.parties.entries c.is_crowded.ensures.unique c.requires.whole.kept c.args.want.here (sym c.is_crowded.ensures.value ∙ c.if-is_crowded.true) in
    absurd (false≢true (sym (may.clear queued.0) ∙ queued.1))

pub take_whole-requires-clause-kept : goal.take_whole-requires-clause-kept
take_whole-requires-clause-kept c = c.requires.whole.kept c.args.owner
