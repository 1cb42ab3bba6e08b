use Rattle.std.proofs.Common.{refl, ap, sym, ◌∙◌}
use Rattle.std.specs.Prelude.{Option, is_some}
use Rattle.std.proofs.lemmas.Bool.{false≢true}
use Rattle.std.proofs.Math.Nat.{le_trans}
use Rattle.lock_needs.specs.declared.party.OpenWant.{OpenWant}
use Rattle.lock_needs.specs.Party.{Party}
use Rattle.lock_tree_laws.specs.LockTable.{granted_at}
use Rattle.lock_tree_laws.specs.Parties.{wanting}
use Rattle.lock_tree_laws.specs.Forest.{State, party_of}
use Rattle.lock_tree.specs.States.{state_of}
use Rattle.lock_tree_laws.specs.Wanted.{needs_of}
use Rattle.lock_tree_laws.proofs.KeptPlaces.{places-still, open-owner}
use Rattle.lock_tree_laws.proofs.Whole.{whole-served}
use Rattle.lock_tree_laws.proofs.Opened.{kept-open, still-open, granted-quiet_all, covered-there, down-kept, down-asks, down-stands, down-asked}
use Rattle.lock_tree_laws.proofs.WayMade.{way-none}
use Rattle.lock_tree_laws.proofs.OpenAsks.{opened-still}
use Rattle.lock_tree_laws.proofs.MeasureFalls.{next-never, ended-falls}
use Rattle.lock_tree_laws.proofs.OthersLeft.{same-leaves}
use Rattle.lock_tree.proofs.parts.Parts.go_on.Goals as goal

pub get_need-requires-clause-open : goal.get_need-requires-clause-open
get_need-requires-clause-open c = still-open (state_of c.args.self.now) (state_of c.args.self.now) c.args.owner c.args.want c.args.want.need c.requires.opened refl refl

pub get_need-requires-clause-covered : goal.get_need-requires-clause-covered
get_need-requires-clause-covered c = covered-there (granted_at c.args.self.now.locks c.args.owner) c.args.want c.in_default.ensures.there c.requires.granted

pub get_need-requires-clause-quiet : goal.get_need-requires-clause-quiet
get_need-requires-clause-quiet c = granted-quiet_all (state_of c.args.self.now) c.args.owner c.args.want c.requires.whole c.requires.opened c.requires.granted

pub returns-clause-whole : goal.returns-clause-whole
returns-clause-whole c =
    let s : State = state_of c.args.self.now in
    let r : State = record { table = c.args.self.now.locks; parties = c.go_to.new.parties.entries; trail = c.args.self.now.trail.items } in
    whole-served s r c.args.owner (wanting (needs_of s c.args.owner) c.in-Some.next) c.requires.whole c.requires.whole.intents (λ u q d k. k) c.go_to.ensures.own
    (down-kept s c.args.owner c.args.want c.in-Some.next c.requires.whole c.requires.opened c.requires.asked c.requires.granted c.in-Some.ensures.need c.in-Some.ensures.unasked c.in-Some.ensures.above c.in-Some.ensures.way)
    c.go_to.ensures.others
    (down-asks s c.args.owner c.args.want c.in-Some.next c.requires.whole c.requires.opened c.requires.asked c.requires.granted c.in-Some.ensures.need c.in-Some.ensures.unasked c.in-Some.ensures.above c.in-Some.ensures.way)
    (λ u n d. refl) (way-none c.args.owner c.args.self.now.locks)
    (down-stands s c.args.owner c.args.want c.in-Some.next c.requires.whole c.requires.opened c.requires.asked c.requires.granted c.in-Some.ensures.need c.in-Some.ensures.unasked c.in-Some.ensures.above c.in-Some.ensures.way)
    (λ n. refl)
    (down-asked s c.args.owner c.args.want c.in-Some.next c.requires.whole c.requires.opened c.requires.asked c.requires.granted c.in-Some.ensures.need c.in-Some.ensures.unasked c.in-Some.ensures.above c.in-Some.ensures.way)
    (opened-still (party_of s.parties) (party_of r.parties) c.args.owner c.go_to.ensures.others (ap (λ (p : Party). is_some p.opened) c.go_to.ensures.own ∙ sym (ap (λ (o : Option OpenWant). is_some o) c.requires.opened)) s.trail)
    (λ f. absurd (false≢true (sym f ∙ open-owner s c.args.owner c.args.want c.requires.whole c.requires.opened)))
    (le_trans (places-still c.args.owner s.parties r.parties c.go_to.ensures.others (ap (λ (o : Option OpenWant). is_some o) c.requires.opened) (ap (λ (p : Party). p.needs) c.go_to.ensures.own)) c.requires.whole.room)

pub returns-clause-progress : goal.returns-clause-progress
returns-clause-progress c =
    let s : State = state_of c.args.self.now in
    let r : State = record { table = c.args.self.now.locks; parties = c.go_to.new.parties.entries; trail = c.args.self.now.trail.items } in
    next-never s r c.args.owner c.args.want c.in-Some.next refl c.go_to.ensures.others c.requires.opened (ap (λ (p : Party). p.opened) c.go_to.ensures.own)
    c.in-Some.ensures.need c.in-Some.ensures.unasked c.in-Some.ensures.above c.in-Some.ensures.way

pub returns-in_default-clause-progress : goal.returns-in_default-clause-progress
returns-in_default-clause-progress c =
    ended-falls (state_of c.args.self.now) (state_of c.get_need.new.self) c.args.owner c.args.want c.get_need.ensures.others
    (same-leaves c.args.self.now.locks c.get_need.new.self.locks c.args.owner c.get_need.ensures.table) c.requires.opened (ap (λ (p : Party). p.opened) c.get_need.ensures.got)

pub further_down-requires : goal.further_down-requires
further_down-requires c = record { way = (kept-open (state_of c.args.self.now) c.args.owner c.args.want c.requires.whole c.requires.opened).way }
