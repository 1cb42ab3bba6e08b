use Rattle.std.proofs.Common.{◌≡◌, refl, ap, ◌++◌, ◌∷◌, []}
use Rattle.std.specs.Prelude.{is_some}
use Rattle.std.proofs.Math.Nat.{le_trans}
use Rattle.lock_needs.specs.Party.{Party}
use Rattle.lock_tree_laws.specs.Parties.{resting}
use Rattle.lock_tree_laws.specs.Forest.{State, party_of}
use Rattle.lock_tree.specs.States.{state_of}
use Rattle.lock_tree_laws.specs.Wanted.{needs_of}
use Rattle.lock_tree_laws.proofs.KeptPlaces.{places-closed}
use Rattle.lock_tree_laws.proofs.Whole.{whole-ended}
use Rattle.lock_tree_laws.proofs.Opened.{open-got, covered-got, covered-stands}
use Rattle.lock_tree_laws.proofs.WayMade.{way-none}
use Rattle.lock_tree_laws.proofs.OpenAsks.{opened-ended}
use Rattle.lock_tree.proofs.parts.Parts.get_need.Goals as goal

pub returns-clause-got : goal.returns-clause-got
returns-clause-got c = open-got (state_of c.args.self.now) c.args.owner c.args.need (party_of c.get_for.new.parties.entries c.args.owner) c.requires.open c.get_for.ensures.own

pub returns-clause-whole : goal.returns-clause-whole
returns-clause-whole c =
    let s : State = state_of c.args.self.now in
    let r : State = record { table = c.args.self.now.locks; parties = c.get_for.new.parties.entries; trail = c.args.self.now.trail.items } in
    let own : party_of r.parties c.args.owner ≡ resting (needs_of s c.args.owner ++ c.args.need ∷ []) = open-got s c.args.owner c.args.need (party_of r.parties c.args.owner) c.requires.open c.get_for.ensures.own in
    whole-ended s r c.args.owner (resting (needs_of s c.args.owner ++ c.args.need ∷ [])) c.requires.whole c.requires.whole.intents (λ u q d k. k) own
    (covered-got s c.args.owner (needs_of s c.args.owner) c.args.need c.requires.whole c.requires.open c.requires.covered c.requires.plain c.requires.quiet) c.get_for.ensures.others tt (λ u n d. refl)
    (way-none c.args.owner c.args.self.now.locks) (covered-stands s c.args.owner (needs_of s c.args.owner) c.args.need c.requires.whole c.requires.open) refl
    (opened-ended (party_of s.parties) (party_of r.parties) c.args.owner c.get_for.ensures.others (ap (λ (p : Party). is_some p.opened) own) s.trail)
    (le_trans (places-closed c.args.owner s.parties r.parties c.get_for.ensures.others (ap (λ (p : Party). p.opened) own)) c.requires.whole.room)
