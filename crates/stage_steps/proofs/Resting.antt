-- A want ends, and what was got stays or is released.
use Rattle.std.proofs.Common.{◌≡◌, ℕ, true, false, [], List, refl, ◌∙◌, sym, ap, subst, None}
use Rattle.lock_needs.specs.declared.need.Need.{Need}
use Rattle.lock_needs.specs.Party.{Party}
use Rattle.lock_tree_laws.specs.Forest.{State, KeepsParties, idle, opened_of, party_of}
use Rattle.lock_tree_laws.specs.Wanted.{needs_of}
use Rattle.lock_tree_laws.specs.Room.{IsAsBefore}
use Rattle.session_limits.specs.session_states.declared.stage.Stage.{Stage}
use Rattle.session_limits.specs.session_states.Locks.{has_journal, HasJournal}
use Rattle.session_limits.specs.session_states.States.{is_at_rest}
use Rattle.session_limits.specs.session_states.Shared.{RestsWith}
use Rattle.stage_steps.proofs.Seated.{rest-without}

pub as-before : (t : State) → IsAsBefore t t
as-before t = record { table = refl; parties = λ u. refl; trail = refl }

pub given-up : (s : ℕ) (old mid new : State) → IsAsBefore old mid → KeepsParties s mid.parties new.parties → opened_of new s ≡ None → needs_of new s ≡ needs_of mid s → new.trail ≡ mid.trail → RestsWith s (needs_of old s) old new
given-up s old mid new b others ended needs trail = record {
  others = λ u other. others u other ∙ b.parties u;
  ended = ended;
  needs = needs ∙ ap (λ (p : Party). p.needs) (b.parties s);
  trail = trail ∙ b.trail;
}

pub released : (s : ℕ) (old mid new : State) → IsAsBefore old mid → KeepsParties s mid.parties new.parties → party_of new.parties s ≡ idle → new.trail ≡ mid.trail → RestsWith s [] old new
released s old mid new b others idles trail = record {
  others = λ u other. others u other ∙ b.parties u;
  ended = ap (λ (p : Party). p.opened) idles;
  needs = ap (λ (p : Party). p.needs) idles;
  trail = trail ∙ b.trail;
}

-- who hadn't got the journal hasn't got it behind a want that was given up
pub given-needs : (stage : Stage) (had has : List Need) → is_at_rest stage ≡ true → has ≡ had → HasJournal (has_journal stage) had → HasJournal false has
given-needs stage had has idle same fits = subst (HasJournal false) (sym same) (subst (λ b. HasJournal b had) (rest-without stage idle) fits)
