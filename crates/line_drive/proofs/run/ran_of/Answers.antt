use Rattle.std.proofs.Common.{Bool, true, false, ◌≡◌, not, ap, map, refl, subst, sym, ◌∙◌}
use Rattle.std.proofs.lemmas.Bool.{false≢true}
use Rattle.rdb_account.specs.Events.{event_of}
use Rattle.rdb_account.specs.Legal.{AreWhole, IsLegal}
use Rattle.line_cluster.specs.Deaths.{CountsFaults, failures}
use Rattle.line_cluster.specs.Sound.{HasImages, IsLeft}
use Rattle.line_cluster.specs.Turned.{HaveAllEnded, is_session}
use Rattle.line_drive.specs.Turns.{has_deaths}
use Rattle.line_drive.proofs.Dying.{not-true}
use Rattle.line_drive.proofs.Unharmed.{nobody-died}
use Rattle.line_drive.proofs.run.ran_of.Goals.{then-has_ended, else-has_ended}
use Rattle.line_drive.proofs.run.ran_of.Goals as goal

pub returns-clause-ended : goal.returns-clause-ended
returns-clause-ended g c whole = elim c.if-has_ended.branch [
  | then-has_ended w ↦ w.if-has_ended.true
  | else-has_ended w ↦ absurd (false≢true (sym w.if-has_ended.false ∙ (sym w.is_whole-is ∙ whole)))
]

pub returns-clause-going : goal.returns-clause-going
returns-clause-going g c whole = elim c.if-has_ended.branch [
  | then-has_ended w ↦ sym c.end-events.ensures.halt ∙ (sym w.is_some.ensures ∙ not-true w.is_some.result (sym w.is_whole-is ∙ whole))
  | else-has_ended w ↦ absurd (false≢true (sym w.if-has_ended.false ∙ (sym w.is_whole-is ∙ whole)))
]

not-not : (b : Bool) → b ≡ not (not b)
not-not true = refl
not-not false = refl

pub returns-clause-halt : goal.returns-clause-halt
returns-clause-halt g c = elim c.if-has_ended.branch [
  | then-has_ended w ↦ sym w.is_some.ensures ∙ (not-not w.is_some.result ∙ ap not (sym w.is_whole-is))
  | else-has_ended w ↦ (c.end-events.ensures.halt ∙ c.requires.stopped w.if-has_ended.false) ∙ ap not (sym (w.is_whole-is ∙ w.if-has_ended.false))
]

pub returns-clause-legal : goal.returns-clause-legal
returns-clause-legal g c told = subst (λ es. IsLegal g.O.Origin.opening (map event_of es)) (sym c.end-events.ensures.events) (c.facts.ensures.legal told)

pub returns-clause-whole : goal.returns-clause-whole
returns-clause-whole g c whole told =
    subst (λ es. HaveAllEnded g.O.Origin.opening g.O.Origin.sessions (map event_of es)) (sym c.end-events.ensures.events)
    (c.facts.ensures.whole told (returns-clause-going g c whole) (c.requires.ended (returns-clause-ended g c whole)))

pub returns-clause-unharmed : goal.returns-clause-unharmed
returns-clause-unharmed g c whole told =
    subst (λ es. has_deaths (map event_of es) ≡ false → AreWhole (is_session g.O.Origin.sessions) g.O.Origin.opening (map event_of es)) (sym c.end-events.ensures.events)
    (λ none. nobody-died g.O.Origin.opening g.O.Origin.sessions _ (c.facts.ensures.legal told) none (c.facts.ensures.whole told (returns-clause-going g c whole) (c.requires.ended (returns-clause-ended g c whole))))

pub returns-clause-left : goal.returns-clause-left
returns-clause-left g c whole told =
    subst (λ es. IsLeft g.S.Statements.stands g.O.Origin.opening (g.L.LineStore.sight c.end-events.result.store) (map event_of es)) (sym c.end-events.ensures.events) (c.end-events.ensures.left told (returns-clause-going g c whole))

pub returns-clause-images : goal.returns-clause-images
returns-clause-images g c told =
    subst (λ es. HasImages g.S.Statements.stands g.O.Origin.opening (g.L.LineStore.sight c.end-events.result.store) (map event_of es)) (sym c.end-events.ensures.events) (c.end-events.ensures.images told)

pub returns-clause-faults : goal.returns-clause-faults
returns-clause-faults g c told =
    subst (λ es. CountsFaults g.O.Origin.faults (failures (map event_of es) c.end-events.result.halt) (g.L.LineStore.sight c.end-events.result.store)) (sym c.end-events.ensures.events) (c.end-events.ensures.faults told)

pub returns-clause-outside : goal.returns-clause-outside
returns-clause-outside g c whole = c.end-events.ensures.outside (returns-clause-going g c whole) (c.requires.ended (returns-clause-ended g c whole))
