use Rattle.std.proofs.Common.{ℕ, sym, ◌∙◌, ◌≡◌, ap, is_some, slice_get, List, Some}
use Rattle.std.proofs.lemmas.Bool.{false≢true}
use Rattle.std.proofs.lemmas.Option.{same_Some}
use Rattle.session_states.specs.declared.stage.Member.{Member}
use Rattle.line_account.specs.stage_steps.Nearer.{is_patient_at}
use Rattle.line_cluster.proofs.sessions.Core.blocker.Goals as goal

pub returns-then-not-is_patient-clause-awake : goal.returns-then-not-is_patient-clause-awake
returns-then-not-is_patient-clause-awake g c = λ none m found patient.
    let there : slice_get c.args.self.now.members.items c.args.at ≡ Some c.member_at.result.now = ap (λ (ms : List Member). slice_get ms c.args.at) (sym c.deref.ensures.value) ∙ c.member_at.ensures in
    absurd (false≢true (sym (sym c.is_patient.ensures ∙ c.if-not-is_patient.true) ∙ (ap (λ (x : Member). is_patient_at x.phase) (same_Some c.member_at.result.now m (sym there ∙ found)) ∙ patient)))

pub returns-in-Some-clause-waits : goal.returns-in-Some-clause-waits
returns-in-Some-clause-waits g c =
    let found : slice_get c.args.self.now.members.items c.args.at ≡ Some c.member_at.result.now = ap (λ (ms : List Member). slice_get ms c.args.at) (sym c.deref.ensures.value) ∙ c.member_at.ensures in
    record {
      going = ap is_some c.requires.going;
      mourns_none = c.requires.mourns_none;
      member = c.member_at.result.now;
      found = ap (λ (i : ℕ). slice_get c.args.self.now.members.items i) (sym c.requires.at) ∙ found;
      lives = c.requires.lives c.member_at.result.now found;
      patient = sym c.is_patient.ensures ∙ c.if-not-is_patient.false;
      blocked = c.in-Some.ensures.waits;
    }

pub returns-in-None-clause-awake : goal.returns-in-None-clause-awake
returns-in-None-clause-awake g c = λ none m found patient. c.blocker.ensures.none c.in-None.is
