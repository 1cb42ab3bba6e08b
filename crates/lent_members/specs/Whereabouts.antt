-- A session as contracts see it, wherever the job of its statement is.
use Rattle.std.specs.Prelude.{◌≡◌, ℕ, List}
use Rattle.session_states.specs.declared.stage.Phase.{Phase}
use Rattle.session_states.specs.declared.stage.Member.{Member}
use Rattle.answered_steps.specs.Absences.{phase_with}
use Rattle.lent_members.specs.declared.lent_members.Whereabouts.{Whereabouts}
use Rattle.lent_members.specs.declared.lent_members.Whereabouts.TheVariants as place
use Rattle.lent_members.specs.declared.lent_members.Presence.{Presence}
use Rattle.lent_members.specs.declared.lent_members.Presence.TheVariants as presence
use Rattle.lent_members.specs.declared.lent_members.Present.{Present}

-- a receipt is seen as the job that it is for
abbrev pub phase_of : {O S K : Type 0} → Whereabouts O S K → Phase
phase_of (place.Here phase) = phase
phase_of (place.Away absence receipt) = phase_with absence receipt
phase_of (place.Back absence answer) = phase_with absence answer.job

abbrev pub phase_at : {S K : Type 0} → Presence S K → Phase
phase_at (presence.Here phase) = phase
phase_at (presence.Back absence answer) = phase_with absence answer.job

abbrev pub member_of : {S K : Type 0} → Present S K → Member
member_of p = record { left = p.left; total = p.total; phase = phase_at p.presence; life = p.life }

-- what the job came to, it came to in a database of this word
abbrev pub IsPresent : {S K : Type 0} → List ℕ → Presence S K → Type 0
IsPresent word (presence.Here phase) = Unit {0}
IsPresent word (presence.Back absence answer) = answer.job.word ≡ word
