-- What drivers see of the sessions over lines.
use Rattle.std.specs.Prelude.{◌≡◌, ℕ, ◌+◌, if◌then◌else◌, Bool, true, false, not, ◌&&◌, List, ◌∷◌, map, take, Option, Some, None, ◌⊎◌}
use Rattle.std.specs.List.{filter}
use Rattle.rdb_types.specs.declared.session.Cause.TheVariants.{Gate}
use Rattle.rdb_account.specs.declared.event.Event.{Event as Declared}
use Rattle.rdb_account.specs.Events.{event_of}
use Rattle.rdb_account.specs.Places.{Opening, Place, place}
use Rattle.rdb_drive.specs.Boards.{Board, Mark}
use Rattle.rdb_drive.specs.Orders.{upward}
use Rattle.session_states.specs.declared.stage.Member.{Member}
use Rattle.session_stands.specs.Sessions.{member_at}
use Rattle.line_cluster.specs.lent_members.Going.{is_dead, is_over}
use Rattle.line_cluster.specs.Asleep.{is_mourning, sleeps}
use Rattle.line_cluster.specs.Deaths.{lives_in}
use Rattle.line_cluster.specs.Turned.{Sessions, SleepsFor, HasNothingLeft, mark_of}

abbrev pub marks_of : List Declared → List Mark
marks_of events = map (λ e. mark_of (event_of e)) events

-- s waits for some session, or has said its whole script, or has died
abbrev pub RestsAt : Opening → Place → ℕ → Type 0
RestsAt o p s = ((t : ℕ) × SleepsFor o p s t) ⊎ HasNothingLeft o p s

-- behind so many of the events
abbrev pub RestsBehind : Opening → List Declared → ℕ → ℕ → Type 0
RestsBehind o events n s = RestsAt o (place o (take n (map event_of events))) s

-- who died has ended once it is recovered, and whose script ends in a stop not before
abbrev pub has_ended : (stops : Bool) → Option Member → Bool
has_ended stops None = true
has_ended stops (Some m) = is_over stops m m.life && not (is_dead m)

-- how much may still come of deaths and of a halt
abbrev pub lives_left : Sessions → ℕ
lives_left c = if c.halted then 0 else 1 + lives_in c.members

-- Where the opening told what the store holds, and no halt came, who rests does so in the account. A death and a halt make less of what may come, whatever the sessions have before them then.
abbrev pub board_of : (told : Type 0) → Opening → Sessions → Board
board_of told o c = record {
  measure = lives_left c ∷ c.measure;
  marks = marks_of c.events;
  rests = λ n s. told → c.halted ≡ false → RestsBehind o c.events n s;
  asleep = λ s. sleeps c s;
  ended = λ s. has_ended (o.stops s) (member_at c.members s);
  mourns = is_mourning c;
  stopped = c.halted;
}

-- the sessions of so many that the gate may have die
abbrev pub mortals_of : Opening → ℕ → List ℕ
mortals_of o sessions = filter (λ s. o.may_die s Gate) (upward 1 sessions)
