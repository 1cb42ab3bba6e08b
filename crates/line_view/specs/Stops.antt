-- What it says that work over a view stops.
use Rattle.std.specs.Prelude.{◌≡◌, None, Result, Ok, Err}
use Rattle.ordered_entries.specs.rdb_types.declared.keys.Dbkey.{Dbkey}
use Rattle.line_view.specs.declared.need.Need.{Need}
use Rattle.line_view.specs.declared.need.Need.TheVariants.{Line, Area, Room}
use Rattle.line_view.specs.declared.stop.Stop.{Stop}
use Rattle.line_view.specs.declared.stop.Stop.TheVariants.{Missing, Bad, NoMemory, Own}
use Rattle.line_view.specs.declared.stop.Never.{Never}
use Rattle.line_view.specs.Knowledge.{Knowledge}

-- Work stops since this is what it reads next, since this line is bad for it, or for this reason of its own. Want of memory says nothing.
abbrev pub Stops : {E : Type 0} → (Need → Type 0) → (Dbkey → Type 0) → (E → Type 0) → Stop E → Type 0
Stops next bad own (Missing need) = next need
Stops next bad own (Bad key) = bad key
Stops next bad own NoMemory = Unit {0}
Stops next bad own (Own reason) = own reason

-- Work is done, and this is true of what it gives, or it stops so.
abbrev pub Answers : {T E : Type 0} → (T → Type 0) → (Need → Type 0) → (Dbkey → Type 0) → (E → Type 0) → Result T (Stop E) → Type 0
Answers done next bad own (Ok given) = done given
Answers done next bad own (Err stop) = Stops next bad own stop

-- the view doesn't know what is needed
abbrev pub Lacks : Knowledge → Need → Type 0
Lacks known (Line key) = known.line key ≡ None
Lacks known (Area area) = known.area area ≡ None
Lacks known (Room room) = known.room room ≡ None

-- this is true of the reason of its own
abbrev pub IfOwn : {E : Type 0} → (E → Type 0) → Stop E → Type 0
IfOwn is (Own reason) = is reason
IfOwn is _ = Unit {0}

-- the stop is the same but for the reason of its own, of which this is made
abbrev pub IsMapped : {E D : Type 0} → (E → D → Type 0) → Stop E → Stop D → Type 0
IsMapped makes (Missing need) new = new ≡ Missing need
IsMapped makes (Bad key) new = new ≡ Bad key
IsMapped makes NoMemory new = new ≡ NoMemory
IsMapped {D = D} makes (Own reason) new = (made : D) × makes reason made × (new ≡ Own made)

-- the stop of a plain view, as that of work that may have a reason of its own
abbrev pub of_view : {E : Type 0} → Stop Never → Stop E
of_view (Missing need) = Missing need
of_view (Bad key) = Bad key
of_view NoMemory = NoMemory
of_view (Own never) = elim never [ ]
