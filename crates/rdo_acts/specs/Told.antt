-- How the end of the work is told.
use Rattle.std.specs.Prelude.{◌≡◌, ◌⊎◌, true, List, ◌∷◌, map, None}
use Rattle.std.specs.List.{AllByRecursion}
use Rattle.std.specs.List.Sorted.{IsStrictlySortedBy}
use Rattle.rdb_types.specs.declared.keys.Dbkey.{Dbkey}
use Rattle.rdb_types.specs.Order.{dbkey_order}
use Rattle.line_view.specs.declared.stop.Stop.TheVariants as stop
use Rattle.line_view.specs.declared.need.Need.{Need}
use Rattle.line_view.specs.declared.need.Need.TheVariants.{Line, Area, Room}
use Rattle.line_view.specs.Knowledge.{Knowledge, Lines}
use Rattle.line_view.specs.Writes.{laid_all}
use Rattle.statement_view.specs.Over.{laid_over, is_written}
use Rattle.rdo_acts.specs.declared.work.Work.{Work}
use Rattle.rdo_acts.specs.declared.acting.Acted.{Acted}
use Rattle.rdo_acts.specs.declared.acting.Outcome.{Outcome}
use Rattle.rdo_acts.specs.declared.acting.Outcome.TheVariants.{Done, Refused, Missing, Bad, NoMemory}
use Rattle.rdo_acts.specs.Ahead.{AreAhead}
use Rattle.rdo_acts.specs.Ends.{ActStop}

-- what was done: the lines printed, the Dbkeys given and the writes are those of the work
pub record IsOfWork (acted : Acted) (w : Work) : Type 0 where
  pub lines : acted.lines ≡ w.lines
  pub given : acted.given ≡ w.given
  pub laid : (all : Lines) → laid_all acted.writes all ≡ laid_over w.view.lines all
  pub written : AllByRecursion (λ write. is_written w.view.lines write.key ≡ true) acted.writes
  pub ordered : IsStrictlySortedBy dbkey_order (map (λ write. write.key) acted.writes)

-- work that came to its end, unless there is no memory to tell it
abbrev pub Finishes : Outcome → Work → Type 0
Finishes (Done acted) w = IsOfWork acted w
Finishes (Refused refusal given) w = ⊥
Finishes (Missing needs) w = ⊥
Finishes (Bad key) w = ⊥
Finishes NoMemory w = Unit {0}

-- the first need, and those that come behind it
pub record IsLacking (outcome : Outcome) (known : Knowledge) (first : Need) : Type 0 where
  pub behind : List Need
  pub is : outcome ≡ Missing (first ∷ behind)
  pub ahead : AreAhead known first behind

-- a need that work lacked which sees no area isn't known either
abbrev pub LacksStill : Knowledge → ActStop → Type 0
LacksStill known (stop.Missing (Line key)) = Unit {0}
LacksStill known (stop.Missing (Area area)) = known.area area ≡ None
LacksStill known (stop.Missing (Room room)) = Unit {0}
LacksStill known _ = Unit {0}

-- Work that stopped, where these Dbkeys were given before and this is known; needs are told unless there is no memory for it.
abbrev pub StopsAs : Outcome → ActStop → List Dbkey → Knowledge → Type 0
StopsAs outcome (stop.Missing need) given known = IsLacking outcome known need ⊎ (outcome ≡ NoMemory)
StopsAs outcome (stop.Bad key) given known = outcome ≡ Bad key
StopsAs outcome stop.NoMemory given known = outcome ≡ NoMemory
StopsAs outcome (stop.Own refusal) given known = outcome ≡ Refused refusal given
