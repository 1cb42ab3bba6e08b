-- What comes of an action, from its work on a view in which nothing was written.
use Rattle.std.proofs.Common.{◌≡◌, Bool, true, false, List, [], ◌++◌, Option, Some, None, Result, Ok, Err, refl, sym, ap, subst, ◌∙◌, inl, inr}
use Rattle.std.proofs.lemmas.List.Elements.{All-cons}
use Rattle.rdb_types.specs.declared.keys.Dbkey.{Dbkey}
use Rattle.rdo_ast.specs.declared.reply.Reply.{Reply}
use Rattle.rdo_ast.specs.Tree.{Name, Act, perform}
use Rattle.rdb_meaning.specs.declared.tables.Tables.{Tables}
use Rattle.rdb_meaning.specs.Checks.{Use, act_uses}
use Rattle.rdb_meaning.specs.Execution.{World, world, Ran, ran, done}
use Rattle.line_view.specs.declared.need.Need.TheVariants.{Line, Area, Room}
use Rattle.line_view.specs.declared.stop.Stop.TheVariants as stop
use Rattle.line_view.specs.Knowledge.{Knowledge, Lines, IsInOrder, Agrees}
use Rattle.line_view.specs.Held.{Held, knows}
use Rattle.line_view.specs.declared.writes.Write.{Write}
use Rattle.line_view.specs.Writes.{laid_all}
use Rattle.line_view.specs.Stops.{Lacks}
use Rattle.catalog.specs.declared.reading.Catalog.{Catalog}
use Rattle.sound_lines.proofs.OneTables.{one_tables}
use Rattle.sound_changes.specs.Standing.{IsSoundAs}
use Rattle.sound_changes.proofs.AllDone.{are_tables}
use Rattle.sound_changes.proofs.Basics.{all_of}
use Rattle.catalog_lines.specs.declared.line.IndexLine.{IndexLine}
use Rattle.rdb_meaning.specs.Contents.{Row}
use Rattle.stored_rows.specs.declared.images.Unstored.TheVariants.{TooLong, Misfit}
use Rattle.row_writes.specs.declared.target.TargetRelation.{TargetRelation}
use Rattle.row_writes.specs.declared.stop.PairRefusal.TheVariants.{Duplicate, LongKey, Full}
use Rattle.row_writes.specs.declared.stop.RowRefusal.{RowRefusal}
use Rattle.row_writes.specs.declared.stop.RowRefusal.TheVariants.{NoImage, NoRoom, Pair}
use Rattle.row_writes.specs.Pairs.{CanNotGrow}
use Rattle.statement_view.specs.Over.{Over, seen_of, all_rooms, AreRoomsKnown, Stands, knows_over, laid_over, writes_of, is_written}
use Rattle.statement_view.specs.Areas.{is_among, IsNeedOf, WritesOf}
use Rattle.used_areas.specs.Areas.{areas_read, areas_changed}
use Rattle.view_stages.specs.Stages.{Stage, Goes, refusing}
use Rattle.view_stages.specs.Records.{IsRightOver}
use Rattle.view_stages.proofs.Ending.{beginning, act_ends, act_refused}
use Rattle.rdo_acts.specs.declared.stop.Refusal.{Refusal}
use Rattle.rdo_acts.specs.declared.work.Given.{Given}
use Rattle.rdo_acts.specs.declared.work.Work.{Work}
use Rattle.rdo_acts.specs.declared.acting.Acted.{Acted}
use Rattle.rdo_acts.specs.declared.acting.Outcome.{Outcome}
use Rattle.rdo_acts.specs.declared.acting.Outcome.TheVariants.{Done, Refused, Missing, Bad, NoMemory}
use Rattle.rdo_acts.specs.Ends.{ActStop, reply_of, stage, HoldsIn, Refuses, Ends}
use Rattle.rdo_acts.specs.Acted.{IsActedOver, IsRefusedOver, ComesOf, Comes, IsOrdered, NamesNeeds}
use Rattle.rdo_acts.specs.Areas.{KeepsFor, IsFor, StaysFor}
use Rattle.rdo_acts.specs.Told.{Finishes, LacksStill, StopsAs}
use Rattle.rdo_acts.specs.Unwritten.{IsInTheWay, IsUnwritable}
use Rattle.rdo_acts.proofs.AheadNeeds.{ahead_lack, ahead_among}
use Rattle.rdo_acts.proofs.Viewing.{laid_writes}

-- ---- what is known, and what is seen of it

full_over : (sees : Bool) (k h : Held) (all : Lines) (x : IndexLine) → knows h ≡ knows (seen_of sees k) → CanNotGrow h all x → CanNotGrow k all x
full_over sees k h all x same full = elim full [
  | inl rooms ↦ inl (subst (λ (n : Knowledge). AreRoomsKnown n x.root.area 440 all_rooms) same rooms)
  | inr tall ↦ inr tall
]

-- what is in the way by what is seen is so by what is known
in_the_way : (sees : Bool) (k h : Held) (all : Lines) (r : TargetRelation) (row : Row) (why : RowRefusal) → knows h ≡ knows (seen_of sees k) → IsInTheWay h all r row why → IsInTheWay k all r row why
in_the_way sees k h all r row (NoImage Misfit) same is = is
in_the_way sees k h all r row (NoImage TooLong) same is = is
in_the_way sees k h all r row NoRoom same is = subst (λ (n : Knowledge). AreRoomsKnown n r.stored.area r.class all_rooms) same is
in_the_way sees k h all r row (Pair at Duplicate) same is = is
in_the_way sees k h all r row (Pair at LongKey) same is = is
in_the_way sees k h all r row (Pair at Full) same is = (is.0, is.1, full_over sees k h all is.0 same is.2)

unwritable_over : (sees : Bool) (k : Held) (all : Lines) (c : Catalog) (n : Name) (row : Row) → IsUnwritable (knows (seen_of sees k)) all c n row → IsUnwritable (knows k) all c n row
unwritable_over sees k all c n row is = record {
  relation = is.relation;
  there = is.there;
  target = is.target;
  is = is.is;
  base = k;
  same = refl;
  why = is.why;
  in_the_way = in_the_way sees k is.base all is.target row is.why is.same is.in_the_way;
}

refused_over : (sees : Bool) (k : Held) (o : Option Reply) (given : List Dbkey) (a : Act) (c : Catalog) (all : Lines) (t : Tables) → IsRefusedOver o given a (knows (seen_of sees k)) c all t → IsRefusedOver o given a (knows k) c all t
refused_over sees k (Some reply) given a c all t is = is
refused_over sees k None given a c all t is = record {
  given = is.given;
  now = is.now;
  lines = is.lines;
  name = is.name;
  own = is.own;
  row = is.row;
  rest = is.rest;
  comes = is.comes;
  unwritable = unwritable_over sees k all c is.name is.row is.unwritable;
}

-- a need that is lacked by what is seen isn't known either
abbrev pub LacksToo : Bool → Held → ActStop → Type 0
LacksToo sees k (stop.Missing need) = Lacks (knows (seen_of sees k)) need → Lacks (knows k) need
LacksToo sees k _ = Unit {0}

pub lacks_still : (k : Held) (why : ActStop) → LacksStill (knows k) why → LacksToo false k why
lacks_still k (stop.Missing (Line key)) still = λ is. is
lacks_still k (stop.Missing (Area area)) still = λ is. still
lacks_still k (stop.Missing (Room room)) still = λ is. is
lacks_still k (stop.Bad key) still = tt
lacks_still k stop.NoMemory still = tt
lacks_still k (stop.Own refusal) still = tt

pub lacks_seen : (k : Held) (why : ActStop) → LacksToo true k why
lacks_seen k (stop.Missing need) = λ is. is
lacks_seen k (stop.Bad key) = tt
lacks_seen k stop.NoMemory = tt
lacks_seen k (stop.Own refusal) = tt

-- at the start of the work nothing is written
pub at_start : (given : Given) (w : Work) (all : Lines) (t : Tables) → IsSoundAs all given.schema.now t → Agrees (knows w.view.base) all → Stands w.view all → w.view.lines ≡ [] → HoldsIn given w all t t
at_start given w all t sound agrees stands none =
    let nothing : laid_all (writes_of w.view.lines) all ≡ all = ap (λ ls. laid_all (writes_of ls) all) none in
    record {
      first = agrees;
      began = sound;
      agrees = subst (λ (x : Lines). Agrees (knows_over w.view) x) (sym (laid_writes w.view.lines all)) stands.agrees;
      sound = subst (λ (x : Lines). IsSoundAs x given.schema.now t) (sym nothing) sound;
    }

module _ (given : Given) (a : Act) (old new : Work) (all : Lines) (t : Tables) (lines : old.lines ≡ []) (keys : old.given ≡ []) where
  abbrev c : Catalog
  c = given.schema.now

  abbrev known : Knowledge
  known = knows old.view.base

  abbrev job : World → Ran
  job = done a t []

  -- work that goes on from the start goes on from nothing
  from_nothing : (rest : World → Ran) (to : Stage) (goes : Goes known c all t job rest (stage old) to t) → Goes known c all t job rest (beginning known) to t
  from_nothing rest to goes = record {
    tables = goes.tables;
    holds = goes.holds;
    fresh = goes.fresh;
    gives = goes.gives ∙ ap (λ ks. ks ++ goes.fresh) keys;
    comes = λ left. ap (λ ls. job (world t (goes.fresh ++ left) ls)) (sym lines) ∙ goes.comes left;
  }

  pub acted : (what : Acted) → what.lines ≡ new.lines → what.given ≡ new.given → laid_all what.writes all ≡ laid_over new.view.lines all → Goes known c all t job ran (stage old) (stage new) t → IsActedOver what a c all t
  acted what printed got laid goes word standing free =
      let same : laid_all (writes_of new.view.lines) all ≡ laid_all what.writes all = laid_writes new.view.lines all ∙ sym laid in
      let to : Stage = record { seen = knows_over new.view; writes = what.writes; lines = what.lines; given = what.given } in
      let began = from_nothing ran (stage new) goes in
      let all_so : Goes known c all t job ran (beginning known) to t = record {
        tables = began.tables;
        holds = record {
          first = (began.holds).first;
          began = (began.holds).began;
          agrees = subst (λ (x : Lines). Agrees (knows_over new.view) x) same (began.holds).agrees;
          sound = subst (λ (x : Lines). IsSoundAs x c began.tables) same (began.holds).sound;
        };
        fresh = began.fresh;
        gives = got ∙ began.gives;
        comes = λ left. began.comes left ∙ ap (λ ls. ran (world began.tables left ls)) (sym printed);
      } in
      let right = act_ends known c word standing a to all t free all_so in
      let sound : IsSoundAs (laid_all what.writes all) c all_so.tables = (all_so.holds).sound in
      let after : all_so.tables ≡ right.after = one_tables (laid_all what.writes all) all_so.tables right.after (are_tables (laid_all what.writes all) c all_so.tables sound) right.tables in
      (right, subst (λ (u : Tables). IsSoundAs (laid_all what.writes all) c u) after sound)

  pub refused : (o : Option Reply) → IsSoundAs all c t → Refuses o known c all t job (stage old) new.given t → IsRefusedOver o new.given a known c all t
  refused None sound h = record {
    given = h.goes.fresh;
    now = h.goes.tables;
    lines = h.at.lines;
    name = h.name;
    own = h.own;
    row = h.row;
    rest = h.rest;
    comes = λ left. ap (λ ls. job (world t (h.goes.fresh ++ left) ls)) (sym lines) ∙ h.goes.comes left;
    unwritable = h.unwritable;
  }
  refused (Some reply) sound h = λ word standing free.
      subst (λ (ks : List Dbkey). IsRightOver word standing (perform a) (record { choices = ks; reply = reply; writes = [] }) all t) h.given_there
      (act_refused known c word standing a reply h.at all t free sound (from_nothing (refusing reply) h.at h.goes))

  -- what comes of an action that was done
  pub comes_done : (outcome : Outcome) → Finishes outcome new → Goes known c all t job ran (stage old) (stage new) t → ComesOf outcome a known c all t
  comes_done (Done what) is goes = acted what is.lines is.given (is.laid all) goes
  comes_done (Refused refusal given) is goes = absurd is
  comes_done (Missing needs) is goes = absurd is
  comes_done (Bad key) is goes = absurd is
  comes_done NoMemory is goes = tt

  -- what comes of an action that stopped, by what is known, of which the view sees all or no areas
  pub comes_stopped : (k : Held) (sees : Bool) → old.view.base ≡ seen_of sees k → (outcome : Outcome) (why : ActStop) → StopsAs outcome why new.given (knows k) → LacksToo sees k why → IsSoundAs all c t
      → Ends (Err why) given all t job old new t → ComesOf outcome a (knows k) c all t
  comes_stopped k sees base outcome (stop.Missing need) (inl lacking) too sound h =
      subst (λ (o : Outcome). ComesOf o a (knows k) c all t) (sym lacking.is)
      (All-cons (Lacks (knows k)) need lacking.behind (too (subst (λ (h : Held). Lacks (knows h) need) base h)) (ahead_lack (knows k) need lacking.behind lacking.ahead))
  comes_stopped k sees base outcome (stop.Missing need) (inr is) too sound h = subst (λ (o : Outcome). ComesOf o a (knows k) c all t) (sym is) tt
  comes_stopped k sees base outcome (stop.Bad key) is too sound h = subst (λ (o : Outcome). ComesOf o a (knows k) c all t) (sym is) h
  comes_stopped k sees base outcome stop.NoMemory is too sound h = subst (λ (o : Outcome). ComesOf o a (knows k) c all t) (sym is) tt
  comes_stopped k sees base outcome (stop.Own refusal) is too sound h =
      subst (λ (o : Outcome). ComesOf o a (knows k) c all t) (sym is)
      (refused_over sees k (reply_of refusal) new.given a c all t (subst (λ (h : Held). IsRefusedOver (reply_of refusal) new.given a (knows h) c all t) base (refused (reply_of refusal) sound h)))

pub finishes_ordered : (outcome : Outcome) (w : Work) → Finishes outcome w → IsOrdered outcome
finishes_ordered (Done what) w is = is.ordered
finishes_ordered (Refused refusal given) w is = tt
finishes_ordered (Missing needs) w is = tt
finishes_ordered (Bad key) w is = tt
finishes_ordered NoMemory w is = tt

pub finishes_named : (outcome : Outcome) (w : Work) (known : Knowledge) → Finishes outcome w → NamesNeeds outcome known
finishes_named (Done what) w known is = tt
finishes_named (Refused refusal given) w known is = tt
finishes_named (Missing needs) w known is = absurd is
finishes_named (Bad key) w known is = tt
finishes_named NoMemory w known is = tt

pub stops_ordered : (outcome : Outcome) (why : ActStop) (given : List Dbkey) (known : Knowledge) → StopsAs outcome why given known → IsOrdered outcome
stops_ordered outcome (stop.Missing need) given known (inl lacking) = subst IsOrdered (sym lacking.is) tt
stops_ordered outcome (stop.Missing need) given known (inr is) = subst IsOrdered (sym is) tt
stops_ordered outcome (stop.Bad key) given known is = subst IsOrdered (sym is) tt
stops_ordered outcome stop.NoMemory given known is = subst IsOrdered (sym is) tt
stops_ordered outcome (stop.Own refusal) given known is = subst IsOrdered (sym is) tt

pub stops_named : (outcome : Outcome) (why : ActStop) (given : List Dbkey) (known : Knowledge) → StopsAs outcome why given known → NamesNeeds outcome known
stops_named outcome (stop.Missing need) given known (inl lacking) = subst (λ (o : Outcome). NamesNeeds o known) (sym lacking.is) lacking.ahead
stops_named outcome (stop.Missing need) given known (inr is) = subst (λ (o : Outcome). NamesNeeds o known) (sym is) tt
stops_named outcome (stop.Bad key) given known is = subst (λ (o : Outcome). NamesNeeds o known) (sym is) tt
stops_named outcome stop.NoMemory given known is = subst (λ (o : Outcome). NamesNeeds o known) (sym is) tt
stops_named outcome (stop.Own refusal) given known is = subst (λ (o : Outcome). NamesNeeds o known) (sym is) tt

-- ---- in which areas

module _ (us : List Use) (t : Tables) (old new : Work) (none : old.view.lines ≡ []) where
  write_among : WritesOf (areas_changed t us) old.view new.view → (write : Write) → is_written new.view.lines write.key ≡ true → is_among (areas_changed t us) (write.key).area ≡ true
  write_among writes write is = elim (writes write.key is) [
    | inl before ↦ (let unwritten : is_written old.view.lines write.key ≡ false = ap (λ lines. is_written lines write.key) none in let bad : ⊥ = cc in absurd bad)
    | inr among ↦ among
  ]

  pub done_for : (outcome : Outcome) → Finishes outcome new → KeepsFor {T = Unit {0}} {E = Refusal} t us old.view new.view (Ok tt) → IsFor outcome us t
  done_for (Done what) is keeps = all_of (λ (write : Write). is_written new.view.lines write.key ≡ true) (λ (write : Write). is_among (areas_changed t us) (write.key).area ≡ true) (write_among keeps) what.writes is.written
  done_for (Refused refusal given) is keeps = tt
  done_for (Missing needs) is keeps = absurd is
  done_for (Bad key) is keeps = tt
  done_for NoMemory is keeps = tt

  pub stopped_for : (outcome : Outcome) (why : ActStop) (given : List Dbkey) (known : Knowledge) → StopsAs outcome why given known → KeepsFor {T = Unit {0}} {E = Refusal} t us old.view new.view (Err why) → IsFor outcome us t
  stopped_for outcome (stop.Missing need) given known (inl lacking) keeps =
      let next = IsNeedOf (areas_read t us) (areas_changed t us) in
      subst (λ (o : Outcome). IsFor o us t) (sym lacking.is) (All-cons next need lacking.behind keeps (ahead_among (areas_read t us) (areas_changed t us) known need lacking.behind keeps lacking.ahead))
  stopped_for outcome (stop.Missing need) given known (inr is) keeps = subst (λ (o : Outcome). IsFor o us t) (sym is) tt
  stopped_for outcome (stop.Bad key) given known is keeps = subst (λ (o : Outcome). IsFor o us t) (sym is) tt
  stopped_for outcome stop.NoMemory given known is keeps = subst (λ (o : Outcome). IsFor o us t) (sym is) tt
  stopped_for outcome (stop.Own refusal) given known is keeps = subst (λ (o : Outcome). IsFor o us t) (sym is) tt

-- ---- from what is known

-- work begins where nothing is written
pub begun : (given : Given) (known : Held) (view : Over) (w : Work) → view.lines ≡ [] → ((first : Lines) → IsInOrder first → Agrees (knows known) first → Stands view first) → w ≡ record { view = view; lines = []; given = [] }
    → (all : Lines) (t : Tables) → Agrees (knows known) all → IsSoundAs all given.schema.now t → HoldsIn given w all t t
begun given known view w fresh stands empty all t agrees sound =
    let there : Stands w.view all = subst (λ (o : Over). Stands o all) (sym (ap (λ (x : Work). x.view) empty)) (stands all sound.sorted agrees) in
    at_start given w all t sound there.base there (ap (λ (x : Work). x.view.lines) empty ∙ fresh)

module _ (given : Given) (a : Act) (known : Held) (sees : Bool) (view : Over) (w : Work) (fresh : view ≡ record { base = seen_of sees known; lines = []; areas = [] })
    (stands : (first : Lines) → IsInOrder first → Agrees (knows known) first → Stands view first) (empty : w ≡ record { view = view; lines = []; given = [] }) where
  begun_base : w.view.base ≡ seen_of sees known
  begun_base = ap (λ (x : Work). x.view.base) empty ∙ ap (λ (o : Over). o.base) fresh

  begun_holds : (all : Lines) (t : Tables) → Agrees (knows known) all → IsSoundAs all given.schema.now t → HoldsIn given w all t t
  begun_holds = begun given known view w (ap (λ (o : Over). o.lines) fresh) stands empty

  abbrev Begins : Result (Unit {0}) ActStop → Work → Type 0
  Begins result new = (all : Lines) (t : Tables) → HoldsIn given w all t t → Ends result given all t (done a t []) w new t

  -- what was done is told without what is known
  told : (new : Work) (outcome : Outcome) (one other : Knowledge) (all : Lines) (t : Tables) → Finishes outcome new → ComesOf outcome a one given.schema.now all t → ComesOf outcome a other given.schema.now all t
  told new (Done what) one other all t is h = h
  told new (Refused refusal keys) one other all t is h = absurd is
  told new (Missing needs) one other all t is h = absurd is
  told new (Bad key) one other all t is h = h
  told new NoMemory one other all t is h = tt

  -- an action that was done
  pub act_done : (new : Work) (outcome : Outcome) → Finishes outcome new → Begins (Ok tt) new → Comes outcome a (knows known) given.schema.now
  act_done new outcome is runs all t agrees sound =
      told new outcome (knows w.view.base) (knows known) all t is
      (comes_done given a w new all t (ap (λ (x : Work). x.lines) empty) (ap (λ (x : Work). x.given) empty) outcome is (runs all t (begun_holds all t agrees sound)))

  -- an action that stopped
  pub act_stopped : (new : Work) (outcome : Outcome) (why : ActStop) → StopsAs outcome why new.given (knows known) → LacksToo sees known why → Begins (Err why) new → Comes outcome a (knows known) given.schema.now
  act_stopped new outcome why is too runs all t agrees sound =
      comes_stopped given a w new all t (ap (λ (x : Work). x.lines) empty) (ap (λ (x : Work). x.given) empty) known sees begun_base outcome why is too sound (runs all t (begun_holds all t agrees sound))

  abbrev KeepsTo : Result (Unit {0}) ActStop → Work → Type 0
  KeepsTo result new = (all : Lines) (t : Tables) → HoldsIn given w all t t → KeepsFor t (act_uses a []) w.view new.view result

  begun_lines : w.view.lines ≡ []
  begun_lines = ap (λ (x : Work). x.view.lines) empty ∙ ap (λ (o : Over). o.lines) fresh

  pub act_done_for : (new : Work) (outcome : Outcome) → Finishes outcome new → KeepsTo (Ok tt) new → StaysFor outcome a (knows known) given.schema.now
  act_done_for new outcome is keeps all t agrees sound = done_for (act_uses a []) t w new begun_lines outcome is (keeps all t (begun_holds all t agrees sound))

  pub act_stopped_for : (new : Work) (outcome : Outcome) (why : ActStop) → StopsAs outcome why new.given (knows known) → KeepsTo (Err why) new → StaysFor outcome a (knows known) given.schema.now
  act_stopped_for new outcome why is keeps all t agrees sound = stopped_for (act_uses a []) t w new begun_lines outcome why new.given (knows known) is (keeps all t (begun_holds all t agrees sound))
