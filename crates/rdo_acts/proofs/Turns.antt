-- Jobs in turn over the view of a statement, and how one of them ends all.
use Rattle.std.proofs.Common.{◌≡◌, Bool, true, false, cond, refl, List, [], ◌++◌, Option, Some, None, Result, Ok, Err, sym, ap, subst, ◌∙◌, append_assoc, append-nil}
use Rattle.rdb_types.specs.declared.keys.Dbkey.{Dbkey}
use Rattle.rdo_ast.specs.declared.reply.Reply.{Reply}
use Rattle.rdo_ast.specs.declared.reply.Reply.TheVariants.{TooLong}
use Rattle.rdo_ast.specs.Tree.{Name}
use Rattle.rdb_meaning.specs.declared.tables.Tables.{Tables}
use Rattle.rdb_meaning.specs.Contents.{Row, relation_named, fields_of, is_too_long}
use Rattle.rdb_meaning.specs.Execution.{World, world, Ran, ran, refused, and_then, taken_by, unless_taken, writing}
use Rattle.line_view.specs.declared.stop.Stop.{Stop}
use Rattle.line_view.specs.declared.stop.Stop.TheVariants.{Missing, Bad, NoMemory, Own}
use Rattle.line_view.specs.declared.stop.Never.{Never}
use Rattle.line_view.specs.Knowledge.{Knowledge, Lines}
use Rattle.line_view.specs.Held.{Held, knows}
use Rattle.line_view.specs.Stops.{Answers, Lacks, of_view}
use Rattle.line_view.specs.Writes.{laid_all}
use Rattle.catalog.specs.declared.reading.Catalog.{Catalog}
use Rattle.sound_lines.specs.Contents.{AreTablesOf}
use Rattle.sound_lines.proofs.OneTables.{one_tables}
use Rattle.sound_changes.proofs.AllDone.{are_tables}
use Rattle.statement_view.specs.Over.{Over, writes_of}
use Rattle.view_stages.specs.Stages.{Stage, Holds, Goes, refusing}
use Rattle.rdo_acts.specs.declared.work.Given.{Given}
use Rattle.rdo_acts.specs.declared.work.Work.{Work}
use Rattle.rdo_acts.specs.Ends.{ActStop, reply_of, stage, HoldsIn, Refuses, Computes, Ends}

abbrev pub then : (World → Ran) → (World → Ran) → World → Ran
then job next w = and_then (job w) next

then_unless : (long : Bool) (reply : Reply) (keys : List Dbkey) (taken : Option Name) (w : World) (x : Ran) (next : World → Ran) →
    and_then (cond long (refused reply keys) (unless_taken taken w x)) next ≡ cond long (refused reply keys) (unless_taken taken w (and_then x next))
then_unless true reply keys taken w x next = refl
then_unless false reply keys (Some index) w x next = refl
then_unless false reply keys None w x next = refl

-- what comes behind the writing of a row, and then a job
writing_then : (n : Name) (row : Row) (own : Dbkey) (w : World) (x : Ran) (next : World → Ran) → and_then (writing n row own w x) next ≡ writing n row own w (and_then x next)
writing_then n row own w x next = then_unless (is_too_long (fields_of (relation_named n w.tables)) row) TooLong w.choices (taken_by n row own w.tables) w x next

-- `Ends`, with what was known at the start of the statement
abbrev pub EndsAs : Result (Unit {0}) ActStop → Knowledge → Catalog → Lines → Tables → (World → Ran) → Stage → Stage → Tables → Type 0
EndsAs result known c all start job from to t =
    Answers (λ done. Goes known c all start job ran from to t) (Lacks known) (λ key. ⊥) (λ refusal. Refuses (reply_of refusal) known c all start job from to.given t) result

module _ (known : Knowledge) (c : Catalog) (all : Lines) (start : Tables) where
  -- nothing is done on the way but words
  pub says : (job rest : World → Ran) (at : Stage) (t : Tables) → Holds known c all start at t → ((left : List Dbkey) → job (world t left at.lines) ≡ rest (world t left at.lines)) → Goes known c all start job rest at at t
  says job rest at t holds comes = record { tables = t; holds = holds; fresh = []; gives = sym (append-nil at.given); comes = comes }

  -- one way, and then another
  pub through : (job mid rest : World → Ran) (from at to : Stage) (t : Tables) (one : Goes known c all start job mid from at t) → Goes known c all start mid rest at to one.tables → Goes known c all start job rest from to t
  through job mid rest from at to t one two = record {
    tables = two.tables;
    holds = two.holds;
    fresh = one.fresh ++ two.fresh;
    gives = two.gives ∙ ap (λ l. l ++ two.fresh) one.gives ∙ append_assoc from.given one.fresh two.fresh;
    comes = λ left.
        ap (λ l. job (world t l from.lines)) (append_assoc one.fresh two.fresh left)
        ∙ one.comes (two.fresh ++ left)
        ∙ two.comes left;
  }

  -- the first of two jobs is done
  first_done : (job next : World → Ran) (from to : Stage) (t : Tables) → Goes known c all start job ran from to t → Goes known c all start (then job next) next from to t
  first_done job next from to t one = record {
    tables = one.tables;
    holds = one.holds;
    fresh = one.fresh;
    gives = one.gives;
    comes = λ left. ap (λ r. and_then r next) (one.comes left);
  }

  -- the first of two jobs is refused
  first_refused : (job next : World → Ran) (reply : Reply) (from to : Stage) (t : Tables) → Goes known c all start job (refusing reply) from to t → Goes known c all start (then job next) (refusing reply) from to t
  first_refused job next reply from to t one = record {
    tables = one.tables;
    holds = one.holds;
    fresh = one.fresh;
    gives = one.gives;
    comes = λ left. ap (λ r. and_then r next) (one.comes left);
  }

  refuses_through : (o : Option Reply) (job mid : World → Ran) (from at : Stage) (given : List Dbkey) (t : Tables) (one : Goes known c all start job mid from at t) → Refuses o known c all start mid at given one.tables → Refuses o known c all start job from given t
  refuses_through None job mid from at given t one h = record {
    at = h.at;
    name = h.name;
    own = h.own;
    row = h.row;
    rest = h.rest;
    goes = through job mid (λ w. writing h.name h.row h.own w (h.rest w)) from at h.at t one h.goes;
    unwritable = h.unwritable;
  }
  refuses_through (Some reply) job mid from at given t one h = record {
    at = h.at;
    given_there = h.given_there;
    goes = through job mid (refusing reply) from at h.at t one h.goes;
  }

  refuses_first : (o : Option Reply) (job next : World → Ran) (from : Stage) (given : List Dbkey) (t : Tables) → Refuses o known c all start job from given t → Refuses o known c all start (then job next) from given t
  refuses_first None job next from given t h = record {
    at = h.at;
    name = h.name;
    own = h.own;
    row = h.row;
    rest = λ w. and_then (h.rest w) next;
    goes = record {
      tables = h.goes.tables;
      holds = h.goes.holds;
      fresh = h.goes.fresh;
      gives = h.goes.gives;
      comes = λ left.
          ap (λ r. and_then r next) (h.goes.comes left)
          ∙ writing_then h.name h.row h.own (world h.goes.tables left h.at.lines) (h.rest (world h.goes.tables left h.at.lines)) next;
    };
    unwritable = h.unwritable;
  }
  refuses_first (Some reply) job next from given t h = record { at = h.at; given_there = h.given_there; goes = first_refused job next reply from h.at t h.goes }

  -- what a job has come to ends so
  pub ends_through : (result : Result (Unit {0}) ActStop) (job mid : World → Ran) (from at to : Stage) (t : Tables) (one : Goes known c all start job mid from at t) → EndsAs result known c all start mid at to one.tables → EndsAs result known c all start job from to t
  ends_through (Ok _) job mid from at to t one h = through job mid ran from at to t one h
  ends_through (Err (Missing need)) job mid from at to t one h = h
  ends_through (Err (Bad key)) job mid from at to t one h = h
  ends_through (Err NoMemory) job mid from at to t one h = tt
  ends_through (Err (Own refusal)) job mid from at to t one h = refuses_through (reply_of refusal) job mid from at to.given t one h

  -- a job that is another in other words ends as that one
  pub ends_said : (result : Result (Unit {0}) ActStop) (job mid : World → Ran) (at to : Stage) (t : Tables) → Holds known c all start at t → ((left : List Dbkey) → job (world t left at.lines) ≡ mid (world t left at.lines)) → EndsAs result known c all start mid at to t → EndsAs result known c all start job at to t
  ends_said result job mid at to t holds comes h =
      let one : Goes known c all start job mid at at t = record { tables = t; holds = holds; fresh = []; gives = sym (append-nil at.given); comes = comes } in
      ends_through result job mid at at to t one h

  -- the first of two jobs ends both
  ends_first : (stop : ActStop) (job next : World → Ran) (from to : Stage) (t : Tables) → EndsAs (Err stop) known c all start job from to t → EndsAs (Err stop) known c all start (then job next) from to t
  ends_first (Missing need) job next from to t h = h
  ends_first (Bad key) job next from to t h = h
  ends_first NoMemory job next from to t h = tt
  ends_first (Own refusal) job next from to t h = refuses_first (reply_of refusal) job next from to.given t h

-- ---- from the work at the start to that of the moment, and one job more

module _ (given : Given) (old now : Work) (kept : now.view.base ≡ old.view.base) (all : Lines) (start : Tables) where
  abbrev c : Catalog
  c = given.schema.now

  abbrev known : Knowledge
  known = knows old.view.base

  pub holds_now : (t : Tables) → Holds known c all start (stage now) t → HoldsIn given now all start t
  holds_now t holds = subst (λ (b : Held). Holds (knows b) c all start (stage now) t) (sym kept) holds

  module _ (new : Work) where
    ends_now : (result : Result (Unit {0}) ActStop) (job : World → Ran) (t : Tables) → Ends result given all start job now new t → EndsAs result known c all start job (stage now) (stage new) t
    ends_now result job t h = subst (λ (b : Held). EndsAs result (knows b) c all start job (stage now) (stage new) t) kept h

    -- the next job is done
    pub next_goes : (job next rest : World → Ran) (t : Tables) (one : Goes known c all start job (then next rest) (stage old) (stage now) t) → Ends (Ok tt) given all start next now new one.tables → Goes known c all start job rest (stage old) (stage new) t
    next_goes job next rest t one h =
        through known c all start job (then next rest) rest (stage old) (stage now) (stage new) t one
        (first_done known c all start next rest (stage now) (stage new) one.tables (ends_now (Ok tt) next one.tables h))

    -- the next job ends it
    pub next_ends : (stop : ActStop) (job next rest : World → Ran) (t : Tables) (one : Goes known c all start job (then next rest) (stage old) (stage now) t) → Ends (Err stop) given all start next now new one.tables → Ends (Err stop) given all start job old new t
    next_ends stop job next rest t one h =
        ends_through known c all start (Err stop) job (then next rest) (stage old) (stage now) (stage new) t one
        (ends_first known c all start stop next rest (stage now) (stage new) one.tables (ends_now (Err stop) next one.tables h))

  -- where something can't be computed over the view of the moment, the work ends
  pub stops_now : {T : Type 0} (stop : Stop Never) (job : World → Ran) (done : T → Type 0) (t : Tables) → Computes {T = T} {E = Never} (Err stop) now.view done (λ never. ⊥) → Ends (Err (of_view stop)) given all start job old now t
  stops_now (Missing need) job done t h = subst (λ (b : Held). Lacks (knows b) need) kept h
  stops_now (Bad key) job done t h = h
  stops_now NoMemory job done t h = tt
  stops_now (Own never) job done t h = absurd h

-- where nothing was written, the tables are the same
pub one_now : (given : Given) (old now : Work) (all : Lines) (start t u : Tables) → now.view ≡ old.view → HoldsIn given old all start t → HoldsIn given now all start u → u ≡ t
one_now given old now all start t u same before holds =
    let a : AreTablesOf (laid_all (writes_of old.view.lines) all) t = are_tables (laid_all (writes_of old.view.lines) all) given.schema.now t before.sound in
    let b : AreTablesOf (laid_all (writes_of now.view.lines) all) u = are_tables (laid_all (writes_of now.view.lines) all) given.schema.now u holds.sound in
    let moved : AreTablesOf (laid_all (writes_of old.view.lines) all) u = subst (λ (o : Over). AreTablesOf (laid_all (writes_of o.lines) all) u) same b in
    one_tables (laid_all (writes_of old.view.lines) all) u t moved a
