-- Work in turn.
use Rattle.std.proofs.Common.{◌≡◌, [], ◌++◌, refl, sym, ap, ◌∙◌}
use Rattle.std.proofs.lemmas.List.{append-nil, append_assoc}
use Rattle.rdb_meaning.specs.declared.tables.Tables.{Tables}
use Rattle.rdb_meaning.specs.Execution.{World, world, Ran, ran, and_then}
use Rattle.line_view.specs.Knowledge.{Knowledge, Lines}
use Rattle.catalog.specs.declared.reading.Catalog.{Catalog}
use Rattle.view_stages.specs.Stages.{Stage, Holds, Goes}

-- nothing is done
pub goes_nowhere : (known : Knowledge) (c : Catalog) (all : Lines) (start : Tables) (job : World → Ran) (s : Stage) (t : Tables) → Holds known c all start s t → Goes known c all start job job s s t
goes_nowhere known c all start job s t holds = record { tables = t; holds = holds; fresh = []; gives = sym (append-nil s.given); comes = λ left. refl }

-- one job, and then the next
pub goes_on : (known : Knowledge) (c : Catalog) (all : Lines) (start : Tables) (job next rest : World → Ran) (from mid to : Stage) (t : Tables) → Goes known c all start job ran from mid t →
    ((now : Tables) → Holds known c all start mid now → Goes known c all start next rest mid to now) → Goes known c all start (λ w. and_then (job w) next) rest from to t
goes_on known c all start job next rest from mid to t one more =
    let two = more one.tables one.holds in
    record {
      tables = two.tables;
      holds = two.holds;
      fresh = one.fresh ++ two.fresh;
      gives = two.gives ∙ ap (λ l. l ++ two.fresh) one.gives ∙ append_assoc from.given one.fresh two.fresh;
      comes = λ left.
          ap (λ l. and_then (job (world t l from.lines)) next) (append_assoc one.fresh two.fresh left)
          ∙ ap (λ r. and_then r next) (one.comes (two.fresh ++ left))
          ∙ two.comes left;
    }

-- a refusal on the way ends the work
pub goes_wrong : (known : Knowledge) (c : Catalog) (all : Lines) (start : Tables) (job next wrong : World → Ran) (from to : Stage) (t : Tables) → ((w : World) → and_then (wrong w) next ≡ wrong w) → Goes known c all start job wrong from to t →
    Goes known c all start (λ w. and_then (job w) next) wrong from to t
goes_wrong known c all start job next wrong from to t ends one = record {
  tables = one.tables;
  holds = one.holds;
  fresh = one.fresh;
  gives = one.gives;
  comes = λ left. ap (λ r. and_then r next) (one.comes left) ∙ ends (world one.tables left to.lines);
}
