-- From what an action lacks to what is spared.
use Rattle.std.proofs.Common.{◌≡◌, ◌⊎◌, inl, inr, List, []}
use Rattle.rdo_ast.specs.Tree.{Act}
use Rattle.rdb_meaning.specs.declared.tables.Tables.{Tables}
use Rattle.line_view.specs.declared.need.Need.{Need}
use Rattle.line_view.specs.Knowledge.{Knowledge, Lines}
use Rattle.session_jobs.specs.declared.jobs.Found.{Found}
use Rattle.session_jobs.specs.declared.jobs.Found.TheVariants as found
use Rattle.rdo_exec.specs.rdo_acts.Selections.{chosen_in_act}
use Rattle.rdo_exec.specs.Needed.{IsOfCatalog, IsActNeed, IfLacking}
use Rattle.served_actions.specs.Served.{IsSpared}
use Rattle.served_actions.proofs.Spared.{indexed, spared}
use Rattle.served_jobs.specs.Served.{IsBoundTo, IsServedOver, IsSparedIn, IsSparedOver, IfMissing}

module _ (a : Act) (known : Knowledge) (all : Lines) (t : Tables) (served : IsServedOver a known all t) where
  spared_in : (need : Need) (later : List Need) → IsActNeed a known all t need later → IsSparedIn a known all t need
  spared_in need later n =
      let is : IsBoundTo a known n.given n.bound = record { catalog = n.catalog; together = n.together; written = n.written; placed = n.placed } in
      let then : IsSpared n.wants.tables n.given.sources.now.entries n.bound [] need = spared n.wants.tables n.given.sources.now.entries need n.bound [] (served.moments n.given n.bound is (record { work = n.wants.work; tables = n.wants.tables; holds = n.wants.holds; is = tt })) n.wants.is in
      record {
        no_area = then.no_area;
        given = n.given;
        bound = n.bound;
        is = is;
        reads = λ none. indexed t n.given.sources.now.entries need (chosen_in_act n.bound []) (served.start n.given n.bound is) (n.reads none);
        lacks = record { work = n.wants.work; tables = n.wants.tables; holds = n.wants.holds; is = then };
      }

  pub spared_over : (need : Need) (later : List Need) → (IsOfCatalog need × (later ≡ [])) ⊎ IsActNeed a known all t need later → IsSparedOver a known all t need
  spared_over need later (inl catalog) = inl catalog.0
  spared_over need later (inr n) = inr (spared_in need later n)

pub found_spared : (a : Act) (known : Knowledge) (all : Lines) (t : Tables) (f : Found) → IfLacking (λ need later. (IsOfCatalog need × (later ≡ [])) ⊎ IsActNeed a known all t need later) f → IsServedOver a known all t → IfMissing (IsSparedOver a known all t) f
found_spared a known all t (found.Done record') h served = tt
found_spared a known all t (found.Missing next later) h served = spared_over a known all t served next later h
found_spared a known all t (found.Bad key) h served = tt
found_spared a known all t found.Unworked h served = tt
found_spared a known all t found.NoMemory h served = tt
