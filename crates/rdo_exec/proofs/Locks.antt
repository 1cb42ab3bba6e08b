-- That an item may ask for the locks of what its work came to.
use Rattle.std.proofs.Common.{◌≡◌, inl, inr, ◌==◌, ℕ, true, false, cond, List, [], ◌∷◌, ◌++◌, Option, Some, None, refl, sym, ap, subst, ◌∙◌}
use Rattle.std.specs.List.{All, AllByRecursion}
use Rattle.std.specs.FinMap.Entries.{find}
use Rattle.std.proofs.lemmas.List.Elements.{recursion_from_All}
use Rattle.rdb_types.specs.declared.keys.Dbkey.{Dbkey}
use Rattle.rdb_types.specs.Order.{chars_order}
use Rattle.rdo_ast.specs.declared.reply.Reply.{Reply}
use Rattle.rdo_ast.specs.declared.reply.Standing.{Standing}
use Rattle.rdo_ast.specs.Tree.{Act, Command, Uttered, said, invoke, start_read_only, start_read_write, commit, rollback, finish, back_up, perform, define_field, define_relation, define_index, delete_relation, delete_index}
use Rattle.rdb_meaning.specs.declared.tables.Tables.{Tables}
use Rattle.rdb_meaning.specs.Checks.{Use, use_of, act_uses}
use Rattle.rdb_meaning.specs.Meaning.{standing_refusal, index_uses}
use Rattle.vms_queues.specs.declared.lock_mode.Mode.TheVariants.{PR}
use Rattle.rdb_account.specs.AskedFor.{area_node, is_need, is_on_line_of}
use Rattle.line_view.specs.declared.need.Need.{Need}
use Rattle.line_view.specs.declared.need.Need.TheVariants.{Line, Area, Room}
use Rattle.line_view.specs.declared.stop.Stop.{Stop}
use Rattle.line_view.specs.declared.stop.Stop.TheVariants as stop
use Rattle.line_view.specs.declared.stop.Never.{Never}
use Rattle.line_view.specs.declared.writes.Write.{Write}
use Rattle.line_view.specs.Knowledge.{Knowledge, Lines, Agrees, lines_in, keys_of}
use Rattle.line_view.specs.Stops.{Lacks}
use Rattle.catalog.specs.declared.reading.Catalog.{Catalog}
use Rattle.catalog.specs.Reading.{line_keys, ReadsTo, StopsCatalog}
use Rattle.catalog_definitions.proofs.FreeAreas.{eq_is}
use Rattle.sound_changes.proofs.Basics.{all_of}
use Rattle.statement_view.specs.Areas.{is_among, IsNeedOf}
use Rattle.row_writes.proofs.AreaLists.{one_more_area, need_wider}
use Rattle.view_stages.proofs.Ending.{begins}
use Rattle.used_areas.specs.Areas.{areas_read, areas_changed}
use Rattle.asked_areas.proofs.Jobs.{action_asks, action_writes, definition_asks_for, index_asks}
use Rattle.rdo_acts.specs.declared.acting.Outcome.{Outcome}
use Rattle.rdo_acts.specs.declared.acting.Outcome.TheVariants.{Done, Refused, Missing, Bad, NoMemory}
use Rattle.rdo_acts.specs.Ends.{reply_of}
use Rattle.rdo_acts.specs.Areas.{IsFor, StaysFor}
use Rattle.sound_maps.specs.Maps.{IsSoundWith}
use Rattle.session_jobs.specs.declared.jobs.Found.{Found}
use Rattle.session_jobs.specs.declared.jobs.Found.TheVariants as found
use Rattle.session_jobs.specs.Asked.{area_mode, is_lock_for, AsksFor}
use Rattle.session_jobs.specs.Jobs.{IsFound, IsLacking, AreAsked}
use Rattle.rdo_exec.specs.Answers.{found_of_stop, IsAnswered}
use Rattle.rdo_exec.specs.Ways.{names_any, IsViewing}
use Rattle.rdo_exec.specs.Coming.{IsCatalogOfKnown, Comes, AsksIn, Asks, ActStays}
use Rattle.rdo_exec.specs.Acted.{found_refused, IsFoundOf}
use Rattle.rdo_exec.specs.Areas.{FoundIn}

-- ---- what reads no lines

pub answered_asks : (word : List ℕ) (standing : Standing) (item : Uttered) (f : Found) (t : Tables) → IsAnswered word standing item f → AsksIn standing item f t
answered_asks word standing item (found.Done r) t h = subst (λ (ws : List Write). AreAsked standing item ws t) (sym h.2) tt
answered_asks word standing item (found.Missing next later) t h = absurd h
answered_asks word standing item (found.Bad key) t h = tt
answered_asks word standing item found.Unworked t h = tt
answered_asks word standing item found.NoMemory t h = tt

-- ---- reading the catalog

all_there : (a : ℕ) (es : Lines) → AllByRecursion (λ (k : Dbkey). (k.area == a) ≡ true) (keys_of (lines_in a es))
all_there a [] = tt
all_there a (e ∷ es) = elim (e.0.area == a) as (λ b. (e.0.area == a) ≡ b → AllByRecursion (λ (k : Dbkey). (k.area == a) ≡ true) (keys_of (cond b (e ∷ lines_in a es) (lines_in a es)))) [
  | true ↦ λ h. (h, all_there a es)
  | false ↦ λ h. all_there a es
] refl

at_middle : (P : Dbkey → Type 0) (before behind : List Dbkey) (key : Dbkey) → AllByRecursion P (before ++ key ∷ behind) → P key
at_middle P [] behind key each = each.0
at_middle P (k ∷ ks) behind key each = at_middle P ks behind key each.1

pub next_there : (known : Knowledge) (all : Lines) (key : Dbkey) → Agrees known all → ReadsTo known key → key.area ≡ 1
next_there known all key agrees reads =
    let keys = agrees.area 1 (line_keys reads.before ++ key ∷ reads.behind) reads.keys in
    eq_is key.area 1 (at_middle (λ (k : Dbkey). (k.area == 1) ≡ true) (line_keys reads.before) reads.behind key
    (subst (AllByRecursion (λ (k : Dbkey). (k.area == 1) ≡ true)) (sym keys) (all_there 1 all)))

-- where an item reads the whole catalog, it may ask for what it lacks of it
pub unread_asks : (standing : Standing) (item : Uttered) (known : Knowledge) (why : Stop Never) → ((t : Tables) → AsksFor standing item t (is_need (area_node 1) (area_mode item 1))) → StopsCatalog known why → Asks standing item known (found_of_stop why)
unread_asks standing item known (stop.Missing (Area area)) asks h = λ all t sound agrees. (subst (λ (a : ℕ). AsksFor standing item t (is_lock_for item (Area a))) (sym h.0) (asks t), tt)
unread_asks standing item known (stop.Missing (Line key)) asks h = λ all t sound agrees.
    let at = next_there known all key agrees h.0 in
    ((λ takes lock is. asks t takes lock (sym (ap (λ a. cond (a == 1) (is_need (area_node 1) (area_mode item 1) lock) (is_on_line_of a PR lock)) at) ∙ is)), tt)
unread_asks standing item known (stop.Missing (Room room)) asks h = absurd h
unread_asks standing item known (stop.Bad key) asks h = λ all t sound agrees. tt
unread_asks standing item known stop.NoMemory asks h = λ all t sound agrees. tt
unread_asks standing item known (stop.Own never) asks h = elim never [ ]

-- ---- statements over a view

some_use : (us : List Use) → names_any us ≡ true → (u : Use) × (rest : List Use) × (us ≡ u ∷ rest)
some_use [] names = let bad : ⊥ = cc in absurd bad
some_use (u ∷ us) names = (u, us, refl)

-- each reads the catalog
pub catalog_asks : (standing : Standing) (command : Command) (t : Tables) → standing_refusal command standing ≡ None → IsViewing command → AsksFor standing (said command) t (is_need (area_node 1) (area_mode (said command) 1))
catalog_asks standing (perform a) t none way = let some = some_use (act_uses a []) way in action_asks standing a t some.0 some.1 (Area 1) none some.2 refl
catalog_asks standing (define_field n type) t none way = definition_asks_for standing (define_field n type) t [] (Area 1) none refl (λ lock. refl) refl
catalog_asks standing (define_relation n fs) t none way = definition_asks_for standing (define_relation n fs) t [] (Area 1) none refl (λ lock. refl) refl
catalog_asks standing (define_index d) t none way = index_asks standing d t (Area 1) none refl
catalog_asks standing (delete_relation n) t none way = definition_asks_for standing (delete_relation n) t (use_of true n ∷ []) (Area 1) none refl (λ lock. refl) refl
catalog_asks standing (delete_index n) t none way = definition_asks_for standing (delete_index n) t (index_uses (find chars_order n t.indexes) t) (Area 1) none refl (λ lock. refl) refl
catalog_asks standing (invoke text) t none way = absurd way
catalog_asks standing start_read_only t none way = absurd way
catalog_asks standing (start_read_write wait rs) t none way = absurd way
catalog_asks standing commit t none way = absurd way
catalog_asks standing rollback t none way = absurd way
catalog_asks standing finish t none way = absurd way
catalog_asks standing (back_up n) t none way = absurd way

-- needs and writes that are asked for by their areas
pub found_asks : (standing : Standing) (item : Uttered) (t : Tables) (read changed : List ℕ) (f : Found) → ((need : Need) → IsNeedOf read changed need → AsksFor standing item t (is_lock_for item need)) →
    ((writes : List Write) → AllByRecursion (λ (w : Write). is_among changed w.key.area ≡ true) writes → AreAsked standing item writes t) → FoundIn read changed f → AsksIn standing item f t
found_asks standing item t read changed (found.Done r) needs writes stays = writes r.writes stays
found_asks standing item t read changed (found.Missing next later) needs writes stays = all_of (IsNeedOf read changed) (λ (need : Need). AsksFor standing item t (is_lock_for item need)) needs (next ∷ later) stays
found_asks standing item t read changed (found.Bad key) needs writes stays = tt
found_asks standing item t read changed found.Unworked needs writes stays = tt
found_asks standing item t read changed found.NoMemory needs writes stays = tt

-- ---- actions

module _ (read changed : List ℕ) (behind : Standing) where
  refused_stays : (o : Option Reply) (given : List Dbkey) → FoundIn read changed (found_refused o given behind)
  refused_stays (Some reply) given = tt
  refused_stays None given = tt

acted_stays : (us : List Use) (t : Tables) (known : Knowledge) (behind : Standing) (outcome : Outcome) (f : Found) → IsFoundOf outcome known behind f → IsFor outcome us t → FoundIn (areas_read t us) (areas_changed t us) f
acted_stays us t known behind (Done acted) f is stays = subst (FoundIn (areas_read t us) (areas_changed t us)) (sym is) stays
acted_stays us t known behind (Refused refusal given) f (inl is) stays = subst (FoundIn (areas_read t us) (areas_changed t us)) (sym is) (refused_stays (areas_read t us) (areas_changed t us) behind (reply_of refusal) given)
acted_stays us t known behind (Refused refusal given) f (inr is) stays = subst (FoundIn (areas_read t us) (areas_changed t us)) (sym is) tt
acted_stays us t known behind (Missing needs) f is stays =
    subst (FoundIn (areas_read t us) (areas_changed t us)) (sym is.is)
    (recursion_from_All (IsNeedOf (areas_read t us) (areas_changed t us)) (is.next ∷ is.later) (subst (λ (ns : List Need). All (IsNeedOf (areas_read t us) (areas_changed t us)) ns) is.all stays))
acted_stays us t known behind (Bad key) f is stays = subst (FoundIn (areas_read t us) (areas_changed t us)) (sym is) tt
acted_stays us t known behind NoMemory f is stays = subst (FoundIn (areas_read t us) (areas_changed t us)) (sym is) tt

pub acted_so : (a : Act) (c : Catalog) (known : Knowledge) (behind : Standing) → IsCatalogOfKnown known c → (outcome : Outcome) (f : Found) → IsFoundOf outcome known behind f → StaysFor outcome a known c → ActStays a known f
acted_so a c known behind decodes outcome f is stays = λ all t sound agrees.
    acted_stays (act_uses a []) t known behind outcome f is (stays all t agrees (begins known c all t sound.0 agrees (decodes all agrees) sound.1 sound.2))

-- where the transaction that is open doesn't refuse an action that names a relation, it asks for what it came to
pub acted_asks : (a : Act) (known : Knowledge) (standing : Standing) (f : Found) → standing_refusal (perform a) standing ≡ None → names_any (act_uses a []) ≡ true → ActStays a known f → Asks standing (said (perform a)) known f
acted_asks a known standing f none names stays = λ all t sound agrees.
    let us = act_uses a [] in
    let some = some_use us names in
    found_asks standing (said (perform a)) t (areas_read t us) (areas_changed t us) f
    (λ need of. action_asks standing a t some.0 some.1 need none some.2 (need_wider (areas_read t us) (areas_changed t us) (1 ∷ areas_read t us) (areas_changed t us) (one_more_area 1 (areas_read t us)) (λ area h. h) need of))
    (λ writes each. action_writes standing a t writes none each)
    (stays all t sound agrees)

-- ---- all together

all_lacking : (standing : Standing) (item : Uttered) (known : Knowledge) (t : Tables) (needs : List Need) → AllByRecursion (Lacks known) needs → AllByRecursion (λ need. AsksFor standing item t (is_lock_for item need)) needs → AllByRecursion (IsLacking standing item known t) needs
all_lacking standing item known t [] lacks asks = tt
all_lacking standing item known t (n ∷ ns) lacks asks = (record { unknown = lacks.0; asked = asks.0 }, all_lacking standing item known t ns lacks.1 asks.1)

pub found_by : (word : List ℕ) (standing : Standing) (item : Uttered) (known : Knowledge) (f : Found) → Asks standing item known f → Comes word standing item known f → IsFound IsSoundWith word standing item known f
found_by word standing item known (found.Done r) asks h = record { right = record { usual = h.usual; does = h.over }; asked = asks }
found_by word standing item known (found.Missing next later) asks h = λ all t sound agrees. all_lacking standing item known t (next ∷ later) (h.over all t sound agrees) (asks all t sound agrees)
found_by word standing item known (found.Bad key) asks h = λ all t sound agrees. h.over all t sound agrees
found_by word standing item known found.Unworked asks h = tt
found_by word standing item known found.NoMemory asks h = tt
