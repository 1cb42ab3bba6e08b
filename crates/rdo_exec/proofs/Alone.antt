-- What an action comes to that is done over no lines.
use Rattle.std.proofs.Common.{◌≡◌, ◌++◌, ℕ, true, false, cond, List, [], ◌∷◌, Some, None, option_map, refl, sym, ap, subst, ◌∙◌}
use Rattle.rdo_ast.specs.declared.reply.Standing.{Standing}
use Rattle.rdo_ast.specs.Tree.{Act, store, for_each, print, modify, erase, perform, said}
use Rattle.rdb_meaning.specs.declared.tables.Tables.{Tables}
use Rattle.rdb_meaning.specs.Contents.{no_tables, relation_named}
use Rattle.rdb_meaning.specs.Checks.{Use, act_uses}
use Rattle.line_view.specs.declared.need.Need.TheVariants.{Line, Area, Room}
use Rattle.catalog.specs.declared.reading.Catalog.{Catalog}
use Rattle.catalog.specs.declared.directory.PlacedLine.{PlacedLine}
use Rattle.catalog.specs.Reading.{IsCatalogOf, line_keys}
use Rattle.catalog.specs.Schema.{catalog_tables}
use Rattle.schema_alone.specs.Schema.{bare}
use Rattle.statement_view.specs.Areas.{is_among}
use Rattle.used_areas.specs.Areas.{relation_areas, areas_read, areas_changed}
use Rattle.rdo_acts.specs.Unwritten.{IsUnwrittenOver}
use Rattle.rdo_exec.specs.Left.{IsStrange, IsLeftOver, strange, unwritten, no_room, no_index_room, full_index, astray}
use Rattle.line_view.specs.Knowledge.{Knowledge, Lines, Agrees}
use Rattle.line_view.specs.Held.{knows, nothing}
use Rattle.sound_maps.specs.Laws.{empty}
use Rattle.session_jobs.specs.declared.jobs.Found.{Found}
use Rattle.session_jobs.specs.declared.jobs.Found.TheVariants as found
use Rattle.rdo_exec.specs.Answers.{IsAnswered}
use Rattle.rdo_exec.specs.Ways.{IsDefining, HasNoRange, is_bare}
use Rattle.rdo_exec.specs.Coming.{Comes, ActStays}
use Rattle.rdo_exec.specs.Acted.{IsSettled, IsAlone}
use Rattle.rdo_exec.proofs.BareActions.{does_everywhere}

pub nothing_agrees : (all : Lines) → Agrees (knows nothing) all
nothing_agrees all = record {
  line = λ key what h. cc;
  area = λ area keys h. cc;
  within = λ room key h. cc;
  free = λ room key h. cc;
  apart = λ a b key h k. cc;
}

-- ---- nothing is lacked

none_read : (us : List Use) → areas_read no_tables us ≡ []
none_read [] = refl
none_read (u ∷ us) = none_read us

none_changed : (us : List Use) → areas_changed no_tables us ≡ []
none_changed [] = refl
none_changed (u ∷ us) = elim u.changes as (λ b. cond b (relation_areas no_tables None) [] ++ areas_changed no_tables us ≡ []) [ true ↦ none_changed us | false ↦ none_changed us ]

-- ---- the answer

lines_none : (ps : List PlacedLine) → line_keys ps ≡ [] → ps ≡ []
lines_none [] none = refl
lines_none (p ∷ ps) none = let bad : ⊥ = cc in absurd bad

no_catalog_tables : (c : Catalog) → IsCatalogOf [] c → c.tables ≡ no_tables
no_catalog_tables c decodes = decodes.tables ∙ ap catalog_tables (lines_none c.lines decodes.lines.keys)

-- there is no relation whose row can't be written
none_there : (a : Act) (known : Knowledge) (c : Catalog) → IsCatalogOf [] c → IsUnwrittenOver known [] c a no_tables → ⊥
none_there a known c decodes h =
    let same : c.tables ≡ no_tables = no_catalog_tables c decodes in
    let there = subst (λ (t : Tables). option_map bare (relation_named h.name t) ≡ Some (bare (h.unwritable).relation)) same (h.unwritable).there in
    let bad : ⊥ = cc in bad

bare_ranged : (a : Act) → is_bare a ≡ true → HasNoRange a → ⊥
bare_ranged (store s as') bare_act none = none
bare_ranged (for_each r cs body) bare_act none = let bad : ⊥ = cc in bad
bare_ranged (print items) bare_act none = let is = none.0 in let bad : ⊥ = cc in bad
bare_ranged (modify n as') bare_act none = none
bare_ranged (erase n) bare_act none = none

left_alone : (word : List ℕ) (standing : Standing) (a : Act) (known : Knowledge) → is_bare a ≡ true → IsLeftOver word standing (said (perform a)) known [] no_tables → ⊥
left_alone word standing a known bare_act (strange command is why) =
    let same : command ≡ perform a = cc in
    bare_ranged a bare_act (subst IsStrange same why)
left_alone word standing a known bare_act (unwritten b c is decodes h) = none_there b known c decodes h
left_alone word standing a known bare_act (no_room command is defines rooms) =
    let same : command ≡ perform a = cc in
    subst IsDefining same defines
left_alone word standing a known bare_act (no_index_room d c base is decodes same rooms) = let bad : ⊥ = cc in bad
left_alone word standing a known bare_act (full_index d c base is decodes same full) = let bad : ⊥ = cc in bad
left_alone word standing a known bare_act (astray d c need is decodes lacks elsewhere) = let bad : ⊥ = cc in bad

-- over no lines an action finds no bad line, and what it may lack is of no relation
pub settled : (word : List ℕ) (standing : Standing) (a : Act) (known : Knowledge) (f : Found) → is_bare a ≡ true → Agrees known [] → Comes word standing (said (perform a)) known f → ActStays a known f → IsSettled f
settled word standing a known (found.Done x) alone agrees comes stays = tt
settled word standing a known (found.Missing (Line key) later) alone agrees comes stays =
    let among = subst (λ areas. is_among areas key.area ≡ true) (none_read (act_uses a [])) (stays [] no_tables empty agrees).0 in
    let bad : ⊥ = cc in bad
settled word standing a known (found.Missing (Area area) later) alone agrees comes stays =
    let among = subst (λ areas. is_among areas area ≡ true) (none_read (act_uses a [])) (stays [] no_tables empty agrees).0 in
    let bad : ⊥ = cc in bad
settled word standing a known (found.Missing (Room room) later) alone agrees comes stays =
    let among = subst (λ areas. is_among areas room.area ≡ true) (none_changed (act_uses a [])) (stays [] no_tables empty agrees).0 in
    let bad : ⊥ = cc in bad
settled word standing a known (found.Bad key) alone agrees comes stays = comes.over [] no_tables empty agrees
settled word standing a known found.Unworked alone agrees comes stays = left_alone word standing a known alone (comes.over [] no_tables empty agrees)
settled word standing a known found.NoMemory alone agrees comes stays = tt

pub alone_answers : (word : List ℕ) (standing : Standing) (a : Act) (known : Knowledge) (f g : Found) → is_bare a ≡ true → Agrees known [] → Comes word standing (said (perform a)) known f → IsAlone f g →
    IsAnswered word standing (said (perform a)) g
alone_answers word standing a known (found.Done x) g alone agrees comes is =
    let so = comes.over [] no_tables empty agrees in
    subst (λ (r : Found). IsAnswered word standing (said (perform a)) r) (sym is)
    (does_everywhere word a standing x.choices x.reply so.then x.standing alone so.does, comes.usual, refl)
alone_answers word standing a known (found.Missing next later) g alone agrees comes is = absurd is
alone_answers word standing a known (found.Bad key) g alone agrees comes is = absurd is
alone_answers word standing a known found.Unworked g alone agrees comes is = absurd is
alone_answers word standing a known found.NoMemory g alone agrees comes is = subst (λ (r : Found). IsAnswered word standing (said (perform a)) r) (sym is) tt
