-- The variables around an action, as the meaning has them.
use Rattle.std.specs.Prelude.{ℕ, List, map, Bool, true, false, ◌||◌, replicate}
use Rattle.std.specs.List.{AllByRecursion}
use Rattle.rdb_types.specs.declared.values.Value.TheVariants.{Missing}
use Rattle.rdb_meaning.specs.declared.scope.Binding.{Binding}
use Rattle.rdb_meaning.specs.declared.tables.Tables.{Tables}
use Rattle.rdb_meaning.specs.Contents.{Row, relation_named}
use Rattle.rdb_meaning.specs.Evaluation.{Scope, bind_source}
use Rattle.rdo_values.specs.Places.{IsRangeOf}
use Rattle.rdo_bind.specs.Acting.{Act, store, for_each, print, modify, erase, Acts, no_act, act}
use Rattle.rdo_acts.specs.declared.scope.BoundRow.{BoundRow}

abbrev pub binding_of : BoundRow → Binding
binding_of v = bind_source v.range.now.range v.key

abbrev pub scope_of : List BoundRow → Scope
scope_of variables = map binding_of variables

-- the range of each variable is that of a relation of the tables
abbrev pub AreRowsOf : Tables → List BoundRow → Type 0
AreRowsOf t variables = AllByRecursion (λ (v : BoundRow). IsRangeOf v.range.now (relation_named v.range.now.range.relation t)) variables

-- ---- actions that may write a row

abbrev mutual
  pub may_write : Act → Bool
  may_write (store s as') = true
  may_write (for_each s body) = may_write_any body
  may_write (print items) = false
  may_write (modify v as') = true
  may_write (erase v) = true

  pub may_write_any : Acts → Bool
  may_write_any no_act = false
  may_write_any (act a rest) = may_write a || may_write_any rest

abbrev pub missing_values : ℕ → Row
missing_values width = replicate width Missing
