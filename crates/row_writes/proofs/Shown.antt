-- A line that is as it would be written.
use Rattle.std.proofs.Common.{◌≡◌, ℕ, true, false, cond, List, Option, Some, None, T, refl, sym, ap, subst, inl, ◌∙◌}
use Rattle.std.specs.Ordering.{is_eq}
use Rattle.std.specs.FinMap.Entries.{same_entries}
use Rattle.rdb_types.specs.declared.keys.Dbkey.{Dbkey}
use Rattle.rdb_types.specs.Order.{dbkey_order}
use Rattle.rdb_types.specs.OrderLaws.{dbkey_total, same_dbkey}
use Rattle.line_view.specs.Knowledge.{Lines, IsInOrder, line_in, laid}
use Rattle.line_view.proofs.FullMap.{laid_found}
use Rattle.statement_view.specs.Over.{Over, Stands, knows_over, laid_over}
use Rattle.statement_view.specs.Areas.{WritesOf}
use Rattle.statement_view.proofs.Laying.{equal, in_order, over_in_order}

-- a map with a line laid over it as it is there
laid_as_is : (key : Dbkey) (image : Option (List ℕ)) (all : Lines) → IsInOrder all → image ≡ line_in key all → laid key image all ≡ all
laid_as_is key image all sorted is =
    same_entries dbkey_order dbkey_total same_dbkey (laid key image all) all (subst T (sym (in_order key image all sorted)) tt) (subst T (sym sorted) tt)
    (λ q. laid_found q key image all
    ∙ elim (is_eq (dbkey_order q key)) as (λ b. is_eq (dbkey_order q key) ≡ b → cond b image (line_in q all) ≡ line_in q all) [
      | true ↦ λ tie. is ∙ ap (λ (k : Dbkey). line_in k all) (sym (same_dbkey q key (equal _ tie)))
      | false ↦ λ apart. refl
    ] refl)

-- it needn't be written
pub shown_laid : (o : Over) (key : Dbkey) (image : Option (List ℕ)) (first : Lines) → (knows_over o).line key ≡ Some image → Stands o first → laid_over o.lines first ≡ laid key image (laid_over o.lines first)
shown_laid o key image first shown stands = sym (laid_as_is key image (laid_over o.lines first) (over_in_order o.lines first stands.ordered) (stands.agrees.line key image shown))

pub nothing_written : (areas : List ℕ) (o : Over) → WritesOf areas o o
nothing_written areas o = λ key is. inl is
