-- The areas of the lines that a statement writes.
use Rattle.std.proofs.Common.{◌≡◌, ℕ, true, false, cond, List, [], ◌∷◌, Option, Some, inl, inr, refl, sym, ap, subst, ◌∙◌}
use Rattle.std.specs.Prelude.{◌⊎◌, ◌||◌, is_some}
use Rattle.std.specs.Ordering.{is_eq}
use Rattle.std.specs.List.{AllByRecursion}
use Rattle.std.specs.FinMap.Entries.{find, find-put}
use Rattle.std.proofs.lemmas.Bool.{eq-eqb}
use Rattle.std.proofs.lemmas.Cmp.{tied_itself}
use Rattle.rdb_types.specs.declared.keys.Dbkey.{Dbkey}
use Rattle.rdb_types.specs.Order.{dbkey_order}
use Rattle.rdb_types.specs.OrderLaws.{dbkey_total, same_dbkey}
use Rattle.line_view.specs.declared.writes.Write.{Write}
use Rattle.statement_view.specs.Over.{Over, is_written, with_over, writes_of}
use Rattle.statement_view.specs.Areas.{is_among, WritesOf}
use Rattle.statement_view.proofs.Laying.{Written, equal}

-- ---- one write

pub among_itself : (area : ℕ) → is_among (area ∷ []) area ≡ true
among_itself area = ap (λ b. b || false) (eq-eqb area area refl)

pub one_written : (old new : Over) (key : Dbkey) (image : Option (List ℕ)) → new ≡ with_over key image old → WritesOf (key.area ∷ []) old new
one_written old new key image is q here =
    elim (is_eq (dbkey_order q key)) as (λ b. is_eq (dbkey_order q key) ≡ b → is_some (cond b (Some image) (find dbkey_order q old.lines)) ≡ true → (is_written old.lines q ≡ true) ⊎ (is_among (key.area ∷ []) q.area ≡ true)) [
      | true ↦ λ tie h. inr (subst (λ (k : Dbkey). is_among (key.area ∷ []) k.area ≡ true) (sym (same_dbkey q key (equal _ tie))) (among_itself key.area))
      | false ↦ λ apart h. inl h
    ] refl (sym (ap is_some (ap (λ (o : Over). find dbkey_order q o.lines) is ∙ find-put dbkey_order dbkey_total q key image old.lines)) ∙ here)

-- ---- all writes

one_more : (key q : Dbkey) (image : Option (List ℕ)) (lines : Written) → is_written lines q ≡ true → is_written ((key, image) ∷ lines) q ≡ true
one_more key q image lines here = elim (is_eq (dbkey_order q key)) as (λ b. is_some (cond b (Some image) (find dbkey_order q lines)) ≡ true) [ true ↦ refl | false ↦ here ]

within_more : (key : Dbkey) (image : Option (List ℕ)) (lines : Written) (writes : List Write) → AllByRecursion (λ (w : Write). is_written lines w.key ≡ true) writes → AllByRecursion (λ (w : Write). is_written ((key, image) ∷ lines) w.key ≡ true) writes
within_more key image lines [] all = tt
within_more key image lines (w ∷ ws) all = (one_more key w.key image lines all.0, within_more key image lines ws all.1)

-- each of the writes of these lines is of one of them
pub all_written : (lines : Written) → AllByRecursion (λ (w : Write). is_written lines w.key ≡ true) (writes_of lines)
all_written [] = tt
all_written (e ∷ es) = (
  ap (λ r. is_some (cond (is_eq r) (Some e.1) (find dbkey_order e.0 es))) (tied_itself dbkey_total e.0),
  within_more e.0 e.1 es (writes_of es) (all_written es),
)
