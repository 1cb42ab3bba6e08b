-- Entries held one by one: of each key the first.
use Rattle.std.specs.Prelude.{if◌then◌else◌}
use Rattle.std.proofs.Common.{◌≡◌, Bool, true, false, cond, is_some, List, [], ◌∷◌, ◌++◌, Option, Some, None, refl, sym, ap, subst, ◌∙◌}
use Rattle.std.specs.declared.cmp.Ordering.{Ordering}
use Rattle.std.specs.declared.cmp.Ordering.TheVariants.{Less, Equal, Greater}
use Rattle.std.specs.Ordering.{is_eq}
use Rattle.std.specs.FinMap.Entries.{find, put, find-put}
use Rattle.rdb_types.specs.Order.{dbkey_order}
use Rattle.rdb_types.specs.OrderLaws.{dbkey_total, same_dbkey}
use Rattle.rdb_types.specs.declared.keys.Dbkey.{Dbkey}
use Rattle.rdb_types.specs.declared.keys.Line.{Line}

abbrev Lines : Type 0
Lines = List (Dbkey × Line)

-- the one, or where there is none, the other
abbrev either : Option Line → Option Line → Option Line
either None x = x
either (Some w) x = Some w

either_none : (o : Option Line) → either o None ≡ o
either_none None = refl
either_none (Some w) = refl

either_behind : (b : Bool) (w : Line) (o x : Option Line) → cond b (Some w) (either o x) ≡ either (cond b (Some w) o) x
either_behind true w o x = refl
either_behind false w o x = refl

ties : (o : Ordering) → is_eq o ≡ true → o ≡ Equal
ties Less is = cc
ties Equal is = refl
ties Greater is = cc

pub same_key : (q k : Dbkey) → is_eq (dbkey_order q k) ≡ true → q ≡ k
same_key q k is = same_dbkey q k (ties (dbkey_order q k) is)

-- what is found where an entry is put behind the others
find_behind : (es : Lines) (k : Dbkey) (v : Line) (q : Dbkey) → find dbkey_order q (es ++ (k, v) ∷ []) ≡ either (find dbkey_order q es) (cond (is_eq (dbkey_order q k)) (Some v) None)
find_behind [] k v q = refl
find_behind (e ∷ es) k v q =
    ap (λ (o : Option Line). cond (is_eq (dbkey_order q e.0)) (Some e.1) o) (find_behind es k v q)
    ∙ either_behind (is_eq (dbkey_order q e.0)) e.1 (find dbkey_order q es) (cond (is_eq (dbkey_order q k)) (Some v) None)

module _ (held es : Lines) (k : Dbkey) (v : Line) (same : (q : Dbkey) → find dbkey_order q held ≡ find dbkey_order q es) where
  abbrev behind : Dbkey → Option Line
  behind q = either (find dbkey_order q es) (cond (is_eq (dbkey_order q k)) (Some v) None)

  was_held : (w : Line) (q : Dbkey) → find dbkey_order k held ≡ Some w → (o : Option Line) → find dbkey_order q es ≡ o → (b : Bool) → is_eq (dbkey_order q k) ≡ b → o ≡ either o (cond b (Some v) None)
  was_held w q found (Some z) at b is = refl
  was_held w q found None at false is = refl
  was_held w q found None at true is =
      let key : q ≡ k = same_key q k is in
      let there : find dbkey_order k es ≡ None = subst (λ (n : Dbkey). find dbkey_order n es ≡ None) key at in
      let bad : Some w ≡ None = sym found ∙ same k ∙ there in absurd (let no : ⊥ = cc in no)

  wasnt_held : (q : Dbkey) → find dbkey_order k held ≡ None → (b : Bool) → is_eq (dbkey_order q k) ≡ b → cond b (Some v) (find dbkey_order q held) ≡ either (find dbkey_order q es) (cond b (Some v) None)
  wasnt_held q none false is = same q ∙ sym (either_none (find dbkey_order q es))
  wasnt_held q none true is =
      let key : q ≡ k = same_key q k is in
      let there : find dbkey_order q es ≡ None = subst (λ (n : Dbkey). find dbkey_order n es ≡ None) (sym key) (sym (same k) ∙ none) in
      ap (λ (o : Option Line). either o (Some v)) (sym there)

  -- what is held is what the entries have, with one more behind them
  pub held_more : (q : Dbkey) → find dbkey_order q (if is_some (find dbkey_order k held) then held else put dbkey_order k v held) ≡ find dbkey_order q (es ++ (k, v) ∷ [])
  held_more q =
      elim (find dbkey_order k held) as (λ o. find dbkey_order k held ≡ o → find dbkey_order q (if is_some o then held else put dbkey_order k v held) ≡ behind q) [
        | Some w ↦ λ found. same q ∙ was_held w q found (find dbkey_order q es) refl (is_eq (dbkey_order q k)) refl
        | None ↦ λ none. find-put dbkey_order dbkey_total q k v held ∙ wasnt_held q none (is_eq (dbkey_order q k)) refl
      ] refl
      ∙ sym (find_behind es k v q)
