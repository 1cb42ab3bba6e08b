-- The lines of a backup as a map.
use Rattle.std.proofs.Common.{◌≡◌, ℕ, suc, Bool, true, false, cond, List, [], ◌∷◌, ◌++◌, Some, None, slice_get, refl, sym, ap, ◌∙◌}
use Rattle.std.specs.declared.cmp.Ordering.{Ordering}
use Rattle.std.specs.declared.cmp.Ordering.TheVariants.{Less, Equal, Greater}
use Rattle.std.specs.Ordering.{is_eq, ordering_reverse}
use Rattle.std.specs.Cmp.{tied_itself}
use Rattle.std.specs.FinMap.Entries.{find, find-append}
use Rattle.rdb_types.specs.Order.{dbkey_order}
use Rattle.rdb_types.specs.OrderLaws.{dbkey_total, same_dbkey}
use Rattle.rdb_types.specs.declared.keys.Dbkey.{Dbkey}
use Rattle.line_view.specs.Knowledge.{Lines}
use Rattle.backup_file.specs.declared.line.BackupLine.{BackupLine}
use Rattle.backup_file.specs.Whole.{lines_in}

ties : (o : Ordering) → is_eq o ≡ true → o ≡ Equal
ties Less is = cc
ties Equal is = refl
ties Greater is = cc

same_key : (q k : Dbkey) → is_eq (dbkey_order q k) ≡ true → q ≡ k
same_key q k is = same_dbkey q k (ties (dbkey_order q k) is)

-- a key behind another isn't that one
pub not_tied : (a b : Dbkey) → dbkey_order a b ≡ Less → is_eq (dbkey_order b a) ≡ false
not_tied a b less = ap is_eq (dbkey_total.antisymm b a ∙ ap ordering_reverse less)

pub none_found : (lines : List BackupLine) (key : Dbkey) → ((i : ℕ) (l : BackupLine) → slice_get lines i ≡ Some l → is_eq (dbkey_order key l.key) ≡ false) → find dbkey_order key (lines_in lines) ≡ None
none_found [] key off = refl
none_found (l ∷ ls) key off = ap (λ (b : Bool). cond b (Some l.image) (find dbkey_order key (lines_in ls))) (off 0 l refl) ∙ none_found ls key (λ i x got. off (suc i) x got)

-- a line that is found is one of them
pub record IsFound (lines : List BackupLine) (key : Dbkey) (bytes : List ℕ) : Type 0 where
  pub index : ℕ
  pub line : BackupLine
  pub is : slice_get lines index ≡ Some line
  pub keys : line.key ≡ key
  pub bytes_are : line.image ≡ bytes

pub some_found : (lines : List BackupLine) (key : Dbkey) (bytes : List ℕ) → find dbkey_order key (lines_in lines) ≡ Some bytes → IsFound lines key bytes
some_found [] key bytes found = let bad : None ≡ Some bytes = found in absurd (cc)
some_found (l ∷ ls) key bytes found = by (λ f. some_found ls key bytes f) (is_eq (dbkey_order key l.key)) refl
  where
    some_back : (x y : List ℕ) → Some x ≡ Some y → x ≡ y
    some_back x y same = cc

    by : (find dbkey_order key (lines_in ls) ≡ Some bytes → IsFound ls key bytes) → (b : Bool) → is_eq (dbkey_order key l.key) ≡ b → IsFound (l ∷ ls) key bytes
    by more true is = record { index = 0; line = l; is = refl; keys = sym (same_key key l.key is); bytes_are = some_back l.image bytes (sym (ap (λ (t : Bool). cond t (Some l.image) (find dbkey_order key (lines_in ls))) is) ∙ found) }
    by more false is =
        let rest = more (sym (ap (λ (t : Bool). cond t (Some l.image) (find dbkey_order key (lines_in ls))) is) ∙ found) in
        record { index = suc rest.index; line = rest.line; is = rest.is; keys = rest.keys; bytes_are = rest.bytes_are }

lines_last : (lines : List BackupLine) (line : BackupLine) → lines_in (lines ++ line ∷ []) ≡ lines_in lines ++ (line.key, line.image) ∷ []
lines_last [] line = refl
lines_last (l ∷ ls) line = ap (λ (es : Lines). (l.key, l.image) ∷ es) (lines_last ls line)

-- with a line more
found_with : (lines : List BackupLine) (line : BackupLine) (key : Dbkey) → find dbkey_order line.key (lines_in lines) ≡ None → find dbkey_order key (lines_in (lines ++ line ∷ [])) ≡ cond (is_eq (dbkey_order key line.key)) (Some line.image) (find dbkey_order key (lines_in lines))
found_with lines line key none = ap (λ (es : Lines). find dbkey_order key es) (lines_last lines line) ∙ find-append dbkey_order dbkey_total (lines_in lines) line.key line.image key none

pub found_here : (lines : List BackupLine) (line : BackupLine) → find dbkey_order line.key (lines_in lines) ≡ None → find dbkey_order line.key (lines_in (lines ++ line ∷ [])) ≡ Some line.image
found_here lines line none = found_with lines line line.key none ∙ ap (λ (b : Bool). cond b (Some line.image) (find dbkey_order line.key (lines_in lines))) (ap is_eq (tied_itself dbkey_total line.key))

pub found_other : (lines : List BackupLine) (line : BackupLine) (key : Dbkey) → find dbkey_order line.key (lines_in lines) ≡ None → (key ≡ line.key → ⊥) → find dbkey_order key (lines_in (lines ++ line ∷ [])) ≡ find dbkey_order key (lines_in lines)
found_other lines line key none apart = found_with lines line key none ∙ ap (λ (b : Bool). cond b (Some line.image) (find dbkey_order key (lines_in lines))) (off (is_eq (dbkey_order key line.key)) refl)
  where
    off : (b : Bool) → is_eq (dbkey_order key line.key) ≡ b → b ≡ false
    off true is = absurd (apart (same_key key line.key is))
    off false is = refl
