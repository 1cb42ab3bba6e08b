-- An entry more is undone.
use Rattle.std.proofs.Common.{◌≡◌, ◌≢◌, ℕ, ◌-◌, ◌≤◌, Some, slice_get, ⊎_elim, ap, sym, subst, ◌∙◌, arith}
use Rattle.rdb_types.specs.declared.keys.Dbkey.{Dbkey}
use Rattle.rdb_types.specs.declared.keys.Line.{Line}
use Rattle.rdb_outside.specs.Disk.{Image}
use Rattle.line_moves.specs.stable_lines.Slots.{Undo, line_at}
use Rattle.line_moves.specs.stable_lines.Progress.{Open, Progress}
use Rattle.line_moves.specs.stable_lines.Facts.{PendingContents, Facts}
use Rattle.line_moves.specs.Changes.{IsUndoing}
use Rattle.line_moves.proofs.LinePut.{same_key}
use Rattle.line_moves.proofs.Putting.{nat_cases}
use Rattle.line_opening.specs.Undoing.{MayUndo, AreUndone}

pub one_of_it : (P Q : PendingContents) (now : Progress) (member : ℕ) (o : Open) (entries pages index : ℕ) → MayUndo P now member o entries pages → Facts Q now → 1 ≤ index → index ≤ entries → IsUndoing Q now member o index pages
one_of_it P Q now member o entries pages index may facts first last = record {
  facts = facts;
  is_open = may.is_open;
  first = first;
  last = let within = may.within in omega (arith, last, within);
  limit = may.limit;
  not_flying = may.not_flying;
}

pub one_more_undone : (old new : Image) (o : Open) (index : ℕ) (u : Undo) → 1 ≤ index → slice_get o.entries (index - 1) ≡ Some u
    → (line_at new u.key).tsn.number ≢ o.tsn.number → ((key : Dbkey) → key ≢ u.key → line_at new key ≡ line_at old key) → AreUndone old o index → AreUndone new o (index - 1)
one_more_undone old new o index u first got_u here others was i undo le got = ⊎_elim
    (λ (same : i ≡ index - 1). subst (λ (v : Undo). (line_at new v.key).tsn.number ≢ o.tsn.number) (one_of u undo (sym got_u ∙ ap (λ (n : ℕ). slice_get o.entries n) (sym same) ∙ got)) here)
    (λ apart. behind (omega (arith, le, apart, first)))
    (nat_cases i (index - 1))
  where
    one_of : (a b : Undo) → Some a ≡ Some b → a ≡ b
    one_of a b same = cc

    behind : index ≤ i → (line_at new undo.key).tsn.number ≢ o.tsn.number
    behind more bears = ⊎_elim
        (λ keys. here (ap (λ (k : Dbkey). (line_at new k).tsn.number) (sym keys) ∙ bears))
        (λ apart. was i undo more got (ap (λ (l : Line). l.tsn.number) (sym (others undo.key apart)) ∙ bears))
        (same_key undo.key u.key)
