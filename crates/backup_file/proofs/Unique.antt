-- The slots of a file are one backup at most.
use Rattle.std.proofs.Common.{◌≡◌, ℕ, ◌+◌, List, length, slice_get, get_or, Some, sym, ◌∙◌, ap, arith}
use Rattle.std.proofs.lemmas.List.{same_lists}
use Rattle.std.proofs.lemmas.Option.{slice_get-get_or}
use Rattle.backup_file.specs.declared.header.BackupHead.{BackupHead}
use Rattle.backup_file.specs.declared.line.BackupLine.{BackupLine}
use Rattle.backup_file.specs.Whole.{Stores}
use Rattle.backup_file.proofs.Readings.{one_head, one_line}

same_list : {A : Type 0} (xs ys : List A) → length xs ≡ length ys → ((i : ℕ) (x y : A) → slice_get xs i ≡ Some x → slice_get ys i ≡ Some y → x ≡ y) → xs ≡ ys
same_list xs ys size each = same_lists xs ys size (λ i d within. each i (get_or xs i d) (get_or ys i d) (slice_get-get_or xs i d within) (slice_get-get_or ys i d (omega (arith, within, size))))

pub same_head : (slots : ℕ → List ℕ) (a b : BackupHead) (xs ys : List BackupLine) → Stores slots a xs → Stores slots b ys → a ≡ b
same_head slots a b xs ys p q = one_head (slots 0) a b p.header q.header

pub same_lines : (slots : ℕ → List ℕ) (a b : BackupHead) (xs ys : List BackupLine) → Stores slots a xs → Stores slots b ys → xs ≡ ys
same_lines slots a b xs ys p q = same_list xs ys (sym p.count ∙ ap (λ (h : BackupHead). h.lines) (same_head slots a b xs ys p q) ∙ q.count) (λ i x y is also. one_line (slots (i + 1)) (i + 1) (i + 1) x y (p.each i x is) (q.each i y also))
