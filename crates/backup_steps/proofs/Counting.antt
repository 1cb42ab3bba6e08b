-- A backup has no more lines than the map, and a line of the map that may be copied is fit to be.
use Rattle.std.proofs.Common.{◌≡◌, ◌≤◌, ◌<◌, ℕ, Bool, true, false, not, cond, T, List, length, Option, Some, None, ◌⊎◌, refl, sym, ap, subst, ◌∙◌, inl, inr, arith}
use Rattle.std.specs.List.{filter}
use Rattle.std.proofs.lemmas.Bool.{cases_lt, false≢true}
use Rattle.std.proofs.lemmas.List.{length-map}
use Rattle.std.proofs.lemmas.List.Filters.{length-filter_both}
use Rattle.std.specs.FinMap.Entries.{find, find-where_key, is_sorted-where_key, same_entries}
use Rattle.rdb_types.specs.Order.{dbkey_order}
use Rattle.rdb_types.specs.OrderLaws.{dbkey_total, same_dbkey}
use Rattle.rdb_types.specs.declared.keys.Dbkey.{Dbkey}
use Rattle.rdb_types.specs.declared.keys.Line.{Line}
use Rattle.rdb_outside.specs.Disk.{View}
use Rattle.rdb_page.specs.Page.{IsClass}
use Rattle.line_view.specs.Knowledge.{Lines, IsInOrder, line_in}
use Rattle.line_versions.specs.Versions.{Start, sees}
use Rattle.line_versions.proofs.Walks.{sees_future}
use Rattle.backup_file.specs.declared.line.BackupLine.{BackupLine}
use Rattle.backup_file.specs.Whole.{lines_in}
use Rattle.backup_making.specs.declared.making.Stage.{Stage}
use Rattle.backup_making.specs.declared.making.Stage.TheVariants.{Open}
use Rattle.backup_making.specs.Making.{Former}
use Rattle.next_lines.specs.declared.next.NextLine.{NextLine}
use Rattle.next_lines.specs.Next.{Leads}
use Rattle.next_lines.specs.partial_backup.declared.copying.Copying.{Copying}
use Rattle.next_lines.specs.partial_backup.Partial.{is_left, Reaches, HasAt, IsCopying}
use Rattle.version_reading.specs.Answer.{shown_of}
use Rattle.backup_steps.specs.Copies.{MayBeCopied, IsUnfit}

-- ---- how many lines there are

to_T : (b : Bool) → b ≡ true → T b
to_T b is = subst (λ x. T x) (sym is) tt

module _ (from : Option Dbkey) (lines found : Lines) (ordered : IsInOrder lines) (reaches : Reaches from lines found) where
  is_passed : (b : Bool) (q : Dbkey) → is_left from q ≡ b → find dbkey_order q found ≡ cond (not b) (find dbkey_order q lines) None
  is_passed true q is = reaches.none q is
  is_passed false q is = reaches.each q is

  same : found ≡ filter (λ (e : Dbkey × List ℕ). not (is_left from e.0)) lines
  same = same_entries dbkey_order dbkey_total same_dbkey found (filter (λ (e : Dbkey × List ℕ). not (is_left from e.0)) lines) (to_T _ reaches.in_order) (is_sorted-where_key dbkey_order (λ (key : Dbkey). not (is_left from key)) lines (to_T _ ordered))
      (λ q. is_passed (is_left from q) q refl ∙ sym (find-where_key dbkey_order (λ (key : Dbkey). not (is_left from key)) q (λ x tie. ap (λ (k : Dbkey). not (is_left from k)) (sym (same_dbkey q x tie))) lines))

  pub no_more : length found ≤ length lines
  no_more = let both = length-filter_both {X = Dbkey × List ℕ} (λ e. not (is_left from e.0)) (λ e. is_left from e.0) (λ e. double (is_left from e.0)) lines in
      let long = ap length same in omega (arith, both, long)
    where
      double : (b : Bool) → b ≡ not (not b)
      double true = refl
      double false = refl

count_in : (copies : List BackupLine) → length (lines_in copies) ≡ length copies
count_in copies = length-map copies (λ (l : BackupLine). (l.key, l.image))

pub few_lines : (former : Former) (classes : ℕ → ℕ) (lines : Lines) (v : View) (c : Copying) → IsInOrder lines → c.backup.stage ≡ Open → IsCopying former classes lines v c → c.backup.lines ≤ length lines
few_lines former classes lines v c ordered opens is =
    let le = no_more c.from lines (lines_in is.copies) ordered (subst (λ (s : Stage). HasAt s c.from lines (lines_in is.copies)) opens is.has) in
    let count = is.at.count in let same = count_in is.copies in omega (arith, le, count, same)

-- ---- a line that may be copied

seen_before : (start : Start) (t : ℕ) → sees start t ≡ true → t < start.next
seen_before start t is = by (cases_lt t start.next)
  where
    by : (t < start.next) ⊎ (start.next ≤ t) → t < start.next
    by (inl lt) = lt
    by (inr le) = absurd (false≢true (sym (sees_future start t le) ∙ is))

pub never_unfit : (classes : ℕ → ℕ) (lines : Lines) (start : Start) (from : Option Dbkey) (next : NextLine) (count : ℕ) (version : Option Line) → MayBeCopied classes lines start → Leads classes lines from (Some next) → shown_of version ≡ line_in next.key lines
    → ((line : Line) → version ≡ Some line → sees start line.tsn.number ≡ true) → count ≤ length lines → IsUnfit count next version → ⊥
never_unfit classes lines start from next count version may leads shows ended le unfit = unfit.unfit (record {
  allowed = record {
    class = subst IsClass (sym class) (may.class next.key unfit.line.image there);
    image = subst (λ (n : ℕ). length unfit.line.image ≤ n) (sym class) (may.image next.key unfit.line.image there);
    tsn = let before = seen_before start unfit.line.tsn.number (ended unfit.line unfit.is) in let most = may.number in omega (arith, before, most);
  };
  few = let few = may.few in omega (arith, le, few);
})
  where
    there : line_in next.key lines ≡ Some unfit.line.image
    there = sym shows ∙ ap shown_of unfit.is ∙ unfit.present

    class : next.class ≡ classes next.key.area
    class = leads.1 unfit.line.image there
