-- An image that the ledger allows stands for lines that may stand.
use Rattle.std.proofs.Common.{◌≡◌, ◌≤◌, ◌-◌, ℕ, Some, inl, inr, ◌⊎◌, ⊎_elim, sym, subst, ◌∙◌}
use Rattle.rdb_outside.specs.Disk.{View, Image, Pending, LeavesOnly, IsPending}
use Rattle.rdb_outside.specs.Moments.{each_slot}
use Rattle.line_view.specs.Knowledge.{Lines}
use Rattle.line_view.specs.Writes.{laid_all}
use Rattle.stable_lines.specs.Journal.{Journal}
use Rattle.stable_lines.specs.Image.{StandsFor}
use Rattle.stable_lines.specs.Progress.{lines_with}
use Rattle.stable_lines.proofs.Stands.{stands}
use Rattle.stable_lines.proofs.Unique.{one_journal, one_lines}
use Rattle.line_store.specs.Shelves.{Shelf}
use Rattle.line_store.specs.Calls.{Lasts, MayStand}
use Rattle.member_steps.specs.disk_seats.Ledgers.{Commit, Ledger, progress_of}
use Rattle.member_steps.specs.disk_seats.Members.{LedgerFacts}
use Rattle.member_steps.specs.Standing.{HasLines}
use Rattle.member_steps.proofs.Left.{by_case}
use Rattle.stable_lines.specs.Slots.{area_file}
use Rattle.line_moves.specs.Classes.{HaveTheirClasses}
use Rattle.store_shows.specs.Shows.{AllOpen, Leaves, OpensTo, ShowsLines}

-- an image stands for one map of lines
same_lines : (image : Image) (a b : Lines) → HasLines image a → HasLines image b → a ≡ b
same_lines image a b x y =
    let journals : x.journal ≡ y.journal = one_journal image x.journal y.journal x.kept.journal y.kept.journal in
    one_lines image y.journal.groups a b (subst (λ (j : Journal). StandsFor image j.groups a) journals x.kept.stands) y.kept.stands

module _ (v : View) (g : Ledger) (h : Shelf) (was : LedgerFacts v g) (shows : ShowsLines v g h) where
  -- an image of pending contents
  pub may_stand : (image : Image) (lines : Lines) → IsPending v image → HasLines image lines → MayStand h lines
  may_stand image lines pending has = ⊎_elim committed flying (by_case v g was image (stands (Pending v) (progress_of g) was.facts image pending))
    where
      committed : HasLines image g.base.lines → MayStand h lines
      committed is = inl (same_lines image lines g.base.lines has is ∙ sym shows.now)

      flying : (c : Commit) × (g.commit ≡ Some c) × HasLines image (lines_with g.base c.flight) → MayStand h lines
      flying up =
          let c = up.0 in let seat = shows.flight c up.1 in
          inr (c.member, seat.writes, seat.under_way, same_lines image lines (lines_with g.base c.flight) has up.2 ∙ seat.laid ∙ (λ i. laid_all seat.writes (sym shows.now i)))

  pub now_stands : (lines : Lines) → Leaves v h.clock.time lines → MayStand h lines
  now_stands lines it = may_stand it.image lines (each_slot v it.image (subst (λ (t : ℕ). v.left_since t it.image) shows.time it.left)) it.stands

-- what a run leaves whose images are of contents that were pending before it or are behind it
pub lasts_with : (v w : View) (old new : Shelf) → old.clock.time ≡ v.moment → LeavesOnly v w (λ image. IsPending v image ⊎ IsPending w image)
    → ((image : Image) (lines : Lines) → IsPending v image → HasLines image lines → MayStand old lines) → ((image : Image) (lines : Lines) → IsPending w image → HasLines image lines → MayStand new lines)
    → Lasts (Leaves v) (Leaves w) old new
lasts_with v w old new time leaves before behind = record {
  since = λ t lines le it. ⊎_elim
      (λ left. inl (record { image = it.image; left = left; stands = it.stands }))
      (λ pending. inr (⊎_elim (λ was. inl (before it.image lines was it.stands)) (λ is. inr (behind it.image lines is it.stands)) pending))
      (leaves.before t it.image (subst (λ (n : ℕ). t ≤ n) time le) it.left);
}

-- an image of pending contents can be opened, where pages have the classes of their areas in each of these
pub pending-opens : (v : View) (g : Ledger) → LedgerFacts v g → (classes : ℕ → ℕ) → HaveTheirClasses classes (Pending v) → (image : Image) → IsPending v image → (lines : Lines) × OpensTo image lines
pending-opens v g was classes lie image pending = ⊎_elim
    (λ (has : HasLines image g.base.lines). (g.base.lines, made g.base.lines has))
    (λ (up : (c : Commit) × (g.commit ≡ Some c) × HasLines image (lines_with g.base c.flight)). (lines_with g.base up.0.flight, made (lines_with g.base up.0.flight) up.2))
    (by_case v g was image (stands (Pending v) (progress_of g) was.facts image pending))
  where
    made : (lines : Lines) → HasLines image lines → OpensTo image lines
    made lines has = record { has = has; by_area = classes; lie = λ file number is page. lie file number (image (area_file file) (number - 1)) is page (pending (area_file file) (number - 1)) }

-- and so can each that a run leaves whose images are of contents that were pending before it or are behind it
pub all-open : (v w : View) (old : Shelf) → old.clock.time ≡ v.moment → LeavesOnly v w (λ image. IsPending v image ⊎ IsPending w image)
    → ((image : Image) → IsPending v image → (lines : Lines) × OpensTo image lines) → ((image : Image) → IsPending w image → (lines : Lines) × OpensTo image lines)
    → (t : ℕ) → t ≤ old.clock.time → AllOpen v t → AllOpen w t
all-open v w old time leaves before behind t le was image left = ⊎_elim (was image) (⊎_elim (before image) (behind image))
    (leaves.before t image (subst (λ (n : ℕ). t ≤ n) time le) left)
