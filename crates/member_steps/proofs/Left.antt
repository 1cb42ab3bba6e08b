-- What a crash may leave, by the ledger.
use Rattle.std.proofs.Common.{◌≡◌, Some, None, inl, inr, ⊎_elim, ap, sym, subst, ◌∙◌}
use Rattle.rdb_outside.specs.Disk.{View, Image, LeftNow, Pending}
use Rattle.rdb_outside.specs.Moments.{each_slot}
use Rattle.line_view.specs.Knowledge.{Lines}
use Rattle.disk_seats.specs.stable_lines.Kept.{Kept}
use Rattle.disk_seats.specs.stable_lines.Progress.{Progress, lines_with, journal_with}
use Rattle.disk_seats.specs.stable_lines.Facts.{StandsAs, as_committed, with_former, with_flight}
use Rattle.stable_lines.proofs.Stands.{stands}
use Rattle.stable_lines.proofs.Turns.{some_same}
use Rattle.disk_seats.specs.Ledgers.{Ledger, progress_of}
use Rattle.disk_seats.specs.Members.{LedgerFacts}
use Rattle.disk_seats.proofs.Progresses.{shape_of, same_former}
use Rattle.member_steps.specs.Standing.{MayBeLeft}
use Rattle.member_steps.proofs.Standings.{same_lines}

module _ (v : View) (g : Ledger) (was : LedgerFacts v g) (image : Image) where
  pub by_case : StandsAs (progress_of g) image → MayBeLeft g image
  by_case (as_committed kept) = inl (record { classes = (progress_of g).classes; journal = (progress_of g).journal; kept = subst (λ (l : Lines). Kept (progress_of g).classes l (progress_of g).journal image) (same_lines v g was) kept })
  by_case (with_former j is kept) = let bad : None ≡ Some j = sym (same_former v g was ∙ was.settled) ∙ is in absurd (cc)
  by_case (with_flight f is kept) = ⊎_elim
      (λ still. let bad : None ≡ Some f = sym (ap (λ (p : Progress). p.flight) still ∙ was.quiet) ∙ is in absurd (cc))
      (λ up.
      let same : f ≡ up.its.flight = some_same f up.its.flight (sym is ∙ ap (λ (p : Progress). p.flight) up.now_is) in
      let lines : lines_with (progress_of g) f ≡ lines_with g.base up.its.flight = (λ i. lines_with (up.now_is i) (same i)) in
      inr (up.its, up.is, record { classes = f.classes; journal = journal_with (progress_of g) f; kept = subst (λ (l : Lines). Kept f.classes l (journal_with (progress_of g) f) image) lines kept }))
      (shape_of v g was)

  pub may_be_left : LeftNow v image → MayBeLeft g image
  may_be_left left = by_case (stands (Pending v) (progress_of g) was.facts image (each_slot v image left))
