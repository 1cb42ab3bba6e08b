-- What a barrier gains: only the content is left, so what is known of it holds of all that a crash may leave.
use Rattle.std.proofs.Common.{◌≡◌, ◌≢◌, ℕ, ◌+◌, ◌≤◌, ◌<◌, List, length, Some, None, slice_get, ⊎_elim, sym, ◌∙◌, ap, subst}
use Rattle.journal_reading.specs.rdb_outside.Disk.{Image}
use Rattle.ruj_journal.specs.Entry.{IsEntry}
use Rattle.new_database.specs.aij_journal.declared.part.AijPart.{AijPart}
use Rattle.journal_reading.specs.journal_scan.Standing.{what_stands}
use Rattle.new_database.specs.Maker.{aij_file}
use Rattle.stable_lines.specs.Slots.{ruj_file, line_on, line_at, named, Undo, entry_at}
use Rattle.stable_lines.specs.Journal.{next_number, next_slot, commit_of}
use Rattle.stable_lines.specs.Kept.{FitsClass}
use Rattle.stable_lines.specs.Progress.{Open, Flight, Progress, saved, without, flying, fallen, landed}
use Rattle.stable_lines.specs.Facts.{PendingContents, Only, HasLanded, Facts}
use Rattle.stable_lines.specs.Steps.{IsReady}
use Rattle.stable_lines.proofs.Saving.{saves}
use Rattle.stable_lines.proofs.Ending.{undone, no_line_bears, takes_off, falls, lands}

module _ (P : PendingContents) (now : Progress) (image : Image) (only : Only P image) (was : Facts P now) where
  -- an entry stands
  pub entry_stands : (member : ℕ) (o : Open) (undo : Undo) → now.going member ≡ Some o → IsEntry (image (ruj_file member) (length o.entries + 1)) (entry_at o.tsn (length o.entries + 1) undo) → named (image (ruj_file member) 0) ≡ o.tsn.number → ((f : Flight) → now.flight ≡ Some f → f.member ≢ member) → Facts P (saved member o undo now)
  entry_stands member o undo is entry names apart = saves P now member o undo is was (λ x p. subst (λ (z : List ℕ). IsEntry z (entry_at o.tsn (length o.entries + 1) undo)) (sym (only _ _ x p)) entry) (λ h p. ap named (only _ _ h p) ∙ names) apart

  -- the lines and the slots of a group stand
  pub group_stands : (f : Flight) → now.flight ≡ None → now.former ≡ None → IsReady now image f → Facts P (flying f now)
  group_stands f no_flight no_former ready = takes_off P now f no_flight no_former (record {
    transaction = ready.transaction;
    is_open = ready.is_open;
    tsn = ready.tsn;
    whole = ready.whole;
    stand = λ i what x lt got p. ap what_stands (only _ _ x p) ∙ ready.stand i what lt got;
    changed = ready.changed;
    landed = λ i line x got p. subst (λ (z : List ℕ). HasLanded f.group line (line_on line.key z)) (sym (only _ _ x p)) (ready.landed i line got);
    class = λ key bytes x got p. subst (λ (z : List ℕ). FitsClass z (f.classes key.area) bytes) (sym (only _ _ x p)) (ready.class key bytes got);
  }) was

  -- its commit slot stands
  pub commit_stands : (f : Flight) → now.flight ≡ Some f → what_stands (image aij_file (next_slot now.journal + length f.group.lines)) ≡ commit_of f.group → Facts P (landed f now)
  commit_stands f is there = lands P now f is (λ x p. ap what_stands (only _ _ x p) ∙ there) was

  -- it doesn't
  pub commit_lost : (f : Flight) → now.flight ≡ Some f → what_stands (image aij_file (next_slot now.journal + length f.group.lines)) ≢ commit_of f.group → Facts P (fallen now)
  commit_lost f is lost = falls P now low was
    where
      some_same : {A : Type 0} (a b : A) → Some a ≡ Some b → a ≡ b
      some_same a b same = cc

      low : (slot : ℕ) (x : List ℕ) (part : AijPart) → 1 ≤ slot → P aij_file slot x → what_stands x ≡ Some part → part.line ≡ None → part.number < next_number now.journal
      low slot x part le p there none = ⊎_elim (λ lt. lt) (λ fly.
          let this : fly.flight ≡ f = some_same _ _ (sym fly.is ∙ is) in
          let place : next_slot now.journal + length f.group.lines ≡ slot = ap (λ (g : Flight). next_slot now.journal + length g.group.lines) (sym this) ∙ sym fly.in_place in
          absurd (lost (ap (λ n. what_stands (image aij_file n)) place ∙ ap what_stands (sym (only _ _ x p)) ∙ there ∙ fly.is_commit ∙ ap (λ (g : Flight). commit_of g.group) this))) (was.journal.commits slot x part le p there none)

  -- a transaction is undone on its pages
  pub lines_undone : (member : ℕ) (o : Open) → now.going member ≡ Some o → ((f : Flight) → now.flight ≡ Some f → f.member ≢ member) → ((i : ℕ) (undo : Undo) → slice_get o.entries i ≡ Some undo → (line_at image undo.key).tsn.number ≢ o.tsn.number) → Facts P (without member now)
  lines_undone member o is apart back = undone P now member o is (no_line_bears P now member o is was (λ i undo x got p. subst (λ (z : List ℕ). (line_on undo.key z).tsn.number ≢ o.tsn.number) (sym (only _ _ x p)) (back i undo got))) apart was
