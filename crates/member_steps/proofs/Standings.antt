-- The committed line of a key.
use Rattle.std.proofs.Common.{◌≡◌, ℕ, ◌+◌, Some, slice_get, ⊎_elim, ap, sym, ◌∙◌, refl}
use Rattle.rdb_types.specs.declared.keys.Dbkey.{Dbkey}
use Rattle.rdb_types.specs.declared.keys.Tsn.{Tsn}
use Rattle.rdb_outside.specs.Disk.{View, LeftNow, Pending}
use Rattle.rdb_outside.specs.Moments.{each_slot}
use Rattle.line_view.specs.Knowledge.{line_in}
use Rattle.line_versions.specs.Lines.{shown}
use Rattle.disk_seats.specs.stable_lines.Slots.{ruj_file, file_of, slot_of, line_at}
use Rattle.disk_seats.specs.stable_lines.Progress.{Open, Progress}
use Rattle.disk_seats.specs.stable_lines.Facts.{IsNotOpen, IsChanged}
use Rattle.stable_lines.proofs.Turns.{some_same}
use Rattle.disk_seats.specs.Ledgers.{Ledger, progress_of}
use Rattle.disk_seats.specs.Members.{LedgerFacts}
use Rattle.disk_seats.proofs.Progresses.{shape_of, same_going}
use Rattle.member_steps.specs.Standing.{IsBefore}

pub same_lines : (v : View) (g : Ledger) → LedgerFacts v g → (progress_of g).lines ≡ g.base.lines
same_lines v g was = ⊎_elim (λ e. ap (λ (p : Progress). p.lines) e) (λ up. ap (λ (p : Progress). p.lines) up.now_is) (shape_of v g was)

module _ (v : View) (left : LeftNow v v.content) (g : Ledger) (was : LedgerFacts v g) (key : Dbkey) where
  here : Pending v (file_of key) (slot_of key) (v.content (file_of key) (slot_of key))
  here = each_slot v v.content left (file_of key) (slot_of key)

  pub stands_committed : IsNotOpen g.base (line_at v.content key).tsn.number → shown (line_at v.content key) ≡ line_in key g.base.lines
  stands_committed closed = ⊎_elim
      (λ c. c.shows ∙ ap (λ l. line_in key l) (same_lines v g was))
      (λ c. absurd (closed c.member c.transaction (sym (same_going v g was c.member) ∙ c.is_open) (ap (λ (t : Tsn). t.number) c.tsn)))
      (was.facts.line key (v.content (file_of key) (slot_of key)) here)

  pub stands_changed : (member : ℕ) (o : Open) → g.base.going member ≡ Some o → (line_at v.content key).tsn.number ≡ o.tsn.number → IsBefore v.content g.base.lines member o key
  stands_changed member o is bears = ⊎_elim
      (λ c. absurd (c.not_open member o (same_going v g was member ∙ is) bears))
      by_change
      (was.facts.line key (v.content (file_of key) (slot_of key)) here)
    where
      by_change : IsChanged (Pending v) (progress_of g) key (line_at v.content key) → IsBefore v.content g.base.lines member o key
      by_change c =
          let opened = was.facts.going member o (same_going v g was member ∙ is) in
          let its : c.member ≡ member = opened.alone c.member c.transaction c.is_open (sym (ap (λ (t : Tsn). t.number) c.tsn) ∙ bears) in
          let same : c.transaction ≡ o = some_same c.transaction o (sym c.is_open ∙ (ap (λ (m : ℕ). (progress_of g).going m) its ∙ (same_going v g was member ∙ is))) in
          let got : slice_get o.entries c.index ≡ Some (record { key = key; before = c.before }) = ap (λ (p : Open). slice_get p.entries c.index) (sym same) ∙ c.entry in
          record {
            index = c.index;
            undo = record { key = key; before = c.before };
            is = got;
            key_is = refl;
            entry = opened.entry c.index (record { key = key; before = c.before }) (v.content (ruj_file member) (c.index + 1)) got (each_slot v v.content left (ruj_file member) (c.index + 1));
            shows = c.committed.shows ∙ ap (λ l. line_in key l) (same_lines v g was);
          }
