-- What a seat holds while others write.
use Rattle.std.proofs.Common.{◌≡◌, ◌≢◌, ℕ, ◌+◌, ◌≤◌, List, [], Some, None, slice_get, ◌⊎◌, inl, ⊎_elim, ap, sym, subst, ◌∙◌, arith, refl, IsTrue}
use Rattle.rdb_types.specs.declared.file.FileId.{FileId}
use Rattle.rdb_types.specs.declared.file.FileKind.TheVariants.{Ruj}
use Rattle.rdb_outside.specs.Disk.{View, Pending, Keeps, OnlyReads}
use Rattle.ruj_journal.specs.Entry.{IsEntry}
use Rattle.line_moves.specs.stable_lines.Slots.{ruj_file, named, IsMember, Undo, entry_at}
use Rattle.line_moves.specs.stable_lines.Progress.{Open, Progress, begun}
use Rattle.line_moves.specs.stable_lines.Facts.{HasEnded, Facts}
use Rattle.line_moves.proofs.of_stable_lines.Turns.{going_here}
use Rattle.line_moves.proofs.of_stable_lines.Written.{none_written}
use Rattle.line_moves.specs.Calls.{OnlyWrites}
use Rattle.line_moves.proofs.Putting.{nat_cases}
use Rattle.line_seat.specs.Seats.{SeatFacts}

pub same_member : (a b : ℕ) → ruj_file a ≡ ruj_file b → a ≡ b
same_member a b same = ap (λ (f : FileId). f.number) same

-- its own journal is as it was, and what had ended has ended still
pub seat_stays : (v w : View) (now : Progress) (s : ℕ) (o : Open) (all : List Undo) (n : ℕ)
    → ((i : ℕ) (x : List ℕ) → Pending w (ruj_file s) i x → Pending v (ruj_file s) i x)
    → ((i : ℕ) → w.content (ruj_file s) i ≡ v.content (ruj_file s) i)
    → ((i : ℕ) (undo : Undo) → slice_get all i ≡ Some undo → HasEnded (Pending w) now undo.before.tsn.number)
    → SeatFacts v now s o all n → SeatFacts w now s o all n
seat_stays v w now s o all n own same ended was = record {
  is_open = was.is_open;
  none_stands = was.none_stands;
  counted = was.counted;
  written = record { rest = was.written.rest; front = was.written.front; written = λ i x e one q read tsn. was.written.written i x e one (own i x q) read tsn; distinct = was.written.distinct };
  not_flying = was.not_flying;
  names = λ some. ap named (same 0) ∙ was.names some;
  stand = λ i undo got. subst (λ (x : List ℕ). IsEntry x (entry_at o.tsn (i + 1) undo)) (sym (same (i + 1))) (was.stand i undo got);
  headed = λ h one q. was.headed h one (own 0 h q);
  sure = λ i undo x lt got q. was.sure i undo x lt got (own (i + 1) x q);
  before = λ i undo got. let b = was.before i undo got in record { committed = record { shows = b.committed.shows; ended = ended i undo got; not_open = b.committed.not_open }; below = b.below; free = b.free; within = b.within };
}

-- where no header is added, what had ended has ended still
still_ended : (v w : View) (now : Progress) → ((m : ℕ) (h : List ℕ) → Pending w (ruj_file m) 0 h → Pending v (ruj_file m) 0 h) → (tsn : ℕ) → HasEnded (Pending v) now tsn → HasEnded (Pending w) now tsn
still_ended v w now headers tsn was m h is le q n = was m h is le (headers m h q) n

pub stays_reads : (v w : View) → IsTrue v.tells → OnlyReads v w → (now : Progress) (s : ℕ) (o : Open) (all : List Undo) (n : ℕ) → SeatFacts v now s o all n → SeatFacts w now s o all n
stays_reads v w t reads now s o all n was = seat_stays v w now s o all n (λ i x q. keeps.pending (ruj_file s) i x q) (λ i. keeps.content (ruj_file s) i)
    (λ i undo got. still_ended v w now (λ m h q. keeps.pending (ruj_file m) 0 h q) undo.before.tsn.number (was.before i undo got).committed.ended) was
  where
    keeps : Keeps v w
    keeps = reads.keeps t

pub stays_aside : (v w : View) (file : FileId) (slot : ℕ) → IsTrue v.tells → file.kind ≢ Ruj → OnlyWrites file slot v w → (now : Progress) (s : ℕ) (o : Open) (all : List Undo) (n : ℕ) → SeatFacts v now s o all n → SeatFacts w now s o all n
stays_aside v w file slot t other rest now s o all n was = seat_stays v w now s o all n (λ i x q. mine s i x q) (λ i. rest.content t (ruj_file s) i (λ same at. off s same))
    (λ i undo got. still_ended v w now (λ m h q. mine m 0 h q) undo.before.tsn.number (was.before i undo got).committed.ended) was
  where
    off : (m : ℕ) → ruj_file m ≢ file
    off m same = other (sym (ap (λ (f : FileId). f.kind) same))

    mine : (m i : ℕ) (x : List ℕ) → Pending w (ruj_file m) i x → Pending v (ruj_file m) i x
    mine m i x q = rest.pending t (ruj_file m) i x (λ same at. off m same) q

module _ (v w : View) (other slot : ℕ) (t : IsTrue v.tells) (rest : OnlyWrites (ruj_file other) slot v w) (now : Progress) (s : ℕ) (o : Open) (all : List Undo) (n : ℕ) (apart : other ≢ s) (was : SeatFacts v now s o all n) where
  own : (i : ℕ) (x : List ℕ) → Pending w (ruj_file s) i x → Pending v (ruj_file s) i x
  own i x q = rest.pending t (ruj_file s) i x (λ same at. apart (sym (same_member s other same))) q

  same : (i : ℕ) → w.content (ruj_file s) i ≡ v.content (ruj_file s) i
  same i = rest.content t (ruj_file s) i (λ same at. apart (sym (same_member s other same)))

  pub stays_beside : 1 ≤ slot → SeatFacts w now s o all n
  stays_beside le = seat_stays v w now s o all n own same
      (λ i undo got. still_ended v w now (λ m h q. rest.pending t (ruj_file m) 0 h (λ e at. let z : 0 ≡ slot = at in omega (arith, z, le)) q) undo.before.tsn.number (was.before i undo got).committed.ended) was

  -- a header that names a number, which no before-image bears
  pub stays_headed : (number : ℕ) → ((h : List ℕ) → Pending w (ruj_file other) 0 h → Pending v (ruj_file other) 0 h ⊎ (named h ≡ number)) → slot ≡ 0 → ((i : ℕ) (undo : Undo) → slice_get all i ≡ Some undo → 1 ≤ undo.before.tsn.number → undo.before.tsn.number ≢ number) → SeatFacts w now s o all n
  stays_headed number headers at none = seat_stays v w now s o all n own same (λ i undo got. ended undo.before.tsn.number (none i undo got) (was.before i undo got).committed.ended) was
    where
      ended : (tsn : ℕ) → (1 ≤ tsn → tsn ≢ number) → HasEnded (Pending v) now tsn → HasEnded (Pending w) now tsn
      ended tsn off before m h is le q n = ⊎_elim (λ p. before m h is le p n) (λ bad. absurd (off le (sym n ∙ bad))) (either m h q)
        where
          either : (m : ℕ) (h : List ℕ) → Pending w (ruj_file m) 0 h → Pending v (ruj_file m) 0 h ⊎ (named h ≡ number)
          either m h q = ⊎_elim (λ (here : m ≡ other). subst (λ (k : ℕ). Pending v (ruj_file k) 0 h ⊎ (named h ≡ number)) (sym here) (headers h (subst (λ (k : ℕ). Pending w (ruj_file k) 0 h) here q)))
              (λ away. inl (rest.pending t (ruj_file m) 0 h (λ e z. away (same_member m other e)) q)) (nat_cases m other)

-- ---- the beginning

pub seat_begins : (v : View) (now : Progress) (member : ℕ) → Facts (Pending v) now → IsMember member → now.going member ≡ None → SeatFacts v (begun member now) member (record { tsn = record { number = now.next_tsn }; entries = [] }) [] 0
seat_begins v now member was is idle = record {
  is_open = going_here (record now { next_tsn = now.next_tsn + 1 }) member (Some (record { tsn = record { number = now.next_tsn }; entries = [] }));
  none_stands = refl;
  counted = omega arith;
  written = none_written (Pending v) now member is was;
  not_flying = λ f flies same. no_transaction (was.flight f flies).transaction (sym (ap (λ (m : ℕ). now.going m) same ∙ idle) ∙ (was.flight f flies).is_open);
  names = λ some. absurd (omega (arith, some));
  stand = λ i undo got. absurd (nothing i undo got);
  headed = λ h one q. absurd (omega (arith, one));
  sure = λ i undo x lt got q. absurd (omega (arith, lt));
  before = λ i undo got. absurd (nothing i undo got);
}
  where
    nothing : (i : ℕ) (undo : Undo) → slice_get [] i ≡ Some undo → ⊥
    nothing i undo is = cc

    no_transaction : (p : Open) → None ≡ Some p → ⊥
    no_transaction p is = cc
