-- A new database is kept, and stands for no lines.
use Rattle.std.proofs.Common.{◌≡◌, ℕ, zero, suc, ◌+◌, ◌-◌, ◌≤◌, List, [], ◌∷◌, length, replicate, drop, Option, Some, None, inl, inr, refl, sym, ◌∙◌, ap, subst, arith}
use Rattle.rdb_types.specs.declared.file.FileId.{FileId}
use Rattle.rdb_types.specs.declared.file.FileKind.TheVariants.{Root, Area, Ruj, Aij}
use Rattle.rdb_types.specs.declared.keys.Dbkey.{Dbkey}
use Rattle.rdb_types.specs.declared.keys.Limits.{Limits}
use Rattle.rdb_types.specs.declared.keys.Line.{Line}
use Rattle.rdb_types.specs.File.{slot_bytes}
use Rattle.journal_reading.specs.rdb_outside.Disk.{Image, zeros}
use Rattle.byteorder.specs.Endian.{little_from}
use Rattle.slot_fields.specs.Fields.{number_at}
use Rattle.slot_fields.proofs.Laws.{word_not_zeros}
use Rattle.ruj_journal.specs.rdb_page.Lines.{never}
use Rattle.ruj_journal.specs.declared.entry.RujEntry.{RujEntry}
use Rattle.ruj_journal.specs.Entry.{IsEntry}
use Rattle.new_database.specs.aij_journal.declared.part.AijPart.{AijPart}
use Rattle.new_database.specs.aij_journal.Part.{IsPart}
use Rattle.journal_reading.specs.journal_scan.Standing.{what_stands}
use Rattle.journal_reading.specs.journal_scan.Whole.{Holds}
use Rattle.journal_reading.proofs.of_journal_scan.Stands.{stands}
use Rattle.new_database.specs.New.{new_root, IsNewDatabase}
use Rattle.new_database.specs.Maker.{aij_file}
use Rattle.stable_lines.specs.Slots.{ruj_file, area_file, slot_of, owner_at, line_at, named}
use Rattle.stable_lines.specs.Journal.{commit_of}
use Rattle.stable_lines.specs.Image.{as_it_stands}
use Rattle.stable_lines.specs.Kept.{Kept, HasNoCommit}
use Rattle.stable_lines.proofs.Never.{nothing_on, zeros_owner, little_zeros, zero_behind}
use Rattle.stable_lines.proofs.Groups.{commit_last}

length_zeros : (n : ℕ) → length (replicate {A = ℕ} n 0) ≡ n
length_zeros zero = refl
length_zeros (suc n) = let rest = length_zeros n in omega (arith, rest)

-- zeros, by their own length
its_zeros : (x : List ℕ) (n : ℕ) → x ≡ replicate n 0 → x ≡ replicate (length x) 0
its_zeros x n is = is ∙ ap (λ k. replicate {A = ℕ} k 0) (sym (ap (λ (l : List ℕ). length l) is ∙ length_zeros n))

pub named_none : (x : List ℕ) (n : ℕ) → x ≡ replicate n 0 → named x ≡ 0
unfolding named number_at
named_none x n is = ap (λ (l : List ℕ). little_from 0 8 (drop 4 l)) is ∙ little_zeros 0 8 (drop 4 (replicate n 0)) (zero_behind 4 n)

pub no_part : (x : List ℕ) (n : ℕ) → x ≡ replicate n 0 → (part : AijPart) → what_stands x ≡ Some part → ⊥
no_part x n is part there = let p : IsPart x part = subst (λ (w : Option AijPart). Holds x w) there (stands x) in word_not_zeros x n 64 (73 ∷ 74 ∷ 76 ∷ []) is p.fields.0

no_entry : (x : List ℕ) (n : ℕ) → x ≡ replicate n 0 → (e : RujEntry) → IsEntry x e → ⊥
no_entry x n is e there = word_not_zeros x n 81 (85 ∷ 74 ∷ 69 ∷ []) is there.fields.0

module _ (limits : Limits) (image : Image) (new : IsNewDatabase limits image) where
  area : (f i : ℕ) → image (area_file f) i ≡ zeros (area_file f)
  area f i = new.rest (area_file f) i (λ same at. let k : Area ≡ Root = ap (λ (g : FileId). g.kind) same in cc) (λ same at. let k : Area ≡ Aij = ap (λ (g : FileId). g.kind) same in cc)

  area_zeros : (f i : ℕ) → image (area_file f) i ≡ replicate (length (image (area_file f) i)) 0
  area_zeros f i = its_zeros _ (slot_bytes (area_file f)) (area f i)

  ruj : (m i : ℕ) → image (ruj_file m) i ≡ zeros (ruj_file m)
  ruj m i = new.rest (ruj_file m) i (λ same at. let k : Ruj ≡ Root = ap (λ (g : FileId). g.kind) same in cc) (λ same at. let k : Ruj ≡ Aij = ap (λ (g : FileId). g.kind) same in cc)

  aij : (i : ℕ) → 1 ≤ i → image aij_file i ≡ zeros aij_file
  aij i le = new.rest aij_file i (λ same at. let k : Aij ≡ Root = ap (λ (g : FileId). g.kind) same in cc) (λ same at. omega (arith, le, at))

  none : (key : Dbkey) → line_at image key ≡ never
  none key = nothing_on key _ (zeros_owner _ (area_zeros _ (slot_of key)))

  number_none : (key : Dbkey) → (line_at image key).tsn.number ≡ 0
  number_none key = ap (λ (l : Line). l.tsn.number) (none key)

  no_commit : HasNoCommit image 1
  no_commit slot part le there line = absurd (no_part _ (slot_bytes aij_file) (aij slot le) part there)

  pub fresh : (classes : ℕ → ℕ) → Kept classes [] (record { first = 1; groups = [] }) image
  fresh classes = record {
    root = new_root limits;
    is_root = record { is = new.root; state = inl refl; restored = λ three member is. let bad : 1 ≡ 3 = three in absurd (omega (arith, bad)) };
    journal = record { header = new.header; whole = tt; stand = λ i what got. let bad : None ≡ Some what = got in absurd (cc); no_more = λ g whole at. no_part _ (slot_bytes aij_file) (aij (1 + length g.lines) (omega arith)) _ (at (length g.lines) (commit_of g) (commit_last g)) };
    commits = no_commit;
    stands = record { in_order = refl; each = λ key. record { line = never; is = as_it_stands (λ member is le n. absurd (let zero_is : (line_at image key).tsn.number ≡ 0 = number_none key in omega (arith, le, zero_is))) (sym (none key)); shows = refl } };
    class = λ key b got. let bad : None ≡ Some b = got in absurd (cc);
    undone = λ key member bears. absurd (let zero_is : (line_at image key).tsn.number ≡ 0 = number_none key in let le = bears.number in omega (arith, le, zero_is));
    alone = λ a b is_a is_b le same. absurd (let zero_is : named (image (ruj_file a) 0) ≡ 0 = named_none _ (slot_bytes (ruj_file a)) (ruj a 0) in omega (arith, le, zero_is));
    well_formed = record {
      page = λ file number is plain. inl (area_zeros file (number - 1));
      space = λ file number is page space. record { page = space; bytes = inl (area_zeros file (number - 1)) };
      header = λ member is. (None, inr (its_zeros _ (slot_bytes (ruj_file member)) (ruj member 0), refl));
      owner = λ file number is plain owned. absurd (let zero_is : owner_at (image (area_file file) (number - 1)) ≡ 0 = zeros_owner _ (area_zeros file (number - 1)) in omega (arith, owned, zero_is));
      past = λ file slot is le lt. area file slot;
    };
    below = record {
      line = λ key. let zero_is : (line_at image key).tsn.number ≡ 0 = number_none key in omega (arith, zero_is);
      header = λ member is. let zero_is : named (image (ruj_file member) 0) ≡ 0 = named_none _ (slot_bytes (ruj_file member)) (ruj member 0) in omega (arith, zero_is);
      entry = λ member slot e is le there. absurd (no_entry _ (slot_bytes (ruj_file member)) (ruj member slot) e there);
      group = λ i g got. let bad : None ≡ Some g = got in absurd (cc);
    };
  }
