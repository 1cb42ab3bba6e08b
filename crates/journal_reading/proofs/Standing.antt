-- Reading a file slot by slot. The zeros at its end hold no group.
use Rattle.std.proofs.Common.{◌≡◌, ℕ, zero, suc, ◌+◌, ◌-◌, ◌≤◌, List, [], ◌∷◌, ◌++◌, add-zero, zero-add, replicate, length, Option, None, refl, sym, ◌∙◌, ap, subst, inl, inr, IsTrue, arith}
use Rattle.std.specs.List.{flat_map}
use Rattle.std.proofs.lemmas.Bool.{cases_lt}
use Rattle.rdb_outside.specs.rdb_types.declared.file.FileId.{FileId}
use Rattle.rdb_outside.specs.rdb_types.File.{slot_bytes}
use Rattle.rdb_outside.specs.Disk.{Image, View, OnlyReads}
use Rattle.journal_scan.specs.aij_journal.declared.part.AijPart.{AijPart}
use Rattle.journal_scan.specs.aij_journal.Part.{IsPart}
use Rattle.journal_scan.proofs.of_slot_fields.Laws.{word_not_zeros}
use Rattle.journal_scan.specs.declared.scan.Scan.{Scan}
use Rattle.journal_scan.specs.declared.scan.Stage.TheVariants.{Between, Within, Ended}
use Rattle.journal_scan.specs.declared.scan.Stage.{Stage}
use Rattle.journal_scan.specs.declared.scan.Turn.TheVariants as turn
use Rattle.journal_scan.specs.Whole.{slots_of, AreGroups}
use Rattle.journal_scan.specs.Reading.{begins_at, ended, read_all, read, turn_at}
use Rattle.journal_scan.specs.Standing.{what_stands}
use Rattle.journal_scan.proofs.Stands.{only_stands}
use Rattle.journal_scan.proofs.Steps.{in_pieces, end_stays}
use Rattle.journal_scan.proofs.Groups as found
use Rattle.journal_reading.specs.Journal.{EndsBy, standing, IsReadUpTo}

-- a scan found as much as another, wherever it ended
pub record FindsAs (a b : Scan) : Type 0 where
  pub groups : a.groups ≡ b.groups
  pub slot : a.next_slot ≡ b.next_slot
  pub number : a.next_number ≡ b.next_number

turned : (a b : Scan) → FindsAs a b → FindsAs b a
turned a b finds = record { groups = sym finds.groups; slot = sym finds.slot; number = sym finds.number }

no_part : (part : AijPart) → IsPart (replicate 512 0) part → ⊥
no_part part is = word_not_zeros (replicate 512 0) 512 64 (73 ∷ 74 ∷ 76 ∷ []) refl is.fields.0

pub nothing_stands : what_stands (replicate 512 0) ≡ None
nothing_stands = sym (only_stands (replicate 512 0) None no_part)

-- a scan that wants no more ended
pub stage_ended : (stage : Stage) → turn_at stage ≡ turn.Ended → stage ≡ Ended
stage_ended Ended is = refl
stage_ended Between is = absurd (let bad : ⊥ = cc in bad)
stage_ended (Within b) is = absurd (let bad : ⊥ = cc in bad)

module _ (image : Image) (file : FileId) where
  abbrev stand : ℕ → ℕ → List (Option AijPart)
  stand = standing image file

  pub stand-more : (slot count k : ℕ) → stand slot (count + k) ≡ stand slot count ++ stand (slot + count) k
  stand-more slot zero k = ap (stand slot) (zero-add k) ∙ ap (λ s. stand s k) (sym (add-zero slot))
  stand-more slot (suc count) k =
      let next : slot + 1 + count ≡ slot + suc count = omega arith in
      let long : suc count + k ≡ suc (count + k) = omega arith in
      ap (stand slot) long
      ∙ ap (λ rest. what_stands (image file slot) ∷ rest) (stand-more (slot + 1) count k ∙ ap (λ s. stand (slot + 1) count ++ stand s k) next)

  -- one slot more was read
  pub read_next : (first number : ℕ) (slot : List ℕ) (scan new : Scan) → 1 ≤ number
      → scan ≡ read_all (begins_at 1 first) (stand 1 (number - 1)) → slot ≡ image file number → new ≡ read scan (what_stands slot)
      → new ≡ read_all (begins_at 1 first) (stand 1 number)
  read_next first number slot scan new behind so_far bytes taken =
      let start : Scan = begins_at 1 first in
      let before : ℕ = number - 1 in
      let at : 1 + before ≡ number = omega (arith, behind) in
      let long : number ≡ before + 1 = omega (arith, behind) in
      taken
      ∙ (λ i. read (so_far i) (what_stands (bytes i)))
      ∙ ap (λ n. read (read_all start (stand 1 before)) (what_stands (image file n))) (sym at)
      ∙ sym (in_pieces start (stand 1 before) (stand (1 + before) 1))
      ∙ ap (read_all start) (sym (stand-more 1 before 1))
      ∙ ap (λ n. read_all start (stand 1 n)) (sym long)

  -- another image with the same slots
  stand-same : (other : Image) → ((slot : ℕ) → other file slot ≡ image file slot) → (slot count : ℕ) → standing other file slot count ≡ stand slot count
  stand-same other same slot zero = refl
  stand-same other same slot (suc count) = λ i. what_stands (same slot i) ∷ stand-same other same (slot + 1) count i

  pub read_same : (other : Image) (first end : ℕ) (scan : Scan) → ((slot : ℕ) → other file slot ≡ image file slot) → IsReadUpTo other file first end scan → IsReadUpTo image file first end scan
  read_same other first end scan same is = record {
    count = is.count;
    read = is.read ∙ ap (read_all (begins_at 1 first)) (stand-same other same 1 is.count);
    all = is.all;
  }

module _ (image : Image) (file : FileId) (is_journal : slot_bytes file ≡ 512) where
  abbrev stands : ℕ → ℕ → List (Option AijPart)
  stands = standing image file

  -- reading goes on in the zeros behind the end
  pub goes_past : (scan : Scan) (slot count : ℕ) → EndsBy image file slot → FindsAs (read_all scan (stands slot count)) scan
  goes_past scan slot zero ends = record { groups = refl; slot = refl; number = refl }
  goes_past scan slot (suc count) ends =
      let none : what_stands (image file slot) ≡ None = ap what_stands (ends slot (omega arith) ∙ ap (λ n. replicate n 0) is_journal) ∙ nothing_stands in
      let rest = goes_past (ended scan) (slot + 1) count (λ s le. ends s (omega (arith, le))) in
      let same : read_all scan (stands slot (suc count)) ≡ read_all (ended scan) (stands (slot + 1) count) = ap (λ what. read_all (read scan what) (stands (slot + 1) count)) none in
      subst (λ s. FindsAs s scan) (sym same) (record { groups = rest.groups; slot = rest.slot; number = rest.number })

  -- of two readings, the one that goes further does so in the zeros
  pub further : (scan : Scan) (slot count k : ℕ) → EndsBy image file (slot + count) → FindsAs (read_all scan (stands slot (count + k))) (read_all scan (stands slot count))
  further scan slot count k ends =
      let same : read_all scan (stands slot (count + k)) ≡ read_all (read_all scan (stands slot count)) (stands (slot + count) k) =
      ap (read_all scan) (stand-more image file slot count k) ∙ in_pieces scan (stands slot count) (stands (slot + count) k) in
      subst (λ s. FindsAs s (read_all scan (stands slot count))) (sym same) (goes_past (read_all scan (stands slot count)) (slot + count) k ends)

  same_end : (scan : Scan) (slot a b : ℕ) → EndsBy image file (slot + a) → EndsBy image file (slot + b) → FindsAs (read_all scan (stands slot a)) (read_all scan (stands slot b))
  same_end scan slot a b ends others = elim (cases_lt a b) [
    | inl le ↦ let far : a + (b - a) ≡ b = omega (arith, le) in
        turned (read_all scan (stands slot b)) (read_all scan (stands slot a)) (subst (λ n. FindsAs (read_all scan (stands slot n)) (read_all scan (stands slot a))) far (further scan slot a (b - a) ends))
    | inr le ↦ let far : b + (a - b) ≡ a = omega (arith, le) in
        subst (λ n. FindsAs (read_all scan (stands slot n)) (read_all scan (stands slot b))) far (further scan slot b (a - b) others)
  ]

  -- a scan that ended finds no more
  pub ended_before : (scan : Scan) (slot a k : ℕ) → (read_all scan (stands slot a)).stage ≡ Ended → read_all scan (stands slot (a + k)) ≡ read_all scan (stands slot a)
  ended_before scan slot a k end =
      ap (read_all scan) (stand-more image file slot a k)
      ∙ in_pieces scan (stands slot a) (stands (slot + a) k)
      ∙ end_stays (read_all scan (stands slot a)) (stands (slot + a) k) end

  same_found : (scan : Scan) (slot a b : ℕ) → (read_all scan (stands slot a)).stage ≡ Ended → EndsBy image file (slot + b) → FindsAs (read_all scan (stands slot a)) (read_all scan (stands slot b))
  same_found scan slot a b end ends = elim (cases_lt a b) [
    | inl le ↦ let far : a + (b - a) ≡ b = omega (arith, le) in
        let same : read_all scan (stands slot b) ≡ read_all scan (stands slot a) = ap (λ n. read_all scan (stands slot n)) (sym far) ∙ ended_before scan slot a (b - a) end in
        subst (λ s. FindsAs (read_all scan (stands slot a)) s) (sym same) (record { groups = refl; slot = refl; number = refl })
    | inr le ↦ let far : b + (a - b) ≡ a = omega (arith, le) in
        subst (λ n. FindsAs (read_all scan (stands slot n)) (read_all scan (stands slot b))) far (further scan slot b (a - b) ends)
  ]

  module _ (first end : ℕ) (scan : Scan) (is : IsReadUpTo image file first end scan) (ends : EndsBy image file end) where
    -- it found what stands in the slots, as far as any are counted
    finds : (count : ℕ) → EndsBy image file (1 + count) → FindsAs scan (read_all (begins_at 1 first) (stands 1 count))
    finds count zeros_behind =
        let start : Scan = begins_at 1 first in
        let read : FindsAs (read_all start (stands 1 is.count)) (read_all start (stands 1 count)) =
        elim is.all [
          | inl all ↦ same_end start 1 is.count count (λ slot le. ends slot (omega (arith, all, le))) zeros_behind
          | inr stage ↦ same_found start 1 is.count count (ap (λ (s : Scan). s.stage) (sym is.read) ∙ stage) zeros_behind
        ] in
        subst (λ s. FindsAs s (read_all start (stands 1 count))) (sym is.read) read

    pub groups : (count : ℕ) → EndsBy image file (count + 1) → AreGroups first (stands 1 count) scan.groups
    groups count zeros_behind =
        let found_here = finds count (λ slot le. zeros_behind slot (omega (arith, le))) in
        subst (λ gs. AreGroups first (stands 1 count) gs) (sym found_here.groups) (found.are_groups first (stands 1 count))

    pub next_number : scan.next_number ≡ first + length scan.groups
    next_number =
        let same : scan ≡ read_all (begins_at 1 first) (stands 1 is.count) = is.read in
        ap (λ (s : Scan). s.next_number) same
        ∙ found.next_number 1 first (stands 1 is.count)
        ∙ ap (λ (s : Scan). first + length s.groups) (sym same)

    pub next_slot : scan.next_slot ≡ 1 + length (flat_map slots_of scan.groups)
    next_slot =
        let same : scan ≡ read_all (begins_at 1 first) (stands 1 is.count) = is.read in
        ap (λ (s : Scan). s.next_slot) same
        ∙ found.next_slot 1 first (stands 1 is.count)
        ∙ ap (λ (s : Scan). 1 + length (flat_map slots_of s.groups)) (sym same)

-- behind the calls that came before, the scan has what stood in the slots at first
pub record IsRead (old : View) (file : FileId) (first end : ℕ) (scan : Scan) : Type 0 where
  pub up_to : IsReadUpTo old.content file first end scan
  pub ends : EndsBy old.content file end

pub is_read : (old mid new : View) (file : FileId) (first end : ℕ) (scan : Scan) → IsTrue old.tells → OnlyReads old mid → OnlyReads old new
    → (IsTrue mid.tells → EndsBy mid.content file end) → (IsTrue new.tells → IsReadUpTo new.content file first end scan) → IsRead old file first end scan
is_read old mid new file first end scan tells before reads ends read = record {
  up_to = read_same old.content file new.content first end scan ((reads.keeps tells).content file) (read (subst (λ b. IsTrue b) (sym reads.told) tells));
  ends = λ slot le. sym ((before.keeps tells).content file slot) ∙ ends (subst (λ b. IsTrue b) (sym before.told) tells) slot le;
}
