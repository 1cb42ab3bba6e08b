-- What is held rests on the journals, whatever stands in the area files.
use Rattle.std.proofs.Common.{◌≡◌, ℕ, ◌+◌, List, Option, Some, None, length, sym, ap, subst, ◌∙◌}
use Rattle.rdb_types.specs.declared.keys.Dbkey.{Dbkey}
use Rattle.rdb_types.specs.declared.keys.Tsn.{Tsn}
use Rattle.rdb_types.specs.declared.keys.Line.{Line}
use Rattle.rdb_outside.specs.Disk.{Image}
use Rattle.ruj_journal.specs.Entry.{IsEntry}
use Rattle.journal_scan.specs.declared.group.Group.{Group}
use Rattle.stable_lines.specs.Slots.{ruj_file, named, Undo, entry_at}
use Rattle.stable_lines.specs.Image.{HasEntries}
use Rattle.line_opening.specs.Headers.{open_in}
use Rattle.before_images.specs.declared.lines.OpenTransaction.{OpenTransaction}
use Rattle.before_images.specs.Before.{BeforeIs, HasOtherFiles}
use Rattle.before_images.specs.Open.{AreOpen}
use Rattle.before_images.proofs.Laid.{IsHeld, of_none, of_one, AreHeld}

module _ (image other : Image) (same : HasOtherFiles image other) where
  journal : (member slot : ℕ) → other (ruj_file member) slot ≡ image (ruj_file member) slot
  journal member slot = same (ruj_file member) slot (λ is. let no : ⊥ = cc in no)

  entries : (member : ℕ) (tsn : Tsn) (undos : List Undo) → HasEntries image member tsn undos → HasEntries other member tsn undos
  entries member tsn undos has i undo there = subst (λ (slot : List ℕ). IsEntry slot (entry_at tsn (i + 1) undo)) (sym (journal member (i + 1))) (has i undo there)

  entries_back : (member : ℕ) (tsn : Tsn) (undos : List Undo) → HasEntries other member tsn undos → HasEntries image member tsn undos
  entries_back member tsn undos has i undo there = subst (λ (slot : List ℕ). IsEntry slot (entry_at tsn (i + 1) undo)) (journal member (i + 1)) (has i undo there)

  before : (member : ℕ) (tsn : Tsn) (key : Dbkey) (o : Option Line) → BeforeIs image member tsn key o → BeforeIs other member tsn key o
  before member tsn key None none = λ undos has. none undos (entries_back member tsn undos has)
  before member tsn key (Some line) is = record {
    earlier = is.earlier;
    others = is.others;
    stand = entries member tsn is.earlier is.stand;
    here = subst (λ (slot : List ℕ). IsEntry slot (entry_at tsn (length is.earlier + 1) (record { key = key; before = line }))) (sym (journal member (length is.earlier + 1))) is.here;
  }

  held_so : (numbers : List ℕ) (end : ℕ) (held : List OpenTransaction) (tsn : Tsn) → IsHeld image numbers end held tsn → IsHeld other numbers end held tsn
  held_so numbers end held tsn (of_none none not_held) = of_none none not_held
  held_so numbers end held tsn (of_one member some first has is) = of_one member some first has (λ key. before member tsn key _ (is key))

  pub are_held : (numbers : List ℕ) (end : ℕ) (held : List OpenTransaction) → AreHeld image numbers end held → AreHeld other numbers end held
  are_held numbers end held are tsn = held_so numbers end held tsn (are tsn)

  pub are_open : (groups : List Group) (numbers : List ℕ) → AreOpen image groups numbers → AreOpen other groups numbers
  are_open groups numbers are member is = are member is ∙ ap (λ (slot : List ℕ). open_in groups (named slot)) (sym (journal member 0))
